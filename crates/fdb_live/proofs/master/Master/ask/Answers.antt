use Rattle.fdb_live.proofs.Above.{above_each, is_above_read, least_after, least_before, stands_drawn}
use Rattle.fdb_live.proofs.Asked.{decided, drawn_if, extends, has_any, issued_so, next_fresh, none_drawn, stands_any}
use Rattle.fdb_live.proofs.master.Master.ask.Goals as goal

pub returns-clause-extends : goal.returns-clause-extends
returns-clause-extends g c = extends _ _ _ _ _ c.ask.ensures.asked

pub returns-clause-token : goal.returns-clause-token
returns-clause-token g c = λ i. record { reporter = c.ask.ensures.reporter i; changes = c.ask.ensures.changes i; answers = c.ask.new.token.answers }

pub returns-clause-issued : goal.returns-clause-issued
returns-clause-issued g c =
    let drawn = drawn_if _ _ _ _ _ c.ask.ensures.asked c.requires.numbered c.ask.ensures.reporter c.ask.ensures.request c.ask.ensures.log in
    let stands = stands_any c.kept_is_first.ensures.stands c.each_is_next.ensures _ _ _ _ c.ask.ensures.member c.ask.ensures.log _ c.ask.ensures.asked (stands_drawn _ _ _ _ _ drawn) in
    issued_so g.S.Service.start _ _ _ _ c.ask.ensures.request c.ask.ensures.in_range stands (has_any _ _ stands)
    (above_each c.versions_rise.ensures _ _ _ _ c.ask.ensures.log _ drawn)
    (least_before c.versions_rise.ensures _ _ _ _ _ c.ask.ensures.log drawn)
    (is_above_read c.versions_rise.ensures _ _ _ _ c.ask.ensures.log _ _ c.ask.ensures.start drawn)
    (least_after _ _ _ _ _ drawn)

pub returns-clause-due : goal.returns-clause-due
returns-clause-due g c =
    record {
      next = next_fresh c.own_answers_decide.ensures.latest _ _ _ _ c.ask.ensures.member _ c.ask.ensures.asked;
      decided = decided c.own_answers_decide.ensures.latest c.own_answers_decide.ensures.kept _ _ _ _ _ c.ask.ensures.asked;
      own = none_drawn _ _ _ _ _ c.ask.ensures.asked c.requires.numbered c.ask.ensures.reporter;
    }
