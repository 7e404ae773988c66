use Rattle.std.proofs.Common.{rules, ap, ◌∙◌, subst, sym, true, ◌≡◌}
use Rattle.std.specs.Prelude.{Contains}
use mathlib.Core.List.{IsPrefix}
use Rattle.crossbeam_utils.specs.Seq.{cell_view}
use Rattle.fdb_live.specs.Holding.{own_answers, versions}
use Rattle.fdb_live.specs.Seen.{Sight}
use Rattle.fdb_live.proofs.Reports.{has_reported, member_reported, own_reported}
use Rattle.fdb_live.proofs.Tokens.{issued_taken}
use Rattle.fdb_live.proofs.right.Right.report.Goals as goal

pub report-ack-requires-clause-issued : goal.report-ack-requires-clause-issued
report-ack-requires-clause-issued g c =
    issued_taken (cell_view c.self.inside.pass) c.args.rec c.seen.invariant.3 c.give_all-token.ensures.given.1 c.take.ensures.1 (subst (λ (h : Sight). g.S.Live.chained ≡ true → Contains (versions h.answers) c.args.rec.version) (sym c.seen.view_is) c.requires.drawn)

pub invariant_of-seen : goal.invariant_of-seen
invariant_of-seen g c =
    let all = has_reported c.seen.view_is c.requires.numbered c.requires.taken c.self.invariant.1 c.seen.invariant.2 c.give_all-token.ensures.given.1 c.take.ensures.1 c.report-ack.ensures.reported c.give_lowest.ensures.kept.1 c.give_lowest.ensures.given.1 in
    (search rules, all.position_is, all.holder, member_reported c.seen.invariant.3 all)

pub returns-clause-seen : goal.returns-clause-seen
returns-clause-seen g c =
    let all = has_reported c.seen.view_is c.requires.numbered c.requires.taken c.self.invariant.1 c.seen.invariant.2 c.give_all-token.ensures.given.1 c.take.ensures.1 c.report-ack.ensures.reported c.give_lowest.ensures.kept.1 c.give_lowest.ensures.given.1 in
    all.extends

pub returns-clause-answers : goal.returns-clause-answers
returns-clause-answers g c =
    let all = has_reported c.seen.view_is c.requires.numbered c.requires.taken c.self.invariant.1 c.seen.invariant.2 c.give_all-token.ensures.given.1 c.take.ensures.1 c.report-ack.ensures.reported c.give_lowest.ensures.kept.1 c.give_lowest.ensures.given.1 in
    subst (λ (h : Sight). IsPrefix h.answers (cell_view c.give_lowest.result).chain.seen) c.seen.view_is all.answers

pub returns-clause-own : goal.returns-clause-own
returns-clause-own g c =
    let all = has_reported c.seen.view_is c.requires.numbered c.requires.taken c.self.invariant.1 c.seen.invariant.2 c.give_all-token.ensures.given.1 c.take.ensures.1 c.report-ack.ensures.reported c.give_lowest.ensures.kept.1 c.give_lowest.ensures.given.1 in
    own_reported c.seen.inside.number c.seen.invariant.3 all ∙ ap own_answers c.seen.view_is

pub returns-clause-chain : goal.returns-clause-chain
returns-clause-chain g c =
    let all = has_reported c.seen.view_is c.requires.numbered c.requires.taken c.self.invariant.1 c.seen.invariant.2 c.give_all-token.ensures.given.1 c.take.ensures.1 c.report-ack.ensures.reported c.give_lowest.ensures.kept.1 c.give_lowest.ensures.given.1 in
    (member_reported c.seen.invariant.3 all).legal

pub returns-clause-log : goal.returns-clause-log
returns-clause-log g c =
    let all = has_reported c.seen.view_is c.requires.numbered c.requires.taken c.self.invariant.1 c.seen.invariant.2 c.give_all-token.ensures.given.1 c.take.ensures.1 c.report-ack.ensures.reported c.give_lowest.ensures.kept.1 c.give_lowest.ensures.given.1 in
    all.holder.legal

pub returns-clause-changed : goal.returns-clause-changed
returns-clause-changed g c =
    let all = has_reported c.seen.view_is c.requires.numbered c.requires.taken c.self.invariant.1 c.seen.invariant.2 c.give_all-token.ensures.given.1 c.take.ensures.1 c.report-ack.ensures.reported c.give_lowest.ensures.kept.1 c.give_lowest.ensures.given.1 in
    all.changed_is
