use Rattle.std.proofs.Common.{rules, refl, sym, ap, ◌∙◌, subst, ℕ, ◌≡◌, ◌<◌, Option}
use Rattle.std.specs.Prelude.{IsSome}
use Rattle.crossbeam_utils.specs.Seq.{cell_view}
use Rattle.fdb_chain.specs.ChainCore.{new_chain}
use Rattle.fdb_history.specs.Chain.{IsChain}
use Rattle.fdb_live.specs.Holding.{IsAsked}
use Rattle.fdb_live.specs.Seen.{Sight}
use Rattle.fdb_live.specs.private.Token.{IsBelow}
use Rattle.fdb_live.proofs.Tokens.{epoch_is}
use Rattle.fdb_live.proofs.Turned.{Says, legal, drawer-after, token-chain, asked-after}
use Rattle.fdb_live.proofs.right.Drawer.ask.Goals as goal

pub answer-requires-clause-legal : goal.answer-requires-clause-legal
answer-requires-clause-legal g c =
    let asked = c.ask-result.ensures in
    let says : Says g.S.Service.epoch_end g.S.Service.recovery g.S.Service.reporters c.self.inside.core c.ask-result.new.self c.args.ask c.ask-result.result = record { answer = asked.answer; ok = asked.ok; err = asked.err; one_chain = asked.one_chain; request = asked.request } in
    legal g.S.Service.epoch_end g.S.Service.recovery g.S.Service.reporters c.self.inside.core c.ask-result.new.self c.args.ask c.ask-result.result c.drawn-drawn.result (cell_view c.self.inside.pass) (cell_view c.token.inside.pass) (cell_view c.self.inside.pass) (cell_view c.token.inside.pass) c.drawn-drawn.ensures says c.self.invariant.3

pub invariant_of-self : goal.invariant_of-self
invariant_of-self g c =
    let asked = c.ask-result.ensures in
    let says : Says g.S.Service.epoch_end g.S.Service.recovery g.S.Service.reporters c.self.inside.core c.ask-result.new.self c.args.ask c.ask-result.result = record { answer = asked.answer; ok = asked.ok; err = asked.err; one_chain = asked.one_chain; request = asked.request } in
    let known : c.args.ask.proxy < g.S.Service.reporters = subst (λ (number : Option ℕ). IsBelow number g.S.Service.reporters) (ap (λ (h : Sight). h.reporter) c.token.view_is ∙ c.requires.numbered) c.token.invariant.3.below in
    (c.self.invariant.0, c.self.invariant.1, search rules, drawer-after g.S.Service.epoch_end g.S.Service.recovery g.S.Service.reporters c.self.inside.core c.ask-result.new.self c.args.ask c.ask-result.result c.drawn-drawn.result (cell_view c.self.inside.pass) (cell_view c.token.inside.pass) (cell_view c.answer.new.right) (cell_view c.answer.new.token) c.drawn-drawn.ensures says c.self.invariant.3 known c.answer.ensures.served)

pub invariant_of-token : goal.invariant_of-token
invariant_of-token g c =
    let asked = c.ask-result.ensures in
    let says : Says g.S.Service.epoch_end g.S.Service.recovery g.S.Service.reporters c.self.inside.core c.ask-result.new.self c.args.ask c.ask-result.result = record { answer = asked.answer; ok = asked.ok; err = asked.err; one_chain = asked.one_chain; request = asked.request } in
    let one : IsChain g.S.Service.epoch_end g.S.Service.recovery (cell_view c.answer.new.token).chain.seen = token-chain g.S.Service.epoch_end g.S.Service.recovery g.S.Service.reporters c.self.inside.core c.ask-result.new.self c.args.ask c.ask-result.result c.drawn-drawn.result (cell_view c.self.inside.pass) (cell_view c.token.inside.pass) (cell_view c.answer.new.right) (cell_view c.answer.new.token) c.drawn-drawn.ensures says c.self.invariant.3 c.answer.ensures.served in
    search rules

pub returns-clause-log : goal.returns-clause-log
returns-clause-log g c =
    let asked = c.ask-result.ensures in
    let says : Says g.S.Service.epoch_end g.S.Service.recovery g.S.Service.reporters c.self.inside.core c.ask-result.new.self c.args.ask c.ask-result.result = record { answer = asked.answer; ok = asked.ok; err = asked.err; one_chain = asked.one_chain; request = asked.request } in
    token-chain g.S.Service.epoch_end g.S.Service.recovery g.S.Service.reporters c.self.inside.core c.ask-result.new.self c.args.ask c.ask-result.result c.drawn-drawn.result (cell_view c.self.inside.pass) (cell_view c.token.inside.pass) (cell_view c.answer.new.right) (cell_view c.answer.new.token) c.drawn-drawn.ensures says c.self.invariant.3 c.answer.ensures.served

pub returns-clause-epoch : goal.returns-clause-epoch
returns-clause-epoch g c =
    let asked = c.ask-result.ensures in
    let says : Says g.S.Service.epoch_end g.S.Service.recovery g.S.Service.reporters c.self.inside.core c.ask-result.new.self c.args.ask c.ask-result.result = record { answer = asked.answer; ok = asked.ok; err = asked.err; one_chain = asked.one_chain; request = asked.request } in
    let known : c.args.ask.proxy < g.S.Service.reporters = subst (λ (number : Option ℕ). IsBelow number g.S.Service.reporters) (ap (λ (h : Sight). h.reporter) c.token.view_is ∙ c.requires.numbered) c.token.invariant.3.below in
    let held = drawer-after g.S.Service.epoch_end g.S.Service.recovery g.S.Service.reporters c.self.inside.core c.ask-result.new.self c.args.ask c.ask-result.result c.drawn-drawn.result (cell_view c.self.inside.pass) (cell_view c.token.inside.pass) (cell_view c.answer.new.right) (cell_view c.answer.new.token) c.drawn-drawn.ensures says c.self.invariant.3 known c.answer.ensures.served in
    rw (held.stands.epoch_end_is, held.stands.recovery_is) c.stands_for.ensures.epoch

pub returns-clause-asked : goal.returns-clause-asked
returns-clause-asked g c =
    let asked = c.ask-result.ensures in
    let says : Says g.S.Service.epoch_end g.S.Service.recovery g.S.Service.reporters c.self.inside.core c.ask-result.new.self c.args.ask c.ask-result.result = record { answer = asked.answer; ok = asked.ok; err = asked.err; one_chain = asked.one_chain; request = asked.request } in
    let token = cell_view c.token.inside.pass in
    let low : token.low ≡ c.args.ask.proxy = search rules in
    let opened : 0 < token.reporters = search rules in
    let asked = asked-after g.S.Service.epoch_end g.S.Service.recovery g.S.Service.reporters c.self.inside.core c.ask-result.new.self c.args.ask c.ask-result.result c.drawn-drawn.result (cell_view c.self.inside.pass) (cell_view c.token.inside.pass) (cell_view c.answer.new.right) (cell_view c.answer.new.token) c.drawn-drawn.ensures says c.self.invariant.3 c.token.inside.number c.answer.ensures.served low c.token.invariant.3.settled opened (subst IsSome (sym (epoch_is c.token.invariant.3.epoch c.self.invariant.1)) refl) in
    subst (λ (h : Sight). IsAsked (new_chain g.S.Service.epoch_end g.S.Service.recovery g.S.Service.reporters) c.args.ask h c.ask-result.result (record { reporter = c.token.inside.number; changes = (cell_view c.answer.new.token).seen; answers = (cell_view c.answer.new.token).chain.seen })) c.token.view_is asked

pub returns-clause-member : goal.returns-clause-member
returns-clause-member g c =
    subst (λ (number : Option ℕ). IsBelow number g.S.Service.reporters) (ap (λ (h : Sight). h.reporter) c.token.view_is ∙ c.requires.numbered) c.token.invariant.3.below
