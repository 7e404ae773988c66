use Rattle.std.proofs.Common.{◌≡◌, ◌∙◌, ap, subst, length, arith, rules}
use Rattle.std.proofs.lemmas.Result.{on_ok_weaker}
use Rattle.fdb_history.specs.declared.log.Input.TheVariants as input
use Rattle.fdb_replay.specs.private.Rounds.{CallsOnce}
use Rattle.fdb_replay.proofs.Turns.{adds_read, one_read_more, reads_below}
use Rattle.fdb_replay.proofs.player.Player.read.Goals as goal

pub prove-unreachable-requires : goal.prove-unreachable-requires
prove-unreachable-requires g c =
    let read = c.read_version-answer.ensures.logged (c.is_logged.ensures.logged c.if-not-is_logged.false) in
    let calls : length c.calls.result.now ≡ length c.read_version-answer.new.self.calls = ap length c.calls.ensures in
    omega (arith, c.self.invariant.1, reads_below _ _ _ _ _ read, calls, c.if-prove.true)

pub invariant_of-self-2 : goal.invariant_of-self-2
invariant_of-self-2 g c =
    let read = c.read_version-answer.ensures.logged (c.is_logged.ensures.logged c.if-not-is_logged.false) in
    (read.logged.begun ∙ c.self.invariant.0, omega (arith, c.self.invariant.1, one_read_more _ _ _ _ _ read))

pub returns : goal.returns
returns g c =
    let read = c.read_version-answer.ensures.logged (c.is_logged.ensures.logged c.if-not-is_logged.false) in
    let after = c.read_version-answer.new.self in
    let opts : c.in_ok-opts.opts ≡ c.args.opts.now = c.in_ok-opts.ensures.cases in
    let before : c.self.inside.client ≡ c.args.self.now = search rules in
    let called : CallsOnce c.self.inside.client (input.Grv c.in_ok-opts.opts) after = record {
      number = read.logged.number;
      added = adds_read _ _ _ _ _ c.self.invariant.0 read;
    } in
    on_ok_weaker c.unless_out_of_memory.result
    (λ logged. subst (λ client. CallsOnce client (input.Grv c.args.opts.now) after) before (subst (λ opts. CallsOnce c.self.inside.client (input.Grv opts) after) opts called))
    c.unless_out_of_memory.ensures
