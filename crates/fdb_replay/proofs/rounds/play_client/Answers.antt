use Rattle.std.proofs.Common.{◌<◌, length, ◌∙◌, arith}
use Rattle.fdb_script.specs.Answering.{input_of}
use Rattle.fdb_replay.proofs.Grown.{grown_more, tells_more, one_command_more, other_command}
use Rattle.fdb_replay.proofs.rounds.play_client.Goals as goal
use Rattle.fdb_replay.proofs.rounds.play_client.Goals.{then-command-number+in_ok-perform, else-command-number}

pub loop-command-preserved : goal.loop-command-preserved
loop-command-preserved g c =
    let so_far = c.loop-command.invariant in
    let old = c.args.client.now in
    let before = c.loop-command.client in
    let commands = c.args.playing.now.round.commands.now in
    let place = c.loop-command.command-index in
    let command = c.command-item.result in
    let client = c.args.number in
    let tells = c.loop-command.tells.items in
    let within : place < length commands = omega (arith, c.loop-command-test.true, c.loop-command.auto.command-index-end) in
    elim c.if-command-number.branch [
      | then-command-number+in_ok-perform w ↦
          let after = w.perform.new.self in
          let wanted = input_of before.calls command.act in
          let added = w.in_ok-perform.ensures.ok.added in
          let told = tells_more client old.calls before.calls after.calls wanted tells w.perform.new.tells.items so_far.grown added so_far.told w.in_ok-perform.ensures.told in
          rw (w.client-is, w.tells-is) (record {
            grown = grown_more old.calls before.calls after.calls wanted so_far.grown added;
            number = w.in_ok-perform.ensures.ok.number ∙ so_far.number;
            told = told;
            forwards = λ last rest. so_far.forwards last (one_command_more client place commands command before.calls after.calls last within c.command-item.is w.if-command-number.true added rest);
          })
      | else-command-number w ↦
          rw (w.client-is, w.tells-is) (record {
            grown = so_far.grown;
            number = so_far.number;
            told = so_far.told;
            forwards = λ last rest. so_far.forwards last (other_command client place commands command before.calls last within c.command-item.is w.if-command-number.false rest);
          })
    ]
