use Rattle.std.proofs.Common.{◌≡◌, ◌∙◌, sym, None, Some}
use Rattle.serde_json.specs.View.{view}
use Rattle.fdb_script.specs.Reading.{command_of}
use Rattle.fdb_script.proofs.Arrays.{commands_all, commands_more, commands_none}
use Rattle.fdb_script.proofs.reading.command.commands_of.Goals as goal

pub loop-place-preserved : goal.loop-place-preserved
loop-place-preserved c =
    let value = c.index-values-place in
    let read : command_of c.args.clients (view value.result) ≡ Some c.in-Some.command = sym c.in_ok-command.ensures ∙ c.in-Some.is in
    rw c.in_ok-push.ensures.ok (sym (commands_more view c.args.clients c.args.round c.loop-place.commands c.args.values.now c.loop-place.place value.result c.in-Some.command c.loop-place-test.true value.is read) ∙ c.loop-place.invariant)

pub returns-in_default : goal.returns-in_default
returns-in_default c =
    let value = c.index-values-place in
    let read : command_of c.args.clients (view value.result) ≡ None = sym c.in_ok-command.ensures ∙ c.in_default.is in
    sym c.loop-place.invariant ∙ commands_none view c.args.clients c.args.round c.loop-place.commands c.args.values.now c.loop-place.place value.result c.loop-place-test.true value.is read

pub returns : goal.returns
returns c = sym c.loop-place.invariant ∙ commands_all view c.args.clients c.args.round c.loop-place.commands c.args.values.now c.loop-place.place c.loop-place-test.false
