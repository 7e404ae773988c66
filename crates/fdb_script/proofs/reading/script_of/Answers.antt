use Rattle.std.proofs.Common.{sym}
use Rattle.serde_json.specs.View.{view}
use Rattle.fdb_script.proofs.Within.{IsPlan-read}
use Rattle.fdb_script.proofs.reading.script_of.Goals as goal

pub new-requires : goal.new-requires
new-requires c =
    let frame = c.in-Some.frame in
    IsPlan-read (view c.args.value.now) _ c.in_ok-rounds.rounds (sym (rw c.in-Some.is at c.in_ok-frame.ensures)) (rw c.deref.ensures.value at c.in_ok-rounds.ensures)
    frame.epoch_ends_before frame.recovery_in_range frame.some_client frame.clients_in_range frame.config_in_range frame.elapsed_in_range
