-- A queue stays one when the first of its row is taken out.
use Rattle.std.proofs.Common.{◌==◌, ◌≤◌, true, false, ◌++◌, length, drop, arith, length-append, length-drop}
use Rattle.std.specs.Prelude.{if◌then◌else◌}
use Rattle.std.proofs.lemmas.List.Elements.{All-drop}
use Rattle.fdb_history.specs.declared.log.Priority.TheVariants.{System, Default, Batch}
use Rattle.fdb_queue.specs.Kept.{IsQueue, IsAdmitted}
use Rattle.fdb_queue.specs.Queue.{Queue}
use Rattle.fdb_queue.specs.Waiting.{without_first}

pub IsQueue-popped : {T : Type 0} (queue : Queue T) → IsQueue queue → IsQueue (record queue { waiting = without_first queue.waiting })
IsQueue-popped queue h =
    let fewer : length (queue.waiting.system ++ queue.waiting.default_ ++ queue.waiting.batch) ≤ queue.config.room = h.room in
    let lengths = simp length-append at fewer in
    elim (length queue.waiting.system == 0) as (λ v. IsQueue (record queue { waiting = (if v then (if length queue.waiting.default_ == 0 then record queue.waiting { batch = drop 1 queue.waiting.batch } else record queue.waiting { default_ = drop 1 queue.waiting.default_ }) else record queue.waiting { system = drop 1 queue.waiting.system }) })) [
      | true ↦ elim (length queue.waiting.default_ == 0) as (λ v. IsQueue (record queue { waiting = (if v then record queue.waiting { batch = drop 1 queue.waiting.batch } else record queue.waiting { default_ = drop 1 queue.waiting.default_ }) })) [
        | true ↦ record {
          config = h.config;
          system = h.system;
          default_ = h.default_;
          batch = All-drop (IsAdmitted queue.config Batch) 1 queue.waiting.batch h.batch;
          room = simp (length-append, length-drop) (omega (arith, lengths));
          budgets = h.budgets;
        }
        | false ↦ record {
          config = h.config;
          system = h.system;
          default_ = All-drop (IsAdmitted queue.config Default) 1 queue.waiting.default_ h.default_;
          batch = h.batch;
          room = simp (length-append, length-drop) (omega (arith, lengths));
          budgets = h.budgets;
        }
      ]
      | false ↦ record {
        config = h.config;
        system = All-drop (IsAdmitted queue.config System) 1 queue.waiting.system h.system;
        default_ = h.default_;
        batch = h.batch;
        room = simp (length-append, length-drop) (omega (arith, lengths));
        budgets = h.budgets;
      }
    ]
