-- How many requests a window starts at most.
use Rattle.std.proofs.Common.{◌≡◌, ℕ, ◌+◌, ◌≤◌, length, take, ap, ◌∙◌, arith, length-append}
use Rattle.std.specs.Prelude.{min}
use Rattle.std.proofs.lemmas.List.{length-take}
use Rattle.std.proofs.Math.Nat.{min-le_right}
use Rattle.fdb_queue.specs.Queue.{Queue}
use Rattle.fdb_queue.specs.Waiting.{row}
use Rattle.fdb_queue.specs.Window.{window}

-- what it starts is a prefix of all that wait
pub no_longer : (queue : Queue ℕ)
    → window queue ≡ take (length (window queue)) (row queue.waiting)
    → length (window queue) ≤ length queue.waiting.system + length queue.waiting.default_ + length queue.waiting.batch
no_longer queue prefix =
    let lists : length (row queue.waiting)
    ≡ length queue.waiting.system + length queue.waiting.default_ + length queue.waiting.batch
    = simp length-append in
    let cut : length (window queue) ≡ min (length (window queue)) (length (row queue.waiting))
    = ap (λ some. length some) prefix ∙ length-take (length (window queue)) (row queue.waiting) in
    let bound = min-le_right (length (window queue)) (length (row queue.waiting)) in
    grind arith
