-- A queue in which nobody waits.
use Rattle.std.proofs.Common.{◌≡◌, List, [], ◌∷◌, ◌++◌, length, ap, refl, arith}
use Rattle.fdb_queue.specs.declared.waiting.Req.{Req}
use Rattle.fdb_queue.specs.Waiting.{Requests, nothing, row}

module _ {T : Type 0} where
  lists : (system default_ batch : List (Req T)) → system ++ default_ ++ batch ≡ [] → ◌≡◌ {A = Requests T} (record { system = system; default_ = default_; batch = batch }) nothing
  lists [] [] [] none = refl
  lists [] [] (x ∷ xs) none = let empty = ap (λ it. length it) none in absurd (omega arith)
  lists [] (x ∷ xs) batch none = let empty = ap (λ it. length it) none in absurd (omega arith)
  lists (x ∷ xs) default_ batch none = let empty = ap (λ it. length it) none in absurd (omega arith)

  pub nothing_waits : (waiting : Requests T) → row waiting ≡ [] → waiting ≡ nothing
  nothing_waits waiting none = lists waiting.system waiting.default_ waiting.batch none
