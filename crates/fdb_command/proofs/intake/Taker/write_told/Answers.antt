use Rattle.std.proofs.Common.{◌≡◌, ◌⊎◌, inl, inr, ℕ, List, Option}
use Rattle.fdb_command.specs.Driving.{Promise}
use Rattle.fdb_command.specs.private.Taking.{IsPut, Tells, TellsLast}
use Rattle.fdb_command.proofs.Pieces.{on_error}
use Rattle.fdb_command.proofs.intake.Taker.write_told.Goals as goal

-- what was put is told, also where nothing more is done
put_last : {O I E F W : Type 0} (program : Promise O I E F) (options : O) (intake next : I) (text : List ℕ) (contents : W → Option (List ℕ)) (before after : W)
    → Tells program options intake next text → IsPut contents text before after → (after ≡ before) ⊎ TellsLast program options intake (contents before) (contents after)
put_last program options intake next text contents before after told (inl none) = inl none.1
put_last program options intake next text contents before after told (inr some) = inr (record { next = next; text = text; told = told; some = some.0; written = inl some.1 })

pub returns-in_err-intake-clause-begun : goal.returns-in_err-intake-clause-begun
returns-in_err-intake-clause-begun g c =
    let told = c.in_ok-told.told in
    on_error c.from_residual-in_err-intake.result
    (inr (record { next = told.intake; text = told.text.items; told = c.in_ok-told.ensures.told; some = c.in_err-intake.ensures.begun.0; written = c.in_err-intake.ensures.begun.1 }))
