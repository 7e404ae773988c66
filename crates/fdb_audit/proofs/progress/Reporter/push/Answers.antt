use Rattle.std.proofs.Common.{◌≡◌, ◌∙◌, ◌++◌, Some, ap, refl, string_bytes}
use Rattle.fdb_audit.specs.Progress.{progress_object}
use Rattle.fdb_audit.specs.declared.teller.Said.{Said}
use Rattle.fdb_audit.proofs.progress.Reporter.push.Goals.{then-self+in_ok-push_words, else-self}
use Rattle.fdb_audit.proofs.progress.Reporter.push.Goals as goal

pub returns-in_ok-push_object : goal.returns-in_ok-push_object
returns-in_ok-push_object c =
    let same : string_bytes c.if-self.said.text ≡ string_bytes c.args.said.now.text = elim c.if-self.branch [
      | then-self+in_ok-push_words w ↦ ap (λ (said : Said). string_bytes said.text) w.said-is
      | else-self w ↦ ap (λ (said : Said). string_bytes said.text) w.said-is
    ] in
    (Some c.args.progress, c.in_ok-push_object.ensures ∙ ap (λ text. text ++ progress_object c.args.progress) same, (refl, c.if-self-2.true))
