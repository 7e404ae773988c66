-- Whose lines a log has, with a line more.
use Rattle.std.proofs.Common.{◌≡◌, ℕ, Bool, true, false, Some, [], ◌∷◌, ◌||◌, refl, sym, ap, ◌∙◌}
use Rattle.std.specs.BTreeSet.{BTreeSet, contains}
use Rattle.std.specs.Ordering.{nat_cmp}
use Rattle.std.proofs.lemmas.List.Folds.{list_any-append}
use Rattle.fdb_lines.specs.Lines.{Lines, same_client}
use Rattle.fdb_lines.specs.Log.{added}
use Rattle.fdb_lines.specs.declared.line.Line.{Line}
use Rattle.fdb_c.specs.Audit.{AreClients, has_line_of}

or_false : (b : Bool) → (b || false) ≡ b
or_false true = refl
or_false false = refl

-- the clients of a log are known with a line more, where that line's is known besides
pub known_with : (log : Lines) (line : Line) (before after : BTreeSet ℕ) → AreClients log before
    → ((other : ℕ) → contains nat_cmp after other ≡ (contains nat_cmp before other || same_client line.client (Some other)))
    → AreClients (added log line) after
known_with log line before after are more client =
    let test : Line → Bool = λ (it : Line). same_client it.client (Some client) in
    more client ∙ ap (λ (b : Bool). b || same_client line.client (Some client)) (are client)
    ∙ ap (λ (b : Bool). has_line_of log client || b) (sym (or_false (same_client line.client (Some client))))
    ∙ sym (list_any-append test log.lines (line ∷ []))
