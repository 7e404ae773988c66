use Rattle.std.proofs.Common.{◌≡◌, ◌∙◌, ◌++◌, List, [], ap, append_assoc, codes, ℕ}
use Rattle.std.specs.Prelude.{string_bytes}
use Rattle.fdb_audit.specs.Text.{line}
use Rattle.fdb_audit.specs.Warned.{counted}
use Rattle.fdb_audit.proofs.refusal.push_early.Goals as goal

-- three texts, one behind the other
behind : (old one two three first second third : List ℕ) → one ≡ old ++ first → two ≡ one ++ second → three ≡ two ++ third → three ≡ old ++ ((first ++ second) ++ third)
behind old one two three first second third is next last =
    last ∙ (ap (λ text. text ++ third) (next ∙ ap (λ text. text ++ second) is) ∙ (ap (λ text. text ++ third) (append_assoc old first second) ∙ append_assoc old (first ++ second) third))

pub returns : goal.returns
returns c =
    let it = c.args.early in
    behind (string_bytes c.args.out.now) (string_bytes c.push_count.new.out) (string_bytes c.push_count-2.new.out) (string_bytes c.push_count-3.new.out)
    (counted (codes "fdb_audit: early line ") it.line (codes ": it began ")) (counted [] it.by (codes " before what had been settled; "))
    (counted [] it.count (line (codes " so far: --follow is too small, or a clock is ahead")))
    c.in_ok-push_count.ensures c.in_ok-push_count-2.ensures c.in_ok-push_count-3.ensures
