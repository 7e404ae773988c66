use Rattle.std.proofs.Common.{◌≡◌, ◌∙◌, ◌++◌, ◌∷◌, ℕ, List, [], ap, append-nil, append_assoc, arith, flat_map, length, rules, string_bytes, sym}
use Rattle.std.proofs.lemmas.Str.{IsUtf8-past_char, chars-nil, chars_past_char}
use Rattle.std.specs.Str.{chars}
use Rattle.std.specs.Str.Iter.{chars_rest}
use Rattle.fdb_log_reader.specs.Printed.{shown}
use Rattle.fdb_log_reader.proofs.names.shown_text.Goals as goal

pub loop-c-init : goal.loop-c-init
loop-c-init c =
    let all : chars_rest c.into_iter-c-iterator.result ≡ c.args.text.now = search rules in
    (search rules, rw (c.new-out.ensures.bytes, all))

pub loop-c-preserved : goal.loop-c-preserved
loop-c-preserved c =
    let held = c.loop-c.invariant in
    let parts = c.in-Some.ensures.steps.0 in
    let step = chars_past_char (chars_rest c.loop-c.c-iterator) (chars_rest c.next.new.self) c.in-Some.c held.0 parts in (
      IsUtf8-past_char _ _ c.in-Some.c held.0 parts,
      rw (c.in_ok-push_shown.ensures, append_assoc) (rw step at held.1),
    )

none_left : (bs : List ℕ) → length bs ≡ 0 → flat_map shown (chars bs) ≡ []
none_left [] none = ap (flat_map shown) chars-nil
none_left (b ∷ bs) none = absurd (omega (arith, none))

pub returns : goal.returns
returns c =
    let left = none_left (chars_rest c.loop-c.c-iterator) c.in-None.ensures.steps.0.0 in
    sym (append-nil (string_bytes c.loop-c.out)) ∙ (ap (λ more. string_bytes c.loop-c.out ++ more) (sym left) ∙ c.loop-c.invariant.1)
