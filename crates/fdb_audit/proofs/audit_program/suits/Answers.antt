use Rattle.std.proofs.Common.{◌≡◌, ◌∙◌, ◌&&◌, ◌||◌, not, ap, arith, codes, refl, rules, sym}
use Rattle.std.specs.Prelude.{is_some}
use Rattle.clap.specs.Words.{first_of, matches_of}
use Rattle.fdb_audit.specs.Program.{command, number_named}
use Rattle.fdb_audit.proofs.Numbers.{number_of}
use Rattle.fdb_audit.proofs.Refusing.{is_some_map}
use Rattle.fdb_audit.proofs.audit_program.suits.Goals as goal

pub returns : goal.returns
returns c = λ arguments matches.
    let follows : c.is_some-follows.result ≡ is_some (number_named (codes "follow") arguments) =
    c.is_some-follows.ensures ∙ ap is_some (number_of 0 9223372036854775807 _ _ (c.number.ensures command arguments matches 0 9223372036854775807 (omega arith) (refl, refl, refl))) in
    let completes : c.is_some-completes.result ≡ is_some (number_named (codes "complete") arguments) =
    c.is_some-completes.ensures ∙ ap is_some (number_of 0 9223372036854775807 _ _ (c.number-2.ensures command arguments matches 0 9223372036854775807 (omega arith) (refl, refl, refl))) in
    let forgets : c.is_some-forgets.result ≡ is_some (number_named (codes "forget") arguments) =
    c.is_some-forgets.ensures ∙ ap is_some (number_of 0 9223372036854775807 _ _ (c.number-3.ensures command arguments matches 0 9223372036854775807 (omega arith) (refl, refl, refl))) in
    let keeps : c.is_some-keeps.result ≡ is_some (first_of (codes "keep") (matches_of command arguments)) =
    c.is_some-keeps.ensures ∙ (sym (is_some_map _ c.text.result) ∙ ap is_some (c.text.ensures command arguments matches)) in
    let places : c.is_some-places.result ≡ is_some (first_of (codes "position") (matches_of command arguments)) =
    c.is_some-places.ensures ∙ (sym (is_some_map _ c.text-2.result) ∙ ap is_some (c.text-2.ensures command arguments matches)) in
    let has_keys : c.is_some-has_keys.result ≡ is_some (first_of (codes "key") (matches_of command arguments)) =
    c.is_some-has_keys.ensures ∙ (sym (is_some_map _ c.text-3.result) ∙ ap is_some (c.text-3.ensures command arguments matches)) in
    let has_numbers : c.is_some-has_numbers.result ≡ is_some (first_of (codes "numbers") (matches_of command arguments)) =
    c.is_some-has_numbers.ensures ∙ (sym (is_some_map _ c.text-4.result) ∙ ap is_some (c.text-4.ensures command arguments matches)) in
    let history = c.is_given-history.ensures command arguments matches (refl, refl, refl) in
    let unfit : c.if-needs_all.result ≡ (c.is_some-follows.result && (c.is_some-completes.result || c.is_given-history.result) || ((c.is_some-keeps.result && not c.is_some-follows.result)
    || ((c.is_some-places.result && not c.is_some-keeps.result) || ((c.is_some-has_numbers.result && (c.is_some-follows.result || c.is_given-history.result))
    || (c.is_some-forgets.result && not (c.is_some-follows.result && c.is_some-has_keys.result)))))) = search rules in
    ap not (unfit ∙ rw (follows, completes, forgets, keeps, places, has_keys, has_numbers, history) refl)
