-- A round is performed part by part.
use Rattle.std.proofs.Common.{◌≡◌, ℕ, suc, ◌+◌, ◌<◌, List, [], ◌∷◌, ◌++◌, length, get_or, set, refl, ap, ap₂, sym, ◌∙◌, subst, append_assoc, arith}
use Rattle.std.specs.List.{FoldsTo}
use Rattle.std.proofs.lemmas.List.{append-nil, drop_all, map-append}
use Rattle.fdb_client.specs.Account.{Account}
use Rattle.fdb_replay.specs.private.Rounds.{IsPlayed, PerformsFrom, Tell, all_tells, tells_since}
use Rattle.fdb_script.specs.Answering.{AnswersCommand, commands_of}
use Rattle.fdb_script.specs.declared.script.Command.{Command}

-- performing leaves as many clients
pub same_clients : (first : ℕ) (commands : List Command) (before after : List Account) → PerformsFrom first commands before after → length after ≡ length before
same_clients first commands [] [] done = refl
same_clients first commands [] (more ∷ after) done = absurd done
same_clients first commands (client ∷ before) [] done = absurd done
same_clients first commands (client ∷ before) (more ∷ after) done = ap suc (same_clients (first + 1) commands before after done.1)

both_performed : (first next : ℕ) (commands : List Command) (a b c d : List Account) → next ≡ first + length a → PerformsFrom first commands a b → PerformsFrom next commands c d
    → PerformsFrom first commands (a ++ c) (b ++ d)
both_performed first next commands [] [] c d is front back = subst (λ n. PerformsFrom n commands c d) (omega (arith, is)) back
both_performed first next commands [] (more ∷ b) c d is front back = absurd front
both_performed first next commands (client ∷ a) [] c d is front back = absurd front
both_performed first next commands (client ∷ a) (more ∷ b) c d is front back = (front.0, both_performed (first + 1) next commands a b c d (omega (arith, is)) front.1 back)

both_tells : (first next : ℕ) (a b c d : List Account) → next ≡ first + length a → length b ≡ length a → all_tells first (a ++ c) (b ++ d) ≡ all_tells first a b ++ all_tells next c d
both_tells first next [] [] c d is same = ap (λ n. all_tells n c d) (omega (arith, is))
both_tells first next [] (more ∷ b) c d is same = absurd (omega (arith, same))
both_tells first next (client ∷ a) [] c d is same = absurd (omega (arith, same))
both_tells first next (client ∷ a) (more ∷ b) c d is same =
    ap (λ told. tells_since first client more ++ told) (both_tells (first + 1) next a b c d (omega (arith, is)) (omega (arith, same)))
    ∙ sym (append_assoc (tells_since first client more) (all_tells (first + 1) a b) (all_tells next c d))

-- two parts make one
pub both_played : (first next : ℕ) (commands : List Command) (a b c d : List Account) (these those : List Tell) → next ≡ first + length a
    → IsPlayed first commands a b these → IsPlayed next commands c d those → IsPlayed first commands (a ++ c) (b ++ d) (these ++ those)
both_played first next commands a b c d these those is front back = record {
  performed = both_performed first next commands a b c d is front.performed back.performed;
  numbers = map-append {B = ℕ} (λ client. client.number) b d ∙ (ap₂ (λ these those. these ++ those) front.numbers back.numbers ∙ sym (map-append {B = ℕ} (λ client. client.number) a c));
  told = rw (front.told, back.told) (sym (both_tells first next a b c d is (same_clients first commands a b front.performed)));
}

-- the only client
pub one_played_at : (first : ℕ) (commands : List Command) (all : List Account) (before after : Account) (tells : List Tell) → length all ≡ 1 → before ≡ get_or all 0 before
    → FoldsTo AnswersCommand before.calls (commands_of first commands) after.calls → after.number ≡ before.number → tells ≡ tells_since first before after → IsPlayed first commands all (set all 0 after) tells
one_played_at first commands [] before after tells one is performed same told = absurd (omega (arith, one))
one_played_at first commands (x ∷ []) before after tells one is performed same told =
    subst (λ own. IsPlayed first commands (own ∷ []) (after ∷ []) tells) is (record {
      performed = (performed, tt);
      numbers = ap (λ number. number ∷ []) same;
      told = told ∙ sym (append-nil (tells_since first before after));
    })
one_played_at first commands (x ∷ y ∷ all) before after tells one is performed same told = absurd (omega (arith, one))

none_perform : (first : ℕ) (commands : List Command) (clients : List Account) → ((k : ℕ) → k < length clients → commands_of (first + k) commands ≡ []) → PerformsFrom first commands clients clients
none_perform first commands [] idle = tt
none_perform first commands (client ∷ clients) idle =
    let none : commands_of first commands ≡ [] = subst (λ n. commands_of n commands ≡ []) (omega arith) (idle 0 (omega arith)) in
    (rw none refl, none_perform (first + 1) commands clients (λ k within. subst (λ n. commands_of n commands ≡ []) (omega arith) (idle (k + 1) (omega (arith, within)))))

no_tells : (first : ℕ) (clients : List Account) → all_tells first clients clients ≡ []
no_tells first [] = refl
no_tells first (client ∷ clients) = rw (drop_all (length client.calls) client.calls (omega arith), no_tells (first + 1) clients) refl

-- clients that have no commands
pub none_played : (first : ℕ) (commands : List Command) (clients : List Account) → ((k : ℕ) → k < length clients → commands_of (first + k) commands ≡ []) → IsPlayed first commands clients clients []
none_played first commands clients idle = record {
  performed = none_perform first commands clients idle;
  numbers = refl;
  told = sym (no_tells first clients);
}
