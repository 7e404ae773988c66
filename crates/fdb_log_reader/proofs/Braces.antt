-- A line with its number behind its last member.
use Rattle.std.proofs.Common.{◌≡◌, ◌∙◌, ℕ, suc, ◌+◌, ◌-◌, ◌<◌, ◌≤◌, Bool, true, false, ◌&&◌, ◌||◌, not, List, [], ◌∷◌, ◌++◌, drop, length, length-drop, get_or, refl, ap, sym, take, arith, drop-cons, if◌then◌else◌}
use Rattle.std.proofs.lemmas.Bool.{eqb-true, false_from_ne_true}
use Rattle.std.proofs.lemmas.List.{get_or-drop, take-append-drop, take_all}
use Rattle.std.specs.List.{list_any}
use Rattle.fdb_log_reader.specs.Split.{is_brace, with_behind}
use Rattle.fdb_log_reader.specs.private.Placing.{IsSplitAtBrace}

and_false : (b : Bool) → (b && false) ≡ false
and_false true = refl
and_false false = refl

or_true : (b : Bool) → (b || true) ≡ true
or_true true = refl
or_true false = refl

or_left : (a b : Bool) → (a || b) ≡ false → a ≡ false
or_left true b none = none
or_left false b none = refl

or_right : (a b : Bool) → (a || b) ≡ false → b ≡ false
or_right true b none = absurd (grind (arith, none))
or_right false b none = none

some_behind : (front rest : List ℕ) → list_any is_brace (front ++ 125 ∷ rest) ≡ true
some_behind [] rest = refl
some_behind (byte ∷ front) rest = ap (λ b. is_brace byte || b) (some_behind front rest) ∙ or_true (is_brace byte)

-- what is put in front of the last brace stands there
pub in_front_of_brace : (text front rest : List ℕ) → list_any is_brace rest ≡ false → with_behind text (front ++ 125 ∷ rest) ≡ front ++ (text ++ 125 ∷ rest)
in_front_of_brace text [] rest none = ap (λ b. if not b then text ++ 125 ∷ rest else 125 ∷ with_behind text rest) none
in_front_of_brace text (byte ∷ front) rest none =
    let later = front ++ 125 ∷ rest in
    ap (λ b. if is_brace byte && not b then text ++ byte ∷ later else byte ∷ with_behind text later) (some_behind front rest)
    ∙ (ap (λ b. if b then text ++ byte ∷ later else byte ∷ with_behind text later) (and_false (is_brace byte))
    ∙ ap (λ (bytes : List ℕ). byte ∷ bytes) (in_front_of_brace text front rest none))

-- a line without a brace stays as it is
pub without_brace : (text line : List ℕ) → list_any is_brace line ≡ false → with_behind text line ≡ line
without_brace text [] none = refl
without_brace text (byte ∷ bytes) none =
    ap (λ b. if b && not (list_any is_brace bytes) then text ++ byte ∷ bytes else byte ∷ with_behind text bytes) (or_left (is_brace byte) (list_any is_brace bytes) none)
    ∙ ap (λ (bytes : List ℕ). byte ∷ bytes) (without_brace text bytes (or_right (is_brace byte) (list_any is_brace bytes) none))

pub none_there : (bytes : List ℕ) → ((k : ℕ) → k < length bytes → is_brace (get_or bytes k 0) ≡ false) → list_any is_brace bytes ≡ false
none_there [] none = refl
none_there (byte ∷ bytes) none =
    ap (λ b. b || list_any is_brace bytes) (none 0 (omega arith)) ∙ none_there bytes (λ k lt. none (suc k) (omega arith))

-- ---- where the last brace stands

pub split_at : (line : List ℕ) (brace : ℕ) → brace < length line → is_brace (get_or line brace 0) ≡ true
    → ((k : ℕ) → brace + 1 ≤ k → k < length line → (is_brace (get_or line k 0) ≡ true) → ⊥)
    → IsSplitAtBrace line (take brace line) (take (length line - brace) (drop brace line))
split_at line brace lt here after =
    let size = length-drop brace line in
    let all : take (length line - brace) (drop brace line) ≡ drop brace line = take_all (length line - brace) (drop brace line) (omega arith) in
    let first : get_or line brace 0 ≡ 125 = eqb-true (get_or line brace 0) 125 here in (
      drop (suc brace) line,
      sym (take-append-drop brace line) ∙ ap (λ (rest : List ℕ). take brace line ++ rest) (sym all),
      all ∙ (drop-cons line brace 0 lt ∙ ap (λ (byte : ℕ). byte ∷ drop (suc brace) line) first),
      none_there (drop (suc brace) line) (λ k less.
          let left = length-drop (suc brace) line in
          false_from_ne_true (is_brace (get_or (drop (suc brace) line) k 0)) (λ is.
          after (suc brace + k) (omega arith) (omega arith) (ap is_brace (sym (get_or-drop (suc brace) line k 0)) ∙ is))),
    )

pub nowhere : (line : List ℕ) → ((k : ℕ) → 0 ≤ k → k < length line → (is_brace (get_or line k 0) ≡ true) → ⊥) → list_any is_brace line ≡ false
nowhere line none = none_there line (λ k lt. false_from_ne_true (is_brace (get_or line k 0)) (none k (omega arith) lt))
