-- No two names have one code, and the code of a short one fits 128 bits.
use Rattle.std.proofs.Common.{◌≡◌, ◌==◌, ℕ, zero, suc, ◌*◌, ◌<◌, ◌≤◌, Bool, true, false, cond, nat_lt, List, Option, Some, length, slice_index, refl, ap, sym, subst, ◌∙◌, inl, inr, arith}
use Rattle.std.proofs.lemmas.Bool.{both_ways, cases_lt, eqb-true, false_from_ne_true}
use Rattle.std.proofs.lemmas.Bool.Decides.{nat_tests}
use Rattle.std.proofs.lemmas.List.{ext_get_or}
use Rattle.std.proofs.lemmas.Slice.Eq.{bytes_eq-Decides}
use Rattle.std.specs.Str.{bytes_eq}
use Rattle.fdb_log_reader.specs.private.Codes.{code_below, name_code, number_by, AreBytes}

-- ---- a code fits

abbrev pub limit : ℕ → ℕ
limit zero = 2
limit (suc n) = limit n * 256

limit_up : (m n : ℕ) → n ≤ m → limit n ≤ limit m
limit_up zero n le = let at : n ≡ 0 = omega arith in rw at (omega arith)
limit_up (suc m) n le = elim (cases_lt n (suc m)) [
  | inl less ↦ let so_far = limit_up m n (omega arith) in omega arith
  | inr ge ↦ let at : n ≡ suc m = omega arith in rw at (omega arith)
]

limit_14 : limit 14 ≡ 10384593717069655257060992658440192
limit_14 = refl

pub code_few : (n : ℕ) → n ≤ 14 → limit n ≤ 10384593717069655257060992658440192
code_few n le = subst (λ m. limit n ≤ m) limit_14 (limit_up 14 n le)

-- ---- and is no other's

code_some : (bytes : List ℕ) (n : ℕ) → 1 ≤ code_below bytes n
code_some bytes zero = omega arith
code_some bytes (suc n) = let some = code_some bytes n in omega arith

same_parts : (xs ys : List ℕ) (n m : ℕ) → AreBytes xs → AreBytes ys → code_below xs n ≡ code_below ys m
    → (n ≡ m) × ((k : ℕ) → k < n → slice_index xs k ≡ slice_index ys k)
same_parts xs ys zero zero bx by same = (refl, λ k lt. absurd (omega arith))
same_parts xs ys zero (suc m) bx by same = let some = code_some ys m in absurd (omega arith)
same_parts xs ys (suc n) zero bx by same = let some = code_some xs n in absurd (omega arith)
same_parts xs ys (suc n) (suc m) bx by same =
    let x = bx n in
    let y = by m in
    let before : code_below xs n ≡ code_below ys m = omega arith in
    let last : slice_index xs n ≡ slice_index ys m = omega arith in
    let rest = same_parts xs ys n m bx by before in (
      ap suc rest.0,
      λ k lt. elim (cases_lt k n) [
        | inl less ↦ rest.1 k less
        | inr ge ↦
            let at : n ≡ k = omega arith in
            let there : m ≡ k = sym rest.0 ∙ at in
            ap (slice_index xs) (sym at) ∙ (last ∙ ap (slice_index ys) there)
      ],
    )

pub same_code : (xs ys : List ℕ) → AreBytes xs → AreBytes ys → name_code xs ≡ name_code ys → xs ≡ ys
same_code xs ys bx by same =
    let parts = same_parts xs ys (length xs) (length ys) bx by same in
    ext_get_or 0 xs ys parts.0 parts.1

code_test : (name q : List ℕ) → AreBytes name → AreBytes q → (name_code q == name_code name) ≡ bytes_eq name q
code_test name q bn bq = elim (bytes_eq name q) as (λ b. bytes_eq name q ≡ b → (name_code q == name_code name) ≡ b) [
  | true ↦ λ e. let same : name ≡ q = (bytes_eq-Decides name q).0 e in let codes = ap name_code same in grind (arith, nat_tests)
  | false ↦ λ e. false_from_ne_true _ (λ is. both_ways (bytes_eq name q) e ((bytes_eq-Decides name q).1 (sym (same_code q name bq bn (eqb-true _ _ is)))))
] refl

-- ---- a name is given its number

differs : (name q : List ℕ) (b : Bool) → nat_lt (length name) 16 ≡ b → nat_lt (length q) 16 ≡ cond b false true → bytes_eq name q ≡ false
differs name q b one other = false_from_ne_true _ (λ is.
    let same : name ≡ q = (bytes_eq-Decides name q).0 is in
    let both : b ≡ cond b false true = sym one ∙ (ap (λ n. nat_lt (length n) 16) same ∙ other) in
    never b both)
  where
    never : (b : Bool) → b ≡ cond b false true → ⊥
    never true h = both_ways false refl (sym h)
    never false h = both_ways false refl h

pub set_short : (old new : ℕ → Option ℕ) (long : List ℕ → Option ℕ) (name : List ℕ) (number : ℕ) → AreBytes name → length name ≤ 15
    → ((c : ℕ) → new c ≡ cond (c == name_code name) (Some number) (old c))
    → (q : List ℕ) → AreBytes q → number_by new long q ≡ cond (bytes_eq name q) (Some number) (number_by old long q)
set_short old new long name number bytes short is q bq =
    by_size (nat_lt (length q) 16) refl
  where
    here : nat_lt (length name) 16 ≡ true
    here = grind (arith, nat_tests)

    by_size : (b : Bool) → nat_lt (length q) 16 ≡ b
        → cond b (new (name_code q)) (long q) ≡ cond (bytes_eq name q) (Some number) (cond b (old (name_code q)) (long q))
    by_size true size = is (name_code q) ∙ ap (λ b. cond b (Some number) (old (name_code q))) (code_test name q bytes bq)
    by_size false size = sym (ap (λ b. cond b (Some number) (long q)) (differs name q true here size))

pub set_long : (short : ℕ → Option ℕ) (old new : List ℕ → Option ℕ) (name : List ℕ) (number : ℕ) → 15 < length name
    → ((q : List ℕ) → new q ≡ cond (bytes_eq name q) (Some number) (old q))
    → (q : List ℕ) → number_by short new q ≡ cond (bytes_eq name q) (Some number) (number_by short old q)
set_long short old new name number size_of is q =
    by_size (nat_lt (length q) 16) refl
  where
    here : nat_lt (length name) 16 ≡ false
    here = grind (arith, nat_tests)

    by_size : (b : Bool) → nat_lt (length q) 16 ≡ b
        → cond b (short (name_code q)) (new q) ≡ cond (bytes_eq name q) (Some number) (cond b (short (name_code q)) (old q))
    by_size true size = sym (ap (λ b. cond b (Some number) (short (name_code q))) (differs name q false here size))
    by_size false size = is q
