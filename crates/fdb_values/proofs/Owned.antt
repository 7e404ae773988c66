-- Values and the keys of their lines, found one line after another.
use Rattle.std.proofs.Common.{◌≡◌, ◌≢◌, ◌⊎◌, ℕ, suc, ◌<◌, ◌==◌, ◌&&◌, ◌||◌, not, true, false, cond, List, Option, None, Some, refl, ap, sym, ◌∙◌, inl, inr, arith}
use Rattle.std.specs.Option.{option_eq}
use Rattle.std.proofs.lemmas.Bool.{cases_eq}
use Rattle.std.proofs.lemmas.Bool.Decides.{nat_tests}
use Rattle.fdb_lines.specs.declared.line.Line.{Line}
use Rattle.fdb_lines.specs.Keys.{key_at}
use Rattle.fdb_values.specs.ByValue.{start_value, value_at}
use Rattle.fdb_values.specs.Owners.{is_shared, owns, shares}
use Rattle.fdb_values.proofs.Facts.{same_is, some_at}

not_own : (owner : Option (Option ℕ)) (v : ℕ) (key : Option ℕ) → (v == 0 || owns owner key) ≡ false
    → (v ≢ 0) × (other : Option ℕ) × (owner ≡ Some other) × (option_eq ◌==◌ other key ≡ false)
not_own None v key no_own = grind (arith, nat_tests)
not_own (Some other) v key no_own = grind (arith, nat_tests)

is_own : (owner : Option (Option ℕ)) (v : ℕ) (key : Option ℕ) → (v == 0 || owns owner key) ≡ true → (v ≡ 0) ⊎ ((owner ≡ None) ⊎ (owner ≡ Some key))
is_own None v key own = inr (inl refl)
is_own (Some other) v key own = elim (cases_eq v 0) [
  | inl zero ↦ inl zero
  | inr ne ↦ inr (inr (ap (λ (k : Option ℕ). Some k) (same_is other key (grind (arith, nat_tests)))))
]

-- what is known of the lines above: of which key each value is
pub record AreOwners (lines : List Line) (keys : List (Option ℕ)) (k : ℕ) (owner : ℕ → Option (Option ℕ)) : Type 0 where
  pub all : (j : ℕ) → j < k → value_at lines j ≢ start_value → owner (value_at lines j) ≡ Some (key_at keys j)
  pub some : (q : ℕ) (key : Option ℕ) → owner q ≡ Some key → (j : ℕ) × (j < k) × (value_at lines j ≡ q) × (key_at keys j ≡ key)

pub shared : (lines : List Line) (keys : List (Option ℕ)) (k : ℕ) (owner : ℕ → Option (Option ℕ)) → AreOwners lines keys k owner
    → (value_at lines k == 0 || owns (owner (value_at lines k)) (key_at keys k)) ≡ false → is_shared lines keys k ≡ true
shared lines keys k owner are no_own =
    let it = not_own (owner (value_at lines k)) (value_at lines k) (key_at keys k) no_own in
    let j = are.some (value_at lines k) it.1 it.2 in
    let other : option_eq ◌==◌ (key_at keys j.0) (key_at keys k) ≡ false = ap (λ key. option_eq ◌==◌ key (key_at keys k)) j.3 ∙ it.3 in
    let same = j.2 in
    let here : shares lines keys k j.0 ≡ true = grind (arith, nat_tests) in
    let some = some_at (shares lines keys k) k j.0 j.1 here in
    let ne = it.0 in
    grind (arith, nat_tests)

pub owners_more : (lines : List Line) (keys : List (Option ℕ)) (k : ℕ) (owner next : ℕ → Option (Option ℕ)) → AreOwners lines keys k owner
    → (value_at lines k == 0 || owns (owner (value_at lines k)) (key_at keys k)) ≡ true
    → ((q : ℕ) → next q ≡ cond (not (value_at lines k == 0) && value_at lines k == q) (Some (key_at keys k)) (owner q)) → AreOwners lines keys (suc k) next
owners_more lines keys k owner next are own puts = record {
  all = λ j lt ne. elim (cases_eq (value_at lines k) (value_at lines j)) [
    | inl same ↦ elim (cases_eq j k) [
      | inl at ↦ rw at (new (λ zero. ne (sym same ∙ zero)))
      | inr above ↦
          let old = are.all j (omega arith) ne in
          let at = ap owner same in
          elim (is_own (owner (value_at lines k)) (value_at lines k) (key_at keys k) own) [
            | inl zero ↦ absurd (ne (sym same ∙ zero))
            | inr either ↦ elim either [
              | inl none ↦ absurd (grind arith)
              | inr is ↦ ap next (sym same) ∙ (new (λ zero. ne (sym same ∙ zero)) ∙ (sym is ∙ (at ∙ old)))
            ]
          ]
    ]
    | inr other ↦ kept (value_at lines j) other ∙ are.all j (before j lt other) ne
  ];
  some = λ q key is. elim (cases_eq (value_at lines k) q) [
    | inl same ↦ elim (cases_eq (value_at lines k) 0) [
      | inl zero ↦
          let old = are.some q key (sym (unmoved q zero) ∙ is) in
          (old.0, omega (arith, old.1), old.2, old.3)
      | inr ne ↦ (k, omega arith, same, same_some (key_at keys k) key (sym (new ne) ∙ (ap next same ∙ is)))
    ]
    | inr other ↦
        let old = are.some q key (sym (kept q other) ∙ is) in
        (old.0, omega (arith, old.1), old.2, old.3)
  ];
}
  where
    same_some : (a b : Option ℕ) → ◌≡◌ {A = Option (Option ℕ)} (Some a) (Some b) → a ≡ b
    same_some a b is = cc

    new : value_at lines k ≢ 0 → next (value_at lines k) ≡ Some (key_at keys k)
    new ne =
        let v = value_at lines k in
        let passes : (not (v == 0) && v == v) ≡ true = grind (arith, nat_tests) in
        puts v ∙ ap (λ b. cond b (Some (key_at keys k)) (owner v)) passes

    kept : (q : ℕ) → (value_at lines k ≡ q → ⊥) → next q ≡ owner q
    kept q other =
        let fails : (not (value_at lines k == 0) && value_at lines k == q) ≡ false = grind (arith, nat_tests) in
        puts q ∙ ap (λ b. cond b (Some (key_at keys k)) (owner q)) fails

    unmoved : (q : ℕ) → value_at lines k ≡ 0 → next q ≡ owner q
    unmoved q zero =
        let fails : (not (value_at lines k == 0) && value_at lines k == q) ≡ false = grind (arith, nat_tests) in
        puts q ∙ ap (λ b. cond b (Some (key_at keys k)) (owner q)) fails

    before : (j : ℕ) → j < suc k → (value_at lines k ≡ value_at lines j → ⊥) → j < k
    before j lt other = elim (cases_eq j k) [ inl at ↦ absurd (other (ap (value_at lines) (sym at))) | inr ne ↦ omega arith ]
