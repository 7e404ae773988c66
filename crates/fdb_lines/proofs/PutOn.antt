-- Parts go on, one place after another.
use Rattle.std.proofs.Common.{◌≡◌, ◌≢◌, ℕ, ◌+◌, ◌<◌, ◌≤◌, List, [], ◌∷◌, ◌++◌, length, set, get_or, slice_index, refl, ap, sym, subst, ◌∙◌, inl, inr, arith, length-append}
use Rattle.std.specs.List.{All, AllPairs}
use Rattle.std.proofs.lemmas.Bool.{cases_eq, cases_lt}
use Rattle.std.proofs.lemmas.List.{get_or_append_left, get_or_push, get_or-set_other, get_or-set_same, length-set}
use Rattle.fdb_lines.specs.declared.key_part.KeyPart.{KeyPart}
use Rattle.fdb_lines.specs.declared.key_part.SettledKey.{SettledKey}
use Rattle.fdb_lines.specs.private.KeyParts.{IsGiven, IsNextOf}

-- one more that goes on
pub next_more : (at : ℕ) (parts : List KeyPart) (places : List ℕ) (n : ℕ) (nexts : List KeyPart) (entries : List SettledKey) (next : KeyPart) (entry : SettledKey)
    → length nexts ≡ n → length entries ≡ n
    → ((j : ℕ) (d e : KeyPart) (f : SettledKey) → j < n → IsNextOf at (get_or parts (slice_index places j) d) (get_or nexts j e) (get_or entries j f))
    → ((d : KeyPart) → IsNextOf at (get_or parts (slice_index places n) d) next entry)
    → (j : ℕ) (d e : KeyPart) (f : SettledKey) → j < n + 1
    → IsNextOf at (get_or parts (slice_index places j) d) (get_or (nexts ++ next ∷ []) j e) (get_or (entries ++ entry ∷ []) j f)
next_more at parts places n nexts entries next entry size too before here j d e f lt = elim (cases_lt j n) [
  | inl old ↦
      subst (λ (it : KeyPart). IsNextOf at (get_or parts (slice_index places j) d) it (get_or (entries ++ entry ∷ []) j f)) (sym (get_or_append_left nexts (next ∷ []) e j (omega arith)))
      (subst (IsNextOf at (get_or parts (slice_index places j) d) (get_or nexts j e)) (sym (get_or_append_left entries (entry ∷ []) f j (omega arith))) (before j d e f old))
  | inr ge ↦
      let is : n ≡ j = omega arith in
      subst (λ (it : KeyPart). IsNextOf at (get_or parts (slice_index places j) d) it (get_or (entries ++ entry ∷ []) j f)) (sym (get_or_push nexts next e j (omega arith)))
      (subst (IsNextOf at (get_or parts (slice_index places j) d) next) (sym (get_or_push entries entry f j (omega arith)))
      (subst (λ m. IsNextOf at (get_or parts (slice_index places m) d) next entry) is (here d)))
]

-- Those from a place on are put; some are left.
pub record PutSoFar (places : List ℕ) (old nexts : List KeyPart) (entries : List SettledKey) (left parts : List KeyPart) (given : List SettledKey) : Type 0 where
  pub fewer : length left ≤ length places
  pub same : (j : ℕ) (d : KeyPart) → j < length left → get_or left j d ≡ get_or nexts j d
  pub as_many : length parts ≡ length old
  pub entries_too : length given ≡ length entries
  pub put : (j : ℕ) (d : KeyPart) → length left ≤ j → j < length places → get_or parts (slice_index places j) d ≡ get_or nexts j d
  pub others : (i : ℕ) (d : KeyPart) → ((j : ℕ) → length left ≤ j → j < length places → slice_index places j ≢ i) → get_or parts i d ≡ get_or old i d
  pub its : (j : ℕ) (d : KeyPart) (e : SettledKey) → length left ≤ j → j < length places
      → IsGiven (get_or old (slice_index places j) d) (get_or entries j e) (get_or given j e)
  pub rest : (j : ℕ) (e : SettledKey) → j < length left → get_or given j e ≡ get_or entries j e

module _ (places : List ℕ) (old nexts : List KeyPart) (entries : List SettledKey) (left : List KeyPart) (next : KeyPart) (parts : List KeyPart) (given : List SettledKey) (one : SettledKey)
    (once : AllPairs (λ i j. i ≢ j) places) (within : All (λ i. i < length old) places) (sizes : length entries ≡ length places)
    (far : PutSoFar places old nexts entries (left ++ next ∷ []) parts given)
    (here : (d : KeyPart) (e : SettledKey) → IsGiven (get_or parts (slice_index places (length left)) d) (get_or given (length left) e) one) where
  abbrev n : ℕ
  n = length left

  abbrev place : ℕ
  place = slice_index places n

  size : length (left ++ next ∷ []) ≡ n + 1
  size = length-append left (next ∷ [])

  inside : n < length places
  inside = let fewer = far.fewer in omega (arith, size)

  there : place < length parts
  there = let lt = within n 0 inside in let many = far.as_many in omega arith

  last : (d : KeyPart) → get_or nexts n d ≡ next
  last d = sym (far.same n d (omega (arith, size))) ∙ get_or_push left next d n refl

  put_at : (j : ℕ) (d : KeyPart) → n ≤ j → j < length places → get_or (set parts place next) (slice_index places j) d ≡ get_or nexts j d
  put_at j d ge lt = elim (cases_eq j n) [
    | inl same ↦
        ap (λ m. get_or (set parts place next) (slice_index places m) d) same
        ∙ (get_or-set_same parts place next d there ∙ (sym (last d) ∙ ap (λ m. get_or nexts m d) (sym same)))
    | inr other ↦
        let less : n < j = omega arith in
        let away : slice_index places j ≢ place = λ is. once n j 0 less lt (sym is) in
        get_or-set_other parts place (slice_index places j) next d away ∙ far.put j d (omega (arith, size)) lt
  ]

  given_at : (j : ℕ) (d : KeyPart) (e : SettledKey) → n ≤ j → j < length places
      → IsGiven (get_or old (slice_index places j) d) (get_or entries j e) (get_or (set given n one) j e)
  given_at j d e ge lt = elim (cases_eq j n) [
    | inl same ↦
        let was : get_or parts place d ≡ get_or old place d = far.others place d (λ k from less is.
        once n k 0 (omega (arith, size)) less (sym is)) in
        let entry : get_or given n e ≡ get_or entries n e = far.rest n e (omega (arith, size)) in
        let many = far.entries_too in
        let now : get_or (set given n one) n e ≡ one = get_or-set_same given n one e (omega arith) in
        subst (λ m. IsGiven (get_or old (slice_index places m) d) (get_or entries m e) (get_or (set given n one) m e)) (sym same)
        (subst (IsGiven (get_or old place d) (get_or entries n e)) (sym now)
        (subst (λ (x : SettledKey). IsGiven (get_or old place d) x one) entry (subst (λ (x : KeyPart). IsGiven x (get_or given n e) one) was (here d e))))
    | inr other ↦
        subst (IsGiven (get_or old (slice_index places j) d) (get_or entries j e)) (sym (get_or-set_other given n j one e other)) (far.its j d e (omega (arith, size)) lt)
  ]

  pub put_more : PutSoFar places old nexts entries left (set parts place next) (set given n one)
  put_more = record {
    fewer = omega (arith, inside);
    same = λ j d lt. sym (get_or_append_left left (next ∷ []) d j lt) ∙ far.same j d (omega (arith, size));
    as_many = length-set parts place next ∙ far.as_many;
    entries_too = length-set given n one ∙ far.entries_too;
    put = put_at;
    others = λ i d away. get_or-set_other parts place i next d (λ is. away n (omega arith) inside (sym is)) ∙ far.others i d (λ j from lt. away j (omega (arith, size)) lt);
    its = given_at;
    rest = λ j e lt. get_or-set_other given n j one e (λ is. omega arith) ∙ far.rest j e (omega (arith, size));
  }
