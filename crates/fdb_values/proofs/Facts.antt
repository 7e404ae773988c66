-- What holds by the definitions of fdb_lines, as that crate has it for itself.
use Rattle.std.specs.Option.{option_eq}
use Rattle.std.proofs.Common.{◌≡◌, ◌⊎◌, ◌==◌, ◌&&◌, nat_lt, ℕ, zero, suc, ◌<◌, ◌≤◌, Bool, true, false, cond, List, [], ◌∷◌, ◌++◌, ◌+◌, ◌*◌, Option, None, Some, length, slice_index, refl, ap, sym, subst, ◌∙◌, inl, inr, arith, append-nil, length-append}
use Rattle.std.proofs.Math.Nat.{mul-le-mul_left}
use Rattle.std.proofs.lemmas.Bool.{and_from, both_ways, cases_lt, eqb-true, false_from_ne_true}
use Rattle.std.proofs.lemmas.Bool.Decides.{nat_tests}
use Rattle.std.proofs.lemmas.List.{get_or-map, get_or_append_left, get_or_push}
use Rattle.fdb_lines.specs.declared.fault.Fault.TheVariants.{Order, Wrong}
use Rattle.fdb_lines.specs.declared.line.Line.{Line}
use Rattle.fdb_lines.specs.declared.log.AuditOpts.{AuditOpts}
use Rattle.fdb_lines.specs.Audit.{case_of}
use Rattle.fdb_lines.specs.Before.{began, by_time, ended, one_client}
use Rattle.fdb_lines.specs.Carried.{with_times}
use Rattle.fdb_lines.specs.Faults.{IsFaultless, greatest_of, is_reported, knows, some_below}
use Rattle.fdb_lines.specs.Keys.{key_at, places_below, places_of}
use Rattle.fdb_lines.specs.Lines.{Case, Read, kind_at, line_at, lines_in, nobody, reports, shows, version_at}
use Rattle.fdb_lines.specs.Order.{IsRanked, needs_report, rank_of}

-- ---- the greatest of some numbers, and tests on numbers below one

pub greatest_bound : (test : ℕ → Bool) (f : ℕ → ℕ) (n i : ℕ) → i < n → test i ≡ true → f i ≤ greatest_of test f n
greatest_bound test f zero i h p = absurd (omega arith)
greatest_bound test f (suc n) i h p = let rest = greatest_bound test f n i in grind arith

-- the greatest is of one that passes, or is 0
pub greatest_among : (test : ℕ → Bool) (f : ℕ → ℕ) (n : ℕ) → (greatest_of test f n ≡ 0) ⊎ ((i : ℕ) × (i < n) × (test i ≡ true) × (f i ≡ greatest_of test f n))
greatest_among test f zero = inl refl
greatest_among test f (suc n) =
    elim (cases_lt (greatest_of test f n) (cond (test n) (f n) 0)) [
      | inl more ↦ inr (n, omega arith, let p : test n ≡ true = grind arith in p, grind arith)
      | inr less ↦ elim (greatest_among test f n) [ inl none ↦ inl (omega arith) | inr some ↦ inr (some.0, omega (arith, some.1), some.2, omega (arith, some.3)) ]
    ]

pub some_at : (test : ℕ → Bool) (n i : ℕ) → i < n → test i ≡ true → some_below test n ≡ true
some_at test zero i h p = absurd (omega arith)
some_at test (suc n) i h p = let rest = some_at test n i in grind arith

pub some_find : (test : ℕ → Bool) (n : ℕ) → some_below test n ≡ true → (i : ℕ) × (i < n) × (test i ≡ true)
some_find test zero h = absurd (both_ways false refl h)
some_find test (suc n) h = let rest = some_find test n in grind arith

pub none_at : (test : ℕ → Bool) (n i : ℕ) → some_below test n ≡ false → i < n → test i ≡ false
none_at test n i none h = false_from_ne_true (test i) (λ p. both_ways (some_below test n) none (some_at test n i h p))

-- ---- of lines without a fault

-- whether a line raises the register to a version
abbrev pub raises_it : Case → ℕ → ℕ → Bool
raises_it c v j = reports (kind_at c j) && (version_at c j == v && nat_lt (knows c j) v)

pub shown_known : (c : Case) (j k : ℕ) → j < length c.lines → c.before j k ≡ true → shows (kind_at c j) ≡ true → version_at c j ≤ knows c k
shown_known c j k lj b s =
    let h = greatest_bound (λ i. c.before i k && shows (kind_at c i)) (version_at c) (length c.lines) j lj (and_from _ _ b s) in
    omega arith

pub no_order : (c : Case) → IsFaultless c → (k : ℕ) → k < length c.lines → kind_at c k ≡ Read → knows c k ≤ version_at c k
no_order c none k lk is = let f = none Order k lk in grind (arith, nat_tests)

pub no_wrong : (c : Case) → IsFaultless c → (k : ℕ) → k < length c.lines → kind_at c k ≡ Read
    → (version_at c k ≡ c.start)
    ⊎ (((j : ℕ) × (j < length c.lines) × (raises_it c (version_at c k) j ≡ true))
    ⊎ ((c.complete ≡ false) × (is_reported c (version_at c k) ≡ false) × (needs_report c k ≡ true)))
no_wrong c none k lk is =
    let f = none Wrong k lk in
    let some = some_find (raises_it c (version_at c k)) (length c.lines) in
    grind (arith, nat_tests)

-- ---- of lines of a key

pub at_part : (lines : List Line) (places : List ℕ) (i : ℕ) → i < length places → line_at (lines_in lines places) i ≡ line_at lines (slice_index places i)
at_part lines places i lt = get_or-map (line_at lines) places i 0 nobody lt

pub same_is : (a b : Option ℕ) → option_eq ◌==◌ a b ≡ true → a ≡ b
same_is None None h = refl
same_is None (Some b) h = absurd (both_ways false refl h)
same_is (Some a) None h = absurd (both_ways false refl h)
same_is (Some a) (Some b) h = ap (λ (k : ℕ). Some k) (eqb-true a b h)

pub same_self : (a : Option ℕ) → option_eq ◌==◌ a a ≡ true
same_self None = refl
same_self (Some a) = grind (arith, nat_tests)

-- a place has a line of the key, of which so many stand above
abbrev pub IsPlaceOf : List (Option ℕ) → Option ℕ → ℕ → ℕ → ℕ → Type 0
IsPlaceOf keys key n j k = (k < n) × (option_eq ◌==◌ (key_at keys k) key ≡ true) × (length (places_below keys key k) ≡ j)

further : (keys : List (Option ℕ)) (key : Option ℕ) (n j k : ℕ) → IsPlaceOf keys key n j k → IsPlaceOf keys key (suc n) j k
further keys key n j k is = let lt = is.0 in (omega arith, is.1, is.2)

-- one place more, where a line of the key stands
place_more : (keys : List (Option ℕ)) (key : Option ℕ) (n : ℕ) (b : Bool) → option_eq ◌==◌ (key_at keys n) key ≡ b
    → ((j : ℕ) → j < length (places_below keys key n) → IsPlaceOf keys key n j (slice_index (places_below keys key n) j))
    → (j : ℕ) → j < length (places_below keys key n ++ cond b (n ∷ []) [])
    → IsPlaceOf keys key (suc n) j (slice_index (places_below keys key n ++ cond b (n ∷ []) []) j)
place_more keys key n true same are j lt =
    let before = places_below keys key n in
    let len = length-append before (n ∷ []) in
    elim (cases_lt j (length before)) [
      | inl old ↦ rw (get_or_append_left before (n ∷ []) 0 j old) (further keys key n j _ (are j old))
      | inr ge ↦
          let at : length before ≡ j = omega arith in
          rw (get_or_push before n 0 j at) (omega arith, same, at)
    ]
place_more keys key n false other are j lt =
    let before = places_below keys key n in
    let old : j < length before = rw append-nil at lt in
    rw append-nil (further keys key n j _ (are j old))

pub place_is : (keys : List (Option ℕ)) (key : Option ℕ) (n j : ℕ) → j < length (places_below keys key n)
    → IsPlaceOf keys key n j (slice_index (places_below keys key n) j)
place_is keys key zero j lt = absurd (omega arith)
place_is keys key (suc n) j lt = place_more keys key n (option_eq ◌==◌ (key_at keys n) key) refl (place_is keys key n) j lt

-- each line of the key has a place
abbrev pub HasPlace : List (Option ℕ) → Option ℕ → ℕ → List ℕ → Type 0
HasPlace keys key k places = (length (places_below keys key k) < length places) × (slice_index places (length (places_below keys key k)) ≡ k)

has_more : (keys : List (Option ℕ)) (key : Option ℕ) (n k : ℕ) (b : Bool) → option_eq ◌==◌ (key_at keys n) key ≡ b → option_eq ◌==◌ (key_at keys k) key ≡ true → k < suc n
    → (k < n → HasPlace keys key k (places_below keys key n)) → HasPlace keys key k (places_below keys key n ++ cond b (n ∷ []) [])
has_more keys key n k true here same lt has =
    let before = places_below keys key n in
    let len = length-append before (n ∷ []) in
    elim (cases_lt k n) [
      | inl old ↦ let is = has old in let within = is.0 in (omega arith, get_or_append_left before (n ∷ []) 0 _ within ∙ is.1)
      | inr ge ↦
          let at : k ≡ n = omega arith in
          let size : length (places_below keys key k) ≡ length before = ap (λ m. length (places_below keys key m)) at in
          (omega arith, get_or_push before n 0 _ (sym size) ∙ sym at)
    ]
has_more keys key n k false other same lt has =
    let old : k < n = elim (cases_lt k n) [
      | inl old ↦ old
      | inr ge ↦ let at : k ≡ n = omega arith in absurd (both_ways _ other (sym (ap (λ m. option_eq ◌==◌ (key_at keys m) key) at) ∙ same))
    ] in
    rw append-nil (has old)

pub has_place : (keys : List (Option ℕ)) (key : Option ℕ) (n k : ℕ) → option_eq ◌==◌ (key_at keys k) key ≡ true → k < n → HasPlace keys key k (places_below keys key n)
has_place keys key zero k same lt = absurd (omega arith)
has_place keys key (suc n) k same lt = has_more keys key n k (option_eq ◌==◌ (key_at keys n) key) refl same lt (λ old. has_place keys key n k same old)

-- no two of them are one
pub apart : (keys : List (Option ℕ)) (key : Option ℕ) (n i j : ℕ) → i < length (places_below keys key n) → j < length (places_below keys key n)
    → slice_index (places_below keys key n) i ≡ slice_index (places_below keys key n) j → i ≡ j
apart keys key n i j li lj same =
    sym (place_is keys key n i li).2 ∙ (ap (λ k. length (places_below keys key k)) same ∙ (place_is keys key n j lj).2)

-- some places are those of a key
pub of_key : (keys : List (Option ℕ)) (key : Option ℕ) (places : List ℕ) → places ≡ places_of keys key → (j : ℕ) → j < length places
    → (slice_index places j < length keys) × (key_at keys (slice_index places j) ≡ key)
of_key keys key places is j lt =
    subst (λ (ps : List ℕ). (j : ℕ) → j < length ps → (slice_index ps j < length keys) × (key_at keys (slice_index ps j) ≡ key)) (sym is)
    (λ i less. let it = place_is keys key (length keys) i less in (it.0, same_is _ _ it.1)) j lt

-- ---- of lines with times

-- a line had ended before another began, by time or by their client
abbrev IsBefore : ℕ → Line → ℕ → Line → ℕ → ℕ → Type 0
IsBefore margin one j other k end =
    (end + margin < began other) ⊎ ((one_client one.client other.client ≡ true) × ((end < began other) ⊎ ((j < k) × (end ≡ began other))))

opened : (margin : ℕ) (lines : List Line) (j k : ℕ) → by_time margin lines j k ≡ true
    → (end : ℕ) × (ended (line_at lines j) ≡ Some end) × (began (line_at lines j) ≤ end) × IsBefore margin (line_at lines j) j (line_at lines k) k end
opened margin lines j k h = grind (arith, nat_tests)

closed : (margin : ℕ) (lines : List Line) (j k end : ℕ) → ended (line_at lines j) ≡ Some end → IsBefore margin (line_at lines j) j (line_at lines k) k end
    → by_time margin lines j k ≡ true
closed margin lines j k end e h = grind (arith, nat_tests)

-- a rank is first by one number, and then by place
ranks : (n a b j k : ℕ) → j < n → (a < b) ⊎ ((a ≤ b) × (j < k)) → n * a + j < n * b + k
ranks n a b j k lt (inl less) = let m = mul-le-mul_left n (let h : a + 1 ≤ b = omega arith in h) in omega arith
ranks n a b j k lt (inr same) = let m = mul-le-mul_left n same.0 in omega arith

pub ranked : (lines : List Line) (opts : AuditOpts) → IsRanked (case_of (with_times lines) opts) (rank_of true lines)
ranked lines opts = record {
  transitive = λ i j k li lj lk p q.
      let a = opened opts.margin lines i j p in
      let b = opened opts.margin lines j k q in
      closed opts.margin lines i k a.0 a.1 (grind (arith, nat_tests));
  climbs = λ j k lj lk p. let a = opened opts.margin lines j k p in ranks (length lines) _ _ j k lj (grind arith);
  apart = λ j k lj lk same.
      let less = ranks (length lines) (began (line_at lines j)) (began (line_at lines k)) j k lj in
      let more = ranks (length lines) (began (line_at lines k)) (began (line_at lines j)) k j lk in
      grind arith;
}
