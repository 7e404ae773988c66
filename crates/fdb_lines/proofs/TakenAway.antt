-- Where two lists of faults have the same elements, and the same are taken from both, the rest have the same.
use Rattle.std.proofs.Common.{◌≡◌, ◌∙◌, ℕ, zero, suc, ◌+◌, ◌*◌, ◌<◌, Bool, cond, List, [], ◌∷◌, ◌++◌, Option, Some, length, get_or, refl, ap, sym, subst, arith}
use Rattle.std.specs.Prelude.{◌==◌, IsPermutation}
use Rattle.std.specs.Option.{option_eq}
use Rattle.std.specs.List.{filter, sum_by}
use Rattle.std.proofs.lemmas.List.Elements.{filter_passes}
use Rattle.std.proofs.lemmas.List.Sorted.{IsPermutation-refl, sum_by-IsPermutation}
use Rattle.std.proofs.lemmas.List.Sums.{length-filter, sum_by-append}
use Rattle.std.proofs.lemmas.Option.{same_Some}
use Rattle.fdb_lines.specs.declared.fault.Fault.{Fault}
use Rattle.fdb_lines.specs.declared.fault.Fault.TheVariants.{Order, Wrong, NotAbove, Twice, Stray}
use Rattle.fdb_lines.specs.declared.fault.Found.{Found}
use Rattle.fdb_lines.proofs.Keyed.{same_is}
use Rattle.fdb_lines.proofs.Permuted.{permuted_by_key}

-- ---- each fault has a number of its own

number_of : Fault → ℕ
number_of Order = 0
number_of Wrong = 1
number_of NotAbove = 2
number_of Twice = 3
number_of Stray = 4

few : (fault : Fault) → number_of fault < 5
unfolding number_of
few Order = omega arith
few Wrong = omega arith
few NotAbove = omega arith
few Twice = omega arith
few Stray = omega arith

fault_of : ℕ → Fault
fault_of zero = Order
fault_of (suc zero) = Wrong
fault_of (suc (suc zero)) = NotAbove
fault_of (suc (suc (suc zero))) = Twice
fault_of (suc (suc (suc (suc n)))) = Stray

numbered : (fault : Fault) → fault_of (number_of fault) ≡ fault
unfolding number_of fault_of
numbered Order = refl
numbered Wrong = refl
numbered NotAbove = refl
numbered Twice = refl
numbered Stray = refl

code : Found → Option ℕ
code found = Some (5 * found.place + number_of found.fault)

same_numbers : (l m f g : ℕ) → f < 5 → g < 5 → 5 * l + f ≡ 5 * m + g → (l ≡ m) × (f ≡ g)
same_numbers l m f g lf lg same = (omega arith, omega arith)

same_found : (one other : Found) → code one ≡ code other → one ≡ other
unfolding code
same_found one other same =
    let are = same_numbers one.place other.place (number_of one.fault) (number_of other.fault) (few one.fault) (few other.fault) (same_Some _ _ same) in
    let faults : one.fault ≡ other.fault = sym (numbered one.fault) ∙ (ap fault_of are.1 ∙ numbered other.fault) in
    λ i. record { place = are.0 i; fault = faults i }

-- ---- as many of each

as_many : (p : Found → Bool) (was now others : List Found) → IsPermutation (was ++ now) (was ++ others) → length (filter p now) ≡ length (filter p others)
as_many p was now others same =
    let one : Found → ℕ = λ found. cond (p found) 1 0 in
    let sums : sum_by one (was ++ others) ≡ sum_by one (was ++ now) = sum_by-IsPermutation one (was ++ now) (was ++ others) same in
    let a : sum_by one (was ++ now) ≡ sum_by one was + sum_by one now = sum_by-append one was now in
    let b : sum_by one (was ++ others) ≡ sum_by one was + sum_by one others = sum_by-append one was others in
    let c : length (filter p now) ≡ sum_by one now = length-filter p now in
    let d : length (filter p others) ≡ sum_by one others = length-filter p others in
    omega arith

all_one : (xs ys : List Found) → length xs ≡ length ys → ((k j : ℕ) (d e : Found) → k < length xs → j < length ys → get_or xs k d ≡ get_or ys j e) → xs ≡ ys
all_one [] [] many one = refl
all_one [] (y ∷ ys) many one = absurd (omega arith)
all_one (x ∷ xs) [] many one = absurd (omega arith)
all_one (x ∷ xs) (y ∷ ys) many one = λ i.
    one 0 0 x y (omega arith) (omega arith) i ∷ all_one xs ys (omega (arith, many)) (λ k j d e lk lj. one (suc k) (suc j) d e (omega (arith, lk)) (omega (arith, lj))) i

pub the_rest : (was now others : List Found) → IsPermutation (was ++ now) (was ++ others) → IsPermutation now others
the_rest was now others same =
    permuted_by_key code (length now) now others (omega arith) (λ q.
    let of = λ (found : Found). option_eq ◌==◌ (code found) q in
    let mine = filter of now in
    let theirs = filter of others in
    let are = all_one mine theirs (as_many of was now others same) (λ k j d e lk lj.
    let one = get_or mine k d in
    let other = get_or theirs j e in
    same_found one other (same_is (code one) q (filter_passes of now k d lk) ∙ sym (same_is (code other) q (filter_passes of others j e lj)))) in
    subst (IsPermutation mine) are (IsPermutation-refl mine))
