-- How many stand below a value, by a sorted list of where the values of lines stand.
use Rattle.std.proofs.Common.{◌≡◌, ℕ, zero, suc, ◌<◌, ◌≤◌, Bool, true, false, cond, nat_lt, List, [], ◌∷◌, ◌++◌, length, slice_index_or, count_by, sym, ◌∙◌, arith, zero-le}
use Rattle.std.proofs.Math.Dec.{lit<}
use Rattle.std.proofs.lemmas.Bool.{le-ltb, lt-ltb}
use Rattle.std.proofs.lemmas.Bool.Decides.{nat_tests}
use Rattle.std.specs.List.Sorted.{IsPartitionPoint}
use Rattle.std.proofs.lemmas.List.Sums.{sum_by-cons, sum_by_push}
use Rattle.fdb_lines.specs.declared.line.Line.{Line}
use Rattle.fdb_values.specs.declared.standing.Standing.{Standing}
use Rattle.fdb_values.specs.declared.zones.Zone.{Zone}
use Rattle.fdb_values.specs.ByValue.{value_at}
use Rattle.fdb_values.specs.Standings.{HasStandings, HasZones, is_below, standing_number, zone_in}
use Rattle.fdb_values.specs.Zones.{key_of, stands_below, zone_key}
use Rattle.std.specs.BTreeMap.{BTreeMap}

abbrev pub no_standing : Standing
no_standing = record { key = 0; value = 0; fits = lit< tt }

-- the first of some things, by their numbers, are those below a mark
abbrev pub IsFrontBy : {X : Type 0} → (X → ℕ) → X → List X → ℕ → ℕ → Type 0
IsFrontBy key d xs moment front =
    ((i : ℕ) → i < front → key (slice_index_or xs i d) < moment)
    × ((i : ℕ) → front ≤ i → i < length xs → moment ≤ key (slice_index_or xs i d))

pub front_is : {X : Type 0} (key : X → ℕ) (d : X) (xs : List X) (moment front : ℕ)
    → IsPartitionPoint (λ x. nat_lt (key x) moment ≡ true) (λ x. nat_lt (key x) moment ≡ false) xs front → IsFrontBy key d xs moment front
front_is key d xs moment front point =
    (λ i below. let less = point.0 i d zero-le below in grind (arith, nat_tests), λ i above lt. let no_less = point.1 i d above lt in grind (arith, nat_tests))

abbrev adds : Bool → ℕ
adds b = cond b 1 0

-- as many pass a test as come before the first that does not, where none passes from there on
counted : {X : Type 0} (d : X) (test : X → Bool) (xs : List X) (front : ℕ) → front ≤ length xs → ((i : ℕ) → i < front → test (slice_index_or xs i d) ≡ true)
    → ((i : ℕ) → front ≤ i → i < length xs → test (slice_index_or xs i d) ≡ false) → count_by test xs ≡ front
counted d test [] front le passes fails = omega (arith, le)
counted d test (x ∷ xs) zero le passes fails =
    let rest = counted d test xs zero zero-le (λ i l. absurd (omega (arith, l))) (λ i from l. fails (suc i) zero-le (omega (arith, l))) in
    grind (arith, sum_by-cons (λ e. adds (test e)) x xs, fails zero zero-le (omega arith), rest)
counted d test (x ∷ xs) (suc front) le passes fails =
    let rest = counted d test xs front (omega (arith, le)) (λ i l. passes (suc i) (omega (arith, l))) (λ i from l. fails (suc i) (omega (arith, from)) (omega (arith, l))) in
    grind (arith, sum_by-cons (λ e. adds (test e)) x xs, passes zero (omega arith), rest)

-- one number orders as key and value do
numbers_order : (one other : Standing) → is_below one.key one.value other.key other.value ≡ nat_lt (standing_number one) (standing_number other)
numbers_order one other = grind (arith, nat_tests, one.fits, other.fits)

pub front_counts : (standings : List Standing) (mark : Standing) (front : ℕ) → front ≤ length standings
    → IsFrontBy standing_number no_standing standings (standing_number mark) front
    → front ≡ count_by (λ (one : Standing). is_below one.key one.value mark.key mark.value) standings
front_counts standings mark front le parts =
    sym (counted no_standing (λ (one : Standing). is_below one.key one.value mark.key mark.value) standings front le
    (λ i l. numbers_order (slice_index_or standings i no_standing) mark ∙ lt-ltb _ _ (parts.0 i l))
    (λ i from l. numbers_order (slice_index_or standings i no_standing) mark ∙ le-ltb _ _ (parts.1 i from l)))

-- ---- one line after another

pub count_more : (margin : ℕ) (lines : List Line) (k : ℕ) (standings : List Standing) (one : Standing) → one.key ≡ key_of margin lines (value_at lines k)
    → one.value ≡ value_at lines k → HasStandings margin lines k standings → HasStandings margin lines (suc k) (standings ++ one ∷ [])
count_more margin lines k standings one key value has v =
    let key_v = key_of margin lines v in
    let push = sum_by_push (λ (one : Standing). adds (is_below one.key one.value key_v v)) standings one in
    let here : adds (is_below one.key one.value key_v v) ≡ adds (stands_below (key_of margin lines) (value_at lines k) v) = λ i. adds (is_below (key i) (value i) key_v v) in
    omega (arith, push, here, has v)

-- the key of a value, by all zones
pub key_is : (margin : ℕ) (lines : List Line) (zones : BTreeMap ℕ Zone) (v : ℕ) → HasZones lines (length lines) zones
    → zone_key margin (zone_in zones v).first (zone_in zones v).last ≡ key_of margin lines v
key_is margin lines zones v has = λ i. zone_key margin ((has v).0 i) ((has v).1 i)
