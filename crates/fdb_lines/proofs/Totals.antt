-- Sums over the parts of a log.
use Rattle.std.proofs.Common.{◌≡◌, ℕ, zero, suc, ◌+◌, ◌*◌, ◌<◌, ◌≤◌, Bool, true, false, cond, List, [], ◌∷◌, Option, None, Some, length, take, get_or, refl, ap, ◌∙◌, arith, zero-le}
use Rattle.std.specs.List.{All, sum_by}
use Rattle.std.proofs.lemmas.List.{length-map}
use Rattle.std.proofs.lemmas.List.Elements.{All-head, All-tail}
use Rattle.std.proofs.lemmas.List.Sums.{sum_by-cons, sum_by_more, sum_by_more_le}
use Rattle.fdb_lines.specs.declared.log.AuditOpts.{AuditOpts}
use Rattle.fdb_lines.specs.declared.log.Part.{Part}
use Rattle.fdb_lines.specs.Audit.{case_of}
use Rattle.fdb_lines.specs.Keys.{case_of_key, keys_of, lines_of_key, places_of}
use Rattle.fdb_lines.specs.Lines.{line_at, part_of, Lines}
use Rattle.fdb_lines.specs.Summary.{is_first_of_others, ordered, ordered_by_key, sum_below, tally, unreported}
use Rattle.fdb_lines.specs.private.Keys.{keys_in}
use Rattle.fdb_lines.specs.private.KeySums.{lines_in_all, ordered_if, ordered_of, unreported_of, ArePartsOf}
use Rattle.fdb_lines.proofs.Keyed.{of_key}
use Rattle.fdb_lines.proofs.Tallies.{tally_most}

-- ---- how much they are at most

below_most : (f : ℕ → ℕ) (most n : ℕ) → most ≤ 4294967295 → ((k : ℕ) → f k ≤ most) → sum_below f n ≤ n * 4294967295
below_most f most zero few le = zero-le
below_most f most (suc n) few le = let below = below_most f most n few le in let here = le n in omega arith

at_most : (b : Bool) (n most : ℕ) → n ≤ most → cond b n 0 ≤ most
at_most true n most le = le
at_most false n most le = zero-le

pub few_pairs : (log : Lines) (opts : AuditOpts) (part : Part) → length part.places.items ≤ 4294967295
    → ordered_of log opts part ≤ length part.places.items * 4294967295
few_pairs log opts part few =
    let c = case_of (part_of log part.places.items) opts in
    let n = length c.lines in
    let size : n ≡ length part.places.items = length-map part.places.items (line_at log.lines) in
    let most = below_most (λ k. tally (λ j. c.before j k) n) n n (omega arith) (λ k. tally_most (λ j. c.before j k) n) in
    at_most log.timed (ordered c) (length part.places.items * 4294967295) (omega arith)

pub few_unreported : (log : Lines) (opts : AuditOpts) (part : Part) → unreported_of log opts part ≤ length part.places.items
few_unreported log opts part =
    let c = case_of (part_of log part.places.items) opts in
    let size = length-map part.places.items (line_at log.lines) in
    let most = tally_most (is_first_of_others c) (length c.lines) in
    omega arith

-- one part more
abbrev pub size_of : Part → ℕ
size_of part = length part.places.items

pub part_more : (parts : List Part) (i : ℕ) (part : Part) → lines_in_all parts ≤ 4294967295 → i < length parts → part ≡ get_or parts i part
    → (lines_in_all (take i parts) + size_of part ≤ 4294967295) × (lines_in_all (take (i + 1) parts) ≡ lines_in_all (take i parts) + size_of part)
part_more parts i part few lt is =
    let more = sum_by_more size_of parts i part lt in
    let le = sum_by_more_le size_of parts i part lt in
    let here : size_of part ≡ size_of (get_or parts i part) = ap size_of is in
    (omega arith, omega arith)

pub sum_more : (f : Part → ℕ) (parts : List Part) (i : ℕ) (part : Part) (sum n : ℕ) → i < length parts → part ≡ get_or parts i part
    → sum ≡ sum_by f (take i parts) → n ≡ f part → sum + n ≡ sum_by f (take (i + 1) parts)
sum_more f parts i part sum n lt is was more =
    let next = sum_by_more f parts i part lt in
    let here : f part ≡ f (get_or parts i part) = ap f is in
    omega arith

-- ---- over keys

-- a sum over parts is one over their keys
pub sum_by_keys : (f : Part → ℕ) (g : Option ℕ → ℕ) (parts : List Part) → All (λ (part : Part). f part ≡ g part.key) parts → sum_by f parts ≡ sum_by g (keys_in parts)
sum_by_keys f g [] all = refl
sum_by_keys f g (part ∷ parts) all =
    let P = λ (part : Part). f part ≡ g part.key in
    let rest = sum_by_keys f g parts (All-tail P part parts all) in
    let here = All-head P part parts all in
    let one = sum_by-cons f part parts in
    let other = sum_by-cons g part.key (keys_in parts) in
    omega arith

pub unreported_is : (log : Lines) (keys : List (Option ℕ)) (opts : AuditOpts) (parts : List Part) → keys_in parts ≡ keys_of keys
    → All (λ (part : Part). part.places.items ≡ places_of keys part.key) parts
    → sum_by (unreported_of log opts) parts ≡ sum_by (λ key. unreported (case_of_key log keys opts key)) (keys_of keys)
unreported_is log keys opts parts are all =
    sum_by_keys (unreported_of log opts) (λ key. unreported (case_of_key log keys opts key)) parts
    (λ i d lt. ap (λ (places : List ℕ). unreported (case_of (part_of log places) opts)) (all i d lt))
    ∙ ap (sum_by (λ key. unreported (case_of_key log keys opts key))) are

timed_sum : (b : Bool) (f : Option ℕ → ℕ) (keys : List (Option ℕ))
    → cond b (Some (sum_by (λ key. cond b (f key) 0) keys)) None ≡ cond b (Some (sum_by f keys)) None
timed_sum true f keys = refl
timed_sum false f keys = refl

pub ordered_is : (log : Lines) (keys : List (Option ℕ)) (opts : AuditOpts) (parts : List Part) → keys_in parts ≡ keys_of keys
    → All (λ (part : Part). part.places.items ≡ places_of keys part.key) parts
    → cond log.timed (Some (sum_by (ordered_of log opts) parts)) None ≡ cond log.timed (Some (ordered_by_key log keys opts)) None
ordered_is log keys opts parts are all =
    let sum : sum_by (ordered_of log opts) parts ≡ sum_by (λ key. ordered_if (lines_of_key log keys key) opts) (keys_of keys) =
    sum_by_keys (ordered_of log opts) (λ key. ordered_if (lines_of_key log keys key) opts) parts
    (λ i d lt. ap (λ (places : List ℕ). ordered_if (part_of log places) opts) (all i d lt))
    ∙ ap (sum_by (λ key. ordered_if (lines_of_key log keys key) opts)) are in
    ap (λ (n : ℕ). cond log.timed (Some n) None) sum ∙ timed_sum log.timed (λ key. ordered (case_of_key log keys opts key)) (keys_of keys)

pub are_parts : (log : Lines) (keys : List (Option ℕ)) (parts : List Part) → length keys ≡ length log.lines → length log.lines ≤ 4294967295 → lines_in_all parts ≡ length keys
    → All (λ (part : Part). part.places.items ≡ places_of keys part.key) parts → ArePartsOf log parts
are_parts log keys parts as_many few lines all = (
  omega arith,
  λ i d lt j less. let inside = (of_key keys (get_or parts i d).key (get_or parts i d).places.items (all i d lt) j less).0 in omega arith,
)
