-- Throttles are forgotten.
use Rattle.std.proofs.Common.{◌≡◌, ℕ, ◌<◌, ◌≤◌, nat_lt, inl, inr, true, false, List, [], ◌∷◌, ◌++◌, Option, None, Some, refl, sym, ap, ◌∙◌, arith}
use Rattle.std.specs.Prelude.{filter, All}
use Rattle.std.specs.Str.{bytes_eq}
use Rattle.std.specs.List.{AllByRecursion}
use Rattle.std.specs.List.Sorted.{IsStrictlySortedBy}
use Rattle.std.specs.Map.{keys_of}
use Rattle.std.specs.Global.{Vec}
use Rattle.std.specs.declared.cmp.Ordering.TheVariants.{Less}
use Rattle.std.proofs.lemmas.Bool.{cases_Bool}
use Rattle.std.proofs.lemmas.Bool.Decides.{nat_tests}
use Rattle.std.proofs.lemmas.Slice.Eq.{bytes_eq-Decides}
use Rattle.std.proofs.lemmas.List.Elements.{All-map, All-append, All-weaker, filter_passes}
use Rattle.std.proofs.lemmas.Map.Keys.{sorted_head, sorted_tail}
use Rattle.fdb_history.specs.declared.log.Priority.{Priority}
use Rattle.fdb_history.specs.declared.log.Priority.TheVariants.{System, Default, Batch}
use Rattle.fdb_history.specs.declared.log.TagLimit.{TagLimit}
use Rattle.fdb_queue.specs.declared.throttles.Limit.{Limit}
use Rattle.fdb_queue.specs.declared.throttles.Throttle.{Throttle}
use Rattle.fdb_queue.specs.private.Kinds.{kept_for}
use Rattle.fdb_queue.specs.Throttles.{last_set, still_set, unexpired, IsLeftAt, SameFrom}
use Rattle.fdb_queue.proofs.Keeping.{all_entries, keys_cmp, last_set-all, same_tags}
use Rattle.fdb_queue.proofs.Leaving.{is_own}

-- what is left of a map's entries
abbrev pub left_of : ℕ → List (Vec ℕ × Limit) → List (Vec ℕ × Limit)
left_of at entries = filter (λ entry. nat_lt at entry.1.expires) entries

-- behind a key in order no other entry has its tag
absent : (priority : Priority) (key : Vec ℕ) (tag : List ℕ) (at : ℕ) (entries : List (Vec ℕ × Limit)) → tag ≡ key.items → AllByRecursion (λ other. keys_cmp key other ≡ Less) (keys_of entries)
    → last_set (kept_for priority (left_of at entries)) priority tag ≡ None
absent priority key tag at [] same behind = refl
absent priority key tag at (e ∷ es) same behind =
    let differ : bytes_eq tag e.0.items ≡ false = rw same (sym (same_tags key e.0 Less behind.0)) in
    elim (cases_Bool (nat_lt at e.1.expires)) [
      | inl later ↦ rw (later, is_own priority, differ) (absent priority key tag at es same behind.1)
      | inr over ↦ rw over (absent priority key tag at es same behind.1)
    ]

pub left_in : (priority : Priority) (tag : List ℕ) (at : ℕ) (entries : List (Vec ℕ × Limit)) → IsStrictlySortedBy keys_cmp (keys_of entries)
    → last_set (kept_for priority (left_of at entries)) priority tag ≡ still_set at (last_set (kept_for priority entries) priority tag)
left_in priority tag at [] ordered = refl
left_in priority tag at (e ∷ es) ordered =
    let head = sorted_head keys_cmp e.0 (keys_of es) ordered in
    let rest = left_in priority tag at es (sorted_tail keys_cmp e.0 (keys_of es) ordered) in
    elim (cases_Bool (bytes_eq tag e.0.items)) [
      | inl same ↦ (let equal : tag ≡ e.0.items = (bytes_eq-Decides tag e.0.items).0 same in
          elim (cases_Bool (nat_lt at e.1.expires)) [
            | inl later ↦ rw (later, is_own priority, same, later) refl
            | inr over ↦ rw (over, is_own priority, same, over) (absent priority e.0 tag at es equal head)
          ])
      | inr differ ↦ elim (cases_Bool (nat_lt at e.1.expires)) [
        | inl later ↦ rw (later, is_own priority, differ) rest
        | inr over ↦ rw (over, is_own priority, differ) rest
      ]
    ]

holds_later : (at expires : ℕ) → nat_lt at expires ≡ true → at < expires
holds_later at expires later = grind (arith, nat_tests)

pub left_unexpired : (at : ℕ) (entries : List (Vec ℕ × Limit)) → All (λ entry. at < entry.1.expires) (left_of at entries)
left_unexpired at entries =
    All-weaker (λ entry. nat_lt at entry.1.expires ≡ true) (λ entry. at < entry.1.expires) (λ entry later. holds_later at entry.1.expires later) (left_of at entries)
    (filter_passes (λ entry. nat_lt at entry.1.expires) entries)

-- the three maps
pub left_in_all : (at : ℕ) (system default_ batch new_system new_default new_batch : List (Vec ℕ × Limit))
    → ((priority : Priority) (tag : List ℕ) → last_set (kept_for priority new_system) priority tag ≡ still_set at (last_set (kept_for priority system) priority tag))
    → ((priority : Priority) (tag : List ℕ) → last_set (kept_for priority new_default) priority tag ≡ still_set at (last_set (kept_for priority default_) priority tag))
    → ((priority : Priority) (tag : List ℕ) → last_set (kept_for priority new_batch) priority tag ≡ still_set at (last_set (kept_for priority batch) priority tag))
    → IsLeftAt at (all_entries new_system new_default new_batch) (all_entries system default_ batch)
left_in_all at system default_ batch new_system new_default new_batch one two three System tag =
    last_set-all new_system new_default new_batch System tag ∙ one System tag ∙ ap (still_set at) (sym (last_set-all system default_ batch System tag))
left_in_all at system default_ batch new_system new_default new_batch one two three Default tag =
    last_set-all new_system new_default new_batch Default tag ∙ two Default tag ∙ ap (still_set at) (sym (last_set-all system default_ batch Default tag))
left_in_all at system default_ batch new_system new_default new_batch one two three Batch tag =
    last_set-all new_system new_default new_batch Batch tag ∙ three Batch tag ∙ ap (still_set at) (sym (last_set-all system default_ batch Batch tag))

unexpired_for : (at : ℕ) (priority : Priority) (entries : List (Vec ℕ × Limit)) → All (λ entry. at < entry.1.expires) entries → All (λ throttle. at < throttle.expires) (kept_for priority entries)
unexpired_for at priority entries all = All-map (λ (throttle : Throttle). at < throttle.expires) _ entries all

pub unexpired_in_all : (at : ℕ) (system default_ batch : List (Vec ℕ × Limit)) → All (λ entry. at < entry.1.expires) system → All (λ entry. at < entry.1.expires) default_ → All (λ entry. at < entry.1.expires) batch
    → All (λ throttle. at < throttle.expires) (all_entries system default_ batch)
unexpired_in_all at system default_ batch one two three =
    let P = (λ (throttle : Throttle). at < throttle.expires) in
    All-append P (kept_for System system ++ kept_for Default default_) (kept_for Batch batch)
    (All-append P (kept_for System system) (kept_for Default default_) (unexpired_for at System system one) (unexpired_for at Default default_ two)) (unexpired_for at Batch batch three)
