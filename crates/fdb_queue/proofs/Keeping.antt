-- Throttles in three maps.
use Rattle.std.proofs.Common.{◌≡◌, ℕ, ◌&&◌, inl, inr, Bool, true, false, List, [], ◌∷◌, ◌++◌, Option, None, Some, refl, sym, ap, ◌∙◌}
use Rattle.std.specs.Prelude.{if◌then◌else◌, option_map}
use Rattle.std.specs.Str.{bytes_eq}
use Rattle.std.specs.Ordering.{nat_cmp, is_eq, match_ordering}
use Rattle.std.specs.Cmp.Lexicographic.{slice_cmp}
use Rattle.std.specs.BTreeMap.{insert_entry, is_at}
use Rattle.std.specs.Map.{lookup}
use Rattle.std.specs.Option.{option_or}
use Rattle.std.specs.Global.{Vec}
use Rattle.std.specs.declared.cmp.Ordering.{Ordering}
use Rattle.std.specs.declared.cmp.Ordering.TheVariants.{Less, Equal, Greater}
use Rattle.std.proofs.lemmas.Bool.{cases_Bool}
use Rattle.std.proofs.lemmas.Slice.Eq.{bytes_eq-Decides}
use Rattle.std.proofs.lemmas.Map.Text.{is_eq-slice_cmp}
use Rattle.fdb_history.specs.declared.log.Priority.{Priority}
use Rattle.fdb_history.specs.declared.log.Priority.TheVariants.{System, Default, Batch}
use Rattle.fdb_history.specs.declared.log.TagLimit.{TagLimit}
use Rattle.fdb_queue.specs.declared.throttles.Limit.{Limit}
use Rattle.fdb_queue.specs.private.Kinds.{kept_for}
use Rattle.fdb_queue.specs.declared.throttles.Throttle.{Throttle}
use Rattle.fdb_queue.specs.Throttles.{is_for, last_set, limit_set}
use Rattle.fdb_queue.specs.Waiting.{is_priority}
use Rattle.fdb_queue.proofs.Leaving.{is_own}

last_set-append : (xs ys : List Throttle) (priority : Priority) (tag : List ℕ) → last_set (xs ++ ys) priority tag ≡ option_or (last_set xs priority tag) (last_set ys priority tag)
last_set-append [] ys priority tag = refl
last_set-append (x ∷ xs) ys priority tag =
    elim (is_for priority tag x) as (λ v. (if v then Some (limit_set x) else last_set (xs ++ ys) priority tag) ≡ option_or (if v then Some (limit_set x) else last_set xs priority tag) (last_set ys priority tag)) [
      | true ↦ refl
      | false ↦ last_set-append xs ys priority tag
    ]

last_set-other : (priority other : Priority) (entries : List (Vec ℕ × Limit)) (tag : List ℕ) → is_priority other priority ≡ false → last_set (kept_for priority entries) other tag ≡ None
last_set-other priority other [] tag differ = refl
last_set-other priority other (e ∷ es) tag differ = rw differ (last_set-other priority other es tag differ)

option_or-none : {X : Type 0} (o : Option X) → option_or o None ≡ o
option_or-none None = refl
option_or-none (Some x) = refl

-- the throttles of three maps, by their entries
abbrev pub all_entries : List (Vec ℕ × Limit) → List (Vec ℕ × Limit) → List (Vec ℕ × Limit) → List Throttle
all_entries system default_ batch = kept_for System system ++ kept_for Default default_ ++ kept_for Batch batch

-- the entries of a priority
abbrev pub own_entries : Priority → List (Vec ℕ × Limit) → List (Vec ℕ × Limit) → List (Vec ℕ × Limit) → List (Vec ℕ × Limit)
own_entries System system default_ batch = system
own_entries Default system default_ batch = default_
own_entries Batch system default_ batch = batch

pub last_set-all : (system default_ batch : List (Vec ℕ × Limit)) (priority : Priority) (tag : List ℕ)
    → last_set (all_entries system default_ batch) priority tag ≡ last_set (kept_for priority (own_entries priority system default_ batch)) priority tag
last_set-all system default_ batch System tag =
    rw (
      last_set-append (kept_for System system ++ kept_for Default default_) (kept_for Batch batch) System tag,
      last_set-append (kept_for System system) (kept_for Default default_) System tag,
      last_set-other Default System default_ tag refl,
      last_set-other Batch System batch tag refl,
      option_or-none (last_set (kept_for System system) System tag),
    ) (option_or-none (last_set (kept_for System system) System tag))
last_set-all system default_ batch Default tag =
    rw (
      last_set-append (kept_for System system ++ kept_for Default default_) (kept_for Batch batch) Default tag,
      last_set-append (kept_for System system) (kept_for Default default_) Default tag,
      last_set-other System Default system tag refl,
      last_set-other Batch Default batch tag refl,
    ) (option_or-none (last_set (kept_for Default default_) Default tag))
last_set-all system default_ batch Batch tag =
    rw (
      last_set-append (kept_for System system ++ kept_for Default default_) (kept_for Batch batch) Batch tag,
      last_set-append (kept_for System system) (kept_for Default default_) Batch tag,
      last_set-other System Batch system tag refl,
      last_set-other Default Batch default_ tag refl,
    ) refl

-- a map's entry as a limit
abbrev pub limit_at : List ℕ → Limit → TagLimit
limit_at tag kept = record { tag = tag; rate = kept.rate; expires = kept.expires }

twice : {X : Type 0} (b : Bool) (x y z : X) → (if b then x else z) ≡ (if b then x else (if b then y else z))
twice true x y z = refl
twice false x y z = refl

swapped : {X : Type 0} (b d : Bool) (x y z : X) → (b ≡ true → d ≡ true → ⊥) → (if b then x else (if d then y else z)) ≡ (if d then y else (if b then x else z))
swapped true true x y z apart = absurd (apart refl refl)
swapped true false x y z apart = refl
swapped false true x y z apart = refl
swapped false false x y z apart = refl

-- what is found after an insertion
abbrev pub keys_cmp : Vec ℕ → Vec ℕ → Ordering
keys_cmp a b = slice_cmp nat_cmp a.items b.items

pub same_tags : (key other : Vec ℕ) (order : Ordering) → keys_cmp key other ≡ order → is_eq order ≡ bytes_eq key.items other.items
same_tags key other order is = ap is_eq (sym is) ∙ is_eq-slice_cmp key.items other.items

apart : (key other : Vec ℕ) (tag : List ℕ) → keys_cmp key other ≡ Greater → bytes_eq tag other.items ≡ true → bytes_eq tag key.items ≡ true → ⊥
apart key other tag is one two =
    let first = (bytes_eq-Decides tag other.items).0 one in
    let second = (bytes_eq-Decides tag key.items).0 two in
    let same : bytes_eq key.items other.items ≡ true = (bytes_eq-Decides key.items other.items).1 (sym second ∙ first) in
    let both : false ≡ true = same_tags key other Greater is ∙ same in
    cc

inserted_by : (priority : Priority) (e : Vec ℕ × Limit) (es : List (Vec ℕ × Limit)) (key : Vec ℕ) (kept : Limit) (tag : List ℕ) (order : Ordering) → keys_cmp key e.0 ≡ order
    → last_set (kept_for priority (insert_entry keys_cmp es key kept)) priority tag ≡ (if bytes_eq tag key.items then Some (limit_at key.items kept) else last_set (kept_for priority es) priority tag)
    → last_set (kept_for priority (match_ordering order ((key, kept) ∷ e ∷ es) ((e.0, kept) ∷ es) (e ∷ insert_entry keys_cmp es key kept))) priority tag
    ≡ (if bytes_eq tag key.items then Some (limit_at key.items kept) else last_set (kept_for priority (e ∷ es)) priority tag)
inserted_by priority e es key kept tag Less is rest = rw (is_own priority) refl
inserted_by priority e es key kept tag Equal is rest =
    let same : key.items ≡ e.0.items = (bytes_eq-Decides key.items e.0.items).0 (sym (same_tags key e.0 Equal is)) in
    rw (is_own priority, same) (twice (bytes_eq tag e.0.items) (Some (limit_at e.0.items kept)) (Some (limit_at e.0.items e.1)) (last_set (kept_for priority es) priority tag))
inserted_by priority e es key kept tag Greater is rest =
    rw (is_own priority, rest) (swapped (bytes_eq tag e.0.items) (bytes_eq tag key.items) (Some (limit_at e.0.items e.1)) (Some (limit_at key.items kept)) (last_set (kept_for priority es) priority tag)
    (λ one two. apart key e.0 tag is one two))

pub inserted : (priority : Priority) (entries : List (Vec ℕ × Limit)) (key : Vec ℕ) (kept : Limit) (tag : List ℕ)
    → last_set (kept_for priority (insert_entry keys_cmp entries key kept)) priority tag
    ≡ (if bytes_eq tag key.items then Some (limit_at key.items kept) else last_set (kept_for priority entries) priority tag)
inserted priority [] key kept tag = rw (is_own priority) refl
inserted priority (e ∷ es) key kept tag = inserted_by priority e es key kept tag (keys_cmp key e.0) refl (inserted priority es key kept tag)

-- what a map finds by the bytes of a tag
pub looked_up : (priority : Priority) (entries : List (Vec ℕ × Limit)) (tag : List ℕ)
    → option_map (λ kept. limit_at tag kept) (lookup (is_at (λ (key : Vec ℕ). slice_cmp nat_cmp tag key.items)) entries) ≡ last_set (kept_for priority entries) priority tag
looked_up priority [] tag = refl
looked_up priority (e ∷ es) tag =
    elim (cases_Bool (bytes_eq tag e.0.items)) [
      | inl same ↦ (let equal : tag ≡ e.0.items = (bytes_eq-Decides tag e.0.items).0 same in
          rw (is_own priority, is_eq-slice_cmp tag e.0.items, same) (ap (λ it. Some (limit_at it e.1)) equal))
      | inr differ ↦ rw (is_own priority, is_eq-slice_cmp tag e.0.items, differ) (looked_up priority es tag)
    ]

-- ---- the three maps

pub set_system : (system after default_ batch : List (Vec ℕ × Limit)) (key : Vec ℕ) (kept : Limit) → after ≡ insert_entry keys_cmp system key kept → (priority : Priority) (tag : List ℕ)
    → last_set (all_entries after default_ batch) priority tag
    ≡ (if is_priority priority System && bytes_eq tag key.items then Some (limit_at key.items kept) else last_set (all_entries system default_ batch) priority tag)
set_system system after default_ batch key kept is System tag =
    last_set-all after default_ batch System tag ∙ ap (λ it. last_set (kept_for System it) System tag) is ∙ inserted System system key kept tag
    ∙ ap (λ it. if bytes_eq tag key.items then Some (limit_at key.items kept) else it) (sym (last_set-all system default_ batch System tag))
set_system system after default_ batch key kept is Default tag = last_set-all after default_ batch Default tag ∙ sym (last_set-all system default_ batch Default tag)
set_system system after default_ batch key kept is Batch tag = last_set-all after default_ batch Batch tag ∙ sym (last_set-all system default_ batch Batch tag)

pub set_default : (system default_ after batch : List (Vec ℕ × Limit)) (key : Vec ℕ) (kept : Limit) → after ≡ insert_entry keys_cmp default_ key kept → (priority : Priority) (tag : List ℕ)
    → last_set (all_entries system after batch) priority tag
    ≡ (if is_priority priority Default && bytes_eq tag key.items then Some (limit_at key.items kept) else last_set (all_entries system default_ batch) priority tag)
set_default system default_ after batch key kept is Default tag =
    last_set-all system after batch Default tag ∙ ap (λ it. last_set (kept_for Default it) Default tag) is ∙ inserted Default default_ key kept tag
    ∙ ap (λ it. if bytes_eq tag key.items then Some (limit_at key.items kept) else it) (sym (last_set-all system default_ batch Default tag))
set_default system default_ after batch key kept is System tag = last_set-all system after batch System tag ∙ sym (last_set-all system default_ batch System tag)
set_default system default_ after batch key kept is Batch tag = last_set-all system after batch Batch tag ∙ sym (last_set-all system default_ batch Batch tag)

pub set_batch : (system default_ batch after : List (Vec ℕ × Limit)) (key : Vec ℕ) (kept : Limit) → after ≡ insert_entry keys_cmp batch key kept → (priority : Priority) (tag : List ℕ)
    → last_set (all_entries system default_ after) priority tag
    ≡ (if is_priority priority Batch && bytes_eq tag key.items then Some (limit_at key.items kept) else last_set (all_entries system default_ batch) priority tag)
set_batch system default_ batch after key kept is Batch tag =
    last_set-all system default_ after Batch tag ∙ ap (λ it. last_set (kept_for Batch it) Batch tag) is ∙ inserted Batch batch key kept tag
    ∙ ap (λ it. if bytes_eq tag key.items then Some (limit_at key.items kept) else it) (sym (last_set-all system default_ batch Batch tag))
set_batch system default_ batch after key kept is System tag = last_set-all system default_ after System tag ∙ sym (last_set-all system default_ batch System tag)
set_batch system default_ batch after key kept is Default tag = last_set-all system default_ after Default tag ∙ sym (last_set-all system default_ batch Default tag)
