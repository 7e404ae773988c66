-- All that are open settle: what is told of each key, and how it goes on.
use Rattle.std.proofs.Common.{◌≡◌, ◌≢◌, ◌⊎◌, ◌&&◌, ◌||◌, ℕ, zero, suc, max, ◌<◌, ◌≤◌, nat_le, Bool, true, false, cond, List, [], ◌∷◌, ◌++◌, Option, None, Some, Vec, length, map, get_or, slice_index, refl, ap, sym, subst, ◌∙◌, inl, inr, arith, append-nil}
use Rattle.std.specs.declared.alloc.Global.{Global}
use Rattle.std.specs.List.{All}
use Rattle.std.proofs.lemmas.Bool.Decides.{nat_tests}
use Rattle.std.proofs.lemmas.Bool.{both_ways}
use Rattle.std.proofs.lemmas.List.{get_or_default, get_or-map, length-map}
use Rattle.std.proofs.lemmas.List.Elements.{Contains-get_or}
use Rattle.fdb_lines.specs.declared.fault.Found.{Found}
use Rattle.fdb_lines.specs.declared.key_part.KeyPart.{KeyPart}
use Rattle.fdb_lines.specs.declared.key_part.SettledKey.{SettledKey}
use Rattle.fdb_lines.specs.declared.line.Line.{Line}
use Rattle.fdb_lines.specs.declared.fault.Finding.{Finding}
use Rattle.fdb_lines.specs.declared.watch.Watch.{Watch}
use Rattle.fdb_lines.specs.Before.{began}
use Rattle.fdb_lines.specs.KeyParts.{lines_of_one, names_of, HasSeenOne}
use Rattle.fdb_lines.specs.Keys.{key_at, keys_of, places_of}
use Rattle.fdb_lines.specs.KeyWatch.{AreTold, SettlesOrStays, HasEntry, HasNothingToTell, IsToldOf, KeepsOn}
use Rattle.fdb_lines.specs.Lines.{Case, line_at, lines_in, nobody}
use Rattle.fdb_lines.specs.Log.{lines_of}
use Rattle.fdb_lines.specs.Watch.{due, judged_from, HasSeen, IsTold}
use Rattle.fdb_lines.specs.Watching.{begins_before, told_of, watched}
use Rattle.fdb_lines.specs.private.Due.{told_at, told_below}
use Rattle.fdb_lines.specs.private.KeyParts.{flag_at, flags_of, AreEntriesOf, AreNext, AreOpen, ArePut, IsAlike, IsNext, IsNextOf}
use Rattle.fdb_lines.specs.private.Quiet.{IsQuiet}
use Rattle.fdb_lines.proofs.Carried.{at_part, fewer_are}
use Rattle.fdb_lines.proofs.HowFar.{far_each}
use Rattle.fdb_lines.proofs.Keyed.{each_once}
use Rattle.fdb_lines.proofs.Opened.{flag_within, listed_open, open_within, place_listed}
use Rattle.fdb_lines.proofs.SeenByKey.{seen_next}
use Rattle.fdb_lines.proofs.Watched.{filtered}

abbrev key_is : KeyPart → Option ℕ
key_is part = part.key

abbrev open_flag : KeyPart → Bool
open_flag part = part.is_open

abbrev entry_key : SettledKey → Option ℕ
entry_key entry = entry.key

some_of : {X : Type 0} (xs : List X) → 0 < length xs → X
some_of [] lt = absurd (omega arith)
some_of (x ∷ xs) lt = x

maps_agree : {X Y : Type 0} (f : X → Y) (xs ys : List X) → length xs ≡ length ys → ((k : ℕ) (d : X) → k < length xs → f (get_or xs k d) ≡ f (get_or ys k d)) → map f xs ≡ map f ys
maps_agree f [] [] size same = refl
maps_agree f [] (y ∷ ys) size same = absurd (omega (arith, size))
maps_agree f (x ∷ xs) [] size same = absurd (omega (arith, size))
maps_agree {X} {Y} f (x ∷ xs) (y ∷ ys) size same =
    ap (λ (z : Y). z ∷ map f xs) (same 0 x (omega arith)) ∙ ap (λ (zs : List Y). f y ∷ zs) (maps_agree f xs ys (omega (arith, size)) (λ k d lt. same (suc k) d (omega arith)))

-- ---- a quiet watch has nothing to tell

not_due : (b : Bool) (from since early began number : ℕ) → began < from → number < since → (b && (nat_le from began || (nat_le since number && nat_le early began))) ≡ false
not_due true from since early began number before above = grind (arith, nat_tests)
not_due false from since early began number before above = refl

none_told : (test : ℕ → Bool) (c : Case) (n : ℕ) → ((j : ℕ) → j < n → test j ≡ false) → told_below test c n ≡ []
none_told test c zero none = refl
none_told test c (suc n) none =
    ap (λ b. told_below test c n ++ cond {A = List Found} b (told_at c n) []) (none n (omega arith))
    ∙ (append-nil (told_below test c n) ∙ none_told test c n (λ j lt. none j (omega arith)))

pub quiet_tells_nothing : (watch : Watch) (to : Option ℕ) (lines : List Line) → HasSeen watch lines → IsQuiet watch → told_of watch.margin (due watch to) lines ≡ []
quiet_tells_nothing watch to lines seen quiet =
    sym (filtered (λ k. due watch to k (line_at lines k)) (watched watch.margin lines) (length lines))
    ∙ none_told (λ k. due watch to k (line_at lines k)) (watched watch.margin lines) (length lines) (λ j lt.
    let count = seen.count in
    let told = quiet.told in
    not_due (begins_before to (line_at lines j)) watch.from watch.settled (judged_from watch) (began (line_at lines j)) j (old j lt) (omega arith))
  where
    old : (j : ℕ) → j < length lines → began (line_at lines j) < watch.from
    old j lt = elim (seen.stand.rest j lt) [
      | inl among ↦
          let many = watch.as_many in
          let inside : among.0 < length watch.log.lines.items = (let less = among.1 in omega arith) in
          let is : line_at watch.log.lines.items among.0 ≡ line_at lines j =
          ap (λ (ls : List Line). line_at ls among.0) seen.kept ∙ (at_part lines watch.numbers.items among.0 among.1 ∙ ap (line_at lines) among.2) in
          subst (λ (line : Line). began line < watch.from) is (quiet.began among.0 nobody inside)
      | inr go ↦ let before = go.old in let low : judged_from watch ≤ watch.from = omega arith in omega arith
    ]

-- ---- what is told

module _ (to : Option ℕ) (old : List KeyPart) (places : List ℕ) (entries : List SettledKey) (open_are : AreOpen (flags_of old) places) (are : AreEntriesOf to old places entries)
    (lines : List Line) (keys : List (Option ℕ)) (named : names_of old ≡ keys_of keys) (each : All (HasSeenOne lines keys) old) where
  in_range : (j : ℕ) → j < length places → slice_index places j < length old
  in_range j lt = open_within old places open_are j 0 lt

  told_one : (j : ℕ) (d : KeyPart) (e : SettledKey) → j < length places → IsToldOf to lines keys (get_or entries j e) (get_or old (slice_index places j) d)
  told_one j d e lt =
      let part = get_or old (slice_index places j) d in
      let entry = get_or entries j e in
      let is = are.each j d e lt in
      let has = each (slice_index places j) d (in_range j lt) in
      let mine = places_of keys part.key in
      let numbers : entry.settled.numbers.items ≡ map (slice_index mine) part.watch.numbers.items = ap (λ (v : Vec ℕ Global). v.items) is.numbers ∙ has.numbers in
      record {
        key = is.key;
        told = is.told (lines_of_one lines keys part.key) has.seen;
        numbers = numbers;
        log = ap (λ log. (lines_of log).lines) is.log
            ∙ (has.seen.kept ∙ (fewer_are lines mine part.watch.numbers.items has.seen.stand.within ∙ ap (lines_in lines) (sym numbers)));
      }

  key_once : (i j : ℕ) (e : SettledKey) → i < j → j < length places → (get_or entries i e).key ≢ (get_or entries j e).key
  key_once i j e less lt same =
      let one = slice_index places i in
      let other = slice_index places j in
      let li = in_range i (omega arith) in
      let lj = in_range j lt in
      let d = some_of old (omega arith) in
      let size = ap length (sym named) ∙ length-map old key_is in
      let first : key_at (keys_of keys) one ≡ (get_or entries i e).key =
      ap (λ ks. key_at ks one) (sym named) ∙ (get_or-map key_is old one d None li ∙ sym (are.each i d e (omega arith)).key) in
      let second : key_at (keys_of keys) other ≡ (get_or entries j e).key =
      ap (λ ks. key_at ks other) (sym named) ∙ (get_or-map key_is old other d None lj ∙ sym (are.each j d e lt).key) in
      open_are.once i j 0 less lt (each_once keys (length keys) one other (omega (arith, size)) (omega (arith, size)) (first ∙ (same ∙ sym second)))

  pub told_by_key : AreTold to lines keys old entries
  told_by_key = record {
    each = λ j e lt. (slice_index places j, in_range j (let size = are.as_many in omega arith), λ d. told_one j d e (let size = are.as_many in omega arith));
    once = λ i j e less lt. key_once i j e less (let size = are.as_many in omega arith);
    far = far_each old (λ i j li lj same. each_once keys (length keys) i j (subst (λ (ks : List (Option ℕ)). i < length ks) named li) (subst (λ (ks : List (Option ℕ)). j < length ks) named lj)
        (sym (ap (λ ks. key_at ks i) named) ∙ (same ∙ ap (λ ks. key_at ks j) named)));
  }

  -- one that is not open has no entry
  pub no_entry : (i : ℕ) (d : KeyPart) → i < length old → flag_at (flags_of old) i ≡ false → HasEntry entries (get_or old i d).key → ⊥
  no_entry i d lt closed has =
      let j = has.0 in
      let many = are.as_many in
      let within : j < length entries = (let less = has.1 in omega (arith, length-map entries entry_key)) in
      let less : j < length places = omega arith in
      let e = some_of entries (omega arith) in
      let k = slice_index places j in
      let lk = in_range j less in
      let size = ap length (sym named) ∙ length-map old key_is in
      let key : (get_or old k d).key ≡ (get_or old i d).key = sym (are.each j d e less).key ∙ (sym (get_or-map entry_key entries j e (get_or old i d).key within) ∙ has.2) in
      let at = λ (m : ℕ) (lm : m < length old). ap (λ ks. key_at ks m) (sym named) ∙ get_or-map key_is old m d None lm in
      let same : k ≡ i = each_once keys (length keys) k i (omega (arith, size)) (omega (arith, size)) (at k lk ∙ (key ∙ sym (at i lt))) in
      both_ways _ closed (subst (λ m. flag_at (flags_of old) m ≡ true) same (listed_open (flags_of old) places k open_are (Contains-get_or places j 0 less)))

  -- a part is open and has an entry, or has nothing to tell
  has_entry : (i : ℕ) (d : KeyPart) → i < length old → flag_at (flags_of old) i ≡ true → HasEntry entries (get_or old i d).key
  has_entry i d lt is =
      let at = place_listed (flags_of old) places i open_are is in
      let j = at.0 in
      let less = at.1 in
      let size = are.as_many in
      let e = some_of entries (omega arith) in
      let here : slice_index places j ≡ i = get_or_default places j 0 i less ∙ at.2 in
      let key = ap (λ m. (get_or old m d).key) here in
      (j, omega (arith, length-map entries entry_key), get_or-map entry_key entries j e (get_or old i d).key (omega arith) ∙ ((are.each j d e less).key ∙ key))

  pub nothing : (i : ℕ) (d : KeyPart) → i < length old → flag_at (flags_of old) i ≡ false → HasNothingToTell to lines keys (get_or old i d)
  nothing i d lt is =
      let part = get_or old i d in
      let closed : part.is_open ≡ false = sym (get_or-map open_flag old i d false lt) ∙ is in
      quiet_tells_nothing part.watch to (lines_of_one lines keys part.key) (each i d lt).seen (part.quiet closed)

  pub rest_by_key : All (λ (part : KeyPart). HasEntry entries part.key ⊎ HasNothingToTell to lines keys part) old
  rest_by_key = λ i d lt. by i d lt (flag_at (flags_of old) i) refl
    where
      by : (i : ℕ) (d : KeyPart) → i < length old → (b : Bool) → flag_at (flags_of old) i ≡ b → HasEntry entries (get_or old i d).key ⊎ HasNothingToTell to lines keys (get_or old i d)
      by i d lt true is = inl (has_entry i d lt is)
      by i d lt false is = inr (nothing i d lt is)

-- ---- how it goes on

module _ (at : ℕ) (old : List KeyPart) (places : List ℕ) (nexts : List KeyPart) (entries : List SettledKey) (new : List KeyPart) (given : List SettledKey)
    (open_are : AreOpen (flags_of old) places) (next : AreNext at old places nexts entries) (put : ArePut old places nexts entries new given) where
  gone : (j : ℕ) (d : KeyPart) (e : SettledKey) → j < length places → IsNextOf at (get_or old (slice_index places j) d) (get_or new (slice_index places j) d) (get_or given j e)
  gone j d e lt =
      let was = get_or old (slice_index places j) d in
      let now = get_or new (slice_index places j) d in
      let had = get_or entries j e in
      let has = get_or given j e in
      let its = put.its j d e lt in
      let it = next.each j d d e lt in (
        subst (λ (x : KeyPart). IsNext at was x has.settled.found.items has.settled.kept.items) (sym (put.put j d lt))
            (subst (λ (f : Vec Finding Global). IsNext at was (get_or nexts j d) f.items has.settled.kept.items) (sym its.found)
            (subst (λ (k : Vec ℕ Global). IsNext at was (get_or nexts j d) had.settled.found.items k.items) (sym its.kept) it.0)),
        its.key ∙ it.1,
      )

  -- each is at one of the places, or is as it was
  abbrev IsAt : ℕ → KeyPart → Type 0
  IsAt i d = (j : ℕ) × (j < length places) × (slice_index places j ≡ i)

  where_is : (i : ℕ) (d : KeyPart) (b : Bool) → flag_at (flags_of old) i ≡ b → IsAt i d ⊎ ((b ≡ false) × (get_or new i d ≡ get_or old i d))
  where_is i d true is =
      let has = place_listed (flags_of old) places i open_are is in
      inl (has.0, has.1, get_or_default places has.0 0 i has.1 ∙ has.2)
  where_is i d false is = inr (
    refl,
    put.others i d (λ j lt same.
        both_ways _ is (subst (λ m. flag_at (flags_of old) m ≡ true) same (listed_open (flags_of old) places (slice_index places j) open_are (Contains-get_or places j 0 lt)))),
  )

  an_entry : (j : ℕ) → j < length places → SettledKey
  an_entry j lt = some_of given (let one = put.entries_too in let two = next.entries_too in omega arith)

  its : (i : ℕ) (d : KeyPart) → (it : IsAt i d) → IsNextOf at (get_or old i d) (get_or new i d) (get_or given it.0 (an_entry it.0 it.1))
  its i d it = subst (λ m. IsNextOf at (get_or old m d) (get_or new m d) (get_or given it.0 (an_entry it.0 it.1))) it.2 (gone it.0 d (an_entry it.0 it.1) it.1)

  key_on : (i : ℕ) (d : KeyPart) → (get_or new i d).key ≡ (get_or old i d).key
  key_on i d = elim (where_is i d (flag_at (flags_of old) i) refl) [
    | inl it ↦ (its i d it).0.key
    | inr same ↦ ap key_is same.1
  ]

  pub names_on : names_of new ≡ names_of old
  names_on = maps_agree key_is new old put.as_many (λ k d lt. key_on k d)

  pub flags_on : (i : ℕ) → flag_at (flags_of new) i ≡ true → flag_at (flags_of old) i ≡ true
  flags_on i is = by (flag_at (flags_of old) i) refl
    where
      inside : i < length new
      inside = let lt = flag_within (flags_of new) i is in omega (arith, length-map new open_flag)

      by : (b : Bool) → flag_at (flags_of old) i ≡ b → b ≡ true
      by true f = refl
      by false f =
          let d = some_of new (let lt = inside in omega arith) in
          elim (where_is i d false f) [
            | inl it ↦ absurd (both_ways _ f (subst (λ m. flag_at (flags_of old) m ≡ true) it.2
                (listed_open (flags_of old) places (slice_index places it.0) open_are (Contains-get_or places it.0 0 it.1))))
            | inr same ↦
                let many = put.as_many in
                let lt = inside in
                let now : (get_or new i d).is_open ≡ true = sym (get_or-map open_flag new i d false lt) ∙ is in
                let was : (get_or old i d).is_open ≡ false = sym (get_or-map open_flag old i d false (omega arith)) ∙ f in
                absurd (both_ways _ was (sym (ap open_flag same.1) ∙ now))
          ]

  pub alike_on : (margin horizon from : ℕ) → from ≤ at → All (IsAlike margin horizon from) old → All (IsAlike margin horizon at) new
  alike_on margin horizon from le all = λ i d lt.
      let many = put.as_many in
      let was = all i d (omega arith) in
      let low = was.its_from in
      elim (where_is i d (flag_at (flags_of old) i) refl) [
        | inl it ↦
            let n = (its i d it).0 in
            let moved = n.from in
            record { its_margin = n.margin ∙ was.its_margin; its_horizon = n.horizon ∙ was.its_horizon; its_from = omega arith }
        | inr same ↦ subst (IsAlike margin horizon at) (sym same.1) (record { its_margin = was.its_margin; its_horizon = was.its_horizon; its_from = omega arith })
      ]

  pub seen_on : (lines : List Line) (keys : List (Option ℕ)) → All (HasSeenOne lines keys) old → All (HasSeenOne lines keys) new
  seen_on lines keys all = λ i d lt.
      let many = put.as_many in
      let was = all i d (omega arith) in
      elim (where_is i d (flag_at (flags_of old) i) refl) [
        | inl it ↦
            let entry = get_or given it.0 (an_entry it.0 it.1) in
            seen_next lines keys at (get_or old i d) (get_or new i d) entry.settled.found.items entry.settled.kept.items was (its i d it).0
        | inr same ↦ subst (HasSeenOne lines keys) (sym same.1) was
      ]

  pub entries_on : (margin horizon from : ℕ) → from ≤ at → All (IsAlike margin horizon from) old → AreEntriesOf (Some at) old places given
  entries_on margin horizon from le all = record {
    as_many = put.entries_too ∙ next.entries_too;
    each = λ j d e lt.
        let it = gone j d e lt in
        let was = all (slice_index places j) d (open_within old places open_are j 0 lt) in
        let low = was.its_from in
        let n = it.0 in
        let g = put.its j d e lt in
        let most : max (get_or old (slice_index places j) d).watch.from at ≡ at = omega arith in
        record {
          key = it.1;
          told = λ lines seen. subst (λ m. IsTold (get_or old (slice_index places j) d).watch (Some m) lines (get_or old (slice_index places j) d).watch.numbers.items
              (get_or given j e).settled.found.items) most (n.told lines seen);
          log = g.log;
          numbers = g.numbers;
        };
  }

  pub keeps_on : All (KeepsOn new) given
  keeps_on j e lt =
      let one = put.entries_too in
      let two = next.entries_too in
      let less : j < length places = omega arith in
      let within = open_within old places open_are j 0 less in
      let many = put.as_many in (
        slice_index places j,
        omega arith,
        λ d.
            let part = get_or old (slice_index places j) d in
            let entry = get_or given j e in
            let it = gone j d e less in
            let numbers : entry.settled.numbers.items ≡ part.numbers.items = ap (λ (v : Vec ℕ Global). v.items) (put.its j d e less).numbers in
            let size : length entry.settled.numbers.items ≡ length part.watch.numbers.items = ap length numbers ∙ part.as_many in
            record {
              key = it.0.key ∙ sym it.1;
              numbers = it.0.numbers ∙ ap (λ (ns : List ℕ). map (slice_index ns) entry.settled.kept.items) (sym numbers);
              within = λ k f here. let low = it.0.within k f here in omega arith;
            },
      )

  pub goes_on : (margin horizon from : ℕ) → from ≤ at → All (IsAlike margin horizon from) old
      → (lines : List Line) (keys : List (Option ℕ))
      → ((i : ℕ) (d : KeyPart) → i < length old → flag_at (flags_of old) i ≡ false → HasNothingToTell (Some at) lines keys (get_or old i d))
      → ((i : ℕ) (d : KeyPart) → i < length old → flag_at (flags_of old) i ≡ false → HasEntry given (get_or old i d).key → ⊥)
      → (i : ℕ) (d : KeyPart) → i < length old → SettlesOrStays at lines keys given (get_or old i d) (get_or new i d)
  goes_on margin horizon from le all lines keys none alone i d lt = by (flag_at (flags_of old) i) refl
    where
      by : (b : Bool) → flag_at (flags_of old) i ≡ b → SettlesOrStays at lines keys given (get_or old i d) (get_or new i d)
      by b f = elim (where_is i d b f) [
        | inl it ↦
            let n = (its i d it).0 in
            let moved = n.from in
            let was = all i d lt in
            let low = was.its_from in
            let e = an_entry it.0 it.1 in
            let one = put.entries_too in
            let two = next.entries_too in
            let less = it.1 in
            inl (
              (it.0, omega (arith, length-map given entry_key), get_or-map entry_key given it.0 e (get_or old i d).key (omega arith) ∙ (its i d it).1),
              record { key = n.key; from = omega arith; settled = n.settled; few = n.few },
            )
        | inr same ↦
            let closed : (get_or old i d).is_open ≡ false = sym (get_or-map open_flag old i d false lt) ∙ (f ∙ same.0) in
            let quiet = (get_or old i d).quiet closed in
            inr (record { same = same.1; no_entry = alone i d lt (f ∙ same.0); none_came = quiet.told; nothing = none i d lt (f ∙ same.0); few = quiet.few })
      ]
