-- What is told of the lines that are kept is what is told of all.
use Rattle.std.proofs.Common.{◌≡◌, ℕ, zero, suc, ◌+◌, ◌<◌, ◌≤◌, Bool, true, false, cond, ◌&&◌, List, [], ◌∷◌, ◌++◌, length, map, slice_index, refl, ap, sym, ◌∙◌, inl, inr, arith, append-nil, length-append}
use Rattle.std.specs.List.{All, filter}
use Rattle.std.proofs.lemmas.Bool.{cases_lt}
use Rattle.std.proofs.lemmas.List.{get_or_append_left, map-append}
use Rattle.std.proofs.lemmas.List.Elements.{All-append, All-cons, All-nil, filter-append}
use Rattle.fdb_lines.specs.declared.fault.Fault.{Fault}
use Rattle.fdb_lines.specs.declared.fault.Fault.TheVariants.{Order, Wrong, NotAbove, Twice, Stray}
use Rattle.fdb_lines.specs.declared.fault.Found.{Found}
use Rattle.fdb_lines.specs.declared.line.Line.{Line}
use Rattle.fdb_lines.specs.Before.{began}
use Rattle.fdb_lines.specs.Carried.{MayGo, StandFor}
use Rattle.fdb_lines.specs.Faults.{stands}
use Rattle.fdb_lines.specs.Keys.{placed_found}
use Rattle.fdb_lines.specs.Lines.{Case, line_at, lines_in, nobody, shows}
use Rattle.fdb_lines.specs.Listing.{faults_at, faults_below, found_if}
use Rattle.fdb_lines.specs.Watching.{is_watched, opts_of, told_of, watched}
use Rattle.fdb_lines.specs.private.Due.{due_at, told_at, told_below}
use Rattle.fdb_lines.proofs.Carried.{at_part, new_line, settled, stand_for_all}

-- ---- among the faults of all lines

abbrev passes : (ℕ → Bool) → Found → Bool
passes test found = is_watched found.fault && test found.place

pub one_by : (p : Found → Bool) (b q : Bool) (x : Found) → p x ≡ q → filter p (cond b (x ∷ []) []) ≡ cond q (cond b (x ∷ []) []) []
one_by p true true x e = rw e refl
one_by p true false x e = rw e refl
one_by p false true x e = refl
one_by p false false x e = refl

of_fault : (test : ℕ → Bool) (c : Case) (k : ℕ) (fault : Fault) (q : Bool) → (is_watched fault && test k) ≡ q
    → filter (passes test) (found_if c fault k) ≡ cond q (found_if c fault k) []
of_fault test c k fault q e = one_by (passes test) (stands c fault k) q (record { place = k; fault = fault }) e

of_five : (p : Found → Bool) (v w x y z : List Found) → filter p (v ++ w ++ x ++ y ++ z) ≡ filter p v ++ filter p w ++ filter p x ++ filter p y ++ filter p z
of_five p v w x y z =
    filter-append p (v ++ w ++ x ++ y) z
    ∙ ap (λ (l : List Found). l ++ filter p z) (filter-append p (v ++ w ++ x) y
    ∙ ap (λ (l : List Found). l ++ filter p y) (filter-append p (v ++ w) x ∙ ap (λ (l : List Found). l ++ filter p x) (filter-append p v w)))

-- of the faults of a line, those that are told
at_line : (test : ℕ → Bool) (c : Case) (k : ℕ) (b : Bool) → test k ≡ b → filter (passes test) (faults_at c k) ≡ cond b (told_at c k) []
at_line test c k b e =
    of_five (passes test) (found_if c Order k) (found_if c Wrong k) (found_if c NotAbove k) (found_if c Twice k) (found_if c Stray k)
    ∙ ((λ i. of_fault test c k Order b e i ++ of_fault test c k Wrong false refl i ++ of_fault test c k NotAbove b e i ++ of_fault test c k Twice false refl i
    ++ of_fault test c k Stray false refl i)
    ∙ both_of b)
  where
    both_of : (b : Bool) → cond b (found_if c Order k) [] ++ [] ++ cond b (found_if c NotAbove k) [] ++ [] ++ [] ≡ cond b (told_at c k) []
    both_of true = rw (append-nil {A = Found}, append-nil {A = Found}, append-nil {A = Found}) refl
    both_of false = refl

pub filtered : (test : ℕ → Bool) (c : Case) (n : ℕ) → told_below test c n ≡ filter (passes test) (faults_below c n)
filtered test c zero = refl
filtered test c (suc n) =
    ap (λ (xs : List Found). xs ++ cond (test n) (told_at c n) []) (filtered test c n)
    ∙ (ap (λ (xs : List Found). filter (passes test) (faults_below c n) ++ xs) (sym (at_line test c n (test n) refl))
    ∙ sym (filter-append (passes test) (faults_below c n) (faults_at c n)))

-- ---- each of them stands at a line that is due

pub record IsToldAt (test : ℕ → Bool) (c : Case) (n : ℕ) (found : Found) : Type 0 where
  pub there : found.place < n
  pub is_of : is_watched found.fault ≡ true
  pub due : test found.place ≡ true
  pub stand : stands c found.fault found.place ≡ true

one_told : (test : ℕ → Bool) (c : Case) (k : ℕ) (fault : Fault) (b : Bool) → is_watched fault ≡ true → test k ≡ true → stands c fault k ≡ b
    → All (IsToldAt test c (suc k)) (cond b (record { place = k; fault = fault } ∷ []) [])
one_told test c k fault true is due stand =
    All-cons (IsToldAt test c (suc k)) _ [] (record { there = omega arith; is_of = is; due = due; stand = stand }) (All-nil (IsToldAt test c (suc k)))
one_told test c k fault false is due stand = All-nil (IsToldAt test c (suc k))

line_told : (test : ℕ → Bool) (c : Case) (k : ℕ) (b : Bool) → test k ≡ b → All (IsToldAt test c (suc k)) (cond b (told_at c k) [])
line_told test c k true due =
    All-append (IsToldAt test c (suc k)) (found_if c Order k) (found_if c NotAbove k)
    (one_told test c k Order (stands c Order k) refl due refl) (one_told test c k NotAbove (stands c NotAbove k) refl due refl)
line_told test c k false due = All-nil (IsToldAt test c (suc k))

pub all_told : (test : ℕ → Bool) (c : Case) (n : ℕ) → All (IsToldAt test c n) (told_below test c n)
all_told test c zero = All-nil (IsToldAt test c 0)
all_told test c (suc n) =
    All-append (IsToldAt test c (suc n)) (told_below test c n) (cond (test n) (told_at c n) [])
    (λ k d lt. let it = all_told test c n k d lt in let there = it.there in record { there = omega arith; is_of = it.is_of; due = it.due; stand = it.stand })
    (line_told test c n (test n) refl)

-- ---- by a part

abbrev placed_all : List ℕ → List Found → List Found
placed_all places found = map (placed_found places) found

placed_one : (places : List ℕ) (b : Bool) (x : Found) → placed_all places (cond b (x ∷ []) []) ≡ cond b (placed_found places x ∷ []) []
placed_one places true x = refl
placed_one places false x = refl

placed_at : (one other : Case) (places : List ℕ) (i : ℕ) (fault : Fault) → stands one fault i ≡ stands other fault (slice_index places i)
    → placed_all places (found_if one fault i) ≡ found_if other fault (slice_index places i)
placed_at one other places i fault same =
    placed_one places (stands one fault i) (record { place = i; fault = fault })
    ∙ ap (λ b. cond {A = List Found} b (record { place = slice_index places i; fault = fault } ∷ []) []) same

told_same : (one other : Case) (places : List ℕ) (i : ℕ)
    → (stands one Order i ≡ stands other Order (slice_index places i)) × (stands one NotAbove i ≡ stands other NotAbove (slice_index places i))
    → placed_all places (told_at one i) ≡ told_at other (slice_index places i)
told_same one other places i same =
    map-append (placed_found places) (found_if one Order i) (found_if one NotAbove i)
    ∙ (ap (λ (xs : List Found). xs ++ placed_all places (found_if one NotAbove i)) (placed_at one other places i Order same.0)
    ∙ ap (λ (xs : List Found). found_if other Order (slice_index places i) ++ xs) (placed_at one other places i NotAbove same.1))

told_if_both : (places : List ℕ) (b : Bool) (xs ys : List Found) → (b ≡ true → placed_all places xs ≡ ys) → placed_all places (cond b xs []) ≡ cond b ys []
told_if_both places true xs ys same = same refl
told_if_both places false xs ys same = refl

none_if : (b : Bool) (xs : List Found) → (b ≡ true → ⊥) → cond b xs [] ≡ []
none_if true xs not_so = absurd (not_so refl)
none_if false xs not_so = refl

module _ (margin at : ℕ) (lines : List Line) (places : List ℕ) (stand : StandFor margin at lines places)
    (due : ℕ → Line → Bool) (from : (number : ℕ) (line : Line) → due number line ≡ true → at ≤ began line) where
  abbrev part : List Line
  part = lines_in lines places

  abbrev due_of_all : ℕ → Bool
  due_of_all k = due k (line_at lines k)

  abbrev of_all : ℕ → List Found
  of_all k = cond (due_of_all k) (told_at (watched margin lines) k) []

  abbrev of_part : ℕ → List Found
  of_part i = cond (due_at due places part i) (told_at (watched margin part) i) []

  same_told : (i : ℕ) → i < length places → placed_all places (of_part i) ≡ of_all (slice_index places i)
  same_told i li =
      let k = slice_index places i in
      ap (λ (line : Line). placed_all places (cond (due k line) (told_at (watched margin part) i) [])) (at_part lines places i li)
      ∙ told_if_both places (due_of_all k) (told_at (watched margin part) i) (told_at (watched margin lines) k) (λ is.
      told_same (watched margin part) (watched margin lines) places i
      (stand_for_all margin at lines places i (opts_of margin) refl stand li (from k (line_at lines k) is)))

  -- nothing is told of a line that may go
  none_told : (k : ℕ) → MayGo margin at part (line_at lines k) → of_all k ≡ []
  none_told k go = none_if (due_of_all k) (told_at (watched margin lines) k) (λ is. let begins = from k (line_at lines k) is in let old = go.old in omega arith)

  abbrev Parts : ℕ → ℕ → Type 0
  Parts n m = (m ≤ length places) × ((i : ℕ) → i < m → slice_index places i < n) × ((i : ℕ) → m ≤ i → i < length places → n ≤ slice_index places i)

  not_there : (n m : ℕ) → n < length lines → Parts (suc n) m → ((i : ℕ) → i < m → slice_index places i < n) → of_all n ≡ []
  not_there n m ln parts below = elim (stand.rest n ln) [
    | inr go ↦ none_told n go
    | inl among ↦ absurd (elim (cases_lt among.0 m) [
      | inl less ↦ let a = below among.0 less in let is = among.2 in omega arith
      | inr more ↦ let a = parts.2 among.0 more among.1 in let is = among.2 in omega arith
    ])
  ]

  abbrev all_below : ℕ → List Found
  all_below n = told_below due_of_all (watched margin lines) n

  abbrev part_below : ℕ → List Found
  part_below m = placed_all places (told_below (due_at due places part) (watched margin part) m)

  step : (n m : ℕ) → n < length lines → Parts (suc n) m → ((j : ℕ) → Parts n j → part_below j ≡ all_below n) → part_below m ≡ all_below n ++ of_all n
  step n zero ln parts before =
      rw (not_there n 0 ln parts (λ i lt. absurd (omega arith)), append-nil) (before 0 (omega arith, λ i lt. absurd (omega arith), λ i le li. let more = parts.2 i le li in omega arith))
  step n (suc m) ln parts before =
      let most = parts.0 in
      elim (cases_lt (slice_index places m) n) [
        | inl less ↦
            let below : (i : ℕ) → i < suc m → slice_index places i < n = λ i lt. elim (cases_lt i m) [
              | inl old ↦ let rise = stand.rising i m old (omega arith) in omega arith
              | inr ge ↦ let same = ap (slice_index places) (let at : i ≡ m = omega arith in at) in omega arith
            ] in
            rw (not_there n (suc m) ln parts below, append-nil) (before (suc m) (parts.0, below, λ i le li. let more = parts.2 i le li in omega arith))
        | inr ge ↦
            let here = parts.1 m (omega arith) in
            let at : slice_index places m ≡ n = omega arith in
            let same = same_told m (omega arith) ∙ ap of_all at in
            let rest = before m (
              omega arith,
              λ i lt. let rise = stand.rising i m lt (omega arith) in omega arith,
              λ i le li. elim (cases_lt m i) [
                | inl more ↦ let rise = stand.rising m i more li in omega arith
                | inr le2 ↦ let same = ap (slice_index places) (let it : i ≡ m = omega arith in it) in omega arith
              ],
            ) in
            map-append (placed_found places) (told_below (due_at due places part) (watched margin part) m) (of_part m)
            ∙ (ap (λ (xs : List Found). xs ++ placed_all places (of_part m)) rest ∙ ap (λ (xs : List Found). all_below n ++ xs) same)
      ]

  merged : (n m : ℕ) → n ≤ length lines → Parts n m → part_below m ≡ all_below n
  merged zero zero ln parts = refl
  merged zero (suc m) ln parts = absurd (let none = parts.1 m (omega arith) in omega arith)
  merged (suc n) m ln parts = step n m (omega arith) parts (λ j. merged n j (omega arith))

  pub told_of_all : part_below (length places) ≡ told_of margin due lines
  told_of_all =
      merged (length lines) (length places) (omega arith) (omega arith, λ i li. stand.within i li, λ i le li. absurd (omega arith))
      ∙ filtered due_of_all (watched margin lines) (length lines)

-- ---- what was told stays, whatever begins later

module _ (margin to : ℕ) (lines more : List Line) (later : (j : ℕ) → j < length more → to ≤ began (line_at more j))
    (due : ℕ → Line → Bool) (until : (number : ℕ) (line : Line) → due number line ≡ true → began line < to) where
  abbrev both : List Line
  both = lines ++ more

  abbrev of_both : ℕ → List Found
  of_both k = cond (due k (line_at both k)) (told_at (watched margin both) k) []

  abbrev of_first : ℕ → List Found
  of_first k = cond (due k (line_at lines k)) (told_at (watched margin lines) k) []

  if_both : (b : Bool) (xs ys : List Found) → (b ≡ true → xs ≡ ys) → cond b xs [] ≡ cond b ys []
  if_both true xs ys same = same refl
  if_both false xs ys same = refl

  at_both : (k : ℕ) → (stands (watched margin both) Order k ≡ stands (watched margin lines) Order k) × (stands (watched margin both) NotAbove k ≡ stands (watched margin lines) NotAbove k)
      → told_at (watched margin both) k ≡ told_at (watched margin lines) k
  at_both k same =
      ap (λ b. cond {A = List Found} b (record { place = k; fault = Order } ∷ []) [] ++ found_if (watched margin both) NotAbove k) same.0
      ∙ ap (λ b. found_if (watched margin lines) Order k ++ cond {A = List Found} b (record { place = k; fault = NotAbove } ∷ []) []) same.1

  same_first : (k : ℕ) → k < length lines → of_both k ≡ of_first k
  same_first k lk =
      ap (λ (line : Line). cond (due k line) (told_at (watched margin both) k) []) (get_or_append_left lines more nobody k lk)
      ∙ if_both (due k (line_at lines k)) (told_at (watched margin both) k) (told_at (watched margin lines) k) (λ is.
      let begins = until k (line_at lines k) is in
      at_both k (settled to lines more k (opts_of margin) later lk (omega arith)))

  none_later : (k : ℕ) → length lines ≤ k → k < length both → of_both k ≡ []
  none_later k ge lk =
      let begins = new_line margin to lines more later shows k ge lk in
      none_if (due k (line_at both k)) (told_at (watched margin both) k) (λ is. let ends = until k (line_at both k) is in omega arith)

  abbrev told_both : ℕ → List Found
  told_both n = told_below (λ k. due k (line_at both k)) (watched margin both) n

  abbrev told_first : ℕ → List Found
  told_first n = told_below (λ k. due k (line_at lines k)) (watched margin lines) n

  first_same : (n : ℕ) → n ≤ length lines → told_both n ≡ told_first n
  first_same zero le = refl
  first_same (suc n) le = ap (λ (xs : List Found). xs ++ of_both n) (first_same n (omega arith)) ∙ ap (λ (xs : List Found). told_first n ++ xs) (same_first n (omega arith))

  no_other : (m n : ℕ) → n ≡ length lines + m → n ≤ length both → told_both n ≡ told_first (length lines)
  no_other zero n is le = ap told_both (let e : n ≡ length lines = omega arith in e) ∙ first_same (length lines) (omega arith)
  no_other (suc m) zero is le = absurd (omega arith)
  no_other (suc m) (suc n) is le = rw (none_later n (omega arith) (omega arith), append-nil) (no_other m n (omega arith) (omega arith))

  pub told_stays : told_of margin due both ≡ told_of margin due lines
  told_stays =
      sym (filtered (λ k. due k (line_at both k)) (watched margin both) (length both))
      ∙ (no_other (length more) (length both) (length-append lines more) (omega arith)
      ∙ filtered (λ k. due k (line_at lines k)) (watched margin lines) (length lines))
