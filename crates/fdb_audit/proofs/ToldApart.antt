-- Windows that go on from one another tell of no line twice.
use Rattle.std.specs.Prelude.{◌==◌}
use Rattle.std.specs.Option.{option_eq}
use Rattle.std.proofs.Common.{◌≡◌, ◌∙◌, ℕ, zero, suc, ◌<◌, ◌≤◌, nat_le, ◌&&◌, ◌||◌, Bool, true, false, cond, List, [], ◌∷◌, ◌++◌, All, Option, None, Some, Result, ap, arith, drop, inl, inr, length, length-append, refl, slice_index_or, subst, sym, take}
use Rattle.std.specs.Prelude.{IfSome}
use Rattle.std.proofs.lemmas.Bool.{cases_lt}
use Rattle.std.proofs.lemmas.Bool.Decides.{nat_tests}
use Rattle.std.proofs.lemmas.List.{get_or_append_left, length-map, take-append-drop, take-take}
use Rattle.std.proofs.lemmas.List.Elements.{All-cons, All-nil}
use Rattle.fdb_lines.specs.declared.line.Line.{Line}
use Rattle.fdb_lines.specs.Before.{began}
use Rattle.fdb_lines.specs.KeyParts.{lines_of_one}
use Rattle.fdb_lines.specs.Keys.{key_at, places_below, places_of}
use Rattle.fdb_lines.specs.KeyWatch.{SettledTo}
use Rattle.fdb_lines.specs.Lines.{line_at}
use Rattle.fdb_lines.specs.Watching.{begins_before}
use Rattle.fdb_log_reader.specs.declared.error.Why.{Why}
use Rattle.fdb_log_reader.specs.ReadLine.{SaidLine}
use Rattle.fdb_audit.specs.Following.{AreInTurn, TellApart, Window, due_in, keys_taken, lines_taken, told_on}
use Rattle.fdb_audit.proofs.KeyPlaces.{same_is, same_self}
use Rattle.fdb_audit.proofs.ReadOn.{keys_taken_on}

-- ---- how many lines of a key had come

abbrev count : List (Result SaidLine Why) → Option ℕ → ℕ
count read key = length (lines_of_one (lines_taken read) (keys_taken read) key)

below_same : (keys more : List (Option ℕ)) (key : Option ℕ) (n : ℕ) → n ≤ length keys → places_below (keys ++ more) key n ≡ places_below keys key n
below_same keys more key zero le = refl
below_same keys more key (suc n) le =
    ap (λ (places : List ℕ). places ++ cond (option_eq ◌==◌ (key_at (keys ++ more) n) key) (n ∷ []) []) (below_same keys more key n (omega arith))
    ∙ ap (λ name. places_below keys key n ++ cond (option_eq ◌==◌ name key) (n ∷ []) []) (get_or_append_left keys more None n (omega arith))

more_places : (keys : List (Option ℕ)) (key : Option ℕ) (n m : ℕ) → n ≤ m → length (places_below keys key n) ≤ length (places_below keys key m)
more_places keys key n zero le = let same : n ≡ 0 = omega arith in let is = ap (λ n. length (places_below keys key n)) same in omega (arith, is)
more_places keys key n (suc m) le = elim (cases_lt n (suc m)) [
  | inl lt ↦
      let fewer = more_places keys key n m (omega arith) in
      let sum = length-append (places_below keys key m) (cond (option_eq ◌==◌ (key_at keys m) key) (m ∷ []) []) in
      omega (arith, fewer, sum)
  | inr ge ↦ let same : n ≡ suc m = omega arith in let is = ap (λ n. length (places_below keys key n)) same in omega (arith, is)
]

count_on : (read more : List (Result SaidLine Why)) (key : Option ℕ) → count read key ≤ count (read ++ more) key
count_on read more key =
    let keys = keys_taken read in
    let all = keys ++ keys_taken more in
    let had = length-map (places_of keys key) (line_at (lines_taken read)) in
    let has = length-map (places_of (keys_taken (read ++ more)) key) (line_at (lines_taken (read ++ more))) in
    let are = ap (λ (keys : List (Option ℕ)). length (places_of keys key)) (keys_taken_on read more) in
    let front = ap length (below_same keys (keys_taken more) key (length keys) (omega arith)) in
    let size = length-append keys (keys_taken more) in
    let fewer = more_places all key (length keys) (length all) (omega (arith, size)) in
    omega (arith, had, has, are, front, fewer)

count_taken : (read : List (Result SaidLine Why)) (m n : ℕ) (key : Option ℕ) → m ≤ n → count (take m read) key ≤ count (take n read) key
count_taken read m n key le =
    let those = take n read in
    let whole : take m read ++ drop m those ≡ those = ap (λ (front : List (Result SaidLine Why)). front ++ drop m those) (sym (take-take m n read le)) ∙ take-append-drop m those in
    subst (λ (all : List (Result SaidLine Why)). count (take m read) key ≤ count all key) whole (count_on (take m read) (drop m those) key)

-- ---- a line of which a key has been told

abbrev IsPast : ℕ → Line → SettledTo → Type 0
IsPast number line far = (number < far.come) × IfSome far.to (λ to. began line < to)

not_due : (b : Bool) (from since early began number : ℕ) → began < from → number < since → (b && (nat_le from began || (nat_le since number && nat_le early began))) ≡ false
not_due true from since early began number before above = grind (arith, nat_tests)
not_due false from since early began number before above = refl

up : (to : Option ℕ) (from began : ℕ) → IfSome to (λ to. from ≤ to) → began < from → IfSome to (λ to. began < to)
up None from began le lt = tt
up (Some to) from began le lt = omega (arith, le, lt)

begins : (to : Option ℕ) (line : Line) (rest : Bool) → (begins_before to line && rest) ≡ true → IfSome to (λ to. began line < to)
begins None line rest is = tt
begins (Some to) line rest is = grind (arith, nat_tests)

module _ (behind : ℕ) (read : List (Result SaidLine Why)) (key : Option ℕ) (number : ℕ) (line : Line) where
  later : (far : Option ℕ → SettledTo) (m : ℕ) (ws : List Window) → AreInTurn behind read far ws → All (λ (next : Window). m ≤ next.read) ws → number < count (take m read) key
      → IsPast number line (far key) → All (λ (next : Window). next.key ≡ key → due_in next number line ≡ false) ws
  later far m [] are rise there past = All-nil (λ (next : Window). next.key ≡ key → due_in next number line ≡ false)
  later far m (w ∷ ws) are rise there past =
      All-cons (λ (next : Window). next.key ≡ key → due_in next number line ≡ false) w ws
      (λ same. let it = its same in not_due (begins_before w.to line) w.from w.since w.early (began line) number it.1 it.0)
      (later (told_on (take w.read read) w far) m ws are.2 (λ k d lt. rise (suc k) d (omega arith)) there (by (option_eq ◌==◌ w.key key) refl))
    where
      its : w.key ≡ key → (number < w.since) × (began line < w.from)
      its same = subst (IsPast number line) are.0.from (subst (λ key. IsPast number line (far key)) (sym same) past)

      by : (b : Bool) → option_eq ◌==◌ w.key key ≡ b → IsPast number line (cond b (record { to = w.to; come = count (take w.read read) key }) (far key))
      by true same =
          let le : m ≤ w.read = rise 0 w (omega arith) in
          let more = count_taken read m w.read key le in
          (omega (arith, there, more), up w.to w.from (began line) are.0.to (its (same_is w.key key same)).1)
      by false other = past

pub told_apart : (behind : ℕ) (read : List (Result SaidLine Why)) (far : Option ℕ → SettledTo) (ws : List Window) → AreInTurn behind read far ws
    → (i j : ℕ) (d : Window) → i < j → j < length ws → TellApart read (slice_index_or ws i d) (slice_index_or ws j d)
told_apart behind read far [] are i j d less lt = absurd (omega arith)
told_apart behind read far (w ∷ ws) are i zero d less lt = absurd (omega arith)
told_apart behind read far (w ∷ ws) are zero (suc j) d less lt = λ same number line there due.
    let past : IsPast number line (told_on (take w.read read) w far w.key) =
    subst (λ b. IsPast number line (cond b (record { to = w.to; come = count (take w.read read) w.key }) (far w.key))) (sym (same_self w.key)) (there, begins w.to line _ due) in
    later behind read w.key number line (told_on (take w.read read) w far) w.read ws are.2 are.1 there past j d (omega arith) (sym same)
told_apart behind read far (w ∷ ws) are (suc i) (suc j) d less lt = told_apart behind read (told_on (take w.read read) w far) ws are.2 i j d (omega arith) (omega arith)
