-- Windows of each key go on from one another, and how far each key has been told of by them.
use Rattle.std.specs.Prelude.{◌==◌}
use Rattle.std.proofs.Common.{◌≡◌, ◌≢◌, ◌⊎◌, ◌∙◌, ℕ, zero, suc, ◌<◌, ◌≤◌, Bool, true, false, cond, List, [], ◌∷◌, ◌++◌, All, Option, None, Some, Result, Ok, Err, ap, arith, inl, inr, length, length-append, map, refl, slice_index_or, subst, sym, take, take_all}
use Rattle.std.specs.Prelude.{IfOk, IfSome}
use Rattle.std.specs.List.{AllPairs, Contains}
use Rattle.std.specs.Option.{option_eq}
use Rattle.std.proofs.lemmas.Bool.{both_ways, false_from_ne_true}
use Rattle.std.proofs.lemmas.List.{get_or-map, length-map, take-append-le}
use Rattle.std.proofs.lemmas.List.Elements.{All-append, All-cons, All-nil}
use Rattle.fdb_lines.specs.declared.key_part.SettledKey.{SettledKey}
use Rattle.fdb_lines.specs.declared.line.Line.{Line}
use Rattle.fdb_lines.specs.KeyParts.{lines_of_one}
use Rattle.fdb_lines.specs.KeyWatch.{GoesTo, SettledTo, not_settled}
use Rattle.fdb_log_reader.specs.declared.error.Why.{Why}
use Rattle.fdb_log_reader.specs.declared.read_line.ReadLine.{ReadLine}
use Rattle.fdb_log_reader.specs.Numbers.{IsMore}
use Rattle.fdb_log_reader.specs.ReadLine.{IsNumbered, LineNames, SaidLine, said_by, said_in}
use Rattle.fdb_audit.specs.Following.{AreInTurn, AreNamed, GoesOnFrom, Window, keys_taken, lines_taken, told_on, told_to}
use Rattle.fdb_audit.specs.Kept.{settled_with}
use Rattle.fdb_audit.specs.private.Followed.{IsWindowOf}
use Rattle.fdb_audit.proofs.KeyPlaces.{same_is, same_self}
use Rattle.fdb_audit.proofs.ReadOn.{lines_taken_on}

abbrev pub window_key : Window → Option ℕ
window_key window = window.key

abbrev pub entry_key : SettledKey → Option ℕ
entry_key entry = entry.key

-- ---- the names of clients

if_more : (client : Option ℕ) (names more : List (List ℕ)) → IsMore names more → IfSome client (λ client. client < length names) → IfSome client (λ client. client < length more)
if_more None names more is within = within
if_more (Some client) names more (new, is) within = let size = ap length is in let sum = length-append names new in omega (arith, size, sum, within)

pub named_on : (read further : List (Result SaidLine Why)) (names more : List (List ℕ)) → AreNamed (lines_taken read) names → IsMore names more → AreNamed (lines_taken further) more
    → AreNamed (lines_taken (read ++ further)) more
named_on read further names more named is others =
    subst (λ (lines : List Line). AreNamed lines more) (sym (lines_taken_on read further))
    (All-append (λ (line : Line). IfSome line.client (λ client. client < length more)) (lines_taken read) (lines_taken further)
    (λ k d lt. if_more (slice_index_or (lines_taken read) k d).client names more is (named k d lt)) others)

-- those of lines that were read
pub named_in : (lines : List (Result ReadLine Why)) (names : LineNames) → All (λ read. IfOk read (λ read. IsNumbered names (said_by read))) lines
    → AreNamed (lines_taken (map said_in lines)) names.clients
named_in [] names each = All-nil (λ (line : Line). IfSome line.client (λ client. client < length names.clients))
named_in (Ok read ∷ lines) names each =
    All-cons (λ (line : Line). IfSome line.client (λ client. client < length names.clients)) (said_by read).line (lines_taken (map said_in lines))
    (each 0 (Ok read) (omega arith)).0 (named_in lines names (λ k d lt. each (suc k) d (omega arith)))
named_in (Err why ∷ lines) names each = named_in lines names (λ k d lt. each (suc k) d (omega arith))

-- ---- windows behind others

pub to_on : (read : List (Result SaidLine Why)) (far : Option ℕ → SettledTo) (ws vs : List Window) → told_to read far (ws ++ vs) ≡ told_to read (told_to read far ws) vs
to_on read far [] vs = refl
to_on read far (w ∷ ws) vs = to_on read (told_on (take w.read read) w far) ws vs

in_turn_on : (behind : ℕ) (read : List (Result SaidLine Why)) (far : Option ℕ → SettledTo) (ws vs : List Window) → AreInTurn behind read far ws
    → All (λ (w : Window). w.read ≤ length read) ws → All (λ (v : Window). v.read ≡ length read) vs → AreInTurn behind read (told_to read far ws) vs
    → AreInTurn behind read far (ws ++ vs)
in_turn_on behind read far [] vs are within at more = more
in_turn_on behind read far (w ∷ ws) vs are within at more =
    let here : w.read ≤ length read = within 0 w (omega arith) in (
      are.0,
      All-append (λ (next : Window). w.read ≤ next.read) ws vs are.1 (λ k d lt. let same = at k d lt in omega (arith, here, same)),
      in_turn_on behind read (told_on (take w.read read) w far) ws vs are.2 (λ k d lt. within (suc k) d (omega arith)) at more,
    )

-- ---- windows stay while more is read

pub in_turn_stays : (behind : ℕ) (read further : List (Result SaidLine Why)) (far : Option ℕ → SettledTo) (ws : List Window) → All (λ (w : Window). w.read ≤ length read) ws
    → AreInTurn behind read far ws → AreInTurn behind (read ++ further) far ws
in_turn_stays behind read further far [] within are = are
in_turn_stays behind read further far (w ∷ ws) within are =
    subst
    (λ (those : List (Result SaidLine Why)). GoesOnFrom behind (far w.key) (lines_taken those) w × All (λ (next : Window). w.read ≤ next.read) ws
    × AreInTurn behind (read ++ further) (told_on those w far) ws)
    (sym (take-append-le w.read read further (within 0 w (omega arith))))
    (are.0, are.1, in_turn_stays behind read further (told_on (take w.read read) w far) ws (λ k d lt. within (suc k) d (omega arith)) are.2)

pub to_stays : (read further : List (Result SaidLine Why)) (far : Option ℕ → SettledTo) (ws : List Window) → All (λ (w : Window). w.read ≤ length read) ws
    → told_to (read ++ further) far ws ≡ told_to read far ws
to_stays read further far [] within = refl
to_stays read further far (w ∷ ws) within =
    ap (λ (those : List (Result SaidLine Why)). told_to (read ++ further) (told_on those w far) ws) (take-append-le w.read read further (within 0 w (omega arith)))
    ∙ to_stays read further (told_on (take w.read read) w far) ws (λ k d lt. within (suc k) d (omega arith))

-- ---- windows of these lines, of one key each

module _ (behind : ℕ) (read : List (Result SaidLine Why)) (names : List (List ℕ)) (to : Option ℕ) where
  abbrev Is : (Option ℕ → SettledTo) → Window → Type 0
  Is far window = IsWindowOf behind read names far to window

  -- by what is as far
  is_as : (far other : Option ℕ → SettledTo) (window : Window) → other window.key ≡ far window.key → Is far window → Is other window
  is_as far other window same is =
      record { all = is.all; names_are = is.names_are; to_is = is.to_is; from = same ∙ is.from; early = is.early; not_before = is.not_before }

  with_another : (those : List (Result SaidLine Why)) (far : Option ℕ → SettledTo) (v w : Window) → v.key ≢ w.key → told_on those v far w.key ≡ far w.key
  with_another those far v w other =
      ap (λ b. cond {A = SettledTo} b (record { to = v.to; come = length (lines_of_one (lines_taken those) (keys_taken those) w.key) }) (far w.key))
      (false_from_ne_true _ (λ same. other (same_is v.key w.key same)))

  in_turn_of : (far : Option ℕ → SettledTo) (vs : List Window) → AreNamed (lines_taken read) names → All (Is far) vs → AllPairs (λ (one other : Window). one.key ≢ other.key) vs
      → AreInTurn behind read far vs
  in_turn_of far [] named each apart = tt
  in_turn_of far (v ∷ vs) named each apart =
      let it = each 0 v (omega arith) in
      let size = it.all in
      let whole : take v.read read ≡ read = take_all v.read read (omega (arith, size)) in (
        record {
          from = it.from;
          early = it.early;
          to = subst (λ to. IfSome to (λ to. v.from ≤ to)) (sym it.to_is) it.not_before;
          names = subst (λ (those : List (Result SaidLine Why)). AreNamed (lines_taken those) v.names) (sym whole) (subst (AreNamed (lines_taken read)) (sym it.names_are) named);
        },
        (λ k d lt. let next = (each (suc k) d (omega arith)).all in omega (arith, size, next)),
        in_turn_of (told_on (take v.read read) v far) vs named
            (λ k d lt. is_as far (told_on (take v.read read) v far) (slice_index_or vs k d)
            (with_another (take v.read read) far v (slice_index_or vs k d) (apart 0 (suc k) d (omega arith) (omega arith))) (each (suc k) d (omega arith)))
            (λ i j d less lt. apart (suc i) (suc j) d (omega arith) (omega arith)),
      )

  -- behind others
  pub turns_on : (far now : Option ℕ → SettledTo) (ws vs : List Window) → AreInTurn behind read far ws → All (λ (w : Window). w.read ≤ length read) ws → AreNamed (lines_taken read) names
      → ((key : Option ℕ) → now key ≡ told_to read far ws key) → All (Is now) vs → AllPairs (λ (one other : Window). one.key ≢ other.key) vs → AreInTurn behind read far (ws ++ vs)
  turns_on far now ws vs are within named same each apart =
      in_turn_on behind read far ws vs are within (λ k d lt. (each k d lt).all)
      (in_turn_of (told_to read far ws) vs named (λ k d lt. is_as now (told_to read far ws) (slice_index_or vs k d) (sym (same (slice_index_or vs k d).key)) (each k d lt)) apart)

  -- how far a key is told of by them
  abbrev told_by : List (Result SaidLine Why) → Option ℕ → Option ℕ → SettledTo
  told_by those to key = record { to = to; come = length (lines_of_one (lines_taken those) (keys_taken those) key) }

  abbrev IsToldTo : Option ℕ → List (Option ℕ) → SettledTo → SettledTo → Type 0
  IsToldTo key keys far now = (Contains keys key × (now ≡ told_by read to key)) ⊎ ((Contains keys key → ⊥) × (now ≡ far))

  in_front : (one key : Option ℕ) (keys : List (Option ℕ)) → (one ≡ key → ⊥) → (Contains keys key → ⊥) → Contains (one ∷ keys) key → ⊥
  in_front one key keys other none (zero, lt, is) = other is
  in_front one key keys other none (suc k, lt, is) = none (k, omega arith, is)

  told_one : (far : Option ℕ → SettledTo) (v : Window) (vs : List Window) (key : Option ℕ) → v.read ≡ length read → v.to ≡ to
      → IsToldTo key (map window_key vs) (told_on (take v.read read) v far key) (told_to read far (v ∷ vs) key) → IsToldTo key (map window_key (v ∷ vs)) (far key) (told_to read far (v ∷ vs) key)
  told_one far v vs key size up (inl (has, is)) = let lt = has.1 in inl ((suc has.0, omega (arith, lt), has.2), is)
  told_one far v vs key size up (inr (none, is)) = by (option_eq ◌==◌ v.key key) refl
    where
      whole : take v.read read ≡ read
      whole = take_all v.read read (omega (arith, size))

      by : (b : Bool) → option_eq ◌==◌ v.key key ≡ b → IsToldTo key (map window_key (v ∷ vs)) (far key) (told_to read far (v ∷ vs) key)
      by true same = inl (
        (0, omega arith, same_is v.key key same),
        is ∙ (ap (λ b. cond b (told_by (take v.read read) v.to key) (far key)) same ∙ (ap (λ those. told_by those v.to key) whole ∙ ap (λ to. told_by read to key) up)),
      )
      by false other = inr (
        in_front v.key key (map window_key vs) (λ same. both_ways _ other (subst (λ key. option_eq ◌==◌ v.key key ≡ true) same (same_self v.key))) none,
        is ∙ ap (λ b. cond b (told_by (take v.read read) v.to key) (far key)) other,
      )

  pub told_all : (far : Option ℕ → SettledTo) (vs : List Window) (key : Option ℕ) → All (λ (v : Window). (v.read ≡ length read) × (v.to ≡ to)) vs
      → IsToldTo key (map window_key vs) (far key) (told_to read far vs key)
  told_all far [] key each = inr ((λ has. let lt = has.1 in absurd (omega (arith, lt))), refl)
  told_all far (v ∷ vs) key each =
      let it = each 0 v (omega arith) in
      told_one far v vs key it.0 it.1 (told_all (told_on (take v.read read) v far) vs key (λ k d lt. each (suc k) d (omega arith)))

-- each key has settled as far as it has been told of
pub far_now : (read : List (Result SaidLine Why)) (to : ℕ) (entries : List SettledKey) (far : Option ℕ → SettledTo) (vs : List Window) (key : Option ℕ) (old new : SettledTo)
    → All (λ (v : Window). (v.read ≡ length read) × (v.to ≡ Some to)) vs → map window_key vs ≡ map entry_key entries → old ≡ far key
    → GoesTo to (length (lines_of_one (lines_taken read) (keys_taken read) key)) entries key old new → new ≡ told_to read far vs key
far_now read to entries far vs key old new each keys same goes = by goes (told_all 0 read [] (Some to) far vs key each)
  where
    by : GoesTo to (length (lines_of_one (lines_taken read) (keys_taken read) key)) entries key old new
        → IsToldTo 0 read [] (Some to) key (map window_key vs) (far key) (told_to read far vs key) → new ≡ told_to read far vs key
    by (inl (has, is)) (inl (one, told)) = is ∙ sym told
    by (inl (has, is)) (inr (none, told)) = absurd (none (subst (λ keys. Contains keys key) (sym keys) has))
    by (inr (none, is, come)) (inl (one, told)) = absurd (none (subst (λ keys. Contains keys key) keys one))
    by (inr (none, is, come)) (inr (not, told)) = is ∙ (same ∙ sym told)

-- no two of them are of one key
pub keys_apart : (entries : List SettledKey) (vs : List Window) → map window_key vs ≡ map entry_key entries → AllPairs (λ (one other : SettledKey). one.key ≢ other.key) entries
    → AllPairs (λ (one other : Window). one.key ≢ other.key) vs
keys_apart entries vs keys once i j d less lt same =
    let size = sym (length-map vs window_key) ∙ (ap length keys ∙ length-map entries entry_key) in
    let e = some_of entries (omega (arith, lt, size)) in
    let at = λ (m : ℕ) (lm : m < length vs). sym (get_or-map window_key vs m d None lm)
    ∙ (ap (λ (keys : List (Option ℕ)). slice_index_or keys m None) keys ∙ get_or-map entry_key entries m e None (omega (arith, lm, size))) in
    once i j e less (omega (arith, lt, size)) (sym (at i (omega arith)) ∙ (same ∙ at j lt))
  where
    some_of : {X : Type 0} (xs : List X) → 0 < length xs → X
    some_of [] lt = absurd (omega arith)
    some_of (x ∷ xs) lt = x

-- where no key had settled, each has as it would have with these lines
pub with_these : (to come : ℕ) (entries : List SettledKey) (key : Option ℕ) (old new : SettledTo) → old ≡ not_settled → (come ≡ 0 → new ≡ not_settled)
    → GoesTo to come entries key old new → new ≡ settled_with to come
with_these to zero entries key old new none without goes = without refl
with_these to (suc come) entries key old new none without (inl (has, is)) = is
with_these to (suc come) entries key old new none without (inr (not, is, same)) =
    let nothing : old.come ≡ 0 = ap (λ (far : SettledTo). far.come) none in absurd (omega (arith, nothing, same))
