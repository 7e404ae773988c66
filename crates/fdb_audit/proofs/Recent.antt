-- When the lines of keys came, with one line more.
use Rattle.std.specs.Prelude.{MatchOption, ◌≢◌, ◌||◌}
use Rattle.std.proofs.Common.{◌≡◌, ◌∙◌, ◌⊎◌, ℕ, zero, suc, ◌+◌, ◌-◌, ◌≤◌, Bool, true, false, List, [], ◌∷◌, ◌++◌, Option, None, Some, Result, Ok, Err, ap, arith, drop, inl, inr, is_some, length, nat_le, refl, slice_get, subst, sym, take}
use Rattle.std.proofs.lemmas.Bool.Decides.{nat_tests}
use Rattle.std.proofs.lemmas.List.{drop_all, length-map, take-append-le}
use Rattle.std.proofs.lemmas.Option.{slice_get_within}
use Rattle.fdb_lines.specs.declared.line.Line.{Line}
use Rattle.fdb_log_reader.specs.declared.error.Why.{Why}
use Rattle.fdb_log_reader.specs.ReadLine.{SaidLine}
use Rattle.fdb_audit.specs.declared.clocks.KeyTimes.{KeyTimes}
use Rattle.fdb_audit.specs.declared.clocks.LastLine.{LastLine}
use Rattle.fdb_audit.specs.Clocks.{believed_end}
use Rattle.fdb_audit.specs.Following.{Start, keys_taken, lines_before, lines_since, lines_taken, taken}
use Rattle.fdb_audit.specs.Recent.{KnowsTimes, believed_by, believed_now, keys_since}
use Rattle.fdb_audit.specs.private.KeyTimes.{HearsKey, NotesIf, NotesKey, is_new, last_line, latest}
use Rattle.fdb_audit.proofs.Believed.{believed_part}
use Rattle.fdb_audit.proofs.ReadLines.{keys_more, keys_same, lines_more, lines_same}
use Rattle.fdb_audit.proofs.Settled.{drop_on}

-- ---- what there is of a key

-- no less was believed when its last line came
abbrev pub IsSince : (at : ℕ) → Option LastLine → Type 0
IsSince at last = MatchOption last ⊥ (λ last. at ≤ last.seen)

latest_since : (at : ℕ) (last : Option LastLine) (line : LastLine) → at ≤ line.seen → IsSince at (Some (latest last line))
latest_since at None line le = le
latest_since at (Some last) line le = le

noted_since : (key at : ℕ) (line : LastLine) (old new : KeyTimes) → NotesKey key line old new → at ≤ line.seen → IsSince at (slice_get new.last.items key)
noted_since key at line old new notes le = subst (IsSince at) (sym notes.its) (latest_since at (slice_get old.last.items key) line le)

either_key : (other key : ℕ) → (other ≡ key) ⊎ (other ≢ key)
either_key zero zero = inl refl
either_key zero (suc key) = inr (λ is. omega (arith, is))
either_key (suc other) zero = inr (λ is. omega (arith, is))
either_key (suc other) (suc key) = elim (either_key other key) [ inl is ↦ inl (ap (λ n. suc n) is) | inr not ↦ inr (λ is. not (omega (arith, is))) ]

note_keeps : (key other at : ℕ) (line : LastLine) (old new : KeyTimes) → NotesKey key line old new → at ≤ line.seen → IsSince at (slice_get old.last.items other) → IsSince at (slice_get new.last.items other)
note_keeps key other at line old new notes le was = by (either_key other key)
  where
    by : (other ≡ key) ⊎ (other ≢ key) → IsSince at (slice_get new.last.items other)
    by (inl is) = subst (λ other. IsSince at (slice_get new.last.items other)) (sym is) (noted_since key at line old new notes le)
    by (inr not) = elim (notes.others other not) [
      | inl same ↦ subst (IsSince at) (sym same) was
      | inr (none, came) ↦ absurd (subst (IsSince at) none was)
    ]

noted_keeps : (is : Bool) (key other at : ℕ) (line : LastLine) (old new : KeyTimes) → NotesIf is key line old new → at ≤ line.seen → IsSince at (slice_get old.last.items other) → IsSince at (slice_get new.last.items other)
noted_keeps false key other at line old new same le was = subst (λ (times : KeyTimes). IsSince at (slice_get times.last.items other)) (sym same) was
noted_keeps true key other at line old new notes le was = note_keeps key other at line old new notes le was

heard_keeps : (key : Option ℕ) (other at : ℕ) (line : LastLine) (old new : KeyTimes) → HearsKey key line old new → at ≤ line.seen → IsSince at (slice_get old.last.items other) → IsSince at (slice_get new.last.items other)
heard_keeps None other at line old new same le was = subst (λ (times : KeyTimes). IsSince at (slice_get times.last.items other)) (sym same) was
heard_keeps (Some key) other at line old new hears le was = noted_keeps old.are_wanted key other at line old new hears le was

heard_its : (given : Option ℕ) (key at : ℕ) (line : LastLine) (old new : KeyTimes) → given ≡ Some key → old.are_wanted ≡ true → HearsKey given line old new → at ≤ line.seen → IsSince at (slice_get new.last.items key)
heard_its given key at line old new is wanted hears le =
    noted_since key at line old new
    (subst (λ (b : Bool). NotesIf b key line old new) wanted (subst (λ (given : Option ℕ). HearsKey given line old new) is hears)) le

-- ---- of those that came since, with one more line

pushed : {X : Type 0} (xs : List X) (y : X) (i : ℕ) (z : X) → slice_get (xs ++ y ∷ []) i ≡ Some z → (slice_get xs i ≡ Some z) ⊎ (y ≡ z)
pushed [] y zero z is = inr cc
pushed [] y (suc i) z is = absurd (none is)
  where
    none : None ≡ Some z → ⊥
    none is = cc
pushed (x ∷ xs) y zero z is = inl is
pushed (x ∷ xs) y (suc i) z is = pushed xs y i z is

-- what was believed with some of them is no more than what is now
by_now : (start : Start) (read : List (Result SaidLine Why)) (count : ℕ) → believed_by start read count ≤ believed_now start read
by_now start read count = believed_part start.clocks start.behind start.clocks.believed (lines_before start read) count (lines_since start read)

module _ (start : Start) (read : List (Result SaidLine Why)) (few : start.lines ≤ length read) where
  before_still : (more : List (Result SaidLine Why)) → lines_before start (read ++ more) ≡ lines_before start read
  before_still more = ap lines_taken (take-append-le start.lines read more few)

  lines_push : (said : SaidLine) → lines_since start (read ++ Ok said ∷ []) ≡ lines_since start read ++ said.line ∷ []
  lines_push said = ap lines_taken (drop_on start.lines read (Ok said ∷ []) few) ∙ lines_more (drop start.lines read) said

  keys_push : (said : SaidLine) → keys_since start (read ++ Ok said ∷ []) ≡ keys_since start read ++ said.key ∷ []
  keys_push said = ap keys_taken (drop_on start.lines read (Ok said ∷ []) few) ∙ keys_more (drop start.lines read) said

  -- what was believed with those that came before stays so
  by_still : (said : SaidLine) (place key : ℕ) → slice_get (keys_since start read) place ≡ Some (Some key) → believed_by start (read ++ Ok said ∷ []) (place + 1) ≡ believed_by start read (place + 1)
  by_still said place key get =
      let part = taken (drop start.lines read) in
      let within = slice_get_within (keys_since start read) place (Some key) get in
      let one = length-map part (λ (said : SaidLine). said.key) in
      let two = length-map part (λ (said : SaidLine). said.line) in
      ap (λ (above : List Line). believed_end start.clocks start.behind above (take (place + 1) (lines_since start (read ++ Ok said ∷ [])))) (before_still (Ok said ∷ []))
      ∙ (ap (λ (since : List Line). believed_end start.clocks start.behind (lines_before start read) (take (place + 1) since)) (lines_push said)
      ∙ ap (believed_end start.clocks start.behind (lines_before start read)) (take-append-le (place + 1) (lines_since start read) (said.line ∷ []) (omega (arith, within, one, two))))

  -- a line is heard
  pub times_more : (forget : Option ℕ) (old new : KeyTimes) (said : SaidLine) (believed : ℕ) → KnowsTimes forget start old read → believed ≡ believed_now start (read ++ Ok said ∷ [])
      → HearsKey said.key (last_line believed said.line) old new → new.are_wanted ≡ old.are_wanted → KnowsTimes forget start new (read ++ Ok said ∷ [])
  times_more forget old new said believed knows now hears same = record {
    wanted = same ∙ knows.wanted;
    seen = λ is place key get.
        let all = read ++ Ok said ∷ [] in
        let at = believed_by start all (place + 1) in
        let most = by_now start all (place + 1) in
        let le : at ≤ believed = omega (arith, most, now) in
        elim (pushed (keys_since start read) said.key place (Some key) (ap (λ (keys : List (Option ℕ)). slice_get keys place) (sym (keys_push said)) ∙ get)) [
          | inl was ↦ heard_keeps said.key key at (last_line believed said.line) old new hears le
              (subst (λ (at : ℕ). IsSince at (slice_get old.last.items key)) (sym (by_still said place key was)) (knows.seen is place key was))
          | inr its ↦ heard_its said.key key at (last_line believed said.line) old new its (knows.wanted ∙ is) hears le
        ];
  }

  -- a line is left out
  pub times_same : (forget : Option ℕ) (times : KeyTimes) (why : Why) → KnowsTimes forget start times read → KnowsTimes forget start times (read ++ Err why ∷ [])
  times_same forget times why knows =
      let Seen = λ (above since : List Line) (keys : List (Option ℕ)). (place key : ℕ) → slice_get keys place ≡ Some (Some key)
      → IsSince (believed_end start.clocks start.behind above (take (place + 1) since)) (slice_get times.last.items key) in
      let part = drop_on start.lines read (Err why ∷ []) few in
      let lines = ap lines_taken part ∙ lines_same (drop start.lines read) why in
      let keys = ap keys_taken part ∙ keys_same (drop start.lines read) why in
      record {
        wanted = knows.wanted;
        seen = λ is.
            subst (λ (above : List Line). Seen above (lines_since start (read ++ Err why ∷ [])) (keys_since start (read ++ Err why ∷ []))) (sym (before_still (Err why ∷ [])))
            (subst (λ (since : List Line). Seen (lines_before start read) since (keys_since start (read ++ Err why ∷ []))) (sym lines)
            (subst (Seen (lines_before start read) (lines_since start read)) (sym keys) (knows.seen is)));
      }

-- none has come since
pub none_known : (forget : Option ℕ) (start : Start) (times : KeyTimes) (read : List (Result SaidLine Why)) → times.are_wanted ≡ is_some forget → drop start.lines read ≡ [] → KnowsTimes forget start times read
none_known forget start times read wanted none = record {
  wanted = wanted;
  seen = λ is place key get. absurd (no_key (ap (λ (part : List (Result SaidLine Why)). slice_get (keys_taken part) place) (sym none) ∙ get));
}
  where
    no_key : {X : Type 0} {x : X} → None ≡ Some x → ⊥
    no_key is = cc

pub none_read : (forget : Option ℕ) (start : Start) (times : KeyTimes) → times.are_wanted ≡ is_some forget → KnowsTimes forget start times []
none_read forget start times wanted = none_known forget start times [] wanted (drop_all start.lines [] (omega arith))

-- ---- which keys are to be forgotten

true_or : (a b : Bool) → a ≡ true → (a || b) ≡ true
true_or a b is = ap (λ a. a || b) is

pub new_since : (after believed at : ℕ) (last : Option LastLine) → IsSince at last → believed - at ≤ after → is_new after believed last ≡ true
new_since after believed at None none near = absurd none
new_since after believed at (Some last) le near =
    let within : believed - last.seen ≤ after = omega (arith, le, near) in
    true_or (nat_le (believed - last.seen) after) _ (grind (arith, nat_tests, within))
