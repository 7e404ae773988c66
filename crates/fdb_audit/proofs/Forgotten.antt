-- Which lines are kept where keys are forgotten.
use Rattle.std.proofs.Common.{◌≡◌, ◌∙◌, ◌∷◌, [], ℕ, ◌+◌, suc, Bool, true, false, IsPermutation, List, None, Option, Result, Some, ap, arith, cond, map, refl, slice_get}
use Rattle.std.specs.List.{All, filter}
use Rattle.std.proofs.lemmas.List.Sorted.{IsPermutation-trans}
use Rattle.fdb_lines.specs.declared.key_part.KeptLine.{KeptLine}
use Rattle.fdb_lines.specs.declared.line.Line.{Line}
use Rattle.fdb_lines.specs.Keys.{key_at}
use Rattle.fdb_lines.specs.KeyWatch.{IsKept}
use Rattle.fdb_log_reader.specs.declared.error.Why.{Why}
use Rattle.fdb_log_reader.specs.ReadLine.{LineNames, SaidLine}
use Rattle.fdb_audit.specs.declared.clocks.KeyTimes.{KeyTimes}
use Rattle.fdb_audit.specs.declared.taken_lines.Taking.{Taking}
use Rattle.fdb_audit.specs.Following.{KeptBefore, Start}
use Rattle.fdb_audit.specs.GoingOn.{MayForget}
use Rattle.fdb_audit.specs.Kept.{KeepsLines}
use Rattle.fdb_audit.specs.private.KeptTexts.{number_of}
use Rattle.fdb_audit.specs.Recent.{KnowsTimes, believed_by, believed_now}
use Rattle.fdb_audit.specs.private.KeyTimes.{is_staying}
use Rattle.fdb_audit.proofs.Recent.{new_since}

-- Lines without a key stay, and all where none is to be forgotten; and those of keys of which a line has come within a while.
pub may_forget : (times : KeyTimes) (forget : Option ℕ) (start : Start) (read : List (Result SaidLine Why)) (believed : ℕ) → KnowsTimes forget start times read → believed ≡ believed_now start read
    → MayForget forget start read (is_staying times forget believed)
may_forget times None start read believed knows now = record { unkeyed = refl; all = λ _ key. refl; recent = λ _ place key _ _ _. refl }
may_forget times (Some after) start read believed knows now = record {
  unkeyed = refl;
  all = λ none. absurd (some_is none);
  recent = λ within place key is get near.
      let at = believed_by start read (place + 1) in
      let same : after ≡ within = same_some is in
      new_since after believed at (slice_get times.last.items key) (knows.seen refl place key get) (omega (arith, near, now, same));
}
  where
    some_is : Some after ≡ None → ⊥
    some_is is = cc

    same_some : {within : ℕ} → Some after ≡ Some within → after ≡ within
    same_some is = cc

-- what keeps some lines keeps those that are the same in another order
pub keeps_all : {key : Option (List ℕ)} {names : LineNames} {before : KeptBefore} {taking : Taking} {read : List (Result SaidLine Why)} {text wanted : List ℕ} (are : List ℕ)
    → IsPermutation wanted are → KeepsLines are key names before taking read text → KeepsLines wanted key names before taking read text
keeps_all {wanted = wanted} are same keeps = record {
  places = keeps.places;
  all = IsPermutation-trans wanted are keeps.places same keeps.all;
  within = keeps.within;
  rise = keeps.rise;
  said = keeps.said;
  lines = keeps.lines;
  whole = keeps.whole;
  ends = keeps.ends;
}

pub all_stay : (places : List ℕ) → filter (λ place. true) places ≡ places
all_stay [] = refl
all_stay (place ∷ places) = ap (λ (rest : List ℕ). place ∷ rest) (all_stay places)

-- where each stays, all lines do
pub stay_all : (stays : Option ℕ → Bool) → ((key : Option ℕ) → stays key ≡ true) → (keys : List (Option ℕ)) (places : List ℕ)
    → filter (λ place. stays (key_at keys place)) places ≡ places
stay_all stays all keys [] = refl
stay_all stays all keys (place ∷ places) =
    ap (λ b. cond {A = List ℕ} b (place ∷ filter (λ place. stays (key_at keys place)) places) (filter (λ place. stays (key_at keys place)) places)) (all (key_at keys place))
    ∙ ap (λ (rest : List ℕ). place ∷ rest) (stay_all stays all keys places)

-- the places of the lines whose keys stay
pub places_left : (stays : Option ℕ → Bool) (lines : List Line) (keys : List (Option ℕ)) (kept : List KeptLine) → All (IsKept lines keys) kept
    → map number_of (filter (λ (line : KeptLine). stays line.key) kept) ≡ filter (λ place. stays (key_at keys place)) (map number_of kept)
places_left stays lines keys [] each = refl
places_left stays lines keys (line ∷ kept) each =
    by (stays line.key) (stays (key_at keys (number_of line))) (ap stays (each 0 line (omega arith)).key) (places_left stays lines keys kept (λ k d lt. each (suc k) d (omega (arith, lt))))
  where
    by : (one other : Bool) → one ≡ other → map number_of (filter (λ (line : KeptLine). stays line.key) kept) ≡ filter (λ place. stays (key_at keys place)) (map number_of kept)
        → map number_of (cond one (line ∷ filter (λ (line : KeptLine). stays line.key) kept) (filter (λ (line : KeptLine). stays line.key) kept))
        ≡ cond other (number_of line ∷ filter (λ place. stays (key_at keys place)) (map number_of kept)) (filter (λ place. stays (key_at keys place)) (map number_of kept))
    by true true is rest = ap (λ (list : List ℕ). number_of line ∷ list) rest
    by false false is rest = rest
    by true false is rest = absurd (differs is)
      where
        differs : true ≡ false → ⊥
        differs is = cc
    by false true is rest = absurd (differs is)
      where
        differs : false ≡ true → ⊥
        differs is = cc
