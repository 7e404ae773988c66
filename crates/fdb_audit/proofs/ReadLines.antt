-- The lines that are taken, of those that were read, with one line more.
use Rattle.std.proofs.Common.{◌≡◌, ◌∙◌, ℕ, ◌+◌, ◌≤◌, List, [], ◌∷◌, ◌++◌, Result, Ok, Err, ap, arith, drop, length, length-drop, map, refl, sym, take}
use Rattle.std.proofs.lemmas.List.{length-append, length-map, map-append, map_push, take-append-drop, take-append-le}
use Rattle.fdb_log_reader.specs.declared.error.Why.{Why}
use Rattle.fdb_log_reader.specs.ReadLine.{SaidLine}
use Rattle.fdb_audit.specs.Following.{Start, keys_taken, lines_before, lines_since, lines_taken, taken, taken_above}
use Rattle.fdb_audit.proofs.KeptTexts.{taken_on}
use Rattle.fdb_audit.proofs.Settled.{drop_on}

-- ---- with one more line

pub taken_more : (read : List (Result SaidLine Why)) (said : SaidLine) → taken (read ++ Ok said ∷ []) ≡ taken read ++ said ∷ []
taken_more [] said = refl
taken_more (Ok other ∷ read) said = ap (λ rest. other ∷ rest) (taken_more read said)
taken_more (Err why ∷ read) said = taken_more read said

pub taken_same : (read : List (Result SaidLine Why)) (why : Why) → taken (read ++ Err why ∷ []) ≡ taken read
taken_same [] why = refl
taken_same (Ok other ∷ read) why = ap (λ rest. other ∷ rest) (taken_same read why)
taken_same (Err other ∷ read) why = taken_same read why

pub lines_more : (read : List (Result SaidLine Why)) (said : SaidLine) → lines_taken (read ++ Ok said ∷ []) ≡ lines_taken read ++ said.line ∷ []
lines_more read said = ap (map (λ (one : SaidLine). one.line)) (taken_more read said) ∙ map_push (λ (one : SaidLine). one.line) (taken read) said

pub keys_more : (read : List (Result SaidLine Why)) (said : SaidLine) → keys_taken (read ++ Ok said ∷ []) ≡ keys_taken read ++ said.key ∷ []
keys_more read said = ap (map (λ (one : SaidLine). one.key)) (taken_more read said) ∙ map_push (λ (one : SaidLine). one.key) (taken read) said

pub lines_same : (read : List (Result SaidLine Why)) (why : Why) → lines_taken (read ++ Err why ∷ []) ≡ lines_taken read
lines_same read why = ap (map (λ (one : SaidLine). one.line)) (taken_same read why)

pub keys_same : (read : List (Result SaidLine Why)) (why : Why) → keys_taken (read ++ Err why ∷ []) ≡ keys_taken read
keys_same read why = ap (map (λ (one : SaidLine). one.key)) (taken_same read why)

pub above_same : (above : ℕ) (read : List (Result SaidLine Why)) (said : SaidLine) → taken_above above (read ++ Ok said ∷ []) ≡ taken_above above read
above_same above [] said = refl
above_same above (Ok other ∷ read) said = above_same (above + 1) read said
above_same above (Err why ∷ read) said = ap (λ rest. above ∷ rest) (above_same above read said)

pub above_more : (above : ℕ) (read : List (Result SaidLine Why)) (why : Why)
    → taken_above above (read ++ Err why ∷ []) ≡ taken_above above read ++ (above + length (taken read)) ∷ []
above_more above [] why = let same : above ≡ above + 0 = omega arith in ap (λ n. n ∷ []) same
above_more above (Ok other ∷ read) why =
    let same : (above + 1) + length (taken read) ≡ above + length (other ∷ taken read) = omega arith in
    above_more (above + 1) read why ∙ ap (λ n. taken_above (above + 1) read ++ n ∷ []) same
above_more above (Err other ∷ read) why = ap (λ rest. above ∷ rest) (above_more above read why)

-- each line is taken or refused
pub counted : (above : ℕ) (read : List (Result SaidLine Why)) → length read ≡ length (taken read) + length (taken_above above read)
counted above [] = refl
counted above (Ok said ∷ read) = let rest = counted (above + 1) read in omega arith
counted above (Err why ∷ read) = let rest = counted above read in omega arith

-- ---- of those that came since, with one more line

pub since_more : (start : Start) (read : List (Result SaidLine Why)) (said : SaidLine) → start.lines ≤ length read → lines_since start (read ++ Ok said ∷ []) ≡ lines_since start read ++ said.line ∷ []
since_more start read said le = ap lines_taken (drop_on start.lines read (Ok said ∷ []) le) ∙ lines_more (drop start.lines read) said

pub since_same : (start : Start) (read : List (Result SaidLine Why)) (why : Why) → start.lines ≤ length read → lines_since start (read ++ Err why ∷ []) ≡ lines_since start read
since_same start read why le = ap lines_taken (drop_on start.lines read (Err why ∷ []) le) ∙ lines_same (drop start.lines read) why

pub since_few : (start : Start) (read : List (Result SaidLine Why)) → length (lines_since start read) ≤ length read
since_few start read =
    let part = drop start.lines read in
    let one = length-map (taken part) (λ (said : SaidLine). said.line) in
    let two = counted 0 part in
    let three = length-drop start.lines read in
    omega (arith, one, two, three)

-- and of those before, which stay
pub before_on : (start : Start) (read more : List (Result SaidLine Why)) → start.lines ≤ length read → lines_before start (read ++ more) ≡ lines_before start read
before_on start read more le = ap lines_taken (take-append-le start.lines read more le)

-- both are all
pub lines_parted : (start : Start) (read : List (Result SaidLine Why)) → lines_before start read ++ lines_since start read ≡ lines_taken read
lines_parted start read =
    let line = λ (said : SaidLine). said.line in
    let front = take start.lines read in
    let back = drop start.lines read in
    sym (ap (map line) (taken_on front back) ∙ map-append line (taken front) (taken back)) ∙ ap lines_taken (take-append-drop start.lines read)

pub parted_count : (start : Start) (read : List (Result SaidLine Why)) → length (lines_before start read) + length (lines_since start read) ≡ length (lines_taken read)
parted_count start read = sym (length-append (lines_before start read) (lines_since start read)) ∙ ap length (lines_parted start read)
