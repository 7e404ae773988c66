-- Windows tell when a watch settles, as far as all may be told then.
use Rattle.std.proofs.Common.{◌≡◌, ◌∙◌, ℕ, ◌-◌, ◌≤◌, Bool, true, false, List, ◌∷◌, ◌++◌, None, Option, Some, Result, ap, arith, drop, get_or, length, length-append, refl, subst, suc, sym, take}
use Rattle.std.specs.Prelude.{IfSome}
use Rattle.std.specs.List.{All, Contains}
use Rattle.std.proofs.lemmas.Bool.{false≢true}
use Rattle.std.proofs.lemmas.List.{length-map, take-append-drop, take-append-le, take_all}
use Rattle.std.proofs.lemmas.List.Elements.{All-append}
use Rattle.std.proofs.lemmas.Option.{IfSome_then}
use Rattle.fdb_lines.specs.declared.line.Line.{Line}
use Rattle.fdb_lines.specs.KeyWatch.{SettledTo}
use Rattle.fdb_log_reader.specs.declared.error.Why.{Why}
use Rattle.fdb_log_reader.specs.ReadLine.{SaidLine}
use Rattle.fdb_audit.specs.Came.{certain_with}
use Rattle.fdb_audit.specs.Following.{Start, Window, certain_in, lines_before, lines_since, lines_taken, taken}
use Rattle.fdb_audit.specs.Watched.{IsAt}
use Rattle.fdb_audit.specs.private.Followed.{IsWindowOf}
use Rattle.fdb_audit.proofs.KeptTexts.{taken_on}
use Rattle.fdb_audit.proofs.ReadLines.{before_on, parted_count}
use Rattle.fdb_audit.proofs.ReadOn.{lines_taken_on}
use Rattle.fdb_audit.proofs.Settled.{certain, drop_on}

taken_least : (n : ℕ) (read : List (Result SaidLine Why)) → length (taken (take n read)) ≤ length (taken read)
taken_least n read =
    let parts = sym (taken_on (take n read) (drop n read)) ∙ ap taken (take-append-drop n read) in
    let size = sym (length-append (taken (take n read)) (taken (drop n read))) ∙ ap length parts in
    omega (arith, size)

since_on : (start : Start) (read further : List (Result SaidLine Why)) → start.lines ≤ length read → lines_since start (read ++ further) ≡ lines_since start read ++ lines_taken further
since_on start read further less = ap lines_taken (drop_on start.lines read further less) ∙ lines_taken_on (drop start.lines read) further

-- what might be told then stays what it was
certain_on : (start : Start) (read further : List (Result SaidLine Why)) (come : ℕ) → start.lines ≤ length read → come ≤ length (taken read)
    → certain_with start (lines_before start (read ++ further)) (lines_since start (read ++ further)) come ≡ certain_with start (lines_before start read) (lines_since start read) come
certain_on start read further come less low =
    let above = lines_before start read in
    let since = lines_since start read in
    let all = parted_count start read in
    let size = length-map (taken read) (λ (said : SaidLine). said.line) in
    ap (λ (above : List Line). certain_with start above (lines_since start (read ++ further)) come) (before_on start read further less)
    ∙ (ap (λ (since : List Line). certain_with start above since come) (since_on start read further less)
    ∙ ap (certain start above) (take-append-le (come - length above) since (lines_taken further) (omega (arith, low, all, size))))

-- with more that is read
pub at_stays : (start : Start) (read further : List (Result SaidLine Why)) (settled : List ℕ) (windows : List Window) → start.lines ≤ length read → All (λ (window : Window). window.read ≤ length read) windows
    → All (IsAt start false read settled) windows → All (IsAt start false (read ++ further) settled) windows
at_stays start read further settled windows less within are k d lt =
    let window = get_or windows k d in
    let is = are k d lt in
    let those = take-append-le window.read read further (within k d lt) in
    let come = length (taken (take window.read read)) in
    let same = certain_on start read further come less (taken_least window.read read) in
    let At = λ (come to : ℕ). Contains settled come × (to ≡ certain_with start (lines_before start (read ++ further)) (lines_since start (read ++ further)) come) in
    let moved : IfSome window.to (At come) = IfSome_then window.to is.to (λ to (has, at). (has, at ∙ sym same)) in
    record {
      to = subst (λ (part : List (Result SaidLine Why)). IfSome window.to (At (length (taken part)))) (sym those) moved;
      last = λ none. absurd (false≢true (is.last none).0);
    }

-- and where it has settled once more
at_more : (start : Start) (ends : Bool) (read : List (Result SaidLine Why)) (settled : List ℕ) (at : ℕ) (windows : List Window) → All (IsAt start ends read settled) windows
    → All (IsAt start ends read (at ∷ settled)) windows
at_more start ends read settled at windows are k d lt =
    let is = are k d lt in
    record { to = IfSome_then (get_or windows k d).to is.to (λ to ((i, lt, has), same). ((suc i, omega (arith, lt), has), same)); last = is.last }

-- windows of all lines that were read
pub at_now : (start : Start) (read : List (Result SaidLine Why)) (settled : List ℕ) (come to behind : ℕ) (names : List (List ℕ)) (far : Option ℕ → SettledTo) (windows more : List Window)
    → come ≡ length (taken read) → to ≡ certain_in start read → All (IsAt start false read settled) windows → All (IsWindowOf behind read names far (Some to)) more
    → All (IsAt start false read (come ∷ settled)) (windows ++ more)
at_now start read settled come to behind names far windows more come_is to_is are each =
    All-append (IsAt start false read (come ∷ settled)) windows more (at_more start false read settled come windows are) (λ k d lt.
    let window = get_or more k d in
    let it = each k d lt in
    let size = it.all in
    let parts = parted_count start read in
    let lines = length-map (taken read) (λ (said : SaidLine). said.line) in
    let above = lines_before start read in
    let since = lines_since start read in
    let whole : take window.read read ≡ read = take_all window.read read (omega (arith, size)) in
    let come_too : length (taken (take window.read read)) ≡ come = ap (λ (part : List (Result SaidLine Why)). length (taken part)) whole ∙ sym come_is in
    let certain_too : to ≡ certain_with start above since come =
    to_is ∙ sym (ap (certain start above) (take_all (come - length above) since (omega (arith, parts, lines, come_is)))) in
    let At = λ (n to : ℕ). Contains (come ∷ settled) n × (to ≡ certain_with start above since n) in
    record {
      to = subst (λ (up : Option ℕ). IfSome up (At (length (taken (take window.read read))))) (sym it.to_is)
          (subst (λ n. At n to) (sym come_too) ((0, omega arith, refl), certain_too));
      last = λ none. absurd (some_none (sym it.to_is ∙ none));
    })
  where
    some_none : {n : ℕ} → Some n ≡ None → ⊥
    some_none is = cc

-- and at the end
pub at_end : (start : Start) (read : List (Result SaidLine Why)) (settled : List ℕ) (behind : ℕ) (names : List (List ℕ)) (far : Option ℕ → SettledTo) (windows more : List Window)
    → All (IsAt start false read settled) windows → All (IsWindowOf behind read names far None) more → All (IsAt start true read settled) (windows ++ more)
at_end start read settled behind names far windows more are each =
    All-append (IsAt start true read settled) windows more
    (λ k d lt. let is = are k d lt in record { to = is.to; last = λ none. absurd (false≢true (is.last none).0) })
    (λ k d lt.
    let window = get_or more k d in
    let it = each k d lt in
    let At = λ (to : ℕ). let come = length (taken (take window.read read)) in Contains settled come × (to ≡ certain_with start (lines_before start read) (lines_since start read) come) in
    record { to = subst (λ (up : Option ℕ). IfSome up At) (sym it.to_is) tt; last = λ none. (refl, it.all) })
