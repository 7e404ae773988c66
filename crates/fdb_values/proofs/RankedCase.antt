-- What an audit sees of ranked lines: the same calls, ranks for versions, and what comes first by time alone.
use Rattle.std.proofs.Common.{◌≡◌, ◌⊎◌, ℕ, ◌+◌, ◌<◌, Bool, true, false, ◌||◌, nat_lt, List, length, map, Option, None, Some, refl, ap, ◌∙◌, arith}
use Rattle.std.proofs.lemmas.List.{get_or-map, length-map}
use Rattle.fdb_lines.specs.declared.line.Operation.{Operation}
use Rattle.fdb_lines.specs.declared.line.Operation.TheVariants.{Read as ReadOf, Commit as CommitOf, Ask as AskOf, Report as ReportOf, Learn as LearnFrom}
use Rattle.fdb_lines.specs.declared.line.Line.{Line}
use Rattle.fdb_lines.specs.Before.{began, ended, ended_before}
use Rattle.fdb_lines.specs.Carried.{past_by}
use Rattle.fdb_lines.specs.Lines.{Case, Read, Commit, kind_at, kind_of, line_at, nobody, version_at, version_of}
use Rattle.fdb_values.specs.ByValue.{AreByValue, call_at, comes_first, ranked, ranked_call, ranked_line, value_at}

-- A case that is of these lines, by rank.
pub record IsOf (margin : ℕ) (lines : List Line) (rank : ℕ → ℕ) (c : Case) : Type 0 where
  pub many : length c.lines ≡ length lines
  pub kinds : (k : ℕ) → k < length lines → kind_at c k ≡ call_at lines k
  pub versions : (k : ℕ) → k < length lines → version_at c k ≡ rank (value_at lines k)
  pub before : (j k : ℕ) → j < length lines → k < length lines → c.before j k ≡ comes_first margin lines j k
  pub start : c.start ≡ 0
  pub complete : c.complete ≡ true

pub same_kind : (rank : ℕ → ℕ) (call : Operation) → kind_of (ranked_call rank call) ≡ kind_of call
same_kind rank (ReadOf v) = refl
same_kind rank (CommitOf v) = refl
same_kind rank (AskOf v) = refl
same_kind rank (ReportOf v) = refl
same_kind rank (LearnFrom a) = refl

rank_for : (rank : ℕ → ℕ) (call : Operation) → (kind_of call ≡ Read) ⊎ (kind_of call ≡ Commit) → version_of (ranked_call rank call) ≡ rank (version_of call)
rank_for rank (ReadOf v) is = refl
rank_for rank (CommitOf v) is = refl
rank_for rank (AskOf v) is = refl
rank_for rank (ReportOf v) is = refl
rank_for rank (LearnFrom a) is = grind arith

by_time_alone : (margin : ℕ) (above : Bool) (one other : Line) (end : Option ℕ) → one.client ≡ None
    → ended_before margin above one end other ≡ past_by margin (began other) end
by_time_alone margin above one other None nobody = refl
by_time_alone margin above one other (Some end) nobody = rw nobody (by (nat_lt (end + margin) (began other)))
  where
    by : (b : Bool) → (b || false) ≡ b
    by true = refl
    by false = refl

pub line_is : (lines : List Line) (rank : ℕ → ℕ) (k : ℕ) → k < length lines → line_at (map (ranked_line rank) lines) k ≡ ranked_line rank (line_at lines k)
line_is lines rank k lt = get_or-map (ranked_line rank) lines k nobody nobody lt

pub of_lines : (margin : ℕ) (lines : List Line) (rank : ℕ → ℕ) → AreByValue lines → IsOf margin lines rank (ranked margin lines rank)
of_lines margin lines rank by = record {
  many = length-map lines (ranked_line rank);
  kinds = λ k lt. ap (λ (line : Line). kind_of line.call) (line_is lines rank k lt) ∙ same_kind rank (line_at lines k).call;
  versions = λ k lt. ap (λ (line : Line). version_of line.call) (line_is lines rank k lt) ∙ rank_for rank (line_at lines k).call (by.calls k lt);
  before = λ j k lj lk.
      let lines' = map (ranked_line rank) lines in
      by_time_alone margin (nat_lt j k) (line_at lines' j) (line_at lines' k) (ended (line_at lines' j)) (ap (λ (line : Line). line.client) (line_is lines rank j lj))
      ∙ (λ i. past_by margin (began (line_is lines rank k lk i)) (ended (line_is lines rank j lj i)));
  start = refl;
  complete = refl;
}
