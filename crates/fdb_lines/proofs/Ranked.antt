-- The lines of a log are ranked: with times by when calls began, without by place.
use Rattle.std.proofs.Common.{◌≡◌, ◌⊎◌, ℕ, ◌+◌, ◌*◌, ◌<◌, ◌≤◌, Bool, true, false, List, length, Some, ap, inl, inr, arith}
use Rattle.std.proofs.Math.Nat.{mul-le-mul_left}
use Rattle.std.proofs.lemmas.Bool.Decides.{nat_tests}
use Rattle.fdb_lines.specs.declared.line.Line.{Line}
use Rattle.fdb_lines.specs.declared.log.Log.{Log}
use Rattle.fdb_lines.specs.Before.{began, ended, one_client, by_time}
use Rattle.fdb_lines.specs.Log.{lines_of}
use Rattle.fdb_lines.specs.private.Slots.{slot_rank}
use Rattle.fdb_lines.specs.Lines.{Lines, has_times, line_at}
use Rattle.fdb_lines.specs.declared.log.AuditOpts.{AuditOpts}
use Rattle.fdb_lines.specs.Audit.{case_of}
use Rattle.fdb_lines.specs.Order.{IsRanked, began_rank, rank_of}
use Rattle.fdb_lines.proofs.Told as telling

-- a line had ended before another began, by time or by their client
abbrev IsBefore : ℕ → Line → ℕ → Line → ℕ → ℕ → Type 0
IsBefore margin one j other k end =
    (end + margin < began other) ⊎ ((one_client one.client other.client ≡ true) × ((end < began other) ⊎ ((j < k) × (end ≡ began other))))

opened : (margin : ℕ) (lines : List Line) (j k : ℕ) → by_time margin lines j k ≡ true
    → (end : ℕ) × (ended (line_at lines j) ≡ Some end) × (began (line_at lines j) ≤ end) × IsBefore margin (line_at lines j) j (line_at lines k) k end
opened margin lines j k h = grind (arith, nat_tests)

closed : (margin : ℕ) (lines : List Line) (j k end : ℕ) → ended (line_at lines j) ≡ Some end → IsBefore margin (line_at lines j) j (line_at lines k) k end
    → by_time margin lines j k ≡ true
closed margin lines j k end e h = grind (arith, nat_tests)

-- a rank is first by one number, and then by place
ranks : (n a b j k : ℕ) → j < n → (a < b) ⊎ ((a ≤ b) × (j < k)) → n * a + j < n * b + k
ranks n a b j k lt (inl less) = let m = mul-le-mul_left n (let h : a + 1 ≤ b = omega arith in h) in omega arith
ranks n a b j k lt (inr same) = let m = mul-le-mul_left n same.0 in omega arith

pub ranked : (log : Lines) (opts : AuditOpts) → IsRanked (case_of log opts) (rank_of log.timed log.lines)
ranked log opts = by log.timed
  where
    by : (timed : Bool) → IsRanked (case_of (record { timed = timed; lines = log.lines }) opts) (rank_of timed log.lines)
    by true = record {
      transitive = λ i j k li lj lk p q.
          let a = opened opts.margin log.lines i j p in
          let b = opened opts.margin log.lines j k q in
          closed opts.margin log.lines i k a.0 a.1 (grind (arith, nat_tests));
      climbs = λ j k lj lk p. let a = opened opts.margin log.lines j k p in ranks (length log.lines) _ _ j k lj (grind arith);
      apart = λ j k lj lk same.
          let less = ranks (length log.lines) (began (line_at log.lines j)) (began (line_at log.lines k)) j k lj in
          let more = ranks (length log.lines) (began (line_at log.lines k)) (began (line_at log.lines j)) k j lk in
          grind arith;
    }
    by false = record {
      transitive = λ i j k li lj lk. telling.transitive log.lines i j k;
      climbs = λ j k lj lk. telling.climbs log.lines j k;
      apart = λ j k lj lk same. same;
    }

-- ---- the same of the numbers by which slots are sorted

slot_climbs : (timed : Bool) (lines : List Line) → length lines ≤ 4294967295 → ((k : ℕ) → k < length lines → has_times (line_at lines k) ≡ timed)
    → (j k : ℕ) → j < length lines → k < length lines → rank_of timed lines j < rank_of timed lines k → slot_rank lines j < slot_rank lines k
slot_climbs true lines few alike j k lj lk less =
    let back = ranks (length lines) (began (line_at lines k)) (began (line_at lines j)) k j lk in
    let same : j ≡ k → began_rank lines j ≡ began_rank lines k = ap (began_rank lines) in
    grind arith
slot_climbs false lines few alike j k lj lk less = let one = alike j lj in let other = alike k lk in grind arith

slot_apart : (lines : List Line) → length lines ≤ 4294967295 → (j k : ℕ) → j < length lines → k < length lines → slot_rank lines j ≡ slot_rank lines k → j ≡ k
slot_apart lines few j k lj lk same = grind arith

pub slot_ranked : (log : Log) (opts : AuditOpts) → IsRanked (case_of (lines_of log) opts) (slot_rank log.lines.items)
slot_ranked log opts =
    let r = ranked (lines_of log) opts in
    record {
      transitive = r.transitive;
      climbs = λ j k lj lk before. slot_climbs log.timed log.lines.items log.few log.alike j k lj lk (r.climbs j k lj lk before);
      apart = slot_apart log.lines.items log.few;
    }
