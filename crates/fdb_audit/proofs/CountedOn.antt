-- What an earlier piece of a watch has counted, and what is counted behind that.
use Rattle.std.proofs.Common.{◌≡◌, ◌∙◌, ◌^◌, ◌<◌, ◌≤◌, Bool, ℕ, List, Result, ap, arith, length}
use Rattle.std.proofs.lemmas.List.Sums.{count_by-le-length}
use Rattle.fdb_lines.specs.declared.fault.Found.{Found}
use Rattle.fdb_lines.specs.declared.line.Line.{Line}
use Rattle.fdb_lines.specs.Lines.{Kind, is_ask, is_commit, is_read, is_report, kind_of}
use Rattle.fdb_lines.specs.Summary.{how_many}
use Rattle.fdb_log_reader.specs.declared.error.Why.{Why}
use Rattle.fdb_log_reader.specs.ReadLine.{SaidLine}
use Rattle.fdb_audit.specs.Following.{Counted, Start, counted_on, lines_since, none_counted, sum_of}
use Rattle.fdb_audit.specs.Taken.{AreTaken, counted_of}
use Rattle.fdb_audit.specs.declared.taken_lines.Taking.{Taking}
use Rattle.fdb_audit.proofs.OddLines.{since_ahead, since_early}
use Rattle.fdb_audit.proofs.ReadLines.{counted, since_few}

-- each of these has room
record AreFew (counts : Counted) : Type 0 where
  pub lines : counts.lines < 2 ^ 64
  pub reads : counts.reads < 2 ^ 64
  pub commits : counts.commits < 2 ^ 64
  pub asks : counts.asks < 2 ^ 64
  pub reports : counts.reports < 2 ^ 64
  pub refused : counts.refused < 2 ^ 64
  pub early : counts.early < 2 ^ 64
  pub judged : counts.judged < 2 ^ 64
  pub ahead : counts.ahead < 2 ^ 64

alone : (n : ℕ) → n < 2 ^ 64 → sum_of 0 n ≡ n
alone n few = omega (arith, few)

abbrev make : (lines reads commits asks reports refused early judged ahead : ℕ) → Counted
make lines reads commits asks reports refused early judged ahead = record {
  lines = lines;
  reads = reads;
  commits = commits;
  asks = asks;
  reports = reports;
  refused = refused;
  early = early;
  judged = judged;
  ahead = ahead;
}

-- behind nothing they are what they are
alone_all : (counts : Counted) → AreFew counts → counted_on none_counted counts ≡ counts
alone_all counts few =
    ap (λ (n : ℕ). make n (sum_of 0 counts.reads) (sum_of 0 counts.commits) (sum_of 0 counts.asks) (sum_of 0 counts.reports) (sum_of 0 counts.refused) (sum_of 0 counts.early) (sum_of 0 counts.judged) (sum_of 0 counts.ahead)) (alone counts.lines few.lines)
    ∙ (ap (λ (n : ℕ). make counts.lines n (sum_of 0 counts.commits) (sum_of 0 counts.asks) (sum_of 0 counts.reports) (sum_of 0 counts.refused) (sum_of 0 counts.early) (sum_of 0 counts.judged) (sum_of 0 counts.ahead)) (alone counts.reads few.reads)
    ∙ (ap (λ (n : ℕ). make counts.lines counts.reads n (sum_of 0 counts.asks) (sum_of 0 counts.reports) (sum_of 0 counts.refused) (sum_of 0 counts.early) (sum_of 0 counts.judged) (sum_of 0 counts.ahead)) (alone counts.commits few.commits)
    ∙ (ap (λ (n : ℕ). make counts.lines counts.reads counts.commits n (sum_of 0 counts.reports) (sum_of 0 counts.refused) (sum_of 0 counts.early) (sum_of 0 counts.judged) (sum_of 0 counts.ahead)) (alone counts.asks few.asks)
    ∙ (ap (λ (n : ℕ). make counts.lines counts.reads counts.commits counts.asks n (sum_of 0 counts.refused) (sum_of 0 counts.early) (sum_of 0 counts.judged) (sum_of 0 counts.ahead)) (alone counts.reports few.reports)
    ∙ (ap (λ (n : ℕ). make counts.lines counts.reads counts.commits counts.asks counts.reports n (sum_of 0 counts.early) (sum_of 0 counts.judged) (sum_of 0 counts.ahead)) (alone counts.refused few.refused)
    ∙ (ap (λ (n : ℕ). make counts.lines counts.reads counts.commits counts.asks counts.reports counts.refused n (sum_of 0 counts.judged) (sum_of 0 counts.ahead)) (alone counts.early few.early)
    ∙ (ap (λ (n : ℕ). make counts.lines counts.reads counts.commits counts.asks counts.reports counts.refused counts.early n (sum_of 0 counts.ahead)) (alone counts.judged few.judged)
    ∙ (ap (λ (n : ℕ). make counts.lines counts.reads counts.commits counts.asks counts.reports counts.refused counts.early counts.judged n) (alone counts.ahead few.ahead)))))))))

few_kind : (is : Kind → Bool) (lines : List Line) → how_many is lines ≤ length lines
few_kind is lines = count_by-le-length (λ (line : Line). is (kind_of line.call)) lines

-- and so is what is counted of a watch behind which nothing came
pub counted_first : (start : Start) (taking : Taking) (read : List (Result SaidLine Why)) (told : List Found) → AreTaken start taking read told
    → counted_on none_counted (counted_of taking) ≡ counted_of taking
counted_first start taking read told are =
    let few = are.numbered.few in
    let since = since_few start read in
    let lines = are.counted.lines in
    let all = counted 0 read in
    let refused = ap length are.numbered.above in
    let early = since_early start read taking.settlings.at in
    let early_is = are.came.count in
    let judged = are.came.few in
    let ahead = since_ahead start read in
    let ahead_is = are.ahead in
    let kind = λ (is : Kind → Bool). few_kind is (lines_since start read) in
    alone_all (counted_of taking) (record {
      lines = omega (arith, few, since, lines);
      reads = (let one = kind is_read in let same = are.counted.reads in omega (arith, few, since, one, same));
      commits = (let one = kind is_commit in let same = are.counted.commits in omega (arith, few, since, one, same));
      asks = (let one = kind is_ask in let same = are.counted.asks in omega (arith, few, since, one, same));
      reports = (let one = kind is_report in let same = are.counted.reports in omega (arith, few, since, one, same));
      refused = omega (arith, few, all, refused);
      early = omega (arith, few, early, early_is);
      judged = omega (arith, few, early, early_is, judged);
      ahead = omega (arith, few, ahead, ahead_is);
    })
