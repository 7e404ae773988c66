use Rattle.std.proofs.Common.{◌≡◌, ◌∙◌, ◌<◌, ◌+◌, ◌-◌, ◌≤◌, Bool, ℕ, ap, arith, if◌then◌else◌, length, map, nat_lt, rules, subst}
use Rattle.std.specs.Prelude.{◌&&◌, count_by}
use Rattle.std.proofs.lemmas.List.Elements.{All-weaker}
use Rattle.fdb_audit.specs.Following.{KeptBefore, taken_line, taken}
use Rattle.fdb_audit.specs.private.Numbering.{AreTakenLines}
use Rattle.fdb_audit.proofs.ReadLines.{counted}
use Rattle.fdb_audit.proofs.KeptTexts.{said_same}
use Rattle.fdb_audit.proofs.read_back.says_kept.Goals as goal

pub returns : goal.returns
returns c = λ is start read told are within.
    let said = c.args.said.now in
    let places = c.args.places.now in
    let taking = c.args.taking.now in
    let same = c.says.ensures is in
    let lines_are : c.in_ok-lines.lines.items ≡ map (taken_line start.kept read) places =
    subst (λ (before : KeptBefore). AreTakenLines before taking.numbering.above.items places c.in_ok-lines.lines.items) are.numbered.front c.in_ok-lines.ensures
    read are.numbered.above are.numbered.few (All-weaker (λ place. place < length (taken read)) (λ place. place ≤ length (taken read)) (λ place lt. omega (arith, lt)) places within) in
    let come : c.count-come.result ≡ count_by (λ place. nat_lt place taking.settled) places = search rules in
    let told_is : said.told ≡ count_by (λ place. nat_lt place taking.settled) places = same.1 ∙ come in
    let beside_is : c.saturating_sub-beside.result ≡ length read + start.kept.more - length places =
    (let sub = c.saturating_sub-beside.ensures in
    let lines = c.line_count.ensures in
    let count = are.count in
    let above = ap length are.numbered.above in
    let all = counted 0 read in
    let more = ap (λ (before : KeptBefore). before.more) are.numbered.front in
    let few = are.numbered.few in
    omega (arith, sub, lines, count, above, all, more, few)) in
    let more_is : said.more ≡ (if nat_lt 0 (length places) then length read + start.kept.more - length places else 0) =
    same.2 ∙ (c.number_if-more.ensures ∙ ap (λ (n : ℕ). if nat_lt 0 (length places) then n else 0) beside_is) in
    let settled_is : said.settled ≡ (if nat_lt 0 (count_by (λ place. nat_lt place taking.settled) places) then taking.watch.from else 0) =
    same.3 ∙ (c.number_if-at.ensures
    ∙ (ap (λ n. if nat_lt 0 n then c.settled_to.result else 0) come
    ∙ ap (λ (at : ℕ). if nat_lt 0 (count_by (λ place. nat_lt place taking.settled) places) then at else 0) c.settled_to.ensures)) in
    said_same said.lines.items (map (taken_line start.kept read) places) said.more _ said.told _ said.settled _ said.are_many _
    (same.0 ∙ (c.deref.ensures.value ∙ lines_are)) more_is told_is settled_is
    (same.4 ∙ (c.many_if-are_many.ensures ∙ ap (λ (b : Bool). nat_lt 0 (length places) && b) c.are_many.ensures))
