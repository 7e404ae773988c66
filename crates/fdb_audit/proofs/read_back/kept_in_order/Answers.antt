use Rattle.std.proofs.Common.{◌∙◌, IsPermutation, ap, map, rules, subst, sym}
use Rattle.std.specs.List.{All, filter}
use Rattle.std.proofs.lemmas.List.Elements.{All-filter}
use Rattle.std.proofs.lemmas.List.Sorted.{All-permutation, IsNonDecreasingBy-from_sort_by_key, IsPermutation-map}
use Rattle.fdb_lines.specs.declared.key_part.KeptLine.{KeptLine}
use Rattle.fdb_lines.specs.Keys.{key_at}
use Rattle.fdb_lines.specs.KeyWatch.{IsKept}
use Rattle.fdb_audit.specs.Following.{keys_taken, lines_taken}
use Rattle.fdb_audit.specs.private.KeptTexts.{number_of}
use Rattle.fdb_audit.specs.private.KeyTimes.{is_staying}
use Rattle.fdb_audit.proofs.Forgotten.{places_left}
use Rattle.fdb_audit.proofs.NamedLines.{places_rise}
use Rattle.fdb_audit.proofs.read_back.kept_in_order.Goals as goal

pub returns-clause-rise : goal.returns-clause-rise
returns-clause-rise c =
    let now = c.sort_unstable_by_key.new.self.items in
    places_rise now (IsNonDecreasingBy-from_sort_by_key number_of now c.sort_unstable_by_key.ensures.sorted (λ a r q k. search rules))

pub returns-clause-kept : goal.returns-clause-kept
returns-clause-kept c = λ read seen.
    let taking = c.args.taking.now in
    let stays = is_staying taking.times c.args.forget taking.clocks.believed in
    let lines = lines_taken read in
    let keys = keys_taken read in
    let all = c.in_ok-kept.kept.items in
    let were = c.forget.new.kept.items in
    let now = c.sort_unstable_by_key.new.self.items in
    let are = c.in_ok-kept.ensures lines keys seen in
    let left = c.forget.ensures in
    let same = c.sort_unstable_by_key.ensures.permutation in
    let each = subst (All (IsKept lines keys)) (sym left) (All-filter (λ (line : KeptLine). stays line.key) (IsKept lines keys) all are.each) in (
      subst (λ list. IsPermutation list (map number_of now))
          (ap (map number_of) left ∙ (places_left stays lines keys all are.each ∙ ap (filter (λ place. stays (key_at keys place))) are.all))
          (IsPermutation-map number_of were now same),
      All-permutation (IsKept lines keys) were now same each,
    )
