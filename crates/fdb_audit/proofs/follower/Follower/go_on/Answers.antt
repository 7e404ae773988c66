use Rattle.std.proofs.Common.{◌≡◌, ◌==◌, ◌∙◌, ◌++◌, ◌<◌, [], ℕ, false, IfOk, List, Option, Result, ap, arith, length, map, string_bytes, subst, sym}
use Rattle.std.specs.List.{All}
use Rattle.std.proofs.lemmas.Bool.Decides.{nat_tests}
use Rattle.std.proofs.lemmas.List.{length-map}
use Rattle.std.proofs.lemmas.List.Sorted.{length_permutation}
use Rattle.fdb_lines.specs.declared.fault.Found.{Found}
use Rattle.fdb_lines.specs.declared.key_part.KeptLine.{KeptLine}
use Rattle.fdb_lines.specs.KeyWatch.{IsKept}
use Rattle.fdb_log_reader.specs.LineReader.{line_names}
use Rattle.fdb_log_reader.specs.ReadLine.{SaidLine, member_in}
use Rattle.fdb_log_reader.specs.declared.error.Why.{Why}
use Rattle.fdb_audit.specs.Following.{Start, keys_taken, lines_taken, told_in_all}
use Rattle.fdb_audit.specs.GoingOn.{places_staying}
use Rattle.fdb_audit.specs.Kept.{KeepsLines, start_of}
use Rattle.fdb_audit.specs.private.KeptTexts.{number_of}
use Rattle.fdb_audit.specs.private.KeyTimes.{is_staying}
use Rattle.fdb_audit.specs.Recent.{KnowsTimes}
use Rattle.fdb_audit.specs.Taken.{AreTaken}
use Rattle.fdb_audit.specs.Watched.{HasFollowed}
use Rattle.fdb_audit.proofs.Forgotten.{may_forget}
use Rattle.fdb_audit.proofs.GoingOn.{ends_there, gone_on_by, kept_so}
use Rattle.fdb_audit.proofs.follower.Follower.go_on.Goals as goal

some_of : (n m : ℕ) → (n == 0) ≡ false → n ≡ m → 0 < m
some_of n m some same = grind (arith, nat_tests)

pub returns-clause-gone_on : goal.returns-clause-gone_on
returns-clause-gone_on c = λ _ asked start bytes told same has.
    let old = c.args.self.now in
    let given = c.args.asked.now in
    let next = c.in-Ok-next.next in
    let kept = string_bytes c.in-Ok.text in
    let quiet = c.requires.quiet in
    let names = line_names old.reader in
    let stays = is_staying old.taking.times given.forget old.taking.clocks.believed in
    let lines = c.in_ok-kept.kept.items in
    let (same_places, each) = c.in_ok-kept.ensures.kept has.read has.telling.taken.seen in
    let says : KeepsLines (map number_of lines) (member_in names) names start.kept old.taking has.read kept =
    subst (λ (lines : List KeptLine). KeepsLines (map number_of lines) (member_in names) names start.kept old.taking has.read kept) c.deref.ensures.value
    (subst
    (λ it. IfOk it (λ text. (start : Start) (read : List (Result SaidLine Why)) (told : List Found) → AreTaken start old.taking read told
    → All (IsKept (lines_taken read) (keys_taken read)) c.deref.result.now
    → KeepsLines (map number_of c.deref.result.now) (member_in names) names start.kept old.taking read (string_bytes text))) c.in-Ok.is c.in_ok-text.ensures
    start has.read (start.told ++ told_in_all has.read has.telling.windows) has.telling.taken
    (subst (λ (list : List KeptLine). All (IsKept (lines_taken has.read) (keys_taken has.read)) list) (sym c.deref.ensures.value) each)) in
    let Restored = λ (text : List ℕ). (has : HasFollowed given (start_of given old.behind text) next text []) × (has.telling.windows ≡ []) × (next.taking.settlings.at ≡ []) in
    let restored : Restored kept = subst Restored c.as_bytes.ensures.value
    (subst (λ it. IfOk it (λ follower. let text = c.as_bytes.result.now in (has : HasFollowed given (start_of given old.behind text) follower text []) × (has.telling.windows ≡ []) × (follower.taking.settlings.at ≡ []))) c.in-Ok-next.is c.in_ok-next.ensures.none_told) in
    let moment : next.taking.watch.from ≡ (start_of given old.behind kept).from =
    subst (λ it. IfOk it (λ follower. follower.taking.watch.from ≡ (start_of given old.behind c.as_bytes.result.now).from)) c.in-Ok-next.is c.in_ok-next.ensures.settled
    ∙ ap (λ text. (start_of given old.behind text).from) c.as_bytes.ensures.value in
    let still : next.taking.watch.from ≡ old.taking.watch.from = (let one = c.settled_to.ensures in let two = c.settled_to-2.ensures in let same = c.if-settled_to.false in omega (arith, one, two, same)) in
    let some : 0 < length (places_staying stays has.read old.taking) =
    (let some = some_of _ (length lines) (sym c.is_empty.ensures ∙ c.if-is_empty.false) c.in_ok-kept.kept.ok.0 in
    let many = length_permutation (places_staying stays has.read old.taking) (map number_of lines) same_places in
    let size = length-map lines number_of in
    omega (arith, some, many, size)) in
    gone_on_by asked given same start old next c.give_way.new.self bytes told kept has quiet
    stays c.in_ok-times.times c.in_ok-times.ensures
    (may_forget old.taking.times given.forget start has.read old.taking.clocks.believed
    (subst (λ (forget : Option ℕ). KnowsTimes forget start old.taking.times has.read) (sym same.forget) has.telling.times) has.telling.taken.reach.believed)
    (kept_so asked start old bytes told kept has c.keys_stay_in_one_member.ensures (places_staying stays has.read old.taking) (map number_of lines) same_places says)
    (ends_there asked start old bytes told has (c.a_space_more_is_of_one_line.ensures old.reader) quiet) restored moment still c.give_way.ensures
    some
