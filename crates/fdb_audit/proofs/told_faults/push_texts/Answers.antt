use Rattle.std.proofs.Common.{◌≡◌, ◌+◌, ◌<◌, ◌++◌, ◌∙◌, ◌∷◌, ℕ, [], List, ap, append-nil, append_assoc, arith, drop, length, map, refl, slice_index_or, string_bytes, subst, sym}
use Rattle.std.proofs.lemmas.List.{at_drop_more, drop_all, get_or-map, length-map}
use Rattle.fdb_audit.specs.ToldFaults.{AreMostByText, by_text, text_of}
use Rattle.fdb_audit.specs.declared.told_faults.TextGroups.{TextGroups}
use Rattle.fdb_audit.specs.private.{beside_in}
use Rattle.fdb_audit.specs.Tallied.{HasTexts}
use Rattle.fdb_audit.proofs.AddingTexts.{most_of_texts}
use Rattle.fdb_audit.proofs.told_faults.push_texts.Goals as goal

abbrev names_of : List TextGroups → List (List ℕ)
names_of texts = map (λ (groups : TextGroups). string_bytes groups.member) texts

-- the names of the members from a place on
from : (texts : List TextGroups) (members : List (List ℕ)) (i : ℕ) (d : TextGroups) → names_of texts ≡ members → i < length texts
    → drop i members ≡ string_bytes (slice_index_or texts i d).member ∷ drop (i + 1) members
from texts members i d named within =
    subst (λ (names : List (List ℕ)). drop i names ≡ string_bytes (slice_index_or texts i d).member ∷ drop (i + 1) names) named
    (at_drop_more (λ (l : List (List ℕ)). l) (names_of texts) i (string_bytes d.member) (let size = length-map texts (λ (groups : TextGroups). string_bytes groups.member) in omega (arith, size, within))
    ∙ ap (λ (name : List ℕ). name ∷ drop (i + 1) (names_of texts)) (get_or-map (λ (groups : TextGroups). string_bytes groups.member) texts i d (string_bytes d.member) within))

pub loop-groups-init : goal.loop-groups-init
loop-groups-init c = λ members told has rest are. (rest, are, refl)

pub loop-groups-preserved : goal.loop-groups-preserved
loop-groups-preserved c = λ members told has rest are.
    let texts = c.args.texts.now in
    let i = c.loop-groups.groups-index in
    let item = c.groups-item.result in
    let is : slice_index_or texts i item ≡ item = sym c.groups-item.is in
    let its : HasTexts (text_of i) told item = subst (HasTexts (text_of i) told) is (has.each i item c.loop-groups-test.true) in
    let left : drop i members ≡ string_bytes item.member ∷ drop (i + 1) members =
    from texts members i item has.members_are c.loop-groups-test.true ∙ ap (λ (one : TextGroups). string_bytes one.member ∷ drop (i + 1) members) is in
    let first = c.in_ok-push_tally.ensures (by_text (text_of i) told).owned its.tally in
    let most = most_of_texts c.args.json told i item (string_bytes item.member) (beside_in c.texts.result) first.0 its refl c.texts.ensures first.1 in
    let all = c.loop-groups.invariant members told has (first.0 ++ rest)
    (subst (λ (names : List (List ℕ)). AreMostByText c.args.json told i names (first.0 ++ rest)) (sym left) (first.0, most, rest, are, refl)) in
    (all.0, all.1, ap (λ text. text ++ rest) first.2 ∙ (append_assoc _ first.0 rest ∙ all.2))

pub returns : goal.returns
returns c = λ members told has.
    let texts = c.args.texts.now in
    let size = ap length has.members_are in
    let same = length-map texts (λ (groups : TextGroups). string_bytes groups.member) in
    let left : drop c.loop-groups.groups-index members ≡ [] = drop_all _ members (let test = c.loop-groups-test.false in omega (arith, size, same, test)) in
    let all = c.loop-groups.invariant members told has []
    (subst (λ (names : List (List ℕ)). AreMostByText c.args.json told c.loop-groups.groups-index names []) (sym left) refl) in
    (all.0, all.1, sym (append-nil _) ∙ all.2)
