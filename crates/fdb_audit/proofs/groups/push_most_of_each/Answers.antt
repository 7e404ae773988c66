use Rattle.std.proofs.Common.{◌≡◌, ◌+◌, ◌++◌, ◌∙◌, ◌∷◌, [], List, ap, append-nil, append_assoc, arith, drop, false, map, refl, subst, sym}
use Rattle.std.proofs.lemmas.List.{at_drop_more, drop_all}
use Rattle.fdb_audit.specs.declared.members.Column.{Column}
use Rattle.fdb_audit.specs.Groups.{by_member, owned_by, AreMost, AreMostOfEach}
use Rattle.fdb_audit.specs.private.{beside_of}
use Rattle.fdb_audit.proofs.groups.push_most_of_each.Goals as goal

pub loop-member-init : goal.loop-member-init
loop-member-init c = λ rest are.
    let first = c.in_ok-push_most.ensures in
    (first.0 ++ rest, (first.0, first.1, rest, are, refl), ap (λ text. text ++ rest) first.2 ∙ append_assoc _ first.0 rest)

pub loop-member-preserved : goal.loop-member-preserved
loop-member-preserved c = λ rest are.
    let first = c.in_ok-push_most-2.ensures in
    let members = c.args.printer.beside.now in
    let i = c.loop-member.member-index in
    let item = c.member-item.result in
    let left : drop i members ≡ item ∷ drop (i + 1) members =
    at_drop_more (λ (l : List Column). l) members i item c.loop-member-test.true ∙ ap (λ m. m ∷ drop (i + 1) members) (sym c.member-item.is) in
    let most = subst (λ it. AreMost c.args.json false (by_member it).name (owned_by (by_member it) c.args.found.now) first.0) c.member.ensures first.1 in
    let all = c.loop-member.invariant (first.0 ++ rest)
    (subst (λ l. AreMostOfEach c.args.json (map by_member (map beside_of l)) c.args.found.now (first.0 ++ rest)) (sym left) (first.0, most, rest, are, refl)) in
    (all.0, all.1, ap (λ text. text ++ rest) first.2 ∙ (append_assoc _ first.0 rest ∙ all.2))

pub returns : goal.returns
returns c =
    let members = c.args.printer.beside.now in
    let left : drop c.loop-member.member-index members ≡ [] = drop_all _ members (let test = c.loop-member-test.false in omega arith) in
    let all = c.loop-member.invariant []
    (subst (λ l. AreMostOfEach c.args.json (map by_member (map beside_of l)) c.args.found.now []) (sym left) refl) in
    (all.0, all.1, sym (append-nil _) ∙ all.2)
