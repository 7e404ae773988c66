use Rattle.std.proofs.Common.{ap, arith, length, refl, string_bytes, sym}
use Rattle.std.proofs.lemmas.List.{length-map}
use Rattle.fdb_audit.specs.ToldFaults.{text_of}
use Rattle.fdb_audit.specs.declared.told_faults.TextGroups.{TextGroups}
use Rattle.fdb_audit.proofs.AddingTexts.{adding_all, adding_first, adding_more}
use Rattle.fdb_audit.proofs.told_faults.add_texts.Goals as goal

pub loop-member-init : goal.loop-member-init
loop-member-init c = λ members told has. adding_first members told _ c.args.texts.now has

pub loop-member-preserved : goal.loop-member-preserved
loop-member-preserved c = λ members told has.
    let i = c.loop-member.member in
    let texts = c.loop-member.texts in
    let sofar = c.loop-member.invariant members told has in
    let many = ap length has.members_are in
    let same = ap length sofar.names in
    let one = length-map c.args.texts.now (λ (groups : TextGroups). string_bytes groups.member) in
    let two = length-map texts (λ (groups : TextGroups). string_bytes groups.member) in
    let test = c.loop-member-test.true in
    adding_more members told _ i texts c.index-texts-member.result c.add.new.self sofar (omega (arith, many, same, one, two, test)) c.add.ensures.member
    (c.in_ok-add.ensures.counted (text_of i) told _ (sym c.text_at.ensures) refl)

pub returns : goal.returns
returns c = λ members told has.
    let texts = c.loop-member.texts in
    let sofar = c.loop-member.invariant members told has in
    let many = ap length has.members_are in
    let same = ap length sofar.names in
    let one = length-map c.args.texts.now (λ (groups : TextGroups). string_bytes groups.member) in
    let two = length-map texts (λ (groups : TextGroups). string_bytes groups.member) in
    let test = c.loop-member-test.false in
    adding_all members told _ c.loop-member.member texts sofar (omega (arith, many, same, one, two, test))
