use Rattle.std.proofs.Common.{◌∙◌, ◌++◌, ap, refl, string_bytes, take}
use Rattle.std.proofs.lemmas.Result.{on_ok_weaker}
use Rattle.fdb_audit.specs.Groups.{group_lines}
use Rattle.fdb_audit.specs.private.{grouping_of, owners_in}
use Rattle.fdb_audit.proofs.groups.By.push_tally.Goals as goal

pub returns : goal.returns
returns c = on_ok_weaker c.push_groups.result (λ written. λ owned has.
    let most = c.in_ok-most.ensures owned has in
    let lines = group_lines c.args.json c.args.more (grouping_of c.args.self).name owned in
    (lines (take 10 most.0), (most.0, most.1, refl), written owned has ∙ ap (λ groups. string_bytes c.args.out.now ++ lines groups) (ap owners_in c.deref.ensures.value ∙ most.2)))
    c.push_groups.ensures
