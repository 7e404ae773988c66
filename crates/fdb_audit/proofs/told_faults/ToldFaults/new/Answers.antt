use Rattle.std.proofs.Common.{◌≡◌, ◌∙◌, ◌++◌, [], List, ap, map, option_map, option_to_list, string_bytes, subst, take_all, ℕ}
use Rattle.fdb_audit.specs.ToldFaults.{client_of}
use Rattle.fdb_audit.specs.Tallied.{HasTextsIn}
use Rattle.fdb_audit.specs.private.{members_of}
use Rattle.fdb_audit.proofs.told_faults.ToldFaults.new.Goals as goal

pub returns : goal.returns
returns c =
    let key = option_to_list (option_map (λ key. key.now) c.args.key) in
    let members : members_of c.loop-member.columns.items ≡ key ++ map string_bytes c.args.members.now =
    c.loop-member.invariant ∙ ap (λ some. key ++ map string_bytes some) (take_all c.loop-member.member-index c.args.members.now c.loop-member-test.false) in
    record {
      kinds = c.new-2.ensures.counted;
      clients = c.in_ok-new-2.ensures.counted client_of;
      texts = subst (λ (members : List (List ℕ)). HasTextsIn members [] c.in_ok-texts.texts.items) (ap members_of c.deref-2.ensures.value ∙ members) c.in_ok-texts.ensures;
      columns = members;
    }
