use Rattle.std.proofs.Common.{◌≡◌, ◌∙◌, List, ap, map, string_bytes, subst, ℕ}
use Rattle.std.proofs.lemmas.Result.{on_ok_weaker}
use Rattle.fdb_audit.specs.Groups.{AreMost, client_name}
use Rattle.fdb_audit.specs.ToldFaults.{by_text, client_of}
use Rattle.fdb_audit.proofs.told_faults.push_clients.Goals as goal

pub returns : goal.returns
returns c = on_ok_weaker c.push_tally.result (λ most. λ told has.
    let it = by_text client_of told in
    let json = c.args.json in
    let (text, are, written) = most it.owned has.tally in
    let texts : map string_bytes c.deref.result.now ≡ it.texts = ap (map string_bytes) c.deref.ensures.value ∙ has.texts in (
      text,
      subst (λ more. AreMost json more (λ json. client_name json it.texts) it.owned text) has.more
          (subst (λ (texts : List (List ℕ)). AreMost json c.args.clients.now.more (λ json. client_name json texts) it.owned text) texts are),
      written,
    )) c.push_tally.ensures
