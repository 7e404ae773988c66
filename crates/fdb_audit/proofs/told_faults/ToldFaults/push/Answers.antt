use Rattle.std.proofs.Common.{◌∙◌, ◌++◌, ap, append_assoc, map, refl, string_bytes, subst, sym}
use Rattle.std.proofs.lemmas.Result.{on_ok_weaker}
use Rattle.fdb_audit.specs.Text.{line}
use Rattle.fdb_audit.specs.ToldFaults.{ToldFault}
use Rattle.fdb_audit.specs.Totals.{faults_line}
use Rattle.fdb_audit.specs.Tallied.{HasTextsIn}
use Rattle.fdb_audit.proofs.told_faults.ToldFaults.push.Goals as goal

pub returns : goal.returns
returns c = on_ok_weaker c.push_texts.result (λ last. λ members told has.
    let json = c.args.json in
    let kinds = map (λ (it : ToldFault). it.kind) told in
    let (clients, most, second) = c.in_ok-push_clients.ensures told has.clients in
    let (texts, each, third) = last members told (subst (HasTextsIn members told) (sym c.deref.ensures.value) has.texts) in
    let head = line (faults_line json kinds) in
    let out = string_bytes c.args.out.now in (
      head ++ clients ++ texts,
      record { clients = clients; texts = texts; by_client = most; by_text = each; printed = refl },
      third ∙ (ap (λ text. text ++ texts) (second ∙ ap (λ text. text ++ clients) (c.in_ok-push_line.ensures kinds has.kinds))
          ∙ (ap (λ text. text ++ texts) (append_assoc out head clients) ∙ append_assoc out (head ++ clients) texts)),
    )) c.push_texts.ensures
