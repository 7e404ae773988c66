use Rattle.std.proofs.Common.{Some, ap, cond, ◌∙◌}
use Rattle.std.proofs.lemmas.Map.Text.{btree_map_updates_text}
use Rattle.std.specs.BTreeMap.{get_by_text}
use Rattle.std.specs.Str.{bytes_eq}
use Rattle.std.specs.String.{string_bytes}
use Rattle.fdb_log_reader.proofs.names.set_long.Goals as goal

pub returns-clause-set : goal.returns-clause-set
returns-clause-set c = λ q.
    let old = c.args.long.now in
    btree_map_updates_text (string_bytes c.in_ok-key.key) old c.insert.new.self (Some c.args.number) c.in_ok-insert.ensures.updates q
    ∙ ap (λ n. cond (bytes_eq n q) (Some c.args.number) (get_by_text old q)) c.in_ok-key.ensures.ok
