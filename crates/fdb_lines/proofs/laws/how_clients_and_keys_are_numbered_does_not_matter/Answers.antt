use Rattle.fdb_lines.proofs.Renumbered.{audited_alike, audited_from_alike, audited_to_alike, found_alike}
use Rattle.fdb_lines.proofs.laws.how_clients_and_keys_are_numbered_does_not_matter.Goals as goal

pub returns : goal.returns
returns c = record {
  found = λ lines others keys other_keys opts same. found_alike lines others keys other_keys same opts;
  all = λ lines others keys other_keys margin same. audited_alike lines others keys other_keys same margin;
  up_to = λ lines others keys other_keys margin to same. audited_to_alike lines others keys other_keys same margin to;
  since = λ lines others keys other_keys margin from same. audited_from_alike lines others keys other_keys same margin from;
}
