use Rattle.fdb_lines.proofs.GoneOnByKey.{one_more_by_key, whole_by_key}
use Rattle.fdb_lines.proofs.StandByKey.{told_by_key}
use Rattle.fdb_lines.proofs.laws.by_key_they_tell_the_rest_too.Goals as goal

pub returns : goal.returns
returns c = record {
  rest = told_by_key;
  one_more = λ margin at lines keys places line key stand. one_more_by_key margin at lines keys places stand line key;
  all = λ margin at from lines more others keys more_keys other_keys places le stand same later alike.
      whole_by_key margin from lines keys stand.as_many more more_keys same at places others other_keys le stand later alike;
}
