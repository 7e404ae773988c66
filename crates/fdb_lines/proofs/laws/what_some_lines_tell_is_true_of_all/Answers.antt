use Rattle.fdb_lines.proofs.SomeLines.{first_true, gone_on_true, some_true, told_of_key}
use Rattle.fdb_lines.proofs.laws.what_some_lines_tell_is_true_of_all.Goals as goal

pub returns : goal.returns
returns c = record {
  some = λ margin lines keys places as_many within rising. some_true margin lines keys as_many places within rising;
  first = λ margin lines more keys more_keys as_many same. first_true margin lines more keys more_keys as_many same;
  of_key = λ margin due lines keys key as_many. told_of_key margin lines keys as_many due key;
  gone_on = λ margin lines more others keys more_keys other_keys places as_many same within rising alike.
      gone_on_true margin lines keys as_many more more_keys same places within rising others other_keys alike;
}
