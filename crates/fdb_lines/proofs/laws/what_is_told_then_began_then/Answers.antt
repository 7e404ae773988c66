use Rattle.fdb_lines.proofs.GoneOnByKey.{told_then}
use Rattle.fdb_lines.proofs.laws.what_is_told_then_began_then.Goals as goal

pub returns : goal.returns
returns c = λ margin from lines more keys more_keys told new as_many same later was all. told_then margin from lines keys as_many more more_keys same later told new was all
