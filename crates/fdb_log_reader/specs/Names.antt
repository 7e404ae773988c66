-- The names of clients. (this product's own)
use Rattle.std.specs.Prelude.{ℕ, List, map, string_bytes}
use Rattle.fdb_log_reader.specs.declared.names.Names.{Names}

-- the bytes of the names, in the order in which they came
abbrev pub names_of : Names → List (List ℕ)
names_of names = map string_bytes names.texts.items
