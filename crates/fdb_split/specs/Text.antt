-- What is printed of a log that was cut into parts. (this product's own)
use Rattle.std.specs.Prelude.{ℕ, zero, suc, ◌++◌, ◌∷◌, ◌==◌, List, [], codes, decimal, length, if◌then◌else◌}
use Rattle.fdb_audit.specs.Figures.{number_or_null}
use Rattle.fdb_log_reader.specs.declared.part_text.Above.{Above}
use Rattle.fdb_log_reader.specs.Split.{Placed, of_part}

-- how many lines each of the first n parts has, parted by commas
abbrev pub counts_listed : (ℕ → ℕ) → ℕ → List ℕ
counts_listed count zero = []
counts_listed count (suc n) = counts_listed count n ++ (if n == 0 then [] else 44 ∷ []) ++ decimal (count n)

-- One object: how many lines each part has, and which line is the first with times and which the first without.
abbrev pub object_of : List ℕ → Above → List ℕ
object_of counts above =
    codes "{\"parts\":[" ++ counts ++ codes "],\"timed\":" ++ number_or_null above.timed ++ codes ",\"untimed\":"
    ++ number_or_null above.untimed ++ codes "}\n"

abbrev pub split_text : ℕ → List Placed → Above → List ℕ
split_text parts placed above = object_of (counts_listed (λ part. length (of_part part placed)) parts) above
