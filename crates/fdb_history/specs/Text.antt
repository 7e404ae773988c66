-- How a record and a refusal are printed. (this product's own)
use Rattle.std.specs.Prelude.{ℕ, List, [], ◌==◌, ◌++◌, Option, None, Some, codes, decimal, if◌then◌else◌}
use Rattle.hex.specs.Hex.{encode_lower}
use Rattle.fdb_history.specs.declared.log.Refusal.{Refusal}
use Rattle.fdb_history.specs.declared.log.Refusal.TheVariants.{Early, Forgotten, UnknownProxy, Exhausted, BadCount, BatchThrottled, Full, ProxyClosed, NotIssued, Stranger, TooLarge, MinAbove}
use Rattle.fdb_history.specs.declared.register.Record.{Record}

-- A metadata version as twenty hexadecimal digits in lower case, or `none`. These are two for each
-- of its bytes.
abbrev pub metadata_text : Option (List ℕ) → List ℕ
metadata_text None = codes "none"
metadata_text (Some metadata) = encode_lower metadata

-- A minimum known committed version, told where it is not 0.
abbrev pub min_text : ℕ → List ℕ
min_text min_known = if min_known == 0 then [] else codes " min " ++ decimal min_known

-- A record: its version, lock, metadata version and minimum.
abbrev pub record_text : Record → List ℕ
record_text rec =
    decimal rec.version ++ (if rec.locked then codes " locked " else codes " unlocked ")
    ++ metadata_text rec.metadata ++ min_text rec.min_known

-- a refusal: its name, and the number that it tells
abbrev pub refusal_text : Refusal → List ℕ
refusal_text (Early expected) = codes "Early " ++ decimal expected
refusal_text Forgotten = codes "Forgotten"
refusal_text UnknownProxy = codes "UnknownProxy"
refusal_text Exhausted = codes "Exhausted"
refusal_text BadCount = codes "BadCount"
refusal_text BatchThrottled = codes "BatchThrottled"
refusal_text Full = codes "Full"
refusal_text ProxyClosed = codes "ProxyClosed"
refusal_text NotIssued = codes "NotIssued"
refusal_text Stranger = codes "Stranger"
refusal_text TooLarge = codes "TooLarge"
refusal_text MinAbove = codes "MinAbove"
