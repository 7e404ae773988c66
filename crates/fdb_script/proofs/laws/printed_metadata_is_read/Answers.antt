use Rattle.std.proofs.Common.{ap, rules}
use Rattle.std.specs.Result.{result_ok}
use Rattle.hex.proofs.HexLemmas.{decode_sized-encode_lower}
use Rattle.fdb_script.proofs.laws.printed_metadata_is_read.Goals as goal

pub returns : goal.returns
returns c =
    ap result_ok (decode_sized-encode_lower c.args.metadata 10 (search rules) (search rules))
