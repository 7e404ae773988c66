use Rattle.std.proofs.Common.{ℕ, ◌<◌, rules, sym, subst, slice_index}
use Rattle.std.proofs.lemmas.Str.{IsUtf8-from_ascii}
use Rattle.std.specs.Str.{IsUtf8}
use Rattle.hex.specs.Hex.{lower_digits}
use Rattle.hex.proofs.HexLemmas.{IsAscii-encode_with}
use Rattle.fdb_history.proofs.register.DigitsDisplay.fmt.Goals as goal

digits_are_ascii : (i : ℕ) → slice_index lower_digits i < 128
digits_are_ascii = search rules

pub unreachable-requires-in_default-from_utf8 : goal.unreachable-requires-in_default-from_utf8
unreachable-requires-in_default-from_utf8 g c =
    c.in_default-from_utf8.ensures.cases.0
    (subst IsUtf8 (sym c.in-Ok.ensures.written) (IsUtf8-from_ascii _ (IsAscii-encode_with lower_digits c.args.self.now.0 digits_are_ascii)))
