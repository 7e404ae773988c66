-- A text of decimal digits is read as their number.
use Rattle.std.proofs.Common.{◌≡◌, ◌∙◌, ℕ, ◌<◌, ◌^◌, [], Some, ap, append-nil, arith, decimal, option_and_then, option_map, string_bytes, sym}
use Rattle.std.specs.Prelude.{String}
use Rattle.std.specs.declared.alloc.Global.{Global}
use Rattle.json.specs.Json as json
use Rattle.json.specs.Lex.{tokens}
use Rattle.json.specs.Tree.{json_tokens}
use Rattle.json.proofs.Printed.Decimals.{IsNumber-decimal}
use Rattle.json.proofs.Printed.Tokens.{tokens-print}
use Rattle.json.proofs.Printed.Trees.{ArePrintable-json_tokens, value-json_tokens}
use Rattle.serde_json.specs.Data.{number, unsigned}
use Rattle.serde_json.specs.Read.{max_depth, of_json, read}
use Rattle.serde_json.proofs.Numbers.{number_of-decimal}
use Rattle.serde_json.proofs.Texts.{print-outline}
use Rattle.fdb_log_reader.specs.Members.{whole}
use Rattle.fdb_log_reader.specs.ReadLine.{text_says}

read_decimal : (n : ℕ) → n < 2 ^ 64 → read (decimal n) ≡ Some (number (unsigned n))
read_decimal n small =
    let it = json.number (decimal n) in
    let spelt : tokens (decimal n) ≡ json_tokens it = ap tokens (sym (print-outline (number (unsigned n)))) ∙ tokens-print (json_tokens it) (ArePrintable-json_tokens it (IsNumber-decimal n small)) in
    ap (λ ts. option_and_then of_json (option_and_then (λ p. json.if_last p.0 p.1) (json.value max_depth ts))) (spelt ∙ sym (append-nil (json_tokens it)))
    ∙ (ap (λ o. option_and_then of_json (option_and_then (λ p. json.if_last p.0 p.1) o)) (value-json_tokens it max_depth [] (omega arith))
    ∙ ap (option_map number) (number_of-decimal n small))

-- of a text that is shown of a line
pub digits_read : (text : String Global) (n : ℕ) → n < 2 ^ 64 → string_bytes text ≡ decimal n → option_and_then whole (text_says (Some text)) ≡ Some n
digits_read text n small is = ap (λ o. option_and_then whole o) (ap read is ∙ read_decimal n small)
