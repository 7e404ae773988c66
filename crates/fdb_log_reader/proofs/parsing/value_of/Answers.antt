use Rattle.std.proofs.Common.{◌≡◌, ℕ, List, None, Err, true, false, ap, if◌then◌else◌, inr, refl, subst, sym, true≢false}
use Rattle.std.proofs.lemmas.Str.{IsUtf8-from_is_utf8, is_utf8-from_IsUtf8}
use Rattle.std.specs.Bool.{IsTrue}
use Rattle.std.specs.Str.{IsUtf8, is_utf8}
use Rattle.serde_json.specs.Read.{read}
use Rattle.fdb_log_reader.specs.declared.error.Why.TheVariants.{NotJson}
use Rattle.fdb_log_reader.specs.Reading.{or_not_json, value_of}
use Rattle.fdb_log_reader.proofs.parsing.value_of.Goals as goal

pub returns-in-Ok-clause-value : goal.returns-in-Ok-clause-value
returns-in-Ok-clause-value c = let text = is_utf8-from_IsUtf8 c.args.bytes.now c.in-Ok.ensures.ok.0 in rw (text, c.in-Ok.ensures.ok.1)

no_value : (bytes : List ℕ) → (IsUtf8 bytes → read bytes ≡ None) → value_of bytes ≡ Err NotJson
no_value bytes none =
    elim (is_utf8 bytes) as (λ b. is_utf8 bytes ≡ b → or_not_json (if b then read bytes else None) ≡ Err NotJson) [
      | true ↦ λ e. ap or_not_json (none (IsUtf8-from_is_utf8 bytes e))
      | false ↦ λ e. refl
    ] refl

pub returns-in-Err-2-clause-value : goal.returns-in-Err-2-clause-value
returns-in-Err-2-clause-value c =
    inr (no_value c.args.bytes.now (λ text. c.in-Err.ensures.err (λ memory. true≢false (sym (subst IsTrue c.if-is_memory.false (c.is_memory.ensures.1 memory)))) text))
