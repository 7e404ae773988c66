-- A client's reads go to the desks in turn.
use Rattle.std.proofs.Common.{◌≡◌, ℕ, ◌+◌, ◌<◌, ◌≤◌, ◌%◌, List, [], ◌∷◌, ◌++◌, Result, length, filter, refl, ap, sym, ◌∙◌, subst, arith}
use Rattle.std.proofs.Math.Nat.{add-mod-mod, mod-add-mod}
use Rattle.std.proofs.lemmas.List.{length-append}
use Rattle.std.proofs.lemmas.List.Elements.{filter-append}
use Rattle.std.proofs.lemmas.List.Sums.{count_by-le-length, length-filter}
use Rattle.fdb_client.specs.Account.{Account}
use Rattle.fdb_client.specs.Calls.{Reads}
use Rattle.fdb_client.specs.declared.error.ClientError.{ClientError}
use Rattle.fdb_client.specs.declared.reply.ReadVersion.{ReadVersion}
use Rattle.fdb_history.specs.Added.{AddsCall}
use Rattle.fdb_history.specs.Log.{position_after_calls}
use Rattle.fdb_history.specs.declared.log.Input.TheVariants as input
use Rattle.fdb_history.specs.declared.log.GrvOpts.{GrvOpts}
use Rattle.fdb_history.specs.declared.log.Call.{Call}
use Rattle.fdb_history.specs.declared.register.Record.{Record}
use Rattle.fdb_replay.specs.private.Routing.{is_read, reads_of}

-- what is left of a sum can be had of what is left of its parts
pub in_turn : (client reads desks : ℕ) → (client % desks + reads % desks) % desks ≡ (client + reads) % desks
in_turn client reads desks = add-mod-mod (client % desks) reads desks ∙ mod-add-mod client desks reads

-- ---- how many reads there are

reads_of_added : (calls : List Call) (call : Call) → reads_of (calls ++ call ∷ []) ≡ reads_of calls + reads_of (call ∷ [])
reads_of_added calls call =
    ap length (filter-append (λ one. is_read one.input) calls (call ∷ [])) ∙ length-append (filter (λ one. is_read one.input) calls) (filter (λ one. is_read one.input) (call ∷ []))

reads_within : (calls : List Call) → reads_of calls ≤ length calls
reads_within calls = subst (λ n. n ≤ length calls) (sym (length-filter (λ (one : Call). is_read one.input) calls)) (count_by-le-length (λ one. is_read one.input) calls)

-- a read that was logged is one read more
pub one_read_more : (start : Record) (opts : GrvOpts) (before after : Account) (result : Result ReadVersion ClientError) → Reads start opts before after result
    → reads_of after.calls ≡ reads_of before.calls + 1
one_read_more start opts before after result read = ap reads_of read.logged.calls ∙ reads_of_added before.calls _

-- and one of the calls
pub reads_below : (start : Record) (opts : GrvOpts) (before after : Account) (result : Result ReadVersion ClientError) → Reads start opts before after result
    → reads_of before.calls < length after.calls
reads_below start opts before after result read =
    omega (arith, one_read_more start opts before after result read, reads_within after.calls)

-- a read that was logged is the one call more
pub adds_read : (start : Record) (opts : GrvOpts) (before after : Account) (result : Result ReadVersion ClientError) → before.begun ≡ 0 → Reads start opts before after result
    → AddsCall before.calls (input.Grv opts) after.calls
adds_read start opts before after result begun read = record {
  call = record { input = input.Grv opts; asked = length before.changes; position = length after.changes; answer = read.answer };
  added = read.logged.calls;
  input = refl;
  asked = sym read.logged.come_to ∙ ap (λ first. position_after_calls first before.calls) begun;
  stays = λ still. ap length (read.logged.stays still);
}
