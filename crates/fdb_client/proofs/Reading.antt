-- A read as one of equal options, by an equal client; and what it returned.
use Rattle.std.proofs.Common.{◌≡◌, ℕ, ◌≤◌, Bool, true, false, List, length, Result, IfOk, refl, sym, subst, le_refl}
use Rattle.fdb_client.specs.Account.{Account}
use Rattle.fdb_client.specs.Calls.{IsReadOf, Reads}
use Rattle.fdb_client.specs.Returned.{ReadReturns}
use Rattle.fdb_client.specs.declared.error.ClientError.{ClientError}
use Rattle.fdb_client.specs.declared.reply.ReadVersion.{ReadVersion}
use Rattle.fdb_history.specs.declared.log.GrvOpts.{GrvOpts}
use Rattle.fdb_history.specs.Register.{version_for}
use Rattle.fdb_history.specs.declared.log.TagLimit.{TagLimit}
use Rattle.fdb_history.specs.declared.log.CallAnswer.TheVariants.{Version}
use Rattle.fdb_history.specs.declared.register.Record.{Record}
use Rattle.fdb_live.specs.Seen.{IsBounded, IsNotBehind, last_record}
use Rattle.fdb_live.specs.declared.view.Change.{Change}

pub reads_alike : {start : Record} {logged opts : GrvOpts} {old before after : Account} {result : Result ReadVersion ClientError} → logged ≡ opts → old ≡ before → Reads start logged old after result → Reads start opts before after result
reads_alike {start} {logged} {opts} {old} {before} {after} {result} same alike reads =
    subst (λ own. Reads start own before after result) same (subst (λ account. Reads start logged account after result) alike reads)

-- either version of a record is between its two
between : (use_min : Bool) (rec : Record) → rec.min_known ≤ rec.version → (rec.min_known ≤ version_for use_min rec) × (version_for use_min rec ≤ rec.version)
between true rec within = (le_refl rec.min_known, within)
between false rec within = (within, le_refl rec.version)

pub is_read : (start : Record) (opts : GrvOpts) (before after : List Change) (rec : Record) (position : ℕ) (limits : List TagLimit) (locked_out : Bool) (result : Result ReadVersion ClientError)
    → ReadReturns opts position (Version rec limits locked_out) result → rec ≡ last_record start after → position ≡ length after
    → IsNotBehind (last_record start before) (last_record start after) → IsBounded (length after) (last_record start after)
    → IfOk result (IsReadOf start opts before after)
is_read start opts before after rec position limits true result is last at falls bounded = subst (λ r. IfOk r (IsReadOf start opts before after)) (sym is) tt
is_read start opts before after rec position limits false result is last at falls bounded =
    let here : IsBounded position rec = subst (λ (p : ℕ × Record). IsBounded p.0 p.1) (λ i. (sym at i, sym last i)) bounded in
    let both = between opts.use_min rec here.within in
    subst (λ r. IfOk r (IsReadOf start opts before after)) (sym is) (record {
      rec = last;
      position = at;
      version = refl;
      at_least = both.0;
      at_most = both.1;
      never_falls = subst (IsNotBehind (last_record start before)) (sym last) falls;
      bounded = here;
    })

pub not_behind_itself : (start : Record) (before after : List Change) → after ≡ before → IsNotBehind (last_record start before) (last_record start after)
not_behind_itself start before after same = subst (λ changes. IsNotBehind (last_record start before) (last_record start changes)) (sym same) (record { version = le_refl _; minimum = le_refl _ })
