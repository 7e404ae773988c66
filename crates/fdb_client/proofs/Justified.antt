-- The chain justifies each call of a client, by the answers that its token proves.
use Rattle.std.proofs.Common.{◌≡◌, ℕ, ◌==◌, ◌&&◌, not, Bool, true, false, List, [], ◌∷◌, ◌++◌, Option, None, Some, refl, sym, arith, subst, append-nil, append_assoc}
use Rattle.std.specs.Prelude.{nat_eq}
use Rattle.std.specs.Cmp.{booleans_Decides}
use Rattle.std.specs.Cmp.Lexicographic.{pointwise}
use Rattle.std.specs.Option.{option_eq}
use Rattle.std.proofs.lemmas.Bool.{eq-eqb}
use Rattle.std.proofs.lemmas.Bool.Decides.{nat_tests}
use mathlib.Core.Bool.{beq}
use Rattle.fdb_history.specs.Strays.{is_justified, is_of_issued, is_same, may_refuse}
use Rattle.fdb_history.specs.declared.chain.Issued.{Issued}
use Rattle.fdb_history.specs.declared.log.GrvOpts.{GrvOpts}
use Rattle.fdb_history.specs.declared.log.Call.{Call}
use Rattle.fdb_history.specs.declared.log.CallAnswer.{CallAnswer}
use Rattle.fdb_history.specs.declared.log.CallAnswer.TheVariants.{Version, Acked, Answered, Told, Refused}
use Rattle.fdb_history.specs.declared.log.Input.TheVariants as input
use Rattle.fdb_history.specs.declared.log.Refusal.{Refusal}
use Rattle.fdb_history.specs.declared.log.Refusal.TheVariants.{Early, Forgotten, UnknownProxy, Exhausted, BadCount, BatchThrottled, Full, ProxyClosed, NotIssued, Stranger, TooLarge, MinAbove}
use Rattle.fdb_history.specs.declared.register.Record.{Record}
use Rattle.fdb_client.specs.Account.{Account}
use Rattle.fdb_client.specs.Agreeing.{AreJustified}
use Rattle.fdb_client.specs.Calls.{IsReadAnswer, IsReportAnswer, IsReportRefusal}
use Rattle.fdb_history.specs.Strays.{issued_under}

-- ---- one more call

pub justified_after : (chain : List Issued) (client : ℕ) (before calls : List Call) (call : Call) → AreJustified chain client before calls → is_justified chain client (before ++ calls) call ≡ true
    → AreJustified chain client before (calls ++ call ∷ [])
justified_after chain client before [] call each here = (subst (λ l. is_justified chain client l call ≡ true) (append-nil before) here, tt)
justified_after chain client before (first ∷ calls) call each here =
    (each.0, justified_after chain client (before ++ first ∷ []) calls call each.1 (subst (λ l. is_justified chain client l call ≡ true) (sym (append_assoc before (first ∷ []) calls)) here))

-- ---- tests of what is one with itself

pub same_number : (n : ℕ) → (n == n) ≡ true
same_number n = eq-eqb n n refl

same_bool : (b : Bool) → beq b b ≡ true
same_bool true = refl
same_bool false = refl

same_numbers : (xs : List ℕ) → pointwise nat_eq xs xs ≡ true
same_numbers [] = refl
same_numbers (x ∷ xs) = rw (same_number x) (same_numbers xs)

same_metadata : (found : Option (List ℕ)) → option_eq (pointwise nat_eq) found found ≡ true
same_metadata None = refl
same_metadata (Some xs) = same_numbers xs

pub same_answer : (a : Issued) → is_same a a ≡ true
same_answer a = rw (same_number a.ordinal, same_number a.proxy, same_number a.num, same_number a.processed, same_number a.prev, same_number a.version, same_number a.at) (same_bool a.fresh)

-- ---- reads and reports

pub justified_read : (start : Record) (opts : GrvOpts) (after : Account) (answer : CallAnswer) (chain : List Issued) (client : ℕ) (before : List Call) (asked position : ℕ) → IsReadAnswer start opts after answer
    → is_justified chain client before (record { input = input.Grv opts; asked = asked; position = position; answer = answer }) ≡ true
justified_read start opts after (Version rec limits locked_out) chain client before asked position answered = rw ((booleans_Decides locked_out (rec.locked && not opts.lock_aware)).1 answered.1) refl
justified_read start opts after (Refused cause) chain client before asked position answered = rw answered refl
justified_read start opts after (Acked rec raised changed) chain client before asked position answered = absurd answered
justified_read start opts after (Answered issued) chain client before asked position answered = absurd answered
justified_read start opts after Told chain client before asked position answered = absurd answered

report_made : (version : Option ℕ) (locked : Bool) (metadata : Option (List ℕ)) (min_known num : ℕ) (rec : Record) (raised changed : Bool) → version ≡ Some rec.version → rec.locked ≡ locked → rec.metadata ≡ metadata → rec.min_known ≡ min_known
    → is_of_issued version (input.Report num locked metadata min_known) (Acked rec raised changed) ≡ true
report_made version locked metadata min_known num rec raised changed a b c d =
    rw (a, ← b, ← c, ← d, same_number rec.version, same_bool rec.locked, same_metadata rec.metadata) (same_number rec.min_known)

report_refused : (version : Option ℕ) (locked : Bool) (metadata : Option (List ℕ)) (min_known num : ℕ) (cause : Refusal) → IsReportRefusal version min_known cause
    → (may_refuse (input.Report num locked metadata min_known) cause ≡ true) × (is_of_issued version (input.Report num locked metadata min_known) (Refused cause) ≡ true)
report_refused None locked metadata min_known num NotIssued is = (refl, refl)
report_refused (Some version) locked metadata min_known num MinAbove is = (refl, grind (arith, nat_tests))
report_refused None locked metadata min_known num (Early expected) is = absurd is
report_refused None locked metadata min_known num Forgotten is = absurd is
report_refused None locked metadata min_known num UnknownProxy is = absurd is
report_refused None locked metadata min_known num Exhausted is = absurd is
report_refused None locked metadata min_known num BadCount is = absurd is
report_refused None locked metadata min_known num BatchThrottled is = absurd is
report_refused None locked metadata min_known num Full is = absurd is
report_refused None locked metadata min_known num ProxyClosed is = absurd is
report_refused None locked metadata min_known num Stranger is = absurd is
report_refused None locked metadata min_known num TooLarge is = absurd is
report_refused None locked metadata min_known num MinAbove is = absurd is
report_refused (Some version) locked metadata min_known num (Early expected) is = absurd is
report_refused (Some version) locked metadata min_known num Forgotten is = absurd is
report_refused (Some version) locked metadata min_known num UnknownProxy is = absurd is
report_refused (Some version) locked metadata min_known num Exhausted is = absurd is
report_refused (Some version) locked metadata min_known num BadCount is = absurd is
report_refused (Some version) locked metadata min_known num BatchThrottled is = absurd is
report_refused (Some version) locked metadata min_known num Full is = absurd is
report_refused (Some version) locked metadata min_known num ProxyClosed is = absurd is
report_refused (Some version) locked metadata min_known num NotIssued is = absurd is
report_refused (Some version) locked metadata min_known num Stranger is = absurd is
report_refused (Some version) locked metadata min_known num TooLarge is = absurd is

pub justified_report : (start : Record) (num : ℕ) (locked : Bool) (metadata : Option (List ℕ)) (min_known : ℕ) (was after : Account) (answer : CallAnswer) (chain : List Issued) (client : ℕ) (before : List Call) (asked position : ℕ)
    → IsReportAnswer start (issued_under before num) locked metadata min_known was after answer
    → is_justified chain client before (record { input = input.Report num locked metadata min_known; asked = asked; position = position; answer = answer }) ≡ true
justified_report start num locked metadata min_known was after (Acked rec raised changed) chain client before asked position (a, b, c, d, _, _) = report_made (issued_under before num) locked metadata min_known num rec raised changed a b c d
justified_report start num locked metadata min_known was after (Refused cause) chain client before asked position answered =
    let (may, of_issued) = report_refused (issued_under before num) locked metadata min_known num cause answered in
    rw (may, of_issued) refl
justified_report start num locked metadata min_known was after (Version rec limits locked_out) chain client before asked position answered = absurd answered
justified_report start num locked metadata min_known was after (Answered issued) chain client before asked position answered = absurd answered
justified_report start num locked metadata min_known was after Told chain client before asked position answered = absurd answered
