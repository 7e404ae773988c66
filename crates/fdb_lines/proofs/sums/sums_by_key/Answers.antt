use Rattle.std.proofs.Common.{ℕ, None, Some, ap, cond, subst, sym, ◌∙◌}
use Rattle.std.proofs.lemmas.Result.{IfOk-weaker}
use Rattle.std.specs.List.{sum_by}
use Rattle.fdb_lines.specs.Log.{lines_of}
use Rattle.fdb_lines.specs.private.KeySums.{ordered_of, unreported_of, ArePartsOf, AreSums, AreSumsOf}
use Rattle.fdb_lines.proofs.Totals.{are_parts, ordered_is, unreported_is}
use Rattle.fdb_lines.proofs.sums.sums_by_key.Goals as goal

pub sums_of_parts-requires : goal.sums_of_parts-requires
sums_of_parts-requires c =
    let log = lines_of c.args.log.now in
    let parts = c.in_ok-parts.ensures in
    subst (ArePartsOf log) (sym c.deref.ensures.value)
    (are_parts log c.args.keys.now c.in_ok-parts.parts.items c.requires.as_many c.args.log.now.few parts.lines parts.places)

pub returns : goal.returns
returns c =
    let log = lines_of c.args.log.now in
    let opts = c.args.opts.now in
    let parts = c.in_ok-parts.ensures in
    let all = c.in_ok-parts.parts.items in
    IfOk-weaker c.sums_of_parts.result (AreSumsOf log opts c.deref.result.now) (AreSums log (Some c.args.keys.now) opts)
    (λ sums are. record {
      reads = are.reads ∙ (ap (sum_by (unreported_of log opts)) c.deref.ensures.value ∙ unreported_is log c.args.keys.now opts all parts.keys parts.places);
      pairs =
          ap (λ (pairs : ℕ). cond log.timed (Some pairs) None) (are.pairs ∙ ap (sum_by (ordered_of log opts)) c.deref.ensures.value)
          ∙ ordered_is log c.args.keys.now opts all parts.keys parts.places;
    }) c.sums_of_parts.ensures
