use Rattle.std.proofs.Common.{◌∙◌, refl}
use Rattle.fdb_audit.specs.Program.{command}
use Rattle.fdb_audit.proofs.arguments.wanted_of.Goals as goal

pub returns : goal.returns
returns c = λ arguments matches.
    let all = c.is_given-all.ensures command arguments matches (refl, refl, refl) in
    let summary = c.is_given-summary.ensures command arguments matches (refl, refl, refl) in
    let json = c.is_given-json.ensures command arguments matches (refl, refl, refl) in
    record {
      history = c.is_given-history.ensures command arguments matches (refl, refl, refl);
      all = c.lists_all.ensures ∙ rw (all, summary, json) refl;
      totals = c.has_totals.ensures ∙ rw (all, summary, json) refl;
      json = json;
    }
