use Rattle.std.proofs.Common.{◌∙◌, ap, map, refl, string_bytes}
use Rattle.fdb_audit.proofs.arguments.AuditArguments.for_following.Goals as goal

pub returns : goal.returns
returns c = record {
  opts = refl;
  wanted = refl;
  forget = refl;
  key = c.in_ok-key.ensures ∙ c.as_deref.ensures.value;
  shown = c.in_ok-shown.ensures ∙ ap (map string_bytes) c.deref.ensures.value;
}
