use Rattle.std.proofs.Common.{List, ap, ◌∙◌}
use Rattle.std.specs.List.{flat_map}
use Rattle.fdb_lines.specs.declared.key_part.KeyPart.{KeyPart}
use Rattle.fdb_lines.specs.private.KeyParts.{kept_in_part}
use Rattle.fdb_lines.proofs.KeptByKey.{kept_by_key}
use Rattle.fdb_lines.proofs.key_watch.KeyWatch.kept.Goals as goal

pub returns : goal.returns
returns c = λ lines keys seen.
    kept_by_key lines keys c.args.self.now.parts.items _ seen.as_many seen.each
    (c.in_ok-kept.ensures ∙ ap (λ (parts : List KeyPart). flat_map kept_in_part parts) c.deref.ensures.value)
