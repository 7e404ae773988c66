use Rattle.std.proofs.Common.{◌≡◌, ℕ, [], ◌∷◌, IfOk, List, ◌<◌, arith, length, refl, subst}
use Rattle.std.proofs.lemmas.Bool.Decides.{nat_tests}
use Rattle.fdb_audit.specs.Kept.{start_of}
use Rattle.fdb_audit.specs.Program.{start_kept}
use Rattle.fdb_audit.specs.Watched.{HasFollowed}
use Rattle.fdb_audit.specs.declared.arguments.AuditArguments.{AuditArguments}
use Rattle.fdb_audit.proofs.followed_log.restored.Goals as goal

-- where a text is not empty, it is what was kept
from_text : (asked : AuditArguments) (behind : ℕ) (text : List ℕ) → 0 < length text → start_of asked behind text ≡ start_kept asked behind 0 text
from_text asked behind [] some = absurd (omega (arith, some))
from_text asked behind (byte ∷ text) some = refl

pub returns-in-Ok-Ok-clause-followed : goal.returns-in-Ok-Ok-clause-followed
returns-in-Ok-Ok-clause-followed c =
    let asked = c.args.asked.now in
    let text = c.args.text.now in
    let some : 0 < length text = (let is = c.if-is_empty.false in let empty = c.is_empty.ensures in grind (arith, nat_tests)) in (
      text,
      0,
      subst (λ start. HasFollowed asked start c.in-Ok-Ok.follower text []) (from_text asked c.args.behind text some)
          (subst (λ it. IfOk it (λ follower. HasFollowed asked (start_of asked c.args.behind text) follower text [])) c.in-Ok-Ok.field-0-is c.in-Ok-Ok.ensures.followed),
    )
