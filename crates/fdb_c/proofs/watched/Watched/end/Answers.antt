use Rattle.std.proofs.Common.{◌≡◌, ◌++◌, ◌∙◌, ℕ, List, None, Option, Some, ap, refl, rules, string_bytes, subst, sym, true}
use Rattle.fdb_log_reader.specs.declared.error.ReadError.{ReadError}
use Rattle.fdb_audit.specs.Following.{left_out}
use Rattle.fdb_audit.specs.Watched.{HasFollowed, HasSaid, HasSaidAll, IsFollowed, lines_asked}
use Rattle.fdb_audit.specs.declared.arguments.AuditArguments.{AuditArguments}
use Rattle.fdb_audit.specs.declared.printer.LogFault.{LogFault}
use Rattle.fdb_c.specs.Watch.{started}
use Rattle.fdb_c.proofs.Some.{at_both, at_three, of_some}
use Rattle.fdb_c.proofs.watched.Watched.end.Goals as goal

-- all was told of these bytes, and these were all warnings
abbrev Ended : AuditArguments → ℕ → (from : Option (List ℕ)) → (bytes told warned : List ℕ) → Option LogFault → Option ℕ → Type 0
Ended asked behind from bytes told warned first last =
    (all : IsFollowed asked (started asked behind from) true bytes told first last) × HasSaidAll asked (started asked behind from) bytes all.settled warned

-- what the follower said last is told of all that the story has
pub returns-in-Ok-clause-verdict : goal.returns-in-Ok-clause-verdict
returns-in-Ok-clause-verdict c =
    let it = c.self.inside in let end = c.in-Ok.end in let one = c.with_text-self-inside.ensures in let two = c.with_warnings-self-inside.ensures in
    let says = c.status_at_end.ensures in let new = c.with_warnings-self-inside.result in
    let start = started it.asked it.behind it.story.from in
    let (followed, said) = of_some (λ follower. HasFollowed it.asked start follower it.story.bytes it.story.told × HasSaid it.asked start follower it.story.bytes it.story.warned) c.in-Some.ensures.value c.self.invariant.0 in
    let told = c.in-Ok.ensures.said it.asked start it.story.bytes it.story.told it.story.warned followed said in
    let taken = c.in-Ok.ensures.refused it.asked start it.story.bytes it.story.told followed in
    let from = two.2 ∙ one.2 in let bytes = two.0 ∙ one.0 in
    let whole = λ (first : Option LogFault) (last : Option ℕ) (found : end.found ≡ first) (early : end.last_early ≡ last).
    subst (λ warned. Ended it.asked it.behind new.from new.bytes new.told warned first last) (sym (two.3 ∙ ap (λ warned. warned ++ string_bytes end.said.warnings) one.3))
    (at_three (λ from bytes told. Ended it.asked it.behind from bytes told (it.story.warned ++ string_bytes end.said.warnings) first last) from bytes (two.1 ∙ one.1)
    (at_both (Ended it.asked it.behind it.story.from it.story.bytes (it.story.told ++ string_bytes end.said.text) (it.story.warned ++ string_bytes end.said.warnings)) (sym found) (sym early) told)) in
    let left = λ (why : Option ReadError) (is : end.refused ≡ why).
    at_both (λ from bytes. left_out (started it.asked it.behind from) (lines_asked it.asked bytes) ≡ why) from bytes (sym taken ∙ is) in
    record {
      ok = λ is. let none = says.ok is in (
        (let (all, said) = whole None None none.0 none.2 in record { arguments = it.asked; are = refl; followed = all; said = said }),
        record { arguments = it.asked; are = refl; taken = left None none.1 },
      );
      unjudged = λ is. let early = says.unjudged is in (
        record { arguments = it.asked; are = refl; taken = left None early.1 },
        early.2,
        (let (all, said) = whole None (Some early.2) early.0 early.3 in record { arguments = it.asked; are = refl; followed = all; said = said }),
        early.4,
      );
      fault = λ is. let some = says.fault is in record {
        first = some.0;
        last_early = end.last_early;
        all = (let (all, said) = whole (Some some.0) end.last_early some.1 refl in record { arguments = it.asked; are = refl; followed = all; said = said });
      };
      left_out = λ is _. let error = says.refused is in (
        end.last_early,
        (let (all, said) = whole None end.last_early error.0 refl in record { arguments = it.asked; are = refl; followed = all; said = said }),
        (error.1.0, record { arguments = it.asked; are = refl; refused = left (Some error.1.0) error.1.1 }, error.1.2, error.1.3),
      );
    }

pub returns-in-Ok-clause-untold : goal.returns-in-Ok-clause-untold
returns-in-Ok-clause-untold c = record { untold = c.status_at_end.ensures.untold; over = search rules; not_told = search rules }
