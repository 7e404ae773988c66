use Rattle.std.proofs.Common.{◌<◌, None, length, sym, subst}
use Rattle.std.specs.List.{All}
use Rattle.fdb_lines.specs.private.KeyParts.{AreEntriesOf}
use Rattle.fdb_lines.proofs.OnceTold.{told_for_good}
use Rattle.fdb_lines.proofs.Opened.{open_within}
use Rattle.fdb_lines.proofs.SettledByKey.{rest_by_key, told_by_key}
use Rattle.fdb_lines.proofs.key_watch.KeyWatch.finish.Goals as goal

pub finish_parts-requires-clause-within : goal.finish_parts-requires-clause-within
finish_parts-requires-clause-within c =
    subst (λ ps. All (λ i. i < length c.args.self.parts.items) ps) (sym c.deref.ensures.value) (open_within c.args.self.parts.items c.args.self.open_parts.items c.args.self.opened)

pub returns-clause-told : goal.returns-clause-told
returns-clause-told c = λ lines keys seen.
    let watch = c.args.self in
    let are = subst (λ ps. AreEntriesOf None watch.parts.items ps c.in_ok-told.told.items) c.deref.ensures.value c.in_ok-told.ensures.entries in
    told_by_key None watch.parts.items watch.open_parts.items c.in_ok-told.told.items watch.opened are lines keys seen.names seen.each

pub returns-clause-rest : goal.returns-clause-rest
returns-clause-rest c = λ lines keys seen.
    let watch = c.args.self in
    let are = subst (λ ps. AreEntriesOf None watch.parts.items ps c.in_ok-told.told.items) c.deref.ensures.value c.in_ok-told.ensures.entries in
    rest_by_key None watch.parts.items watch.open_parts.items c.in_ok-told.told.items watch.opened are lines keys seen.names seen.each

pub returns-clause-once : goal.returns-clause-once
returns-clause-once c = λ lines keys told seen has.
    let watch = c.args.self in
    let are = subst (λ ps. AreEntriesOf None watch.parts.items ps c.in_ok-told.told.items) c.deref.ensures.value c.in_ok-told.ensures.entries in
    let entries = c.in_ok-told.told.items in
    told_for_good lines keys seen.as_many watch.parts.items seen.names seen.each watch.margin entries told
    (told_by_key None watch.parts.items watch.open_parts.items entries watch.opened are lines keys seen.names seen.each)
    (rest_by_key None watch.parts.items watch.open_parts.items entries watch.opened are lines keys seen.names seen.each)
    (λ i d lt. (watch.alike i d lt).its_margin) has.each has.came
