use Rattle.std.proofs.Common.{◌≡◌, ◌⊎◌, ◌++◌, All, IsPermutation, None, ◌∙◌, refl, subst, sym}
use Rattle.fdb_lines.specs.declared.key_part.KeyPart.{KeyPart}
use Rattle.fdb_lines.specs.KeyParts.{names_of}
use Rattle.fdb_lines.specs.Keys.{keys_of}
use Rattle.fdb_lines.specs.KeyWatch.{AreTold, HasEntry, HasNothingToTell, HasSeenByKey, settled_in}
use Rattle.fdb_lines.specs.ToldByKey.{HasTold, audited, told_by_all}
use Rattle.fdb_lines.specs.declared.key_watch.KeyWatch.{KeyWatch}
use Rattle.fdb_log_reader.specs.LineReader.{line_names}
use Rattle.fdb_audit.specs.Following.{keys_taken, lines_taken, told_in_all, told_to}
use Rattle.fdb_audit.specs.private.Followed.{IsWatchedBy, TellsOn}
use Rattle.fdb_audit.proofs.TellingOn.{settled_all}
use Rattle.fdb_audit.proofs.ToldOff.{told_off}
use Rattle.fdb_audit.proofs.follower.Follower.settle_for_good.Goals as goal

pub returns-clause-told : goal.returns-clause-told
returns-clause-told c = λ asked start read told is.
    let old = c.args.self.now in
    let watch = old.taking.watch in
    let lines = lines_taken read in
    let keys = keys_taken read in
    let same = c.replace-watch.ensures.value in
    let entries = c.in_ok-told.told.items in
    let faults = start.told ++ told_in_all read is.windows in
    let seen : HasSeenByKey c.replace-watch.result lines keys = subst (λ (w : KeyWatch). HasSeenByKey w lines keys) (sym same) is.taken.seen in
    let all : AreTold None lines keys watch.parts.items entries = subst (λ (w : KeyWatch). AreTold None lines keys w.parts.items entries) same (c.in_ok-told.ensures.told lines keys seen) in
    let watched : All (IsWatchedBy asked.opts.margin start.behind None) watch.parts.items =
    λ k d lt. let part = watch.alike k d lt in record { its_margin = part.its_margin ∙ is.margin; its_horizon = part.its_horizon ∙ is.horizon; its_from = tt } in
    let rest = subst (λ (w : KeyWatch). All (λ (part : KeyPart). HasEntry entries part.key ⊎ HasNothingToTell None lines keys part) w.parts.items) same (c.in_ok-told.ensures.rest lines keys seen) in
    settled_all start asked old _ read told entries is refl all.once
    (subst (TellsOn start.kept old.teller c.tell_all.new.self asked.opts.margin start.behind read (line_names old.reader).clients (settled_in watch.parts.items) None) c.deref.ensures.value
    (c.in_ok-tell_all.ensures start.kept read None watch.parts.items asked.opts.margin start.behind
    (record { above = is.taken.numbered.above; front = is.taken.numbered.front; few = is.taken.numbered.few })
    watched
    (subst (AreTold None lines keys watch.parts.items) (sym c.deref.ensures.value) all)))
    refl refl refl refl refl
    (λ windows each its key has. told_off asked.opts.margin start.behind read None entries watch.parts.items (told_to read start.far is.windows) windows watched all.far rest
    (subst (λ (w : KeyWatch). names_of w.parts.items ≡ keys_of keys) same seen.names) is.far each its key has)
    (λ none_before none.
    let has : HasTold c.replace-watch.result lines keys faults = subst (λ (w : KeyWatch). HasTold w lines keys faults) (sym same) (is.taken.once none_before none) in
    let whole = c.in_ok-told.ensures.once lines keys faults seen has in
    subst (λ margin. IsPermutation (faults ++ told_by_all entries) (audited margin lines keys)) is.margin
    (subst (λ (w : KeyWatch). IsPermutation (faults ++ told_by_all entries) (audited w.margin lines keys)) same whole))
