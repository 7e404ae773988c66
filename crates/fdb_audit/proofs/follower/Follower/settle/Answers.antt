use Rattle.std.proofs.Common.{◌≡◌, ◌⊎◌, ◌++◌, All, ℕ, List, Option, Some, ◌∙◌, ap, arith, inl, inr, length, max, refl, slice_index_or, subst, sym}
use Rattle.fdb_lines.specs.declared.key_part.KeyPart.{KeyPart}
use Rattle.fdb_lines.specs.declared.key_part.SettledKey.{SettledKey}
use Rattle.fdb_lines.specs.declared.line.Line.{Line}
use Rattle.fdb_lines.specs.KeyParts.{lines_of_one}
use Rattle.fdb_lines.specs.KeyWatch.{AreTold, GoesTo, HasEntry, HasNothingToTell, SettlesOrStays, settled_in}
use Rattle.fdb_lines.specs.ToldByKey.{told_by_all}
use Rattle.fdb_lines.specs.declared.key_watch.KeyWatch.{KeyWatch}
use Rattle.fdb_log_reader.specs.LineReader.{line_names}
use Rattle.fdb_audit.specs.Following.{IsToldOff, keys_taken, lines_taken, told_in_all}
use Rattle.fdb_audit.specs.private.Followed.{IsWatchedBy, TellsOn}
use Rattle.fdb_audit.proofs.InTurn.{far_now}
use Rattle.fdb_audit.proofs.SettledOn.{settled_noted, settles_to}
use Rattle.fdb_audit.proofs.TellingOn.{settled}
use Rattle.fdb_audit.proofs.ToldOff.{told_off}
use Rattle.fdb_audit.proofs.Warned.{said_settled}
use Rattle.fdb_audit.proofs.follower.Follower.settle.Goals as goal

pub returns-clause-told : goal.returns-clause-told
returns-clause-told c = λ asked start read told is.
    let old = c.args.self.now in
    let watch = old.taking.watch in
    let to = max watch.from c.certain_to-at.result in
    let lines = lines_taken read in
    let keys = keys_taken read in
    let entries = c.in_ok-told.told.items in
    let faults = start.told ++ told_in_all read is.windows in
    let tell = c.in_ok-told.ensures.told lines keys is.taken.seen in
    let noted = c.note_settled.ensures in
    settled start asked old _ read to told entries is refl
    (settled_noted start old.taking _ _ read faults (told_by_all entries) c.certain_to-at.result is.taken c.certain_to-at.ensures
    (c.settle.ensures.seen lines keys is.taken.seen) c.in_ok-told.ensures.settled
    (c.in_ok-told.ensures.once lines keys faults is.taken.seen) refl refl refl refl refl refl noted)
    (ap (λ (watch : KeyWatch). watch.margin) noted.watch ∙ c.settle.ensures.margin.0)
    (ap (λ (watch : KeyWatch). watch.horizon) noted.watch ∙ c.settle.ensures.margin.1)
    (λ key. subst (λ (new : KeyWatch). GoesTo to (length (lines_of_one lines keys key)) entries key (settled_in watch.parts.items key) (settled_in new.parts.items key))
    (sym noted.watch) (c.in_ok-told.ensures.far lines keys is.taken.seen key))
    tell.once
    (subst (TellsOn start.kept old.teller c.tell_all.new.self asked.opts.margin start.behind read (line_names old.reader).clients (settled_in watch.parts.items) (Some to)) c.deref.ensures.value
    (c.in_ok-tell_all.ensures start.kept read (Some to) watch.parts.items asked.opts.margin start.behind
    (record { above = is.taken.numbered.above; front = is.taken.numbered.front; few = is.taken.numbered.few })
    (λ k d lt. let part = watch.alike k d lt in let low = part.its_from in
    record { its_margin = part.its_margin ∙ is.margin; its_horizon = part.its_horizon ∙ is.horizon; its_from = omega (arith, low) })
    (subst (AreTold (Some to) lines keys watch.parts.items) (sym c.deref.ensures.value) tell)))
    refl refl noted.times noted.settlings
    (settles_to start old.taking read faults to is.taken (ap (max watch.from) c.certain_to-at.ensures))

pub returns-clause-taken : goal.returns-clause-taken
returns-clause-taken c =
    let old = c.args.self.now in
    let entries = c.in_ok-told.told.items in
    let noted = c.note_settled.ensures in
    record {
      taken = λ start read told are.
          let lines = lines_taken read in
          let keys = keys_taken read in (
            told_by_all entries,
            settled_noted start old.taking _ _ read told (told_by_all entries) c.certain_to-at.result are c.certain_to-at.ensures
                (c.settle.ensures.seen lines keys are.seen) c.in_ok-told.ensures.settled
                (c.in_ok-told.ensures.once lines keys told are.seen) refl refl refl refl refl refl noted,
          );
      said = λ start read told warned are was. said_settled start old.taking c.note_settled.new.self read told warned are noted.settlings noted.warnings was;
      warnings = noted.warnings;
      counts = noted.counts;
    }

-- a key that stays has nothing to tell
has_or_none : (to : ℕ) (lines : List Line) (keys : List (Option ℕ)) (entries : List SettledKey) (old new : KeyPart) → SettlesOrStays to lines keys entries old new
    → HasEntry entries old.key ⊎ HasNothingToTell (Some to) lines keys old
has_or_none to lines keys entries old new (inl (has, is)) = inl has
has_or_none to lines keys entries old new (inr stays) = inr stays.nothing

pub returns-clause-off : goal.returns-clause-off
returns-clause-off c = λ asked start read told is key has.
    let old = c.args.self.now in
    let watch = old.taking.watch in
    let to = max watch.from c.certain_to-at.result in
    let lines = lines_taken read in
    let keys = keys_taken read in
    let entries = c.in_ok-told.told.items in
    let seen = is.taken.seen in
    let tell = c.in_ok-told.ensures.told lines keys seen in
    let noted = c.note_settled.ensures in
    let far = settled_in watch.parts.items in
    let its = lines_of_one lines keys key in
    let margin = asked.opts.margin in
    let watched : All (IsWatchedBy margin start.behind (Some to)) watch.parts.items =
    λ k d lt. let part = watch.alike k d lt in let low = part.its_from in
    record { its_margin = part.its_margin ∙ is.margin; its_horizon = part.its_horizon ∙ is.horizon; its_from = omega (arith, low) } in
    let more : TellsOn start.kept old.teller c.tell_all.new.self margin start.behind read (line_names old.reader).clients far (Some to) entries =
    subst (TellsOn start.kept old.teller c.tell_all.new.self margin start.behind read (line_names old.reader).clients far (Some to)) c.deref.ensures.value
    (c.in_ok-tell_all.ensures start.kept read (Some to) watch.parts.items margin start.behind
    (record { above = is.taken.numbered.above; front = is.taken.numbered.front; few = is.taken.numbered.few }) watched
    (subst (AreTold (Some to) lines keys watch.parts.items) (sym c.deref.ensures.value) tell)) in
    let each : All (λ window. (window.read ≡ length read) × (window.to ≡ Some to)) more.windows = λ k d lt. let it = more.each k d lt in (it.all, it.to_is) in
    let same = far_now read to entries far more.windows key (far key) (settled_in c.settle.new.self.parts.items key) each more.keys refl (c.in_ok-told.ensures.far lines keys seen key) in
    let told_all : All (λ (part : KeyPart). HasEntry entries part.key ⊎ HasNothingToTell (Some to) lines keys part) watch.parts.items =
    λ i d lt. has_or_none to lines keys entries (slice_index_or watch.parts.items i d) _ (c.in_ok-told.ensures.rest lines keys seen i d lt) in
    subst (λ (new : KeyWatch). IsToldOff margin start.behind (Some new.from) its (settled_in new.parts.items key)) (sym noted.watch)
    (subst (λ at. IsToldOff margin start.behind (Some at) its (settled_in c.settle.new.self.parts.items key)) (sym c.in_ok-told.ensures.settled)
    (subst (IsToldOff margin start.behind (Some to) its) (sym same)
    (told_off margin start.behind read (Some to) entries watch.parts.items far more.windows watched tell.far told_all seen.names (λ key. refl) each more.keys key has)))
