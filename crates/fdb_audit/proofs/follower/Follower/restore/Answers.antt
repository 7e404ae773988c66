use Rattle.std.proofs.Common.{◌≡◌, ◌∙◌, [], IfOk, OnOk, ap, arith, option_map, refl, string_bytes, subst}
use Rattle.fdb_log_reader.specs.Reading.{EndsALine}
use Rattle.fdb_audit.specs.Following.{start_with}
use Rattle.fdb_audit.specs.Kept.{KeptSaid, kept_said, lines_kept, start_from}
use Rattle.fdb_audit.specs.Watched.{HasFollowed, HasSaid, lines_asked}
use Rattle.fdb_audit.specs.private.Followed.{IsUnread}
use Rattle.fdb_audit.specs.private.KeptTexts.{said_of}
use Rattle.fdb_audit.proofs.follower.Follower.restore.Goals as goal

abbrev kept : goal.In_ok-feed_kept → KeptSaid
kept c = said_of c.in-Ok.read.said

said : (c : goal.In_ok-feed_kept) → kept c ≡ kept_said (lines_kept (option_map string_bytes c.args.asked.now.key) c.args.text.now)
said c =
    let text = c.args.text.now in
    subst (λ read. IfOk read (λ read. said_of read.said ≡ kept_said (lines_kept (option_map (λ key. key.now) c.as_deref.result) text))) c.in-Ok.is c.in_ok-read.ensures.said
    ∙ ap (λ key. kept_said (lines_kept key text)) c.as_deref.ensures.value

ends : (c : goal.In_ok-feed_kept) → EndsALine c.args.text.now
ends c = subst (λ read. OnOk read (EndsALine c.args.text.now)) c.in-Ok.is c.in_ok-read.ensures.ends

unread : (c : goal.In_ok-feed_kept) → IsUnread c.args.asked.now (start_with c.args.behind (kept c).front) c.in_ok-follower.follower
unread c = subst (λ numbers. IsUnread c.args.asked.now (start_with c.args.behind numbers) c.in_ok-follower.follower) c.new-numbering.ensures.kept c.in_ok-follower.ensures.unread

abbrev Read : goal.In_ok-feed_kept → KeptSaid → Type 0
Read c said =
    let start = start_from c.args.behind c.args.asked.now.opts.margin said (lines_asked c.args.asked.now c.args.text.now) in
    let self = c.feed_kept.new.self in
    (has : HasFollowed c.args.asked.now start self c.args.text.now []) × (has.telling.windows ≡ []) × (self.taking.settlings.at ≡ []) × HasSaid c.args.asked.now start self c.args.text.now []

read : (c : goal.In_ok-feed_kept) → Read c (kept_said (lines_kept (option_map string_bytes c.args.asked.now.key) c.args.text.now))
read c = subst (Read c) (said c) (c.in_ok-feed_kept.ensures.read c.args.asked.now c.args.behind (kept c) refl refl refl (ends c) (unread c))

pub returns-clause-followed : goal.returns-clause-followed
returns-clause-followed c = (read c).0

pub returns-clause-said : goal.returns-clause-said
returns-clause-said c = (read c).3

pub returns-clause-none_told : goal.returns-clause-none_told
returns-clause-none_told c = let (has, none, settlings, says) = read c in (has, none, settlings)

pub returns-clause-settled : goal.returns-clause-settled
returns-clause-settled c =
    let none = c.in_ok-follower.ensures.settled in
    let far = c.in_ok-feed_kept.ensures.settled in
    let same : c.feed_kept.new.self.taking.watch.from ≡ c.in-Ok.read.said.settled = omega (arith, none, far) in
    same ∙ ap (λ (said : KeptSaid). said.settled) (said c)
