use Rattle.std.proofs.Common.{◌≡◌, ◌∙◌, ◌++◌, ap, append_assoc, subst, take}
use Rattle.std.proofs.lemmas.List.{take-append-drop}
use Rattle.std.proofs.lemmas.Result.{on_ok_weaker}
use Rattle.fdb_audit.specs.Progress.{HasPrinted}
use Rattle.fdb_audit.proofs.PrintedOn.{printed_same}
use Rattle.fdb_audit.proofs.followed_log.FollowedLog.feed.Goals as goal

pub returns-then-not-has_much_to_leave : goal.returns-then-not-has_much_to_leave
returns-then-not-has_much_to_leave c =
    let (follower, reporter, asks) = c.note_bytes.ensures.same in
    let (still, reports, asked_still) = c.has_much_to_leave.ensures.same in
    let noted = c.note_bytes.new.self in
    let looked = c.has_much_to_leave.new.self in
    on_ok_weaker c.read.result
    (λ reads. λ asked start before text has. reads asked start before text (printed_same asked start noted looked before text still reports asked_still (printed_same asked start c.args.self.now noted before text follower reporter asks has)))
    c.read.ensures

pub returns : goal.returns
returns c =
    let (follower, reporter, asks) = c.note_bytes.ensures.same in
    let (still, reports, asked_still) = c.has_much_to_leave.ensures.same in
    let noted = c.note_bytes.new.self in
    let looked = c.has_much_to_leave.new.self in
    let bytes = c.args.bytes.now in
    let line = c.split_at.result.0.now in
    let whole : line ++ c.split_at.result.1.now ≡ bytes =
    ap (λ line. line ++ c.split_at.result.1.now) c.split_at.ensures.front ∙ (ap (λ rest. take c.first_end.result bytes ++ rest) c.split_at.ensures.back ∙ take-append-drop c.first_end.result bytes) in
    on_ok_weaker c.read-3.result
    (λ reads. λ asked start before text has.
    let front = c.in_ok-read.ensures asked start before text (printed_same asked start noted looked before text still reports asked_still (printed_same asked start c.args.self.now noted before text follower reporter asks has)) in
    subst (λ bytes. HasPrinted asked start c.read-3.new.self bytes text) (append_assoc before line c.split_at.result.1.now ∙ ap (λ bytes. before ++ bytes) whole)
    (reads asked start (before ++ line) text (c.in_ok-go_on.ensures asked start (before ++ line) text front)))
    c.read-3.ensures
