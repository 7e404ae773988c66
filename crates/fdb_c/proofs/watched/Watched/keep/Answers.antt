use Rattle.std.proofs.Common.{◌≡◌, Bool, if◌then◌else◌, rules, string_bytes, subst, true, false, ℕ, refl}
use Rattle.fdb_c.specs.Audit.{HasNoRoom, IsWritten}
use Rattle.fdb_c.specs.declared.status.TheConstants.{FDB_OK, FDB_ROOM}
use Rattle.fdb_c.proofs.watched.Watched.keep.Goals as goal

-- by the status of writing it is told whether a text was written
is_written : (written : Bool) (status : ℕ) → status ≡ (if written then FDB_OK else FDB_ROOM) → status ≡ FDB_OK → written ≡ true
is_written true status is ok = refl
is_written false status is ok = search rules

has_no_room : (written : Bool) (status : ℕ) → status ≡ (if written then FDB_OK else FDB_ROOM) → status ≡ FDB_ROOM → written ≡ false
has_no_room true status is room = search rules
has_no_room false status is room = refl

pub returns-clause-given : goal.returns-clause-given
returns-clause-given c = record {
  ok = λ ok. let wrote = c.write_text-is_written in (
    string_bytes c.in-Ok.kept,
    c.in-Ok.ensures.kept,
    subst (λ bytes. IsWritten bytes c.args.text.now wrote.new.text wrote.new.size) c.as_str.ensures.value
        (wrote.ensures.fits (is_written _ _ c.status_of_writing.ensures ok)),
  );
  room = λ room. let wrote = c.write_text-is_written in (
    string_bytes c.in-Ok.kept,
    c.in-Ok.ensures.kept,
    subst (λ bytes. HasNoRoom bytes c.args.text.now wrote.new.text wrote.new.size) c.as_str.ensures.value
        (wrote.ensures.no_room (has_no_room _ _ c.status_of_writing.ensures room)),
  );
  over = search rules;
  untold = search rules;
  statuses = search rules;
}
