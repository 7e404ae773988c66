use Rattle.std.proofs.Common.{◌∙◌, ◌++◌, List, ap, false, string_bytes, subst, sym}
use Rattle.std.proofs.lemmas.Result.{IfOk-weaker}
use Rattle.fdb_log_reader.specs.LineReader.{line_names}
use Rattle.fdb_log_reader.specs.ReadLine.{LineNames, member_in}
use Rattle.fdb_audit.specs.Following.{Counted, Window, told_in_all, told_to}
use Rattle.fdb_audit.specs.Kept.{Keeps}
use Rattle.fdb_audit.specs.Taken.{AreTaken}
use Rattle.fdb_audit.specs.Watched.{lines_asked, names_asked}
use Rattle.fdb_audit.proofs.KeptTexts.{member_asked}
use Rattle.fdb_audit.proofs.SaidOn.{said_all}
use Rattle.fdb_audit.proofs.SettledOn.{settles_to}
use Rattle.fdb_audit.proofs.TellingOn.{told_so_far}
use Rattle.fdb_audit.proofs.follower.Follower.stop.Goals as goal

pub returns-clause-told : goal.returns-clause-told
returns-clause-told c = λ asked start bytes told has.
    let read = lines_asked asked bytes in
    let was = c.in_ok-take_last.ensures.told asked start bytes told has in
    let to = settles_to start _ read _ _ was.taken c.in_ok-settle.ensures.to in
    (c.in_ok-followed.ensures.told asked start bytes told false
    (told_so_far start asked _ read told (c.in_ok-settle.ensures.told asked start read told was) to (c.in_ok-settle.ensures.off asked start read told was) c.all_is_told_up_to_where_it_settled.ensures.each_once).0
    (c.in_ok-take_last.ensures.names asked start bytes told has ∙ ap line_names (sym c.settle.ensures.reader))).0

pub returns-clause-refused : goal.returns-clause-refused
returns-clause-refused c = λ asked start bytes told has.
    c.in_ok-followed.ensures.refused
    ∙ c.left_out-refused.ensures start (lines_asked asked bytes) _ (c.in_ok-take_last.ensures.told asked start bytes told has).taken
    (c.in_ok-take_last.ensures.told asked start bytes told has).carried

pub returns-clause-kept : goal.returns-clause-kept
returns-clause-kept c =
    IfOk-weaker c.in_ok-kept.kept _ _ (λ text says asked start bytes told has.
    let read = lines_asked asked bytes in
    let names = names_asked asked bytes in
    let taking = c.settle.new.self.taking in
    let was = c.in_ok-take_last.ensures.told asked start bytes told has in
    let is = c.in_ok-settle.ensures.told asked start read told was in
    let to = settles_to start _ read _ _ was.taken c.in_ok-settle.ensures.to in
    let same = c.in_ok-take_last.ensures.names asked start bytes told has ∙ ap line_names (sym c.settle.ensures.reader) in
    let (all, windows) = told_so_far start asked _ read told is to (c.in_ok-settle.ensures.off asked start read told was) c.all_is_told_up_to_where_it_settled.ensures.each_once in
    let (followed, as_all, counts, settled) = c.in_ok-followed.ensures.told asked start bytes told false all same in
    record {
      followed = followed;
      taking = taking;
      margin = is.margin;
      horizon = is.horizon;
      far = λ key. is.far key ∙ ap (λ (windows : List Window). told_to read start.far windows key) (sym (as_all ∙ windows));
      to = to;
      early = ap (λ (counts : Counted). counts.early) counts;
      taken = subst (λ (windows : List Window). AreTaken start taking read (start.told ++ told_in_all read windows)) (sym (as_all ∙ windows)) is.taken;
      keeps = subst (λ key. Keeps key names start.kept taking read (string_bytes text)) (member_asked asked bytes c.keys_stay_in_one_member.ensures)
          (subst (λ (names : LineNames). Keeps (member_in names) names start.kept taking read (string_bytes text)) (sym same)
          (says start read (start.told ++ told_in_all read is.windows) is.taken));
    }) c.in_ok-kept.ensures

pub returns-clause-read : goal.returns-clause-read
returns-clause-read c = λ asked start bytes told has.
    let read = lines_asked asked bytes in
    let was = c.in_ok-take_last.ensures.told asked start bytes told has in
    let is = c.in_ok-settle.ensures.told asked start read told was in
    c.read_count-read.ensures start read (start.told ++ told_in_all read is.windows) is.taken

pub returns-clause-said : goal.returns-clause-said
returns-clause-said c = λ asked start bytes told warned has says.
    let read = lines_asked asked bytes in
    let was = c.in_ok-take_last.ensures.told asked start bytes told has in
    let to = settles_to start _ read _ _ was.taken c.in_ok-settle.ensures.to in
    let (all, windows, counts, settled) =
    c.in_ok-followed.ensures.told asked start bytes told false
    (told_so_far start asked _ read told (c.in_ok-settle.ensures.told asked start read told was) to (c.in_ok-settle.ensures.off asked start read told was) c.all_is_told_up_to_where_it_settled.ensures.each_once).0
    (c.in_ok-take_last.ensures.names asked start bytes told has ∙ ap line_names (sym c.settle.ensures.reader)) in
    let (found, taken, said) = c.in_ok-take_last.ensures.said asked start bytes warned says in (
      all,
      said_all start asked c.settle.new.self.taking all.settled bytes warned _ (c.in_ok-settle.ensures.taken.said start read found warned taken said)
          (ap string_bytes c.in_ok-followed.ensures.warnings)
          settled,
    )

pub returns-clause-settled : goal.returns-clause-settled
returns-clause-settled c = λ asked start bytes told has.
    let was = c.in_ok-take_last.ensures.told asked start bytes told has in
    c.settled_to-settled_to.ensures ∙ settles_to start _ (lines_asked asked bytes) _ _ was.taken c.in_ok-settle.ensures.to
