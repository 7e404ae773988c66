use Rattle.std.proofs.Common.{rules, ◌++◌, ◌∷◌, ◌∙◌, [], List, Ok, Result, ap, refl, subst, sym}
use Rattle.fdb_lines.specs.declared.key_watch.KeyWatch.{KeyWatch}
use Rattle.fdb_lines.specs.KeyWatch.{HasSeenByKey, settled_in}
use Rattle.fdb_lines.specs.ToldByKey.{HasTold}
use Rattle.fdb_lines.specs.declared.fault.Found.{Found}
use Rattle.fdb_log_reader.specs.declared.error.Why.{Why}
use Rattle.fdb_log_reader.specs.ReadLine.{SaidLine, said_by}
use Rattle.fdb_audit.specs.Following.{Start, keys_taken, lines_taken}
use Rattle.fdb_audit.specs.Taken.{AreTaken}
use Rattle.fdb_audit.specs.declared.clocks.KeyTimes.{KeyTimes}
use Rattle.fdb_audit.specs.private.Followed.{NotesLine}
use Rattle.fdb_audit.specs.private.KeyTimes.{HearsKey, last_line}
use Rattle.fdb_audit.proofs.Following.{takes}
use Rattle.fdb_audit.proofs.Recent.{times_more}
use Rattle.fdb_audit.proofs.SettledOn.{taken_beside}
use Rattle.fdb_audit.proofs.Warned.{ahead_more, early_more, noted_more}
use Rattle.fdb_audit.proofs.taken_lines.Taking.add.Goals as goal

notes : (c : goal.In_ok-hear) → NotesLine c.args.self.now.watch.from c.args.self.now c.note.new.self (said_by c.args.read).line
notes c =
    let its = c.in_ok-note.ensures.noted in
    subst (λ from. NotesLine from c.args.self.now c.note.new.self (said_by c.args.read).line) c.push.ensures.settled (record {
      its_line = its.its_line;
      judged = its.judged;
      numbering = its.numbering;
      count = its.count;
      refused = its.refused;
      settled = its.settled;
      settlings = its.settlings;
      hears = record { newest = its.hears.newest; others = its.hears.others; believed = its.hears.believed; ahead = its.hears.ahead; behind = its.hears.behind };
      ahead = its.ahead;
      counted = its.counted;
      is_its = its.is_its;
      came = record { early = its.came.early; judged = its.came.judged; last = its.came.last };
      warned = its.warned;
    })

taken_so : (c : goal.In_ok-hear) (start : Start) (lines : List (Result SaidLine Why)) (told : List Found) → AreTaken start c.args.self.now lines told
    → AreTaken start c.note.new.self (lines ++ Ok (said_by c.args.read) ∷ []) told
taken_so c start lines told are =
    let said = said_by c.args.read in
    let old = c.args.self.now in
    let new = c.note.new.self in
    let more = lines_taken lines ++ said.line ∷ [] in
    let keys = keys_taken lines ++ said.key ∷ [] in
    takes start old new lines said told are c.requires.room
    (subst (λ watch. HasSeenByKey watch more keys) (sym c.note.ensures.watch) (c.in-Ok.ensures.ok (lines_taken lines) (keys_taken lines) are.seen))
    (notes c) (ap (λ (watch : KeyWatch). watch.from) c.note.ensures.watch ∙ c.push.ensures.settled)
    (λ has late. subst (λ watch. HasTold watch more keys told) (sym c.note.ensures.watch) (c.in-Ok.ensures.told (lines_taken lines) (keys_taken lines) told are.seen has late))
    (early_more start old new lines said told are c.requires.room (notes c)) (ahead_more start old new lines said told are c.requires.room (notes c))

-- what is believed with the line is what the clocks believe once it is noted
pub returns-clause-takes : goal.returns-clause-takes
returns-clause-takes c =
    let said = said_by c.args.read in
    let old = c.args.self.now in
    let new = c.note.new.self in
    record {
      taken = λ start lines told are. taken_beside start new _ (lines ++ Ok said ∷ []) told (taken_so c start lines told are) refl refl refl refl refl refl refl refl;
      warned = λ start lines told warned are was. noted_more start old new lines said told are c.requires.room (notes c) warned was;
      times = λ forget start lines told are knows.
          times_more start lines are.few forget old.times c.hear.new.self said new.clocks.believed knows (taken_so c start lines told are).reach.believed
          (subst (λ (times : KeyTimes). HearsKey said.key (last_line new.clocks.believed said.line) times c.hear.new.self) c.note.ensures.times c.in_ok-hear.ensures.hears)
          (c.hear.ensures.wanted ∙ ap (λ (times : KeyTimes). times.are_wanted) c.note.ensures.times);
      early = search rules;
      stays = record {
        horizon = ap (λ (watch : KeyWatch). watch.horizon) c.note.ensures.watch ∙ c.push.ensures.margin.1;
        far = λ key. ap (λ (watch : KeyWatch). settled_in watch.parts.items key) c.note.ensures.watch ∙ c.in-Ok.ensures.far key;
      };
    }
