use Rattle.std.proofs.Common.{◌∙◌, ◌++◌, ◌∷◌, [], append_assoc}
use Rattle.fdb_audit.specs.Following.{counted_figures}
use Rattle.fdb_audit.specs.Progress.{counted_by}
use Rattle.fdb_audit.specs.private.{figure_of}
use Rattle.fdb_audit.proofs.Texts.{pushed_on}
use Rattle.fdb_audit.proofs.progress.Progress.figures.Goals as goal

pub returns : goal.returns
returns c =
    let counts = counted_figures (counted_by c.args.self.now) in
    let figures = c.in_ok-figures.figures.items in
    let one = pushed_on figure_of figures c.push.new.self.items _ counts c.in_ok-push.ensures.items c.in_ok-figures.ensures in
    let two = pushed_on figure_of c.push.new.self.items c.push-2.new.self.items _ (counts ++ _ ∷ []) c.in_ok-push-2.ensures.items one in
    let three = pushed_on figure_of c.push-2.new.self.items c.push-3.new.self.items _ ((counts ++ _ ∷ []) ++ _ ∷ []) c.in_ok-push-3.ensures.items two in
    let four = pushed_on figure_of c.push-3.new.self.items c.push-4.new.self.items _ (((counts ++ _ ∷ []) ++ _ ∷ []) ++ _ ∷ []) c.in_ok-push-4.ensures.items three in
    four ∙ simp append_assoc
