use Rattle.std.proofs.Common.{◌≡◌, ◌∙◌, ◌++◌, ◌∷◌, [], List, ap, append_assoc, map, string_bytes, sym, true}
use Rattle.std.specs.Prelude.{codes}
use Rattle.std.proofs.lemmas.Result.{on_ok_weaker}
use Rattle.fdb_audit.specs.Figures.{Figure, figures_text}
use Rattle.fdb_audit.specs.Progress.{progress_figures}
use Rattle.fdb_audit.specs.private.{figure_of}
use Rattle.fdb_audit.proofs.Texts.{written}
use Rattle.fdb_audit.proofs.progress.Progress.push_object.Goals as goal

pub returns : goal.returns
returns c =
    let before = string_bytes c.args.out.now in
    let head = codes "{\"watched\":{" in
    let figures = figures_text true (progress_figures c.args.self.now) in
    let same : map figure_of c.deref.result.now ≡ progress_figures c.args.self.now = ap (map figure_of) c.deref.ensures.value ∙ c.in_ok-figures.ensures in
    let pushed : string_bytes c.push_figures.new.out ≡ string_bytes c.write.new.self ++ figures =
    c.in_ok-push_figures.ensures ∙ ap (λ (all : List Figure). string_bytes c.write.new.self ++ figures_text true all) same in
    on_ok_weaker c.writeln.result
    (λ last. written before (string_bytes c.write.new.self) (string_bytes c.push_figures.new.out) (string_bytes c.writeln.new.self) head figures (125 ∷ 125 ∷ 10 ∷ []) c.in_ok-write.ensures.bytes pushed last
    ∙ ap (λ text. before ++ text) (sym (append_assoc (head ++ figures) (codes "}}") (10 ∷ []))))
    c.writeln.ensures.bytes
