use Rattle.std.proofs.Common.{◌≡◌, ◌++◌, ◌∷◌, [], List, ℕ, length, ap, sym, subst, ◌∙◌, arith, length-append}
use Rattle.fdb_lines.specs.Carried.{StandFor}
use Rattle.fdb_lines.specs.Lines.{Lines, lines_in}
use Rattle.fdb_lines.specs.Watch.{judged_from}
use Rattle.fdb_lines.proofs.Carried.{and_one_more, one_more_is}
use Rattle.fdb_lines.proofs.watch.Watch.push.Goals as goal

pub returns-clause-pushed : goal.returns-clause-pushed
returns-clause-pushed c =
    let watch = c.args.self.now in
    let line = c.args.line in
    let numbered : c.push_reserved.new.self.items ≡ watch.numbers.items ++ watch.count ∷ [] =
    c.push_reserved.ensures.items ∙ ap (λ (ns : List ℕ). ns ++ watch.count ∷ []) c.reserve.ensures.items in
    record {
      ok = λ lines seen.
          let more = lines ++ line ∷ [] in
          let numbers : c.push_reserved.new.self.items ≡ watch.numbers.items ++ length lines ∷ [] =
          numbered ∙ ap (λ n. watch.numbers.items ++ n ∷ []) seen.count in
          record {
            count = (let is = seen.count in omega (arith, length-append lines (line ∷ [])));
            kept =
                ap (λ (log : Lines). log.lines) c.in_default-push.ensures.ok.1
                ∙ (ap (λ part. part ++ line ∷ []) seen.kept
                ∙ (sym (one_more_is watch.margin (judged_from watch) lines watch.numbers.items line seen.stand) ∙ ap (lines_in more) (sym numbers)));
            stand = subst (StandFor watch.margin (judged_from watch) more) (sym numbers) (and_one_more watch.margin (judged_from watch) lines watch.numbers.items seen.stand line);
          };
      taken = c.in_default-push.ensures.ok.1;
      numbers = numbered;
    }
