use Rattle.std.proofs.Common.{◌≡◌, ◌≤◌, refl, length, ◌∙◌, arith}
use Rattle.std.proofs.lemmas.List.{get_or_default}
use Rattle.fdb_lines.specs.Lines.{line_at, nobody, version_of}
use Rattle.fdb_values.proofs.Fitting.{all_fit, fit_all}
use Rattle.fdb_values.proofs.fits.first_misfit.Goals as goal

pub returns-then-not-branch-clause-by_value : goal.returns-then-not-branch-clause-by_value
returns-then-not-branch-clause-by_value c =
    let lines = c.args.lines.now in
    let k = c.loop-place.place in
    let item = c.index-lines-place.result in
    let line : item ≡ line_at lines k = c.index-lines-place.is ∙ get_or_default lines k item nobody c.loop-place-test.true in
    let answer = rw line at c.in_ok-take.ensures.answer in
    let before = c.loop-place.invariant.committed (version_of (line_at lines k).call) in
    let misfit = c.if-not-branch.true in
    ((λ none. absurd cc), (λ by. let fit = fit_all lines by k c.loop-place-test.true in absurd (grind arith)))

pub returns-clause-by_value : goal.returns-clause-by_value
returns-clause-by_value c =
    let lines = c.args.lines.now in
    let all : length lines ≤ c.loop-place.place = c.loop-place-test.false in
    ((λ none. all_fit lines (λ k lt. c.loop-place.invariant.fit k (omega arith))), (λ by. refl))
