use Rattle.std.proofs.Common.{◌≡◌, ℕ, ◌+◌, Bool, true, false, cond, List, [], ◌∷◌, ◌++◌, length, refl, ap, subst, sym, ◌∙◌, arith, add-one, append-nil}
use Rattle.fdb_lines.specs.Carried.{open_count, places_where, StandFor}
use Rattle.fdb_lines.specs.private.Standing.{is_kept}
use Rattle.fdb_lines.proofs.Staying.{they_are_few, they_stand}
use Rattle.fdb_lines.proofs.standing_lines.standing.Goals as goal
use Rattle.fdb_lines.proofs.standing_lines.standing.Goals.{then-is_kept+in_ok-push, else-is_kept}

-- one place more
placed : (test : ℕ → Bool) (n : ℕ) (items : List ℕ) → items ≡ places_where test n ++ cond (test n) (n ∷ []) [] → items ≡ places_where test (n + 1)
placed test n items is = rw (add-one n) is

pub loop-place-preserved : goal.loop-place-preserved
loop-place-preserved c =
    let lines = c.lines-lines.result.now in
    let test = is_kept c.args.margin c.args.at lines c.newest_past-shown.result c.newest_past-known.result in
    let n = c.loop-place.place in
    placed test n _ (elim c.if-is_kept.branch [
      | then-is_kept+in_ok-push w ↦
          let here : test n ≡ true = sym c.is_kept.ensures ∙ w.if-is_kept.true in
          rw (here, w.places-is, w.in_ok-push.ensures.items, c.loop-place.invariant) refl
      | else-is_kept w ↦
          let here : test n ≡ false = sym c.is_kept.ensures ∙ w.if-is_kept.false in
          rw (here, append-nil, w.places-is, c.loop-place.invariant) refl
    ])

pub returns : goal.returns
returns c =
    let lines = c.lines-lines.result.now in
    let test = is_kept c.args.margin c.args.at lines c.newest_past-shown.result c.newest_past-known.result in
    let most = c.loop-place.auto.place-end in
    let least = c.loop-place-test.false in
    let all : c.loop-place.place ≡ length lines = omega arith in
    let is : c.loop-place.places.items ≡ places_where test (length lines) = c.loop-place.invariant ∙ ap (places_where test) all in
    let few = they_are_few c.args.margin c.args.at lines c.newest_past-shown.result c.newest_past-known.result c.newest_past-shown.ensures c.newest_past-known.ensures in
    let same = ap (open_count c.args.margin c.args.at) c.lines-lines.ensures in
    record {
      stand = subst (λ ls. StandFor c.args.margin c.args.at ls c.loop-place.places.items) c.lines-lines.ensures
          (subst (StandFor c.args.margin c.args.at lines) (sym is)
          (they_stand c.args.margin c.args.at lines c.newest_past-shown.result c.newest_past-known.result c.newest_past-shown.ensures c.newest_past-known.ensures));
      few = omega (arith, ap length is);
    }
