use Rattle.std.proofs.Common.{◌≡◌, ◌∙◌, ◌++◌, ◌∷◌, ◌==◌, ℕ, zero, suc, ◌<◌, [], Option, cond, ap, arith, length, refl, subst, sym}
use Rattle.std.proofs.lemmas.List.{length-map}
use Rattle.std.proofs.lemmas.Result.{on_ok_weaker}
use Rattle.fdb_lines.specs.declared.fault.Fault.{Fault}
use Rattle.fdb_audit.specs.Groups.{kinds_of, number_of, of_group, Owned}
use Rattle.fdb_audit.specs.declared.groups.Tally.{Tally}
use Rattle.fdb_audit.specs.Tallied.{kinds_at, HasKinds}
use Rattle.fdb_audit.proofs.Tallying.{tallied_new, tallied_old}
use Rattle.fdb_audit.proofs.groups.Tally.add.Goals.{then-counts-eq0+in_ok-push, else-counts-eq0}
use Rattle.fdb_audit.proofs.groups.Tally.add.Goals as goal

some : (n : ℕ) → (n ≡ 0 → ⊥) → 0 < n
some zero e = absurd (e refl)
some (suc n) e = omega arith

pub returns : goal.returns
returns c = on_ok_weaker c.set.result (λ set. λ owned one is kind has.
    let old = c.args.self.now in
    let mid = c.if-counts-eq0.self in
    let new = c.set.new.self in
    let counts = c.add.new.self in
    let counted : HasKinds counts (kinds_of (of_group owned one.owner) ++ one.kind ∷ []) =
    subst (λ (owner : Option ℕ). HasKinds counts (kinds_of (of_group owned owner) ++ one.kind ∷ [])) (sym is)
    (subst (λ (kind : Fault). HasKinds counts (kinds_of (of_group owned c.args.owner) ++ kind ∷ [])) (sym kind)
    (c.in_ok-add.ensures (kinds_of (of_group owned c.args.owner)) (c.kinds-counts.ensures.counted owned has))) in
    let was : (q : ℕ) → kinds_at mid q ≡ kinds_at old q = λ q. elim c.if-counts-eq0.branch [
      | then-counts-eq0+in_ok-push w ↦ ap (λ (tally : Tally). kinds_at tally q) w.self-is
      | else-counts-eq0 w ↦ ap (λ (tally : Tally). kinds_at tally q) w.self-is
    ] in
    let sets : (q : ℕ) → kinds_at new q ≡ cond (q == number_of one.owner) counts (kinds_at old q) = λ q.
    set q
    ∙ (ap (λ (owner : Option ℕ). cond (q == number_of owner) counts (kinds_at mid q)) (sym is)
    ∙ ap (cond (q == number_of one.owner) counts) (was q)) in
    elim c.if-counts-eq0.branch [
      | then-counts-eq0+in_ok-push w ↦ tallied_new old new owned one counts has counted sets
          (ap (λ owners. owners.items) c.set.ensures.owners
          ∙ (ap (λ (tally : Tally). tally.owners.items) w.self-is
          ∙ (w.in_ok-push.ensures.items ∙ ap (λ (owner : Option ℕ). old.owners.items ++ owner ∷ []) (sym is))))
      | else-counts-eq0 w ↦ tallied_old old new owned one counts has counted sets
          (ap (λ owners. owners.items) c.set.ensures.owners ∙ ap (λ (tally : Tally). tally.owners.items) w.self-is)
          (let many = (c.kinds-counts.ensures.counted owned has).faults in
          let size = length-map (of_group owned c.args.owner) (λ (it : Owned). it.kind) in
          let few = some c.kinds-counts.result.faults w.if-counts-eq0.false in
          subst (λ (owner : Option ℕ). 0 < length (of_group owned owner)) (sym is) (omega (arith, many, size, few)))
    ]) c.set.ensures.counts
