-- The moves that put two passes together.
use Rattle.std.proofs.Common.{◌≡◌, ◌≢◌, ℕ, zero, suc, ◌<◌, ◌≤◌, true, List, set, sym, ◌∙◌, subst, ⊎_elim, arith}
use mathlib.Core.List.{IsPrefix}
use mathlib.Core.Option.{some}
use lib.ListN.{get_elem?}
use Rattle.crossbeam_utils.specs.Register.{Merges}
use Rattle.fdb_live.specs.declared.view.View.{View}
use Rattle.fdb_live.specs.Seen.{longer}
use Rattle.fdb_live.specs.private.Rule.{Fits, Kept, Whole, spent, joined, served, taken}
use Rattle.fdb_live.proofs.ChainParts.{chain_bare, chain_joined, chain_served}
use Rattle.fdb_live.proofs.Fitting.{at_set, fits_merge}
use Rattle.fdb_live.proofs.Moved.{off, moved, moved_here, moved_else}
use Rattle.fdb_live.proofs.Prefixes.{longer_whole, prefix_trans, prefix_longer}

-- the second pass of a join is as it was
still_there : (views : List View) (pass other : ℕ) (both w : View) → ¬ (other ≡ pass) → get_elem? (set views pass both) other ≡ some w → get_elem? views other ≡ some w
still_there views pass other both w apart e = ⊎_elim (λ (x : (other ≡ pass) × (both ≡ w)). absurd (apart x.0)) (λ (x : (other ≢ pass) × (get_elem? views other ≡ some w)). x.1) (at_set views pass other both w e)

pub tells : (pass : ℕ) (v : View) (other : ℕ) (w : View) → Merges Kept pass v other w (joined v w) spent
tells pass v other w x views k at apart there =
    let f = k.each pass v at in
    let g = k.each other w (still_there views pass other (joined v w) w apart there) in
    let whole : Whole = k.whole in
    let l = prefix_longer v.seen w.seen whole.log f.seen g.seen in
    let both : Fits whole pass (joined v w) = record { opened = f.opened; right = λ e. ((f.right e).0, (f.right e).1, longer_whole v.seen w.seen whole.log (f.right e).2 g.seen f.seen); seen = l.all; mine = prefix_trans v.mine v.seen (longer v.seen w.seen) f.mine l.these; theirs = l.those; own = f.own; numbers = f.numbers; held = f.held; chain = chain_joined whole.answers whole.drawer pass v.low v.high v.chain f.chain w.chain.seen g.chain.seen } in
    record {
      whole = whole;
      register = k.register;
      legal = k.legal;
      drawn = k.drawn;
      bare = k.bare;
      each = fits_merge whole views pass other (joined v w) (λ j u _ _ e. k.each j u e) both;
    }

within : (high mine all : ℕ) → high ≤ mine → (0 < mine → mine ≡ all) → high ≤ all
within high zero all h is = omega arith
within high (suc mine) all h is = let e = is (omega arith) in omega arith

-- the passes that are not joined, once the numbers of the second are the first one's
module _ (pass other : ℕ) (views : List View) (k : (x : Whole) × ((j : ℕ) (u : View) → get_elem? views j ≡ some u → Fits x j u)) where
  abbrev pub given_over : Whole
  given_over = record k.0 { holder = λ n. moved other pass (k.0.holder n) }

  pub left_alone : (j : ℕ) (u : View) → j ≢ pass → j ≢ other → get_elem? views j ≡ some u → Fits given_over j u
  left_alone j u _ away e =
      let h = k.1 j u e in
      record { opened = h.opened; right = h.right; seen = h.seen; mine = h.mine; theirs = h.theirs; own = h.own; numbers = h.numbers; held = λ n low high. moved_else other pass (k.0.holder n) j away (h.held n low high); chain = h.chain }

pub takes : (pass : ℕ) (v : View) (other : ℕ) (w : View) → v.replaces ≡ true → 0 < w.reporters → Merges Kept pass v other w (taken v w) spent
takes pass v other w replaces some_reporter x views k at apart there =
    let f = k.each pass v at in
    let g = k.each other w (still_there views pass other (taken v w) w apart there) in
    let right = f.right replaces in
    let whole : Whole = given_over pass other views (k.whole, k.each) in
    let told : IsPrefix w.seen v.seen = subst (λ l. IsPrefix w.seen l) (sym right.2) g.seen in
    let count : w.high ≤ v.reporters = within w.high w.reporters v.reporters g.numbers (λ o. (g.opened o).1 ∙ sym right.1) in
    let both : Fits whole pass (taken v w) = record { opened = λ o. ((f.opened o).0, (f.opened o).1, (g.opened some_reporter).2); right = f.right; seen = f.seen; mine = prefix_trans w.mine w.seen v.seen g.mine told; theirs = told; own = g.own; numbers = count; held = λ n low high. moved_here other pass (k.whole.holder n) (sym (g.held n low high)); chain = chain_bare whole.answers whole.drawer other w.low w.high w.chain g.chain pass w.low w.high (omega arith) (omega arith) } in
    record {
      whole = whole;
      register = k.register;
      legal = k.legal;
      drawn = k.drawn;
      bare = k.bare;
      each = fits_merge whole views pass other (taken v w) (left_alone pass other views (k.whole, k.each)) both;
    }

pub serves : (pass : ℕ) (v : View) (other : ℕ) (w : View) → v.chain.draws ≡ true → Merges Kept pass v other w (served v w) spent
serves pass v other w draws x views k at apart there =
    let f = k.each pass v at in
    let g = k.each other w (still_there views pass other (served v w) w apart there) in
    let whole : Whole = given_over pass other views (k.whole, k.each) in
    let both : Fits whole pass (served v w) = record { opened = g.opened; right = λ e. absurd (off e); seen = g.seen; mine = g.mine; theirs = g.theirs; own = g.own; numbers = g.numbers; held = λ n low high. moved_here other pass (k.whole.holder n) (sym (g.held n low high)); chain = chain_served k.whole.answers k.whole.drawer pass v.low v.high v.chain f.chain other w.low w.high w.chain draws g.chain } in
    record {
      whole = whole;
      register = k.register;
      legal = k.legal;
      drawn = k.drawn;
      bare = k.bare;
      each = fits_merge whole views pass other (served v w) (left_alone pass other views (k.whole, k.each)) both;
    }
