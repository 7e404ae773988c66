-- The moves that no word changes at: the first pass, and what is split off.
use Rattle.std.proofs.Common.{◌≡◌, ◌≢◌, ℕ, zero, suc, ◌+◌, ◌<◌, ◌==◌, None, [], ◌∷◌, length, if◌then◌else◌, refl, sym, ap, ◌∙◌, subst, arith}
use Rattle.std.proofs.lemmas.Grind.{common_steps}
use Rattle.std.proofs.lemmas.Bool.Decides.{nat_tests}
use Rattle.std.proofs.lemmas.List.Elements.{All-nil}
use mathlib.Core.Option.{some, some-ne-none, some-injective}
use lib.ListN.{get_elem?}
use Rattle.crossbeam_utils.specs.Register.{Forks}
use Rattle.fdb_live.specs.declared.held.Fetched.{Fetched}
use Rattle.fdb_live.specs.declared.view.View.{View}
use Rattle.fdb_live.specs.private.Rule.{Fits, Kept, Whole, no_record, first, spent, copy_of, drawer_of, lowest_of, without_drawing, without_lowest}
use Rattle.fdb_live.proofs.ChainParts.{chain_bare, chain_copy, chain_drawer, chain_else, chain_fewer, chain_moved}
use Rattle.fdb_live.proofs.Fitting.{fits_fork, fits_spent}
use Rattle.fdb_live.proofs.Moved.{off, moved, moved_here, moved_else}
use Rattle.fdb_live.proofs.Prefixes.{prefix_nil, prefix_same}

-- a cell with its first pass
abbrev nothing : Whole
nothing = record { start = no_record; reporters = 0; epoch = None; log = []; seat = 0; answers = []; drawer = 0; holder = λ n. 0 }

pub begins : (x : Fetched) → Kept x (first ∷ [])
begins x = record {
  whole = nothing;
  register = λ o. absurd (omega arith);
  legal = record { all_change = refl; numbered = All-nil _; taken = All-nil _; start_taken = record { in_range = omega arith; within = omega arith } };
  drawn = λ epoch e. absurd (cc e);
  bare = λ _. refl;
  each = each;
}
  where
    fits : Fits nothing 0 first
    fits = record {
      opened = λ o. absurd (omega arith);
      right = λ e. (refl, refl, refl);
      seen = prefix_nil [];
      mine = prefix_nil [];
      theirs = prefix_nil [];
      own = λ n low high. refl;
      numbers = omega arith;
      held = λ n low high. refl;
      chain = record { right = λ e. (refl, refl); seen = prefix_nil []; mine = prefix_nil []; theirs = prefix_nil []; own = λ n low high. refl };
    }

    each : (pass : ℕ) (v : View) → get_elem? (first ∷ []) pass ≡ some v → Fits nothing pass v
    each zero v e = subst (Fits nothing 0) (some-injective _ _ e) fits
    each (suc pass) v e = absurd (some-ne-none v (sym e))

-- a copy of what was seen
pub copies : (pass : ℕ) (v : View) → Forks Kept pass v v (copy_of v)
copies pass v x views k at =
    let f = k.each pass v at in
    let whole : Whole = k.whole in
    let new = length views in
    let copy : Fits whole new (copy_of v) = record { opened = f.opened; right = λ e. absurd (off e); seen = f.seen; mine = prefix_same v.seen; theirs = prefix_nil v.seen; own = λ n low high. absurd (omega arith); numbers = omega arith; held = λ n low high. absurd (omega arith); chain = chain_copy whole.answers whole.drawer pass v.low v.high v.chain f.chain new } in
    record {
      whole = whole;
      register = k.register;
      legal = k.legal;
      drawn = k.drawn;
      bare = k.bare;
      each = fits_fork whole views pass v (copy_of v) (λ j u apart e. k.each j u e) f copy;
    }

-- who holds a number once `low` has gone to `new`
abbrev given : (ℕ → ℕ) → ℕ → ℕ → ℕ → ℕ
given holder low new n = if n == low then new else holder n

given_here : (holder : ℕ → ℕ) (low new n : ℕ) → n ≡ low → new ≡ given holder low new n
given_here holder low new n e = grind (arith, common_steps, nat_tests)

given_else : (holder : ℕ → ℕ) (low new n j : ℕ) → n ≢ low → j ≡ holder n → j ≡ given holder low new n
given_else holder low new n j apart e = grind (arith, common_steps, nat_tests)

-- the lowest number
pub gives_lowest : (pass : ℕ) (v : View) → v.low < v.high → Forks Kept pass v (without_lowest v) (lowest_of v)
gives_lowest pass v some_number x views k at =
    let f = k.each pass v at in
    let new = length views in
    let holder : ℕ → ℕ = given k.whole.holder v.low new in
    let whole : Whole = record k.whole { holder = holder } in
    let here = f.held v.low (omega arith) some_number in
    let left : Fits whole pass (without_lowest v) = record { opened = f.opened; right = f.right; seen = f.seen; mine = f.mine; theirs = f.theirs; own = λ n low high. f.own n (omega arith) high; numbers = f.numbers; held = λ n low high. given_else k.whole.holder v.low new n pass (λ e. omega arith) (f.held n (omega arith) high); chain = chain_fewer whole.answers whole.drawer pass v.low v.high v.chain f.chain (v.low + 1) v.high (omega arith) (omega arith) } in
    let right : Fits whole new (lowest_of v) = record { opened = f.opened; right = λ e. absurd (off e); seen = f.seen; mine = f.mine; theirs = f.theirs; own = λ n low high. f.own n low (omega arith); numbers = (let g = f.numbers in omega arith); held = λ n low high. given_here k.whole.holder v.low new n (omega arith); chain = chain_bare whole.answers whole.drawer pass v.low v.high v.chain f.chain new v.low (v.low + 1) (omega arith) (omega arith) } in
    let others : (j : ℕ) (u : View) → j ≢ pass → get_elem? views j ≡ some u → Fits whole j u =
    λ j u apart e. (let g = k.each j u e in record { opened = g.opened; right = g.right; seen = g.seen; mine = g.mine; theirs = g.theirs; own = g.own; numbers = g.numbers; held = λ n low high. given_else k.whole.holder v.low new n j (λ same. apart (g.held n low high ∙ (ap k.whole.holder same ∙ sym here))) (g.held n low high); chain = g.chain }) in
    record {
      whole = whole;
      register = k.register;
      legal = k.legal;
      drawn = k.drawn;
      bare = k.bare;
      each = fits_fork whole views pass (without_lowest v) (lowest_of v) others left right;
    }

-- all
pub gives_all : (pass : ℕ) (v : View) → Forks Kept pass v spent v
gives_all pass v x views k at =
    let f = k.each pass v at in
    let new = length views in
    let whole : Whole = record k.whole { seat = moved pass new k.whole.seat; drawer = moved pass new k.whole.drawer; holder = λ n. moved pass new (k.whole.holder n) } in
    let right : Fits whole new v = record { opened = f.opened; right = λ e. (moved_here pass new k.whole.seat (sym (f.right e).0), (f.right e).1, (f.right e).2); seen = f.seen; mine = f.mine; theirs = f.theirs; own = f.own; numbers = f.numbers; held = λ n low high. moved_here pass new (k.whole.holder n) (sym (f.held n low high)); chain = chain_moved k.whole.answers k.whole.drawer pass v.low v.high v.chain f.chain new } in
    let others : (j : ℕ) (u : View) → j ≢ pass → get_elem? views j ≡ some u → Fits whole j u =
    λ j u apart e. (let g = k.each j u e in record { opened = g.opened; right = λ r. (moved_else pass new k.whole.seat j apart (g.right r).0, (g.right r).1, (g.right r).2); seen = g.seen; mine = g.mine; theirs = g.theirs; own = g.own; numbers = g.numbers; held = λ n low high. moved_else pass new (k.whole.holder n) j apart (g.held n low high); chain = chain_else k.whole.answers k.whole.drawer j u.low u.high u.chain g.chain pass new apart }) in
    record {
      whole = whole;
      register = k.register;
      legal = k.legal;
      drawn = k.drawn;
      bare = k.bare;
      each = fits_fork whole views pass spent v others (fits_spent whole pass) right;
    }

-- the right to draw
pub gives_drawer : (pass : ℕ) (v : View) → Forks Kept pass v (without_drawing v) (drawer_of v)
gives_drawer pass v x views k at =
    let f = k.each pass v at in
    let new = length views in
    let whole : Whole = record k.whole { drawer = moved pass new k.whole.drawer } in
    let left : Fits whole pass (without_drawing v) = record { opened = f.opened; right = f.right; seen = f.seen; mine = f.mine; theirs = f.theirs; own = f.own; numbers = f.numbers; held = f.held; chain = record { right = λ e. absurd (off e); seen = f.chain.seen; mine = f.chain.mine; theirs = f.chain.theirs; own = f.chain.own } } in
    let right : Fits whole new (drawer_of v) = record { opened = f.opened; right = λ e. absurd (off e); seen = f.seen; mine = prefix_same v.seen; theirs = prefix_nil v.seen; own = λ n low high. absurd (omega arith); numbers = omega arith; held = λ n low high. absurd (omega arith); chain = chain_drawer k.whole.answers k.whole.drawer pass v.low v.high v.chain f.chain new } in
    let others : (j : ℕ) (u : View) → j ≢ pass → get_elem? views j ≡ some u → Fits whole j u =
    λ j u apart e. (let g = k.each j u e in record { opened = g.opened; right = g.right; seen = g.seen; mine = g.mine; theirs = g.theirs; own = g.own; numbers = g.numbers; held = g.held; chain = chain_else k.whole.answers k.whole.drawer j u.low u.high u.chain g.chain pass new apart }) in
    record {
      whole = whole;
      register = k.register;
      legal = k.legal;
      drawn = k.drawn;
      bare = k.bare;
      each = fits_fork whole views pass (without_drawing v) (drawer_of v) others left right;
    }
