-- What a pass knows of the chain fits, after each kind of move.
use Rattle.std.proofs.Common.{◌≡◌, ◌≢◌, ℕ, ◌<◌, ◌≤◌, true, false, List, [], ◌∷◌, ◌++◌, refl, sym, ap, ◌∙◌, subst, arith}
use mathlib.Core.List.{IsPrefix}
use Rattle.fdb_history.specs.declared.chain.Issued.{Issued}
use Rattle.fdb_live.specs.Holding.{answers_to}
use Rattle.fdb_live.specs.Seen.{longer}
use Rattle.fdb_live.specs.declared.view.ChainView.{ChainView}
use Rattle.fdb_live.specs.private.Rule.{FitsChain, chain_view, having_chain, without_right}
use Rattle.fdb_live.proofs.Drawn.{answers_to-between, answers_to-push_other}
use Rattle.fdb_live.proofs.Moved.{off, moved, moved_here, moved_else}
use Rattle.fdb_live.proofs.Prefixes.{longer_whole, prefix_longer, prefix_nil, prefix_same, prefix_trans}

pub chain_spent : (answers : List Issued) (drawer pass : ℕ) → FitsChain answers drawer pass 0 0 (chain_view false [] [] [])
chain_spent answers drawer pass = record { right = λ e. absurd (off e); seen = prefix_nil answers; mine = prefix_nil []; theirs = prefix_nil []; own = λ n low high. absurd (omega arith) }

module _ (answers : List Issued) (drawer pass low high : ℕ) (c : ChainView) (f : FitsChain answers drawer pass low high c) where
  -- a copy, for a pass with no number
  pub chain_copy : (new : ℕ) → FitsChain answers drawer new 0 0 (chain_view false c.seen c.seen [])
  chain_copy new = record { right = λ e. absurd (off e); seen = f.seen; mine = prefix_same c.seen; theirs = prefix_nil c.seen; own = λ n low high. absurd (omega arith) }

  -- with fewer numbers
  pub chain_fewer : (low' high' : ℕ) → low ≤ low' → high' ≤ high → FitsChain answers drawer pass low' high' c
  chain_fewer low' high' l h = record { right = f.right; seen = f.seen; mine = f.mine; theirs = f.theirs; own = λ n lo hi. f.own n (omega arith) (omega arith) }

  -- for any pass, with fewer numbers and without the right
  pub chain_bare : (new low' high' : ℕ) → low ≤ low' → high' ≤ high → FitsChain answers drawer new low' high' (without_right c)
  chain_bare new low' high' l h = record { right = λ e. absurd (off e); seen = f.seen; mine = f.mine; theirs = f.theirs; own = λ n lo hi. f.own n (omega arith) (omega arith) }

  -- once another pass may have given its seat away
  pub chain_else : (from to : ℕ) → pass ≢ from → FitsChain answers (moved from to drawer) pass low high c
  chain_else from to apart = record { right = λ r. (moved_else from to drawer pass apart (f.right r).0, (f.right r).1); seen = f.seen; mine = f.mine; theirs = f.theirs; own = f.own }

  -- once it has given all to a new one
  pub chain_moved : (new : ℕ) → FitsChain answers (moved pass new drawer) new low high c
  chain_moved new = record { right = λ r. (moved_here pass new drawer (sym (f.right r).0), (f.right r).1); seen = f.seen; mine = f.mine; theirs = f.theirs; own = f.own }

  -- the right alone, for a new pass
  pub chain_drawer : (new : ℕ) → FitsChain answers (moved pass new drawer) new 0 0 (chain_view c.draws c.seen c.seen [])
  chain_drawer new = record { right = λ r. (moved_here pass new drawer (sym (f.right r).0), (f.right r).1); seen = f.seen; mine = prefix_same c.seen; theirs = prefix_nil c.seen; own = λ n low high. absurd (omega arith) }

  -- once it has taken in what another has seen
  pub chain_joined : (those : List Issued) → IsPrefix those answers → FitsChain answers drawer pass low high (chain_view c.draws (longer c.seen those) c.mine those)
  chain_joined those p =
      let l = prefix_longer c.seen those answers f.seen p in
      record { right = λ e. ((f.right e).0, longer_whole c.seen those answers (f.right e).1 p f.seen); seen = l.all; mine = prefix_trans c.mine c.seen (longer c.seen those) f.mine l.these; theirs = l.those; own = f.own }

  -- the pass with the right takes in another with its numbers
  pub chain_served : (other low' high' : ℕ) (d : ChainView) → c.draws ≡ true → FitsChain answers drawer other low' high' d → FitsChain answers drawer pass low' high' (chain_view c.draws c.seen d.mine d.seen)
  chain_served other low' high' d draws g =
      let told : IsPrefix d.seen c.seen = subst (IsPrefix d.seen) (sym (f.right draws).1) g.seen in
      record { right = f.right; seen = f.seen; mine = prefix_trans d.mine d.seen c.seen g.mine told; theirs = told; own = g.own }

  -- once a list is seen that goes on what it has seen
  pub chain_sees : (list : List Issued) → IsPrefix c.seen list → IsPrefix list answers → (c.draws ≡ true → list ≡ answers) → FitsChain answers drawer pass low high (having_chain c list)
  chain_sees list p q whole =
      let before = prefix_trans c.mine c.seen list f.mine p in
      record { right = λ e. ((f.right e).0, whole e); seen = q; mine = prefix_same list; theirs = prefix_nil list; own = λ n lo hi. sym (answers_to-between n c.mine list answers before q (f.own n lo hi)) ∙ f.own n lo hi }

  -- another pass has drawn an answer
  pub chain_grown : (answer : Issued) → pass ≢ drawer → ((n : ℕ) → low ≤ n → n < high → answer.proxy ≢ n) → FitsChain (answers ++ answer ∷ []) drawer pass low high c
  chain_grown answer apart other = record {
    right = λ r. absurd (apart (f.right r).0);
    seen = prefix_trans c.seen answers (answers ++ answer ∷ []) f.seen (answer ∷ [], refl);
    mine = f.mine;
    theirs = f.theirs;
    own = λ n lo hi. f.own n lo hi ∙ sym (answers_to-push_other n answers answer (other n lo hi));
  }

  -- it has itself drawn an answer
  pub chain_drew : (answer : Issued) → c.draws ≡ true → FitsChain (answers ++ answer ∷ []) drawer pass low high (having_chain c (c.seen ++ answer ∷ []))
  chain_drew answer draws =
      let right = f.right draws in
      let list : List Issued = c.seen ++ answer ∷ [] in
      let same : list ≡ answers ++ answer ∷ [] = ap (λ l. l ++ answer ∷ []) right.1 in
      record { right = λ e. (right.0, same); seen = subst (IsPrefix list) same (prefix_same list); mine = prefix_same list; theirs = prefix_nil list; own = λ n lo hi. ap (answers_to n) same }
