use Rattle.std.proofs.Common.{◌∙◌, ◌<◌, ℕ, All, Contains, List, Option, ap, length, subst, sym, take}
use Rattle.std.proofs.lemmas.List.{length-map, take-map}
use Rattle.std.proofs.lemmas.List.Filters.{dedup_is}
use Rattle.fdb_audit.specs.Groups.{of_group, Owned}
use Rattle.fdb_audit.specs.declared.groups.Group.{Group}
use Rattle.fdb_audit.specs.private.{owners_in}
use Rattle.fdb_audit.proofs.Most.{ranked}
use Rattle.fdb_audit.proofs.groups.Tally.most.Goals as goal

pub returns : goal.returns
returns c = λ owned has.
    let groups = c.in_ok-groups.ensures in
    let count : Option ℕ → ℕ = λ group. length (of_group owned group) in (
      _,
      ranked count c.in_ok-groups.groups.items c.sort_unstable.new.self.items
          (subst (All (λ owner. 0 < count owner)) (sym groups.owners) has.faulty)
          (λ owner some. subst (λ (owners : List (Option ℕ)). Contains owners owner) (sym groups.owners) (has.all owner some))
          (λ k d within. groups.faults k d within ∙ ((has.counts _).faults ∙ length-map (of_group owned _) (λ (it : Owned). it.kind)))
          c.sort_unstable.ensures.permutation c.sort_unstable.ensures.sorted,
      ap owners_in (c.truncate.ensures.items ∙ ap (take 10) (dedup_is _ _ _ c.dedup.ensures.filtered)) ∙ sym (take-map (λ (group : Group). group.owner) 10 _),
    )
