use Rattle.std.proofs.Common.{◌≡◌, ◌<◌, ◌∙◌, ◌++◌, ◌∷◌, [], List, Some, ap, length, map, refl, slice_index_or}
use Rattle.std.specs.Prelude.{slice_get}
use Rattle.fdb_lines.specs.declared.fault.Finding.{Finding}
use Rattle.fdb_lines.specs.Reasons.{found_of}
use Rattle.fdb_audit.proofs.judgement.listed.Goals as goal

-- the first of some is there
first_there : (found : List Finding) (d : Finding) → 0 < length found → slice_get (map found_of found) 0 ≡ Some (found_of (slice_index_or found 0 d))
first_there [] d some = elim some [ ]
first_there (first ∷ more) d some = refl

pub returns : goal.returns
returns c =
    let listing = c.in_ok-add_listing.ensures _ in
    let totals = c.in_ok-add_totals.ensures in (
      _,
      refl,
      first_there c.args.found.now _ c.requires.some,
      (
        listing.0,
        listing.1,
        totals.0,
        totals.1,
        totals.2 ∙ ap (λ before. before ++ totals.0) (listing.2 ∙ ap (λ before. before ++ listing.0) c.new-text.ensures.bytes),
      ),
    )
