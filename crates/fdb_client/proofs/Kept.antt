-- One more version among those that are kept out of turn.
use Rattle.std.proofs.Common.{◌≡◌, ℕ, ◌==◌, Bool, true, false, cond, if◌then◌else◌, List, [], ◌∷◌, ◌++◌, Option, None, Some, refl, ap, ◌∙◌}
use Rattle.std.specs.List.{find}
use Rattle.std.specs.Option.{option_map, option_or}
use Rattle.std.proofs.lemmas.List.Folds.{find-append}
use Rattle.fdb_client.specs.private.Versions.{version_among, version_in_turn, version_of, version_under}
use Rattle.fdb_history.specs.declared.chain.Issued.{Issued}

map_of_or : {X Y : Type 0} (f : X → Y) (one other : Option X) → option_map f (option_or one other) ≡ option_or (option_map f one) (option_map f other)
map_of_or f None other = refl
map_of_or f (Some x) other = refl

or_of_or : {X : Type 0} (one other third : Option X) → option_or one (option_or other third) ≡ option_or (option_or one other) third
or_of_or None other third = refl
or_of_or (Some x) other third = refl

picked : (issued : Issued) (is : Bool) → option_map (λ answer. answer.version) (cond is (Some issued) None) ≡ (if is then Some issued.version else None)
picked issued true = refl
picked issued false = refl

-- the version of the first of some answers and one more
pub among_more : (answers more : List Issued) (num : ℕ) → version_among (answers ++ more) num ≡ option_or (version_among answers num) (version_among more num)
among_more answers more num =
    ap (option_map (λ issued. issued.version)) (find-append (λ issued. issued.num == num) answers more)
    ∙ map_of_or (λ issued. issued.version) (find (λ issued. issued.num == num) answers) (find (λ issued. issued.num == num) more)

pub among_one : (issued : Issued) (num : ℕ) → version_among (issued ∷ []) num ≡ version_of issued num
among_one issued num = picked issued (issued.num == num)

pub others_more : (in_turn : List ℕ) (others : List Issued) (issued : Issued) (num : ℕ) → version_under in_turn (others ++ issued ∷ []) num ≡ option_or (version_under in_turn others num) (version_of issued num)
others_more in_turn others issued num =
    ap (option_or (version_in_turn in_turn num)) (among_more others (issued ∷ []) num ∙ ap (option_or (version_among others num)) (among_one issued num))
    ∙ or_of_or (version_in_turn in_turn num) (version_among others num) (version_of issued num)
