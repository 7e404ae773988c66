-- The longest prefix of a list that passes a test.
use Rattle.std.proofs.Common.{◌≡◌, Bool, true, false, List, [], ◌∷◌, ◌++◌, map, None, Some, refl}
use Rattle.std.specs.Prelude.{find, if◌then◌else◌}
use Rattle.std.specs.Option.{option_map}
use Rattle.std.proofs.lemmas.Grind.{common_steps}
use Rattle.std.proofs.lemmas.Bool.Decides.{nat_tests}
use Rattle.std.proofs.Common.{arith}
use Rattle.std.proofs.lemmas.List.Folds.{find-append}
use Rattle.fdb_queue.specs.Window.{prefixes}

find-map : {X Y : Type 0} (test : Y → Bool) (f : X → Y) (xs : List X) → find test (map f xs) ≡ option_map f (find (λ x. test (f x)) xs)
find-map test f [] = refl
find-map test f (x ∷ xs) = grind (arith, common_steps, nat_tests, find-map test f xs)

find-none : {X : Type 0} (test : X → Bool) (xs : List X) → ((x : X) → test x ≡ false) → find test xs ≡ None
find-none test [] fails = refl
find-none test (x ∷ xs) fails = rw (fails x) (find-none test xs fails)

-- no longer prefix passes, where `rest` comes after `done`
abbrev pub Stops : {X : Type 0} (test : List X → Bool) (done rest : List X) → Type 0
Stops test done [] = Unit {0}
Stops {X = X} test done (x ∷ rest) = (more : List X) → test (done ++ x ∷ more) ≡ false

pub find_longest : {X : Type 0} (test : List X → Bool) (done rest : List X) → test done ≡ true → Stops test done rest → find test (prefixes (done ++ rest)) ≡ Some done
find_longest test [] [] passes stops = rw passes refl
find_longest test [] (x ∷ rest) passes stops =
    rw (find-append test (map (λ more. x ∷ more) (prefixes rest)) ([] ∷ []), find-map test (λ more. x ∷ more) (prefixes rest), find-none (λ more. test (x ∷ more)) (prefixes rest) stops, passes) refl
find_longest test (x ∷ done) [] passes stops =
    rw (find-append test (map (λ more. x ∷ more) (prefixes (done ++ []))) ([] ∷ []), find-map test (λ more. x ∷ more) (prefixes (done ++ [])), find_longest (λ more. test (x ∷ more)) done [] passes tt) refl
find_longest test (x ∷ done) (y ∷ rest) passes stops =
    rw (find-append test (map (λ more. x ∷ more) (prefixes (done ++ y ∷ rest))) ([] ∷ []), find-map test (λ more. x ∷ more) (prefixes (done ++ y ∷ rest)), find_longest (λ more. test (x ∷ more)) done (y ∷ rest) passes stops) refl
