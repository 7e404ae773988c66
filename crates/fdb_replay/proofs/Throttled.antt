-- The throttles of a script may be set.
use Rattle.std.proofs.Common.{◌&&◌, Bool, true, false, List, [], ◌∷◌, refl}
use Rattle.std.specs.List.{AllByRecursion, list_all}
use Rattle.std.specs.Prelude.{IsTrue}
use Rattle.fdb_queue.specs.Throttles.{is_throttle}
use Rattle.fdb_queue.specs.declared.throttles.Throttle.{Throttle}
use Rattle.fdb_script.specs.Plan.{is_tag}

second : (a b c : Bool) → IsTrue (a && b && c) → IsTrue b
second true true c all = refl
second true false c all = absurd (cc all)
second false b c all = absurd (cc all)

both : (a b : Bool) → IsTrue a → IsTrue b → IsTrue (a && b)
both true b one other = other
both false b one other = one

pub may_be_set : (throttles : List Throttle) → AllByRecursion (λ throttle. IsTrue (is_tag throttle.tag)) throttles → IsTrue (list_all is_throttle throttles)
may_be_set [] tagged = refl
may_be_set (throttle ∷ throttles) (one, rest) = both (is_throttle throttle) (list_all is_throttle throttles) (second _ _ _ one) (may_be_set throttles rest)
