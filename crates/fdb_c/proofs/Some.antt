-- What holds of what an option or a result has, and of several values at once.
use Rattle.std.proofs.Common.{◌≡◌, Option, Some, IfSome, Result, Ok, IfOk, subst, sym}

pub of_some : {F : Type 0} (P : F → Type 0) {o : Option F} {it : F} → Some it ≡ o → IfSome o P → P it
of_some P is holds = subst (λ o. IfSome o P) (sym is) holds

pub of_ok : {T E : Type 0} (P : T → Type 0) {r : Result T E} {it : T} → r ≡ Ok it → IfOk r P → P it
of_ok P is holds = subst (λ r. IfOk r P) is holds

pub at_both : {A B : Type 0} (P : A → B → Type 0) {a a' : A} {b b' : B} → a' ≡ a → b' ≡ b → P a b → P a' b'
at_both P {a' = a'} {b = b} p q holds = subst (λ it. P a' it) (sym q) (subst (λ it. P it b) (sym p) holds)

pub at_three : {A B C : Type 0} (P : A → B → C → Type 0) {a a' : A} {b b' : B} {c c' : C} → a' ≡ a → b' ≡ b → c' ≡ c → P a b c → P a' b' c'
at_three P {a' = a'} {b' = b'} {c = c} p q r holds = subst (λ it. P a' b' it) (sym r) (at_both (λ a b. P a b c) p q holds)
