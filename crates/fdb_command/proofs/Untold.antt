-- What is known besides of a program that tells nothing while it reads, and that refuses all of its input or nothing.
use Rattle.std.proofs.Common.{◌≡◌, ◌≢◌, ◌⊎◌, inl, inr, ℕ, List, Option, Result, Ok, Err, Vec, Global, ap, arith, length, map, string_bytes}
use Rattle.std.specs.Prelude.{IfErr, IfOk, IsOkAnd, String}
use Rattle.std.specs.IoError.{error_kind}
use Rattle.std.specs.declared.io.ErrorKind.TheVariants.{OutOfMemory}
use Rattle.std.specs.declared.io.Error.{Error}
use Rattle.clap.specs.Words.{Text}
use Rattle.fdb_command.specs.Driving.{HasAtMostTold, HasTold, IsBegun, IsDriven, IsDrivenBy, IsPartial, Promise, RefusesWhole, TellsNothing}

-- it has told nothing
untold : {O I E F : Type 0} (program : Promise O I E F) (arguments : List Text) → TellsNothing program arguments → (remaining before after : Option (List ℕ)) → HasTold program arguments remaining before after → ⊥
untold program arguments nothing remaining before after has =
    let none = nothing has.options has.told.intake has.told.bytes has.told.text has.asks has.told.taken in
    omega (arith, has.told.some, ap length none)

unchanged : {O I E F W : Type 0} (program : Promise O I E F) (arguments : List Text) → TellsNothing program arguments → (remaining : Option (List ℕ)) (contents : W → Option (List ℕ)) (before after : W) → HasAtMostTold program arguments remaining contents before after → after ≡ before
unchanged program arguments nothing remaining contents before after (inl same) = same
unchanged program arguments nothing remaining contents before after (inr has) = absurd (untold program arguments nothing remaining (contents before) (contents after) has)

whole : {O I E F : Type 0} (program : Promise O I E F) (arguments : List Text) → RefusesWhole program arguments → (remaining before after : Option (List ℕ)) → (error : E)
    → IsPartial program arguments remaining error before after → ⊥
whole program arguments refuses remaining before after error written = refuses written.printed.bytes written.text _ error written.printed.printed

-- what follows from what is known of a value, or of why there is none
of_each : {T E : Type 0} (r : Result T E) (P Q : T → Type 0) (M : E → Type 0) (S : Type 0) → ((value : T) → P value → Q value → S) → ((error : E) → M error → S) → IfOk r P → IfOk r Q → IfErr r M → S
of_each (Ok value) P Q M S gives lacks known is none = gives value known is
of_each (Err error) P Q M S gives lacks known is none = lacks error none

module _ {O I E F R W L : Type 0} (program : Promise O I E F) (remaining : R → Option (List ℕ)) (contents : W → Option (List ℕ)) (arguments : Result (Vec (String Global) Global) Error)
    (input_before input_after : R) (out_before out_after : W) (err_before err_after : L) (status : ℕ) (driven : IsDriven program remaining contents arguments input_before input_after out_before out_after err_before err_after status) where
  -- so nothing is written with status 1, 2 or 3
  pub unwritten : IfOk arguments (λ list. TellsNothing program (map string_bytes list.items) × RefusesWhole program (map string_bytes list.items)) → (status ≡ 1) ⊎ ((status ≡ 2) ⊎ (status ≡ 3)) → out_after ≡ out_before
  unwritten known which = of_each arguments _ _ _ (out_after ≡ out_before)
      (λ list both driven.
      let its = map string_bytes list.items in
      elim which [
        | inl one ↦ elim (driven.refused one).1 [
          | inl told ↦ unchanged program its both.0 (remaining input_before) contents out_before out_after told.0
          | inr part ↦ absurd (whole program its both.1 (remaining input_before) (contents out_before) (contents out_after) (driven.refused one).0 part)
        ]
        | inr (inl two) ↦ (driven.wrong two).1
        | inr (inr three) ↦ unchanged program its both.0 (remaining input_before) contents out_before out_after (driven.short three)
      ])
      (λ error missing. missing.3)
      known driven.given driven.missing

  -- and with 5 nothing, help, or a text, whole or in part
  pub begun : IfOk arguments (λ list. TellsNothing program (map string_bytes list.items)) → status ≡ 5
      → (out_after ≡ out_before) ⊎ IsOkAnd arguments (λ list. IsBegun program (map string_bytes list.items) (remaining input_before) (contents out_before) (contents out_after))
  begun known five = by arguments known driven.given driven.missing
    where
      Begins : Vec (String Global) Global → Type 0
      Begins = λ (list : Vec (String Global) Global). IsBegun program (map string_bytes list.items) (remaining input_before) (contents out_before) (contents out_after)

      by : (given : Result (Vec (String Global) Global) Error) → IfOk given (λ list. TellsNothing program (map string_bytes list.items))
          → IfOk given (λ list. IsDrivenBy program (map string_bytes list.items) remaining contents input_before input_after out_before out_after err_before err_after status)
          → IfErr given (λ error. (error_kind error ≡ OutOfMemory → status ≡ 3) × (error_kind error ≢ OutOfMemory → status ≡ 2) × (input_after ≡ input_before) × (out_after ≡ out_before))
          → (out_after ≡ out_before) ⊎ IsOkAnd given Begins
      by (Ok list) nothing driven none = elim (driven.begun five) [
        | inl same ↦ inl same
        | inr (inl told) ↦ absurd (untold program (map string_bytes list.items) nothing (remaining input_before) (contents out_before) (contents out_after) told)
        | inr (inr begins) ↦ inr begins
      ]
      by (Err error) nothing driven none = inl none.3
