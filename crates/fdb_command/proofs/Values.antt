-- What a parse of a command line leaves of an argument's text: it passed the argument's parser, and a getter reads it
-- as that parser says.
use Rattle.std.proofs.Common.{◌≡◌, ◌∙◌, ◌<◌, ◌&&◌, ◌||◌, ap, ℕ, suc, Bool, true, false, List, [], ◌∷◌, get_or, length, Option, Some, None, Result, Ok, ◌^◌, pos, refl, sym, subst, inl, inr, arith, codes}
use Rattle.std.specs.Borrow.{Bor}
use Rattle.std.specs.List.{All, slice_index_or}
use Rattle.std.specs.Option.{option_map_or}
use Rattle.std.specs.Prelude.{option_map, slice_get, not}
use Rattle.std.specs.Str.Parse.{ParsesUnsigned}
use Rattle.std.specs.Str.{bytes_eq}
use Rattle.std.proofs.lemmas.Bool.{ne_eqb}
use Rattle.std.proofs.lemmas.List.{get_or-map, get_or_default, length-map}
use Rattle.std.proofs.lemmas.List.Elements.{All-get_or}
use Rattle.std.proofs.lemmas.Slice.Eq.{bytes_eq-Decides}
use Rattle.clap.specs.Facts.{args_of, groups_of, Entry, EntryPasses, HasReading, PassesArg, ValuesPass, parser_of, parser_of_value}
use Rattle.clap.specs.Built.{IsAuto, IsParsedFrom, NamesNoGroup, SameRules}
use Rattle.clap.specs.Matches.{ReadsOne, found_of, matched_of, one_text}
use Rattle.clap.specs.Values.{Accepts, read_as, reading_of}
use Rattle.clap.specs.Simple.{has_plain_fields}
use Rattle.clap.specs.Walk.{is_empty}
use Rattle.clap.specs.Words.{App, Rule, Text, app_of, matches_of, one_of, rule_of}
use Rattle.clap.specs.declared.builder.arg.Arg.{Arg}
use Rattle.clap.specs.declared.builder.command.Command.{Command}
use Rattle.clap.specs.declared.builder.command.Command.TheViews.{out-Command}
use Rattle.clap.specs.declared.builder.value_parser.Reading.{Reading}
use Rattle.clap.specs.declared.builder.value_parser.ValueParser.{ValueParser}
use Rattle.clap.specs.declared.builder.value_parser.ValueParser.TheVariants as parser
use Rattle.clap.specs.declared.parser.matches.ArgMatches.{ArgMatches}
use Rattle.clap.specs.declared.parser.matches.Found.{Found}
use Rattle.clap.specs.declared.parser.matches.MatchedArg.{MatchedArg}
use Rattle.std.proofs.lemmas.List.Sums.{AllPass-from_list_all}
use Rattle.clap.proofs.WalkLemmas.{one_text-rows}
use Rattle.fdb_command.specs.Arguments.{AreMatches, HasArgument, IsNumber, flag_rule, is_set, number_rule}
use Rattle.fdb_command.proofs.Choices.{one_place}
use Rattle.clap.proofs.CallerReads.{signed_reads}
use Rattle.clap.proofs.CallerLemmas.{entry_by_id, same_rules_by_id}

-- the text t is a value that the parser takes, as a typed getter reads it
abbrev pub IsRead : ValueParser → List ℕ → Type 0
IsRead q t = (v : List ℕ) × (t ≡ read_as (reading_of q) v) × Accepts false q v

-- the first of some values that all pass
first_read : (q : ValueParser) (how : Reading) (vs : List (Bor (List ℕ))) → how ≡ reading_of q → All (λ v. Accepts false q v.now) vs
    → (t : List ℕ) → option_map (λ s. read_as how s.now) (slice_get vs 0) ≡ Some t → IsRead q t
first_read q how [] is all t found = cc
first_read q how (v ∷ vs) is all t found =
    let same : read_as how v.now ≡ t = cc in
    (v.now, sym same ∙ ap (λ (r : Reading). read_as r v.now) is, All-get_or (λ w. Accepts false q w.now) (v ∷ vs) 0 v (omega arith) all)

-- what the entry of an argument gives
of_entry : (c : Command) (id : List ℕ) (q : ValueParser) (e : Entry) → groups_of c ≡ [] → (id ≡ [] → ⊥)
    → ((r : Reading) → HasReading c id r → r ≡ reading_of q) → ((v : List ℕ) → PassesArg c id v → Accepts false q v)
    → e.0.now ≡ id → EntryPasses c e
    → (t : List ℕ) → option_map (λ s. read_as e.1.reading s.now) (slice_get e.1.vals.items 0) ≡ Some t → IsRead q t
of_entry c id q e no_groups named reads passes key pass t found =
    let no_group : e.1.is_group ≡ true → ⊥ = λ g. elim (pass.3 g) [
      | inl empty ↦ named (sym key ∙ empty)
      | inr lots ↦
          let bad : 0 < 0 = rw no_groups at lots in
          absurd (omega arith)
    ] in
    let all : All (λ v. Accepts false q v.now) e.1.vals.items = elim pass.0 [
      | inl g ↦ absurd (no_group g)
      | inr vals ↦ λ k d lt. passes (slice_index_or e.1.vals.items k d).now (subst (λ (w : List ℕ). PassesArg c w (slice_index_or e.1.vals.items k d).now) key (vals k d lt))
    ] in
    let is : e.1.reading ≡ reading_of q = elim pass.4 [
      | inl g ↦ absurd (no_group g)
      | inr h ↦ reads e.1.reading (subst (λ (w : List ℕ). HasReading c w e.1.reading) key h)
    ] in
    first_read q e.1.reading e.1.vals.items is all t found

entry_text : (c : Command) (f : Found) (id : List ℕ) (q : ValueParser) → ValuesPass c f → groups_of c ≡ [] → (id ≡ [] → ⊥)
    → ((r : Reading) → HasReading c id r → r ≡ reading_of q) → ((v : List ℕ) → PassesArg c id v → Accepts false q v)
    → (t : List ℕ) → one_text f id ≡ Some t → IsRead q t
entry_text c f id q values no_groups named reads passes t found = go (matched_of f id) refl
  where
    go : (o : Option MatchedArg) → matched_of f id ≡ o → IsRead q t
    go None e =
        let bad : None ≡ Some t = rw e at found in
        cc
    go (Some x) e =
        let first : option_map (λ s. read_as x.reading s.now) (slice_get x.vals.items 0) ≡ Some t = rw e at found in
        let got = entry_by_id (EntryPasses c) f.entries.items id x values e in
        of_entry c id q got.0 no_groups named reads passes ((bytes_eq-Decides got.0.0.now id).0 got.2) got.3 t
        (subst (λ (y : MatchedArg). option_map (λ s. read_as y.reading s.now) (slice_get y.vals.items 0) ≡ Some t) (sym got.1) first)

reading_is : (a x : Arg) (q : ValueParser) (r : Reading) → SameRules a x → a.value_parser ≡ Some q → reading_of (parser_of x) ≡ r → r ≡ reading_of q
reading_is a x q r same parser is = sym is ∙ ap (λ o. reading_of (parser_of_value o)) (same.parser q parser)

accepts_is : (a x : Arg) (q : ValueParser) (v : List ℕ) → SameRules a x → a.value_parser ≡ Some q → a.ignore_case ≡ false → Accepts x.ignore_case (parser_of x) v → Accepts false q v
accepts_is a x q v same parser case taken =
    let as_q : Accepts x.ignore_case q v = subst (λ (w : Option ValueParser). Accepts x.ignore_case (parser_of_value w) v) (same.parser q parser) taken in
    subst (λ (b : Bool). Accepts b q v) (same.ignore_case ∙ case) as_q

-- the text of the caller's argument k
given_text : (old : Command) (m : ArgMatches) (p : IsParsedFrom old m) → (out-Command old).has_globals ≡ false → groups_of p.built ≡ []
    → (k : ℕ) (a : Arg) → k < length (args_of old) → slice_index_or (args_of old) k a ≡ a
    → ((j : ℕ) (e : Arg) → j < length (args_of old) → bytes_eq (slice_index_or (args_of old) j e).id.now a.id.now ≡ true → j ≡ k)
    → (a.id.now ≡ [] → ⊥) → (IsAuto a → ⊥) → (q : ValueParser) → a.value_parser ≡ Some q → a.ignore_case ≡ false
    → (t : List ℕ) → one_text (found_of m) a.id.now ≡ Some t → IsRead q t
given_text old m p globals no_groups k a lt at unique named own q parser case t found =
    let values = (p.parsed (p.from.globals ∙ globals)).values in
    let rules : (j : ℕ) (x : Arg) → j < length (args_of p.built) → slice_index_or (args_of p.built) j x ≡ x → bytes_eq x.id.now a.id.now ≡ true → SameRules a x =
    λ j x high here same. subst (λ (y : Arg). SameRules y x) at
    (same_rules_by_id old m p k a lt (λ i e low eq. unique i e low (rw at at eq)) (λ auto. own (rw at at auto)) j x high here (rw at same)) in
    entry_text p.built (found_of m) a.id.now q values no_groups named
    (λ r any. reading_is a any.1 q r (rules any.0 any.1 any.2 any.3 any.4.0) parser any.4.1)
    (λ v any. accepts_is a any.1 q v (rules any.0 any.1 any.2 any.3 any.4.0) parser case any.4.1) t found

-- ---- the arguments of a command

pub and_left : (a b : Bool) → (a && b) ≡ true → a ≡ true
and_left true b h = refl
and_left false b h = h

and_right : (a b : Bool) → (a && b) ≡ true → b ≡ true
and_right true b h = h
and_right false b h = cc

or_left : (a b : Bool) → (a || b) ≡ false → a ≡ false
or_left true b h = h
or_left false b h = refl

or_right : (a b : Bool) → (a || b) ≡ false → b ≡ false
or_right true b h = cc
or_right false b h = h

not_so : (b : Bool) → not b ≡ true → b ≡ false
not_so true h = cc
not_so false h = refl

none_in : {X : Type 0} (xs : List X) → is_empty xs ≡ true → xs ≡ []
none_in [] h = refl
none_in (x ∷ xs) h =
    let bad : false ≡ true = sym (ne_eqb (suc (length xs)) 0 (λ e. omega arith)) ∙ h in
    cc

-- a simple argument names no group
no_group_named : (a : Arg) → (rule_of a).is_simple ≡ true → a.groups.items ≡ []
no_group_named a h = none_in a.groups.items (and_left _ _ (and_right _ _ (and_right _ _ h)))

no_globals : (c : Command) → has_plain_fields (out-Command c) ≡ true → (out-Command c).has_globals ≡ false
no_globals c h = not_so _ (and_left _ _ (and_right _ _ (and_right _ _ h)))

no_groups_of : (c : Command) → has_plain_fields (out-Command c) ≡ true → groups_of c ≡ []
no_groups_of c h = none_in _ (and_left _ _ h)

-- The text of an argument of a command, by the command's rules: each is a simple one, and no other has its name.
pub text_is : (old : Command) (m : ArgMatches) → IsParsedFrom old m → (rules : List Rule) → (app_of old).top.rules ≡ rules → (app_of old).top.is_plain ≡ true
    → All (λ r. r.is_simple ≡ true) rules → (k : ℕ) (rule : Rule) → k < length rules → get_or rules k rule ≡ rule
    → ((j : ℕ) → j < length rules → (get_or rules j rule).id ≡ rule.id → j ≡ k) → (rule.id ≡ [] → ⊥) → (rule.id ≡ codes "help" → ⊥) → (rule.id ≡ codes "version" → ⊥)
    → (q : ValueParser) → rule.parser ≡ Some q → rule.ignore_case ≡ false → (t : List ℕ) → one_text (found_of m) rule.id ≡ Some t → IsRead q t
text_is old m p rules are plain simple k rule low here unique named no_help no_version q parser case t found = go (args_of old) refl
  where
    long : length rules ≡ length (args_of old)
    long = ap length (sym are) ∙ length-map (args_of old) rule_of

    rule_at : (j : ℕ) (d : Arg) (e : Rule) → j < length (args_of old) → get_or rules j e ≡ rule_of (get_or (args_of old) j d)
    rule_at j d e within = ap (λ (l : List Rule). get_or l j e) (sym are) ∙ get_or-map rule_of (args_of old) j d e within

    unnamed : NamesNoGroup old
    unnamed = λ j d within.
        let all = simple j (rule_of d) (omega (arith, within, long)) in
        let is = rule_at j d (rule_of d) within in
        no_group_named (get_or (args_of old) j d) (subst (λ (r : Rule). r.is_simple ≡ true) is all)

    go : (args : List Arg) → args_of old ≡ args → IsRead q t
    go [] none = absurd (let empty = ap length none in omega (arith, low, long, empty))
    go (first ∷ others) some =
        let a = get_or (args_of old) k first in
        let within : k < length (args_of old) = omega (arith, low, long) in
        let is : rule_of a ≡ rule = sym (rule_at k first rule within) ∙ here in
        let id : a.id.now ≡ rule.id = ap (λ (r : Rule). r.id) is in
        let alone : (j : ℕ) (e : Arg) → j < length (args_of old) → bytes_eq (slice_index_or (args_of old) j e).id.now a.id.now ≡ true → j ≡ k = λ j e inside same.
        let other : (slice_index_or (args_of old) j e).id.now ≡ a.id.now = (bytes_eq-Decides (slice_index_or (args_of old) j e).id.now a.id.now).0 same in
        unique j (omega (arith, inside, long)) (ap (λ (r : Rule). r.id) (rule_at j e rule inside) ∙ other ∙ id) in
        given_text old m p (no_globals old plain) ((p.from.same_groups unnamed).1 ∙ no_groups_of old plain) k a within (get_or_default (args_of old) k a first within) alone
        (λ empty. named (sym id ∙ empty)) (λ auto. elim auto [ inl help ↦ no_help (sym id ∙ help) | inr version ↦ no_version (sym id ∙ version) ])
        q (ap (λ (r : Rule). r.parser) is ∙ parser) (ap (λ (r : Rule). r.ignore_case) is ∙ case) t (subst (λ (n : Text). one_text (found_of m) n ≡ Some t) (sym id) found)

differs : (x y : Text) → bytes_eq x y ≡ false → x ≡ y → ⊥
differs x y other same =
    let bad : false ≡ true = sym other ∙ (bytes_eq-Decides x y).1 same in
    cc

-- the text of an argument that a command has
value_of : (app : App) (arguments : List Text) (m : ArgMatches) → AreMatches app arguments m → (rule : Rule) → HasArgument app rule → (q : ValueParser) → rule.parser ≡ Some q → rule.ignore_case ≡ false
    → (t : List ℕ) → one_of rule.id (matches_of app arguments) ≡ Some t → IsRead q t
value_of app arguments m matches rule (simple, free, one) q parser case t found =
    let (place, within, here, alone) = one_place (λ other. bytes_eq other.id rule.id) app.top.rules rule one in
    let plain = and_left _ _ (and_left _ _ (and_left _ _ simple)) in
    let each = AllPass-from_list_all (λ r. r.is_simple) app.top.rules (and_right _ _ (and_left _ _ (and_left _ _ simple))) in
    let text : one_text (found_of m) rule.id ≡ Some t = one_text-rows (found_of m) rule.id ∙ ap (one_of rule.id) matches.rows ∙ found in
    text_is matches.command m matches.parsed app.top.rules (ap (λ (a : App). a.top.rules) matches.is) (ap (λ (a : App). a.top.is_plain) matches.is ∙ plain) each place rule within here
    (λ j low same. alone j low ((bytes_eq-Decides _ rule.id).1 same))
    (differs rule.id [] (or_left _ _ free)) (differs rule.id (codes "help") (or_left _ _ (or_right _ _ free))) (differs rule.id (codes "version") (or_right _ _ (or_right _ _ free))) q parser case t text

-- a flag whose text passed as a bool is set where that text is true
flag_read : (o : Option (List ℕ)) (r : Bool) → ((t : List ℕ) → o ≡ Some t → IsRead parser.Bool t) → (o ≡ None → r ≡ false) → (o ≡ Some (codes "true") → r ≡ true)
    → (o ≡ Some (codes "false") → r ≡ false) → r ≡ option_map_or (λ text. bytes_eq text (codes "true")) o false
flag_read None r read absent set unset = absent refl
flag_read (Some t) r read absent set unset =
    let got = read t refl in
    go (bytes_eq t (codes "true")) refl (subst (λ (v : List ℕ). (bytes_eq v (codes "true") || bytes_eq v (codes "false")) ≡ true) (sym got.1) got.2)
  where
    go : (b : Bool) → bytes_eq t (codes "true") ≡ b → (bytes_eq t (codes "true") || bytes_eq t (codes "false")) ≡ true → r ≡ bytes_eq t (codes "true")
    go true e h = set (ap Some ((bytes_eq-Decides t (codes "true")).0 e)) ∙ sym e
    go false e h =
        let other : bytes_eq t (codes "false") ≡ true = rw e at h in
        unset (ap Some ((bytes_eq-Decides t (codes "false")).0 other)) ∙ sym e

-- what is found of a name, by the matches
found_is : (app : App) (arguments : List Text) (m : ArgMatches) → AreMatches app arguments m → (name : Text) → one_text (found_of m) name ≡ one_of name (matches_of app arguments)
found_is app arguments m matches name = one_text-rows (found_of m) name ∙ ap (one_of name) matches.rows

-- So a flag is given where its text is true.
pub flag_of : (app : App) (arguments : List Text) (m : ArgMatches) → AreMatches app arguments m → (name : Text) → HasArgument app (flag_rule name) → (r : Bool) → (one_text (found_of m) name ≡ None → r ≡ false)
    → (one_text (found_of m) name ≡ Some (codes "true") → r ≡ true) → (one_text (found_of m) name ≡ Some (codes "false") → r ≡ false) → r ≡ is_set name app arguments
flag_of app arguments m matches name has r absent set unset =
    let is = found_is app arguments m matches name in
    flag_read (one_of name (matches_of app arguments)) r (value_of app arguments m matches (flag_rule name) has parser.Bool refl refl) (λ e. absent (is ∙ e)) (λ e. set (is ∙ e)) (λ e. unset (is ∙ e))

number_read : (E : Type 0) (G : List ℕ → Result ℕ E → Type 0) (low high : ℕ) (o : Option (List ℕ)) (r : Option ℕ) → ((t : List ℕ) → o ≡ Some t → IsRead (parser.Signed (pos low) (pos high)) t)
    → (o ≡ None → r ≡ None) → ((t : List ℕ) → o ≡ Some t → ReadsOne G t r) → ((u : List ℕ) (x : Result ℕ E) → G u x → ParsesUnsigned 64 10 u x) → high < 2 ^ 64 → IsNumber low high o r
number_read E G low high None r read absent value only fits = absent refl
number_read E G low high (Some t) r read absent value only fits =
    let got = read t refl in
    let number = signed_reads E G 64 low high got.0 r (subst (λ (u : List ℕ). ReadsOne G u r) got.1 (value t refl)) only fits got.2 in
    let parsed = only t (Ok number.0) (subst (ReadsOne G t) number.1 (value t refl)) in
    (number.0, number.1, number.2, number.3, parsed.1)

-- And a number is the one that its digits write.
pub number_of : (E : Type 0) (G : List ℕ → Result ℕ E → Type 0) (app : App) (arguments : List Text) (m : ArgMatches) → AreMatches app arguments m → (name : Text) (low high : ℕ)
    → HasArgument app (number_rule name (pos low) (pos high)) → (r : Option ℕ) → (one_text (found_of m) name ≡ None → r ≡ None) → ((t : List ℕ) → one_text (found_of m) name ≡ Some t → ReadsOne G t r)
    → ((u : List ℕ) (x : Result ℕ E) → G u x → ParsesUnsigned 64 10 u x) → high < 2 ^ 64 → IsNumber low high (one_of name (matches_of app arguments)) r
number_of E G app arguments m matches name low high has r absent value only fits =
    let is = found_is app arguments m matches name in
    number_read E G low high (one_of name (matches_of app arguments)) r (value_of app arguments m matches (number_rule name (pos low) (pos high)) has (parser.Signed (pos low) (pos high)) refl refl)
    (λ e. absent (is ∙ e)) (λ t e. value t (is ∙ e)) only fits
