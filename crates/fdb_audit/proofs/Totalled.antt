-- The faults that were told, counted one after another.
use Rattle.std.proofs.Common.{◌≡◌, ◌∙◌, ◌+◌, ◌<◌, if◌then◌else◌, All, Bool, true, IfSome, Option, None, Some, ℕ, zero, suc, List, [], ◌∷◌, ◌++◌, ap, append-nil, arith, append_assoc, false, get_or, is_some, length, length-append, map, nat_lt, option_and_then, refl, slice_get, subst, sym, take}
use Rattle.std.proofs.lemmas.Bool.{both_ways}
use Rattle.std.proofs.lemmas.List.{map_push, take_more}
use Rattle.std.proofs.lemmas.List.Elements.{All-nil, All-push}
use Rattle.std.proofs.lemmas.Option.{slice_get_within}
use Rattle.fdb_lines.specs.declared.fault.Fault.{Fault}
use Rattle.fdb_log_reader.specs.Numbers.{IsMore, number_in}
use Rattle.fdb_audit.specs.Groups.{Owned}
use Rattle.fdb_audit.specs.ToldFaults.{ByText, Texted, ToldFault, by_text, room, text_more, text_numbered, texted, texted_in, texts_from, with_text}
use Rattle.fdb_audit.specs.declared.told_faults.TextGroups.{TextGroups}
use Rattle.fdb_audit.specs.Tallied.{AreNumbered, HasTallied, HasTexts, texts_in}
use Rattle.fdb_audit.proofs.Naming.{text_there}

-- of a list, those up to a place and one more
pub map_more : {X Y : Type 0} (f : X → Y) (before : List Y) (xs : List X) (i : ℕ) (d : X) → i < length xs
    → (before ++ map f (take i xs)) ++ f (get_or xs i d) ∷ [] ≡ before ++ map f (take (i + 1) xs)
map_more {X} {Y} f before xs i d lt =
    append_assoc before (map f (take i xs)) (f (get_or xs i d) ∷ [])
    ∙ ap (λ (l : List Y). before ++ l) (sym (map_push f (take i xs) (get_or xs i d)) ∙ ap (map f) (sym (take_more xs i d lt)))

texts_push : (its : ToldFault → Option (List ℕ)) (it : ByText) (told : List ToldFault) (one : ToldFault)
    → texts_from its it (told ++ one ∷ []) ≡ text_more (texts_from its it told) one.kind (its one)
texts_push its it [] one = refl
texts_push its it (first ∷ told) one = texts_push its (text_more it first.kind (its first)) told one

pub text_push : (its : ToldFault → Option (List ℕ)) (told : List ToldFault) (one : ToldFault) → by_text its (told ++ one ∷ []) ≡ text_more (by_text its told) one.kind (its one)
text_push its told one = texts_push its (record { texts = []; owned = []; more = false }) told one

-- ---- one more by its text

pub texts_are : (new : TextGroups) (its : ToldFault → Option (List ℕ)) (told : List ToldFault) (one : ToldFault) (it : ByText) → text_more (by_text its told) one.kind (its one) ≡ it
    → texts_in new ≡ it.texts → AreNumbered new → HasTallied new.tally it.owned → new.more ≡ it.more → HasTexts its (told ++ one ∷ []) new
texts_are new its told one it is texts numbers tally more =
    let all = text_push its told one ∙ is in
    record {
      texts = texts ∙ ap (λ (it : ByText). it.texts) (sym all);
      numbers = numbers;
      tally = subst (λ (it : ByText). HasTallied new.tally it.owned) (sym all) tally;
      more = more ∙ ap (λ (it : ByText). it.more) (sym all);
    }

-- ---- where there are no more, all are counted, each by its text

none_more : true ≡ false → {X : Type 0} → X
none_more e = absurd (both_ways _ e refl)

-- the text of each that is counted stands among these
abbrev HaveTexts : List (List ℕ) → List Owned → Type 0
HaveTexts texts owned = All (λ (one : Owned). IfSome one.owner (λ n. n < length texts)) owned

front : (texts more : List (List ℕ)) (n : ℕ) → n < length texts → slice_get (texts ++ more) n ≡ slice_get texts n
front [] more n lt = absurd (omega (arith, lt))
front (text ∷ texts) more zero lt = refl
front (text ∷ texts) more (suc n) lt = front texts more n (omega (arith, lt))

abbrev texted_as : Fault → Option (List ℕ) → Texted
texted_as kind text = record { kind = kind; text = text }

same_text : (texts more : List (List ℕ)) (one : Owned) → IfSome one.owner (λ n. n < length texts) → texted_in (texts ++ more) one ≡ texted_in texts one
same_text texts more one within = by one.owner within
  where
    by : (owner : Option ℕ) → IfSome owner (λ n. n < length texts)
        → texted_in (texts ++ more) (record { kind = one.kind; owner = owner }) ≡ texted_in texts (record { kind = one.kind; owner = owner })
    by None within = refl
    by (Some n) within = ap (texted_as one.kind) (front texts more n within)

same_texts : (texts more : List (List ℕ)) (owned : List Owned) → HaveTexts texts owned → map (texted_in (texts ++ more)) owned ≡ map (texted_in texts) owned
same_texts texts more [] have = refl
same_texts texts more (one ∷ owned) have =
    ap (λ (first : Texted). first ∷ map (texted_in (texts ++ more)) owned) (same_text texts more one (have 0 one (omega arith)))
    ∙ ap (λ (rest : List Texted). texted_in texts one ∷ rest) (same_texts texts more owned (λ k d lt. have (suc k) d (omega (arith, lt))))

still_have : (texts more : List (List ℕ)) (owned : List Owned) → HaveTexts texts owned → HaveTexts (texts ++ more) owned
still_have texts more owned have = λ k d lt. by (get_or owned k d).owner (have k d lt)
  where
    by : (owner : Option ℕ) → IfSome owner (λ n. n < length texts) → IfSome owner (λ n. n < length (texts ++ more))
    by None within = within
    by (Some n) within = let size = length-append texts more in omega (arith, size, within)

-- a further text stands behind those that there are
with_more : (texts : List (List ℕ)) (text : List ℕ) → IsMore texts (with_text texts text)
with_more texts text = by (nat_lt (length texts) room) (is_some (number_in texts text))
  where
    by : (b c : Bool) → IsMore texts (if b then (if c then texts else texts ++ text ∷ []) else texts)
    by true true = ([], sym (append-nil texts))
    by true false = (text ∷ [], refl)
    by false c = ([], sym (append-nil texts))

-- one more is counted by this text
abbrev OneMore : ByText → Fault → Option (List ℕ) → ByText → Type 0
OneMore it kind text next =
    HaveTexts next.texts next.owned × (next.more ≡ false → it.more ≡ false)
    × (next.more ≡ false → map (texted_in next.texts) next.owned ≡ map (texted_in it.texts) it.owned ++ texted_as kind text ∷ [])

all_texts : (its : ToldFault → Option (List ℕ)) (it : ByText) (told : List ToldFault) → HaveTexts it.texts it.owned → (texts_from its it told).more ≡ false
    → (it.more ≡ false) × (map (texted_in (texts_from its it told).texts) (texts_from its it told).owned ≡ map (texted_in it.texts) it.owned ++ map (texted its) told)
all_texts its it [] have e = (e, sym (append-nil (map (texted_in it.texts) it.owned)))
all_texts its it (first ∷ told) have e =
    let next = text_more it first.kind (its first) in
    let this = step (its first) in
    let rest = all_texts its next told this.0 e in (
      this.1 rest.0,
      rest.1 ∙ (ap (λ (one : List Texted). one ++ map (texted its) told) (this.2 rest.0)
          ∙ append_assoc (map (texted_in it.texts) it.owned) (texted its first ∷ []) (map (texted its) told)),
    )
  where
    pushed : (texts : List (List ℕ)) (owner : Option ℕ) (text : Option (List ℕ)) → HaveTexts texts it.owned → map (texted_in texts) it.owned ≡ map (texted_in it.texts) it.owned
        → IfSome owner (λ n. n < length texts) → option_and_then (slice_get texts) owner ≡ text
        → OneMore it first.kind text (record { texts = texts; owned = it.owned ++ record { kind = first.kind; owner = owner } ∷ []; more = it.more })
    pushed texts owner text have same within is =
        let one : Owned = record { kind = first.kind; owner = owner } in (
          All-push (λ (one : Owned). IfSome one.owner (λ n. n < length texts)) it.owned one have within,
          λ none. none,
          λ none. map_push (texted_in texts) it.owned one
              ∙ (ap (λ (those : List Texted). those ++ texted_in texts one ∷ []) same
              ∙ ap (λ (text : Option (List ℕ)). map (texted_in it.texts) it.owned ++ record { kind = first.kind; text = text } ∷ []) is),
        )

    numbered : (text : List ℕ) (number : Option ℕ) → number_in (with_text it.texts text) text ≡ number
        → OneMore it first.kind (Some text) (text_numbered it (with_text it.texts text) first.kind number)
    numbered text None is =
        let (more, with) = with_more it.texts text in (
          subst (λ (texts : List (List ℕ)). HaveTexts texts it.owned) (sym with) (still_have it.texts more it.owned have),
          λ none. none_more none,
          λ none. none_more none,
        )
    numbered text (Some number) is =
        let (more, with) = with_more it.texts text in
        let there = text_there (with_text it.texts text) text number is in
        pushed (with_text it.texts text) (Some number) (Some text)
        (subst (λ (texts : List (List ℕ)). HaveTexts texts it.owned) (sym with) (still_have it.texts more it.owned have))
        (ap (λ (texts : List (List ℕ)). map (texted_in texts) it.owned) with ∙ same_texts it.texts more it.owned have)
        (slice_get_within (with_text it.texts text) number text there) there

    step : (text : Option (List ℕ)) → OneMore it first.kind text (text_more it first.kind text)
    step None = pushed it.texts None None have refl tt refl
    step (Some text) = numbered text (number_in (with_text it.texts text) text) refl

pub all_by_text : (its : ToldFault → Option (List ℕ)) (told : List ToldFault) → (by_text its told).more ≡ false
    → map (texted_in (by_text its told).texts) (by_text its told).owned ≡ map (texted its) told
all_by_text its told e =
    (all_texts its (record { texts = []; owned = []; more = false }) told (All-nil (λ (one : Owned). IfSome one.owner (λ n. n < 0))) e).1
