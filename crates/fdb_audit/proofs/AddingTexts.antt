-- A fault that is counted by the texts of one member after another.
use Rattle.std.proofs.Common.{◌≡◌, ◌∙◌, ◌+◌, ◌<◌, ◌≤◌, ℕ, Bool, List, [], ◌∷◌, ◌++◌, ap, arith, inl, inr, length, map, set, slice_index_or, string_bytes, subst, sym}
use Rattle.std.proofs.lemmas.List.{get_or-set_other, get_or-set_same, length-set, map-set, set-get_or}
use Rattle.std.proofs.lemmas.Bool.{cases_lt}
use Rattle.fdb_audit.specs.Groups.{AreMost, by_member, member_name}
use Rattle.fdb_audit.specs.Text.{Beside}
use Rattle.fdb_audit.specs.ToldFaults.{ToldFault, by_text, text_of}
use Rattle.fdb_audit.specs.declared.told_faults.TextGroups.{TextGroups}
use Rattle.fdb_audit.specs.Tallied.{HasTexts, HasTextsIn, texts_in}

abbrev names_of : List TextGroups → List (List ℕ)
names_of texts = map (λ (groups : TextGroups). string_bytes groups.member) texts

-- it is counted by those in front of a place, and not by the others
pub record IsAdding (members : List (List ℕ)) (told : List ToldFault) (one : ToldFault) (place : ℕ) (texts : List TextGroups) : Type 0 where
  pub names : names_of texts ≡ members
  pub done : (member : ℕ) (other : TextGroups) → member < place → member < length texts → HasTexts (text_of member) (told ++ one ∷ []) (slice_index_or texts member other)
  pub left : (member : ℕ) (other : TextGroups) → place ≤ member → member < length texts → HasTexts (text_of member) told (slice_index_or texts member other)

pub adding_first : (members : List (List ℕ)) (told : List ToldFault) (one : ToldFault) (texts : List TextGroups) → HasTextsIn members told texts → IsAdding members told one 0 texts
adding_first members told one texts has = record {
  names = has.members_are;
  done = λ member other few within. absurd (omega (arith, few));
  left = λ member other few within. has.each member other within;
}

pub adding_all : (members : List (List ℕ)) (told : List ToldFault) (one : ToldFault) (place : ℕ) (texts : List TextGroups) → IsAdding members told one place texts
    → length texts ≤ place → HasTextsIn members (told ++ one ∷ []) texts
adding_all members told one place texts is all = record {
  members_are = is.names;
  each = λ member other within. is.done member other (omega (arith, all, within)) within;
}

pub adding_more : (members : List (List ℕ)) (told : List ToldFault) (one : ToldFault) (place : ℕ) (texts : List TextGroups) (d new : TextGroups) → IsAdding members told one place texts
    → place < length texts → new.member ≡ (slice_index_or texts place d).member
    → (HasTexts (text_of place) told (slice_index_or texts place d) → HasTexts (text_of place) (told ++ one ∷ []) new) → IsAdding members told one (place + 1) (set texts place new)
adding_more members told one place texts d new is within same more = record {
  names = map-set (λ (groups : TextGroups). string_bytes groups.member) texts place new
      ∙ (ap (set (names_of texts) place) (ap string_bytes same)
      ∙ (sym (map-set (λ (groups : TextGroups). string_bytes groups.member) texts place (slice_index_or texts place d)) ∙ (ap names_of (set-get_or texts place d) ∙ is.names)));
  done = λ member other few lt. elim (cases_lt member place) [
    | inl before ↦
        subst (HasTexts (text_of member) (told ++ one ∷ [])) (sym (get_or-set_other texts place member new other (λ same. absurd (omega (arith, same, before)))))
        (is.done member other before (omega (arith, lt, length-set texts place new)))
    | inr after ↦
        let at : member ≡ place = omega (arith, few, after) in
        let here = subst (HasTexts (text_of place) (told ++ one ∷ [])) (sym (get_or-set_same texts place new other within)) (more (is.left place d (omega arith) within)) in
        subst (λ m. HasTexts (text_of m) (told ++ one ∷ []) (slice_index_or (set texts place new) m other)) (sym at) here
  ];
  left = λ member other few lt.
      subst (HasTexts (text_of member) told) (sym (get_or-set_other texts place member new other (λ same. absurd (omega (arith, same, few)))))
      (is.left member other (omega (arith, few)) (omega (arith, lt, length-set texts place new)));
}

-- ---- what is printed of them

abbrev beside : List ℕ → List (List ℕ) → Beside
beside member texts = record { member = member; texts = texts; numbers = [] }

-- the groups with most that are printed of a member are those of its texts
pub most_of_texts : (json : Bool) (told : List ToldFault) (place : ℕ) (groups : TextGroups) (member : List ℕ) (it : Beside) (text : List ℕ) → HasTexts (text_of place) told groups
    → string_bytes groups.member ≡ member → it ≡ beside (string_bytes groups.member) (texts_in groups)
    → AreMost json groups.more (by_member it).name (by_text (text_of place) told).owned text
    → AreMost json (by_text (text_of place) told).more (λ json. member_name json (beside member (by_text (text_of place) told).texts)) (by_text (text_of place) told).owned text
most_of_texts json told place groups member it text has named is most =
    let owned = (by_text (text_of place) told).owned in
    subst (λ more. AreMost json more (λ json. member_name json (beside member (by_text (text_of place) told).texts)) owned text) has.more
    (subst (λ it. AreMost json groups.more (by_member it).name owned text)
    (is ∙ (ap (λ member. beside member (texts_in groups)) named ∙ ap (beside member) has.texts)) most)
