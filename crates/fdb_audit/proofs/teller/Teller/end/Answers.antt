use Rattle.std.proofs.Common.{◌≡◌, ◌∙◌, ◌&&◌, ◌++◌, Bool, true, false, List, [], ap, append-nil, append_assoc, is_some, map, not, refl, string_bytes, subst, sym, ℕ}
use Rattle.std.proofs.lemmas.Bool.{and_from, and_left, and_right}
use Rattle.std.proofs.lemmas.Result.{on_ok_weaker}
use Rattle.fdb_audit.specs.Following.{Counted, FollowArguments, IsEnd, counted_figures, total_head, verdict_of}
use Rattle.fdb_audit.specs.Figures.{Figure, figures_words}
use Rattle.fdb_audit.specs.Text.{line}
use Rattle.fdb_audit.specs.ToldFaults.{AreTotalsTold, ToldFault}
use Rattle.fdb_audit.specs.private.{figure_of, members_of}
use Rattle.fdb_audit.specs.private.Followed.{HasTotalsIn, counted_in, told_with}
use Rattle.fdb_audit.proofs.teller.Teller.end.Goals.{else-is_none-via-then-is_none+else-not-self, else-is_none-via-else-is_none}
use Rattle.fdb_audit.proofs.teller.Teller.end.Goals as goal

-- an end of another kind
end_of : (quiet other totals wanted json : Bool) (counts : Counted) (asked : FollowArguments) (told : List ToldFault) (end : List ℕ)
    → quiet ≡ other → totals ≡ wanted → IsEnd other wanted json counts asked told end → IsEnd quiet totals json counts asked told end
end_of quiet other totals wanted json counts asked told end same so is =
    subst (λ quiet. IsEnd quiet totals json counts asked told end) (sym same) (subst (λ totals. IsEnd other totals json counts asked told end) (sym so) is)

pub returns-then-not-self-clause-text : goal.returns-then-not-self-clause-text
returns-then-not-self-clause-text c =
    let self = c.args.self.now in
    let counts = counted_in c.args.all.now.counts c.args.all.now.refused in
    let quiet : (not (is_some self.first) && not self.wanted.json) ≡ true =
    and_from (not (is_some self.first)) (not self.wanted.json) (ap not (c.is_none.ensures ∙ ap not c.if-is_none.true)) (ap not c.if-not-self.true) in
    on_ok_weaker c.push_line.result
    (λ text. λ members told has. (
      line (figures_words (verdict_of counts.early) (counted_figures counts)),
      end_of (not (is_some self.first) && not self.wanted.json) true self.wanted.totals self.wanted.totals self.wanted.json counts (told_with c.args.behind self members) told (line (figures_words (verdict_of counts.early) (counted_figures counts))) quiet refl refl,
      text ∙ (ap (λ (words : List ℕ). string_bytes self.text ++ line (figures_words words (map figure_of c.deref.result.now))) c.verdict.ensures
          ∙ ap (λ (figures : List Figure). string_bytes self.text ++ line (figures_words (verdict_of counts.early) figures))
          (ap (map figure_of) c.deref.ensures.value ∙ c.in_ok-figures.ensures)),
    ))
    c.push_line.ensures

pub returns-in_default-clause-text : goal.returns-in_default-clause-text
returns-in_default-clause-text c = λ members told has.
    let self = c.args.self.now in
    let loud : (not (is_some self.first) && not self.wanted.json) ≡ false = elim c.else-is_none.branch [
      | else-is_none-via-then-is_none+else-not-self w ↦ and_right (not (is_some self.first)) (not self.wanted.json) (ap not w.if-not-self.false)
      | else-is_none-via-else-is_none w ↦ and_left (not (is_some self.first)) (not self.wanted.json) (ap not (c.is_none.ensures ∙ ap not w.if-is_none.false))
    ] in
    let unwanted : self.wanted.totals ≡ false = subst (λ counted. HasTotalsIn self.wanted.totals members counted told) (sym c.in_default.ensures.value) has in (
      [],
      end_of (not (is_some self.first) && not self.wanted.json) false self.wanted.totals false self.wanted.json (counted_in c.args.all.now.counts c.args.all.now.refused) (told_with c.args.behind self members) told [] loud unwanted refl,
      sym (append-nil (string_bytes self.text)),
    )

pub returns-clause-text : goal.returns-clause-text
returns-clause-text c = λ members told has.
    let self = c.args.self.now in
    let counts = counted_in c.args.all.now.counts c.args.all.now.refused in
    let loud : (not (is_some self.first) && not self.wanted.json) ≡ false = elim c.else-is_none.branch [
      | else-is_none-via-then-is_none+else-not-self w ↦ and_right (not (is_some self.first)) (not self.wanted.json) (ap not w.if-not-self.false)
      | else-is_none-via-else-is_none w ↦ and_left (not (is_some self.first)) (not self.wanted.json) (ap not (c.is_none.ensures ∙ ap not w.if-is_none.false))
    ] in
    let counted = subst (λ counted. HasTotalsIn self.wanted.totals members counted told) (sym c.in-Some.ensures.value) has in
    let columns : members_of c.deref-2.result.now ≡ members = ap members_of c.deref-2.ensures.value ∙ counted.1.columns in
    let it = c.in_ok-push.ensures members told counted.1 in
    let head = total_head self.wanted.json counts (told_with c.args.behind self members) in
    let json : c.push_head.new.self.wanted.json ≡ self.wanted.json = ap (λ wanted. wanted.json) c.push_head.ensures.wanted in
    let totals : AreTotalsTold self.wanted.json members told it.0 = subst (λ (json : Bool). AreTotalsTold json members told it.0) json it.1 in (
      head ++ it.0,
      end_of (not (is_some self.first) && not self.wanted.json) false self.wanted.totals true self.wanted.json counts (told_with c.args.behind self members) told (head ++ it.0) loud counted.0
          (it.0, totals, refl),
      it.2 ∙ (ap (λ (text : List ℕ). text ++ it.0) (c.in_ok-push_head.ensures.text ∙ ap (λ (members : List (List ℕ)). string_bytes self.text ++ total_head self.wanted.json counts (told_with c.args.behind self members)) columns) ∙ append_assoc (string_bytes self.text) head it.0),
    )
