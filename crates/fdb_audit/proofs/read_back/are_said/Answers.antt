use Rattle.std.proofs.Common.{◌≡◌, ◌∙◌, [], ◌∷◌, ap, arith, length, refl, subst, sym}
use Rattle.std.proofs.lemmas.Iterator.{empty_from_Zip}
use Rattle.fdb_log_reader.specs.LineReader.{line_names}
use Rattle.fdb_audit.proofs.NamedLines.{SayTheSame, say_the_same}
use Rattle.fdb_audit.proofs.read_back.are_said.Goals as goal

pub loop-one-init : goal.loop-one-init
loop-one-init c =
    let it = c.into_iter-one-iterator.result in
    let own = line_names c.args.reader.now in
    let theirs = line_names c.args.theirs.now in
    let first : it.a.rest.now ≡ c.args.said.now = cc in
    let second : it.b.rest.now ≡ c.args.kept.now = cc in
    record {
      as_many = ap length first ∙ (c.if-said-kept.false ∙ ap length (sym second));
      all = λ rest. subst (λ lines. SayTheSame own lines theirs c.args.kept.now) first (subst (λ kept. SayTheSame own it.a.rest.now theirs kept) second rest);
    }

pub loop-one-preserved : goal.loop-one-preserved
loop-one-preserved c =
    let was = c.loop-one.one-iterator in
    let now = c.next.new.self in
    let own = line_names c.args.reader.now in
    let theirs = line_names c.args.theirs.now in
    let (first, second) = c.in-Some.ensures.steps in
    record {
      as_many = omega (arith, c.loop-one.invariant.as_many, ap length first, ap length second);
      all = λ rest. c.loop-one.invariant.all
          (subst (λ lines. SayTheSame own lines theirs was.b.rest.now) (sym first)
          (subst (λ kept. SayTheSame own (c.in-Some.one.now ∷ now.a.rest.now) theirs kept) (sym second)
          (say_the_same own theirs c.in-Some.one.now c.in-Some.other.now now.a.rest.now now.b.rest.now (c.is_said.ensures c.if-not-is_said.false) rest)));
    }

pub returns-clause-said : goal.returns-clause-said
returns-clause-said c = λ _.
    let it = c.loop-one.one-iterator in
    let own = line_names c.args.reader.now in
    let theirs = line_names c.args.theirs.now in
    let (first, second) = empty_from_Zip it c.next.new.self c.next.result c.in-None.is c.next.ensures.steps c.loop-one.invariant.as_many in
    c.loop-one.invariant.all (subst (λ lines. SayTheSame own lines theirs it.b.rest.now) (sym first) (subst (λ kept. SayTheSame own [] theirs kept) (sym second) refl))
