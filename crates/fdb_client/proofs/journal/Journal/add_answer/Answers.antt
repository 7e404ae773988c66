use Rattle.std.proofs.Common.{◌∙◌, ap, refl, sym, ◌+◌, length}
use Rattle.std.specs.Option.{option_or}
use Rattle.fdb_client.proofs.Calls.{count_of_added, in_range_of_added, issued_of_added}
use Rattle.fdb_client.proofs.Kept.{among_one}
use Rattle.fdb_client.specs.private.Versions.{version_of}
use Rattle.fdb_history.specs.Log.{fresh_answers}
use Rattle.fdb_history.specs.Strays.{issued_under}
use Rattle.fdb_history.specs.declared.log.Call.{Call}
use Rattle.fdb_history.specs.declared.log.CallAnswer.TheVariants.{Answered}
use Rattle.fdb_client.proofs.journal.Journal.add_answer.Goals as goal

pub invariant_of-self-clause-found : goal.invariant_of-self-clause-found
invariant_of-self-clause-found c num =
    let old = c.args.self.now.calls.items in
    let call : Call = record { input = c.args.input; asked = c.args.position; position = c.args.position; answer = Answered c.args.issued } in
    c.keep.ensures num
    ∙ (ap (λ before. option_or before (version_of c.args.issued num)) (c.args.self.now.found num)
    ∙ (ap (option_or (issued_under old num)) (sym (among_one c.args.issued num))
    ∙ (sym (issued_of_added old call num)
    ∙ ap (λ calls. issued_under calls num) (sym c.push_reserved.ensures.items))))

pub invariant_of-self-clause-counted : goal.invariant_of-self-clause-counted
invariant_of-self-clause-counted c =
    let old = c.args.self.now.calls.items in
    let call : Call = record { input = c.args.input; asked = c.args.position; position = c.args.position; answer = Answered c.args.issued } in
    ap (λ drawn. drawn + c.drawn_by.result) c.args.self.now.counted
    ∙ (ap (λ more. length (fresh_answers old) + more) c.drawn_by.ensures.counted
    ∙ (sym (count_of_added old call)
    ∙ ap (λ calls. length (fresh_answers calls)) (sym c.push_reserved.ensures.items)))

pub invariant_of-self-clause-in_range : goal.invariant_of-self-clause-in_range
invariant_of-self-clause-in_range c num version is =
    let call : Call = record { input = c.args.input; asked = c.args.position; position = c.args.position; answer = Answered c.args.issued } in
    let under = ap (λ calls. issued_under calls num) c.push_reserved.ensures.items in
    in_range_of_added c.args.self.now.calls.items call c.args.issued refl c.requires.in_range c.args.self.now.in_range num version (sym under ∙ is)
