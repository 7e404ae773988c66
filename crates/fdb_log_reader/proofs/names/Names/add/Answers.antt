use Rattle.std.proofs.Common.{◌≡◌, None, Some, cond, length, map, string_bytes, ap, ◌∙◌, arith}
use Rattle.std.specs.Str.{bytes_eq}
use Rattle.fdb_log_reader.specs.Numbers.{number_in}
use Rattle.fdb_log_reader.specs.private.Codes.{number_at}
use Rattle.fdb_log_reader.proofs.Naming.{distinct_more, numbered_more}
use Rattle.fdb_log_reader.proofs.names.Names.add.Goals as goal

pub invariant_of-self-in-Ok : goal.invariant_of-self-in-Ok
invariant_of-self-in-Ok c =
    let texts = c.args.self.now.texts.items in
    let name = c.args.name.now in
    let old = c.args.self.now.numbers in
    let none : number_in (map string_bytes texts) name ≡ None = grind (arith, c.number.ensures.number, c.in_default.is) in
    let size : c.len-number.result ≡ length texts = omega arith in
    record {
      numbered = λ q bytes. rw c.in_ok-push.ensures.items
          (numbered_more old c.set.new.self texts c.in_ok-text.text name c.args.self.now.numbered none c.in_ok-text.ensures.ok
          (λ p are. c.in-Ok.ensures.set p are ∙ ap (λ n. cond (bytes_eq name p) (Some n) (number_at old p)) size) q bytes);
      distinct = rw c.in_ok-push.ensures.items
          (distinct_more texts c.in_ok-text.text (ap (number_in (map string_bytes texts)) c.in_ok-text.ensures.ok ∙ none) c.args.self.now.distinct);
    }
