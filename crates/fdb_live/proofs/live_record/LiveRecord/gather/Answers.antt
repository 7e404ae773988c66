use Rattle.std.proofs.Common.{◌≡◌, ◌<◌, ℕ, length, Some, slice_get, ap, ◌∙◌, subst, sym, arith}
use Rattle.std.specs.Prelude.{All}
use Rattle.fdb_live.specs.Gathering.{IsSameHolder, IsSeenBy}
use Rattle.fdb_live.specs.Holding.{answers_among}
use Rattle.fdb_live.specs.Seen.{Sight, own_among}
use Rattle.fdb_live.proofs.Owners.{owned_once, seen_trans, some_at}
use Rattle.fdb_live.proofs.Prefixes.{prefix_trans}
use Rattle.fdb_live.proofs.live_record.LiveRecord.gather.Goals as goal

one_list : (g : _) (c : goal.After-others-2-1 g) (k : ℕ) → k < g.S.Service.reporters → slice_get c.teach.new.others k ≡ Some (record c.teach.new.first { reporter = Some k })
one_list g c k below =
    let (token, is) = some_at c.args.others.now k (omega (arith, c.requires.count)) in
    let whose : token.reporter ≡ Some k = c.requires.numbered k token is in
    c.teach.ensures.each k token (ap (λ l. slice_get l k) c.learn_from.ensures.others ∙ is)
    ∙ ap (λ who. Some (record c.teach.new.first { reporter = who })) whose

count : (g : _) (c : goal.After-others-2-1 g) → length c.teach.new.others ≡ g.S.Service.reporters
count g c = c.teach.ensures.count ∙ (ap length c.learn_from.ensures.others ∙ c.requires.count)

pub returns-clause-together : goal.returns-clause-together
returns-clause-together g c = record { count = count g c; one_list = one_list g c }

pub returns-clause-first : goal.returns-clause-first
returns-clause-first g c =
    let same = c.teach.ensures.first in
    let read = c.read-position.ensures in
    let heard = c.learn_from.ensures in
    let holder : IsSameHolder c.args.first.now c.read-position.new.seen = record {
      reporter = read.seen.reporter ∙ heard.reporter;
      seen = record { changes = prefix_trans _ _ _ heard.extends read.seen.extends; answers = prefix_trans _ _ _ heard.answers read.seen.answers };
      own = record {
        positions = ap (λ who. own_among who c.read-position.new.seen.changes) (sym (read.seen.reporter ∙ heard.reporter)) ∙ (read.own ∙ heard.own);
        answers = ap (λ who. answers_among who c.read-position.new.seen.answers) (sym (read.seen.reporter ∙ heard.reporter)) ∙ (read.seen.own_answers ∙ heard.own_answers);
      };
    } in
    subst (IsSameHolder c.args.first.now) (sym same) holder

pub returns-clause-each : goal.returns-clause-each
returns-clause-each g c k token is =
    let was = ap (λ l. slice_get l k) c.learn_from.ensures.others ∙ is in
    let heard = c.learn_from.ensures.each k token is in
    let read = c.read-position.ensures in
    record {
      at = c.teach.ensures.each k token was;
      seen = subst (λ (s : Sight). IsSeenBy s token) (sym c.teach.ensures.first) (seen_trans c.read-position.new.seen c.learn_from.new.first token heard read.seen.extends read.seen.answers);
      own = c.teach.ensures.own k token was;
    }

pub returns-clause-one_owner : goal.returns-clause-one_owner
returns-clause-one_owner g c position some within =
    let log = c.read-position.ensures.read.log in
    let same = c.teach.ensures.first in
    let at_end = c.read-position.ensures.read.position in
    owned_once g.S.Service.reporters c.teach.new.first c.teach.new.others position
    (subst (λ (s : Sight). All (λ r. r.reporter < g.S.Service.reporters) s.changes) (sym same) log.numbered)
    (count g c) (one_list g c) some (omega (arith, at_end, ap (λ (s : Sight). length s.changes) same, within))
