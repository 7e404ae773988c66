use Rattle.std.proofs.Common.{rules, refl}
use Rattle.fdb_client.proofs.Own.{own_answers_same, own_same}
use Rattle.fdb_history.specs.declared.log.CallAnswer.TheVariants.{Version}
use Rattle.fdb_client.proofs.reply.take_reply.Goals as goal

pub returns-clause-logged : goal.returns-clause-logged
returns-clause-logged g c _ number begun reporter come_to =
    record {
      answer = Version c.args.reply.rec c.args.reply.limits c.if-reply.locked_out;
      logged = record {
        number = refl;
        begun = refl;
        calls = cc (c.add.ensures.calls, c.requires.asked, c.args.reply.at, c.hear.ensures.changes);
        come_to = come_to;
        extends = c.hear.ensures.extends;
        stays = λ is. absurd (cc is);
        own = λ _. own_same number c.args.token.now c.hear.new.token reporter c.hear.ensures.number c.hear.ensures.own_changes;
        changed = λ is. absurd (cc is);
        answers = c.hear.ensures.answers;
        hears = λ is. absurd (cc is);
        not_drawn = λ _. own_answers_same number c.args.token.now c.hear.new.token reporter c.hear.ensures.number c.hear.ensures.own;
      };
      answered = search rules;
      returned = search rules;
    }
