use Rattle.std.proofs.Common.{sym, subst}
use Rattle.fdb_history.specs.Issuing.{Chain}
use Rattle.fdb_live.specs.Gathering.{HasCaughtUp}
use Rattle.fdb_live.proofs.master.Master.close.Goals as goal

pub returns : goal.returns
returns g c =
    let drawer : Chain = c.look_each.new.drawer in
    let after = c.count.ensures in
    record {
      closed = (
        drawer.answers,
        record {
          one_chain = after.one_chain;
          asked = after.asked;
          each = λ k token is. subst (λ (chain : Chain). HasCaughtUp (record token { answers = chain.answers }) token k c.look_each.new.tokens) (sym c.look_each.ensures.chain) (c.look_each.ensures.each k token is);
        },
        sym after.count,
      );
      count = c.look_each.ensures.count;
    }
