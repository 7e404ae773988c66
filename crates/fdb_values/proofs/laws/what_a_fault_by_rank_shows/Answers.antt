use Rattle.fdb_values.proofs.Crossing.{not_above_shows, order_shows, wrong_shows}
use Rattle.fdb_values.proofs.laws.what_a_fault_by_rank_shows.Goals as goal

pub returns : goal.returns
returns c = record {
  order = λ margin lines rank k by o lk. order_shows margin lines rank by o k lk;
  not_above = λ margin lines rank k by o lk. not_above_shows margin lines rank by o k lk;
  wrong = λ margin lines rank k by o lk. wrong_shows margin lines rank by o k lk;
}
