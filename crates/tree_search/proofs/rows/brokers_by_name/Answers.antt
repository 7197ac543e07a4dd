use Rattle.std.proofs.Common.{rules}
use Rattle.tree_search.proofs.SortLaws.{sorted_by_name}
use Rattle.tree_search.proofs.rows.brokers_by_name.Goals as goal

pub returns : goal.returns
returns c = record {
  same = c.in_ok-sort_by.ensures.permutation;
  order = sorted_by_name _ c.in_ok-sort_by.ensures.sorted (λ a r q k. search rules);
}
