use Rattle.std.proofs.Common.{◌≡◌, [], ◌∷◌, map, filter, take, drop}
use Rattle.audit_sums.specs.declared.audit_sums.BookSums.{BookSums}
use Rattle.audit_search.specs.Checks.{is_desk, left_in, row_of, first_over}
use Rattle.audit_search.specs.Findings.{vendors_among}
use Rattle.audit_search.proofs.totals.totals_of.Given as goal

abbrev pub invariant-loop-n : goal.invariant-loop-n
invariant-loop-n l = record {
  first : first_over l.n l.shops.list.items (drop l.n l.books) ≡ first_over 0 l.shops.list.items l.books;
  rows : l.totals.vendors.items ≡ map (row_of l.shops.list.items) (vendors_among (take l.n l.books));
  desk : (b : BookSums) → filter is_desk (take l.n l.books) ≡ b ∷ [] → l.totals.desk ≡ left_in l.shops.list.items b;
}
