-- The rows of a tree, by what was kept of the books.
use Rattle.audit_sums.specs.declared.audit_sums.BookSums.{BookSums}
use Rattle.audit_sums.specs.Learned.{name_of, till_of}
use Rattle.audit_search.specs.declared.spent.Left.{Left}
use Rattle.audit_search.specs.Findings.{accounts_of}
use Rattle.relay_core.specs.declared.tree.BrokerSums.{BrokerSums}

-- the sums of a broker of whose pieces this is left
abbrev pub broker_row : BookSums → Left → BrokerSums
broker_row s left = record {
  name = name_of s;
  paid_in = (till_of s).paid_in;
  paid_out = (till_of s).paid_out;
  accounts = accounts_of (till_of s);
  fees = (till_of s).fees;
  outstanding = left.outstanding;
  lapsed = left.lapsed;
}
