-- The lines of a tree of books.
use Rattle.std.specs.Prelude.{ℕ, List, ◌++◌, flat_map, codes, decimal}
use Rattle.audit_report.specs.Text.{vendor_lines}
use Rattle.relay_core.specs.declared.tree.BrokerSums.{BrokerSums}
use Rattle.relay_core.specs.declared.tree.Tree.{Tree}

-- the sums of a broker
abbrev pub broker_line : BrokerSums → List ℕ
broker_line b =
    codes "broker " ++ b.name ++ codes " paid-in " ++ decimal b.paid_in ++ codes " paid-out " ++ decimal b.paid_out ++ codes " accounts " ++ decimal b.accounts
    ++ codes " fees " ++ decimal b.fees ++ codes " outstanding " ++ decimal b.outstanding ++ codes " lapsed " ++ decimal b.lapsed ++ codes "\n"

abbrev pub broker_lines : List BrokerSums → List ℕ
broker_lines brokers = flat_map broker_line brokers

-- the brokers, the vendors, what was sold on, and that the books are balanced
abbrev pub tree_text : Tree → List ℕ
tree_text t = broker_lines t.brokers ++ vendor_lines t.vendors ++ codes "relayed " ++ decimal t.relayed ++ codes "\n" ++ codes "balanced\n"
