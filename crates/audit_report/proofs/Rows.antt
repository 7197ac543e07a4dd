-- The report of a market whose numbers a separate program computed: its lines and its JSON.
use Rattle.std.proofs.Common.{◌≡◌, refl, codes, [], ◌∷◌}
use Rattle.std.specs.Fmt.{digits}
use Rattle.serde_json.proofs.OnLiterals.{serde_json_on_literals}
use Rattle.audit_model.specs.declared.sums.Report.{Report}
use Rattle.audit_model.specs.declared.sums.VendorSums.{VendorSums}
use Rattle.audit_report.specs.Text.{report_text}
use Rattle.audit_report.specs.Json.{report_json}

abbrev news : VendorSums
news = record { name = codes "news.example"; takings = 25; outstanding = 75; lapsed = 0 }

abbrev shop : VendorSums
shop = record { name = codes "shop.example"; takings = 0; outstanding = 0; lapsed = 50 }

abbrev market : Report
market = record {
  broker = codes "bank";
  sums = record { paid_in = 1000; paid_out = 0; accounts = 500; fees = 2; outstanding = 348; lapsed = 0; vendors = news ∷ shop ∷ [] };
}

text : report_text market ≡ codes "broker bank\npaid-in 1000\npaid-out 0\naccounts 500\nfees 2\noutstanding 348\nlapsed 0\nvendor news.example takings 25 outstanding 75 lapsed 0\nvendor shop.example takings 0 outstanding 0 lapsed 50\nbalanced\n"
unfolding digits
text = refl

json : report_json market ≡ codes "{\"accounts\":\"500\",\"broker\":\"bank\",\"fees\":\"2\",\"lapsed\":\"0\",\"outstanding\":\"348\",\"paid_in\":\"1000\",\"paid_out\":\"0\",\"vendors\":[{\"lapsed\":\"0\",\"name\":\"news.example\",\"outstanding\":\"75\",\"takings\":\"25\"},{\"lapsed\":\"50\",\"name\":\"shop.example\",\"outstanding\":\"0\",\"takings\":\"0\"}]}\n"
unfolding digits serde_json_on_literals
json = refl
