-- The lines of the worked row of several brokers by computation, with values of another program.
use Rattle.std.proofs.Common.{◌≡◌, [], ◌∷◌, refl}
use Rattle.std.specs.Prelude.{codes}
use Rattle.std.specs.Fmt.{digits}
use Rattle.relay_core.specs.declared.tree.Tree.{Tree}
use Rattle.relay_core.specs.Text.{tree_text}

abbrev row : Tree
row = record {
  brokers = record { name = codes "bank"; paid_in = 500; paid_out = 0; accounts = 299; fees = 1; outstanding = 100; lapsed = 0 }
      ∷ record { name = codes "kiosk"; paid_in = 300; paid_out = 0; accounts = 150; fees = 2; outstanding = 48; lapsed = 0 }
      ∷ [];
  vendors = record { name = codes "news.example"; takings = 25; outstanding = 75; lapsed = 0 } ∷ [];
  relayed = 100;
}

row_text : tree_text row ≡ codes "broker bank paid-in 500 paid-out 0 accounts 299 fees 1 outstanding 100 lapsed 0\nbroker kiosk paid-in 300 paid-out 0 accounts 150 fees 2 outstanding 48 lapsed 0\nvendor news.example takings 25 outstanding 75 lapsed 0\nrelayed 100\nbalanced\n"
unfolding digits
row_text = refl
