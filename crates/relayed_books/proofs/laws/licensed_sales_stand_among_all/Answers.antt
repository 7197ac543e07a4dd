use Rattle.relayed_books.proofs.BesideLaws.{beside_is}
use Rattle.relayed_books.proofs.laws.licensed_sales_stand_among_all.Goals as goal

pub returns : goal.returns
returns c = beside_is
