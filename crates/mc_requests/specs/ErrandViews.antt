-- What an errand of the program is, without where its texts lie in memory.
use Rattle.mc_requests.specs.declared.errand.Errand.{Errand}
use Rattle.mc_requests.specs.declared.errand.Errand.TheVariants as errands
use Rattle.mc_requests.specs.Errands as model

abbrev pub errand : Errand → model.Errand
errand (errands.Buy vendor amount) = model.buy vendor.now amount
errand (errands.Credit account) = model.pay_in account.now
errand (errands.Draw account order amount) = model.draw account.now order amount
