use Rattle.mc_records.specs.Chains.{chain}
use Rattle.mc_records.specs.Views.{entry}
use Rattle.book_opening.proofs.TellLaws.{tells_same}
use Rattle.house_opening.proofs.opening.HouseOpenerOpener.is_told.Goals as goal

pub returns : goal.returns
returns g c o h same = tells_same c.tells.result c.args.before.now (chain h) (entry c.args.r.now) same c.tells.ensures
