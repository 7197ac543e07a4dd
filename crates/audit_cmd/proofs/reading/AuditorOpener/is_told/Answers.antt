use Rattle.mc_records.specs.Chains.{chain}
use Rattle.mc_records.specs.Views.{entry}
use Rattle.book_opening.proofs.TellLaws.{tells_same}
use Rattle.audit_cmd.proofs.reading.AuditorOpener.is_told.Goals as goal

pub returns : goal.returns
returns c = λ o h same. tells_same c.tells.result c.args.before.now (chain h) (entry c.args.r.now) same c.tells.ensures
