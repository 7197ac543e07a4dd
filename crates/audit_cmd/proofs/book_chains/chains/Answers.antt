use Rattle.audit_cmd.proofs.ChainLaws.{lined_halt}
use Rattle.audit_cmd.proofs.book_chains.chains.Goals as goal

pub returns-in-Err-clause-lined : goal.returns-in-Err-clause-lined
returns-in-Err-clause-lined g c contents told lined = lined_halt g.D.Disk.disk c.args.books.items contents told c.in-Err.fault c.in-Err.ensures.decides lined
