use Rattle.audit_cmd.proofs.ToldChains.{lines_words, lines_causes, lines_tell, lines_end}
use Rattle.audit_cmd.proofs.telling.tell_chains.Goals as goal

pub returns-clause-words : goal.returns-clause-words
returns-clause-words g c = lines_words c.chains-books.result.1 c.status_of-status.result c.status_of-status.ensures

pub returns-clause-causes : goal.returns-clause-causes
returns-clause-causes g c = lines_causes g.D.Disk.disk c.args.books.items c.chains-books.result.0.items c.chains-books.result.1 c.status_of-status.result c.status_of-status.ensures c.chains-books.ensures.decides c.chains-books.ensures.fault

pub returns-clause-told : goal.returns-clause-told
returns-clause-told g c = lines_tell g.D.Disk.disk c.args.books.items c.chains-books.result.1 c.status_of-status.result c.status_of-status.ensures c.chains-books.ensures.place c.chains-books.ensures.decides c.chains-books.ensures.exact

pub returns-clause-ends : goal.returns-clause-ends
returns-clause-ends g c contents told lined calm = lines_end g.D.Disk.disk c.args.books.items c.chains-books.result.0.items c.chains-books.result.1 c.status_of-status.result c.status_of-status.ensures (c.chains-books.ensures.lined contents told lined) c.chains-books.ensures.place calm c.chains-books.ensures.fault
