use Rattle.std.proofs.Common.{◌<◌}
use Rattle.std.specs.Prelude.{length}
use Rattle.mc_requests.specs.declared.limits.TheConstants.Limits.{FULL}
use Rattle.relay_core.specs.declared.tree.Tree.{Tree}
use Rattle.tree_search.specs.Audit.{TreeAudited}
use Rattle.audit_cmd.specs.Reading.{audit_causes}
use Rattle.audit_cmd.specs.Books.{IsLawfulBook}
use Rattle.audit_cmd.proofs.Deciding.{all_decide, told_so}
use Rattle.audit_cmd.proofs.LawfulLaws.{halt_found, fault_of_lawful, none_faulty}
use Rattle.audit_cmd.proofs.tree_auditing.audit_tree.Goals as goal

pub returns-in-Ok-clause-decides : goal.returns-in-Ok-clause-decides
returns-in-Ok-clause-decides g c = all_decide g.D.Disk.disk audit_causes IsLawfulBook c.args.books.items c.find.result c.find.ensures.all c.in-Ok.ensures.decides

pub returns-in-Ok-clause-exact : goal.returns-in-Ok-clause-exact
returns-in-Ok-clause-exact g c contents told = c.find.ensures.found contents (c.in-Ok.ensures.exact contents told)

pub returns-in-Err-clause-exact : goal.returns-in-Err-clause-exact
returns-in-Err-clause-exact g c contents told = halt_found (TreeAudited FULL) contents (λ book. book < length c.args.books.items) c.in-Err.fault c.in-Err.ensures.place

pub returns-in-Err-clause-place : goal.returns-in-Err-clause-place
returns-in-Err-clause-place g c = told_so Tree (length c.args.books.items) c.in-Err.fault c.in-Err.ensures.place

pub returns-in-Ok-clause-lawful : goal.returns-in-Ok-clause-lawful
returns-in-Ok-clause-lawful g c contents told lawful =
    none_faulty g.D.Disk.disk c.args.books.items contents told c.find.result (all_decide g.D.Disk.disk audit_causes IsLawfulBook c.args.books.items c.find.result c.find.ensures.all c.in-Ok.ensures.decides) lawful

pub returns-in-Err-clause-lawful : goal.returns-in-Err-clause-lawful
returns-in-Err-clause-lawful g c contents told lawful = fault_of_lawful g.D.Disk.disk c.args.books.items contents told Tree c.in-Err.fault c.in-Err.ensures.decides lawful
