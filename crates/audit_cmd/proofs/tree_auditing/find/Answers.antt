use Rattle.std.proofs.Common.{◌<◌, List, Err, sym, subst, arith}
use Rattle.std.specs.Prelude.{IfSome, length}
use Rattle.mc_requests.specs.declared.limits.TheConstants.Limits.{FULL}
use Rattle.audit_sums.specs.declared.audit_sums.BookSums.{BookSums}
use Rattle.audit_search.specs.Audit.{AreLearned, NamesBook}
use Rattle.relay_core.specs.declared.tree.Tree.{Tree}
use Rattle.tree_search.specs.Audit.{TreeAudited}
use Rattle.audit_cmd.specs.declared.fault.AuditFault.{AuditFault}
use Rattle.audit_cmd.specs.Books.{FindsTree, CountsBy, IsOfAll, told_book}
use Rattle.audit_cmd.proofs.FoundLaws.{fault_found, fault_calm, fault_of_all, fault_place, kept_audited}
use Rattle.audit_cmd.proofs.tree_auditing.find.Goals as goal

pub returns-in-Err-clause-found : goal.returns-in-Err-clause-found
returns-in-Err-clause-found c contents kept =
    subst (λ (f : AuditFault). FindsTree contents (Err f)) (sym c.of_books.ensures)
    (fault_found (TreeAudited FULL) contents c.in-Err.fault (kept_audited (TreeAudited FULL) contents c.args.kept.now.wallet c.args.kept.now.houses.items (Err c.in-Err.fault) c.if-kept.false kept
    (λ hs learned. c.in-Err.ensures.audited FULL hs (omega arith) (subst (λ (l : List BookSums). AreLearned FULL l hs) (sym c.deref.ensures.value) learned))))

pub returns-in-Err-clause-calm : goal.returns-in-Err-clause-calm
returns-in-Err-clause-calm c before = subst (λ (f : AuditFault). CountsBy {A = Tree} (Err f) before before) (sym c.of_books.ensures) (fault_calm Tree c.in-Err.fault before)

pub returns-in-Err-clause-all : goal.returns-in-Err-clause-all
returns-in-Err-clause-all c = subst (λ (f : AuditFault). IsOfAll {A = Tree} (Err f)) (sym c.of_books.ensures) (fault_of_all Tree c.in-Err.fault)

pub returns-in-Err-clause-place : goal.returns-in-Err-clause-place
returns-in-Err-clause-place c =
    let houses = c.args.kept.now.houses.items in
    subst (λ (f : AuditFault). IfSome (told_book {A = Tree} (Err f)) (λ book. book < length houses)) (sym c.of_books.ensures)
    (fault_place Tree houses c.in-Err.fault (subst (λ (l : List BookSums). NamesBook {R = Tree} l (Err c.in-Err.fault)) c.deref.ensures.value c.in-Err.ensures.named))
