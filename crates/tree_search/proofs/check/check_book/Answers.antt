use Rattle.std.proofs.Common.{Ok, Err, refl, subst}
use Rattle.tree_search.specs.Checks.{FindsIn}
use Rattle.tree_search.proofs.CheckLaws.{sound, strange}
use Rattle.tree_search.proofs.check.check_book.Goals as goal

pub returns-in-Err-find_in-clause-checked : goal.returns-in-Err-find_in-clause-checked
returns-in-Err-find_in-clause-checked c = λ limits hs vs h earlier is stand at places known any lic show.
    strange limits hs vs c.args.desks.now c.args.book.now h is stand any earlier c.in-Ok.told.items c.in-Ok-handed_of.handed.parts.items c.in-Err-find_in.fault
    (c.in-Ok.ensures.told limits _ vs h earlier is at places known lic show) c.in-Ok-handed_of.ensures.parts
    (subst (λ l. FindsIn l c.in-Ok.told.items c.args.book.now (Err c.in-Err-find_in.fault)) c.deref.ensures.value
    (subst (λ t. FindsIn c.deref.result.now t c.args.book.now (Err c.in-Err-find_in.fault)) c.deref-2.ensures.value c.in-Err-find_in.ensures))

pub returns-clause-checked : goal.returns-clause-checked
returns-clause-checked c = λ limits hs vs h earlier is stand at places known any lic show.
    sound limits hs vs c.args.desks.now c.args.book.now h is stand any earlier c.in-Ok.told.items c.in-Ok-handed_of.handed.parts.items c.in-Ok-find_in.left c.in-Ok-handed_of.handed.again _
    (c.in-Ok.ensures.told limits _ vs h earlier is at places known lic show) c.in-Ok-handed_of.ensures.parts
    (subst (λ l. FindsIn l c.in-Ok.told.items c.args.book.now (Ok c.in-Ok-find_in.left)) c.deref.ensures.value
    (subst (λ t. FindsIn c.deref.result.now t c.args.book.now (Ok c.in-Ok-find_in.left)) c.deref-2.ensures.value c.in-Ok-find_in.ensures)) c.in-Ok-handed_of.ensures.again refl refl

pub returns-clause-shows : goal.returns-clause-shows
returns-clause-shows c = λ limits vs h earlier is at places known show. c.in-Ok.ensures.shows limits vs h earlier is at places known show
