use Rattle.std.proofs.Common.{List, [], ◌∷◌, ◌++◌, Option, sym, subst}
use Rattle.audit_sums.specs.declared.audit_sums.BookSums.{BookSums}
use Rattle.audit_cmd.specs.Reading.{IsKeptOf}
use Rattle.audit_cmd.specs.Loops.{KeptOf}
use Rattle.audit_cmd.proofs.KeptLaws.{house_more, wallet_more}
use Rattle.audit_cmd.proofs.books.Kept.keep.Goals as goal

pub returns-in_ok-push-in-Some-clause-kept : goal.returns-in_ok-push-in-Some-clause-kept
returns-in_ok-push-in-Some-clause-kept c books bytes kept is =
    subst (λ (l : List BookSums). KeptOf (books ++ bytes ∷ []) c.args.self.now.wallet l) (sym c.in_ok-push-in-Some.ensures.items)
    (house_more books c.args.self.now.wallet c.args.self.now.houses.items bytes c.in-Some.sums kept (subst (λ (o : Option BookSums). IsKeptOf bytes o) c.in-Some.is is))

pub returns-in-None-clause-kept : goal.returns-in-None-clause-kept
returns-in-None-clause-kept c books bytes kept is = wallet_more books c.args.self.now.wallet c.args.self.now.houses.items bytes kept (subst (λ (o : Option BookSums). IsKeptOf bytes o) c.in-None.is is)
