use Rattle.std.proofs.Common.{◌≡◌, true, sym, ap, ◌∙◌}
use Rattle.std.specs.Prelude.{is_some}
use Rattle.audit_search.specs.Markets.{own_names}
use Rattle.audit_search.proofs.StandLaws.{stand_for}
use Rattle.audit_search.proofs.shops.Shops.at_broker.Goals as goal

pub returns-in_ok-new-in-Some-clause-stand : goal.returns-in_ok-new-in-Some-clause-stand
returns-in_ok-new-in-Some-clause-stand c = λ limits b hs is all.
    let books = c.args.books.now in
    let own : own_names books ≡ true = sym c.in_ok-names.ensures.own ∙ ap is_some c.in-Some.is in
    let made = c.in_ok-new-in-Some in
    stand_for limits c.args.broker.now b books hs made.field-0 is all own made.ensures.shops made.ensures.stocked made.ensures.sold
