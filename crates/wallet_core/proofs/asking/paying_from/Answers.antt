use Rattle.std.proofs.Common.{◌≡◌, List, Some, None, length, refl, sym, ap, ◌∙◌, arith}
use Rattle.std.proofs.lemmas.Option.{slice_get_read, slice_get_past}
use Rattle.std.specs.Prelude.{slice_get}
use Rattle.wallet_book.specs.declared.holding.Holding.{Holding}
use Rattle.wallet_core.proofs.AskLaws.{pays_chosen, chosen_is_there}
use Rattle.wallet_core.proofs.asking.paying_from.Goals as goal

pub returns-in-Some-clause-exact : goal.returns-in-Some-clause-exact
returns-in-Some-clause-exact c = λ h limit is chooses.
    let b = c.args.book.now in
    let here : slice_get b.holdings c.args.place ≡ Some c.in-Some.holding.now = ap (λ (xs : List Holding). slice_get xs c.args.place) (sym c.holdings.ensures.list) ∙ slice_get_read c.holdings.result.now (length c.holdings.result.now) c.args.place c.in-Some.holding.now refl (omega (arith, c.in-Some.ensures.lookup.3.0)) c.in-Some.ensures.lookup.1 in
    pays_chosen b h c.args.ask limit c.args.place c.args.peer.now c.args.target.now c.in-Some.holding.now c.with_piece.result is chooses here c.with_piece.ensures.request

pub returns-in-None-clause-exact : goal.returns-in-None-clause-exact
returns-in-None-clause-exact c = λ h limit is chooses.
    let b = c.args.book.now in
    let none : slice_get b.holdings c.args.place ≡ None = ap (λ (xs : List Holding). slice_get xs c.args.place) (sym c.holdings.ensures.list) ∙ slice_get_past c.holdings.result.now c.args.place (omega (arith, c.in-None.ensures.lookup.3)) in
    absurd (chosen_is_there b h limit c.args.place c.args.peer.now is chooses none)
