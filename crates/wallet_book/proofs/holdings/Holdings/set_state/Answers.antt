use Rattle.std.proofs.Common.{◌≡◌, ◌<◌, List, length, ap, sym, subst, ◌∙◌, Some, set}
use Rattle.std.proofs.lemmas.Option.{get_or_from_slice_get}
use Rattle.std.specs.Prelude.{slice_get}
use Rattle.wallet_book.specs.declared.holding.Holding.{Holding}
use Rattle.wallet_book.specs.Holdings.{HoldingsView}
use Rattle.wallet_book.proofs.HoldingLaws.{read_at, in_state, indexed_set, spelled_set}
use Rattle.wallet_book.proofs.holdings.Holdings.set_state.Goals as goal

pub invariant_of-self : goal.invariant_of-self
invariant_of-self c =
    let xs : List Holding = c.self.inside.list.items in
    let x : Holding = c.index_mut.result.now in
    let within : HoldingsView → Type 0 = λ v. c.args.place < length v.list in
    let lt : c.args.place < length xs = subst within (sym c.self.view_is) c.requires in
    let here : slice_get xs c.args.place ≡ Some x = read_at xs c.args.place x c.index_mut.ensures.value lt in
    (indexed_set c.self.inside.index xs c.args.place x c.args.state here c.self.invariant.0, spelled_set xs c.args.place x c.args.state here c.self.invariant.1)

pub returns-clause-list : goal.returns-clause-list
returns-clause-list c = λ x here.
    let xs : List Holding = c.self.inside.list.items in
    let y : Holding = c.index_mut.result.now in
    let same_list : xs ≡ c.args.self.now.list = ap (λ (v : HoldingsView). v.list) c.self.view_is in
    let there : slice_get xs c.args.place ≡ Some x = ap (λ (zs : List Holding). slice_get zs c.args.place) same_list ∙ here in
    let same : y ≡ x = c.index_mut.ensures.value ∙ get_or_from_slice_get xs c.args.place x y there in
    ap (λ (h : Holding). set xs c.args.place (in_state c.args.state h)) same ∙ ap (λ (zs : List Holding). set zs c.args.place (in_state c.args.state x)) same_list
