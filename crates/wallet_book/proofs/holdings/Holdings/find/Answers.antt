use Rattle.std.proofs.Common.{◌≡◌, ℕ, List, Option, subst, sym, ap, ◌∙◌}
use Rattle.scrip_form.specs.Scrip.{Scrip}
use Rattle.wallet_book.specs.PieceIndex.{place_of}
use Rattle.wallet_book.specs.Holdings.{HoldingsView, is_of, LeadsTo, FindsPiece}
use Rattle.wallet_book.proofs.HoldingLaws.{read_back, found}
use Rattle.wallet_book.proofs.holdings.Holdings.find.Goals as goal

pub returns : goal.returns
returns c =
    let text = c.args.scrip.now.text in
    let piece : Scrip = c.args.scrip.now.piece in
    let is = read_back text piece c.args.scrip.now.cert c.text-text.ensures.spelled in
    let o : Option ℕ = c.get.result in
    let index = c.self.inside.index in
    let xs = c.self.inside.list.items in
    let vendor : c.vendor.result ≡ piece.vendor = c.vendor.ensures.vendor ∙ ap (λ (p : Scrip). p.vendor) c.piece-piece.ensures in
    let id : c.id.result ≡ piece.id = c.id.ensures.id ∙ ap (λ (p : Scrip). p.id) c.piece-piece.ensures in
    let at : o ≡ place_of index piece.vendor piece.id =
    c.get.ensures ∙ ap (λ (v : List ℕ). place_of index v c.id.result) vendor ∙ ap (λ (i : ℕ). place_of index piece.vendor i) id in
    let leads : LeadsTo (is_of piece.vendor piece.id) xs o = subst (LeadsTo (is_of piece.vendor piece.id) xs) (sym at) (c.self.invariant.0 piece.vendor piece.id) in
    let P : HoldingsView → Type 0 = λ v. FindsPiece v.list text o in
    subst P c.self.view_is (found xs text piece o c.self.invariant.1 is leads)
