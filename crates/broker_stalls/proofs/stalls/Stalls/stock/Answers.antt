use Rattle.std.proofs.Common.{List, ℕ, sym, ap, ◌∙◌}
use Rattle.mc_records.specs.PieceViews.{pieces_of}
use Rattle.mc_records.specs.Entry.{Stock}
use Rattle.ledger_model.specs.Stock.{are_stock}
use Rattle.broker_stalls.proofs.ShownLaws.{stock_is}
use Rattle.broker_stalls.proofs.EntryLaws.{stock_shown}
use Rattle.broker_stalls.proofs.VendorLaws.{at_place, shown_at, learned_at, only_stock, name_is, on_true}
use Rattle.broker_stalls.proofs.stalls.Stalls.stock.Goals as goal

pub returns-clause-exact : goal.returns-clause-exact
returns-clause-exact c h stands =
    let at = at_place c.get.ensures c.unwrap-place.ensures c.index_mut.ensures.value c.self.invariant in
    let x = c.index_mut.result.now in
    let name = name_is _ _ c.args.vendor.now c.new.ensures.value c.unwrap-name.ensures in
    let is = c.learn_stock.ensures.learned ∙ ap (λ (n : List ℕ). are_stock n x.ids.ids (pieces_of c.args.pieces.now)) name
    ∙ stock_is h c.args.vendor.now x (pieces_of c.args.pieces.now) (shown_at c.self.view_is at h stands) in
    (λ ok. sym is ∙ ok, λ may. is ∙ may)

pub returns-clause-learned : goal.returns-clause-learned
returns-clause-learned c h m stands ok =
    let at = at_place c.get.ensures c.unwrap-place.ensures c.index_mut.ensures.value c.self.invariant in
    let x = c.index_mut.result.now in
    let y = c.learn_stock.new.self in
    learned_at c.self.view_is at y h (Stock m c.args.vendor.now (pieces_of c.args.pieces.now)) (only_stock m c.args.vendor.now (pieces_of c.args.pieces.now)) stands
    (λ shows. stock_shown h c.args.vendor.now x y m (pieces_of c.args.pieces.now) ((returns-clause-exact c h stands).0 ok)
    c.learn_stock.ensures.licence (on_true _ ok c.learn_stock.ensures.ids) (on_true _ ok c.learn_stock.ensures.pieces) (on_true _ ok c.learn_stock.ensures.known) shows)
