use Rattle.std.proofs.Common.{ℕ, Bool, cond, Some, Option, ap, ◌∙◌}
use Rattle.wallet_book.specs.PieceIndex.{PieceIndexView, Key, key_of, is_key, place_of}
use Rattle.wallet_book.proofs.IndexLaws.{one_key}
use Rattle.wallet_book.proofs.piece_index.PieceIndex.put.Goals as goal

pub returns-clause-places : goal.returns-clause-places
returns-clause-places c = λ other number.
    let old : Option ℕ = place_of c.args.self.now other number in
    c.in-Ok.ensures.updates.0 (key_of other number)
    ∙ ap (λ (p : PieceIndexView). cond (is_key c.key.result (key_of other number)) (Some c.args.place) (place_of p other number)) c.self.view_is
    ∙ ap (λ (k : Key). cond (is_key k (key_of other number)) (Some c.args.place) old) c.key.ensures
    ∙ ap (λ (b : Bool). cond b (Some c.args.place) old) (one_key c.args.vendor.now other c.args.id number)
