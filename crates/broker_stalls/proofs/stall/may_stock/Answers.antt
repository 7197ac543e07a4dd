use Rattle.std.proofs.Common.{◌≡◌, ℕ, ◌&&◌, List, [], ◌∷◌, ◌++◌, length, take, sym, ap, refl, ◌∙◌, arith}
use Rattle.std.proofs.lemmas.List.{take_more_set}
use Rattle.mc_records.specs.PieceViews.{pieces_of, piece_of, pieces_left}
use Rattle.ledger_model.specs.Stock.{are_stock}
use Rattle.broker_stalls.proofs.ListedLaws.{stock_alike, moved}
use Rattle.broker_stalls.proofs.StepLaws.{stock_first}
use Rattle.broker_stalls.proofs.stall.may_stock.Goals as goal

pub loop-rest-init : goal.loop-rest-init
loop-rest-init c = record { few = omega (arith, c.requires); same = refl }

pub returns-then-not-is_new_stock : goal.returns-then-not-is_new_stock
returns-then-not-is_new_stock c =
    let step = stock_first c.split_first-first.ensures c.piece_of-piece.ensures c.args.vendor.now c.args.ids.now (take c.loop-rest.count c.loop-rest.seen) in
    sym (c.loop-rest.invariant.same ∙ step ∙ ap (λ b. b && are_stock c.args.vendor.now (c.piece_of-piece.result.id ∷ (take c.loop-rest.count c.loop-rest.seen ++ c.args.ids.now.ids)) (pieces_left c.split_first-first.result.1))
    (sym c.is_new_stock.ensures ∙ c.if-not-is_new_stock.true))

pub returns-in-None : goal.returns-in-None
returns-in-None c =
    let step = stock_first c.split_first-first.ensures c.piece_of-piece.ensures c.args.vendor.now c.args.ids.now (take c.loop-rest.count c.loop-rest.seen) in
    let known = c.piece_of-piece.result.id ∷ (take c.loop-rest.count c.loop-rest.seen ++ c.args.ids.now.ids) in
    sym (c.loop-rest.invariant.same ∙ step ∙ ap (λ b. b && are_stock c.args.vendor.now known (pieces_left c.split_first-first.result.1)) (sym c.is_new_stock.ensures ∙ c.if-not-is_new_stock.false)
    ∙ ap (λ r. are_stock c.args.vendor.now known (pieces_left r)) c.in-None.is)

pub loop-rest-preserved : goal.loop-rest-preserved
loop-rest-preserved c =
    let v = c.args.vendor.now in
    let ids = c.args.ids.now in
    let seen = take c.loop-rest.count c.loop-rest.seen in
    let id = c.piece_of-piece.result.id in
    let rest = pieces_of c.in-Some.rest in
    let list : pieces_of c.loop-rest.list ≡ piece_of c.split_first-first.result.0 ∷ rest = c.split_first-first.ensures ∙ ap (λ r. piece_of c.split_first-first.result.0 ∷ pieces_left r) c.in-Some.is in
    let step = stock_first list c.piece_of-piece.ensures v ids seen in
    let passed = ap (λ b. b && are_stock v (id ∷ (seen ++ ids.ids)) rest) (sym c.is_new_stock.ensures ∙ c.if-not-is_new_stock.false) in
    let put = take_more_set c.loop-rest.seen c.loop-rest.count c.number.result (omega (arith, c.loop-rest.invariant.few, ap length list, c.piece_of-piece.array_long)) in
    let same_id : id ≡ c.number.result = sym (c.number.ensures ∙ c.id.ensures.id) in
    record {
      few = omega (arith, c.loop-rest.invariant.few, ap length list);
      same = c.loop-rest.invariant.same ∙ step ∙ passed ∙ stock_alike v (id ∷ (seen ++ ids.ids)) ((seen ++ id ∷ []) ++ ids.ids) rest (moved id seen ids.ids)
          ∙ ap (λ (n : ℕ). are_stock v ((seen ++ n ∷ []) ++ ids.ids) rest) same_id ∙ ap (λ (known : List ℕ). are_stock v (known ++ ids.ids) rest) (sym put);
    }
