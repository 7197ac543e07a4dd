use Rattle.std.proofs.Common.{arith, ◌∙◌, Some, None}
use Rattle.std.specs.Option.{option_or}
use Rattle.mc_records.specs.PieceViews.{pieces_of}
use Rattle.scrip_form.specs.Scrip.{Scrip}
use Rattle.ledger_model.specs.Stock.{held_piece, is_for_sale}
use Rattle.slow_ledger.proofs.SlowLaws.{from_next}
use Rattle.slow_ledger.proofs.Found.{found_of, found_in_cons}
use Rattle.slow_ledger.proofs.stock.open_of.Goals as goal

pub returns-in-Some : goal.returns-in-Some
returns-in-Some c =
    let test = is_for_sale c.args.h.now c.args.time c.args.vendor.now c.args.value in
    from_next option_or _ (found_of test (λ (p : Scrip). p.id) held_piece) (found_in_cons test (λ (p : Scrip). p.id) held_piece) (pieces_of c.args.pieces.now) c.loop-k.k (Some c.in-Some.id) (omega arith) c.in-Some.ensures ∙ c.loop-k.invariant

pub loop-k-preserved : goal.loop-k-preserved
loop-k-preserved c =
    let test = is_for_sale c.args.h.now c.args.time c.args.vendor.now c.args.value in
    from_next option_or _ (found_of test (λ (p : Scrip). p.id) held_piece) (found_in_cons test (λ (p : Scrip). p.id) held_piece) (pieces_of c.args.pieces.now) c.loop-k.k None (omega arith) c.in-None.ensures ∙ c.loop-k.invariant
