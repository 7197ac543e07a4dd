use Rattle.std.proofs.Common.{arith, ◌∙◌, eqb, Some, None}
use Rattle.std.specs.Option.{option_or}
use Rattle.scrip_form.specs.Scrip.{Scrip}
use Rattle.mc_records.specs.PieceViews.{pieces_of}
use Rattle.ledger_model.specs.Stock.{held_piece}
use Rattle.audit_model.specs.Parts.{part_of}
use Rattle.slow_ledger.proofs.SlowLaws.{from_next}
use Rattle.slow_ledger.proofs.Found.{found_of, found_in_cons}
use Rattle.slow_sums.proofs.stock.found_in.Goals as goal

pub returns-in-Some : goal.returns-in-Some
returns-in-Some c =
    let test = λ (p : Scrip). eqb p.id c.args.id in
    from_next option_or _ (found_of test part_of held_piece) (found_in_cons test part_of held_piece) (pieces_of c.args.pieces.now) c.loop-k.k (Some c.in-Some.part) (omega arith) c.in-Some.ensures ∙ c.loop-k.invariant

pub loop-k-preserved : goal.loop-k-preserved
loop-k-preserved c =
    let test = λ (p : Scrip). eqb p.id c.args.id in
    from_next option_or _ (found_of test part_of held_piece) (found_in_cons test part_of held_piece) (pieces_of c.args.pieces.now) c.loop-k.k None (omega arith) c.in-None.ensures ∙ c.loop-k.invariant
