use Rattle.std.proofs.Common.{arith, ◌∙◌, eqb, Some, None}
use Rattle.std.specs.Option.{option_or}
use Rattle.scrip_form.specs.Scrip.{Scrip}
use Rattle.ledger_model.specs.Stock.{held_piece, stock_of, stock_in}
use Rattle.audit_model.specs.Parts.{part_of}
use Rattle.slow_ledger.proofs.SlowLaws.{from_next}
use Rattle.slow_ledger.proofs.Found.{found_of, found_append}
use Rattle.slow_sums.proofs.stock.stocked.Goals as goal

pub returns-in-Some : goal.returns-in-Some
returns-in-Some c =
    let vendor = c.args.vendor.now in
    let test = λ (p : Scrip). eqb p.id c.args.id in
    from_next option_or _ (λ h. found_of test part_of held_piece (stock_in h vendor)) (λ e es. found_append test part_of held_piece (stock_of vendor e) (stock_in es vendor)) c.args.h.now c.loop-n.n (Some c.in-Some.part) (omega arith) c.in-Some.ensures ∙ c.loop-n.invariant

pub loop-n-preserved : goal.loop-n-preserved
loop-n-preserved c =
    let vendor = c.args.vendor.now in
    let test = λ (p : Scrip). eqb p.id c.args.id in
    from_next option_or _ (λ h. found_of test part_of held_piece (stock_in h vendor)) (λ e es. found_append test part_of held_piece (stock_of vendor e) (stock_in es vendor)) c.args.h.now c.loop-n.n None (omega arith) c.in-None.ensures ∙ c.loop-n.invariant
