use Rattle.std.proofs.Common.{arith, ap₂, ◌∙◌, sym, List, ℕ, Ok}
use Rattle.mc_fields.specs.Reading.{Read}
use Rattle.mc_records.specs.Entry.{Held}
use Rattle.mc_records.specs.Pieces.{pieces_in}
use Rattle.mc_records.proofs.PieceLaws.{taken}
use Rattle.mc_records.proofs.piece_lists.elements.Goals as goal

pub of-requires : goal.of-requires
of-requires c =
    (taken c.args.count c.args.bytes.now c.in_ok-rest.rest.now c.saturating_sub-used.result (λ i. omega (arith, c.type_inv.bytes i)) c.requires.some c.requires.few c.saturating_sub-used.ensures c.in_ok-rest.ensures).are

pub returns : goal.returns
returns c =
    let t = taken c.args.count c.args.bytes.now c.in_ok-rest.rest.now c.saturating_sub-used.result (λ i. omega (arith, c.type_inv.bytes i)) c.requires.some c.requires.few c.saturating_sub-used.ensures c.in_ok-rest.ensures in
    t.read ∙ ap₂ (λ (n : ℕ) (bytes : List ℕ). is_read (pieces_in n bytes) c.in_ok-rest.rest.now) (sym c.of.ensures.count) (sym c.of.ensures.bytes)
  where
    is_read : List Held → List ℕ → Read (List Held)
    is_read ps k = Ok (ps, k)
