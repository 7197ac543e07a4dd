use Rattle.std.proofs.Common.{arith}
use Rattle.mc_records.proofs.ReadLaws.{found_in, only_in, place_in}
use Rattle.mc_records.proofs.reading.read_record.Goals as goal

pub returns-clause-found : goal.returns-clause-found
returns-clause-found c = found_in c.args.bytes.now c.whole_record.result (λ i. omega (arith, c.type_inv.bytes i)) c.whole_record.ensures

pub returns-clause-only : goal.returns-clause-only
returns-clause-only c = only_in c.args.bytes.now c.whole_record.result c.whole_record.ensures

pub returns-clause-place : goal.returns-clause-place
returns-clause-place c = place_in c.args.bytes.now c.whole_record.result (λ i. omega (arith, c.type_inv.bytes i)) c.whole_record.ensures
