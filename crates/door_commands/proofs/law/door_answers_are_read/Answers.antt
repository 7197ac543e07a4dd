use Rattle.std.proofs.Common.{refl}
use Rattle.door_commands.specs.Told.{BrokerObeys, VendorObeys}
use Rattle.door_commands.proofs.ToldLemmas.{door_answer, broker_door, vendor_door}
use Rattle.door_commands.proofs.law.door_answers_are_read.Goals as goal

pub returns : goal.returns
returns c = record {
  broker = λ told h t status g is. door_answer BrokerObeys told h t status g (λ o input by. broker_door o input h t status g by) is;
  vendor = λ told h t status g is. door_answer VendorObeys told h t status g (λ o input by. vendor_door o input h t status g by) is;
  halted = record { of_door = refl; is = refl };
}
