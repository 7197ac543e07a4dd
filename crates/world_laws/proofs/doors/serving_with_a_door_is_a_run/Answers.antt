use Rattle.door_commands.specs.Told.{BrokerDoubts, BrokerObeys, DoubtsBy, EndsBy, VendorDoubts, VendorObeys}
use Rattle.world_laws.proofs.DoorLemmas.{opening_is_run, opening_halts}
use Rattle.world_laws.proofs.OperatorLemmas.{broker_adds, vendor_adds, broker_doubts, vendor_doubts}
use Rattle.world_laws.proofs.doors.serving_with_a_door_is_a_run.Goals as goal

pub returns : goal.returns
returns g c = record {
  broker = opening_is_run g.O.Link.link g.O.Disk.disk (EndsBy BrokerObeys) (DoubtsBy BrokerDoubts) broker_adds;
  vendor = opening_is_run g.O.Link.link g.O.Disk.disk (EndsBy VendorObeys) (DoubtsBy VendorDoubts) vendor_adds;
  broker_halting = opening_halts g.O.Link.link g.O.Disk.disk (EndsBy BrokerObeys) (DoubtsBy BrokerDoubts) broker_adds broker_doubts;
  vendor_halting = opening_halts g.O.Link.link g.O.Disk.disk (EndsBy VendorObeys) (DoubtsBy VendorDoubts) vendor_adds vendor_doubts;
}
