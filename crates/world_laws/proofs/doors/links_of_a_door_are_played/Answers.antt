use Rattle.door_commands.specs.Told.{BrokerDoubts, BrokerObeys, DoubtsBy, EndsBy, VendorDoubts, VendorObeys}
use Rattle.world_laws.proofs.DoorLemmas.{either_is_schedule, open_links_play}
use Rattle.world_laws.proofs.OperatorLemmas.{broker_adds, vendor_adds, broker_doubts, vendor_doubts}
use Rattle.world_laws.proofs.doors.links_of_a_door_are_played.Goals as goal

pub returns : goal.returns
returns c = record {
  broker = either_is_schedule (EndsBy BrokerObeys) broker_adds;
  vendor = either_is_schedule (EndsBy VendorObeys) vendor_adds;
  broker_links = open_links_play (EndsBy BrokerObeys) (DoubtsBy BrokerDoubts) broker_adds broker_doubts;
  vendor_links = open_links_play (EndsBy VendorObeys) (DoubtsBy VendorDoubts) vendor_adds vendor_doubts;
}
