use Rattle.door_commands.specs.Told.{BrokerDoubts, BrokerObeys, DoubtsBy, EndsBy, VendorDoubts, VendorObeys}
use Rattle.world_laws.proofs.DoorLemmas.{open_links_lead}
use Rattle.world_laws.proofs.OperatorLemmas.{broker_adds, vendor_adds, broker_doubts, vendor_doubts}
use Rattle.world_laws.proofs.doors.links_of_a_door_lead.Goals as goal

pub returns : goal.returns
returns c = record {
  broker = open_links_lead (EndsBy BrokerObeys) (DoubtsBy BrokerDoubts) broker_adds broker_doubts;
  vendor = open_links_lead (EndsBy VendorObeys) (DoubtsBy VendorDoubts) vendor_adds vendor_doubts;
}
