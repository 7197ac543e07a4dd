-- What a stage means.
use Rattle.std.specs.Prelude.{◌≡◌, ℕ, List, Bool, true, false, Option, Some, None}
use Rattle.std.proofs.Common.{ap}
use Rattle.mc_outside.specs.DiskView.{DiskView}
use Rattle.mc_outside.specs.LinkView.{LinkView, Session, all_sent}
use Rattle.mc_stage.specs.Model.{Trace, disk_of, link_of}
use Rattle.mc_stage.specs.Trace.{same_some}
use Rattle.mc_stage.specs.Scenario.{Scenario, links_of}
use Rattle.mc_stage.specs.declared.stage.Stage.{Stage}

abbrev pub told : Bool → List ℕ → Option (List ℕ)
told true xs = None
told false xs = Some xs

abbrev pub trace_of : Stage → Trace
trace_of s = record {
  base = s.tape.first;
  log = s.tape.calls;
  faults = s.faults;
  said = s.said.items;
  readings = told s.lost s.given.items;
  link_faults = s.link_faults;
  stands = s.stands;
  over = s.over;
  doors = s.doors.items;
}

pub sent_is : (t : Trace) (ss : List Session) → (link_of t).sessions ≡ Some ss → (disk_of t).aside ≡ all_sent ss
sent_is t ss e = ap all_sent (same_some _ _ e)

abbrev pub scenario_of : Stage → Scenario
scenario_of s = record { disk = s.disk_plan; link = s.link_plan; links = links_of s.links.items; pieces = s.pieces; readings = s.clock; starved = s.starved }

abbrev pub disk_view : Stage → DiskView
disk_view s = disk_of (trace_of s)

abbrev pub link_view : Stage → LinkView
link_view s = link_of (trace_of s)
