use Rattle.std.proofs.Common.{◌≡◌, ◌+◌, ◌-◌, List, None}
use Rattle.std.specs.Prelude.{IsSome}
use Rattle.mc_outside.specs.DiskView.{OnlyRead}
use Rattle.mc_records.specs.Entry.{Entry}
use Rattle.mc_records.specs.Sizes.{size}
use Rattle.scrip_journal.specs.Replays.{Passes}
use Rattle.scrip_journal.proofs.replay.Replay.pass_to.Given as goal

abbrev pub invariant-entries : goal.invariant-entries
invariant-entries g l = record {
  moved : g.D.Disk.disk_moved l.fn.self.disk l.self.disk;
  only_read : OnlyRead (g.D.Disk.disk l.fn.self.disk) (g.D.Disk.disk l.self.disk);
  faults : (g.D.Disk.disk l.self.disk).faults ≡ (g.D.Disk.disk l.fn.self.disk).faults;
  limit : l.self.limit ≡ l.fn.self.limit;
  going : l.self.ended ≡ None;
  known : IsSome l.self.chain;
  passes : (h : List Entry) → l.gate + 1 ≡ size h → Passes g.D.Disk.disk l.fn.self h → Passes g.D.Disk.disk l.self h;
}

abbrev pub decreases-entries : goal.decreases-entries
decreases-entries g l = l.gate - l.self.gate
