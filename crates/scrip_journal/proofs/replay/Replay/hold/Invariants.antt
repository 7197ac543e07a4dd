use Rattle.std.proofs.Common.{◌≡◌, ◌-◌, length}
use Rattle.scrip_journal.specs.Replays.{ReadAhead}
use Rattle.scrip_journal.proofs.replay.Replay.hold.Given as goal

abbrev pub invariant-pieces : goal.invariant-pieces
invariant-pieces g l = record {
  moved : g.D.Disk.disk_moved l.fn.self.disk l.self.disk;
  ahead : ReadAhead g.D.Disk.disk l.fn.self l.self;
  faults : (g.D.Disk.disk l.self.disk).faults ≡ (g.D.Disk.disk l.fn.self.disk).faults;
}

abbrev pub decreases-pieces : goal.decreases-pieces
decreases-pieces g l = l.count - length l.self.held
