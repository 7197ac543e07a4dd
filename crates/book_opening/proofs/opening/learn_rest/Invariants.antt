use Rattle.std.proofs.Common.{◌-◌, ◌^◌, ◌≡◌, ℕ, List, Some, None}
use Rattle.scrip_journal.specs.States.{MayGoOn}
use Rattle.book_opening.specs.Opening.{ReadOn, LearnedSome}
use Rattle.book_opening.proofs.opening.learn_rest.Given as goal

abbrev pub invariant-entries : goal.invariant-entries
invariant-entries g l = record {
  read : ReadOn g.D.Disk.disk g.D.Disk.disk_moved l.fn.replay l.replay;
  going : l.replay.ended ≡ None;
  goes_on : MayGoOn l.replay;
  faults : (g.D.Disk.disk l.replay.disk).faults ≡ (g.D.Disk.disk l.fn.replay.disk).faults;
  belongs : (o : g.row.O.Denot) → (g.O.Opener.opener o).belongs l.fn.learner → (g.O.Opener.opener o).belongs l.learner;
  learned : (o : g.row.O.Denot) (x : List ℕ) → (g.D.Disk.disk l.fn.replay.disk).contents ≡ Some x → (g.O.Opener.opener o).belongs l.fn.learner
      → LearnedSome g.D.Disk.disk (g.O.Opener.opener o) l.fn.replay l.fn.learner → LearnedSome g.D.Disk.disk (g.O.Opener.opener o) l.replay l.learner;
}

abbrev pub decreases-entries : goal.decreases-entries
decreases-entries g l = 2 ^ 40 - l.replay.gate
