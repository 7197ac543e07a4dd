use Rattle.std.proofs.Common.{◌≤◌, length}
use Rattle.audit_cmd.specs.Books.{IsLawfulBook}
use Rattle.audit_cmd.specs.Loops.{KeptAll, HaveRead}
use Rattle.audit_cmd.proofs.books.read_books.Given as goal

abbrev pub invariant-loop-place : goal.invariant-loop-place
invariant-loop-place g l = record {
  read : HaveRead g.D.Disk.disk g.D.Disk.disk_moved IsLawfulBook KeptAll l.place l.initial.books.items l.books.items l.kept;
  few : length l.kept.houses.items ≤ l.place;
}
