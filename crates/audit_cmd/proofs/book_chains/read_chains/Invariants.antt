use Rattle.audit_cmd.specs.Loops.{HaveRead}
use Rattle.audit_cmd.specs.Chains.{HasLine, AreLinesOf}
use Rattle.audit_cmd.proofs.book_chains.read_chains.Given as goal

abbrev pub invariant-loop-place : goal.invariant-loop-place
invariant-loop-place g l = HaveRead g.D.Disk.disk g.D.Disk.disk_moved HasLine AreLinesOf l.place l.initial.books.items l.books.items l.lines
