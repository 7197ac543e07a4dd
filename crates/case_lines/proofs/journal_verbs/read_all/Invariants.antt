use Rattle.scrip_journal.specs.States.{MayGoOn}
use Rattle.case_lines.proofs.journal_verbs.read_all.Given as goal

abbrev pub invariant-entries : goal.invariant-entries
invariant-entries l = MayGoOn l.replay
