use Rattle.millicent_http.specs.HeadEnds.{HasNoEnd}
use Rattle.millicent_http.proofs.scan.find_end.Given as goal

abbrev pub invariant-loop-end : goal.invariant-loop-end
invariant-loop-end l = HasNoEnd l.bytes l.end
