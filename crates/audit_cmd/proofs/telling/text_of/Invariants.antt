use Rattle.std.proofs.Common.{◌≡◌, take}
use Rattle.audit_cmd.specs.Reports.{chain_lines}
use Rattle.audit_cmd.proofs.telling.text_of.Given as goal

-- the lines so far
abbrev pub invariant-loop-line : goal.invariant-loop-line
invariant-loop-line l = l.text.items ≡ chain_lines (take l.line-index l.lines)
