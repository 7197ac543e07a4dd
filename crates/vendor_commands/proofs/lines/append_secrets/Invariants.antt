use Rattle.std.proofs.Common.{◌≡◌, ◌++◌, codes, take}
use Rattle.command_table.specs.Ranges.{joined}
use Rattle.vendor_commands.proofs.lines.append_secrets.Given as goal

abbrev pub invariant-loop-i : goal.invariant-loop-i
invariant-loop-i l = l.line.items ≡ l.fn.line.items ++ codes " " ++ joined (take l.i l.secrets)
