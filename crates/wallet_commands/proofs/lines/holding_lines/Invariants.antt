use Rattle.std.proofs.Common.{◌≡◌, flat_map, take}
use Rattle.wallet_book.specs.Holdings.{state_of}
use Rattle.wallet_commands.specs.Lines.{piece_line}
use Rattle.wallet_commands.proofs.lines.holding_lines.Given as goal

abbrev pub invariant-loop-x : goal.invariant-loop-x
invariant-loop-x l = l.lines.items ≡ flat_map (λ x. piece_line (state_of x.state) x.piece) (take l.x-index l.holdings)
