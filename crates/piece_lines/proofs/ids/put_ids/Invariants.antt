use Rattle.std.proofs.Common.{◌≡◌, ◌+◌, ◌-◌, length, take, List, filter_map}
use Rattle.mc_records.specs.Entry.{Held}
use Rattle.mc_records.specs.declared.ranges.TheConstants.{MOST_PIECES}
use Rattle.piece_lines.specs.Rules.{passes}
use Rattle.piece_lines.specs.Answers.{text_id}
use Rattle.piece_lines.specs.PieceLines.{behind, lines_from}
use Rattle.piece_lines.proofs.ids.put_ids.Given as goal

abbrev pub invariant-loop-before : goal.invariant-loop-before
invariant-loop-before l =
    (pieces : List Held) × (length pieces ≡ l.before) × (take l.before l.ids ≡ filter_map (λ p. text_id p.text) pieces)
    × (lines_from (passes l.rule) MOST_PIECES 1 l.bytes ≡ behind pieces (lines_from (passes l.rule) (MOST_PIECES - l.before) (l.before + 1) l.rest))
