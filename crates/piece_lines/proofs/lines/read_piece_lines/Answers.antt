use Rattle.std.proofs.Common.{◌<◌, length, arith, sym, subst, List, ℕ, Result, Err}
use Rattle.std.proofs.lemmas.Bool.{eqb-true, eqb-false}
use Rattle.mc_records.specs.Entry.{Held}
use Rattle.piece_lines.specs.Rules.{passes}
use Rattle.mc_records.specs.declared.ranges.TheConstants.{MOST_PIECES}
use Rattle.piece_lines.specs.PieceLines.{lines_from}
use Rattle.piece_lines.specs.Answers.{AreAppended, Tells}
use Rattle.piece_lines.proofs.LoopLaws.{nothing_read, some_read, fault_told}
use Rattle.piece_lines.proofs.lines.read_piece_lines.Goals as goal

pub returns-then-is_empty-clause-tells : goal.returns-then-is_empty-clause-tells
returns-then-is_empty-clause-tells c = nothing_read (passes c.args.rule.now) c.args.bytes.now (eqb-true (length c.args.bytes.now) 0 (sym c.if-is_empty.ensures))

pub returns-in-Ok-clause-tells : goal.returns-in-Ok-clause-tells
returns-in-Ok-clause-tells c =
    let some : 0 < length c.args.bytes.now = omega (arith, eqb-false (length c.args.bytes.now) 0 (sym c.if-is_empty.ensures)) in
    subst (λ (input : Result (List Held) ℕ). AreAppended input c.args.out.now.items c.append_lines.new.out.items c.in-Ok.count) (some_read (passes c.args.rule.now) c.args.bytes.now some) c.in-Ok.ensures.tells

pub returns-in-Err-clause-tells : goal.returns-in-Err-clause-tells
returns-in-Err-clause-tells c =
    let some : 0 < length c.args.bytes.now = omega (arith, eqb-false (length c.args.bytes.now) 0 (sym c.if-is_empty.ensures)) in
    let told = fault_told (lines_from (passes c.args.rule.now) MOST_PIECES 1 c.args.bytes.now) c.args.out.now.items c.append_lines.new.out.items c.truncate.new.self.items c.in-Err.fault c.in-Err.ensures.tells in
    subst (λ (input : Result (List Held) ℕ). Tells input c.args.out.now.items c.truncate.new.self.items (Err c.in-Err.fault)) (some_read (passes c.args.rule.now) c.args.bytes.now some) told
