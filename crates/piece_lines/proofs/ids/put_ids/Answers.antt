use Rattle.std.proofs.Common.{◌≡◌, ◌+◌, ◌-◌, ◌<◌, ◌∷◌, [], ◌++◌, arith, length, take, refl, sym, ap, ◌∙◌, suc, ℕ}
use Rattle.std.proofs.lemmas.Bool.{eqb-true, eqb-false}
use Rattle.std.proofs.lemmas.List.{length-append}
use Rattle.mc_records.specs.Views.{held_of}
use Rattle.mc_records.specs.declared.ranges.TheConstants.{MOST_PIECES}
use Rattle.piece_lines.specs.Rules.{passes}
use Rattle.piece_lines.specs.PieceLines.{lines_from}
use Rattle.piece_lines.proofs.LoopLaws.{breaks, none_before, all_read, too_many, line_breaks, line_read}
use Rattle.piece_lines.proofs.IdLaws.{one_more_id, line_has_id}
use Rattle.piece_lines.proofs.ids.put_ids.Goals as goal

pub loop-before-init : goal.loop-before-init
loop-before-init c = ([], refl, refl, none_before (lines_from (passes c.args.rule.now) MOST_PIECES 1 c.args.bytes.now))

pub returns-then-is_empty-clause-tells : goal.returns-then-is_empty-clause-tells
returns-then-is_empty-clause-tells c =
    let i = c.loop-before.invariant in
    let test = passes c.args.rule.now in
    let n = c.loop-before.before in
    let rest = c.loop-before.rest.now in
    record {
      pieces = i.0;
      read = all_read test (MOST_PIECES - n) (n + 1) rest i.0 (lines_from test MOST_PIECES 1 c.args.bytes.now) (eqb-true (length rest) 0 (sym c.if-is_empty.ensures)) i.3;
      counted = sym i.1;
      ids' = i.2;
    }

pub returns-in-Err-clause-tells : goal.returns-in-Err-clause-tells
returns-in-Err-clause-tells c =
    let i = c.loop-before.invariant in
    let test = passes c.args.rule.now in
    let n = c.loop-before.before in
    let rest = c.loop-before.rest.now in
    let one : MOST_PIECES - n ≡ suc (MOST_PIECES - (n + 1)) = omega (arith, c.loop-before-test.true) in
    let some : 0 < length rest = omega (arith, eqb-false (length rest) 0 (sym c.if-is_empty.ensures)) in
    line_breaks test (MOST_PIECES - n) (MOST_PIECES - (n + 1)) (n + 1) rest i.0 (lines_from test MOST_PIECES 1 c.args.bytes.now) c.in-Err.field-0.left one some c.in-Err.ensures.gives i.3

pub unreachable-requires : goal.unreachable-requires
unreachable-requires c =
    line_has_id (passes c.args.rule.now) c.loop-before.rest.now (held_of c.in-Ok.read.0) c.in-Ok.read.1.now c.in-Ok.ensures.gives (sym c.in-None.ensures)

pub loop-before-preserved : goal.loop-before-preserved
loop-before-preserved c =
    let i = c.loop-before.invariant in
    let test = passes c.args.rule.now in
    let n = c.loop-before.before in
    let rest = c.loop-before.rest.now in
    let p = held_of c.in-Ok.read.0 in
    let more = c.in-Ok.read.1.now in
    let one : MOST_PIECES - n ≡ suc (MOST_PIECES - (n + 1)) = omega (arith, c.loop-before-test.true) in
    let some : 0 < length rest = omega (arith, eqb-false (length rest) 0 (sym c.if-is_empty.ensures)) in
    let room : n < length c.loop-before.ids = omega (arith, c.loop-before-test.true, c.loop-before.auto.ids, c.requires) in (
      i.0 ++ p ∷ [],
      omega (arith, i.1, length-append i.0 (p ∷ [])),
      rw c.from.ensures (one_more_id i.0 p c.loop-before.ids n c.in-Some.id room i.2 (sym c.in-Some.ensures)),
      line_read test (MOST_PIECES - n) (MOST_PIECES - (n + 1)) (n + 1) rest i.0 (lines_from test MOST_PIECES 1 c.args.bytes.now) p more one some c.in-Ok.ensures.gives i.3,
    )

pub returns-then-is_empty-2-clause-tells : goal.returns-then-is_empty-2-clause-tells
returns-then-is_empty-2-clause-tells c =
    let i = c.loop-before.invariant in
    let test = passes c.args.rule.now in
    let n = c.loop-before.before in
    let rest = c.loop-before.rest.now in
    let all : n ≡ MOST_PIECES = omega (arith, c.loop-before.auto.before-end, c.loop-before-test.false) in
    record {
      pieces = i.0;
      read = all_read test (MOST_PIECES - n) (n + 1) rest i.0 (lines_from test MOST_PIECES 1 c.args.bytes.now) (eqb-true (length rest) 0 (sym c.if-is_empty-2.ensures)) i.3;
      counted = omega (arith, all, i.1);
      ids' = ap (λ (k : ℕ). take k c.loop-before.ids) (sym all) ∙ i.2;
    }

pub returns-else-is_empty-2-clause-tells : goal.returns-else-is_empty-2-clause-tells
returns-else-is_empty-2-clause-tells c =
    let i = c.loop-before.invariant in
    let test = passes c.args.rule.now in
    let n = c.loop-before.before in
    let rest = c.loop-before.rest.now in
    let all : n ≡ MOST_PIECES = omega (arith, c.loop-before.auto.before-end, c.loop-before-test.false) in
    let some : 0 < length rest = omega (arith, eqb-false (length rest) 0 (sym c.if-is_empty-2.ensures)) in
    let none : MOST_PIECES - n ≡ 0 = omega (arith, all) in
    let line : n + 1 ≡ MOST_PIECES + 1 = omega (arith, all) in
    too_many test (MOST_PIECES - n) (n + 1) rest i.0 (lines_from test MOST_PIECES 1 c.args.bytes.now) none some i.3 ∙ ap breaks line
