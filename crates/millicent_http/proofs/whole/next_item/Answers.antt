use Rattle.std.proofs.Common.{take, arith}
use Rattle.millicent_http.proofs.EndLemmas.{line_ends-nil, no_end_front, tail_range}
use Rattle.millicent_http.proofs.WholeLemmas.{window_is, whole_item, whole_none, whole_large}
use Rattle.millicent_http.proofs.whole.next_item.Goals as goal

pub skip_line_ends-skip-requires-clause-known : goal.skip_line_ends-skip-requires-clause-known
skip_line_ends-skip-requires-clause-known c = line_ends-nil

pub find_end-requires-clause-before : goal.find_end-requires-clause-before
find_end-requires-clause-before c = λ m le. no_end_front (take c.min.result c.args.bytes.now) m (omega (arith, le, c.skip_line_ends-skip.ensures))

pub returns-in-Some-clause-some : goal.returns-in-Some-clause-some
returns-in-Some-clause-some c =
    whole_item c.args.bytes.now (take c.min.result c.args.bytes.now) _ c.skip_line_ends-skip.result c.in-Some.end _
    (window_is c.args.bytes.now c.min.result c.min.ensures) c.skip_line_ends-skip.ensures c.in-Some.ensures.found c.read_item.ensures (tail_range c.args.bytes.now c.in-Some.end)

pub returns-in-None-clause-none : goal.returns-in-None-clause-none
returns-in-None-clause-none c =
    whole_none c.args.bytes.now (take c.min.result c.args.bytes.now) (window_is c.args.bytes.now c.min.result c.min.ensures) c.in-None.ensures.none c.if-window-lt-MAX_HEAD.true

pub returns-in-None-2-clause-some : goal.returns-in-None-2-clause-some
returns-in-None-2-clause-some c =
    whole_large c.args.bytes.now (take c.min.result c.args.bytes.now) _ (window_is c.args.bytes.now c.min.result c.min.ensures) c.in-None-2.ensures.none c.if-window-lt-MAX_HEAD.false (tail_range c.args.bytes.now 8192)
