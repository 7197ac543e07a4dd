use Rattle.std.proofs.Common.{arith}
use Rattle.millicent_http.proofs.EndLemmas.{line_ends-nil, no_end_front}
use Rattle.millicent_http.proofs.WholeLemmas.{long_item, no_item}
use Rattle.millicent_http.proofs.whole.ends_item.Goals as goal

pub returns-then-bytes-ge-MAX_HEAD : goal.returns-then-bytes-ge-MAX_HEAD
returns-then-bytes-ge-MAX_HEAD c = long_item c.args.bytes.now c.if-bytes-ge-MAX_HEAD.true

pub skip_line_ends-skip-requires-clause-known : goal.skip_line_ends-skip-requires-clause-known
skip_line_ends-skip-requires-clause-known c = line_ends-nil

pub find_end-requires-clause-before : goal.find_end-requires-clause-before
find_end-requires-clause-before c = λ m le. no_end_front c.args.bytes.now m (omega (arith, le, c.skip_line_ends-skip.ensures))

pub returns-in-None : goal.returns-in-None
returns-in-None c = no_item c.args.bytes.now (omega (arith, c.if-bytes-ge-MAX_HEAD.false)) c.in-None.ensures.none
