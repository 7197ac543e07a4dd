use Rattle.std.proofs.Common.{List, ℕ, inl, inr, refl, arith}
use Rattle.std.specs.Prelude.{slice_range}
use Rattle.millicent_http.proofs.EndLemmas.{line_ends-nil, no_end_front}
use Rattle.reply_reader.specs.Places.{said_at}
use Rattle.reply_reader.proofs.WholeLemmas.{window_says, window_says_nothing, window_has_none, window_is_long}
use Rattle.reply_reader.proofs.whole.read_reply.Goals as goal

pub skip_line_ends-skip-requires-clause-known : goal.skip_line_ends-skip-requires-clause-known
skip_line_ends-skip-requires-clause-known c = line_ends-nil

pub find_end-requires-clause-before : goal.find_end-requires-clause-before
find_end-requires-clause-before c = λ m le. no_end_front c.head_window-window.result.now m (omega (arith, le, c.skip_line_ends-skip.ensures))

pub returns-in-None : goal.returns-in-None
returns-in-None c = inl (record {
  none = window_has_none c.args.bytes.now c.head_window-window.result.now c.head_window-window.ensures c.in-None.ensures.none c.if-bytes-lt-MAX_HEAD.true;
  one = refl;
})

pub returns-in-None-2 : goal.returns-in-None-2
returns-in-None-2 c =
    inr (window_is_long c.args.bytes.now c.head_window-window.result.now c.head_window-window.ensures c.in-None-2.ensures.none c.if-bytes-lt-MAX_HEAD.false)

pub returns-in-None-read_head : goal.returns-in-None-read_head
returns-in-None-read_head c =
    inl (window_says_nothing c.args.bytes.now c.head_window-window.result.now c.skip_line_ends-skip.result c.in-Some.end c.head_window-window.ensures
    c.skip_line_ends-skip.ensures c.in-Some.ensures.found c.in-None-read_head.ensures.none)

pub returns-then-bytes-whole : goal.returns-then-bytes-whole
returns-then-bytes-whole c =
    let window : List ℕ = c.head_window-window.result.now in
    inr (record {
      end = c.in-Some.end;
      x = said_at (slice_range window c.skip_line_ends-skip.result c.in-Some.end) c.in-Some-read_head.head;
      says = window_says c.args.bytes.now window c.skip_line_ends-skip.result c.in-Some.end (said_at (slice_range window c.skip_line_ends-skip.result c.in-Some.end) c.in-Some-read_head.head)
          c.head_window-window.ensures c.skip_line_ends-skip.ensures c.in-Some.ensures.found c.in-Some-read_head.ensures.says;
      whole = refl;
      few = c.if-bytes-whole.true;
    })

pub returns : goal.returns
returns c =
    let window : List ℕ = c.head_window-window.result.now in
    record {
      end = c.in-Some.end;
      x = said_at (slice_range window c.skip_line_ends-skip.result c.in-Some.end) c.in-Some-read_head.head;
      says = window_says c.args.bytes.now window c.skip_line_ends-skip.result c.in-Some.end (said_at (slice_range window c.skip_line_ends-skip.result c.in-Some.end) c.in-Some-read_head.head)
          c.head_window-window.ensures c.skip_line_ends-skip.ensures c.in-Some.ensures.found c.in-Some-read_head.ensures.says;
      enough = c.if-bytes-whole.false;
      is = c.reply.ensures;
    }
