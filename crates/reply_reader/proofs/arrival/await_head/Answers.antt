use Rattle.std.proofs.Common.{◌≡◌, ◌+◌, ◌≤◌, ◌<◌, inl, refl, arith, sym, ap, subst, ◌∙◌, List, ℕ, length, take, []}
use Rattle.std.proofs.lemmas.List.{length-take, take_all}
use Rattle.mc_outside.specs.LinkView.{LinkView, after_recv}
use Rattle.millicent_http.specs.HeadEnds.{line_ends, HasNoEnd}
use Rattle.millicent_http.specs.Items.{max_head, EndsNoItem}
use Rattle.millicent_http.proofs.EndLemmas.{line_ends-fit}
use Rattle.millicent_http.proofs.ItemLemmas.{max_head_is}
use Rattle.millicent_http.proofs.WholeLemmas.{end_behind}
use Rattle.reply_reader.specs.Arrivals.{Stopped}
use Rattle.reply_reader.specs.Takes.{WaitedFor}
use Rattle.reply_reader.proofs.WholeLemmas.{window_has_none, window_is_long}
use Rattle.reply_reader.proofs.ArrivalLemmas.{gathers_none, gathers_more, knows_nothing, knows_more, head_here, head_stops}
use Rattle.reply_reader.proofs.arrival.await_head.Goals as goal

pub pieces-init : goal.pieces-init
pieces-init g c = record {
  size = refl;
  moved = g.met.K.Link.link_stays c.args.k.now;
  gathers = gathers_none (g.K.Link.link c.args.k.now) c.args.buf.now.items;
  knows = knows_nothing (take max_head []);
}

pub returns-in-Some : goal.returns-in-Some
returns-in-Some g c =
    let got : List ℕ = take c.pieces.held c.pieces.buf.items in
    let window : c.head_window-window.result.now ≡ take max_head got = c.head_window-window.ensures ∙ ap (λ (z : List ℕ). take max_head (take c.pieces.held z)) c.deref.ensures.value in
    let first = c.in-Some.ensures.found in
    let behind : line_ends c.head_window-window.result.now ≤ c.in-Some.end = end_behind c.head_window-window.result.now c.in-Some.end first in
    let len : length got ≡ c.pieces.held = omega (arith, length-take c.pieces.held c.pieces.buf.items, c.pieces.invariant.gathers.within) in
    record {
      moved = c.pieces.invariant.moved;
      len = c.pieces.invariant.size;
      order = record {
        front = omega (arith, behind, c.skip_line_ends-skip.ensures);
        short = omega (arith, first.within, ap length window, length-take max_head got, max_head_is);
        held = omega (arith, first.within, ap length window, length-take max_head got, len);
        within = c.pieces.invariant.gathers.within;
      };
      arrives = record {
        held = c.pieces.held;
        within = c.pieces.invariant.gathers.within;
        waited = c.pieces.invariant.gathers.waited;
        ends = (
          refl,
          head_here got c.head_window-window.result.now (record { skip = c.skip_line_ends-skip.result; end = c.in-Some.end; held = c.pieces.held }) window first c.skip_line_ends-skip.ensures,
          c.pieces.invariant.gathers.link,
        );
      };
    }

pub returns-then-held-ge-MAX_HEAD-clause-arrives : goal.returns-then-held-ge-MAX_HEAD-clause-arrives
returns-then-held-ge-MAX_HEAD-clause-arrives g c =
    let got : List ℕ = take c.pieces.held c.pieces.buf.items in
    let window : c.head_window-window.result.now ≡ take max_head got = c.head_window-window.ensures ∙ ap (λ (z : List ℕ). take max_head (take c.pieces.held z)) c.deref.ensures.value in
    let len : length got ≡ c.pieces.held = omega (arith, length-take c.pieces.held c.pieces.buf.items, c.pieces.invariant.gathers.within) in
    record {
      held = c.pieces.held;
      within = c.pieces.invariant.gathers.within;
      waited = c.pieces.invariant.gathers.waited;
      ends = (window_is_long got c.head_window-window.result.now window c.in_default.ensures.none (omega (arith, len, c.if-held-ge-MAX_HEAD.true)), c.pieces.invariant.gathers.link);
    }

pub returns-in-Err-clause-arrives : goal.returns-in-Err-clause-arrives
returns-in-Err-clause-arrives g c =
    let got : List ℕ = take c.pieces.held c.pieces.buf.items in
    let window : c.head_window-window.result.now ≡ take max_head got = c.head_window-window.ensures ∙ ap (λ (z : List ℕ). take max_head (take c.pieces.held z)) c.deref.ensures.value in
    let len : length got ≡ c.pieces.held = omega (arith, length-take c.pieces.held c.pieces.buf.items, c.pieces.invariant.gathers.within) in
    let short : EndsNoItem got = window_has_none got c.head_window-window.result.now window c.in_default.ensures.none (omega (arith, len, c.if-held-ge-MAX_HEAD.false)) in
    let same : take c.pieces.held c.receive.new.buf.items ≡ got = c.receive.ensures.front in
    record {
      held = c.pieces.held;
      within = omega (arith, c.receive.ensures.len, c.pieces.invariant.gathers.within);
      waited = subst WaitedFor (sym same) c.pieces.invariant.gathers.waited;
      ends = head_stops c.pieces.held (take c.pieces.held c.receive.new.buf.items) c.in-Err.fault (after_recv (take c.pieces.held c.receive.new.buf.items) (g.K.Link.link c.args.k.now)) (g.K.Link.link c.receive.new.k)
          (subst EndsNoItem (sym same) short)
          (subst (λ (v : LinkView). Stopped c.in-Err.fault v (g.K.Link.link c.receive.new.k))
          (c.pieces.invariant.gathers.link ∙ ap (λ (z : List ℕ). after_recv z (g.K.Link.link c.args.k.now)) (sym same)) c.in-Err.ensures.stopped);
    }

pub pieces-preserved : goal.pieces-preserved
pieces-preserved g c =
    let got : List ℕ = take c.pieces.held c.pieces.buf.items in
    let window : c.head_window-window.result.now ≡ take max_head got = c.head_window-window.ensures ∙ ap (λ (z : List ℕ). take max_head (take c.pieces.held z)) c.deref.ensures.value in
    let few : c.pieces.held < 8192 = omega (arith, c.if-held-ge-MAX_HEAD.false) in
    let fits : c.pieces.held ≤ length c.pieces.buf.items = c.pieces.invariant.gathers.within in
    let len : length got ≡ c.pieces.held = omega (arith, length-take c.pieces.held c.pieces.buf.items, fits) in
    let short : EndsNoItem got = window_has_none got c.head_window-window.result.now window c.in_default.ensures.none (omega (arith, len, few)) in
    let all : take max_head got ≡ got = take_all max_head got (omega (arith, short.short)) in
    let skipped : c.skip_line_ends-skip.result ≡ line_ends got = c.skip_line_ends-skip.ensures ∙ ap line_ends (window ∙ all) in
    let more = c.in-Ok.ensures.within in
    record {
      size = c.receive.ensures.len ∙ c.pieces.invariant.size;
      moved = g.met.K.Link.link_goes_on c.args.k.now c.pieces.k c.receive.new.k c.pieces.invariant.moved c.receive.ensures.moved;
      gathers = gathers_more (g.K.Link.link c.args.k.now) (g.K.Link.link c.pieces.k) (g.K.Link.link c.receive.new.k) c.pieces.buf.items c.receive.new.buf.items c.pieces.held c.in-Ok.more
          c.pieces.invariant.gathers (length got + 1, inl (record { none = short; one = refl })) c.receive.ensures.front more.0 more.1 c.in-Ok.ensures.piece;
      knows = knows_more c.pieces.buf.items c.receive.new.buf.items c.pieces.held c.in-Ok.more c.skip_line_ends-skip.result c.receive.ensures.front more.0 fits few skipped
          (omega (arith, skipped, len, line_ends-fit got)) (subst (λ (n : ℕ). HasNoEnd got n) len short.none);
    }
