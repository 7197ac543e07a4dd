use Rattle.std.proofs.Common.{◌≡◌, ◌+◌, refl, sym, ap, subst, ◌∙◌, List, ℕ, length}
use Rattle.std.specs.Prelude.{slice_range}
use Rattle.reply_reader.specs.declared.reader.TheConstants.{REPLY_ROOM}
use Rattle.reply_reader.specs.Said.{HeadSaid, HeadSays, SaysNothing}
use Rattle.reply_reader.specs.Replies.{received_with}
use Rattle.reply_reader.specs.Places.{said_at}
use Rattle.reply_reader.proofs.TakeLemmas.{took_no_head, took_bad, Comes, took_less, took_whole, text_stays}
use Rattle.reply_reader.proofs.reader.ReplyReader.take.Goals as goal

pub returns-in-Err : goal.returns-in-Err
returns-in-Err g c =
    let size : length c.await_head.new.buf.items ≡ REPLY_ROOM = c.await_head.ensures.len ∙ c.self.invariant in (
      (refl, λ _. tt, took_no_head (g.K.Link.link c.args.k.now) (g.K.Link.link c.await_head.new.k) c.await_head.new.buf.items c.in-Err.fault c.in-Err.ensures.arrives size),
      record { moved = c.await_head.ensures.moved; took = tt },
    )

pub returns-in-None : goal.returns-in-None
returns-in-None g c =
    let size : length c.await_head.new.buf.items ≡ REPLY_ROOM = c.await_head.ensures.len ∙ c.self.invariant in
    let none : SaysNothing (slice_range c.await_head.new.buf.items c.in-Ok.head.skip c.in-Ok.head.end) =
    subst (λ (z : List ℕ). SaysNothing (slice_range z c.in-Ok.head.skip c.in-Ok.head.end)) c.deref.ensures.value c.in-None.ensures.none in (
      (refl, λ _. tt, took_bad (g.K.Link.link c.args.k.now) (g.K.Link.link c.await_head.new.k) c.await_head.new.buf.items c.in-Ok.head c.in-Ok.ensures.arrives size none),
      record { moved = c.await_head.ensures.moved; took = tt },
    )

pub returns-in-Err-await_contents : goal.returns-in-Err-await_contents
returns-in-Err-await_contents g c =
    let old : List ℕ = c.await_head.new.buf.items in
    let x : HeadSaid = said_at (slice_range c.deref.result.now c.in-Ok.head.skip c.in-Ok.head.end) c.in-Some.places in
    let comes : Comes (g.K.Link.link c.args.k.now) (g.K.Link.link c.await_head.new.k) old c.await_contents.new.buf.items c.in-Ok.head x = record {
      head = c.in-Ok.ensures.arrives;
      size = c.await_head.ensures.len ∙ c.self.invariant;
      len = c.await_contents.ensures.len;
      says = subst (λ (z : List ℕ). HeadSays (slice_range z c.in-Ok.head.skip c.in-Ok.head.end) x) c.deref.ensures.value c.in-Some.ensures.says;
    } in (
      (refl, λ _. tt, took_less (g.K.Link.link c.args.k.now) (g.K.Link.link c.await_head.new.k) (g.K.Link.link c.await_contents.new.k) old c.await_contents.new.buf.items c.in-Ok.head x c.in-Err-await_contents.fault comes c.in-Err-await_contents.ensures.arrives),
      record { moved = g.met.K.Link.link_goes_on c.args.k.now c.await_head.new.k c.await_contents.new.k c.await_head.ensures.moved c.await_contents.ensures.moved; took = tt },
    )

pub returns : goal.returns
returns g c =
    let old : List ℕ = c.await_head.new.buf.items in
    let new : List ℕ = c.await_contents.new.buf.items in
    let skip : ℕ = c.in-Ok.head.skip in
    let end : ℕ = c.in-Ok.head.end in
    let whole : ℕ = c.in-Ok.head.end + c.in-Some.places.length in
    let x : HeadSaid = said_at (slice_range c.deref.result.now c.in-Ok.head.skip c.in-Ok.head.end) c.in-Some.places in
    let comes : Comes (g.K.Link.link c.args.k.now) (g.K.Link.link c.await_head.new.k) old new c.in-Ok.head x = record {
      head = c.in-Ok.ensures.arrives;
      size = c.await_head.ensures.len ∙ c.self.invariant;
      len = c.await_contents.ensures.len;
      says = subst (λ (z : List ℕ). HeadSays (slice_range z c.in-Ok.head.skip c.in-Ok.head.end) x) c.deref.ensures.value c.in-Some.ensures.says;
    } in
    let text : slice_range c.deref-2.result.now skip end ≡ slice_range c.deref.result.now skip end =
    ap (λ (z : List ℕ). slice_range z skip end) c.deref-2.ensures.value
    ∙ text_stays old new skip end c.in-Ok.head.held c.in-Ok.ensures.order.front c.in-Ok.ensures.order.held c.in-Ok-await_contents.ensures.arrives.front
    ∙ ap (λ (z : List ℕ). slice_range z skip end) (sym c.deref.ensures.value) in
    let is = c.reply.ensures
    ∙ ap (λ (t : List ℕ). received_with (said_at t c.in-Some.places) (slice_range c.deref-3.result.now end whole)) text
    ∙ ap (λ (z : List ℕ). received_with x (slice_range z end whole)) c.deref-3.ensures.value in (
      (refl, λ _. tt, took_whole (g.K.Link.link c.args.k.now) (g.K.Link.link c.await_head.new.k) (g.K.Link.link c.await_contents.new.k) old new c.in-Ok.head x tt _ comes c.in-Ok-await_contents.ensures.arrives is),
      record { moved = g.met.K.Link.link_goes_on c.args.k.now c.await_head.new.k c.await_contents.new.k c.await_head.ensures.moved c.await_contents.ensures.moved; took = tt },
    )
