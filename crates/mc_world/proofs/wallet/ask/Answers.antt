use Rattle.std.proofs.Common.{sym, ap, ◌∙◌, ℕ}
use Rattle.mc_records.specs.Views.{entry}
use Rattle.wallet_core.specs.Asks.{asking_of}
use Rattle.wallet_core.specs.Requests.{pending_view, pend_of}
use Rattle.mc_world.proofs.Wallets.{raised_at, cannot_ask, no_answer, no_room_to_ask, has_asked}
use Rattle.mc_world.proofs.wallet.ask.Goals as goal

pub returns-then-not-can_be_asked : goal.returns-then-not-can_be_asked
returns-then-not-can_be_asked c =
    record { asks = cannot_ask c.args.limits c.args.history.now (asking_of c.args.ask.now) c.args.reading c.can_be_asked.result c.can_be_asked.ensures.can c.if-not-can_be_asked.true }

pub returns-in-Err : goal.returns-in-Err
returns-in-Err c =
    let at = raised_at c.args.limits c.args.history.now c.args.reading c.clamped.result c.in_ok-book.book c.raise-now.new.self c.in_ok-book.ensures.opened c.clamped.ensures c.raise-now.ensures.raised c.raise-now.ensures.limits c.raise-now.ensures.same in
    record { asks = no_answer c.args.limits c.args.history.now (asking_of c.args.ask.now) c.args.reading c.raise-now.new.self c.in-Err._no_funds at c.in-Err.ensures.exact }

pub returns-then-not-has_room : goal.returns-then-not-has_room
returns-then-not-has_room c =
    let at = raised_at c.args.limits c.args.history.now c.args.reading c.clamped.result c.in_ok-book.book c.raise-now.new.self c.in_ok-book.ensures.opened c.clamped.ensures c.raise-now.ensures.raised c.raise-now.ensures.limits c.raise-now.ensures.same in
    let is = c.pend_record-record.ensures.entry ∙ ap (λ (t : ℕ). pend_of t (pending_view c.in-Ok.request)) (c.raise-now.ensures.time ∙ sym c.raise-now.ensures.raised) in
    record {
      asks = no_room_to_ask c.args.limits c.args.history.now (asking_of c.args.ask.now) c.args.reading c.raise-now.new.self c.in-Ok.request (entry c.pend_record-record.result) at c.in-Ok.ensures.exact is
          (c.has_room.ensures.full c.args.history.now at.represents c.if-not-has_room.true);
    }

pub returns : goal.returns
returns c =
    let at = raised_at c.args.limits c.args.history.now c.args.reading c.clamped.result c.in_ok-book.book c.raise-now.new.self c.in_ok-book.ensures.opened c.clamped.ensures c.raise-now.ensures.raised c.raise-now.ensures.limits c.raise-now.ensures.same in
    let is = c.pend_record-record.ensures.entry ∙ ap (λ (t : ℕ). pend_of t (pending_view c.in-Ok.request)) (c.raise-now.ensures.time ∙ sym c.raise-now.ensures.raised) in
    record {
      asks = has_asked c.args.limits c.args.history.now (asking_of c.args.ask.now) c.args.reading c.raise-now.new.self c.in-Ok.request (entry c.pend_record-record.result) c.push.new.self c.in_ok-bytes.bytes.items at
          (c.can_be_asked.ensures.can.0 c.if-not-can_be_asked.false) c.in-Ok.ensures.exact is (c.has_room.ensures.room c.args.history.now at.represents c.if-not-has_room.false) c.in_ok-push.ensures.ok c.in_ok-bytes.ensures;
    }
