use Rattle.std.proofs.Common.{sym, ◌∙◌}
use Rattle.mc_records.specs.Views.{entry}
use Rattle.reply_reader.specs.Seen.{received_of}
use Rattle.mc_world.proofs.Wallets.{raised_at, bad_reply, short_reply, not_kept, not_checked, no_room_to_settle, has_settled, is_none}
use Rattle.mc_world.proofs.wallet.take_reply.Goals as goal

pub returns-in-Bad : goal.returns-in-Bad
returns-in-Bad c =
    record { settles = bad_reply c.args.limits c.args.history.now c.args.reply.now c.args.number c.args.reading c.in-Bad.ensures }

pub returns-in-Short : goal.returns-in-Short
returns-in-Short c =
    record { settles = short_reply c.args.limits c.args.history.now c.args.reply.now c.args.number c.args.reading c.in-Short._needed c.in-Short.ensures }

pub returns-in-None : goal.returns-in-None
returns-in-None c =
    record { settles = not_kept c.args.limits c.args.history.now c.args.reply.now c.args.number c.args.reading (c.in-None.ensures c.args.history.now c.in_ok-book.ensures.opened.represents) }

pub returns-then-is_some : goal.returns-then-is_some
returns-then-is_some c =
    record {
      settles = not_checked c.args.limits c.args.history.now c.args.reply.now c.args.number c.args.reading c.in-Some.request (received_of c.in-Whole.read) c.check_reply.result (c.in-Some.ensures c.args.history.now c.in_ok-book.ensures.opened.represents)
          c.in-Whole.ensures c.check_reply.ensures (sym c.is_some.ensures ∙ c.if-is_some.true);
    }

pub returns-then-not-has_room : goal.returns-then-not-has_room
returns-then-not-has_room c =
    let at = raised_at c.args.limits c.args.history.now c.args.reading c.clamped.result c.in_ok-book.book c.raise.new.self c.in_ok-book.ensures.opened c.clamped.ensures c.raise.ensures.raised c.raise.ensures.limits c.raise.ensures.same in
    record {
      settles = no_room_to_settle c.args.limits c.args.history.now c.args.reply.now c.args.number c.args.reading c.raise.new.self c.in-Some.request (received_of c.in-Whole.read) (entry c.settlement_record-settled.result) at
          (c.in-Some.ensures c.args.history.now c.in_ok-book.ensures.opened.represents) c.in-Whole.ensures (c.settlement_record-settled.ensures.exact c.args.history.now at.represents)
          (c.has_room.ensures.full c.args.history.now at.represents c.if-not-has_room.true);
    }

pub returns : goal.returns
returns c =
    let at = raised_at c.args.limits c.args.history.now c.args.reading c.clamped.result c.in_ok-book.book c.raise.new.self c.in_ok-book.ensures.opened c.clamped.ensures c.raise.ensures.raised c.raise.ensures.limits c.raise.ensures.same in
    record {
      settles = has_settled c.args.limits c.args.history.now c.args.reply.now c.args.number c.args.reading c.raise.new.self c.in-Some.request (received_of c.in-Whole.read) (entry c.settlement_record-settled.result) c.push.new.self at
          (c.in-Some.ensures c.args.history.now c.in_ok-book.ensures.opened.represents) c.in-Whole.ensures (sym c.check_reply.ensures ∙ is_none c.check_reply.result (sym c.is_some.ensures ∙ c.if-is_some.false)) (c.settlement_record-settled.ensures.exact c.args.history.now at.represents)
          (c.has_room.ensures.room c.args.history.now at.represents c.if-not-has_room.false) c.in_ok-push.ensures.ok;
    }
