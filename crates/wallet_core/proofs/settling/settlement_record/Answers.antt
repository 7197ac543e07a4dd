use Rattle.std.proofs.Common.{ℕ, ◌<◌, ◌^◌, ◌∙◌, sym, ap₂, subst, arith}
use Rattle.mc_records.specs.Entry.{IsMoment}
use Rattle.millicent_http.specs.Received.{Received}
use Rattle.reply_reader.specs.Seen.{received_of}
use Rattle.wallet_book.specs.Holdings.{texts_of}
use Rattle.wallet_core.specs.Requests.{pending_view, CanEnter}
use Rattle.wallet_core.specs.Settled.{settlement_with}
use Rattle.wallet_core.proofs.SettledLaws.{settled_here, settlement_enters}
use Rattle.wallet_core.proofs.settling.settlement_record.Goals as goal

pub returns-clause-told : goal.returns-clause-told
returns-clause-told c =
    let b = c.args.book.now in
    c.settled_entry.ensures ∙ ap₂ (λ (t : ℕ) (r : Received). settlement_with (texts_of b.holdings) t c.args.number (pending_view c.args.p.now) r) c.time-moment.ensures c.of.ensures.reply

pub returns-clause-exact : goal.returns-clause-exact
returns-clause-exact c = λ h is.
    let b = c.args.book.now in
    returns-clause-told c ∙ settled_here b h b.time c.args.number (pending_view c.args.p.now) (received_of c.args.r.now) is

pub returns-clause-may : goal.returns-clause-may
returns-clause-may c = λ h is kept checked.
    let b = c.args.book.now in
    let long : c.args.number < 2 ^ 64 = omega (arith, c.ranges.number.fits) in
    let moment : IsMoment b.time = subst IsMoment c.time-moment.ensures c.seconds-seconds.ensures.last in
    subst (CanEnter h) (sym (returns-clause-exact c h is))
    (settlement_enters b h c.args.number (pending_view c.args.p.now) (received_of c.args.r.now) is moment long kept checked)
