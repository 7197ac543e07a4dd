use Rattle.std.proofs.Common.{◌+◌, ◌<◌, ◌≤◌, ap, arith}
use Rattle.mc_requests.specs.declared.limits.Limits.{Limits}
use Rattle.mc_records.specs.declared.sizes.TheConstants.{FRAME}
use Rattle.mc_records.specs.Sizes.{size, entry_size, tail_bytes}
use Rattle.mc_records.specs.Views.{entry}
use Rattle.wallet_book.proofs.BookLaws.{long_entry}
use Rattle.wallet_core.proofs.EnterLaws.{fits, not_full}
use Rattle.mc_world.proofs.wallet.has_room.Goals as goal

pub returns-in-Ok-clause-room : goal.returns-in-Ok-clause-room
returns-in-Ok-clause-room c = λ h is yes.
    let b = c.args.book.now in
    let n = c.payload_len-payload.result in
    let within : b.size + n + tail_bytes b.switched + FRAME ≤ b.limits.journal =
    omega (arith, c.in-Ok.ensures.fits, ap tail_bytes c.is_switched.ensures, c.size.ensures, ap (λ (l : Limits). l.journal) c.limits.ensures) in
    fits b h (entry c.args.r.now) n is c.payload_len-payload.ensures within

pub returns-in-Err-clause-full : goal.returns-in-Err-clause-full
returns-in-Err-clause-full c = λ h is no room.
    let b = c.args.book.now in
    let e = entry c.args.r.now in
    let past : b.limits.journal < size h + entry_size h e =
    omega (arith, c.in-Err.ensures.full.1, ap tail_bytes c.is_switched.ensures, c.size.ensures, ap (λ (l : Limits). l.journal) c.limits.ensures, long_entry h e, ap tail_bytes is.switched, is.sized, c.payload_len-payload.ensures) in
    not_full b h e room past
