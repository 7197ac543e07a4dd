use Rattle.std.proofs.Common.{◌∙◌, ◌+◌, ◌<◌, ◌≤◌, ℕ, Err, sym, ap, arith}
use Rattle.mc_requests.specs.declared.limits.Limits.{Limits}
use Rattle.mc_requests.specs.declared.refusal.Refusal.{Refusal}
use Rattle.mc_requests.specs.declared.refusal.Refusal.TheVariants.{JournalFull}
use Rattle.mc_records.specs.declared.sizes.TheConstants.{FRAME}
use Rattle.mc_records.specs.Sizes.{tail_bytes}
use Rattle.ledger_model.specs.Lines.{Refuse}
use Rattle.wallet_core.proofs.EnterLaws.{fits, is_full}
use Rattle.wallet_core.proofs.entering.room_for.Goals as goal

pub returns-in-Ok-clause-fitted : goal.returns-in-Ok-clause-fitted
returns-in-Ok-clause-fitted c = λ h e is long.
    let b = c.args.book.now in
    let n = c.args.bytes in
    let within : b.size + n + tail_bytes b.switched + FRAME ≤ b.limits.journal =
    omega (arith, c.in-Ok.ensures.fits, ap tail_bytes c.is_switched.ensures, c.size.ensures, ap (λ (l : Limits). l.journal) c.limits-limit.ensures) in
    fits b h e n is long within

pub returns-in-Err-clause-fitted : goal.returns-in-Err-clause-fitted
returns-in-Err-clause-fitted c = λ h e is long.
    let b = c.args.book.now in
    let n = c.args.bytes in
    let over : b.limits.journal < b.size + n + tail_bytes b.switched + FRAME =
    omega (arith, c.in-Err.ensures.full.1, ap tail_bytes c.is_switched.ensures, c.size.ensures, ap (λ (l : Limits). l.journal) c.limits-limit.ensures) in
    is_full b h e n is long over
    ∙ ap (λ (f : Refusal). Err (Refuse f)) (sym (c.in-Err.ensures.full.0 ∙ ap (λ (s : ℕ). JournalFull s n) c.size.ensures))
