-- What is to be paid, and what is to be stated, is in order as a note; and such notes are short.
use Rattle.std.proofs.Common.{◌≡◌, ℕ, ◌+◌, ◌≤◌, ◌<◌, ◌^◌, ◌∷◌, ◌++◌, length, Option, Ok, sym, subst, arith}
use Rattle.std.specs.Prelude.{codes, decimal, MatchOption}
use Rattle.std.proofs.lemmas.List.{length-append}
use Rattle.std.proofs.lemmas.Fmt.{length-decimal-le_wide}
use Rattle.mc_fields.specs.Texts.{IsNumber}
use Rattle.mc_requests.specs.declared.limits.Limits.{Limits}
use Rattle.mc_records.specs.Entry.{Note}
use Rattle.ledger_model.specs.Histories.{History}
use Rattle.ledger_model.specs.Lawful.{IsLawful}
use Rattle.settle_core.specs.declared.claim.Claim.{Claim}
use Rattle.settle_core.specs.declared.claim.Payment.{Payment}
use Rattle.settle_core.specs.declared.claim.Statement.{Statement}
use Rattle.settle_core.specs.Claims.{ClaimFits, PaymentFits, claim_text, payment_text}
use Rattle.settle_core.specs.Settlement.{StatedInOrder, PaidInOrder, IsInOrder}
use Rattle.settle_core.specs.Statements.{StatementFits}
use Rattle.settle_core.specs.Tasks.{claim_at, pay_lines, state_lines}
use Rattle.settle_core.proofs.TextLaws.{claim_read, payment_read}
use Rattle.settle_core.proofs.CountLaws.{redeemed_most}
use Rattle.settle_core.proofs.TaskLaws.{paid_in_order, stated_in_order}

-- what was redeemed of a series can be stated
pub claim_fits : (limits : Limits) (v : History) (issuer epoch : ℕ) → IsLawful limits v → IsNumber 255 issuer → epoch < 2 ^ 24 → ClaimFits (claim_at v issuer epoch)
claim_fits limits v issuer epoch lawful some short = record { issuer' = some; epoch' = short; amount' = redeemed_most limits v issuer epoch lawful }

pub stated_note : (limits : Limits) (v : History) (t issuer epoch : ℕ) (c : Claim) → IsLawful limits v → IsNumber 255 issuer → epoch < 2 ^ 24 → state_lines v t issuer epoch ≡ Ok c → IsInOrder v (Note t (codes "stated") (claim_text c))
stated_note limits v t issuer epoch c lawful some short is =
    let x = stated_in_order v t issuer epoch c is in
    let its : ClaimFits c = subst ClaimFits (sym x.0) (claim_fits limits v issuer epoch lawful some short) in
    let order : StatedInOrder v t c = subst (StatedInOrder v t) (sym x.0) x.1 in
    record { stated = subst (λ (o : Option Claim). MatchOption o ⊥ (StatedInOrder v t)) (sym (claim_read c its)) order; paid = tt }

pub paid_note : (b : History) (t : ℕ) (s : Statement) (p : Payment) → StatementFits s → pay_lines b t (Ok s) ≡ Ok p → IsInOrder b (Note t (codes "pay") (payment_text p))
paid_note b t s p fits is =
    let x = paid_in_order b t s p is in
    let its : PaymentFits p = subst PaymentFits x.0 fits.payment' in
    let order : PaidInOrder b t p = subst (PaidInOrder b t) x.0 x.1 in
    record { stated = tt; paid = subst (λ (o : Option Payment). MatchOption o ⊥ (PaidInOrder b t)) (sym (payment_read p its)) order }

-- ---- lengths

pub claim_short : (c : Claim) → ClaimFits c → length (claim_text c) ≤ 36
claim_short c fits =
    let issuer = length-decimal-le_wide 3 c.issuer (omega arith) (omega (arith, fits.issuer'.within)) (omega (arith, fits.issuer'.within)) in
    let epoch = length-decimal-le_wide 8 c.epoch (omega arith) (omega (arith, fits.epoch')) (omega (arith, fits.epoch')) in
    let amount = length-decimal-le_wide 22 c.amount (omega arith) (omega (arith, fits.amount')) (omega (arith, fits.amount')) in
    let a = length-append (decimal c.issuer) (32 ∷ (decimal c.epoch ++ 32 ∷ decimal c.amount)) in
    let b = length-append (decimal c.epoch) (32 ∷ decimal c.amount) in
    omega (arith, issuer, epoch, amount, a, b)

pub payment_short : (p : Payment) → PaymentFits p → length (payment_text p) ≤ 100
payment_short p fits =
    let claim = claim_short p.claim fits.claim' in
    let a = length-append p.vendor (32 ∷ claim_text p.claim) in
    omega (arith, claim, a, fits.vendor'.short)
