-- A note may follow, and passes a counted trade's test where it is in order.
use Rattle.std.proofs.Common.{◌≡◌, ℕ, ◌+◌, ◌^◌, ◌<◌, ◌≤◌, true, List, ◌∷◌, ◌++◌, length, Option, Some, refl, sym, subst, arith}
use Rattle.std.specs.Prelude.{IsSome, codes, decimal}
use Rattle.std.proofs.lemmas.Fmt.{length-decimal-le_wide}
use Rattle.std.proofs.lemmas.List.{length-append}
use Rattle.mc_fields.proofs.TextTest.{text_decides}
use Rattle.mc_fields.specs.Texts.{is_text}
use Rattle.scrip_form.specs.Texts.{is_letter_or_digit, is_name_byte, IsName, is_name}
use Rattle.mc_requests.specs.declared.limits.Limits.{Limits}
use Rattle.mc_records.specs.Entry.{Entry, Note}
use Rattle.ledger_model.specs.Histories.{History, time}
use Rattle.ledger_model.specs.Houses.{site_kind}
use Rattle.ledger_model.specs.Lawful.{MayFollow}
use Rattle.house_state.specs.Learning.{Test, Passes}
use Rattle.settle_core.specs.declared.claim.Claim.{Claim}
use Rattle.settle_core.specs.Claims.{claim_text}
use Rattle.settle_core.specs.Settlement.{IsInOrder}
use Rattle.counted_trade.specs.Counted.{PassesBoth}

pub note_follows : (limits : Limits) (h : History) (t kind : ℕ) (tag bytes : List ℕ) (e : Entry) → e ≡ Note t tag bytes → time h ≤ t → site_kind h ≡ Some kind → MayFollow limits h e
note_follows limits h t kind tag bytes e same late site = subst (MayFollow limits h) (sym same) (record { in_order = late; allowed = subst (λ (o : Option ℕ). IsSome o) (sym site) refl })

pub note_passes : (inner : Test) (h : History) (t : ℕ) (tag bytes : List ℕ) (e : Entry) → e ≡ Note t tag bytes → inner h (Note t tag bytes) → IsInOrder h (Note t tag bytes) → Passes (PassesBoth inner) h e
note_passes inner h t tag bytes e same passes order = subst (Passes (PassesBoth inner) h) (sym same) (record { inner' = passes; in_order = order })

-- ---- the text of a claim is short, whatever it claims

pub claim_text_short : (c : Claim) → c.issuer < 2 ^ 8 → c.epoch < 2 ^ 24 → c.amount < 2 ^ 128 → length (claim_text c) ≤ 60
claim_text_short c byte three most =
    let issuer = length-decimal-le_wide 3 c.issuer (omega arith) (omega (arith, byte)) (omega (arith, byte)) in
    let epoch = length-decimal-le_wide 8 c.epoch (omega arith) (omega (arith, three)) (omega (arith, three)) in
    let amount = length-decimal-le_wide 39 c.amount (omega arith) (omega (arith, most)) (omega (arith, most)) in
    let a = length-append (decimal c.issuer) (32 ∷ (decimal c.epoch ++ 32 ∷ decimal c.amount)) in
    let b = length-append (decimal c.epoch) (32 ∷ decimal c.amount) in
    omega (arith, issuer, epoch, amount, a, b)

-- ---- the tags are names

stated_passes : is_name (codes "stated") ≡ true
unfolding is_text
stated_passes = refl

pay_passes : is_name (codes "pay") ≡ true
unfolding is_text
pay_passes = refl

pub stated_name : IsName (codes "stated")
stated_name = (text_decides is_letter_or_digit is_name_byte 1 63 (codes "stated")).0 stated_passes

pub pay_name : IsName (codes "pay")
pay_name = (text_decides is_letter_or_digit is_name_byte 1 63 (codes "pay")).0 pay_passes
