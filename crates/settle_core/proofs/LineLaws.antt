-- What a vendor says of a series is read as what the broker is to pay, and no longer input is a statement.
use Rattle.std.proofs.Common.{◌≡◌, ℕ, ◌^◌, ◌+◌, ◌<◌, ◌≤◌, List, [], ◌∷◌, ◌++◌, length, append-nil, Option, Some, None, Result, Ok, Err, refl, sym, ap, ◌∙◌, arith}
use Rattle.std.specs.List.{AllByRecursion}
use Rattle.std.proofs.lemmas.List.Elements.{recursion_from_All}
use Rattle.mc_fields.specs.Texts.{IsNumber}
use Rattle.scrip_form.specs.Issuing.{Issuing, series_end}
use Rattle.scrip_form.specs.Scrip.{IsCert}
use Rattle.scrip_form.specs.Texts.{IsName}
use Rattle.scrip_certs.specs.Digests.{certificate}
use Rattle.scrip_certs.proofs.DigestLaws.{length-digest, digest_below}
use Rattle.mc_requests.specs.declared.limits.Limits.{Limits}
use Rattle.mc_records.specs.Entry.{Entry, Site, Fits}
use Rattle.ledger_model.specs.declared.numbers.TheConstants.{VENDOR_KIND}
use Rattle.ledger_model.specs.Histories.{History}
use Rattle.ledger_model.specs.Houses.{site_name, site_kind}
use Rattle.ledger_model.specs.Lawful.{IsLawful}
use Rattle.audit_model.specs.Books.{AreBooks, IsBook, IsHandedOut}
use Rattle.settle_core.specs.declared.claim.Payment.{Payment}
use Rattle.settle_core.specs.declared.claim.Statement.{Statement}
use Rattle.settle_core.specs.Claims.{statement_body, statement_cert, statement_line, payment_text}
use Rattle.settle_core.specs.Statements.{StatementFits, statement_text, statement_at, statement_input, told}
use Rattle.settle_core.specs.Tasks.{pay_lines}
use Rattle.settle_core.specs.Markets.{IsPaidAt, IsPaidByLine, payment_at}
use Rattle.settle_core.proofs.CountLaws.{redeemed_most}
use Rattle.settle_core.proofs.LineParts.{line_long}
use Rattle.settle_core.proofs.NoteOrders.{payment_short}
use Rattle.settle_core.proofs.StatementTexts.{statement_told, statement_read}
use Rattle.settle_core.proofs.TaskLaws.{statements_are_paid}

-- ---- a longer input

told_long : (o : Option (Statement × List ℕ)) (bytes : List ℕ) → 256 < length bytes → ((s : Statement) → o ≡ Some (s, []) → StatementFits s × (bytes ≡ statement_text s ++ [])) → (line : ℕ) × (told o ≡ Err line)
told_long None bytes long is = (1, refl)
told_long (Some (s, [])) bytes long is =
    let one = is s refl in
    let short = payment_short s.payment one.0.payment' in
    absurd (omega (arith, long, short, line_long s bytes one.0 (one.1 ∙ append-nil (statement_text s))))
told_long (Some (s, b ∷ rest)) bytes long is = (2, refl)

pub long_breaks : (bytes : List ℕ) → 256 < length bytes → (line : ℕ) × (statement_input bytes ≡ Err line)
long_breaks [] long = (0, refl)
long_breaks (b ∷ bytes) long = told_long (statement_at (b ∷ bytes)) (b ∷ bytes) long (λ s is. statement_told (b ∷ bytes) s [] is)

-- ---- what is said is read

cert_is : (terms : Issuing) (p : Payment) → IsCert (statement_cert terms p)
unfolding certificate
cert_is terms p = (length-digest _ _, recursion_from_All (λ b. b < 256) _ (digest_below _ _))

name_is : (limits : Limits) (v : History) → IsBook limits VENDOR_KIND v → IsName (site_name v)
name_is limits [] book = absurd book.lawful
name_is limits (Site m kind name house ∷ es) book = book.fits.0.name
name_is limits (e ∷ es) book = absurd (let k = book.site in cc)

line_read : (s : Statement) (b : ℕ) (bytes : List ℕ) → statement_text s ≡ b ∷ bytes → StatementFits s → statement_input (statement_text s) ≡ Ok s
line_read s b bytes is fits =
    let again : statement_at (b ∷ bytes) ≡ Some (s, []) = ap statement_at (sym is ∙ sym (append-nil (statement_text s))) ∙ statement_read s [] fits in
    ap statement_input is ∙ ap told again

one_by_line : (limits : Limits) (b : History) (t issuer epoch : ℕ) (v : History) → IsNumber 255 issuer → epoch < 2 ^ 24 → IsBook limits VENDOR_KIND v → IsPaidAt b t issuer epoch v → IsPaidByLine b t issuer epoch v
one_by_line limits b t issuer epoch v number small book paid terms stand licence ended none =
    let p = payment_at v issuer epoch in
    let s : Statement = record { payment = p; cert = statement_cert terms p } in
    let fits : StatementFits s = record {
      payment' = record { vendor' = name_is limits v book; claim' = record { issuer' = number; epoch' = small; amount' = redeemed_most limits v issuer epoch book.lawful } };
      cert' = cert_is terms p;
    } in
    ap (pay_lines b t) (line_read s _ _ refl fits) ∙ paid terms stand licence ended none

all_by_line : (limits : Limits) (b : History) (t issuer epoch : ℕ) (vs : List History) → IsNumber 255 issuer → epoch < 2 ^ 24 → AllByRecursion (IsBook limits VENDOR_KIND) vs → AllByRecursion (IsPaidAt b t issuer epoch) vs → AllByRecursion (IsPaidByLine b t issuer epoch) vs
all_by_line limits b t issuer epoch [] number small books paid = tt
all_by_line limits b t issuer epoch (v ∷ vs) number small books paid = (one_by_line limits b t issuer epoch v number small books.0 paid.0, all_by_line limits b t issuer epoch vs number small books.1 paid.1)

pub lines_are_paid : (limits : Limits) (b : History) (vs : List History) (t issuer epoch : ℕ) → limits.series ≤ 2 ^ 32 → AreBooks limits b vs → IsHandedOut b vs → IsNumber 255 issuer → epoch < 2 ^ 24 → AllByRecursion (IsPaidByLine b t issuer epoch) vs
lines_are_paid limits b vs t issuer epoch le books handed number small =
    all_by_line limits b t issuer epoch vs number small books.vendors (statements_are_paid limits b vs t issuer epoch le books handed number.some)
