-- What is judged of a statement, line by line.
use Rattle.std.proofs.Common.{◌≡◌, ℕ, ◌<◌, ◌≤◌, Bool, true, false, not, List, Option, Some, None, Result, Ok, Err, sym, ap, ◌∙◌, bytes_eq, eqb, ltb, option_and_then, ap₂, arith}
use Rattle.std.specs.Prelude.{if◌then◌else◌, ◌==◌, IfErr, IsTrue}
use Rattle.std.specs.List.{list_any, list_all}
use Rattle.std.proofs.lemmas.Bool.{lt-ltb, le-ltb, eq-eqb, false_from_ne_true, eqb-true}
use Rattle.scrip_form.specs.Issuing.{Issuing, series_end}
use Rattle.mc_requests.specs.declared.refusal.Refusal.{Refusal}
use Rattle.mc_requests.specs.declared.refusal.Refusal.TheVariants.{NoVendor, BadStatement, PaidTwice, SeriesOpen, OverSold}
use Rattle.ledger_model.specs.Histories.{History}
use Rattle.ledger_model.specs.Stock.{licence_in, of_issuer}
use Rattle.ledger_model.specs.Lines.{Stop, Refuse, Repeat, ◌>>=◌, given, refused_if}
use Rattle.house_core.specs.Refusing.{IsAmong}
use Rattle.house_core.proofs.RefusingLemmas.{among_more}
use Rattle.settle_core.specs.declared.claim.Payment.{Payment}
use Rattle.settle_core.specs.declared.claim.Statement.{Statement}
use Rattle.settle_core.specs.Claims.{statement_cert}
use Rattle.settle_core.specs.Settlement.{paid_amount, sold_under}
use Rattle.settle_core.specs.Tasks.{paid_before, paid_by_terms, pay_lines}

-- a refusal of some numbers is one of more
pub err_more : {A : Type 0} (ns ms : List ℕ) (r : Result A Refusal) → IsTrue (list_all (λ n. list_any (λ m. m == n) ms) ns) → IfErr r (IsAmong ns) → IfErr r (IsAmong ms)
err_more ns ms (Ok x) all is = tt
err_more ns ms (Err f) all is = among_more ns ms f all is

-- ---- 43 and 75

abbrev behind_licence : History → ℕ → Statement → Issuing → Result Payment Stop
behind_licence h t s terms = refused_if (not (bytes_eq s.cert (statement_cert terms s.payment))) BadStatement >>= λ _. paid_by_terms h t s.payment terms

abbrev by_licence : History → ℕ → Statement → Option Issuing → Result Payment Stop
by_licence h t s o = given (option_and_then (of_issuer s.payment.claim.issuer) o) NoVendor >>= behind_licence h t s

pub no_licence : (h : History) (t : ℕ) (s : Statement) → licence_in h s.payment.vendor ≡ None → Err (Refuse NoVendor) ≡ pay_lines h t (Ok s)
no_licence h t s none = sym (ap (by_licence h t s) none)

abbrev if_of : History → ℕ → Statement → Issuing → Bool → Result Payment Stop
if_of h t s terms b = given (if b then Some terms else None) NoVendor >>= behind_licence h t s

pub other_issuer : (h : History) (t : ℕ) (s : Statement) (terms : Issuing) → licence_in h s.payment.vendor ≡ Some terms → (terms.issuer ≡ s.payment.claim.issuer → ⊥) → Err (Refuse NoVendor) ≡ pay_lines h t (Ok s)
other_issuer h t s terms some other =
    sym (ap (by_licence h t s) some ∙ ap (if_of h t s terms) (false_from_ne_true (eqb terms.issuer s.payment.claim.issuer) (λ e. other (eqb-true terms.issuer s.payment.claim.issuer e))))

under : (h : History) (t : ℕ) (s : Statement) (terms : Issuing) → licence_in h s.payment.vendor ≡ Some terms → terms.issuer ≡ s.payment.claim.issuer → pay_lines h t (Ok s) ≡ behind_licence h t s terms
under h t s terms some same = ap (by_licence h t s) some ∙ ap (if_of h t s terms) (eq-eqb terms.issuer s.payment.claim.issuer same)

pub bad_cert : (h : History) (t : ℕ) (s : Statement) (terms : Issuing) → licence_in h s.payment.vendor ≡ Some terms → terms.issuer ≡ s.payment.claim.issuer
    → bytes_eq s.cert (statement_cert terms s.payment) ≡ false → Err (Refuse BadStatement) ≡ pay_lines h t (Ok s)
bad_cert h t s terms some same bad =
    sym (under h t s terms some same ∙ ap (λ (b : Bool). refused_if (not b) BadStatement >>= λ _. paid_by_terms h t s.payment terms) bad)

pub certified : (h : History) (t : ℕ) (s : Statement) (terms : Issuing) → licence_in h s.payment.vendor ≡ Some terms → terms.issuer ≡ s.payment.claim.issuer
    → bytes_eq s.cert (statement_cert terms s.payment) ≡ true → pay_lines h t (Ok s) ≡ paid_by_terms h t s.payment terms
certified h t s terms some same right =
    under h t s terms some same ∙ ap (λ (b : Bool). refused_if (not b) BadStatement >>= λ _. paid_by_terms h t s.payment terms) right

-- ---- the same again, 76, 74, 77

abbrev behind_paid : History → ℕ → Payment → Issuing → Unit {0} → Result Payment Stop
behind_paid h t p terms u =
    refused_if (ltb t (series_end terms p.claim.epoch)) (SeriesOpen (series_end terms p.claim.epoch) t)
    >>= λ _. refused_if (ltb (sold_under h p.vendor p.claim.issuer p.claim.epoch) p.claim.amount) (OverSold (sold_under h p.vendor p.claim.issuer p.claim.epoch))
    >>= λ _. Ok p

abbrev by_paid : History → ℕ → Payment → Issuing → Option ℕ → Result Payment Stop
by_paid h t p terms o = paid_before p.claim.amount o >>= behind_paid h t p terms

abbrev if_same : History → ℕ → Payment → Issuing → ℕ → Bool → Result Payment Stop
if_same h t p terms paid b = (if b then Err (Repeat p.claim.amount) else Err (Refuse (PaidTwice paid))) >>= behind_paid h t p terms

pub paid_same : (h : History) (t : ℕ) (p : Payment) (terms : Issuing) (paid : ℕ) → paid_amount h p.vendor p.claim.issuer p.claim.epoch ≡ Some paid → paid ≡ p.claim.amount → Err (Repeat p.claim.amount) ≡ paid_by_terms h t p terms
paid_same h t p terms paid some same = sym (ap (by_paid h t p terms) some ∙ ap (if_same h t p terms paid) (eq-eqb paid p.claim.amount same))

pub paid_other : (h : History) (t : ℕ) (p : Payment) (terms : Issuing) (paid : ℕ) → paid_amount h p.vendor p.claim.issuer p.claim.epoch ≡ Some paid → (paid ≡ p.claim.amount → ⊥) → Err (Refuse (PaidTwice paid)) ≡ paid_by_terms h t p terms
paid_other h t p terms paid some other =
    sym (ap (by_paid h t p terms) some ∙ ap (if_same h t p terms paid) (false_from_ne_true (eqb paid p.claim.amount) (λ e. other (eqb-true paid p.claim.amount e))))

pub still_open : (h : History) (t : ℕ) (p : Payment) (terms : Issuing) (end now : ℕ) → paid_amount h p.vendor p.claim.issuer p.claim.epoch ≡ None → end ≡ series_end terms p.claim.epoch → now ≡ t → now < end
    → Err (Refuse (SeriesOpen end now)) ≡ paid_by_terms h t p terms
still_open h t p terms end now none is same early =
    let last = series_end terms p.claim.epoch in
    let before : t < series_end terms p.claim.epoch = omega (arith, is, same, early) in
    let sold = sold_under h p.vendor p.claim.issuer p.claim.epoch in
    ap₂ (λ (e n : ℕ). refusal (SeriesOpen e n)) is same
    ∙ sym (ap (by_paid h t p terms) none ∙ ap (λ (b : Bool). refused_if b (SeriesOpen last t) >>= λ _. refused_if (ltb sold p.claim.amount) (OverSold sold) >>= λ _. Ok p) (lt-ltb t last before))
  where
    refusal : Refusal → Result Payment Stop
    refusal f = Err (Refuse f)

ended : (h : History) (t : ℕ) (p : Payment) (terms : Issuing) → paid_amount h p.vendor p.claim.issuer p.claim.epoch ≡ None → series_end terms p.claim.epoch ≤ t
    → paid_by_terms h t p terms ≡ (refused_if (ltb (sold_under h p.vendor p.claim.issuer p.claim.epoch) p.claim.amount) (OverSold (sold_under h p.vendor p.claim.issuer p.claim.epoch)) >>= λ _. Ok p)
ended h t p terms none late =
    let end = series_end terms p.claim.epoch in
    let sold = sold_under h p.vendor p.claim.issuer p.claim.epoch in
    ap (by_paid h t p terms) none ∙ ap (λ (b : Bool). refused_if b (SeriesOpen end t) >>= λ _. refused_if (ltb sold p.claim.amount) (OverSold sold) >>= λ _. Ok p) (le-ltb t end late)

abbrev checked : Payment → ℕ → Bool → Result Payment Stop
checked p sold b = refused_if b (OverSold sold) >>= λ _. Ok p

pub over_sold : (h : History) (t : ℕ) (p : Payment) (terms : Issuing) (sold : ℕ) → paid_amount h p.vendor p.claim.issuer p.claim.epoch ≡ None → series_end terms p.claim.epoch ≤ t
    → sold ≡ sold_under h p.vendor p.claim.issuer p.claim.epoch → sold < p.claim.amount → Err (Refuse (OverSold sold)) ≡ paid_by_terms h t p terms
over_sold h t p terms sold none late is above =
    sym (ended h t p terms none late ∙ ap (λ (n : ℕ). checked p n (ltb n p.claim.amount)) (sym is) ∙ ap (checked p sold) (lt-ltb sold p.claim.amount above))

pub is_due : (h : History) (t : ℕ) (p : Payment) (terms : Issuing) (sold : ℕ) → paid_amount h p.vendor p.claim.issuer p.claim.epoch ≡ None → series_end terms p.claim.epoch ≤ t
    → sold ≡ sold_under h p.vendor p.claim.issuer p.claim.epoch → p.claim.amount ≤ sold → Ok p ≡ paid_by_terms h t p terms
is_due h t p terms sold none late is covered =
    sym (ended h t p terms none late ∙ ap (λ (n : ℕ). checked p n (ltb n p.claim.amount)) (sym is) ∙ ap (checked p sold) (le-ltb sold p.claim.amount covered))
