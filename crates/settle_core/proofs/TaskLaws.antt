-- What is to be paid is in order, and a statement of a market in which all was handed out is paid.
use Rattle.std.proofs.Common.{◌≡◌, ℕ, ◌^◌, ◌≤◌, Bool, true, false, cond, not, List, [], ◌∷◌, Option, Some, None, Result, Ok, Err, refl, sym, ap, subst, ◌∙◌, bytes_eq, eqb, ltb, option_and_then}
use Rattle.std.specs.Prelude.{if◌then◌else◌}
use Rattle.std.specs.List.{AllByRecursion}
use Rattle.std.proofs.lemmas.Bool.{eqb-true, eq-eqb, ltb-false, le-ltb}
use Rattle.std.proofs.lemmas.Slice.Eq.{bytes_eq-Decides}
use Rattle.std.proofs.lemmas.Option.{same_Some}
use Rattle.scrip_form.specs.Issuing.{Issuing, series_end}
use Rattle.mc_requests.specs.declared.limits.Limits.{Limits}
use Rattle.mc_requests.specs.declared.refusal.Refusal.TheVariants.{NoVendor, BadStatement, PaidTwice, SeriesOpen, OverSold, NoTerms}
use Rattle.ledger_model.specs.Histories.{History}
use Rattle.ledger_model.specs.Houses.{site_name, all_terms, terms_in}
use Rattle.ledger_model.specs.Stock.{licence_in, of_issuer}
use Rattle.ledger_model.specs.Lines.{Stop, Refuse, Repeat, ◌>>=◌, given, refused_if}
use Rattle.ledger_model.proofs.ListLaws.{found_passes}
use Rattle.ledger_model.proofs.TableLaws.{line_ok, refused_ok, given_ok, ok_is}
use Rattle.audit_model.specs.Books.{AreBooks, IsHandedOut}
use Rattle.settle_core.specs.declared.claim.Claim.{Claim}
use Rattle.settle_core.specs.declared.claim.Payment.{Payment}
use Rattle.settle_core.specs.declared.claim.Statement.{Statement}
use Rattle.settle_core.specs.Claims.{statement_cert}
use Rattle.settle_core.specs.Settlement.{paid_amount, stated_amount, sold_under, PaidInOrder, StatedInOrder}
use Rattle.settle_core.specs.Markets.{IsCovered, IsPaidAt}
use Rattle.settle_core.specs.Tasks.{claim_at, licence_for, paid_before, paid_by_terms, pay_lines, stated_before, state_lines}
use Rattle.settle_core.proofs.MarketLaws.{covered}

-- ---- what was not before

before_none : (amount : ℕ) (o : Option ℕ) (u : Unit {0}) → paid_before amount o ≡ Ok u → o ≡ None
before_none amount None u e = refl
before_none amount (Some paid) u e = go (eqb paid amount) e
  where
    again : Bool → Result (Unit {0}) Stop
    again b = if b then Err (Repeat amount) else Err (Refuse (PaidTwice paid))

    go : (b : Bool) → again b ≡ Ok u → Some paid ≡ None
    go true f = absurd cc
    go false f = absurd cc

stated_none : (o : Option ℕ) (u : Unit {0}) → stated_before o ≡ Ok u → o ≡ None
stated_none None u e = refl
stated_none (Some amount) u e = absurd cc

licence_is : (issuer : ℕ) (o : Option Issuing) (terms : Issuing) → option_and_then (of_issuer issuer) o ≡ Some terms → (o ≡ Some terms) × (terms.issuer ≡ issuer)
licence_is issuer None terms e = absurd cc
licence_is issuer (Some x) terms e = go (eqb x.issuer issuer) refl e
  where
    some : Issuing → Option Issuing
    some y = Some y

    go : (b : Bool) → eqb x.issuer issuer ≡ b → cond b (some x) None ≡ Some terms → (some x ≡ Some terms) × (terms.issuer ≡ issuer)
    go true is f = (f, subst (λ (y : Issuing). y.issuer ≡ issuer) (same_Some x terms f) (eqb-true x.issuer issuer is))
    go false is f = absurd cc

-- ---- what is to be entered is in order

abbrev after_before : History → ℕ → Payment → Issuing → Unit {0} → Result Payment Stop
after_before b t p terms u =
    refused_if (ltb t (series_end terms p.claim.epoch)) (SeriesOpen (series_end terms p.claim.epoch) t)
    >>= λ _. refused_if (ltb (sold_under b p.vendor p.claim.issuer p.claim.epoch) p.claim.amount) (OverSold (sold_under b p.vendor p.claim.issuer p.claim.epoch))
    >>= λ _. Ok p

terms_in_order : (b : History) (t : ℕ) (p q : Payment) (terms : Issuing) → licence_in b p.vendor ≡ Some terms → terms.issuer ≡ p.claim.issuer → paid_by_terms b t p terms ≡ Ok q → (p ≡ q) × PaidInOrder b t p
terms_in_order b t p q terms licence issuer is =
    let end = series_end terms p.claim.epoch in
    let sold = sold_under b p.vendor p.claim.issuer p.claim.epoch in
    let a = line_ok (paid_before p.claim.amount (paid_amount b p.vendor p.claim.issuer p.claim.epoch)) (after_before b t p terms) q is in
    let e = line_ok (refused_if (ltb t end) (SeriesOpen end t)) (λ _. refused_if (ltb sold p.claim.amount) (OverSold sold) >>= λ _. Ok p) q a.2 in
    let s = line_ok (refused_if (ltb sold p.claim.amount) (OverSold sold)) (λ _. Ok p) q e.2 in (
      ok_is p q s.2,
      record {
        terms = terms;
        licence = licence;
        of_issuer = issuer;
        ended = ltb-false t end (refused_ok (ltb t end) (SeriesOpen end t) e.0 e.1);
        first = before_none p.claim.amount (paid_amount b p.vendor p.claim.issuer p.claim.epoch) a.0 a.1;
        covered = ltb-false sold p.claim.amount (refused_ok (ltb sold p.claim.amount) (OverSold sold) s.0 s.1);
      },
    )

pub paid_in_order : (b : History) (t : ℕ) (s : Statement) (q : Payment) → pay_lines b t (Ok s) ≡ Ok q → (s.payment ≡ q) × PaidInOrder b t s.payment
paid_in_order b t s q is =
    let p = s.payment in
    let l = line_ok (given (licence_for b p.vendor p.claim.issuer) NoVendor) (λ terms. refused_if (not (bytes_eq s.cert (statement_cert terms p))) BadStatement >>= λ _. paid_by_terms b t p terms) q is in
    let r = line_ok (refused_if (not (bytes_eq s.cert (statement_cert l.0 p))) BadStatement) (λ _. paid_by_terms b t p l.0) q l.2 in
    let has = licence_is p.claim.issuer (licence_in b p.vendor) l.0 (given_ok (licence_for b p.vendor p.claim.issuer) NoVendor l.0 l.1) in
    terms_in_order b t p q l.0 has.0 has.1 r.2

-- ---- what is in order is to be entered

within : (b : History) (t : ℕ) (p : Payment) (terms : Issuing) → series_end terms p.claim.epoch ≤ t → p.claim.amount ≤ sold_under b p.vendor p.claim.issuer p.claim.epoch
    → paid_amount b p.vendor p.claim.issuer p.claim.epoch ≡ None → paid_by_terms b t p terms ≡ Ok p
within b t p terms ended most none =
    let end = series_end terms p.claim.epoch in
    let sold = sold_under b p.vendor p.claim.issuer p.claim.epoch in
    ap (λ (o : Option ℕ). paid_before p.claim.amount o >>= after_before b t p terms) none
    ∙ ap (λ (c : Bool). refused_if c (SeriesOpen end t) >>= λ _. refused_if (ltb sold p.claim.amount) (OverSold sold) >>= λ _. Ok p) (le-ltb t end ended)
    ∙ ap (λ (c : Bool). refused_if c (OverSold sold) >>= λ _. Ok p) (le-ltb sold p.claim.amount most)

pub right_is_paid : (b : History) (t : ℕ) (p : Payment) (terms : Issuing) → licence_in b p.vendor ≡ Some terms → terms.issuer ≡ p.claim.issuer → series_end terms p.claim.epoch ≤ t
    → p.claim.amount ≤ sold_under b p.vendor p.claim.issuer p.claim.epoch → paid_amount b p.vendor p.claim.issuer p.claim.epoch ≡ None
    → pay_lines b t (Ok (record { payment = p; cert = statement_cert terms p })) ≡ Ok p
right_is_paid b t p terms licence issuer ended most none =
    let cert = statement_cert terms p in
    let same : bytes_eq cert cert ≡ true = (bytes_eq-Decides cert cert).1 refl in
    ap (λ (o : Option Issuing). given (option_and_then (of_issuer p.claim.issuer) o) NoVendor >>= λ x. refused_if (not (bytes_eq cert (statement_cert x p))) BadStatement >>= λ _. paid_by_terms b t p x) licence
    ∙ ap (λ (c : Bool). given (cond c (some terms) None) NoVendor >>= λ x. refused_if (not (bytes_eq cert (statement_cert x p))) BadStatement >>= λ _. paid_by_terms b t p x) (eq-eqb terms.issuer p.claim.issuer issuer)
    ∙ ap (λ (c : Bool). refused_if (not c) BadStatement >>= λ _. paid_by_terms b t p terms) same
    ∙ within b t p terms ended most none
  where
    some : Issuing → Option Issuing
    some x = Some x

-- ---- statements

pub stated_in_order : (v : History) (t issuer epoch : ℕ) (c : Claim) → state_lines v t issuer epoch ≡ Ok c → (c ≡ claim_at v issuer epoch) × StatedInOrder v t (claim_at v issuer epoch)
stated_in_order v t issuer epoch c is =
    let l = line_ok (given (terms_in v issuer) NoTerms) _ c is in
    let end = series_end l.0 epoch in
    let e = line_ok (refused_if (ltb t end) (SeriesOpen end t)) _ c l.2 in
    let n = line_ok (stated_before (stated_amount v issuer epoch)) _ c e.2 in (
      sym (ok_is (claim_at v issuer epoch) c n.2),
      record {
        terms = l.0;
        stand = given_ok (terms_in v issuer) NoTerms l.0 l.1;
        ended = ltb-false t end (refused_ok (ltb t end) (SeriesOpen end t) e.0 e.1);
        first = stated_none (stated_amount v issuer epoch) n.0 n.1;
        is = refl;
      },
    )

-- ---- a market

one_paid : (b : History) (t issuer epoch : ℕ) (v : History) → IsCovered b issuer epoch v → IsPaidAt b t issuer epoch v
one_paid b t issuer epoch v most terms stand licence ended none =
    right_is_paid b t (record { vendor = site_name v; claim = claim_at v issuer epoch }) terms licence (eqb-true terms.issuer issuer (found_passes (λ (x : Issuing). eqb x.issuer issuer) (all_terms v) terms stand)) ended most none

all_paid : (b : History) (t issuer epoch : ℕ) (vs : List History) → AllByRecursion (IsCovered b issuer epoch) vs → AllByRecursion (IsPaidAt b t issuer epoch) vs
all_paid b t issuer epoch [] most = tt
all_paid b t issuer epoch (v ∷ vs) most = (one_paid b t issuer epoch v most.0, all_paid b t issuer epoch vs most.1)

pub statements_are_paid : (limits : Limits) (b : History) (vs : List History) (t issuer epoch : ℕ) → limits.series ≤ 2 ^ 32 → AreBooks limits b vs → IsHandedOut b vs → 1 ≤ issuer → AllByRecursion (IsPaidAt b t issuer epoch) vs
statements_are_paid limits b vs t issuer epoch le books handed some = all_paid b t issuer epoch vs (covered limits b vs issuer epoch le books handed some)
