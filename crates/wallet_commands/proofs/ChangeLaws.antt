-- A piece is its price and its change.
use Rattle.std.proofs.Common.{◌≡◌, ◌⊎◌, inl, inr, ℕ, ◌+◌, Bool, true, false, cond, List, Option, Some, None, refl, sym, ap, ◌∙◌, subst}
use Rattle.std.specs.Prelude.{◌==◌, ◌&&◌, not, nat_lt, option_and_then, bytes_eq, codes}
use Rattle.std.proofs.lemmas.Bool.{eqb-true, and_parts}
use Rattle.std.proofs.lemmas.Slice.Eq.{bytes_eq-Decides}
use Rattle.scrip_form.specs.Scrip.{Scrip}
use Rattle.mc_requests.specs.declared.refusal.Refusal.TheVariants.{BadReply, Unproved}
use Rattle.ledger_model.specs.Pieces.{piece_of}
use Rattle.millicent_http.specs.Received.{Received}
use Rattle.wallet_model.specs.Requests.{Pending}
use Rattle.wallet_model.specs.Settling.{check_of, price_of, fits_request, fits_at, is_paid_by, is_change, is_proved, brings_asked}

fits_of : (p : Pending) (r : Received) → check_of p r ≡ None → (r.status == 200) ≡ true → fits_request p r ≡ true
unfolding check_of
fits_of p r passes ok = go (r.status == 200) (fits_request p r) (is_proved p r) ok refl passes
  where
    go : (a f v : Bool) → a ≡ true → f ≡ fits_request p r → cond (a && not f) (Some BadReply) (cond (not v) (Some Unproved) None) ≡ None → fits_request p r ≡ true
    go true true v is same e = sym same
    go true false v is same e = absurd cc
    go false f v is same e = absurd cc

abbrev Is : Scrip → ℕ → List ℕ → Type 0
Is q price change = ((price ≡ q.value) × (change ≡ codes "-")) ⊎ ((c : Scrip) × (piece_of change ≡ Some c) × (c.value + price ≡ q.value))

left_is : (q : Scrip) (price : ℕ) (change : List ℕ) (o : Option Scrip) → piece_of change ≡ o → is_change q price o ≡ true → Is q price change
left_is q price change None is e = absurd cc
left_is q price change (Some c) is e =
    let a = and_parts (bytes_eq c.vendor q.vendor) _ e in
    let b = and_parts (c.cust == q.cust) _ a.1 in
    let d = and_parts (bytes_eq c.props q.props) _ b.1 in
    inr (c, is, eqb-true (c.value + price) q.value d.1)

paid_is : (q : Scrip) (price : ℕ) (change : List ℕ) → is_paid_by (Some q) price change ≡ true → Is q price change
paid_is q price change = go (price == q.value) refl
  where
    go : (b : Bool) → (price == q.value) ≡ b → cond b (bytes_eq change (codes "-")) (nat_lt price q.value && is_change q price (piece_of change)) ≡ true → Is q price change
    go true same e = inl (eqb-true price q.value same, (bytes_eq-Decides change (codes "-")).0 e)
    go false other e = left_is q price change (piece_of change) refl (and_parts (nat_lt price q.value) _ e).1

pub price_and_change : (p : Pending) (r : Received) (text : List ℕ) (q : Scrip) → p.scrip ≡ Some text → piece_of text ≡ Some q → check_of p r ≡ None → (r.status == 200) ≡ true
    → (price : ℕ) × (price_of r ≡ Some price) × (((price ≡ q.value) × (r.change ≡ codes "-")) ⊎ ((c : Scrip) × (piece_of r.change ≡ Some c) × (c.value + price ≡ q.value)))
price_and_change p r text q pays piece passes ok = go (price_of r) refl (fits_of p r passes ok)
  where
    of : option_and_then piece_of p.scrip ≡ Some q
    of = ap (option_and_then piece_of) pays ∙ piece

    go : (o : Option ℕ) → price_of r ≡ o → fits_at p r o ≡ true → (price : ℕ) × (price_of r ≡ Some price) × Is q price r.change
    go None is fits = absurd cc
    go (Some price) is fits =
        let paid = (and_parts (is_paid_by (option_and_then piece_of p.scrip) price r.change) _ fits).0 in
        (price, is, paid_is q price r.change (subst (λ (o : Option Scrip). is_paid_by o price r.change ≡ true) of paid))
