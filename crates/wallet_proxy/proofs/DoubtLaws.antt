-- Where the disk fails under a request, it was not sent.
use Rattle.std.proofs.Common.{◌≡◌, inl, inr, ℕ, ◌+◌, ◌≤◌, Bool, true, false, cond, List, [], ◌∷◌, ◌++◌, length, refl, sym, ap, ◌∙◌, subst, arith, Option, Result, Ok, Err}
use Rattle.std.specs.Prelude.{◌==◌, ◌||◌, IsTrue, is_some, option_and_then}
use Rattle.scrip_form.specs.Scrip.{Scrip}
use Rattle.mc_outside.specs.LinkView.{LinkView}
use Rattle.mc_requests.specs.declared.refusal.Refusal.{Refusal}
use Rattle.mc_records.specs.Entry.{Entry}
use Rattle.ledger_model.specs.Histories.{History}
use Rattle.millicent_http.specs.Received.{Received}
use Rattle.wallet_model.specs.Requests.{Pending}
use Rattle.wallet_model.specs.Settling.{settlement}
use Rattle.mc_requests.specs.Requests.{Asked}
use Rattle.ledger_model.specs.Pieces.{piece_of}
use Rattle.wallet_model.specs.Follows.{IsWalletBook}
use Rattle.wallet_proxy.specs.Proxy.{ProxyState, Bounds, Payment, again, anew, scrip_value, payment_for, with_entry, get_entry, get_with, DoubtsBy, TriesInDoubt}
use Rattle.wallet_proxy.specs.Laws.{is_request, is_settling, IsOneGet, price_told}
use Rattle.wallet_proxy.proofs.ChoiceLaws.{chosen_has, chosen_value, get_pays}
use Rattle.wallet_proxy.proofs.StepLaws.{settles, paid_few, payment_so, kept_so, anew_so, one_settling}
use Rattle.wallet_proxy.proofs.CostLaws.{settlement_price}

-- a settlement is no request
none_asks : (h : History) (t n : ℕ) (p : Pending) (r : Received) → is_request (settlement h t n p r) ≡ false
unfolding settlement
none_asks h t n p r = go (r.status == 200) _ _ refl refl
  where
    go : (b : Bool) (x y : Entry) → is_request x ≡ false → is_request y ≡ false → is_request (cond b x y) ≡ false
    go true x y a c = a
    go false x y a c = c

settles_none : {A : Type 0} (h : History) (t n : ℕ) (p : Pending) (r : Received) (e : Entry) → e ≡ settlement h t n p r → is_request e ≡ true → A
settles_none h t n p r e same is = absurd (let no = sym is ∙ ap is_request same ∙ none_asks h t n p r in cc)

pub doubt_unsent : (b : Bounds) (s : ProxyState) (target : List ℕ) (x : Result Payment Refusal) (added : List Entry) (e : Entry) (up : LinkView)
    → DoubtsBy b s target x added e up → is_request e ≡ true → (added ≡ []) × (up ≡ s.up)
doubt_unsent b s target (Err f) added e up d is = absurd d
doubt_unsent b s target (Ok (again n p)) added e up d is = settles_none _ _ _ _ _ e d.1.entry is
doubt_unsent b s target (Ok (anew o)) added e up (inl d) is = (d.0, d.2)
doubt_unsent b s target (Ok (anew o)) added e up (inr d) is = settles_none _ _ _ _ _ e d.2.entry is

-- ---- what the item has added, with the entry in doubt

pub doubt_one : (b : Bounds) (s : ProxyState) (target : List ℕ) (x : Result Payment Refusal) (added : List Entry) (e : Entry) (up : LinkView)
    → DoubtsBy b s target x added e up → IsOneGet (added ++ e ∷ [])
doubt_one b s target (Err f) added e up d = absurd d
doubt_one b s target (Ok (again n p)) added e up d =
    subst (λ (l : List Entry). IsOneGet (l ++ e ∷ [])) (sym d.0) (one_settling e (subst (λ (k : Entry). IsTrue (is_settling k)) (sym d.1.entry) (settles _ _ _ _ _)))
doubt_one b s target (Ok (anew o)) added e up (inl d) =
    subst (λ (l : List Entry). IsOneGet (l ++ e ∷ [])) (sym d.0) (subst (λ (k : Entry). IsTrue (is_request k || is_settling k)) (sym d.1) refl)
doubt_one b s target (Ok (anew o)) added e up (inr d) =
    subst (λ (l : List Entry). IsOneGet (l ++ e ∷ [])) (sym d.0) (refl, subst (λ (k : Entry). IsTrue (is_settling k)) (sym d.2.entry) (settles _ _ _ _ _))

-- ---- within the budget

tried_within : (s u : ProxyState) (n : ℕ) (p : Pending) (e : Entry) (up : LinkView) (budget : ℕ) → u.paid ≡ s.paid → is_some (option_and_then piece_of p.scrip) ≡ true
    → s.paid + scrip_value p.scrip ≤ budget → TriesInDoubt u n p e up → s.paid + price_told e ≤ budget
tried_within s u n p e up budget same has few d =
    omega (arith, few, paid_few p d.r has d.passes, ap price_told d.entry ∙ settlement_price u.history u.time n p d.r)

pub doubt_within : (b : Bounds) (s : ProxyState) (q : Asked) (added : List Entry) (e : Entry) (up : LinkView)
    → IsWalletBook s.history → DoubtsBy b s q.target (payment_for b s q) added e up → s.paid ≤ b.budget → s.paid + price_told e ≤ b.budget
doubt_within b s q added e up book d few = go (payment_for b s q) refl d
  where
    go : (x : Result Payment Refusal) → payment_for b s q ≡ x → DoubtsBy b s q.target x added e up → s.paid + price_told e ≤ b.budget
    go (Err f) is d = absurd d
    go (Ok (again n p)) is d =
        let so = payment_so b s q (again n p) is in
        tried_within s s n p e up b.budget refl (get_pays s.history b.vendor q.target (n, p) book (kept_so _ _ n p so.0)) so.1 d.1
    go (Ok (anew o)) is (inl d) = omega (arith, few, ap price_told d.1)
    go (Ok (anew o)) is (inr d) =
        let so = payment_so b s q (anew o) is in
        let choice = anew_so _ _ o so.0 in
        let piece = chosen_has s.history s.time b.vendor b.limit o choice in
        let value = chosen_value s.history s.time b.vendor b.limit o choice in
        tried_within s (with_entry s (get_entry b s.time q.target o)) (length s.history) (get_with b q.target o) e up b.budget refl (ap (λ (x : Option Scrip). is_some x) piece) (omega (arith, so.1, value)) d.2
