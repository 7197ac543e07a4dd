-- An entry may follow exactly where both halves hold.
use Rattle.std.proofs.Common.{◌≡◌, ⊎_elim, ℕ, ◌<◌, ◌↔◌, ◌||◌, true, cond, [], ◌∷◌, ◌++◌, refl, sym, ap, ap₂, subst, ◌∙◌, Option, Some, None, option_map, option_and_then, unwrap_or, bytes_eq, arith, eqb}
use Rattle.std.specs.Prelude.{Bool, false, ◌==◌, List, IsTrue, IsFalse, MatchOption, is_some}
use Rattle.std.proofs.lemmas.Bool.{eqb-true, eq-eqb}
use Rattle.scrip_form.specs.Issuing.{Issuing, epoch}
use Rattle.mc_requests.specs.declared.limits.Limits.{Limits}
use Rattle.mc_records.specs.Entry.{Entry, Site, AddTerms, Goods, Accept, Mint, Account, Deposit, Withdraw, Draw, Licence, Stock, Upgrade, Switch, Note}
use Rattle.mc_records.specs.Following.{AllFollowBy}
use Rattle.ledger_model.specs.declared.numbers.TheConstants.{VENDOR_KIND, BROKER_KIND}
use Rattle.ledger_model.specs.Histories.{History}
use Rattle.ledger_model.specs.Houses.{site_kind, site_name, terms_in, IsHouseKind}
use Rattle.ledger_model.specs.Stock.{licence_in, of_issuer, upgrade_terms}
use Rattle.ledger_model.specs.Lawful.{AllFollow, MayUpgrade, IsAllowed}
use Rattle.house_state.specs.Learning.{is_by_house, ByHouse, ByTrade, MayRaise, Passes, MayEnter, InParts, IsSiteOf, IsOfKind, Test, untested, AllPass}

-- ---- what the kind of a site tells

-- a site of a kind passes the test of a kind exactly where that is its kind
kind_test : (k : ℕ) (h : History) (kind : ℕ) → site_kind h ≡ Some kind → unwrap_or (option_map (λ n. n == k) (site_kind h)) false ≡ eqb kind k
kind_test k h kind is = ap (λ (o : Option ℕ). unwrap_or (option_map (λ n. n == k) o) false) is

of_kind : (k : ℕ) (h : History) (kind : ℕ) → site_kind h ≡ Some kind → unwrap_or (option_map (λ n. n == k) (site_kind h)) false ≡ true → kind ≡ k
of_kind k h kind is yes' = eqb-true kind k (sym (kind_test k h kind is) ∙ yes')

is_kind : (k : ℕ) (h : History) (kind : ℕ) → site_kind h ≡ Some kind → kind ≡ k → unwrap_or (option_map (λ n. n == k) (site_kind h)) false ≡ true
is_kind k h kind is same = kind_test k h kind is ∙ eq-eqb kind k same

-- ---- an Upgrade of which the house does not tell

-- the terms of a vendor's licence, where they are of an issuer
abbrev licensed : History → List ℕ → ℕ → Option Issuing
licensed h vendor issuer = option_and_then (of_issuer issuer) (licence_in h vendor)

abbrev Comes : ℕ → ℕ → Option Issuing → Type 0
Comes m from o = MatchOption o ⊥ (λ terms. epoch terms m < from)

terms_by_kind : (h : History) (vendor : List ℕ) (issuer kind : ℕ) → site_kind h ≡ Some kind → is_by_house kind issuer ≡ false
    → (b : Bool) → eqb kind BROKER_KIND ≡ b → upgrade_terms h vendor issuer ≡ cond b (licensed h vendor issuer) None
unfolding upgrade_terms
terms_by_kind h vendor issuer kind is other b broker =
    ap₂ (λ (p q : Bool). cond p (cond (bytes_eq vendor (site_name h)) (terms_in h issuer) None) (cond q (licensed h vendor issuer) None))
    (ap (λ (v : Bool). v || issuer == 0) (kind_test VENDOR_KIND h kind is) ∙ other) (kind_test BROKER_KIND h kind is ∙ broker)

to_trade : (h : History) (m : ℕ) (vendor : List ℕ) (issuer from kind : ℕ) → site_kind h ≡ Some kind → is_by_house kind issuer ≡ false
    → (b : Bool) → eqb kind BROKER_KIND ≡ b → MayUpgrade h m vendor issuer from → (kind ≡ BROKER_KIND) × MayRaise h m vendor issuer from
to_trade h m vendor issuer from kind is other true broker may =
    (eqb-true kind BROKER_KIND broker, record { new = may.new; coming = subst (Comes m from) (terms_by_kind h vendor issuer kind is other true broker) may.coming })
to_trade h m vendor issuer from kind is other false broker may = absurd (subst (Comes m from) (terms_by_kind h vendor issuer kind is other false broker) may.coming)

from_trade : (h : History) (m : ℕ) (vendor : List ℕ) (issuer from kind : ℕ) → site_kind h ≡ Some kind → is_by_house kind issuer ≡ false
    → (kind ≡ BROKER_KIND) × MayRaise h m vendor issuer from → MayUpgrade h m vendor issuer from
from_trade h m vendor issuer from kind is other may = record {
  new = may.1.new;
  coming = subst (Comes m from) (sym (terms_by_kind h vendor issuer kind is other true (eq-eqb kind BROKER_KIND may.0))) may.1.coming;
}

-- ---- the halves

-- what is allowed and passes the trade's own test
abbrev pub Allows : Test → Limits → History → Entry → Type 0
Allows passes limits h e = IsAllowed limits h e × Passes passes h e

some_kind : (h : History) (kind : ℕ) → site_kind h ≡ Some kind → is_some (site_kind h) ≡ true
some_kind h kind is = ap is_some is

-- an entry is allowed in a history of a kind, and passes the trade's own test, exactly where both halves allow it
pub halves : (passes : Test) (limits : Limits) (kind : ℕ) (h : History) (e : Entry) → site_kind h ≡ Some kind → Allows passes limits h e ↔ (ByHouse limits kind h e × ByTrade passes kind h e)
halves passes limits kind h (Site m k name house) same = (λ a. absurd (not_first h kind same a.0.0), λ p. absurd (not_first h kind same p.0.0))
  where
    not_first : (g : History) (n : ℕ) → site_kind g ≡ Some n → g ≡ [] → ⊥
    not_first g n same none = let bare : site_kind g ≡ site_kind [] = ap site_kind none in absurd (cc (same, bare))
halves passes limits kind h (AddTerms m terms) same = (λ a. (tt, (of_kind VENDOR_KIND h kind same a.0.0, a.0.1)), λ p. ((is_kind VENDOR_KIND h kind same p.1.0, p.1.1), tt))
halves passes limits kind h (Goods m target price k contents) same = (λ a. (tt, (of_kind VENDOR_KIND h kind same a.0.0, a.0.1)), λ p. ((is_kind VENDOR_KIND h kind same p.1.0, p.1.1), tt))
halves passes limits kind h (Accept m scrip target sign price change deed) same = (λ a. (a.0, tt), λ p. (p.0, tt))
halves passes limits kind h (Mint m reference count value first) same =
    (λ a. let b = a.0 in ((b.2, b.3), (of_kind VENDOR_KIND h kind same b.0, b.1)), λ p. ((is_kind VENDOR_KIND h kind same p.1.0, p.1.1, p.0.0, p.0.1), tt))
halves passes limits kind h (Account m name key) same = (λ a. (tt, (of_kind BROKER_KIND h kind same a.0.0, a.0.1)), λ p. ((is_kind BROKER_KIND h kind same p.1.0, p.1.1), tt))
halves passes limits kind h (Deposit m name amount reference) same =
    (λ a. let b = a.0 in (tt, (of_kind BROKER_KIND h kind same b.0, b.1, b.2, b.3)), λ p. let b = p.1 in ((is_kind BROKER_KIND h kind same b.0, b.1, b.2, b.3), tt))
halves passes limits kind h (Withdraw m name amount reference) same =
    (λ a. let b = a.0 in (tt, (of_kind BROKER_KIND h kind same b.0, b.1, b.2, b.3)), λ p. let b = p.1 in ((is_kind BROKER_KIND h kind same b.0, b.1, b.2, b.3), tt))
halves passes limits kind h (Draw m target sign drawn) same = (λ a. (a.0, tt), λ p. (p.0, tt))
halves passes limits kind h (Licence m vendor terms) same = (λ a. (tt, (of_kind BROKER_KIND h kind same a.0.0, a.0.1)), λ p. ((is_kind BROKER_KIND h kind same p.1.0, p.1.1), tt))
halves passes limits kind h (Stock m vendor pieces) same = (λ a. (tt, (of_kind BROKER_KIND h kind same a.0.0, a.0.1)), λ p. ((is_kind BROKER_KIND h kind same p.1.0, p.1.1), tt))
halves passes limits kind h (Upgrade m vendor issuer from) same =
    (λ a. ((λ own. a.0), (λ other. to_trade h m vendor issuer from kind same other (eqb kind BROKER_KIND) refl a.0)), λ p. (go (is_by_house kind issuer) refl p.0 p.1, tt))
  where
    go : (b : Bool) → is_by_house kind issuer ≡ b → (IsTrue (is_by_house kind issuer) → MayUpgrade h m vendor issuer from)
        → (IsFalse (is_by_house kind issuer) → (kind ≡ BROKER_KIND) × MayRaise h m vendor issuer from) → MayUpgrade h m vendor issuer from
    go true is own other = own is
    go false is own other = from_trade h m vendor issuer from kind same is (other is)
halves passes limits kind h (Switch m c) same = (λ a. let b = a.0 in ((b.1, b.2), tt), λ p. ((some_kind h kind same, p.0.0, p.0.1), tt))
halves passes limits kind h (Note m tag bytes) same = (λ a. (tt, a.1), λ p. (some_kind h kind same, p.1))
halves passes limits kind h e same = (λ a. absurd a.0, λ p. absurd p.1)

-- and so is the Site entry of a house
founding : (passes : Test) (limits : Limits) (kind : ℕ) (h : History) (e : Entry) → IsHouseKind kind → IsSiteOf kind e → Allows passes limits h e ↔ (ByHouse limits kind h e × ByTrade passes kind h e)
founding passes limits kind h (Site m k name house) is same = (λ a. ((a.0.0, same), tt), λ p. ((p.0.0, omega (arith, is, same)), tt))
founding passes limits kind h e is same = absurd same

pub in_parts : (passes : Test) (limits : Limits) (kind : ℕ) (h : History) (e : Entry) → IsHouseKind kind → IsOfKind kind h e → MayEnter passes limits h e ↔ InParts passes limits kind h e
in_parts passes limits kind h e is of_it = (
  λ may. let p = parts.0 (may.follows.allowed, may.passed) in record { by_house = record { counted = refl; in_order = may.follows.in_order; by_house = p.0 }; by_trade = p.1 },
  λ p. let a = parts.1 (p.by_house.by_house, p.by_trade) in record { follows = record { in_order = p.by_house.in_order; allowed = a.0 }; passed = a.1 },
)
  where
    parts : Allows passes limits h e ↔ (ByHouse limits kind h e × ByTrade passes kind h e)
    parts = ⊎_elim (halves passes limits kind h e) (founding passes limits kind h e is) of_it

-- ---- a whole history

-- where nothing is asked of Notes, each passes
pub every_passes : (h : History) (e : Entry) → Passes untested h e
every_passes h (Note m tag bytes) = tt
every_passes h e = tt

pub all_pass : (h : History) → AllPass untested h
all_pass h = go [] h
  where
    go : (before es : History) → AllFollowBy (Passes untested) before es
    go before [] = tt
    go before (e ∷ es) = (every_passes before e, go (before ++ e ∷ []) es)

-- entries that may follow one another, and of which each Note passes, may be entered one after another
pub all_enter : (passes : Test) (limits : Limits) (before es : History) → AllFollow limits before es → AllFollowBy (Passes passes) before es → AllFollowBy (MayEnter passes limits) before es
all_enter passes limits before [] follow pass = tt
all_enter passes limits before (e ∷ es) follow pass = (record { follows = follow.0; passed = pass.0 }, all_enter passes limits (before ++ e ∷ []) es follow.1 pass.1)
