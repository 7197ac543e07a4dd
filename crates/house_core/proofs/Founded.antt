-- The state of a house that was just founded represents its one entry.
use Rattle.std.proofs.Common.{◌≡◌, ℕ, zero, suc, ◌<◌, ◌≤◌, List, [], ◌∷◌, Option, Some, None, refl, sym, ap, ◌∙◌, arith}
use Rattle.std.proofs.lemmas.Bool.{eq-eqb}
use Rattle.mc_base.specs.declared.amount.TheConstants.Amount.{MOST}
use Rattle.scrip_form.specs.Issuing.{Issuing}
use Rattle.mc_requests.specs.declared.limits.Limits.{Limits}
use Rattle.mc_requests.specs.Limits.{AreInRange}
use Rattle.mc_records.specs.Entry.{House, HouseFits, Entry, Site}
use Rattle.mc_records.proofs.SizeLaws.{length-tail, tail_size-by}
use Rattle.ledger_model.specs.Houses.{keeping, site_kind, terms_by}
use Rattle.ledger_model.specs.Lawful.{MayFollow}
use Rattle.ledger_model.specs.Histories.{History}
use Rattle.spent_windows.specs.Windows.{WindowView, is_marked}
use Rattle.house_state.specs.Learning.{ByTrade, MayLearn, CommandFits}
use Rattle.kept_replies.specs.Kept.{KeptView}
use Rattle.house_state.specs.HouseState.{HouseStateView}
use Rattle.house_state.specs.Founding.{IsStateOf, FoundsHouse}
use Rattle.std.proofs.lemmas.List.Elements.{All-nil}
use Rattle.house_state.specs.Representation.{StateRepresents, IsReply}
use Rattle.house_state.proofs.EndLaws.{none_marked}

-- a house has its ranges; that of a vendor has no fee
pub house_fits : (limits : Limits) (m kind : ℕ) (name : List ℕ) (h : House) → FoundsHouse (Site m kind name (Some h)) → MayFollow limits [] (Site m kind name (Some h)) → HouseFits MOST h
house_fits limits m zero name h fits may = let f = fits.house in record { keep = f.keep; fee = omega (arith, f.fee); terms = f.terms }
house_fits limits m (suc zero) name h fits may = fits.house
house_fits limits m (suc (suc k)) name h fits may = absurd (omega (arith, may.allowed.1))

own_found : (t : Issuing) → t.issuer ≤ 0 → terms_by (t ∷ []) 0 ≡ Some t
own_found t le = rw (eq-eqb t.issuer 0 (omega (arith, le))) refl

of_site : (b : HouseStateView) (limits : Limits) (m kind : ℕ) (name : List ℕ) (h : House) → IsStateOf b limits (Site m kind name (Some h)) → FoundsHouse (Site m kind name (Some h)) → AreInRange limits
    → MayFollow limits [] (Site m kind name (Some h)) → StateRepresents b (Site m kind name (Some h) ∷ [])
of_site b limits m kind name h is fits range may =
    let house = house_fits limits m kind name h fits may in
    let site = Site m kind name (Some h) in
    record {
      name = sym is.name;
      clear = sym is.clear;
      terms = sym is.terms;
      own_terms = own_found h.terms house.terms.issuer.1 ∙ ap some (sym is.issuer);
      in_time = omega (arith, is.time);
      spent = λ id live. sym (none_marked id) ∙ ap (λ (ws : List WindowView). is_marked ws id) (sym is.spent);
      again = λ t q later. rw is.replies refl;
      replies = rw is.replies (All-nil (IsReply (Site m kind name (Some h) ∷ [])));
      issued = λ s. sym (is.issued s);
      most = is.most ∙ ap (λ (l : Limits). l.series) (sym is.limits);
      redeemed = λ s. sym (is.redeemed s);
      worth = λ s. sym (is.worth s);
      takings = sym is.takings;
      counted = sym is.counted;
      sized = omega (arith, is.sized, length-tail [] site, tail_size-by []);
      switched = sym is.switched;
      upgrades = sym is.upgrades;
      limits = rw is.limits range;
      lawful = rw is.limits (may, tt);
    }
  where
    some : Issuing → Option Issuing
    some t = Some t

pub stands_founded : (b : HouseStateView) (limits : Limits) (e : Entry) → IsStateOf b limits e → FoundsHouse e → AreInRange limits → MayFollow limits [] e → StateRepresents b (e ∷ [])
stands_founded b limits (Site m kind name (Some h)) is fits range may = of_site b limits m kind name h is fits range may
stands_founded b limits (Site m kind name None) is fits range may = absurd fits
stands_founded b limits e is fits range may = absurd fits

-- ---- the trade learns the entry

abbrev some : ℕ → Option ℕ
some n = Some n

some_is : (a b : ℕ) → some a ≡ some b → a ≡ b
some_is a b e = cc

pub learns_site : (limits : Limits) (kind : ℕ) (e : Entry) → FoundsHouse e → MayFollow limits [] e → site_kind (e ∷ []) ≡ Some kind → MayLearn limits kind 0 [] e
learns_site limits kind (Site m k name (Some h)) fits may same = record { counted = refl; in_order = may.in_order; by_house = (refl, some_is k kind same) }
learns_site limits kind e fits may same = absurd fits

-- no trade refuses it
pub founds_by_trade : (passes : History → Entry → Type 0) (kind : ℕ) (e : Entry) → FoundsHouse e → ByTrade passes kind [] e
founds_by_trade passes kind (Site m k name (Some h)) founds = tt
founds_by_trade passes kind e founds = absurd founds

pub none_kept : (b : HouseStateView) (limits : Limits) (e : Entry) → IsStateOf b limits e → b.kept.replies ≡ []
none_kept b limits (Site m kind name (Some h)) is = is.replies
none_kept b limits e is = absurd is

-- replies are kept for the keeping time
pub keeps_founded : (b : HouseStateView) (limits : Limits) (e : Entry) → IsStateOf b limits e → keeping (e ∷ []) ≡ b.kept.keep
keeps_founded b limits (Site m kind name (Some h)) is = sym is.keep
keeps_founded b limits e is = absurd is

pub some_founded : (b : HouseStateView) (limits : Limits) (e : Entry) → FoundsHouse e → IsStateOf b limits e → 0 < b.kept.keep
some_founded b limits (Site m zero name (Some h)) founds is = omega (arith, is.keep, founds.house.keep)
some_founded b limits (Site m (suc zero) name (Some h)) founds is = omega (arith, is.keep, founds.house.keep)
some_founded b limits (Site m (suc (suc zero)) name (Some h)) founds is = absurd founds.house
some_founded b limits (Site m (suc (suc (suc k))) name (Some h)) founds is = absurd founds.house
some_founded b limits e founds is = absurd is

-- what is kept for other seconds says as much, where there is no reply yet
site_keeping : {b : HouseStateView} (m kind : ℕ) (name : List ℕ) (h : House) (kept : KeptView) → StateRepresents b (Site m kind name (Some h) ∷ []) → kept.replies ≡ []
    → StateRepresents (record b { kept = kept }) (Site m kind name (Some h) ∷ [])
site_keeping m kind name h kept st none = record {
  name = st.name;
  clear = st.clear;
  terms = st.terms;
  own_terms = st.own_terms;
  in_time = st.in_time;
  spent = st.spent;
  again = λ t q later. rw none refl;
  replies = rw none (All-nil (IsReply (Site m kind name (Some h) ∷ [])));
  issued = st.issued;
  most = st.most;
  redeemed = st.redeemed;
  worth = st.worth;
  takings = st.takings;
  counted = st.counted;
  sized = st.sized;
  switched = st.switched;
  upgrades = st.upgrades;
  limits = st.limits;
  lawful = st.lawful;
}

pub stands_keeping : {b : HouseStateView} (e : Entry) (kept : KeptView) → FoundsHouse e → StateRepresents b (e ∷ []) → kept.replies ≡ [] → StateRepresents (record b { kept = kept }) (e ∷ [])
stands_keeping (Site m kind name (Some h)) kept founds st none = site_keeping m kind name h kept st none
stands_keeping (Site m kind name None) kept founds st none = absurd founds
stands_keeping e kept founds st none = absurd founds

-- no identity is spent
pub none_spent : (b : HouseStateView) (limits : Limits) (e : Entry) → IsStateOf b limits e → b.spent ≡ []
none_spent b limits (Site m kind name (Some h)) is = is.spent
none_spent b limits e is = absurd is

-- it is in its ranges
pub founds_fit : (e : Entry) → FoundsHouse e → CommandFits e
founds_fit (Site m kind name (Some h)) founds = founds
founds_fit e founds = absurd founds
