-- Which sites are houses, and what a vendor does not have.
use Rattle.std.proofs.Common.{◌≡◌, ℕ, zero, suc, ◌<◌, Bool, true, false, not, cond, List, [], ◌∷◌, Option, Some, None, bytes_eq, refl, ap, arith, rules, option_map}
use Rattle.std.specs.Prelude.{◌==◌, unwrap_or, MatchOption}
use Rattle.mc_requests.specs.declared.limits.Limits.{Limits}
use Rattle.mc_requests.specs.declared.refusal.Refusal.TheVariants.{WrongVendor}
use Rattle.mc_records.specs.Entry.{Entry, Site, Accept, Draw, Upgrade}
use Rattle.ledger_model.specs.Histories.{History}
use Rattle.ledger_model.specs.Houses.{site_kind, IsHouseKind, is_vendor, is_broker, terms_in}
use Rattle.scrip_form.specs.Issuing.{epoch}
use Rattle.ledger_model.specs.Stock.{upgrade_terms}
use Rattle.ledger_model.specs.declared.numbers.TheConstants.{VENDOR_KIND}
use Rattle.ledger_model.specs.Lines.{refused_if}
use Rattle.ledger_model.specs.Lawful.{unbounded, request_of, draw_request, MayFollow, IsHouseSite, IsLawful}
use Rattle.ledger_model.proofs.TableLaws.{line_ok, accept_answer, draw_answer}

-- ---- what comes first

-- before the first entry there are no terms
none_terms : (m : ℕ) (vendor : List ℕ) (issuer from : ℕ) → MatchOption (upgrade_terms [] vendor issuer) ⊥ (λ terms. epoch terms m < from) → ⊥
unfolding upgrade_terms
none_terms m vendor issuer from x = go (issuer == 0) (bytes_eq vendor []) x
  where
    go : (a b : Bool) → MatchOption (cond a (cond b (terms_in [] issuer) None) None) ⊥ (λ terms. epoch terms m < from) → ⊥
    go true true y = y
    go true false y = y
    go false b y = y

-- only an entry that founds a house may be the first
pub first_founds : (limits : Limits) (e : Entry) → MayFollow limits [] e → IsHouseSite e
first_founds limits (Site m kind name house) may = may.allowed.1
first_founds limits (Accept m scrip target sign price change deed) may =
    let t = accept_answer [] m (unbounded limits) (request_of scrip target sign) m scrip target sign price change deed may.allowed in
    let vendor = line_ok (refused_if (not (bytes_eq t.scrip.piece.vendor [])) WrongVendor) _ t.secret t.is_genuine in
    absurd (cc vendor.2)
first_founds limits (Draw m target sign drawn) may = absurd (cc (draw_answer [] m (unbounded limits) (draw_request target sign) m target sign drawn may.allowed).at_broker)
first_founds limits (Upgrade m vendor issuer from) may = absurd (none_terms m vendor issuer from may.allowed.coming)
first_founds limits e may = absurd (search (rules, may.allowed))

one_kind : (kind : ℕ) → IsHouseKind kind → (kind == 1) ≡ not (kind == 0)
one_kind zero house = refl
one_kind (suc zero) house = refl
one_kind (suc (suc n)) house = absurd (omega (arith, house))

founded : (e : Entry) (es : History) → IsHouseSite e → is_broker (e ∷ es) ≡ not (is_vendor (e ∷ es))
founded (Site m kind name house) es founds = one_kind kind founds
founded e es founds = absurd founds

-- so a lawful history is of a vendor or of a broker, and of one of the two
pub one_house : (limits : Limits) (h : History) → IsLawful limits h → is_broker h ≡ not (is_vendor h)
one_house limits [] lawful = absurd lawful
one_house limits (e ∷ es) lawful = founded e es (first_founds limits e lawful.0)

-- ---- a vendor

pub no_broker : (h : History) → site_kind h ≡ Some VENDOR_KIND → is_broker h ≡ false
no_broker h vendor = ap (λ (k : Option ℕ). unwrap_or (option_map (λ kind. kind == 1) k) false) vendor
