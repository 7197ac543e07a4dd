-- What the first entry founds stays as it is, whatever entry follows.
use Rattle.std.proofs.Common.{◌≡◌, ℕ, List, [], ◌∷◌, ◌++◌, Option, Some, refl, sym, ap, ◌∙◌}
use Rattle.std.specs.Prelude.{◌==◌, option_map, unwrap_or}
use Rattle.std.specs.Option.{option_or}
use Rattle.std.proofs.lemmas.List.Elements.{filter_map-append}
use Rattle.std.proofs.lemmas.List.Folds.{find-append}
use Rattle.scrip_certs.specs.Digests.{certificate}
use Rattle.scrip_form.specs.Issuing.{Issuing}
use Rattle.scrip_form.specs.Scrip.{Scrip, scrip_body, scrip_text}
use Rattle.mc_requests.specs.declared.limits.Limits.{Limits}
use Rattle.mc_records.specs.Entry.{House, Entry, Site}
use Rattle.ledger_model.specs.Histories.{History}
use Rattle.ledger_model.specs.Houses.{site_name, site_kind, keeping, house, terms_of, all_terms, terms_in, terms_by}
use Rattle.ledger_model.specs.Lawful.{IsLawful}
use Rattle.ledger_model.specs.Replies.{own_text}

pub record SameHouse (h k : History) : Type 0 where
  pub name : site_name k ≡ site_name h
  pub house : house k ≡ house h
  pub kind : site_kind k ≡ site_kind h

pub same_house : (limits : Limits) (h : History) (e : Entry) → IsLawful limits h → SameHouse h (h ++ e ∷ [])
same_house limits [] e lawful = absurd lawful
same_house limits (Site m k name house ∷ xs) e lawful = record { name = refl; house = refl; kind = refl }
same_house limits (x ∷ xs) e lawful = record { name = refl; house = refl; kind = refl }

pub kind_stays : (limits : Limits) (h : History) (e : Entry) → IsLawful limits h → site_kind (h ++ e ∷ []) ≡ site_kind h
kind_stays limits h e lawful = (same_house limits h e lawful).kind

pub keeping_stays : (limits : Limits) (h : History) (e : Entry) → IsLawful limits h → keeping (h ++ e ∷ []) ≡ keeping h
keeping_stays limits h e lawful = ap (λ (o : Option House). unwrap_or (option_map (λ x. x.keep) o) 0) (same_house limits h e lawful).house

-- the terms of the house itself
pub own_terms_stay : (h : History) (e : Entry) (own : Issuing) → terms_in h 0 ≡ Some own → terms_in (h ++ e ∷ []) 0 ≡ Some own
own_terms_stay h e own is =
    ap (λ (ts : List Issuing). terms_by ts 0) (filter_map-append terms_of h (e ∷ [])) ∙ find-append (λ t. t.issuer == 0) (all_terms h) (all_terms (e ∷ []))
    ∙ ap (λ (o : Option Issuing). option_or o (terms_by (all_terms (e ∷ [])) 0)) is

-- the scrip texts of its own pieces
pub own_text_stays : (h : History) (e : Entry) (own : Issuing) → terms_in h 0 ≡ Some own → own_text (h ++ e ∷ []) ≡ own_text h
own_text_stays h e own is =
    let spell : Option Issuing → Scrip → List ℕ = λ o p. scrip_text p (unwrap_or (option_map (λ t. certificate t (scrip_body p) p.id) o) []) in
    ap spell (own_terms_stay h e own is ∙ sym is)
