-- The texts of pieces of a house's own series are scrip texts.
use Rattle.std.proofs.Common.{◌≡◌, ℕ, zero, suc, ◌+◌, ◌*◌, ◌<◌, ◌≤◌, ◌^◌, Bool, true, false, cond, List, [], ◌∷◌, ◌++◌, Option, Some, None, refl, sym, ap, subst, ◌∙◌, arith, option_map, unwrap_or, find}
use Rattle.std.specs.Prelude.{◌==◌}
use Rattle.std.specs.List.{AllByRecursion, cons_option, list_any}
use Rattle.std.proofs.lemmas.Bool.{eq-eqb}
use Rattle.std.proofs.lemmas.List.Elements.{recursion_from_All}
use Rattle.std.proofs.Math.Nat.{mul-le-mul_right}
use Rattle.scrip_form.specs.Identities.{epoch_of}
use Rattle.scrip_form.specs.Issuing.{Issuing, selected, series_end}
use Rattle.scrip_form.specs.Texts.{IsName, IsProps}
use Rattle.scrip_form.specs.Scrip.{Scrip, IsVersion, IsCert, IsTextOf, scrip_body, text_version}
use Rattle.scrip_certs.specs.Digests.{digest, certificate}
use Rattle.scrip_certs.proofs.DigestLaws.{length-digest, digest_below}
use Rattle.mc_requests.specs.declared.limits.Limits.{Limits}
use Rattle.mc_records.specs.Entry.{House, Entry, Site, AreTerms, SiteFits, Fits}
use Rattle.ledger_model.specs.Histories.{History}
use Rattle.ledger_model.specs.declared.upgraded.Upgraded.{Upgraded}
use Rattle.ledger_model.specs.Houses.{site_name, all_terms, terms_by, terms_in, raises, version_by, own_end}
use Rattle.ledger_model.specs.Pieces.{piece_of}
use Rattle.ledger_model.specs.Lawful.{IsHouseSite, IsLawful}
use Rattle.ledger_model.specs.Replies.{own_certificate, own_text}
use Rattle.ledger_model.proofs.KindLaws.{first_founds}
use Rattle.world_model.proofs.Accepted.{piece_is, read_whole}

-- ---- the house's own terms

pub record OwnTerms (h : History) : Type 0 where
  pub terms : Issuing
  pub is : terms_in h 0 ≡ Some terms
  pub fits : AreTerms 0 0 terms
  pub name : IsName (site_name h)

site_terms : (kind : ℕ) (o : Option House) → SiteFits kind o → kind ≤ 1 → (t : Issuing) × (option_map (λ (x : House). x.terms) o ≡ Some t) × AreTerms 0 0 t
site_terms zero (Some x) fits le = (x.terms, refl, fits.terms)
site_terms (suc zero) (Some x) fits le = (x.terms, refl, fits.terms)
site_terms (suc (suc k)) o fits le = absurd (omega (arith, le))
site_terms zero None fits le = absurd fits
site_terms (suc zero) None fits le = absurd fits

first_terms : (t : Issuing) (es : History) → AreTerms 0 0 t → terms_by (t ∷ all_terms es) 0 ≡ Some t
first_terms t es fits =
    let high = fits.issuer.1 in
    let is : t.issuer ≡ 0 = omega (arith, high) in
    ap (λ (b : Bool). cond b (Some t) (find (λ x. x.issuer == 0) (all_terms es))) (eq-eqb t.issuer 0 is)

first_own : (e : Entry) (es : History) → IsHouseSite e → Fits e → OwnTerms (e ∷ es)
first_own (Site m kind name house) es founds fits =
    let s = site_terms kind house fits.house founds in
    record {
      terms = s.0;
      is = ap (λ (o : Option Issuing). terms_by (cons_option o (all_terms es)) 0) s.1 ∙ first_terms s.0 es s.2;
      fits = s.2;
      name = fits.name;
    }
first_own e es founds fits = absurd founds

pub own_terms : (limits : Limits) (h : History) → IsLawful limits h → AllByRecursion Fits h → OwnTerms h
own_terms limits [] lawful fits = absurd lawful
own_terms limits (e ∷ es) lawful fits = first_own e es (first_founds limits e lawful.0) fits.0

-- ---- certificates

pub cert_below : (version : ℕ) (bytes : List ℕ) → IsCert (digest version bytes)
cert_below version bytes = (length-digest version bytes, recursion_from_All (λ b. b < 256) (digest version bytes) (digest_below version bytes))

own_cert : (h : History) (p : Scrip) → OwnTerms h → IsCert (own_certificate h p)
unfolding certificate
own_cert h p own =
    subst (λ (o : Option Issuing). IsCert (unwrap_or (option_map (λ t. certificate t (scrip_body p) p.id) o) [])) (sym own.is)
    (cert_below (text_version (scrip_body p)) (scrip_body p ++ selected own.terms.scrip p.id))

-- ---- versions

-- each series has one of the versions
pub in_a_version : (upgrades : List Upgraded) (series : ℕ) → IsVersion (version_by upgrades series)
unfolding version_by
in_a_version upgrades series = go (list_any (raises series) upgrades)
  where
    go : (b : Bool) → IsVersion (cond b 2 1)
    go true = record { some = omega arith; within = omega arith }
    go false = record { some = omega arith; within = omega arith }

-- ---- ends

own_end_range : (h : History) (id : ℕ) → OwnTerms h → id < 2 ^ 64 → (0 < own_end h id) × (own_end h id ≤ 2 ^ 49)
own_end_range h id own below =
    let is : own_end h id ≡ series_end own.terms (epoch_of id) = ap (λ (o : Option Issuing). unwrap_or (option_map (λ t. series_end t (epoch_of id)) o) 0) own.is in
    let least = own.fits.period.least in
    let most = own.fits.period.most in
    let short = own.fits.period.short in
    let epoch : epoch_of id + 1 ≤ 2 ^ 24 = omega (arith, below) in
    let up : (epoch_of id + 1) * own.terms.period ≤ 2 ^ 24 * own.terms.period = mul-le-mul_right own.terms.period epoch in
    let down : 1 * own.terms.period ≤ (epoch_of id + 1) * own.terms.period = mul-le-mul_right own.terms.period (omega arith) in
    (omega (arith, is, down, least), omega (arith, is, up, most, short))

-- ---- texts

pub own_text_of : (h : History) (p : Scrip) → OwnTerms h → IsVersion p.version → p.vendor ≡ site_name h → 0 < p.value → p.value ≤ 2 ^ 40 → p.id < 2 ^ 64 → p.cust < 2 ^ 64 → p.expires ≡ own_end h p.id → IsProps p.props
    → IsTextOf (own_text h p) p (own_certificate h p)
own_text_of h p own version vendor some most id cust ends props =
    let range = own_end_range h p.id own id in
    let low = range.0 in
    let high = range.1 in
    record {
      is_piece = record {
        version = version;
        vendor = subst IsName (sym vendor) own.name;
        some = some;
        most = most;
        id = id;
        cust = cust;
        ends = omega (arith, ends, low);
        last = omega (arith, ends, high);
        props = props;
      };
      is_cert = own_cert h p own;
      spelled = refl;
    }

pub read_back : (text : List ℕ) (p : Scrip) (cert : List ℕ) → IsTextOf text p cert → piece_of text ≡ Some p
read_back text p cert is = piece_is text p cert (read_whole text p cert is)
