-- The parts of entries: the form of each, its table of fields and its ranges belong together.
use Rattle.std.proofs.Common.{◌≡◌, ℕ, zero, suc, ◌^◌, ◌<◌, ◌≤◌, Bool, List, [], ◌∷◌, ◌++◌, length, Option, Some, None, refl, sym, ap, subst, ◌∙◌, append-nil, ap₂, arith, zero-le}
use Rattle.std.specs.Prelude.{IfSome}
use Rattle.scrip_form.specs.Scrip.{IsScripText}
use Rattle.scrip_form.specs.Reading.{is_scrip}
use Rattle.scrip_form.specs.Issuing.{Issuing}
use Rattle.scrip_form.proofs.TextTests.{scrip_decides, scrip_is_short}
use Rattle.mc_fields.specs.Field.{one, two, four, eight, Field, number, flag, str, plain}
use Rattle.mc_fields.specs.Form as forms
use Rattle.mc_fields.specs.Form.{Form, done, followed}
use Rattle.mc_fields.proofs.FormLaws.{Path, answer, path_fields, parts, Leads, joined, Describes, optional_described, repeated_tells, repeated_leads}
use Rattle.mc_base.specs.declared.amount.TheConstants.Amount.{MOST}
use Rattle.mc_records.specs.Entry.{Deed, goods_deed, sale, credit, House, HouseFits, SiteFits, Held, HeldFits, ArePieces, AreSecrets, AreTerms, DeedFits, IsLong, IsKey, secrets_fields, terms_fields, house_fields, sign_fields, change_fields, deed_fields, held_fields, pieces_fields, text_fields, got_fields}
use Rattle.mc_records.specs.Forms.{long, secrets_form, terms_form, house_with, house_form, sign_form, change_form, deed_form, held_form, pieces_form, text_form, got_form}

-- ---- parts of one field

key_described : Describes (forms.plain 16 done) (λ s. plain s ∷ []) IsKey
key_described = record {
  tells = λ (s, len, _). (refl, len);
  leads = λ s len. record { path = (s, len, tt); is_answer = refl; is_spelled = refl };
}

long_described : Describes (long done) (λ n. number eight n ∷ []) IsLong
long_described = record {
  tells = λ (n, _, _, lt, _). (refl, lt);
  leads = λ n lt. record { path = (n, zero-le, omega (arith, lt), lt, tt); is_answer = refl; is_spelled = refl };
}

scrip_described : Describes (forms.str is_scrip done) (λ s. str s ∷ []) IsScripText
scrip_described = record {
  tells = λ (s, ok, _, _). (refl, (scrip_decides s).0 ok);
  leads = λ s is. record { path = (s, (scrip_decides s).1 is, omega (arith, scrip_is_short s is), tt); is_answer = refl; is_spelled = refl };
}

-- ---- a scrip text with its secret, and lists of them

pub held_described : Describes held_form held_fields HeldFits
unfolding held_form
held_described = record { tells = tells; leads = leads }
  where
    tells : (p : Path held_form) → (held_fields (answer held_form p) ≡ path_fields held_form p) × HeldFits (answer held_form p)
    tells (text, ok, _, (secret, len, _)) = (refl, record { text = (scrip_decides text).0 ok; secret = len })

    leads : (p : Held) → HeldFits p → Leads held_form p (held_fields p)
    leads p good = record {
      path = (p.text, (scrip_decides p.text).1 good.text, omega (arith, scrip_is_short p.text good.text), (p.secret, good.secret, tt));
      is_answer = refl;
      is_spelled = refl;
    }

pub pieces_described : Describes pieces_form pieces_fields ArePieces
unfolding pieces_form
pieces_described = record { tells = tells; leads = leads }
  where
    tells : (p : Path pieces_form) → (pieces_fields (answer pieces_form p) ≡ path_fields pieces_form p) × ArePieces (answer pieces_form p)
    tells (n, low, high, _, p) =
        let r = repeated_tells held_form held_fields HeldFits held_described n p in
        (ap₂ (λ (k : ℕ) (t : List Field). number two k ∷ t) r.1 r.0, record { some = omega (arith, r.1); few = omega (arith, r.1); held = r.2 })

    leads : (ps : List Held) → ArePieces ps → Leads pieces_form ps (pieces_fields ps)
    leads ps good =
        let r = repeated_leads held_form held_fields HeldFits held_described ps good.held in
        record {
          path = (length ps, good.some, good.few, omega (arith, good.few), r.path);
          is_answer = r.is_answer;
          is_spelled = ap (λ (t : List Field). number two (length ps) ∷ t) r.is_spelled;
        }

-- ---- what may be there

pub sign_described : Describes sign_form sign_fields (λ o. IfSome o IsKey)
unfolding sign_form
sign_described = optional_described (forms.plain 16 done) (λ s. plain s ∷ []) IsKey key_described

pub change_described : Describes change_form change_fields (λ o. IfSome o IsLong)
unfolding change_form
change_described = optional_described (long done) (λ n. number eight n ∷ []) IsLong long_described

pub text_described : Describes text_form text_fields (λ o. IfSome o IsScripText)
unfolding text_form
text_described = optional_described (forms.str is_scrip done) (λ s. str s ∷ []) IsScripText scrip_described

pub got_described : Describes got_form got_fields (λ o. IfSome o HeldFits)
unfolding got_form
got_described = optional_described held_form held_fields HeldFits held_described

-- ---- what was sold

pub deed_described : Describes deed_form deed_fields DeedFits
unfolding deed_form
deed_described = record { tells = tells; leads = leads }
  where
    tells : (p : Path deed_form) → (deed_fields (answer deed_form p) ≡ path_fields deed_form p) × DeedFits (answer deed_form p)
    tells (zero, _, _, _, p) = (refl, tt)
    tells (suc zero, _, _, _, (stock, (id, _, _, lt, p))) = (refl, lt)
    tells (suc (suc zero), _, _, _, (balance, _, _, lt, p)) = (refl, lt)
    tells (suc (suc (suc n)), _, le, _, p) = absurd (omega (arith, le))

    leads : (d : Deed) → DeedFits d → Leads deed_form d (deed_fields d)
    leads goods_deed good = record { path = (0, zero-le, omega arith, omega arith, tt); is_answer = refl; is_spelled = refl }
    leads (sale stock id) good = record { path = (1, zero-le, omega arith, omega arith, (stock, (id, zero-le, omega (arith, good), good, tt))); is_answer = refl; is_spelled = refl }
    leads (credit n) good = record { path = (2, zero-le, omega arith, omega arith, (n, zero-le, omega (arith, good), good, tt)); is_answer = refl; is_spelled = refl }

-- ---- terms, and what a house is founded with

secrets_described : Describes secrets_form secrets_fields AreSecrets
unfolding secrets_form
secrets_described = record { tells = tells; leads = leads }
  where
    tells : (p : Path secrets_form) → (secrets_fields (answer secrets_form p) ≡ path_fields secrets_form p) × AreSecrets (answer secrets_form p)
    tells (n, low, high, _, p) =
        let r = repeated_tells (forms.plain 16 done) (λ s. plain s ∷ []) IsKey key_described n p in
        (ap₂ (λ (k : ℕ) (t : List Field). number one k ∷ t) r.1 r.0, record { some = omega (arith, r.1); few = omega (arith, r.1); keys = r.2 })

    leads : (ss : List (List ℕ)) → AreSecrets ss → Leads secrets_form ss (secrets_fields ss)
    leads ss good =
        let r = repeated_leads (forms.plain 16 done) (λ s. plain s ∷ []) IsKey key_described ss good.keys in
        record {
          path = (length ss, good.some, good.few, omega (arith, good.few), r.path);
          is_answer = r.is_answer;
          is_spelled = ap (λ (t : List Field). number one (length ss) ∷ t) r.is_spelled;
        }

abbrev terms_done : ℕ → ℕ → ℕ → List (List ℕ) → List (List ℕ) → Form Issuing
terms_done issuer period life scrips customers = done (record { issuer = issuer; period = period; life = life; scrip = scrips; customer = customers })

abbrev terms_after : ℕ → ℕ → ℕ → List (List ℕ) → Form Issuing
terms_after issuer period life scrips = followed secrets_form (terms_done issuer period life scrips)

pub terms_described : (low high : ℕ) → high < 256 → Describes (terms_form low high) terms_fields (AreTerms low high)
unfolding terms_form
terms_described low high small = record { tells = tells; leads = leads }
  where
    one_is : (v : ℕ) → 1 ≤ v → v ≤ 1 → v ≡ 1
    one_is v a b = omega arith

    tells : (p : Path (terms_form low high)) → (terms_fields (answer (terms_form low high) p) ≡ path_fields (terms_form low high) p) × AreTerms low high (answer (terms_form low high) p)
    tells (v, v_low, v_high, _, (issuer, i_low, i_high, _, (period, p_low, p_high, _, (life, _, l_high, _, p)))) =
        let a = parts secrets_form (terms_after issuer period life) p in
        let b = parts secrets_form (terms_done issuer period life (answer secrets_form a.first)) a.second in
        let s = secrets_described.tells a.first in
        let c = secrets_described.tells b.first in
        let made : Issuing = record { issuer = issuer; period = period; life = life; scrip = answer secrets_form a.first; customer = answer secrets_form b.first } in
        let whole : answer (followed secrets_form (terms_after issuer period life)) p ≡ made = a.is_answer ∙ b.is_answer in
        let tail : path_fields (followed secrets_form (terms_after issuer period life)) p ≡ secrets_fields made.scrip ++ secrets_fields made.customer =
        a.is_spelled ∙ ap₂ (λ (x y : List Field). x ++ y) (sym s.0) (b.is_spelled ∙ append-nil (path_fields secrets_form b.first) ∙ sym c.0) in
        subst (λ (t : Issuing). (terms_fields t ≡ number one v ∷ number one issuer ∷ number four period ∷ number four life ∷ path_fields (followed secrets_form (terms_after issuer period life)) p) × AreTerms low high t) (sym whole) (
          ap₂ (λ (k : ℕ) (x : List Field). number one k ∷ number one issuer ∷ number four period ∷ number four life ∷ x) (sym (one_is v v_low v_high)) (sym tail),
          record { issuer = (i_low, i_high); period = record { least = p_low; most = omega arith; short = omega arith }; scrip = s.1; customer = c.1 },
        )

    leads : (t : Issuing) → AreTerms low high t → Leads (terms_form low high) t (terms_fields t)
    leads t good =
        let end : Leads (terms_done t.issuer t.period t.life t.scrip t.customer) t [] = record { path = tt; is_answer = refl; is_spelled = refl } in
        let b = joined secrets_form (terms_done t.issuer t.period t.life t.scrip) t.customer t (secrets_fields t.customer) [] (secrets_described.leads t.customer good.customer) end in
        let a = joined secrets_form (terms_after t.issuer t.period t.life) t.scrip t (secrets_fields t.scrip) (secrets_fields t.customer ++ []) (secrets_described.leads t.scrip good.scrip) b in
        record {
          path = (1, omega arith, omega arith, omega arith, (t.issuer, good.issuer.0, good.issuer.1, omega (arith, good.issuer.1), (t.period, good.period.least, omega (arith, good.period.most), omega (arith, good.period.most), (t.life, zero-le, omega (arith, good.period.short), omega (arith, good.period.short), a.path))));
          is_answer = a.is_answer;
          is_spelled = ap (λ (x : List Field). number one 1 ∷ number one t.issuer ∷ number four t.period ∷ number four t.life ∷ x) (a.is_spelled ∙ ap (λ (x : List Field). secrets_fields t.scrip ++ x) (append-nil (secrets_fields t.customer)));
        }

abbrev house_done : ℕ → ℕ → Bool → Issuing → Form (Option House)
house_done keep fee clear terms = done (Some (record { keep = keep; fee = fee; clear = clear; terms = terms }))

house_with_tells : (most : ℕ) (p : Path (house_with most)) → (h : House) × (answer (house_with most) p ≡ Some h) × (house_fields (Some h) ≡ path_fields (house_with most) p) × HouseFits most h
house_with_tells most (keep, k_low, k_high, _, (fee, _, f_high, _, (clear, p))) =
    let a = parts (terms_form 0 0) (house_done keep fee clear) p in
    let t = (terms_described 0 0 (omega arith)).tells a.first in
    let made : House = record { keep = keep; fee = fee; clear = clear; terms = answer (terms_form 0 0) a.first } in (
      made,
      a.is_answer,
      ap (λ (x : List Field). number four keep ∷ number eight fee ∷ flag clear ∷ x) (t.0 ∙ sym (append-nil (path_fields (terms_form 0 0) a.first)) ∙ sym a.is_spelled),
      record { keep = (k_low, k_high); fee = f_high; terms = t.1 },
    )

house_with_leads : (most : ℕ) → most < 2 ^ 64 → (h : House) → HouseFits most h → Leads (house_with most) (Some h) (house_fields (Some h))
house_with_leads most small h good =
    let end : Leads (house_done h.keep h.fee h.clear h.terms) (Some h) [] = record { path = tt; is_answer = refl; is_spelled = refl } in
    let a = joined (terms_form 0 0) (house_done h.keep h.fee h.clear) h.terms (Some h) (terms_fields h.terms) [] ((terms_described 0 0 (omega arith)).leads h.terms good.terms) end in
    record {
      path = (h.keep, good.keep.0, good.keep.1, omega (arith, good.keep.1), (h.fee, zero-le, good.fee, omega (arith, good.fee), (h.clear, a.path)));
      is_answer = a.is_answer;
      is_spelled = ap (λ (x : List Field). number four h.keep ∷ number eight h.fee ∷ flag h.clear ∷ x) (a.is_spelled ∙ append-nil (terms_fields h.terms));
    }

house_tells : (kind : ℕ) → kind ≤ 2 → (p : Path (house_form kind)) → (house_fields (answer (house_form kind) p) ≡ path_fields (house_form kind) p) × SiteFits kind (answer (house_form kind) p)
unfolding house_form
house_tells zero le p = let t = house_with_tells 0 p in subst (λ (o : Option House). (house_fields o ≡ path_fields (house_with 0) p) × SiteFits 0 o) (sym t.1) (t.2, t.3)
house_tells (suc zero) le p = let t = house_with_tells MOST p in subst (λ (o : Option House). (house_fields o ≡ path_fields (house_with MOST) p) × SiteFits 1 o) (sym t.1) (t.2, t.3)
house_tells (suc (suc zero)) le p = (refl, tt)
house_tells (suc (suc (suc n))) le p = absurd (omega (arith, le))

house_leads : (kind : ℕ) (o : Option House) → SiteFits kind o → (kind ≤ 2) × Leads (house_form kind) o (house_fields o)
unfolding house_form
house_leads zero (Some h) good = (omega arith, house_with_leads 0 (omega arith) h good)
house_leads (suc zero) (Some h) good = (omega arith, house_with_leads MOST (omega arith) h good)
house_leads (suc (suc zero)) None good = (omega arith, record { path = tt; is_answer = refl; is_spelled = refl })
house_leads zero None good = absurd good
house_leads (suc zero) None good = absurd good
house_leads (suc (suc zero)) (Some h) good = absurd good
house_leads (suc (suc (suc n))) o good = absurd (no_site n o good)
  where
    no_site : (k : ℕ) (p : Option House) → SiteFits (suc (suc (suc k))) p → ⊥
    no_site k None h = h
    no_site k (Some x) h = h

pub house_described : (kind : ℕ) → kind ≤ 2 → Describes (house_form kind) house_fields (SiteFits kind)
house_described kind le = record { tells = house_tells kind le; leads = λ o good. (house_leads kind o good).1 }

pub kind_of_site : (kind : ℕ) (o : Option House) → SiteFits kind o → kind ≤ 2
kind_of_site kind o good = (house_leads kind o good).0
