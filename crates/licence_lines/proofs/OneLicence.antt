-- An input is of one licence, or breaks at one line.
use Rattle.std.proofs.Common.{◌≡◌, ℕ, inl, inr, List, [], ◌∷◌, length, Some, Result, Ok, Err, sym, ap, ◌∙◌, append-nil, arith}
use Rattle.std.proofs.lemmas.Option.{same_Some}
use Rattle.std.proofs.lemmas.Fmt.{decimal_injective}
use Rattle.scrip_form.specs.Issuing.{Issuing}
use Rattle.command_table.proofs.SecretLemmas.{same_secrets}
use Rattle.licence_lines.specs.Licences.{licence_line, LicenceFits, IsLicenceLine, BreaksAt, IsTold}
use Rattle.mc_fields.specs.Cuts.{cut}
use Rattle.licence_lines.specs.Fields.{Fields, fields_of, fields_text, licence_fields}
use Rattle.licence_lines.proofs.FieldLaws.{licence_words, fields_again, licence_cut}

abbrev Reading : Type 0
Reading = Result (List ℕ × Issuing) ℕ

abbrev of_licence : List ℕ → Issuing → Reading
of_licence vendor terms = Ok (vendor, terms)

-- the words of a licence are of it alone
same_licence : (v w : List ℕ) (t u : Issuing) → LicenceFits v t → LicenceFits w u → licence_fields v t ≡ licence_fields w u → of_licence v t ≡ of_licence w u
same_licence v w t u a b same =
    let vendor : v ≡ w = ap (λ (f : Fields). f.vendor) same in
    let issuer = decimal_injective t.issuer u.issuer (omega (arith, a.issuer.within)) (omega (arith, b.issuer.within)) (ap (λ (f : Fields). f.issuer) same) in
    let period = decimal_injective t.period u.period (omega (arith, a.terms'.period.most)) (omega (arith, b.terms'.period.most)) (ap (λ (f : Fields). f.period) same) in
    let life = decimal_injective t.life u.life (omega (arith, a.terms'.period.short)) (omega (arith, b.terms'.period.short)) (ap (λ (f : Fields). f.life) same) in
    let scrip = same_secrets t.scrip u.scrip a.terms'.scrip.secrets' b.terms'.scrip.secrets' (ap (λ (f : Fields). f.scrip) same) in
    let customer = same_secrets t.customer u.customer a.terms'.customer.secrets' b.terms'.customer.secrets' (ap (λ (f : Fields). f.customer) same) in
    λ i. Ok (vendor i, record { issuer = issuer i; period = period i; life = life i; scrip = scrip i; customer = customer i })

whole_cut : (bytes v : List ℕ) (t : Issuing) → IsLicenceLine bytes v t → cut 10 bytes ≡ Some (fields_text (licence_fields v t), [])
whole_cut bytes v t is = licence_cut bytes v t [] is.fits (is.spelled ∙ sym (append-nil (licence_line v t)))

one_licence : (bytes : List ℕ) (x y : List ℕ × Issuing) → IsLicenceLine bytes x.0 x.1 → IsLicenceLine bytes y.0 y.1 → of_licence x.0 x.1 ≡ of_licence y.0 y.1
one_licence bytes x y a b =
    let texts = same_Some (fields_text (licence_fields x.0 x.1), []) (fields_text (licence_fields y.0 y.1), []) (sym (whole_cut bytes x.0 x.1 a) ∙ whole_cut bytes y.0 y.1 b) in
    let words = sym (fields_again (licence_fields x.0 x.1) (licence_words x.0 x.1 a.fits)) ∙ ap (λ (p : List ℕ × List ℕ). fields_of p.0) texts ∙ fields_again (licence_fields y.0 y.1) (licence_words y.0 y.1 b.fits) in
    same_licence x.0 y.0 x.1 y.1 a.fits b.fits (same_Some (licence_fields x.0 x.1) (licence_fields y.0 y.1) words)

-- a licence line does not break
whole_or_broken : (bytes : List ℕ) (x : List ℕ × Issuing) (line : ℕ) → IsLicenceLine bytes x.0 x.1 → BreaksAt bytes line → ⊥
unfolding cut
whole_or_broken [] x line is breaks = nothing (whole_cut [] x.0 x.1 is)
  where
    nothing : {y : List ℕ × List ℕ} → cut 10 [] ≡ Some y → ⊥
    nothing e = cc
whole_or_broken (b ∷ bytes) x line is (inl none) = none.0 x.0 x.1 [] is.fits (is.spelled ∙ sym (append-nil (licence_line x.0 x.1)))
whole_or_broken (b ∷ bytes) x line is (inr on) =
    let g = on.0 in
    let parts = same_Some (fields_text (licence_fields x.0 x.1), []) (fields_text (licence_fields g.vendor g.terms), g.more) (sym (whole_cut (b ∷ bytes) x.0 x.1 is) ∙ licence_cut (b ∷ bytes) g.vendor g.terms g.more g.fits g.spelled) in
    let none = ap (λ (p : List ℕ × List ℕ). length p.1) parts in
    omega (arith, none, g.some)

abbrev at : ℕ → Reading
at line = Err line

one_line : (bytes : List ℕ) (m n : ℕ) → BreaksAt bytes m → BreaksAt bytes n → at m ≡ at n
one_line [] m n a b = ap at (a ∙ sym b)
one_line (c ∷ bytes) m n (inl a) (inl b) = ap at (a.1 ∙ sym b.1)
one_line (c ∷ bytes) m n (inl a) (inr b) = absurd (a.0 b.0.vendor b.0.terms b.0.more b.0.fits b.0.spelled)
one_line (c ∷ bytes) m n (inr a) (inl b) = absurd (b.0 a.0.vendor a.0.terms a.0.more a.0.fits a.0.spelled)
one_line (c ∷ bytes) m n (inr a) (inr b) = ap at (a.1 ∙ sym b.1)

pub told_once : (bytes : List ℕ) (a b : Result (List ℕ × Issuing) ℕ) → IsTold bytes a → IsTold bytes b → a ≡ b
told_once bytes (Ok x) (Ok y) a b = one_licence bytes x y a b
told_once bytes (Ok x) (Err n) a b = absurd (whole_or_broken bytes x n a b)
told_once bytes (Err m) (Ok y) a b = absurd (whole_or_broken bytes y m b a)
told_once bytes (Err m) (Err n) a b = one_line bytes m n a b
