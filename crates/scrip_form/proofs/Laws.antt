-- The laws of scrip texts and of their reader.
use Rattle.std.proofs.Common.{Ok, Err, ◌≡◌, ℕ, zero, suc, ◌+◌, ◌-◌, ◌≤◌, ◌<◌, get_or, true, List, [], ◌∷◌, ◌++◌, length, take, drop, refl, sym, ap, ◌∙◌, subst, append_assoc, arith, inl, inr}
use Rattle.std.specs.Prelude.{codes, decimal}
use Rattle.std.specs.Int.{w64, to_be_bytes}
use Rattle.std.proofs.lemmas.Fmt.{length-decimal-le, decimal_digit}
use Rattle.std.proofs.lemmas.Bool.{ne_eqb}
use Rattle.std.proofs.lemmas.List.{append-nil, length-append, take_at, nil_from_length, length-take-le, take-take}
use Rattle.std.proofs.lemmas.List.Elements.{All-cons, All-nil, All-from_get_or, recursion_from_All}
use Rattle.mc_fields.specs.Texts.{IsNumber}
use Rattle.hex.specs.Hex.{encode_lower, lower_digits}
use Rattle.hex.proofs.HexLemmas.{length-encode_with}
use Rattle.mc_base.specs.declared.amount.TheConstants.Amount.{MOST}
use Rattle.scrip_form.specs.declared.piece.TheConstants.Piece.{LAST_END, LATEST_VERSION}
use Rattle.scrip_form.specs.Texts.{IsName, IsProps, is_name_byte, is_props_byte}
use Rattle.scrip_form.specs.Scrip.{Scrip, IsVersion, IsPiece, IsCert, IsTextOf, IsScripText, IsFaultPlace, scrip_text, scrip_body, text_version, barred, id_digits}
use Rattle.mc_fields.specs.Reading.{Read, whole}
use Rattle.scrip_form.specs.Reading.{scrip_of, AllFields, all_fields_at, piece_of_fields, scrip_at}
use Rattle.scrip_form.specs.Told.{IsTold}
use Rattle.mc_fields.proofs.Fronts.{common, common-le_right, common-whole, common-longest, take-common}
use Rattle.mc_fields.proofs.Formats.{Reads, done, failed, done_is, not_both, pair_reads, map_reads, pair_spelling, PairFits, others_part}
use Rattle.mc_fields.proofs.FieldLaws.{literal_reads, literal_spelling, Always, with_stop}
use Rattle.scrip_form.proofs.FieldReads.{name_reads, props_reads, IsId, id_reads}
use Rattle.mc_fields.proofs.NumberField.{number_reads}
use Rattle.mc_fields.proofs.HexField.{AreBytes, hex_reads, zeros, AreBytes-zeros}

abbrev id_spelling : ℕ → List ℕ
id_spelling n = barred (id_digits n)

abbrev fields_spelling : AllFields → List ℕ
fields_spelling = pair_spelling (literal_spelling (codes "MS")) (pair_spelling (with_stop 124 decimal) (pair_spelling barred (pair_spelling (with_stop 124 decimal) (pair_spelling id_spelling (pair_spelling id_spelling (pair_spelling (with_stop 124 decimal) (pair_spelling barred encode_lower)))))))

abbrev FieldsFit : AllFields → Type 0
FieldsFit = PairFits Always (PairFits (IsNumber LATEST_VERSION) (PairFits IsName (PairFits (IsNumber MOST) (PairFits IsId (PairFits IsId (PairFits (IsNumber LAST_END) (PairFits IsProps (AreBytes 16))))))))

-- some value of each field
a_name : IsName (97 ∷ [])
a_name = record { some = omega arith; short = omega arith; begins = λ h. refl; all = All-cons (λ x. is_name_byte x ≡ true) 97 [] refl (All-nil (λ x. is_name_byte x ≡ true)) }

no_props : IsProps []
no_props = record { some = omega arith; short = omega arith; begins = λ h. absurd (omega arith); all = All-nil (λ x. is_props_byte x ≡ true) }

one : (most : ℕ) → 1 ≤ most → IsNumber most 1
one most h = record { some = omega arith; within = h }

fields_read : Reads fields_spelling FieldsFit all_fields_at
fields_read =
    let cert = hex_reads 16 in
    let c = zeros 16 in
    let fc : AreBytes 16 c = AreBytes-zeros 16 in
    let f1 : IsNumber LAST_END 1 = one LAST_END (omega arith) in
    let f2 : IsNumber MOST 1 = one MOST (omega arith) in
    let f3 : IsNumber LATEST_VERSION 1 = one LATEST_VERSION (omega arith) in
    let z : IsId 0 = omega arith in
    let props = pair_reads props_reads cert c fc in
    let expires = pair_reads (number_reads LAST_END 124 refl (omega arith) (omega arith)) props ([], c) (no_props, fc) in
    let cust = pair_reads id_reads expires (1, ([], c)) (f1, (no_props, fc)) in
    let id = pair_reads id_reads cust (0, (1, ([], c))) (z, (f1, (no_props, fc))) in
    let value = pair_reads (number_reads MOST 124 refl (omega arith) (omega arith)) id (0, (0, (1, ([], c)))) (z, (z, (f1, (no_props, fc)))) in
    let vendor = pair_reads name_reads value (1, (0, (0, (1, ([], c))))) (f2, (z, (z, (f1, (no_props, fc))))) in
    let version = pair_reads (number_reads LATEST_VERSION 124 refl (omega arith) (omega arith)) vendor (97 ∷ [], (1, (0, (0, (1, ([], c)))))) (a_name, (f2, (z, (z, (f1, (no_props, fc)))))) in
    pair_reads (literal_reads (codes "MS")) version (1, (97 ∷ [], (1, (0, (0, (1, ([], c))))))) (f3, (a_name, (f2, (z, (z, (f1, (no_props, fc)))))))

abbrev pub text_of : Scrip × List ℕ → List ℕ
text_of x = scrip_text x.0 x.1

abbrev pub HasText : Scrip × List ℕ → Type 0
HasText x = IsPiece x.0 × IsCert x.1

fields_of : Scrip × List ℕ → AllFields
fields_of x = (tt, (x.0.version, (x.0.vendor, (x.0.value, (x.0.id, (x.0.cust, (x.0.expires, (x.0.props, x.1))))))))

fields_there : (x : AllFields) → FieldsFit x → (text_of (piece_of_fields x) ≡ fields_spelling x) × HasText (piece_of_fields x)
unfolding scrip_text
fields_there x f = (refl, (record { version = f.1.0; vendor = f.1.1.0; some = f.1.1.1.0.some; most = f.1.1.1.0.within; id = f.1.1.1.1.0; cust = f.1.1.1.1.1.0; ends = f.1.1.1.1.1.1.0.some; last = f.1.1.1.1.1.1.0.within; props = f.1.1.1.1.1.1.1.0 }, f.1.1.1.1.1.1.1.1))

fields_back : (x : Scrip × List ℕ) → HasText x → (fields_spelling (fields_of x) ≡ text_of x) × FieldsFit (fields_of x) × (piece_of_fields (fields_of x) ≡ x)
unfolding scrip_text fields_of
fields_back x f = (refl, (tt, (f.0.version, (f.0.vendor, (record { some = f.0.some; within = f.0.most }, (f.0.id, (f.0.cust, (record { some = f.0.ends; within = f.0.last }, (f.0.props, f.1)))))))), refl)

pub scrip_reads : Reads text_of HasText scrip_at
unfolding scrip_at
scrip_reads = map_reads fields_read text_of HasText scrip_at piece_of_fields fields_of (λ bytes. refl) fields_there fields_back

-- an array of 16 bytes is a certificate, or a secret
pub is_cert : (cert : List ℕ) → length cert ≡ 16 → ((i : ℕ) → get_or cert i 0 < 256) → IsCert cert
is_cert cert len below = (len, recursion_from_All (λ b. b < 256) cert (All-from_get_or (λ b. b < 256) cert 0 (λ i h. below i)))

-- ---- whole texts

pub is_text_of : (bytes : List ℕ) (x : Scrip × List ℕ) → scrip_at bytes ≡ done (x, []) → IsTextOf bytes x.0 x.1
is_text_of bytes x e =
    let s = scrip_reads.sound bytes x [] e in
    record { is_piece = s.1.0; is_cert = s.1.1; spelled = s.0 ∙ append-nil (text_of x) }

pub text_is_read : (bytes : List ℕ) (p : Scrip) (cert : List ℕ) → IsTextOf bytes p cert → scrip_at bytes ≡ done ((p, cert), [])
text_is_read bytes p cert is = ap scrip_at (is.spelled ∙ sym (append-nil (scrip_text p cert))) ∙ scrip_reads.again (p, cert) [] (is.is_piece, is.is_cert)

-- what no text has more in common with the bytes than this, and some text has as much
fault_from : (bytes : List ℕ) (place : ℕ) → place ≤ length bytes → (x : Scrip × List ℕ) → HasText x → place ≤ common bytes (text_of x)
    → ((y : Scrip × List ℕ) → HasText y → common bytes (text_of y) ≤ place) → IsFaultPlace bytes place
fault_from bytes place within x fits reached most = record {
  within = within;
  begins =
      let same : common bytes (text_of x) ≡ place = omega (arith, most x fits) in
      let e : take place bytes ++ drop place (text_of x) ≡ text_of x = rw same at (take-common bytes (text_of x)) in
      (drop place (text_of x), (x.0, x.1, record { is_piece = fits.0; is_cert = fits.1; spelled = e }));
  longest = λ n le w.
      let e : take n bytes ++ w.0 ≡ text_of (w.1.0, w.1.1) = w.1.2.spelled in
      let h : n ≤ common bytes (take n bytes ++ w.0) = common-longest n bytes w.0 le in
      let k : n ≤ common bytes (text_of (w.1.0, w.1.1)) = rw e at h in
      omega (arith, k, most (w.1.0, w.1.1) (w.1.2.is_piece, w.1.2.is_cert));
}

pub fault_of_err : (bytes : List ℕ) (left : ℕ) → scrip_at bytes ≡ failed left → IsFaultPlace bytes (length bytes - left)
fault_of_err bytes left e =
    let s = scrip_reads.some bytes left e in
    let reached : common bytes (text_of s.0) + left ≡ length bytes = rw (append-nil (text_of s.0)) at (s.2 []) in
    fault_from bytes (length bytes - left) (omega arith) s.0 s.1 (omega (arith, reached)) (λ y f.
    let h : common bytes (text_of y) + left ≤ length bytes = rw (append-nil (text_of y)) at (scrip_reads.none bytes left e y [] f) in
    omega (arith, h))

pub fault_of_rest : (bytes : List ℕ) (x : Scrip × List ℕ) (rest : List ℕ) → scrip_at bytes ≡ done (x, rest) → IsFaultPlace bytes (length bytes - length rest)
fault_of_rest bytes x rest e =
    let s = scrip_reads.sound bytes x rest e in
    let total : length bytes ≡ length (text_of x) + length rest = ap length s.0 ∙ length-append (text_of x) rest in
    let reach : length (text_of x) ≤ common bytes (text_of x) = omega (arith, rw (sym s.0) at (common-whole (text_of x) rest)) in
    fault_from bytes (length bytes - length rest) (omega arith) x s.1 (omega (arith, reach, total)) (λ y f. elim (others_part scrip_reads x y rest [] s.1 f) [
      | inl same ↦
          let P : Scrip × List ℕ → Type 0 = λ y. common bytes (text_of y) ≤ length bytes - length rest in
          subst P same (omega (arith, total, common-le_right bytes (text_of x)))
      | inr h ↦
          let k : common bytes (text_of y) ≤ length (text_of x) = rw (← s.0, append-nil (text_of y)) at h in
          omega (arith, total, k)
    ])

pub same_text : (p : Scrip) (c : List ℕ) (q : Scrip) (d rest : List ℕ) → HasText (p, c) → HasText (q, d) → scrip_text q d ≡ scrip_text p c ++ rest → rest ≡ []
same_text p c q d rest f g e = ap (λ (y : (Scrip × List ℕ) × List ℕ). y.1) (done_is ((p, c), rest) ((q, d), [])
    (sym (scrip_reads.again (p, c) rest f) ∙ ap scrip_at (sym e ∙ sym (append-nil (scrip_text q d))) ∙ scrip_reads.again (q, d) [] g))

-- no scrip text begins another
pub no_text_begins_another : (a b rest : List ℕ) → IsScripText a → IsScripText b → b ≡ a ++ rest → rest ≡ []
no_text_begins_another a b rest f g e =
    same_text f.0 f.1 g.0 g.1 rest (f.2.is_piece, f.2.is_cert) (g.2.is_piece, g.2.is_cert) (sym g.2.spelled ∙ e ∙ ap (λ (l : List ℕ). l ++ rest) f.2.spelled)

-- ---- the body

-- a text is its body, and the digits of the certificate
pub text_in_parts : (p : Scrip) (cert : List ℕ) → scrip_text p cert ≡ scrip_body p ++ encode_lower cert
unfolding scrip_text scrip_body
text_in_parts p cert = simp append_assoc

body_length : (bytes : List ℕ) (p : Scrip) (cert : List ℕ) → IsTextOf bytes p cert → length bytes ≡ length (scrip_body p) + 32
body_length bytes p cert is =
    ap length (is.spelled ∙ text_in_parts p cert) ∙ length-append (scrip_body p) (encode_lower cert) ∙ omega (arith, length-encode_with lower_digits cert, is.is_cert.0)

pub text_is_long : (bytes : List ℕ) (p : Scrip) (cert : List ℕ) → IsTextOf bytes p cert → 32 ≤ length bytes
text_is_long bytes p cert is = omega (arith, body_length bytes p cert is)

pub body_of_text : (bytes : List ℕ) (p : Scrip) (cert : List ℕ) → IsTextOf bytes p cert → take (length bytes - 32) bytes ≡ scrip_body p
body_of_text bytes p cert is =
    let n : length (scrip_body p) ≡ length bytes - 32 = omega (arith, body_length bytes p cert is) in
    ap (λ (l : List ℕ). take (length bytes - 32) l) (is.spelled ∙ text_in_parts p cert) ∙ take_at (scrip_body p) (encode_lower cert) (length bytes - 32) n

-- the same of a text at the front of a buffer
pub front_is_body : (buf : List ℕ) (n : ℕ) (p : Scrip) (cert : List ℕ) → n ≤ length buf → IsTextOf (take n buf) p cert → (32 ≤ n) × (take (n - 32) buf ≡ scrip_body p)
front_is_body buf n p cert le is =
    let len : length (take n buf) ≡ n = length-take-le n buf le in
    let long : 32 ≤ length (take n buf) = text_is_long (take n buf) p cert is in
    let here : take (length (take n buf) - 32) (take n buf) ≡ scrip_body p = body_of_text (take n buf) p cert is in
    let there : take (n - 32) (take n buf) ≡ scrip_body p = rw len at here in
    (omega arith, sym (take-take (n - 32) n buf (omega arith)) ∙ there)

-- ---- the version

in_version : (n : ℕ) (rest : List ℕ) → IsVersion n → text_version (codes "MS" ++ (barred (decimal n) ++ rest)) ≡ n
unfolding text_version
in_version zero rest is = absurd (omega (arith, is.some))
in_version (suc zero) rest is = ap (λ (d : List ℕ). text_version (codes "MS" ++ ((d ++ codes "|") ++ rest))) (decimal_digit 1 (omega arith))
in_version (suc (suc zero)) rest is = ap (λ (d : List ℕ). text_version (codes "MS" ++ ((d ++ codes "|") ++ rest))) (decimal_digit 2 (omega arith))
in_version (suc (suc (suc n))) rest is = absurd (omega (arith, is.within))

-- a text tells the version of its piece, and so does its body
pub version_of_text : (p : Scrip) (cert : List ℕ) → IsVersion p.version → text_version (scrip_text p cert) ≡ p.version
unfolding scrip_text
version_of_text p cert is = in_version p.version _ is

-- ---- what the reader's answer says of the bytes

pub left-le : (bytes : List ℕ) (left : ℕ) → scrip_at bytes ≡ failed left → left ≤ length bytes
left-le bytes left e = let s = scrip_reads.some bytes left e in omega (arith, s.2 [])

pub rest-le : (bytes : List ℕ) (x : Scrip × List ℕ) (rest : List ℕ) → scrip_at bytes ≡ done (x, rest) → length rest ≤ length bytes
rest-le bytes x rest e = let s = scrip_reads.sound bytes x rest e in omega (arith, ap length s.0, length-append (text_of x) rest)

pub no_text_of_err : (bytes : List ℕ) (left : ℕ) → scrip_at bytes ≡ failed left → IsScripText bytes → ⊥
no_text_of_err bytes left e is = not_both ((is.0, is.1), []) left (sym (text_is_read bytes is.0 is.1 is.2) ∙ e)

pub no_text_of_rest : (bytes : List ℕ) (x : Scrip × List ℕ) (rest : List ℕ) → scrip_at bytes ≡ done (x, rest) → (length rest ≡ 0 → ⊥) → IsScripText bytes → ⊥
no_text_of_rest bytes x rest e some is =
    some (ap (λ (y : (Scrip × List ℕ) × List ℕ). length y.1) (done_is (x, rest) ((is.0, is.1), []) (sym e ∙ text_is_read bytes is.0 is.1 is.2)))

pub is_text_at_end : (bytes : List ℕ) (x : Scrip × List ℕ) (rest : List ℕ) → scrip_at bytes ≡ done (x, rest) → length rest ≡ 0 → IsTextOf bytes x.0 x.1
is_text_at_end bytes x rest e none = is_text_of bytes x (e ∙ ap (λ (r : List ℕ). done (x, r)) (nil_from_length rest none))

pub one_piece : (text : List ℕ) (p q : Scrip) (cert other : List ℕ) → IsTextOf text p cert → IsTextOf text q other → (p ≡ q) × (cert ≡ other)
one_piece text p q cert other f g =
    let e = done_is ((p, cert), []) ((q, other), []) (sym (text_is_read text p cert f) ∙ text_is_read text q other g) in
    (ap (λ (y : (Scrip × List ℕ) × List ℕ). y.0.0) e, ap (λ (y : (Scrip × List ℕ) × List ℕ). y.0.1) e)

-- ---- the writer

-- the body, as it is put together from the left
pub record IsWritten (body : List ℕ) (p : Scrip) : Type 0 where
  pub parts : body ≡ (((((((([] ++ codes "MS") ++ barred (decimal p.version)) ++ barred p.vendor) ++ barred (decimal p.value)) ++ barred (id_digits p.id)) ++ barred (id_digits p.cust)) ++ barred (decimal p.expires)) ++ barred p.props)

pub body_written : (body : List ℕ) (p : Scrip) → IsWritten body p → body ≡ scrip_body p
unfolding scrip_body
body_written body p w = w.parts ∙ simp (append_assoc, append-nil)

pub text_written : (text : List ℕ) (p : Scrip) (cert : List ℕ) → IsPiece p → IsCert cert → text ≡ scrip_body p ++ encode_lower cert → IsTextOf text p cert
text_written text p cert piece is_cert parts = record { is_piece = piece; is_cert = is_cert; spelled = parts ∙ sym (text_in_parts p cert) }

barred_length : (field : List ℕ) → length (barred field) ≡ length field + 1
barred_length field = length-append field (codes "|")

id_length : (n : ℕ) → length (id_digits n) ≡ 16
id_length n = length-encode_with lower_digits (to_be_bytes w64 n)

-- no body is longer than 261 bytes
pub body_is_short : (p : Scrip) → IsPiece p → length (scrip_body p) ≤ 261
unfolding scrip_body
body_is_short p is =
    let version : length (decimal p.version) ≤ 1 = length-decimal-le 1 p.version (omega arith) (omega (arith, is.version.within)) (omega (arith, is.version.within)) in
    let value : length (decimal p.value) ≤ 13 = length-decimal-le 13 p.value (omega arith) (omega (arith, is.most)) (omega (arith, is.most)) in
    let expires : length (decimal p.expires) ≤ 15 = length-decimal-le 15 p.expires (omega arith) (omega (arith, is.last)) (omega (arith, is.last)) in
    let r6 = barred p.props ++ [] in
    let r5 = barred (decimal p.expires) ++ r6 in
    let r4 = barred (id_digits p.cust) ++ r5 in
    let r3 = barred (id_digits p.id) ++ r4 in
    let r2 = barred (decimal p.value) ++ r3 in
    let r1 = barred p.vendor ++ r2 in
    let r0 = barred (decimal p.version) ++ r1 in
    let all : length (codes "MS" ++ r0) ≤ 261 = omega (
      arith,
      length-append (codes "MS") r0,
      length-append (barred (decimal p.version)) r1,
      barred_length (decimal p.version),
      version,
      length-append (barred p.vendor) r2,
      length-append (barred (decimal p.value)) r3,
      length-append (barred (id_digits p.id)) r4,
      length-append (barred (id_digits p.cust)) r5,
      length-append (barred (decimal p.expires)) r6,
      length-append (barred p.props) [],
      barred_length p.vendor,
      barred_length (decimal p.value),
      barred_length (id_digits p.id),
      barred_length (id_digits p.cust),
      barred_length (decimal p.expires),
      barred_length p.props,
      id_length p.id,
      id_length p.cust,
      is.vendor.short,
      is.props.short,
      value,
      expires,
    ) in
    all

-- no text is longer than 293 bytes
pub text_is_short : (bytes : List ℕ) (p : Scrip) (cert : List ℕ) → IsTextOf bytes p cert → length bytes ≤ 293
text_is_short bytes p cert is = omega (arith, body_length bytes p cert is, body_is_short p is.is_piece)

-- ---- reading all of the bytes, as a function

told : (bytes : List ℕ) (read : Read (Scrip × List ℕ)) → scrip_at bytes ≡ read → IsTold bytes (whole (length bytes) read)
told bytes (Err left) e = (no_text_of_err bytes left e, fault_of_err bytes left e)
told bytes (Ok (x, [])) e = is_text_of bytes x e
told bytes (Ok (x, b ∷ rest)) e =
    let more : length (b ∷ rest) ≡ 0 → ⊥ = λ none. absurd (omega arith) in
    rw (ne_eqb (length (b ∷ rest)) 0 more) (no_text_of_rest bytes x (b ∷ rest) e more, fault_of_rest bytes x (b ∷ rest) e)

pub scrip_of_tells : (bytes : List ℕ) → IsTold bytes (scrip_of bytes)
unfolding scrip_of
scrip_of_tells bytes = told bytes (scrip_at bytes) refl
