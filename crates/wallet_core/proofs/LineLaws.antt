-- Contents that are one piece line.
use Rattle.std.proofs.Common.{◌≡◌, ℕ, ◌+◌, ◌-◌, ◌<◌, List, [], ◌∷◌, ◌++◌, length, take, drop, Option, Some, None, Result, Ok, Err, refl, sym, ap, subst, ◌∙◌, arith, append-nil}
use Rattle.std.proofs.lemmas.List.{length-append, take_at, drop_at, nil_from_length}
use Rattle.hex.specs.Hex.{encode_lower, lower_digits}
use Rattle.hex.proofs.HexLemmas.{length-encode_with}
use Rattle.scrip_form.specs.Scrip.{Scrip, IsCert, IsTextOf, IsScripText}
use Rattle.mc_records.specs.Entry.{Held}
use Rattle.piece_lines.specs.declared.rule.PieceRule.TheVariants.{Any}
use Rattle.piece_lines.specs.Rules.{passes}
use Rattle.piece_lines.specs.PieceLines.{IsTold, LineFits, secret_part, secret_at, input_lines}
use Rattle.piece_lines.proofs.InputLaws.{told_only}
use Rattle.piece_lines.proofs.LineLaws.{input_told, secret_reads}
use Rattle.wallet_model.specs.Settling.{sole, one_line}

abbrev input : List ℕ → Result (List Held) ℕ
input contents = input_lines (passes Any) contents

-- the contents are the line of a piece
pub record IsLineOf (contents : List ℕ) (x : Held) : Type 0 where
  pub fits : LineFits (passes Any) x
  pub spelled : contents ≡ x.text ++ secret_part x.secret

pub line_is : (contents : List ℕ) (x : Held) → IsLineOf contents x → one_line contents ≡ Some x
line_is contents x is =
    ap sole (sym (told_only (passes Any) contents (Ok (x ∷ [])) (record {
      some = omega arith;
      few = omega arith;
      fit = (is.fits, tt);
      spelled = is.spelled ∙ sym (append-nil (x.text ++ secret_part x.secret));
    })))

pub line_back : (contents : List ℕ) (x : Held) → one_line contents ≡ Some x → IsLineOf contents x
line_back contents x is = go (input contents) refl is
  where
    told : (p : Held) → input contents ≡ Ok (p ∷ []) → IsTold (passes Any) contents (Ok (p ∷ []))
    told p read = subst (IsTold (passes Any) contents) read (input_told (passes Any) contents)

    go : (r : Result (List Held) ℕ) → input contents ≡ r → sole r ≡ Some x → IsLineOf contents x
    go (Ok []) read e = absurd cc
    go (Ok (p ∷ [])) read e =
        let same : p ≡ x = cc in
        subst (IsLineOf contents) same (record { fits = (told p read).fit.0; spelled = (told p read).spelled ∙ append-nil (p.text ++ secret_part p.secret) })
    go (Ok (p ∷ q ∷ ps)) read e = absurd cc
    go (Err line) read e = absurd cc

-- where the contents are no piece's line
pub no_line : (contents : List ℕ) → ((x : Held) → IsLineOf contents x → ⊥) → None ≡ one_line contents
no_line contents none = go (one_line contents) refl
  where
    go : (o : Option Held) → one_line contents ≡ o → None ≡ o
    go None e = refl
    go (Some x) e = absurd (none x (line_back contents x e))

-- ---- the two parts

pub long_secret : (secret : List ℕ) → IsCert secret → length (secret_part secret) ≡ 34
long_secret secret is = omega (arith, length-append (encode_lower secret) (10 ∷ []), length-encode_with lower_digits secret, is.0)

pub long_line : (contents : List ℕ) (x : Held) → IsLineOf contents x → length contents ≡ length x.text + 34
long_line contents x is = omega (arith, ap length is.spelled, length-append x.text (secret_part x.secret), long_secret x.secret is.fits.secret)

pub short_line : (contents : List ℕ) → length contents < 34 → None ≡ one_line contents
short_line contents short = no_line contents (λ x is. absurd (omega (arith, short, long_line contents x is)))

-- the text of a line, and what is behind it
pub record Parts (contents text rest : List ℕ) (x : Held) : Type 0 where
  pub text' : text ≡ x.text
  pub rest' : rest ≡ secret_part x.secret

pub parts_of : (contents text rest : List ℕ) (x : Held) → IsLineOf contents x → text ≡ take (length contents - 34) contents → rest ≡ drop (length contents - 34) contents → Parts contents text rest x
parts_of contents text rest x is text_is rest_is =
    let long = long_line contents x is in
    let n : length x.text ≡ length contents - 34 = omega (arith, long) in
    record {
      text' = text_is ∙ ap (take (length contents - 34)) is.spelled ∙ take_at x.text (secret_part x.secret) (length contents - 34) n;
      rest' = rest_is ∙ ap (drop (length contents - 34)) is.spelled ∙ drop_at x.text (secret_part x.secret) (length contents - 34) n;
    }

-- the text is none
pub bad_text : (contents text rest : List ℕ) → (IsScripText text → ⊥) → text ≡ take (length contents - 34) contents → rest ≡ drop (length contents - 34) contents → None ≡ one_line contents
bad_text contents text rest bad text_is rest_is =
    no_line contents (λ x is. let parts = parts_of contents text rest x is text_is rest_is in bad (subst IsScripText (sym parts.text') (is.fits.piece, is.fits.cert, is.fits.text)))

-- what is behind it is no secret's
pub bad_rest : (contents text rest : List ℕ) (left : ℕ) → secret_at rest ≡ Err left → text ≡ take (length contents - 34) contents → rest ≡ drop (length contents - 34) contents → None ≡ one_line contents
bad_rest contents text rest left bad text_is rest_is =
    no_line contents (λ x is.
    let parts = parts_of contents text rest x is text_is rest_is in
    let read : secret_at rest ≡ Ok (x.secret, []) = ap secret_at (parts.rest' ∙ sym (append-nil (secret_part x.secret))) ∙ secret_reads.again x.secret [] is.fits.secret in
    absurd cc)

-- both are right
pub right_line : (contents text rest secret more : List ℕ) (p : Scrip) (cert : List ℕ) → contents ≡ text ++ rest → length rest ≡ 34 → IsTextOf text p cert → secret_at rest ≡ Ok (secret, more) → Some (record { text = text; secret = secret }) ≡ one_line contents
right_line contents text rest secret more p cert whole long is read =
    let s = secret_reads.sound rest secret more read in
    let end : more ≡ [] = nil_from_length more (omega (arith, long, ap length s.0, length-append (secret_part secret) more, long_secret secret s.1)) in
    let rest_is : rest ≡ secret_part secret = s.0 ∙ ap (λ (m : List ℕ). secret_part secret ++ m) end ∙ append-nil (secret_part secret) in
    sym (line_is contents (record { text = text; secret = secret }) (record { fits = record { piece = p; cert = cert; text = is; passes = refl; secret = s.1 }; spelled = whole ∙ ap (λ (r : List ℕ). text ++ r) rest_is }))
