-- A scrip text has visible bytes alone.
use Rattle.std.proofs.Common.{◌≡◌, ◌⊎◌, ℕ, ◌<◌, ◌≤◌, Bool, true, false, ◌&&◌, ◌||◌, List, ◌++◌, inl, inr, refl, sym, subst, arith}
use Rattle.std.specs.Prelude.{◌==◌, codes, decimal, nat_le}
use Rattle.std.specs.List.{list_all}
use Rattle.std.specs.Int.{w64, to_be_bytes}
use Rattle.std.proofs.lemmas.Bool.{eqb-true, le-leb, leb-true}
use Rattle.std.proofs.lemmas.List.Elements.{All-from_recursion}
use Rattle.hex.specs.Hex.{encode_lower}
use Rattle.scrip_form.specs.Scrip.{Scrip, IsPiece, IsScripText, scrip_text, body_then, version_mark, barred, id_digits}
use Rattle.scrip_form.specs.Texts.{is_letter_or_digit, is_name_byte, is_props_byte, is_visible}
use Rattle.reply_reader.proofs.QuietLemmas.{and_left, and_right, and_both}
use Rattle.reply_reader.proofs.CleanLemmas.{all_weaker, all_append, all_of, decimal_visible, hex_visible}

or_cases : (a b : Bool) → (a || b) ≡ true → (a ≡ true) ⊎ (b ≡ true)
or_cases true b h = inl refl
or_cases false b h = inr h

between : (low high b : ℕ) → 33 ≤ low → high ≤ 126 → (nat_le low b && nat_le b high) ≡ true → is_visible b ≡ true
between low high b least most h =
    and_both (nat_le 33 b) (nat_le b 126)
    (le-leb 33 b (omega (arith, least, leb-true low b (and_left (nat_le low b) _ h))))
    (le-leb b 126 (omega (arith, most, leb-true b high (and_right (nat_le low b) _ h))))

letter_visible : (b : ℕ) → is_letter_or_digit b ≡ true → is_visible b ≡ true
letter_visible b h = elim (or_cases (nat_le 97 b && nat_le b 122) (nat_le 48 b && nat_le b 57) h) [
  | inl letter ↦ between 97 122 b (omega arith) (omega arith) letter
  | inr digit ↦ between 48 57 b (omega arith) (omega arith) digit
]

mark_visible : (k b : ℕ) → is_visible k ≡ true → (b == k) ≡ true → is_visible b ≡ true
mark_visible k b h e = subst (λ (z : ℕ). is_visible z ≡ true) (sym (eqb-true b k e)) h

name_visible : (b : ℕ) → is_name_byte b ≡ true → is_visible b ≡ true
name_visible b h = elim (or_cases (is_letter_or_digit b) (b == 45 || b == 46) h) [
  | inl letter ↦ letter_visible b letter
  | inr mark ↦ elim (or_cases (b == 45) (b == 46) mark) [ inl e ↦ mark_visible 45 b refl e | inr e ↦ mark_visible 46 b refl e ]
]

props_visible : (b : ℕ) → is_props_byte b ≡ true → is_visible b ≡ true
props_visible b h = elim (or_cases (is_letter_or_digit b) (b == 61 || (b == 44 || (b == 46 || b == 45))) h) [
  | inl letter ↦ letter_visible b letter
  | inr mark ↦ elim (or_cases (b == 61) (b == 44 || (b == 46 || b == 45)) mark) [
    | inl e ↦ mark_visible 61 b refl e
    | inr more ↦ elim (or_cases (b == 44) (b == 46 || b == 45) more) [
      | inl e ↦ mark_visible 44 b refl e
      | inr last ↦ elim (or_cases (b == 46) (b == 45) last) [ inl e ↦ mark_visible 46 b refl e | inr e ↦ mark_visible 45 b refl e ]
    ]
  ]
]

abbrev all_visible : List ℕ → Bool
all_visible text = list_all is_visible text

field_before : (field rest : List ℕ) → all_visible field ≡ true → all_visible rest ≡ true → all_visible (barred field ++ rest) ≡ true
field_before field rest f r = all_append is_visible (barred field) rest (all_append is_visible field (codes "|") f refl) r

id_visible : (n : ℕ) → all_visible (id_digits n) ≡ true
id_visible n =
    hex_visible (to_be_bytes w64 n)
    (All-from_recursion (λ b. b < 256) (to_be_bytes w64 n) (omega arith, (omega arith, (omega arith, (omega arith, (omega arith, (omega arith, (omega arith, (omega arith, tt)))))))))

body_visible : (p : Scrip) (rest : List ℕ) → IsPiece p → all_visible rest ≡ true → all_visible (body_then p rest) ≡ true
body_visible p rest is r =
    let vendor : all_visible p.vendor ≡ true = all_weaker is_name_byte is_visible p.vendor name_visible (all_of is_name_byte p.vendor is.vendor.all) in
    let props : all_visible p.props ≡ true = all_weaker is_props_byte is_visible p.props props_visible (all_of is_props_byte p.props is.props.all) in
    let six : all_visible (barred p.props ++ rest) ≡ true = field_before p.props rest props r in
    let five : all_visible (barred (decimal p.expires) ++ (barred p.props ++ rest)) ≡ true = field_before (decimal p.expires) (barred p.props ++ rest) (decimal_visible p.expires (omega (arith, is.last))).0 six in
    let four : all_visible (barred (id_digits p.cust) ++ (barred (decimal p.expires) ++ (barred p.props ++ rest))) ≡ true = field_before (id_digits p.cust) (barred (decimal p.expires) ++ (barred p.props ++ rest)) (id_visible p.cust) five in
    let three : all_visible (barred (id_digits p.id) ++ (barred (id_digits p.cust) ++ (barred (decimal p.expires) ++ (barred p.props ++ rest)))) ≡ true =
    field_before (id_digits p.id) (barred (id_digits p.cust) ++ (barred (decimal p.expires) ++ (barred p.props ++ rest))) (id_visible p.id) four in
    let two : all_visible (barred (decimal p.value) ++ (barred (id_digits p.id) ++ (barred (id_digits p.cust) ++ (barred (decimal p.expires) ++ (barred p.props ++ rest))))) ≡ true =
    field_before (decimal p.value) (barred (id_digits p.id) ++ (barred (id_digits p.cust) ++ (barred (decimal p.expires) ++ (barred p.props ++ rest)))) (decimal_visible p.value (omega (arith, is.most))).0 three in
    let mark : all_visible (version_mark p) ≡ true = all_append is_visible (codes "MS") (barred (decimal p.version)) refl (all_append is_visible (decimal p.version) (codes "|") (decimal_visible p.version (omega (arith, is.version.within))).0 refl) in
    all_append is_visible (version_mark p) (barred p.vendor ++ (barred (decimal p.value) ++ (barred (id_digits p.id) ++ (barred (id_digits p.cust) ++ (barred (decimal p.expires) ++ (barred p.props ++ rest)))))) mark
    (field_before p.vendor (barred (decimal p.value) ++ (barred (id_digits p.id) ++ (barred (id_digits p.cust) ++ (barred (decimal p.expires) ++ (barred p.props ++ rest))))) vendor two)

pub scrip_visible : (text : List ℕ) → IsScripText text → list_all is_visible text ≡ true
unfolding scrip_text
scrip_visible text t =
    let p = t.2 in
    subst (λ (z : List ℕ). all_visible z ≡ true) (sym p.spelled)
    (body_visible t.0 (encode_lower t.1) p.is_piece (hex_visible t.1 (All-from_recursion (λ b. b < 256) t.1 p.is_cert.1)))
