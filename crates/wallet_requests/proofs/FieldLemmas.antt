-- The parts of a request's head are in their classes.
use Rattle.std.proofs.Common.{◌≡◌, ◌⊎◌, ℕ, zero, suc, ◌≤◌, Bool, true, false, ◌&&◌, ◌||◌, List, [], ◌∷◌, ◌++◌, inl, inr, length, map, refl, arith}
use Rattle.std.specs.Prelude.{◌==◌, codes, nat_le, nat_lt, All}
use Rattle.std.specs.List.{AllByRecursion, list_all}
use Rattle.std.specs.Char.{is_ascii_alphanumeric}
use Rattle.std.specs.Str.{IsAscii}
use Rattle.std.proofs.lemmas.Bool.{eqb-true, leb-true, le-leb, lt-ltb, ltb-true}
use Rattle.std.proofs.lemmas.List.Elements.{All-nil, All-cons}
use Rattle.std.proofs.lemmas.List.Sums.{AllPass-from_list_all, list_all-from_AllPass}
use Rattle.std.proofs.lemmas.Str.{IsUtf8-from_ascii}
use Rattle.httparse.specs.Grammar.{IsField, IsRequestHead, is_token, is_token_byte, is_uri_byte, is_value_byte}
use Rattle.scrip_form.specs.Texts.{IsName, IsTarget, is_name_byte, is_letter_or_digit, is_visible}
use Rattle.millicent_http.specs.Fields.{is_host, is_host_byte}
use Rattle.reply_reader.proofs.HeadLines.{is_line, is_one_line, is_trimmed, clean_field, field_line}
use Rattle.reply_reader.proofs.QuietLemmas.{and_left, and_right, and_both}
use Rattle.reply_reader.proofs.CleanLemmas.{IsClean, all_weaker, field_is_line, value_is_one_line, is_other}
use Rattle.wallet_requests.proofs.RequestLines.{start_line, request_tree}

-- ---- good fields: their names are tokens, their values are clean

pub record IsGood (x : List ℕ × List ℕ) : Type 0 where
  pub token : is_token x.0 ≡ true
  pub line : is_line x.0 ≡ true
  pub value : IsClean x.1

abbrev pub AreGood : List (List ℕ × List ℕ) → Type 0
AreGood xs = AllByRecursion IsGood xs

fields_valid : (xs : List (List ℕ × List ℕ)) → AreGood xs → All IsField (map clean_field xs)
fields_valid [] h = All-nil IsField
fields_valid (x ∷ xs) h =
    let good : IsGood x = h.0 in
    All-cons IsField (clean_field x) (map clean_field xs)
    (record {
      name = (ltb-true 0 (length x.0) (and_left (nat_lt 0 (length x.0)) _ good.token), AllPass-from_list_all is_token_byte x.0 (and_right (nat_lt 0 (length x.0)) _ good.token));
      raw = AllPass-from_list_all is_value_byte (32 ∷ x.1) (and_both true _ refl good.value.bytes);
    })
    (fields_valid xs h.1)

pub fields_are_lines : (xs : List (List ℕ × List ℕ)) → AreGood xs → list_all is_line (map field_line xs) ≡ true
fields_are_lines [] h = refl
fields_are_lines (x ∷ xs) h =
    let good : IsGood x = h.0 in
    and_both (is_line (field_line x)) _ (field_is_line x.0 x.1 good.line (value_is_one_line x.1 good.value.bytes)) (fields_are_lines xs h.1)

pub fields_are_trimmed : (xs : List (List ℕ × List ℕ)) → AreGood xs → list_all (λ y. is_trimmed y.1) xs ≡ true
fields_are_trimmed [] h = refl
fields_are_trimmed (x ∷ xs) h = let good : IsGood x = h.0 in and_both (is_trimmed x.1) _ good.value.trimmed (fields_are_trimmed xs h.1)

-- ---- targets

pub target_visible : (target : List ℕ) → IsTarget target → list_all is_visible target ≡ true
target_visible target h = list_all-from_AllPass is_visible target h.all

visible_uri : (b : ℕ) → is_visible b ≡ true → is_uri_byte b ≡ true
visible_uri b h =
    let low : nat_le 33 b ≡ true = and_left (nat_le 33 b) _ h in
    and_both (nat_lt 32 b) _ (lt-ltb 32 b (omega (arith, leb-true 33 b low))) (let f = is_other is_visible 127 b refl h in rw f refl)

visible_ascii : (text : List ℕ) → list_all is_visible text ≡ true → IsAscii text
visible_ascii [] h i = omega arith
visible_ascii (b ∷ text) h zero = let high : nat_le b 126 ≡ true = and_right (nat_le 33 b) _ (and_left (is_visible b) _ h) in omega (arith, leb-true b 126 high)
visible_ascii (b ∷ text) h (suc i) = visible_ascii text (and_right (is_visible b) _ h) i

pub head_is_valid : (target : List ℕ) (xs : List (List ℕ × List ℕ)) → IsTarget target → AreGood xs → IsRequestHead (request_tree target xs)
unfolding is_token_byte
head_is_valid target xs t good =
    let visible : list_all is_visible target ≡ true = target_visible target t in
    record {
      method = (omega arith, AllPass-from_list_all is_token_byte (codes "GET") refl);
      target = (omega (arith, t.some), AllPass-from_list_all is_uri_byte target (all_weaker is_visible is_uri_byte target visible_uri visible));
      target_text = IsUtf8-from_ascii target (visible_ascii target visible);
      minor = omega arith;
      fields = fields_valid xs good;
    }

pub start_is_line : (target : List ℕ) → IsTarget target → is_line (start_line target) ≡ true
start_is_line target t = one_line target (target_visible target t)
  where
    one_line : (text : List ℕ) → list_all is_visible text ≡ true → is_one_line (text ++ codes " HTTP/1.1") ≡ true
    one_line [] h = refl
    one_line (b ∷ text) h =
        let f = is_other is_visible 10 b refl (and_left (is_visible b) _ h) in
        and_both _ (is_one_line (text ++ codes " HTTP/1.1")) (rw f refl) (one_line text (and_right (is_visible b) _ h))

-- ---- hosts

or_cases : (a b : Bool) → (a || b) ≡ true → (a ≡ true) ⊎ (b ≡ true)
or_cases true b h = inl refl
or_cases false b h = inr h

or_first : (a b : Bool) → a ≡ true → (a || b) ≡ true
or_first true b h = refl
or_first false b h = absurd (cc h)

or_second : (a b : Bool) → b ≡ true → (a || b) ≡ true
or_second true b h = refl
or_second false b h = h

letter_host : (b : ℕ) → is_letter_or_digit b ≡ true → is_ascii_alphanumeric b ≡ true
letter_host b h = elim (or_cases (nat_le 97 b && nat_le b 122) _ h) [
  | inl low ↦ or_second _ _ low
  | inr digit ↦ or_first _ _ (or_first _ _ digit)
]

name_host : (b : ℕ) → is_name_byte b ≡ true → is_host_byte b ≡ true
unfolding is_host_byte
name_host b h = elim (or_cases (is_letter_or_digit b) _ h) [
  | inl letter ↦ or_first (is_ascii_alphanumeric b) _ (letter_host b letter)
  | inr mark ↦ elim (or_cases (b == 45) (b == 46) mark) [
    | inl dash ↦ let e : b ≡ 45 = eqb-true b 45 dash in rw e refl
    | inr dot ↦ let e : b ≡ 46 = eqb-true b 46 dot in rw e refl
  ]
]

pub name_is_host : (name : List ℕ) → IsName name → is_host name ≡ true
unfolding is_host
name_is_host name n =
    and_both (nat_le (length name) 255) _ (le-leb (length name) 255 (omega (arith, n.short))) (all_weaker is_name_byte is_host_byte name name_host (list_all-from_AllPass is_name_byte name n.all))

name_visible : (b : ℕ) → is_name_byte b ≡ true → is_visible b ≡ true
name_visible b h = elim (or_cases (is_letter_or_digit b) _ h) [
  | inl letter ↦ elim (or_cases (nat_le 97 b && nat_le b 122) _ letter) [
    | inl low ↦ both b (omega (arith, leb-true 97 b (and_left _ _ low))) (omega (arith, leb-true b 122 (and_right (nat_le 97 b) _ low)))
    | inr digit ↦ both b (omega (arith, leb-true 48 b (and_left _ _ digit))) (omega (arith, leb-true b 57 (and_right (nat_le 48 b) _ digit)))
  ]
  | inr mark ↦ elim (or_cases (b == 45) (b == 46) mark) [
    | inl dash ↦ let e : b ≡ 45 = eqb-true b 45 dash in rw e refl
    | inr dot ↦ let e : b ≡ 46 = eqb-true b 46 dot in rw e refl
  ]
]
  where
    both : (b : ℕ) → 33 ≤ b → b ≤ 126 → is_visible b ≡ true
    both b low high = and_both (nat_le 33 b) _ (le-leb 33 b low) (le-leb b 126 high)

pub name_is_visible : (name : List ℕ) → IsName name → list_all is_visible name ≡ true
name_is_visible name n = all_weaker is_name_byte is_visible name name_visible (list_all-from_AllPass is_name_byte name n.all)
