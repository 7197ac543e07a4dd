-- What a site writes of a reply is read back.
use Rattle.std.proofs.Common.{◌≡◌, ◌≢◌, ◌⊎◌, ℕ, zero, suc, ◌+◌, ◌<◌, ◌≤◌, ◌^◌, Bool, true, false, ◌&&◌, ◌||◌, List, [], ◌∷◌, ◌++◌, inl, inr, length, map, refl, sym, ◌∙◌, subst, arith, Option, Some, None}
use Rattle.std.specs.Prelude.{◌==◌, codes, decimal, nat_lt, if◌then◌else◌, All, IsTrue, IfSome, IsNone, IsSomeAnd, option_map, option_to_list}
use Rattle.std.specs.List.{list_all, list_any}
use Rattle.std.specs.Str.{bytes_eq}
use Rattle.std.specs.Char.{is_ascii_digit}
use Rattle.std.specs.Fmt.{digits}
use Rattle.std.proofs.lemmas.Bool.{eqb-true, ltb-true, true≢false}
use Rattle.std.proofs.lemmas.Fmt.{decimal_is_IsNumeral}
use Rattle.std.proofs.lemmas.List.{length-map}
use Rattle.std.proofs.lemmas.List.Elements.{All-nil, All-cons}
use Rattle.std.proofs.lemmas.Slice.Eq.{bytes_eq-Decides}
use Rattle.hex.specs.Hex.{encode_lower}
use Rattle.httparse.specs.Grammar.{IsField, IsResponseHead, is_token, is_token_byte, is_value_byte}
use Rattle.mc_requests.specs.declared.refusal.Refusal.{Refusal}
use Rattle.mc_requests.specs.Dates.{date_of}
use Rattle.mc_requests.specs.Refusals.{refusal_text, kept_of}
use Rattle.mc_requests.specs.Replies.{Reply, reply_head, reason, media_type, or_dash}
use Rattle.millicent_http.specs.ReplyHeads.{statuses}
use Rattle.millicent_http.proofs.ItemLemmas.{max_head_is}
use Rattle.scrip_form.specs.Scrip.{IsScripText}
use Rattle.scrip_form.specs.Texts.{is_visible}
use Rattle.millicent_http.specs.Decimals.{decimal_of}
use Rattle.reply_reader.specs.Said.{refusal_said}
use Rattle.reply_reader.specs.Replies.{IsReply}
use Rattle.reply_reader.specs.Written.{IsWord, IsSiteReply, received_back}
use Rattle.reply_reader.proofs.HeadLines.{is_line, is_trimmed, clean_field, field_line, status_start, response_tree, with_field, with_allow, last_fields, reply_fields}
use Rattle.reply_reader.proofs.QuietLemmas.{and_left, and_right, and_both}
use Rattle.reply_reader.proofs.DecimalLemmas.{decimal_one, spelled_number}
use Rattle.reply_reader.proofs.CleanLemmas.{IsClean, clean_visible, decimal_visible, hex_visible, field_is_line, value_is_one_line}
use Rattle.reply_reader.proofs.ScripLemmas.{scrip_visible}
use Rattle.reply_reader.proofs.DateLemmas.{date_is_clean}
use Rattle.reply_reader.proofs.RefusalLemmas.{begins_with_number, refusal_is_clean}
use Rattle.reply_reader.proofs.SaidLemmas.{reply_is_read}

-- ---- good fields: their names are tokens, their values are clean

abbrev is_good : List ℕ × List ℕ → Bool
is_good x = is_token x.0 && (is_line x.0 && (list_all is_value_byte x.1 && is_trimmed x.1))

abbrev all_good : List (List ℕ × List ℕ) → Bool
all_good xs = list_all is_good xs

cons_good : (name value : List ℕ) (rest : List (List ℕ × List ℕ)) → is_token name ≡ true → is_line name ≡ true → IsClean value → all_good rest ≡ true → all_good ((name, value) ∷ rest) ≡ true
cons_good name value rest token line c more =
    and_both _ (all_good rest) (and_both (is_token name) _ token (and_both (is_line name) _ line (and_both (list_all is_value_byte value) (is_trimmed value) c.bytes c.trimmed))) more

option_good : (name : List ℕ) (o : Option (List ℕ)) (rest : List (List ℕ × List ℕ)) → is_token name ≡ true → is_line name ≡ true → IfSome o IsClean → all_good rest ≡ true → all_good (with_field name o rest) ≡ true
option_good name None rest token line c more = more
option_good name (Some value) rest token line c more = cons_good name value rest token line c more

allow_good : (b : Bool) (rest : List (List ℕ × List ℕ)) → all_good rest ≡ true → all_good (with_allow b rest) ≡ true
unfolding is_token_byte
allow_good false rest more = more
allow_good true rest more = cons_good (codes "Allow") (codes "GET") rest refl refl (record { bytes = refl; trimmed = refl }) more

all_pass : (p : ℕ → Bool) (text : List ℕ) → list_all p text ≡ true → All (λ b. IsTrue (p b)) text
all_pass p [] h = All-nil (λ b. IsTrue (p b))
all_pass p (b ∷ text) h = All-cons (λ c. IsTrue (p c)) b text (and_left (p b) (list_all p text) h) (all_pass p text (and_right (p b) (list_all p text) h))

fields_valid : (xs : List (List ℕ × List ℕ)) → all_good xs ≡ true → All IsField (map clean_field xs)
fields_valid [] h = All-nil IsField
fields_valid (x ∷ xs) h =
    let one : is_good x ≡ true = and_left (is_good x) (all_good xs) h in
    let token : is_token x.0 ≡ true = and_left (is_token x.0) _ one in
    let value : list_all is_value_byte x.1 ≡ true = and_left (list_all is_value_byte x.1) _ (and_right (is_line x.0) _ (and_right (is_token x.0) _ one)) in
    All-cons IsField (clean_field x) (map clean_field xs)
    (record {
      name = (ltb-true 0 (length x.0) (and_left (nat_lt 0 (length x.0)) _ token), all_pass is_token_byte x.0 (and_right (nat_lt 0 (length x.0)) _ token));
      raw = all_pass is_value_byte (32 ∷ x.1) (and_both true _ refl value);
    })
    (fields_valid xs (and_right (is_good x) (all_good xs) h))

fields_are_lines : (xs : List (List ℕ × List ℕ)) → all_good xs ≡ true → list_all is_line (map field_line xs) ≡ true
fields_are_lines [] h = refl
fields_are_lines (x ∷ xs) h =
    let one : is_good x ≡ true = and_left (is_good x) (all_good xs) h in
    let rest = and_right (is_token x.0) _ one in
    and_both (is_line (field_line x)) _ (field_is_line x.0 x.1 (and_left (is_line x.0) _ rest) (value_is_one_line x.1 (and_left (list_all is_value_byte x.1) _ (and_right (is_line x.0) _ rest))))
    (fields_are_lines xs (and_right (is_good x) (all_good xs) h))

fields_are_trimmed : (xs : List (List ℕ × List ℕ)) → all_good xs ≡ true → list_all (λ y. is_trimmed y.1) xs ≡ true
fields_are_trimmed [] h = refl
fields_are_trimmed (x ∷ xs) h =
    let one : is_good x ≡ true = and_left (is_good x) (all_good xs) h in
    and_both (is_trimmed x.1) _ (and_right (list_all is_value_byte x.1) _ (and_right (is_line x.0) _ (and_right (is_token x.0) _ one)))
    (fields_are_trimmed xs (and_right (is_good x) (all_good xs) h))

option_count : (name : List ℕ) (o : Option (List ℕ)) (rest : List (List ℕ × List ℕ)) → length (with_field name o rest) ≤ length rest + 1
option_count name None rest = omega arith
option_count name (Some value) rest = omega arith

allow_count : (b : Bool) (rest : List (List ℕ × List ℕ)) → length (with_allow b rest) ≤ length rest + 1
allow_count false rest = omega arith
allow_count true rest = omega arith

-- the fields from one of them on
abbrev from_refusal : Reply → List (List ℕ × List ℕ)
from_refusal r = with_field (codes "Millicent-Refusal") (option_map refusal_text r.refusal) (last_fields r)

abbrev from_length : Reply → List (List ℕ × List ℕ)
from_length r = (codes "Content-Length", decimal r.length) ∷ from_refusal r

abbrev from_kind : Reply → List (List ℕ × List ℕ)
from_kind r = with_field (codes "Content-Type") (option_map media_type r.kind) (with_allow (r.status == 405) (from_length r))

few_fields : (r : Reply) → length (map clean_field (reply_fields r)) ≤ 64
few_fields r = omega (
  arith,
  length-map (reply_fields r) clean_field,
  option_count (codes "Content-Type") (option_map media_type r.kind) (with_allow (r.status == 405) (from_length r)),
  allow_count (r.status == 405) (from_length r),
  option_count (codes "Millicent-Refusal") (option_map refusal_text r.refusal) (last_fields r),
)

-- ---- the status line

record IsStatus (s : ℕ) : Type 0 where
  three : length (decimal s) ≡ 3
  digits' : list_all is_ascii_digit (decimal s) ≡ true
  small : s < 2 ^ 64
  reason' : list_all is_value_byte (reason s) ≡ true
  line : is_line (status_start (decimal s) (reason s)) ≡ true

status_made : (s : ℕ) → length (decimal s) ≡ 3 → list_all is_ascii_digit (decimal s) ≡ true → s < 2 ^ 64 → list_all is_value_byte (reason s) ≡ true → is_line (status_start (decimal s) (reason s)) ≡ true → IsStatus s
status_made s a b c d e = record { three = a; digits' = b; small = c; reason' = d; line = e }

abbrev Each : (ℕ → Type 0) → List ℕ → Type 0
Each P [] = Unit {0}
Each P (x ∷ xs) = P x × Each P xs

or_cases : (a b : Bool) → (a || b) ≡ true → (a ≡ true) ⊎ (b ≡ true)
or_cases true b h = inl refl
or_cases false b h = inr h

each_of : (P : ℕ → Type 0) (s : ℕ) (l : List ℕ) → Each P l → list_any (λ t. t == s) l ≡ true → P s
each_of P s [] each h = absurd (cc h)
each_of P s (t ∷ l) each h = elim (or_cases (t == s) (list_any (λ u. u == s) l) h) [
  | inl here ↦ subst P (eqb-true t s here) each.0
  | inr later ↦ each_of P s l each.1 later
]

all_statuses : Each IsStatus statuses
unfolding digits
all_statuses = (
  status_made 200 refl refl (omega arith) refl refl,
  (
    status_made 400 refl refl (omega arith) refl refl,
    (
      status_made 402 refl refl (omega arith) refl refl,
      (
        status_made 403 refl refl (omega arith) refl refl,
        (
          status_made 404 refl refl (omega arith) refl refl,
          (
            status_made 405 refl refl (omega arith) refl refl,
            (
              status_made 409 refl refl (omega arith) refl refl,
              (
                status_made 410 refl refl (omega arith) refl refl,
                (
                  status_made 413 refl refl (omega arith) refl refl,
                  (
                    status_made 431 refl refl (omega arith) refl refl,
                    (
                      status_made 500 refl refl (omega arith) refl refl,
                      (status_made 503 refl refl (omega arith) refl refl, tt),
                    ),
                  ),
                ),
              ),
            ),
          ),
        ),
      ),
    ),
  ),
)

-- ---- the values

-- a number is read as itself
number_back : (most n : ℕ) → most < 2 ^ 64 → n ≤ most → decimal_of most (decimal n) ≡ Some n
unfolding digits
number_back most zero small le = refl
number_back most (suc n) small le = elim (bytes_eq (decimal (suc n)) (codes "0")) as (λ b. bytes_eq (decimal (suc n)) (codes "0") ≡ b → decimal_of most (decimal (suc n)) ≡ Some (suc n)) [
  | true ↦ λ e. absurd (let same : suc n ≡ 0 = decimal_one (suc n) 0 (omega (arith, le, small)) (omega arith) ((bytes_eq-Decides (decimal (suc n)) (codes "0")).0 e) in omega (arith, same))
  | false ↦ λ e. rw e (spelled_number most (suc n) (decimal (suc n)) small (record { some = omega arith; within = le }) refl)
] refl

dash_clean : IsClean (codes "-")
dash_clean = record { bytes = refl; trimmed = refl }

media_clean : (kind : ℕ) → IsClean (media_type kind)
media_clean kind = elim (kind == 0) as (λ b. IsClean (if b then codes "application/octet-stream" else if kind == 1 then codes "text/plain; charset=utf-8" else codes "text/html; charset=utf-8")) [
  | true ↦ record { bytes = refl; trimmed = refl }
  | false ↦ elim (kind == 1) as (λ b. IsClean (if b then codes "text/plain; charset=utf-8" else codes "text/html; charset=utf-8")) [
    | true ↦ record { bytes = refl; trimmed = refl }
    | false ↦ record { bytes = refl; trimmed = refl }
  ]
]

kind_clean : (kind : Option ℕ) → IfSome (option_map media_type kind) IsClean
kind_clean None = tt
kind_clean (Some k) = media_clean k

number_clean : (n : ℕ) → n < 2 ^ 64 → IsClean (decimal n)
number_clean n small = clean_visible (decimal n) (decimal_visible n small).0

price_clean : (price : Option ℕ) → IfSome price (λ n. n < 2 ^ 64) → IsClean (or_dash (option_map decimal price))
price_clean None h = dash_clean
price_clean (Some n) h = number_clean n h

change_clean : (change : Option (List ℕ)) → IfSome change IsScripText → IsClean (or_dash change)
change_clean None h = dash_clean
change_clean (Some text) h = clean_visible text (scrip_visible text h)

sign_clean : (sign : Option (List ℕ)) → IfSome sign (All (λ b. b < 256)) → IsClean (or_dash (option_map encode_lower sign))
sign_clean None h = dash_clean
sign_clean (Some bytes) h = clean_visible (encode_lower bytes) (hex_visible bytes h)

-- the refusal, by the status
record IsRefusalOf (status : ℕ) (refusal : Option Refusal) : Type 0 where
  clean : IfSome (option_map refusal_text refusal) IsClean
  said : refusal_said status (option_to_list (option_map refusal_text refusal)) ≡ Some (option_map refusal_text refusal)

no_refusal : Option (Option (List ℕ))
no_refusal = Some None

is_not_200 : (status : ℕ) → (status == 200) ≡ false → status ≡ 200 → ⊥
is_not_200 status e same = let t : (status == 200) ≡ true = subst (λ (z : ℕ). (z == 200) ≡ true) (sym same) refl in true≢false (sym t ∙ e)

refusal_of_status : (status : ℕ) (refusal : Option Refusal) → (status ≡ 200 → IsNone refusal) → (status ≢ 200 → IsSomeAnd refusal (λ f. All IsWord (kept_of f))) → IsRefusalOf status refusal
refusal_of_status status None accepted refused = elim (status == 200) as (λ b. (status == 200) ≡ b → IsRefusalOf status None) [
  | true ↦ λ e. record { clean = tt; said = rw e refl }
  | false ↦ λ e. absurd (refused (λ same. is_not_200 status e same))
] refl
refusal_of_status status (Some f) accepted refused = elim (status == 200) as (λ b. (status == 200) ≡ b → IsRefusalOf status (Some f)) [
  | true ↦ λ e. absurd (cc (accepted (eqb-true status 200 e)))
  | false ↦ λ e. record {
    clean = refusal_is_clean f (refused (λ same. is_not_200 status e same));
    said = rw (e, begins_with_number f) refl;
  }
] refl

-- ---- the reply

last_good : (r : Reply) (contents : List ℕ) → IsSiteReply r contents → all_good (last_fields r) ≡ true
unfolding is_token_byte
last_good r contents s =
    cons_good (codes "Millicent-Price") (or_dash (option_map decimal r.price)) ((codes "Millicent-Change", or_dash r.change) ∷ (codes "Millicent-Sign", or_dash (option_map encode_lower r.sign)) ∷ []) refl refl (price_clean r.price s.price)
    (cons_good (codes "Millicent-Change") (or_dash r.change) ((codes "Millicent-Sign", or_dash (option_map encode_lower r.sign)) ∷ []) refl refl (change_clean r.change s.change)
    (cons_good (codes "Millicent-Sign") (or_dash (option_map encode_lower r.sign)) [] refl refl (sign_clean r.sign s.sign) refl))

site_good : (r : Reply) (contents : List ℕ) → IsSiteReply r contents → all_good (reply_fields r) ≡ true
unfolding is_token_byte
site_good r contents s =
    let refusal = refusal_of_status r.status r.refusal s.accepted s.refused in
    cons_good (codes "Date") (date_of r.date) ((codes "Cache-Control", codes "no-store") ∷ from_kind r) refl refl (date_is_clean r.date s.date)
    (cons_good (codes "Cache-Control") (codes "no-store") (from_kind r) refl refl (record { bytes = refl; trimmed = refl })
    (option_good (codes "Content-Type") (option_map media_type r.kind) (with_allow (r.status == 405) (from_length r)) refl refl (kind_clean r.kind)
    (allow_good (r.status == 405) (from_length r)
    (cons_good (codes "Content-Length") (decimal r.length) (from_refusal r) refl refl (number_clean r.length (omega (arith, s.size, s.few)))
    (option_good (codes "Millicent-Refusal") (option_map refusal_text r.refusal) (last_fields r) refl refl refusal.clean (last_good r contents s))))))

pub reads_back : (r : Reply) (contents more : List ℕ) → IsSiteReply r contents → IsReply (reply_head r ++ (contents ++ more)) (received_back r contents)
reads_back r contents more s =
    let good : all_good (reply_fields r) ≡ true = site_good r contents s in
    let status : IsStatus r.status = each_of IsStatus r.status statuses all_statuses s.status in
    let refusal = refusal_of_status r.status r.refusal s.accepted s.refused in
    let head : IsResponseHead (response_tree (decimal r.status) (reason r.status) (reply_fields r)) = record {
      minor = omega arith;
      digits = (status.three, all_pass is_ascii_digit (decimal r.status) status.digits');
      reason = all_pass is_value_byte (reason r.status) status.reason';
      fields = fields_valid (reply_fields r) good;
    } in
    reply_is_read r contents more head (few_fields r) status.line (fields_are_lines (reply_fields r) good) (fields_are_trimmed (reply_fields r) good)
    (omega (arith, s.short, max_head_is)) (decimal_is_IsNumeral r.status status.small).1
    (number_back 65536 r.length (omega arith) (omega (arith, s.size, s.few))) refusal.said s.size

pub number_is_word : (n : ℕ) → n < 2 ^ 64 → IsWord (decimal n)
number_is_word n small = let d = decimal_visible n small in record { some = d.1; visible = all_pass is_visible (decimal n) d.0 }
