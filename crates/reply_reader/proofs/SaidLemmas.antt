-- What a site's reply says is read back.
use Rattle.std.proofs.Common.{◌≡◌, ℕ, ◌≤◌, Bool, true, false, List, [], ◌∷◌, ◌++◌, length, refl, sym, ◌∙◌, ap, subst, Option, Some, None, map}
use Rattle.std.specs.Prelude.{◌==◌, codes, decimal, option_map, option_to_list}
use Rattle.std.specs.List.{list_all}
use Rattle.hex.specs.Hex.{encode_lower}
use Rattle.httparse.specs.Grammar.{IsResponseHead, status_code}
use Rattle.mc_requests.specs.Dates.{date_of}
use Rattle.mc_requests.specs.Refusals.{refusal_text}
use Rattle.mc_requests.specs.Replies.{Reply, reply_head, reason, media_type, or_dash}
use Rattle.millicent_http.specs.Fields.{values, same_name}
use Rattle.millicent_http.specs.Decimals.{decimal_of}
use Rattle.reply_reader.specs.Said.{HeadSaid, said_by, refusal_said}
use Rattle.reply_reader.specs.Replies.{received_with, IsReply}
use Rattle.reply_reader.proofs.HeadLines.{is_line, clean_field, field_line, is_trimmed, status_start, response_tree, reply_lines, with_field, with_allow, reply_fields}
use Rattle.reply_reader.proofs.PrintedLemmas.{one_reply}
use Rattle.reply_reader.proofs.SiteLemmas.{head_is_lines}

abbrev pub fields_with : List ℕ → Option (List ℕ) → Bool → List ℕ → Option (List ℕ) → List ℕ → List ℕ → List ℕ → List (List ℕ × List ℕ)
fields_with date kind allow n refusal price change sign =
    (codes "Date", date) ∷ (codes "Cache-Control", codes "no-store")
    ∷ with_field (codes "Content-Type") kind (with_allow allow
    ((codes "Content-Length", n) ∷ with_field (codes "Millicent-Refusal") refusal ((codes "Millicent-Price", price) ∷ (codes "Millicent-Change", change) ∷ (codes "Millicent-Sign", sign) ∷ [])))

abbrev pub said_with : ℕ → Option (List ℕ) → List ℕ → List ℕ → List ℕ → ℕ → HeadSaid
said_with status refusal price change sign len = record { status = status; refusal = refusal; price = price; change = change; sign = sign; length = len }

says_all : (status : ℕ) (date : List ℕ) (kind : Option (List ℕ)) (allow : Bool) (n : List ℕ) (refusal : Option (List ℕ)) (price change sign : List ℕ) (len : ℕ)
    → decimal_of 65536 n ≡ Some len → refusal_said status (option_to_list refusal) ≡ Some refusal
    → said_by status (fields_with date kind allow n refusal price change sign) ≡ Some (said_with status refusal price change sign len)
unfolding values same_name
says_all status date None true n None price change sign len e f = rw (e, f) refl
says_all status date None true n (Some t) price change sign len e f = rw (e, f) refl
says_all status date None false n None price change sign len e f = rw (e, f) refl
says_all status date None false n (Some t) price change sign len e f = rw (e, f) refl
says_all status date (Some k) true n None price change sign len e f = rw (e, f) refl
says_all status date (Some k) true n (Some t) price change sign len e f = rw (e, f) refl
says_all status date (Some k) false n None price change sign len e f = rw (e, f) refl
says_all status date (Some k) false n (Some t) price change sign len e f = rw (e, f) refl

abbrev pub said_of : Reply → HeadSaid
said_of r = said_with r.status (option_map refusal_text r.refusal) (or_dash (option_map decimal r.price)) (or_dash r.change) (or_dash (option_map encode_lower r.sign)) r.length

-- A reply of a site, with its contents, is read as its values, whatever follows.
pub reply_is_read : (r : Reply) (contents more : List ℕ)
    → IsResponseHead (response_tree (decimal r.status) (reason r.status) (reply_fields r)) → length (map clean_field (reply_fields r)) ≤ 64
    → is_line (status_start (decimal r.status) (reason r.status)) ≡ true → list_all is_line (map field_line (reply_fields r)) ≡ true → list_all (λ y. is_trimmed y.1) (reply_fields r) ≡ true
    → length (reply_head r) ≤ 8192 → status_code (response_tree (decimal r.status) (reason r.status) (reply_fields r)) ≡ r.status
    → decimal_of 65536 (decimal r.length) ≡ Some r.length → refusal_said r.status (option_to_list (option_map refusal_text r.refusal)) ≡ Some (option_map refusal_text r.refusal)
    → r.length ≡ length contents
    → IsReply (reply_head r ++ (contents ++ more)) (received_with (said_of r) contents)
reply_is_read r contents more h few first lines trims short status len refusal size =
    let said : said_by (status_code (response_tree (decimal r.status) (reason r.status) (reply_fields r))) (reply_fields r) ≡ Some (said_of r) =
    ap (λ (s : ℕ). said_by s (reply_fields r)) status
    ∙ says_all r.status (date_of r.date) (option_map media_type r.kind) (r.status == 405) (decimal r.length) (option_map refusal_text r.refusal) (or_dash (option_map decimal r.price)) (or_dash r.change) (or_dash (option_map encode_lower r.sign)) r.length len refusal in
    let within : length (reply_lines (decimal r.status) (reason r.status) (reply_fields r)) ≤ 8192 = subst (λ (z : List ℕ). length z ≤ 8192) (head_is_lines r) short in
    subst (λ (z : List ℕ). IsReply (z ++ (contents ++ more)) (received_with (said_of r) contents)) (sym (head_is_lines r))
    (one_reply (decimal r.status) (reason r.status) (reply_fields r) contents more (said_of r) h few first lines trims within said size)
