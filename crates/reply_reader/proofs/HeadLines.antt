-- The head of a reply line by line: its status line and its fields, each with CR LF behind it, and an empty line.
use Rattle.std.specs.Prelude.{ℕ, ◌==◌, ◌&&◌, ◌||◌, Bool, true, false, not, List, [], ◌∷◌, ◌++◌, reverse, map, codes, decimal, Option, Some, None, option_map}
use Rattle.std.specs.List.{list_all}
use Rattle.hex.specs.Hex.{encode_lower}
use Rattle.httparse.specs.Grammar.{Field, ResponseHead, crlf, is_ows}
use Rattle.mc_requests.specs.Dates.{date_of}
use Rattle.mc_requests.specs.Refusals.{refusal_text}
use Rattle.mc_requests.specs.Replies.{Reply, media_type, or_dash}

-- ---- bytes in which no empty line ends

-- the bytes begin with LF LF, or with LF CR LF
abbrev pub begins_empty : List ℕ → Bool
begins_empty [] = false
begins_empty (x ∷ []) = false
begins_empty (x ∷ y ∷ []) = x == 10 && y == 10
begins_empty (x ∷ y ∷ z ∷ rest) = x == 10 && (y == 10 || (y == 13 && z == 10))

-- nowhere do they go on so
abbrev pub is_quiet : List ℕ → Bool
is_quiet [] = true
is_quiet (x ∷ xs) = not (begins_empty (x ∷ xs)) && is_quiet xs

-- no byte is an LF
abbrev pub is_one_line : List ℕ → Bool
is_one_line text = list_all (λ b. not (b == 10)) text

-- ---- lines

-- a text without an LF, that begins with neither LF nor CR
abbrev pub is_line : List ℕ → Bool
is_line [] = false
is_line (c ∷ text) = not (c == 10) && (not (c == 13) && is_one_line text)

-- lines, each with CR LF behind it, and an empty line
abbrev pub print_lines : List (List ℕ) → List ℕ
print_lines [] = 13 ∷ 10 ∷ []
print_lines (l ∷ ls) = l ++ 13 ∷ 10 ∷ print_lines ls

-- ---- fields, as names and values with no blank at their ends

abbrev pub clean_field : List ℕ × List ℕ → Field
clean_field x = record { name = x.0; raw = 32 ∷ x.1; end = crlf }

abbrev pub field_line : List ℕ × List ℕ → List ℕ
field_line x = x.0 ++ 58 ∷ 32 ∷ x.1

abbrev pub starts_solid : List ℕ → Bool
starts_solid [] = true
starts_solid (c ∷ text) = not (is_ows c)

abbrev pub is_trimmed : List ℕ → Bool
is_trimmed text = starts_solid text && starts_solid (reverse text)

-- ---- a head

abbrev pub status_start : List ℕ → List ℕ → List ℕ
status_start digits reason = codes "HTTP/1.1 " ++ (digits ++ 32 ∷ reason)

abbrev pub response_tree : List ℕ → List ℕ → List (List ℕ × List ℕ) → ResponseHead
response_tree digits reason xs = record { blank = []; minor = 1; digits = digits; reason = Some reason; line_end = crlf; fields = map clean_field xs; last = crlf }

abbrev pub reply_lines : List ℕ → List ℕ → List (List ℕ × List ℕ) → List ℕ
reply_lines digits reason xs = print_lines (status_start digits reason ∷ map field_line xs)

-- ---- a site's head

abbrev pub with_field : List ℕ → Option (List ℕ) → List (List ℕ × List ℕ) → List (List ℕ × List ℕ)
with_field name None rest = rest
with_field name (Some value) rest = (name, value) ∷ rest

abbrev pub with_allow : Bool → List (List ℕ × List ℕ) → List (List ℕ × List ℕ)
with_allow false rest = rest
with_allow true rest = (codes "Allow", codes "GET") ∷ rest

abbrev pub last_fields : Reply → List (List ℕ × List ℕ)
last_fields r = (codes "Millicent-Price", or_dash (option_map decimal r.price)) ∷ (codes "Millicent-Change", or_dash r.change) ∷ (codes "Millicent-Sign", or_dash (option_map encode_lower r.sign)) ∷ []

abbrev pub reply_fields : Reply → List (List ℕ × List ℕ)
reply_fields r =
    (codes "Date", date_of r.date) ∷ (codes "Cache-Control", codes "no-store")
    ∷ with_field (codes "Content-Type") (option_map media_type r.kind) (with_allow (r.status == 405)
    ((codes "Content-Length", decimal r.length) ∷ with_field (codes "Millicent-Refusal") (option_map refusal_text r.refusal) (last_fields r)))
