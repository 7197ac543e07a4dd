-- A wallet's request line by line: its request line and its fields, each with CR LF behind it, and an empty line.
use Rattle.std.proofs.Common.{◌≡◌, ℕ, List, [], ◌∷◌, ◌++◌, ◌∙◌, ap, sym, append_assoc, map, Option, Some, None}
use Rattle.std.specs.Prelude.{codes}
use Rattle.hex.specs.Hex.{encode_lower}
use Rattle.httparse.specs.Grammar.{RequestHead, crlf}
use Rattle.mc_requests.specs.Replies.{field, field_if}
use Rattle.wallet_model.specs.Requests.{Pending}
use Rattle.wallet_model.specs.Asks.{request_bytes, signature_of}
use Rattle.reply_reader.proofs.HeadLines.{print_lines, clean_field, field_line, with_field}

abbrev pub start_line : List ℕ → List ℕ
start_line target = codes "GET " ++ (target ++ codes " HTTP/1.1")

abbrev pub request_tree : List ℕ → List (List ℕ × List ℕ) → RequestHead
request_tree target xs = record { blank = []; method = codes "GET"; target = target; minor = 1; line_end = crlf; fields = map clean_field xs; last = crlf }

abbrev pub request_lines : List ℕ → List (List ℕ × List ℕ) → List ℕ
request_lines target xs = print_lines (start_line target ∷ map field_line xs)

-- ---- its fields

abbrev pub last_asked : List ℕ → List (List ℕ × List ℕ)
last_asked sign = (codes "Millicent-Sign", sign) ∷ (codes "Connection", codes "close") ∷ []

abbrev pub fields_asked : List ℕ → Option (List ℕ) → List ℕ → List (List ℕ × List ℕ)
fields_asked peer scrip sign = (codes "Host", peer) ∷ with_field (codes "Millicent-Scrip") scrip (last_asked sign)

abbrev pub fields_of : Pending → List (List ℕ × List ℕ)
fields_of p = fields_asked p.peer p.scrip (encode_lower (signature_of p))

-- ---- its bytes

abbrev written : List ℕ → List ℕ → Option (List ℕ) → List ℕ → List ℕ
written target peer scrip sign =
    codes "GET " ++ target ++ codes " HTTP/1.1\r\n"
    ++ field (codes "Host") peer
    ++ field_if (codes "Millicent-Scrip") scrip
    ++ field (codes "Millicent-Sign") sign
    ++ field (codes "Connection") (codes "close")
    ++ codes "\r\n"

abbrev last_written : List ℕ → List ℕ
last_written sign = field (codes "Millicent-Sign") sign ++ (field (codes "Connection") (codes "close") ++ codes "\r\n")

sign_part : (sign : List ℕ) → last_written sign ≡ print_lines (map field_line (last_asked sign))
sign_part sign = ap (λ (z : List ℕ). codes "Millicent-Sign: " ++ z) (append_assoc sign (codes "\r\n") (codes "Connection: close\r\n\r\n"))

scrip_part : (scrip : Option (List ℕ)) (sign : List ℕ) → field_if (codes "Millicent-Scrip") scrip ++ last_written sign ≡ print_lines (map field_line (with_field (codes "Millicent-Scrip") scrip (last_asked sign)))
scrip_part None sign = sign_part sign
scrip_part (Some text) sign =
    ap (λ (z : List ℕ). codes "Millicent-Scrip: " ++ z)
    (append_assoc text (codes "\r\n") (last_written sign) ∙ ap (λ (z : List ℕ). text ++ 13 ∷ 10 ∷ z) (sign_part sign))

host_part : (peer : List ℕ) (scrip : Option (List ℕ)) (sign : List ℕ)
    → field (codes "Host") peer ++ (field_if (codes "Millicent-Scrip") scrip ++ last_written sign) ≡ print_lines (map field_line (fields_asked peer scrip sign))
host_part peer scrip sign =
    ap (λ (z : List ℕ). codes "Host: " ++ z)
    (append_assoc peer (codes "\r\n") (field_if (codes "Millicent-Scrip") scrip ++ last_written sign) ∙ ap (λ (z : List ℕ). peer ++ 13 ∷ 10 ∷ z) (scrip_part scrip sign))

to_right : (a b c d e f g h : List ℕ) → (((((((a ++ b) ++ c) ++ d) ++ e) ++ f) ++ g) ++ h) ≡ a ++ (b ++ (c ++ (d ++ (e ++ (f ++ (g ++ h))))))
to_right a b c d e f g h =
    append_assoc (((((a ++ b) ++ c) ++ d) ++ e) ++ f) g h
    ∙ append_assoc ((((a ++ b) ++ c) ++ d) ++ e) f (g ++ h)
    ∙ append_assoc (((a ++ b) ++ c) ++ d) e (f ++ (g ++ h))
    ∙ append_assoc ((a ++ b) ++ c) d (e ++ (f ++ (g ++ h)))
    ∙ append_assoc (a ++ b) c (d ++ (e ++ (f ++ (g ++ h))))
    ∙ append_assoc a b (c ++ (d ++ (e ++ (f ++ (g ++ h)))))

written_lines : (target peer : List ℕ) (scrip : Option (List ℕ)) (sign : List ℕ) → written target peer scrip sign ≡ request_lines target (fields_asked peer scrip sign)
written_lines target peer scrip sign =
    to_right (codes "GET ") target (codes " HTTP/1.1\r\n") (field (codes "Host") peer) (field_if (codes "Millicent-Scrip") scrip) (field (codes "Millicent-Sign") sign) (field (codes "Connection") (codes "close")) (codes "\r\n")
    ∙ ap (λ (z : List ℕ). codes "GET " ++ z)
    (ap (λ (z : List ℕ). target ++ (codes " HTTP/1.1\r\n" ++ z)) (host_part peer scrip sign)
    ∙ sym (append_assoc target (codes " HTTP/1.1") (13 ∷ 10 ∷ print_lines (map field_line (fields_asked peer scrip sign)))))

pub bytes_are_lines : (p : Pending) → request_bytes p ≡ request_lines p.target (fields_of p)
unfolding request_bytes
bytes_are_lines p = written_lines p.target p.peer p.scrip (encode_lower (signature_of p))
