-- A site's reply is printed line by line.
use Rattle.std.proofs.Common.{◌≡◌, ℕ, Bool, true, false, List, [], ◌∷◌, ◌++◌, refl, ◌∙◌, ap, append_assoc, Option, Some, None, map}
use Rattle.std.specs.Prelude.{◌==◌, codes, decimal, option_map, if◌then◌else◌}
use Rattle.hex.specs.Hex.{encode_lower}
use Rattle.mc_requests.specs.Dates.{date_of}
use Rattle.mc_requests.specs.Refusals.{refusal_text}
use Rattle.mc_requests.specs.Replies.{Reply, reply_head, status_line, reason, media_type, field, field_if, allow_line, or_dash}
use Rattle.reply_reader.proofs.HeadLines.{print_lines, field_line, status_start, reply_lines, with_field, with_allow, last_fields, reply_fields}

-- fields one after the other, and the empty line
abbrev written : List (List ℕ × List ℕ) → List ℕ
written [] = codes "\r\n"
written (x ∷ xs) = field x.0 x.1 ++ written xs

field_part : (name value rest : List ℕ) → field name value ++ rest ≡ (name ++ 58 ∷ 32 ∷ value) ++ 13 ∷ 10 ∷ rest
field_part name value rest =
    append_assoc ((name ++ codes ": ") ++ value) (codes "\r\n") rest
    ∙ ap (λ (z : List ℕ). z ++ 13 ∷ 10 ∷ rest) (append_assoc name (codes ": ") value)

written_lines : (xs : List (List ℕ × List ℕ)) → written xs ≡ print_lines (map field_line xs)
written_lines [] = refl
written_lines (x ∷ xs) = field_part x.0 x.1 (written xs) ∙ ap (λ (z : List ℕ). (x.0 ++ 58 ∷ 32 ∷ x.1) ++ 13 ∷ 10 ∷ z) (written_lines xs)

opt_part : (name : List ℕ) (o : Option (List ℕ)) (xs : List (List ℕ × List ℕ)) → field_if name o ++ written xs ≡ written (with_field name o xs)
opt_part name None xs = refl
opt_part name (Some value) xs = refl

allow_part : (b : Bool) (xs : List (List ℕ × List ℕ)) → (if b then field (codes "Allow") (codes "GET") else []) ++ written xs ≡ written (with_allow b xs)
allow_part true xs = refl
allow_part false xs = refl

to_right : (a b c d e f g h i j k : List ℕ) → ((((((((((a ++ b) ++ c) ++ d) ++ e) ++ f) ++ g) ++ h) ++ i) ++ j) ++ k) ≡ a ++ (b ++ (c ++ (d ++ (e ++ (f ++ (g ++ (h ++ (i ++ (j ++ k)))))))))
to_right a b c d e f g h i j k =
    append_assoc (((((((((a ++ b) ++ c) ++ d) ++ e) ++ f) ++ g) ++ h) ++ i)) j k
    ∙ append_assoc ((((((((a ++ b) ++ c) ++ d) ++ e) ++ f) ++ g) ++ h)) i (j ++ k)
    ∙ append_assoc (((((((a ++ b) ++ c) ++ d) ++ e) ++ f) ++ g)) h (i ++ (j ++ k))
    ∙ append_assoc ((((((a ++ b) ++ c) ++ d) ++ e) ++ f)) g (h ++ (i ++ (j ++ k)))
    ∙ append_assoc (((((a ++ b) ++ c) ++ d) ++ e)) f (g ++ (h ++ (i ++ (j ++ k))))
    ∙ append_assoc ((((a ++ b) ++ c) ++ d)) e (f ++ (g ++ (h ++ (i ++ (j ++ k)))))
    ∙ append_assoc (((a ++ b) ++ c)) d (e ++ (f ++ (g ++ (h ++ (i ++ (j ++ k))))))
    ∙ append_assoc (a ++ b) c (d ++ (e ++ (f ++ (g ++ (h ++ (i ++ (j ++ k)))))))
    ∙ append_assoc a b (c ++ (d ++ (e ++ (f ++ (g ++ (h ++ (i ++ (j ++ k))))))))

status_part : (status : ℕ) (rest : List ℕ) → status_line status ++ rest ≡ status_start (decimal status) (reason status) ++ 13 ∷ 10 ∷ rest
status_part status rest =
    append_assoc (((codes "HTTP/1.1 " ++ decimal status) ++ codes " ") ++ reason status) (codes "\r\n") rest
    ∙ ap (λ (z : List ℕ). z ++ 13 ∷ 10 ∷ rest)
    (append_assoc (codes "HTTP/1.1 " ++ decimal status) (codes " ") (reason status) ∙ append_assoc (codes "HTTP/1.1 ") (decimal status) (32 ∷ reason status))

middle : (r : Reply) → field_if (codes "Content-Type") (option_map media_type r.kind) ++ (allow_line r.status ++ (field (codes "Content-Length") (decimal r.length) ++ (field_if (codes "Millicent-Refusal") (option_map refusal_text r.refusal) ++ written (last_fields r))))
    ≡ written (with_field (codes "Content-Type") (option_map media_type r.kind) (with_allow (r.status == 405) ((codes "Content-Length", decimal r.length) ∷ with_field (codes "Millicent-Refusal") (option_map refusal_text r.refusal) (last_fields r))))
middle r =
    ap (λ (z : List ℕ). field_if (codes "Content-Type") (option_map media_type r.kind) ++ (allow_line r.status ++ (field (codes "Content-Length") (decimal r.length) ++ z))) (opt_part (codes "Millicent-Refusal") (option_map refusal_text r.refusal) (last_fields r))
    ∙ ap (λ (z : List ℕ). field_if (codes "Content-Type") (option_map media_type r.kind) ++ z) (allow_part (r.status == 405) ((codes "Content-Length", decimal r.length) ∷ with_field (codes "Millicent-Refusal") (option_map refusal_text r.refusal) (last_fields r)))
    ∙ opt_part (codes "Content-Type") (option_map media_type r.kind) (with_allow (r.status == 405) ((codes "Content-Length", decimal r.length) ∷ with_field (codes "Millicent-Refusal") (option_map refusal_text r.refusal) (last_fields r)))

pub head_is_lines : (r : Reply) → reply_head r ≡ reply_lines (decimal r.status) (reason r.status) (reply_fields r)
unfolding reply_head
head_is_lines r =
    to_right (status_line r.status) (field (codes "Date") (date_of r.date)) (field (codes "Cache-Control") (codes "no-store")) (field_if (codes "Content-Type") (option_map media_type r.kind)) (allow_line r.status) (field (codes "Content-Length") (decimal r.length)) (field_if (codes "Millicent-Refusal") (option_map refusal_text r.refusal)) (field (codes "Millicent-Price") (or_dash (option_map decimal r.price))) (field (codes "Millicent-Change") (or_dash r.change)) (field (codes "Millicent-Sign") (or_dash (option_map encode_lower r.sign))) (codes "\r\n")
    ∙ ap (λ (z : List ℕ). status_line r.status ++ (field (codes "Date") (date_of r.date) ++ (field (codes "Cache-Control") (codes "no-store") ++ z))) (middle r)
    ∙ status_part r.status (written (reply_fields r))
    ∙ ap (λ (z : List ℕ). status_start (decimal r.status) (reason r.status) ++ 13 ∷ 10 ∷ z) (written_lines (reply_fields r))
