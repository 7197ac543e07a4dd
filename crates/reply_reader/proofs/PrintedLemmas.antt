-- A reply that is printed line by line is read back.
use Rattle.std.proofs.Common.{◌≡◌, ℕ, zero, suc, ◌+◌, ◌-◌, ◌≤◌, true, List, [], ◌∷◌, ◌++◌, length, take, drop, refl, sym, ◌∙◌, ap, subst, arith, append_assoc, append-nil, Some, map}
use Rattle.std.specs.Prelude.{slice_range, codes}
use Rattle.std.specs.List.{list_all}
use Rattle.std.proofs.lemmas.List.{take_at, drop_at, length-append}
use Rattle.httparse.specs.Grammar.{IsResponseHead, ReadsResponse, print_response, print_section, crlf, status_code}
use Rattle.millicent_http.specs.HeadEnds.{line_ends, IsFirstEnd}
use Rattle.millicent_http.specs.Items.{max_head}
use Rattle.reply_reader.specs.Said.{HeadSaid, said_by, IsResponse}
use Rattle.reply_reader.specs.Replies.{head_text, received_with, IsReply}
use Rattle.reply_reader.proofs.HeadLines.{print_lines, is_line, clean_field, field_line, is_trimmed, status_start, response_tree, reply_lines}
use Rattle.reply_reader.proofs.QuietLemmas.{first_end_of_lines, range_whole, starts_line}
use Rattle.reply_reader.proofs.FieldLineLemmas.{section_lines, names_and_values}

printed_response : (digits reason : List ℕ) (xs : List (List ℕ × List ℕ)) → print_response (response_tree digits reason xs) ≡ reply_lines digits reason xs
unfolding print_response
printed_response digits reason xs =
    ap (λ (z : List ℕ). (z ++ 13 ∷ 10 ∷ []) ++ print_section (map clean_field xs) crlf) (append_assoc (codes "HTTP/1.1 ") digits (32 ∷ reason))
    ∙ append_assoc (status_start digits reason) (13 ∷ 10 ∷ []) (print_section (map clean_field xs) crlf)
    ∙ ap (λ (z : List ℕ). status_start digits reason ++ 13 ∷ 10 ∷ z) (section_lines xs)

pub response_reads : (digits reason : List ℕ) (xs : List (List ℕ × List ℕ)) → IsResponseHead (response_tree digits reason xs) → ReadsResponse (reply_lines digits reason xs) (response_tree digits reason xs) []
response_reads digits reason xs h = (h, sym (printed_response digits reason xs) ∙ sym (append-nil (print_response (response_tree digits reason xs))))

-- so many of some bytes that are at least as many as those at the front
pub take_over : (k : ℕ) (front more : List ℕ) → length front ≤ k → take k (front ++ more) ≡ front ++ take (k - length front) more
take_over k [] more h = let e : k - 0 ≡ k = omega arith in rw e refl
take_over zero (c ∷ front) more h = absurd (omega (arith, h))
take_over (suc k) (c ∷ front) more h =
    let e : suc k - suc (length front) ≡ k - length front = omega arith in
    ap (λ (z : List ℕ). c ∷ z) (take_over k front more (omega (arith, h)) ∙ ap (λ (n : ℕ). front ++ take n more) (sym e))

-- the front up to its end, with no line ends before it
pub whole_front : (front behind : List ℕ) → line_ends (front ++ behind) ≡ 0 → slice_range (front ++ behind) (line_ends (front ++ behind)) (length front) ≡ front
whole_front front behind starts =
    range_whole (front ++ behind) (line_ends (front ++ behind)) (length front)
    ∙ ap (λ (i : ℕ). drop i (take (length front) (front ++ behind))) starts
    ∙ take_at front behind (length front) refl

starts_reply : (digits reason : List ℕ) (xs : List (List ℕ × List ℕ)) (behind : List ℕ) → is_line (status_start digits reason) ≡ true → line_ends (reply_lines digits reason xs ++ behind) ≡ 0
starts_reply digits reason xs behind first =
    ap line_ends (append_assoc (status_start digits reason) (13 ∷ 10 ∷ print_lines (map field_line xs)) behind)
    ∙ starts_line (status_start digits reason) ((13 ∷ 10 ∷ print_lines (map field_line xs)) ++ behind) first

head_front : (k : ℕ) (front behind bytes : List ℕ) → take k bytes ≡ front ++ behind → line_ends (front ++ behind) ≡ 0 → slice_range (take k bytes) (line_ends (take k bytes)) (length front) ≡ front
head_front k front behind bytes w starts = ap (λ (z : List ℕ). slice_range z (line_ends z) (length front)) w ∙ whole_front front behind starts

pub one_reply : (digits reason : List ℕ) (xs : List (List ℕ × List ℕ)) (contents more : List ℕ) (x : HeadSaid)
    → IsResponseHead (response_tree digits reason xs) → length (map clean_field xs) ≤ 64
    → is_line (status_start digits reason) ≡ true → list_all is_line (map field_line xs) ≡ true → list_all (λ y. is_trimmed y.1) xs ≡ true
    → length (reply_lines digits reason xs) ≤ 8192 → said_by (status_code (response_tree digits reason xs)) xs ≡ Some x → x.length ≡ length contents
    → IsReply (reply_lines digits reason xs ++ (contents ++ more)) (received_with x contents)
unfolding max_head
one_reply digits reason xs contents more x h few first lines trims short said len =
    let w : take 8192 (reply_lines digits reason xs ++ (contents ++ more)) ≡ reply_lines digits reason xs ++ take (8192 - length (reply_lines digits reason xs)) (contents ++ more) = take_over 8192 (reply_lines digits reason xs) (contents ++ more) short in
    let rest : drop (length (reply_lines digits reason xs)) (reply_lines digits reason xs ++ (contents ++ more)) ≡ contents ++ more = drop_at (reply_lines digits reason xs) (contents ++ more) (length (reply_lines digits reason xs)) refl in
    let end : IsFirstEnd (take 8192 (reply_lines digits reason xs ++ (contents ++ more))) (length (reply_lines digits reason xs)) =
    subst (λ (z : List ℕ). IsFirstEnd z (length (reply_lines digits reason xs))) (sym w) (first_end_of_lines (status_start digits reason) (map field_line xs) (take (8192 - length (reply_lines digits reason xs)) (contents ++ more)) first lines) in
    let text : head_text (reply_lines digits reason xs ++ (contents ++ more)) (length (reply_lines digits reason xs)) ≡ reply_lines digits reason xs =
    head_front 8192 (reply_lines digits reason xs) (take (8192 - length (reply_lines digits reason xs)) (contents ++ more)) (reply_lines digits reason xs ++ (contents ++ more)) w
    (starts_reply digits reason xs (take (8192 - length (reply_lines digits reason xs)) (contents ++ more)) first) in
    let brought : slice_range (reply_lines digits reason xs ++ (contents ++ more)) (length (reply_lines digits reason xs)) (length (reply_lines digits reason xs) + x.length) ≡ contents =
    let e : (length (reply_lines digits reason xs) + x.length) - length (reply_lines digits reason xs) ≡ x.length = omega arith in
    ap (λ (n : ℕ). take n (drop (length (reply_lines digits reason xs)) (reply_lines digits reason xs ++ (contents ++ more)))) e ∙ ap (take x.length) rest ∙ take_at contents more x.length (sym len) in
    record {
      end = length (reply_lines digits reason xs);
      x = x;
      says = record {
        first = end;
        says = record {
          head = response_tree digits reason xs;
          reads = subst (λ (z : List ℕ). IsResponse z (response_tree digits reason xs)) (sym text) (record { whole = response_reads digits reason xs h; fields = few });
          said = ap (λ (ys : List (List ℕ × List ℕ)). said_by (status_code (response_tree digits reason xs)) ys) (names_and_values xs trims) ∙ said;
        };
      };
      enough = omega (arith, length-append (reply_lines digits reason xs) (contents ++ more), length-append contents more, len);
      is = ap (received_with x) (sym brought);
    }
