-- A request that is printed line by line is read as one item, whatever follows.
use Rattle.std.proofs.Common.{◌≡◌, ℕ, ◌-◌, ◌≤◌, true, List, [], ◌∷◌, ◌++◌, inl, length, take, refl, sym, ◌∙◌, ap, subst, append_assoc, append-nil, map}
use Rattle.std.specs.Prelude.{slice_range}
use Rattle.std.specs.List.{list_all}
use Rattle.std.proofs.lemmas.List.{drop_at}
use Rattle.httparse.specs.Grammar.{IsRequestHead, ReadsRequest, print_request, print_section, crlf}
use Rattle.millicent_http.specs.HeadEnds.{line_ends, IsFirstEnd}
use Rattle.millicent_http.specs.Items.{judged_head, IsHead, ReadsItem, max_head, IsWhole}
use Rattle.reply_reader.proofs.HeadLines.{print_lines, is_line, clean_field, field_line}
use Rattle.reply_reader.proofs.QuietLemmas.{first_end_of_lines, starts_line}
use Rattle.reply_reader.proofs.FieldLineLemmas.{section_lines}
use Rattle.reply_reader.proofs.PrintedLemmas.{take_over, whole_front}
use Rattle.wallet_requests.proofs.RequestLines.{start_line, request_tree, request_lines}

printed_request : (target : List ℕ) (xs : List (List ℕ × List ℕ)) → print_request (request_tree target xs) ≡ request_lines target xs
unfolding print_request
printed_request target xs =
    append_assoc (start_line target) (13 ∷ 10 ∷ []) (print_section (map clean_field xs) crlf)
    ∙ ap (λ (z : List ℕ). start_line target ++ 13 ∷ 10 ∷ z) (section_lines xs)

request_reads : (target : List ℕ) (xs : List (List ℕ × List ℕ)) → IsRequestHead (request_tree target xs) → ReadsRequest (request_lines target xs) (request_tree target xs) []
request_reads target xs h = (h, sym (printed_request target xs) ∙ sym (append-nil (print_request (request_tree target xs))))

starts_request : (target : List ℕ) (xs : List (List ℕ × List ℕ)) (behind : List ℕ) → is_line (start_line target) ≡ true → line_ends (request_lines target xs ++ behind) ≡ 0
starts_request target xs behind first =
    ap line_ends (append_assoc (start_line target) (13 ∷ 10 ∷ print_lines (map field_line xs)) behind)
    ∙ starts_line (start_line target) ((13 ∷ 10 ∷ print_lines (map field_line xs)) ++ behind) first

pub one_item : (target : List ℕ) (xs : List (List ℕ × List ℕ)) (more : List ℕ) → IsRequestHead (request_tree target xs) → length (map clean_field xs) ≤ 64
    → is_line (start_line target) ≡ true → list_all is_line (map field_line xs) ≡ true → length (request_lines target xs) ≤ 8192
    → IsWhole (request_lines target xs ++ more) (length (request_lines target xs)) (judged_head (request_tree target xs)) more
unfolding max_head
one_item target xs more h few first lines short =
    let behind : List ℕ = take (8192 - length (request_lines target xs)) more in
    let w : take 8192 (request_lines target xs ++ more) ≡ request_lines target xs ++ take (8192 - length (request_lines target xs)) more = take_over 8192 (request_lines target xs) more short in
    let text : slice_range (take 8192 (request_lines target xs ++ more)) (line_ends (take 8192 (request_lines target xs ++ more))) (length (request_lines target xs)) ≡ request_lines target xs =
    ap (λ (z : List ℕ). slice_range z (line_ends z) (length (request_lines target xs))) w
    ∙ whole_front (request_lines target xs) (take (8192 - length (request_lines target xs)) more) (starts_request target xs (take (8192 - length (request_lines target xs)) more) first) in
    let head : IsHead (request_lines target xs) (request_tree target xs) = record { whole = request_reads target xs h; fields = few } in
    record {
      first = subst (λ (z : List ℕ). IsFirstEnd z (length (request_lines target xs))) (sym w) (first_end_of_lines (start_line target) (map field_line xs) (take (8192 - length (request_lines target xs)) more) first lines);
      reads = subst (λ (z : List ℕ). ReadsItem z (judged_head (request_tree target xs))) (sym text) (inl (request_tree target xs, head, refl));
      after = sym (drop_at (request_lines target xs) more (length (request_lines target xs)) refl);
    }
