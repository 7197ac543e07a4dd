-- Fields that are printed, and what is read of them.
use Rattle.std.proofs.Common.{◌≡◌, ℕ, true, false, List, [], ◌∷◌, ◌++◌, refl, ◌∙◌, ap, append_assoc, map}
use Rattle.std.specs.Prelude.{reverse}
use Rattle.std.specs.List.{list_all, flat_map}
use Rattle.std.proofs.lemmas.List.{reverse-reverse}
use Rattle.httparse.specs.Grammar.{crlf, print_field, print_section, print_end, is_ows, skip_ows, trim_ows}
use Rattle.httparse.specs.Spans.{name_and_value}
use Rattle.reply_reader.proofs.HeadLines.{print_lines, clean_field, field_line, starts_solid, is_trimmed}
use Rattle.reply_reader.proofs.QuietLemmas.{and_left, and_right, is_not}

one_field : (name value rest : List ℕ) → ((name ++ 58 ∷ 32 ∷ value) ++ 13 ∷ 10 ∷ []) ++ rest ≡ (name ++ 58 ∷ 32 ∷ value) ++ 13 ∷ 10 ∷ rest
one_field name value rest = append_assoc (name ++ 58 ∷ 32 ∷ value) (13 ∷ 10 ∷ []) rest

-- the section of such fields, line by line
pub section_lines : (xs : List (List ℕ × List ℕ)) → print_section (map clean_field xs) crlf ≡ print_lines (map field_line xs)
section_lines [] = refl
section_lines (x ∷ xs) =
    append_assoc (print_field (clean_field x)) (flat_map print_field (map clean_field xs)) (print_end crlf)
    ∙ ap (λ (z : List ℕ). print_field (clean_field x) ++ z) (section_lines xs)
    ∙ one_field x.0 x.1 (print_lines (map field_line xs))

skip_solid : (text : List ℕ) → starts_solid text ≡ true → skip_ows text ≡ text
skip_solid [] h = refl
skip_solid (c ∷ text) h = let f : is_ows c ≡ false = is_not (is_ows c) h in rw f refl

-- the blank behind the colon is all that is trimmed
pub trim_one : (text : List ℕ) → is_trimmed text ≡ true → trim_ows (32 ∷ text) ≡ text
unfolding trim_ows
trim_one text h =
    ap (λ (z : List ℕ). reverse (skip_ows (reverse z))) (skip_solid text (and_left (starts_solid text) (starts_solid (reverse text)) h))
    ∙ ap reverse (skip_solid (reverse text) (and_right (starts_solid text) (starts_solid (reverse text)) h))
    ∙ reverse-reverse text

pub names_and_values : (xs : List (List ℕ × List ℕ)) → list_all (λ x. is_trimmed x.1) xs ≡ true → map name_and_value (map clean_field xs) ≡ xs
names_and_values [] h = refl
names_and_values (x ∷ xs) h =
    let one : trim_ows (32 ∷ x.1) ≡ x.1 = trim_one x.1 (and_left (is_trimmed x.1) (list_all (λ y. is_trimmed y.1) xs) h) in
    let more = names_and_values xs (and_right (is_trimmed x.1) (list_all (λ y. is_trimmed y.1) xs) h) in
    rw (one, more) refl
