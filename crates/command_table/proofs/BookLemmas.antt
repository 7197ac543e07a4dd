-- Several words that name books.
use Rattle.std.proofs.Common.{◌≡◌, ◌∙◌, ◌<◌, ◌&&◌, Bool, Bor, true, false, List, [], length, map, Option, Some, refl, sym, subst, ap, arith, unwrap_or}
use Rattle.std.specs.Prelude.{IsTrue, ◌↔◌, codes, nat_lt}
use Rattle.std.specs.List.{AllByRecursion, list_all}
use Rattle.std.proofs.lemmas.Bool.{le-leb, leb-true}
use Rattle.std.proofs.lemmas.List.{length-map}
use Rattle.clap.specs.Walk.{Row, Text}
use Rattle.command_words.specs.Arguments.{values_of}
use Rattle.command_table.specs.Ranges.{IsPathOrAddress, is_path_or_address}
use Rattle.command_table.specs.Values.{IsFound}
use Rattle.command_table.specs.declared.parameter.Shape.TheVariants.{Places}
use Rattle.command_table.proofs.SpellLemmas.{and_iff, places_decide}

-- whether there are words of books, one at least
abbrev are_books : List (Bor Text) → Bool
are_books words = nat_lt 0 (length words) && list_all (λ (word : Bor Text). is_path_or_address word.now) words

books_decide : (words : List (Bor Text)) → IsTrue (are_books words) ↔ ((0 < length words) × AllByRecursion IsPathOrAddress (map (λ (word : Bor Text). word.now) words))
books_decide words = and_iff _ _ (leb-true 1 (length words), le-leb 1 (length words)) (places_decide words)

pub books_found : (rows : List Row) (words : List (Bor Text)) → Some (map (λ (word : Bor Text). word.now) words) ≡ values_of rows (codes "BOOK") → true ≡ are_books words
    → IsFound rows (codes "BOOK") Places (unwrap_or (values_of rows (codes "BOOK")) [])
books_found rows words is e =
    let are = (books_decide words).0 (sym e) in
    let some : 0 < length (map (λ (word : Bor Text). word.now) words) = omega (arith, are.0, length-map words (λ (word : Bor Text). word.now)) in
    subst (λ (o : Option (List Text)). (0 < length (unwrap_or o [])) × AllByRecursion IsPathOrAddress (unwrap_or o []) × (o ≡ Some (unwrap_or o []))) is (some, are.1, refl)

pub no_books_found : (rows : List Row) (words : List (Bor Text)) → Some (map (λ (word : Bor Text). word.now) words) ≡ values_of rows (codes "BOOK") → false ≡ are_books words
    → (books : List Text) → IsFound rows (codes "BOOK") Places books → ⊥
no_books_found rows words is e books found =
    let both : Some (map (λ (word : Bor Text). word.now) words) ≡ Some books = is ∙ found.2 in
    let same : map (λ (word : Bor Text). word.now) words ≡ books = cc in
    let are = (books_decide words).1 (omega (arith, found.0, ap length same, length-map words (λ (word : Bor Text). word.now)), subst (AllByRecursion IsPathOrAddress) (sym same) found.1) in
    let not : false ≡ true = e ∙ are in
    cc
