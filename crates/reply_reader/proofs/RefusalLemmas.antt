-- The text of a refusal is clean, and begins with its number and a space.
use Rattle.std.proofs.Common.{◌≡◌, ℕ, ◌<◌, ◌^◌, true, List, [], ◌∷◌, ◌++◌, length, refl, sym, ◌∙◌, ap, subst, arith, append_assoc, append-nil}
use Rattle.std.specs.Prelude.{codes, decimal, All}
use Rattle.std.specs.List.{list_all}
use Rattle.std.specs.Fmt.{digits}
use Rattle.std.proofs.lemmas.List.Elements.{All-head, All-tail}
use Rattle.httparse.specs.Grammar.{is_value_byte}
use Rattle.mc_fields.specs.Reading.{literal_at, field_at}
use Rattle.mc_requests.specs.declared.refusal.Refusal.{Refusal}
use Rattle.mc_requests.specs.declared.refusal.Refusal.TheVariants.{BadHead}
use Rattle.mc_requests.specs.Refusals.{number_of, name_of, kept_of, spaced, refusal_text}
use Rattle.scrip_form.specs.Texts.{is_visible}
use Rattle.reply_reader.specs.Said.{is_refusal_text}
use Rattle.reply_reader.specs.Written.{IsWord}
use Rattle.reply_reader.proofs.CleanLemmas.{IsClean, all_append, value_of_visible, word_visible, decimal_visible, between_words}

pub begins_with_number : (f : Refusal) → is_refusal_text (refusal_text f) ≡ true
unfolding refusal_text literal_at field_at digits
begins_with_number BadHead = refl
begins_with_number _ = refl

name_visible : (f : Refusal) → list_all is_visible (name_of f) ≡ true
name_visible BadHead = refl
name_visible _ = refl

name_some : (f : Refusal) → 0 < length (name_of f)
name_some BadHead = omega arith
name_some _ = omega arith

number_small : (f : Refusal) → number_of f < 2 ^ 64
number_small BadHead = omega arith
number_small _ = omega arith

-- words with spaces between, as what stands before the last word and the last word
record Ends (text : List ℕ) : Type 0 where
  middle : List ℕ
  last : List ℕ
  is : text ≡ middle ++ last
  some : 0 < length last
  visible : list_all is_visible last ≡ true
  bytes : list_all is_value_byte middle ≡ true

ends_of : (text : List ℕ) (texts : List (List ℕ)) → 0 < length text → list_all is_visible text ≡ true → All IsWord texts → Ends (spaced (text ∷ texts))
ends_of text [] some visible words = record { middle = codes " "; last = text; is = ap (λ (z : List ℕ). codes " " ++ z) (append-nil text); some = some; visible = visible; bytes = refl }
ends_of text (t ∷ texts) some visible words =
    let w : IsWord t = All-head IsWord t texts words in
    let e : Ends (spaced (t ∷ texts)) = ends_of t texts w.some (word_visible t w) (All-tail IsWord t texts words) in
    record {
      middle = codes " " ++ (text ++ e.middle);
      last = e.last;
      is = ap (λ (z : List ℕ). codes " " ++ (text ++ z)) e.is ∙ ap (λ (z : List ℕ). codes " " ++ z) (sym (append_assoc text e.middle e.last));
      some = e.some;
      visible = e.visible;
      bytes = all_append is_value_byte (codes " ") (text ++ e.middle) refl (all_append is_value_byte text e.middle (value_of_visible text visible) e.bytes);
    }

pub refusal_is_clean : (f : Refusal) → All IsWord (kept_of f) → IsClean (refusal_text f)
unfolding refusal_text
refusal_is_clean f words =
    let d = decimal_visible (number_of f) (number_small f) in
    let e : Ends (spaced (name_of f ∷ kept_of f)) = ends_of (name_of f) (kept_of f) (name_some f) (name_visible f) words in
    subst (λ (z : List ℕ). IsClean (decimal (number_of f) ++ z)) (sym e.is) (between_words (decimal (number_of f)) e.middle e.last d.1 d.0 e.some e.visible e.bytes)
