-- The identities of the pieces so far.
use Rattle.std.proofs.Common.{◌≡◌, ℕ, ◌+◌, ◌<◌, Bool, List, [], ◌∷◌, ◌++◌, length, take, set, filter_map, Option, Some, None, Result, Ok, option_map, refl, sym, ap, ap₂, ◌∙◌}
use Rattle.std.specs.Result.{result_ok}
use Rattle.std.proofs.lemmas.List.{take_more_set}
use Rattle.std.proofs.lemmas.List.Elements.{filter_map-append}
use Rattle.mc_fields.specs.Reading.{whole}
use Rattle.scrip_form.specs.Scrip.{Scrip}
use Rattle.mc_records.specs.Entry.{Held}
use Rattle.piece_lines.specs.Answers.{text_id}
use Rattle.scrip_form.specs.Reading.{scrip_of}
use Rattle.piece_lines.specs.PieceLines.{LineFits, line_at}
use Rattle.piece_lines.proofs.LineLaws.{line_sound, text_whole, scrip_of_is}

abbrev ids_in : List Held → List ℕ
ids_in ps = filter_map (λ p. text_id p.text) ps

-- one more identity behind those of the pieces so far
pub one_more_id : (ps : List Held) (p : Held) (ids : List ℕ) (n id : ℕ) → n < length ids → take n ids ≡ ids_in ps → text_id p.text ≡ Some id → take (n + 1) (set ids n id) ≡ ids_in (ps ++ p ∷ [])
one_more_id ps p ids n id room before is =
    take_more_set ids n id room ∙ ap₂ (λ (xs ys : List ℕ). xs ++ ys) before (sym (last (text_id p.text) is))
    ∙ sym (filter_map-append (λ (q : Held). text_id q.text) ps (p ∷ []))
  where
    last : (o : Option ℕ) → o ≡ Some id → ids_in (p ∷ []) ≡ id ∷ []
    last o is' = rw is refl

-- what is read of the text of a line
pub text_read : (test : Scrip → Bool) (p : Held) (f : LineFits test p) → scrip_of p.text ≡ Ok (f.piece, f.cert)
text_read test p f = sym (scrip_of_is p.text) ∙ ap (whole (length p.text)) (text_whole p.text [] f.piece f.cert refl f.text)

-- the text of a line is of a piece
pub line_has_id : (test : Scrip → Bool) (bytes : List ℕ) (p : Held) (more : List ℕ) → line_at test bytes ≡ Ok (p, more) → text_id p.text ≡ None → ⊥
line_has_id test bytes p more read none =
    let f = (line_sound test bytes p more read).1 in
    let some : text_id p.text ≡ Some f.piece.id = ap (λ (r : Result (Scrip × List ℕ) ℕ). option_map (λ q. q.id) (option_map (λ x. x.0) (result_ok r))) (text_read test p f) in
    absurd (nothing (sym some ∙ none))
  where
    nothing : {n : ℕ} → Some n ≡ None → ⊥
    nothing e = cc
