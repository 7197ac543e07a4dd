-- Contents that are one piece line.
use Rattle.std.proofs.Common.{◌≡◌, ℕ, List, [], ◌∷◌, ◌++◌, length, take, Some, Result, Ok, slice_get, sym, ap, subst, ◌∙◌, arith, append_assoc}
use Rattle.std.proofs.Math.Seq.{take-append_seam}
use Rattle.mc_records.specs.Entry.{Held, ArePieces}
use Rattle.mc_records.specs.Pieces.{pieces_bytes}
use Rattle.piece_lines.specs.declared.rule.PieceRule.TheVariants as rules
use Rattle.piece_lines.specs.Rules.{passes}
use Rattle.piece_lines.specs.PieceLines.{IsTold, secret_part, input_lines}
use Rattle.piece_lines.specs.Answers.{AreAppended}
use Rattle.piece_lines.proofs.InputLaws.{are_pieces_read}
use Rattle.piece_lines.proofs.LineLaws.{input_told}
use Rattle.wallet_model.specs.Settling.{sole, one_line}

abbrev input : List ℕ → Result (List Held) ℕ
input contents = input_lines (passes rules.Any) contents

-- what one piece that was read says
pub record Sole (contents elements : List ℕ) : Type 0 where
  pub piece : Held
  pub line : one_line contents ≡ Some piece
  pub are : ArePieces (piece ∷ [])
  pub spelled : elements ≡ pieces_bytes (piece ∷ [])
  pub front : contents ≡ piece.text ++ (secret_part piece.secret ++ [])

pub sole_of : (contents elements : List ℕ) (count : ℕ) → AreAppended (input contents) [] elements count → count ≡ 1 → Sole contents elements
sole_of contents elements count a one = go a.pieces a.read (sym one ∙ a.counted) a.appended
  where
    told : (p : Held) → input contents ≡ Ok (p ∷ []) → IsTold (passes rules.Any) contents (Ok (p ∷ []))
    told p read = subst (IsTold (passes rules.Any) contents) read (input_told (passes rules.Any) contents)

    go : (ps : List Held) → input contents ≡ Ok ps → 1 ≡ length ps → elements ≡ pieces_bytes ps → Sole contents elements
    go [] read len is = absurd (omega (arith, len))
    go (p ∷ []) read len is = record {
      piece = p;
      line = ap sole read;
      are = are_pieces_read (passes rules.Any) contents (p ∷ []) read;
      spelled = is;
      front = (told p read).spelled ∙ append_assoc p.text (secret_part p.secret) [];
    }
    go (p ∷ q ∷ ps) read len is = absurd (omega (arith, len))

pub text_taken : (contents elements text : List ℕ) (s : Sole contents elements) → text ≡ s.piece.text → take (length text) contents ≡ s.piece.text
text_taken contents elements text s is =
    ap (λ (t : List ℕ). take (length t) contents) is ∙ ap (take (length s.piece.text)) s.front ∙ take-append_seam s.piece.text (secret_part s.piece.secret ++ [])

pub sole_is : (contents elements : List ℕ) (s : Sole contents elements) (x : Held) → Some x ≡ slice_get (s.piece ∷ []) 0 → x ≡ s.piece
sole_is contents elements s x is = cc
