-- What was read of a reply.
use Rattle.std.proofs.Common.{◌≡◌, ℕ, List, Option, Some, None, option_map, sym, ap, subst, ◌∙◌}
use Rattle.std.specs.Prelude.{option_and_then, Result, Ok}
use Rattle.std.specs.Result.{result_ok}
use Rattle.scrip_form.specs.Scrip.{Scrip, Certified}
use Rattle.scrip_form.specs.Reading.{scrip_of}
use Rattle.mc_records.specs.Entry.{Held}
use Rattle.ledger_model.specs.Pieces.{piece_of}

-- ---- a scrip text

pub piece_read : (text : List ℕ) (x : Scrip × List ℕ) → scrip_of text ≡ Ok x → piece_of text ≡ Some x.0
piece_read text x is = ap (λ (r : Result (Scrip × List ℕ) ℕ). option_map (λ y. y.0) (result_ok r)) is

-- ---- the change

pub none_read : (o : Option Certified) (text : List ℕ) → o ≡ None → option_map (λ s. s.piece) o ≡ piece_of text → piece_of text ≡ None
none_read o text is piece = sym (subst (λ (p : Option Certified). option_map (λ s. s.piece) p ≡ piece_of text) is piece)

-- ---- the contents

-- where the contents are no line, no piece is read
pub no_piece : (o : Option Held) → None ≡ o → None ≡ option_and_then (λ p. piece_of p.text) o
no_piece o none = ap (λ (x : Option Held). option_and_then (λ p. piece_of p.text) x) none

pub line_held : (o : Option Held) (text : List ℕ) (x : Held) → text ≡ x.text → Some x ≡ o → Some (record { text = text; secret = x.secret }) ≡ o
line_held o text x same is = ap (λ (t : List ℕ). Some (record { text = t; secret = x.secret })) same ∙ is

pub line_piece : (o : Option Held) (x : Held) (p : Scrip) → Some x ≡ o → piece_of x.text ≡ Some p → Some p ≡ option_and_then (λ y. piece_of y.text) o
line_piece o x p is has = sym has ∙ ap (λ (y : Option Held). option_and_then (λ z. piece_of z.text) y) is
