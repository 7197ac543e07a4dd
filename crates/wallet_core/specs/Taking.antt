-- The entry of pieces that a wallet takes.
use Rattle.std.specs.Prelude.{◌≡◌, ℕ, ◌||◌, not, Bool, nat_lt, List, Option, Some, None, Result, Ok, Err, option_map, unwrap_or, find, count_by}
use Rattle.mc_requests.specs.declared.refusal.Refusal.{Refusal}
use Rattle.mc_requests.specs.declared.refusal.Refusal.TheVariants.{BadInput, TwiceHeld}
use Rattle.mc_records.specs.Entry.{Held, Entry, Got, ArePieces}
use Rattle.mc_records.specs.Pieces.{pieces_bytes}
use Rattle.piece_lines.specs.declared.rule.PieceRule.TheVariants.{Any}
use Rattle.piece_lines.specs.Rules.{passes}
use Rattle.piece_lines.specs.PieceLines.{input_lines}
use Rattle.ledger_model.specs.Histories.{History}
use Rattle.ledger_model.specs.Pieces.{piece_of}
use Rattle.wallet_model.specs.Holdings.{texts_came}
use Rattle.wallet_model.specs.Newness.{are_one_piece, is_new}
use Rattle.wallet_core.specs.declared.taking.TakeFault.{TakeFault}
use Rattle.wallet_core.specs.declared.taking.TakeFault.TheVariants as faults

-- whether a piece of some lines came before, by vendor and identity, or stands twice among these lines
abbrev pub is_twice : List (List ℕ) → List Held → Held → Bool
is_twice texts pieces p = not (is_new texts p.text) || nat_lt 1 (count_by (λ q. are_one_piece q.text p.text) pieces)

abbrev pub id_of : Held → ℕ
id_of p = unwrap_or (option_map (λ x. x.id) (piece_of p.text)) 0

abbrev pub if_none_twice : ℕ → List Held → Option Held → Result Entry Refusal
if_none_twice t pieces (Some p) = Err (TwiceHeld (id_of p))
if_none_twice t pieces None = Ok (Got t pieces)

abbrev pub taken_pieces : History → ℕ → Result (List Held) ℕ → Result Entry Refusal
taken_pieces h t (Ok pieces) = if_none_twice t pieces (find (is_twice (texts_came h) pieces) pieces)
taken_pieces h t (Err line) = Err (BadInput line)

-- The Got entry of the pieces of an input at a time; or 53 BadInput with the first line that is none; or 61 TwiceHeld
-- with the identity of the first piece that came before or stands twice.
abbrev pub take_entry : History → ℕ → List ℕ → Result Entry Refusal
take_entry h t input = taken_pieces h t (input_lines (passes Any) input)

-- ---- what is answered

-- the bytes are the elements of 1 to 256 pieces
pub record AreElements (bytes : List ℕ) : Type 0 where
  pub pieces : List Held
  pub are : ArePieces pieces
  pub spelled : bytes ≡ pieces_bytes pieces

-- these pieces are to be entered, and the bytes are their elements
pub record AreTaken (todo : Result Entry Refusal) (t : ℕ) (bytes : List ℕ) : Type 0 where
  pub elements : AreElements bytes
  pub entry : todo ≡ Ok (Got t elements.pieces)

abbrev pub Takes : Result Entry Refusal → ℕ → Result (List ℕ) TakeFault → Type 0
Takes todo t (Ok bytes) = AreTaken todo t bytes
Takes todo t (Err (faults.Refused f)) = todo ≡ Err f
Takes todo t (Err faults.NoMemory) = Unit {0}

-- 53 BadInput or 61 TwiceHeld, with whatever is kept
abbrev pub IsTakeRefusal : Refusal → Type 0
IsTakeRefusal (BadInput line) = Unit {0}
IsTakeRefusal (TwiceHeld id) = Unit {0}
IsTakeRefusal _ = ⊥

abbrev pub IsTakeFault : TakeFault → Type 0
IsTakeFault (faults.Refused f) = IsTakeRefusal f
IsTakeFault faults.NoMemory = Unit {0}

-- what is answered of pieces that were read, where the texts of those that came are these
abbrev pub TakesOf : List (List ℕ) → List Held → List ℕ → Result (List ℕ) TakeFault → Type 0
TakesOf texts pieces elements (Ok bytes) = (bytes ≡ elements) × (find (is_twice texts pieces) pieces ≡ None)
TakesOf texts pieces elements (Err (faults.Refused f)) = (p : Held) × (find (is_twice texts pieces) pieces ≡ Some p) × (f ≡ TwiceHeld (id_of p))
TakesOf texts pieces elements (Err faults.NoMemory) = ⊥
