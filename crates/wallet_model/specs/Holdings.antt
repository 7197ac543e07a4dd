-- The pieces of a wallet's book, in the order in which they came, and the state of each.
use Rattle.std.specs.Prelude.{ℕ, ◌==◌, ◌&&◌, Bool, true, false, if◌then◌else◌, List, [], ◌∷◌, ◌++◌, map, Option, Some, None, option_map, option_to_list, unwrap_or, bytes_eq, replicate}
use Rattle.std.specs.List.{list_any, last_or}
use Rattle.mc_records.specs.Entry.{Held, Entry, Got, Pend, Done, Refused}
use Rattle.ledger_model.specs.Histories.{History}
use Rattle.wallet_model.specs.Requests.{pending_in, pays_with}

-- ---- pieces

-- The secret of the request that an entry settles: change is for the same customer. In a lawful book there is such a
-- request.
abbrev pub secret_at : History → ℕ → List ℕ
secret_at h n = unwrap_or (option_map (λ p. p.secret) (pending_in h n)) (replicate 16 0)

-- the change of a settlement, where there is some, as a piece of the customer of the request
abbrev pub change_held : History → ℕ → List ℕ → Held
change_held before n text = record { text = text; secret = secret_at before n }

-- The pieces that an entry brings, after the entries before it: those of a Got entry, in order; the change of a Done
-- entry, and then the piece in its contents.
abbrev pub brings : History → Entry → List Held
brings before (Got m pieces) = pieces
brings before (Done m n price change got) = option_to_list (option_map (change_held before n) change) ++ option_to_list got
brings before _ = []

abbrev pub pieces_from : History → History → List Held
pieces_from before [] = []
pieces_from before (e ∷ es) = brings before e ++ pieces_from (before ++ e ∷ []) es

-- all pieces that came, in order, whatever their state
abbrev pub pieces_came : History → List Held
pieces_came h = pieces_from [] h

abbrev pub texts_came : History → List (List ℕ)
texts_came h = map (λ p. p.text) (pieces_came h)

-- ---- states

pub data PieceState : Type 0 where
  held : PieceState
  pending : PieceState
  disputed : PieceState
  used : PieceState
  dead : PieceState

-- After a signed refusal of this number: 27 (spent) disputes the piece, 26 (expired) ends it, and after any other it is
-- held again.
abbrev pub refused_state : ℕ → PieceState
refused_state refusal = if refusal == 27 then disputed else if refusal == 26 then dead else held

-- the state that an entry brings a piece to, after the entries before it, where it is an entry on this piece
abbrev pub moves : History → List ℕ → Entry → Option PieceState
moves before text (Pend m ask peer target (Some scrip) secret) = if bytes_eq scrip text then Some pending else None
moves before text (Done m n price change got) = if pays_with before n text then Some used else None
moves before text (Refused m n refusal) = if pays_with before n text then Some (refused_state refusal) else None
moves before text _ = None

abbrev pub moves_from : History → List ℕ → History → List PieceState
moves_from before text [] = []
moves_from before text (e ∷ es) = option_to_list (moves before text e) ++ moves_from (before ++ e ∷ []) text es

-- a piece is held when it came, and then as the last entry on it leaves it
abbrev pub state_in : History → List ℕ → PieceState
state_in h text = unwrap_or (last_or None (moves_from [] text h)) held

-- ---- holdings

pub record Holding : Type 0 where
  pub text : List ℕ
  pub secret : List ℕ
  pub state : PieceState

abbrev pub holding : History → Held → Holding
holding h p = record { text = p.text; secret = p.secret; state = state_in h p.text }

-- the holdings, in order of arrival
abbrev pub holdings : History → List Holding
holdings h = map (holding h) (pieces_came h)

abbrev pub is_held : PieceState → Bool
is_held held = true
is_held _ = false

-- whether a piece with this text is held
abbrev pub has_held : History → List ℕ → Bool
has_held h text = list_any (λ x. bytes_eq x.text text && is_held x.state) (holdings h)
