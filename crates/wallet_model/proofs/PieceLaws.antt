-- The pieces and the states of a wallet's book with one entry more.
use Rattle.std.proofs.Common.{◌≡◌, ℕ, List, [], ◌∷◌, ◌++◌, map, Option, Some, None, refl, ap, ◌∙◌, append_assoc, append-nil, unwrap_or}
use Rattle.std.specs.Prelude.{option_to_list}
use Rattle.std.specs.List.{last_or}
use Rattle.mc_records.specs.Entry.{Held, Entry}
use Rattle.ledger_model.specs.Histories.{History}
use Rattle.wallet_model.specs.Holdings.{brings, pieces_from, pieces_came, PieceState, held, moves, moves_from, state_in, Holding, holding, holdings}
use Rattle.wallet_model.specs.Laws.{moved}

pieces_behind : (before h : History) (e : Entry) → pieces_from before (h ++ e ∷ []) ≡ pieces_from before h ++ brings (before ++ h) e
pieces_behind before [] e = simp (append-nil) refl
pieces_behind before (x ∷ xs) e =
    let ih = pieces_behind (before ++ x ∷ []) xs e in
    let front = append_assoc before (x ∷ []) xs in
    let out = append_assoc (brings before x) (pieces_from (before ++ x ∷ []) xs) (brings (before ++ x ∷ xs) e) in
    rw (ih, front, out) refl

pub pieces_more : (h : History) (e : Entry) → pieces_came (h ++ e ∷ []) ≡ pieces_came h ++ brings h e
pieces_more h e = pieces_behind [] h e

moves_behind : (before h : History) (text : List ℕ) (e : Entry) → moves_from before text (h ++ e ∷ []) ≡ moves_from before text h ++ option_to_list (moves (before ++ h) text e)
moves_behind before [] text e = simp (append-nil) refl
moves_behind before (x ∷ xs) text e =
    let ih = moves_behind (before ++ x ∷ []) xs text e in
    let front = append_assoc before (x ∷ []) xs in
    let out = append_assoc (option_to_list (moves before text x)) (moves_from (before ++ x ∷ []) text xs) (option_to_list (moves (before ++ x ∷ xs) text e)) in
    rw (ih, front, out) refl

last_of_both : (o : Option PieceState) (xs : List PieceState) (m : Option PieceState) → last_or o (xs ++ option_to_list m) ≡ (elim m [ None ↦ last_or o xs | Some s ↦ Some s ])
last_of_both o [] None = refl
last_of_both o [] (Some s) = refl
last_of_both o (x ∷ xs) m = last_of_both (Some x) xs m

or_last : (o m : Option PieceState) → unwrap_or (elim m [ None ↦ o | Some s ↦ Some s ]) held ≡ unwrap_or m (unwrap_or o held)
or_last o None = refl
or_last o (Some s) = refl

-- a piece is as the entry leaves it, where it is one on this piece
pub state_more : (h : History) (e : Entry) (text : List ℕ) → state_in (h ++ e ∷ []) text ≡ unwrap_or (moves h text e) (state_in h text)
state_more h e text =
    ap (λ (ms : List PieceState). unwrap_or (last_or None ms) held) (moves_behind [] h text e)
    ∙ ap (λ (o : Option PieceState). unwrap_or o held) (last_of_both None (moves_from [] text h) (moves h text e))
    ∙ or_last (last_or None (moves_from [] text h)) (moves h text e)

map_both : {A B : Type 0} (f : A → B) (xs ys : List A) → map f (xs ++ ys) ≡ map f xs ++ map f ys
map_both f [] ys = refl
map_both f (x ∷ xs) ys = ap (λ zs. f x ∷ zs) (map_both f xs ys)

moved_all : (h : History) (e : Entry) (ps : List Held) → map (holding (h ++ e ∷ [])) ps ≡ map (moved h e) (map (holding h) ps)
moved_all h e [] = refl
moved_all h e (p ∷ ps) = let s = state_more h e p.text in rw (s, moved_all h e ps) refl

pub holdings_more : (h : History) (e : Entry) → holdings (h ++ e ∷ []) ≡ map (moved h e) (holdings h) ++ map (holding (h ++ e ∷ [])) (brings h e)
holdings_more h e =
    ap (map (holding (h ++ e ∷ []))) (pieces_more h e)
    ∙ map_both (holding (h ++ e ∷ [])) (pieces_came h) (brings h e)
    ∙ ap (λ (xs : List Holding). xs ++ map (holding (h ++ e ∷ [])) (brings h e)) (moved_all h e (pieces_came h))
