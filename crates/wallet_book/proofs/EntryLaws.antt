-- Pieces and kept requests with one entry more.
use Rattle.std.proofs.Common.{◌≡◌, ℕ, zero, suc, ◌<◌, true, false, List, [], ◌∷◌, ◌++◌, length, map, Option, Some, None, refl, sym, ap, subst, ◌∙◌, append-nil, arith, set}
use Rattle.std.proofs.lemmas.List.{length-map, length-append}
use Rattle.std.proofs.lemmas.Option.{slice_get_within}
use Rattle.std.specs.Prelude.{slice_get, option_and_then, IfSome}
use Rattle.std.specs.List.{AllByRecursion}
use Rattle.mc_records.specs.Entry.{Held, Entry, Got, Pend}
use Rattle.ledger_model.specs.Histories.{History}
use Rattle.ledger_model.proofs.ListLaws.{all_append}
use Rattle.wallet_model.specs.Requests.{Pending, pending_of, settles, kept_requests}
use Rattle.wallet_model.specs.Holdings as model
use Rattle.wallet_model.specs.Holdings.{PieceState, holdings, holding, texts_came, moves, brings}
use Rattle.wallet_model.specs.Newness.{are_new}
use Rattle.wallet_model.specs.Follows.{wallet_allows, IsWalletBook}
use Rattle.wallet_model.specs.Laws.{moved}
use Rattle.wallet_model.proofs.PieceLaws.{holdings_more}
use Rattle.wallet_model.proofs.CameLaws.{came_once, map_both}
use Rattle.wallet_model.proofs.KeptLaws.{kept_still, kept_pend}
use Rattle.wallet_model.proofs.PaidLaws.{book_next}
use Rattle.wallet_book.specs.declared.holding.State.{State}
use Rattle.wallet_book.specs.declared.holding.State.TheVariants as states
use Rattle.wallet_book.specs.declared.holding.Holding.{Holding}
use Rattle.wallet_book.specs.declared.kept.Kept.{Kept}
use Rattle.wallet_book.specs.Holdings.{text_of, texts_of, holding_of, AreSpelled}
use Rattle.wallet_book.specs.Kept.{request_of, kept_of, IsPlaced, ArePlaced}
use Rattle.wallet_book.specs.Parts.{PartsRepresent, fresh_of, held_texts, HasText}
use Rattle.wallet_book.proofs.HoldingLaws.{in_state, get_map}
use Rattle.wallet_book.proofs.KeptLaws.{same_requests, placed_more}
use Rattle.wallet_book.proofs.PartLaws.{came_texts, fresh_pieces, brought_texts}
use Rattle.wallet_book.proofs.PlaceLaws.{moved_by, moved_one}

-- ---- pieces that come behind the others

pub unmoved : (f : List ℕ → Option PieceState) (xs : List model.Holding) → ((t : List ℕ) → f t ≡ None) → map (moved_by f) xs ≡ xs
unmoved f [] none = refl
unmoved f (x ∷ xs) none = rw (none x.text, unmoved f xs none) refl

long_texts : (xs : List Holding) → length (texts_of xs) ≡ length xs
long_texts xs = length-map xs text_of

-- with more pieces, and the same requests
pub kept_with : (xs ys : List Holding) (ks : List Kept) (ps : List Held) (g : History) → kept_requests g ≡ map (kept_of (texts_of xs)) ks → ArePlaced (length xs) ks → texts_of ys ≡ texts_of xs ++ held_texts ps
    → kept_requests g ≡ map (kept_of (texts_of ys)) ks
kept_with xs ys ks ps g kept placed more =
    kept ∙ sym (same_requests (texts_of xs) (held_texts ps) ks (subst (λ (n : ℕ). ArePlaced n ks) (sym (long_texts xs)) placed)) ∙ ap (λ (ts : List (List ℕ)). map (kept_of ts) ks) (sym more)

pub placed_with : (xs ys : List Holding) (ks : List Kept) (ps : List Held) → ArePlaced (length xs) ks → texts_of ys ≡ texts_of xs ++ held_texts ps → ArePlaced (length ys) ks
placed_with xs ys ks ps placed more =
    placed_more (length xs) (length ys) ks (omega (arith, long_texts xs, long_texts ys, ap length more, length-append (texts_of xs) (held_texts ps))) placed

pub learned_got : (h : History) (xs ys : List Holding) (ks : List Kept) (m : ℕ) (ps : List Held) → IsWalletBook h → PartsRepresent xs ks h → wallet_allows h (Got m ps) ≡ true → AllByRecursion HasText ps
    → are_new (texts_of xs) (held_texts ps) ≡ true → map holding_of ys ≡ map holding_of xs ++ map fresh_of ps → PartsRepresent ys ks (h ++ Got m ps ∷ [])
learned_got h xs ys ks m ps book is allowed fit new brought =
    let e : Entry = Got m ps in
    let texts = came_texts h xs is.pieces in
    let fresh : are_new (texts_came h) (held_texts ps) ≡ true = subst (λ (ts : List (List ℕ)). are_new ts (held_texts ps) ≡ true) (sym texts) new in
    let more = brought_texts xs ys ps brought in
    record {
      pieces =
          holdings_more h e ∙ ap (λ (zs : List model.Holding). zs ++ map (holding (h ++ e ∷ [])) ps) (unmoved (λ t. moves h t e) (holdings h) (λ t. refl) ∙ is.pieces)
          ∙ ap (λ (zs : List model.Holding). map holding_of xs ++ zs) (fresh_pieces h e ps book allowed fit fresh) ∙ sym brought;
      kept = kept_still h e refl (λ n. refl) ∙ kept_with xs ys ks ps h is.kept is.placed more;
      placed = placed_with xs ys ks ps is.placed more;
    }

-- an entry that asks, settles and brings nothing, and is on no piece
pub record IsStill (e : Entry) : Type 0 where
  pub no_request : pending_of e ≡ None
  pub no_settlement : (n : ℕ) → settles n e ≡ false
  pub no_piece : (h : History) → brings h e ≡ []
  pub no_move : (h : History) (text : List ℕ) → moves h text e ≡ None

-- leaves the pieces and the kept requests
pub learned_still : (h : History) (xs : List Holding) (ks : List Kept) (e : Entry) → IsStill e → PartsRepresent xs ks h → PartsRepresent xs ks (h ++ e ∷ [])
learned_still h xs ks e still is = record {
  pieces =
      holdings_more h e ∙ ap (λ (ps : List Held). map (moved_by (λ t. moves h t e)) (holdings h) ++ map (holding (h ++ e ∷ [])) ps) (still.no_piece h)
      ∙ ap (λ (zs : List model.Holding). zs ++ []) (unmoved (λ t. moves h t e) (holdings h) (still.no_move h) ∙ is.pieces) ∙ append-nil (map holding_of xs);
  kept = kept_still h e still.no_request still.no_settlement ∙ is.kept;
  placed = is.placed;
}

-- ---- a request

-- one piece in another state
pub texts_set : (xs : List Holding) (i : ℕ) (x : Holding) (s : State) → slice_get xs i ≡ Some x → texts_of (set xs i (in_state s x)) ≡ texts_of xs
texts_set [] i x s here = absurd cc
texts_set (y ∷ ys) zero x s here = let same : y ≡ x = cc in ap (λ (z : Holding). text_of z ∷ texts_of ys) (sym same)
texts_set (y ∷ ys) (suc i) x s here = ap (λ (ts : List (List ℕ)). text_of y ∷ ts) (texts_set ys i x s here)

pub long_set : (xs : List Holding) (i : ℕ) (x : Holding) → length (set xs i x) ≡ length xs
long_set [] i x = refl
long_set (y ∷ ys) zero x = refl
long_set (y ∷ ys) (suc i) x = ap suc (long_set ys i x)

pub own_apart : (h : History) (xs : List Holding) → IsWalletBook h → holdings h ≡ map holding_of xs → are_new [] (texts_of xs) ≡ true
own_apart h xs book is = subst (λ (ts : List (List ℕ)). are_new [] ts ≡ true) (came_texts h xs is) (came_once h book)

-- a request that pays with the piece of a place
pub learned_pend : (h : History) (xs : List Holding) (ks : List Kept) (i : ℕ) (x : Holding) (k : Kept) (m : ℕ) → IsWalletBook h → PartsRepresent xs ks h → AreSpelled xs → slice_get xs i ≡ Some x
    → k.number ≡ length h → k.place ≡ Some i
    → PartsRepresent (set xs i (in_state states.Pending x)) (ks ++ k ∷ []) (h ++ Pend m k.ask k.peer k.target (Some (text_of x)) k.secret ∷ [])
learned_pend h xs ks i x k m book is spelled here number place =
    let e : Entry = Pend m k.ask k.peer k.target (Some (text_of x)) k.secret in
    let ys : List Holding = set xs i (in_state states.Pending x) in
    let texts : texts_of ys ≡ texts_of xs = texts_set xs i x states.Pending here in
    let long : length ys ≡ length xs = long_set xs i (in_state states.Pending x) in
    let lt : i < length xs = slice_get_within xs i x here in
    let at : option_and_then (slice_get (texts_of xs)) k.place ≡ Some (text_of x) = ap (option_and_then (slice_get (texts_of xs))) place ∙ get_map text_of xs i x here in
    let last : kept_of (texts_of xs) k ≡ (length h, record { ask = k.ask; peer = k.peer; target = k.target; scrip = Some (text_of x); secret = k.secret }) =
    ap (λ (n : ℕ). (n, request_of (texts_of xs) k)) number
    ∙ ap (λ (s : Option (List ℕ)). (length h, record { ask = k.ask; peer = k.peer; target = k.target; scrip = s; secret = k.secret })) at in
    let here' : IsPlaced (length ys) k = subst (λ (o : Option ℕ). IfSome o (λ j. j < length ys)) (sym place) (omega (arith, lt, long)) in
    let before : ArePlaced (length ys) ks = subst (λ (n : ℕ). ArePlaced n ks) (sym long) is.placed in
    record {
      pieces =
          holdings_more h e ∙ append-nil (map (moved h e) (holdings h)) ∙ ap (map (moved h e)) is.pieces
          ∙ moved_one (λ t. moves h t e) states.Pending xs i x spelled (own_apart h xs book is.pieces) here (λ u. refl);
      kept =
          kept_pend h m k.ask k.peer k.target (Some (text_of x)) k.secret (book_next h book)
          ∙ ap (λ (rs : List (ℕ × Pending)). rs ++ (length h, record { ask = k.ask; peer = k.peer; target = k.target; scrip = Some (text_of x); secret = k.secret }) ∷ []) is.kept
          ∙ ap (λ (r : ℕ × Pending). map (kept_of (texts_of xs)) ks ++ r ∷ []) (sym last)
          ∙ sym (map_both (kept_of (texts_of xs)) ks (k ∷ []))
          ∙ ap (λ (ts : List (List ℕ)). map (kept_of ts) (ks ++ k ∷ [])) (sym texts);
      placed = all_append (IsPlaced (length ys)) ks (k ∷ []) before (here', tt);
    }

-- a draw, which pays with none
pub learned_draw : (h : History) (xs : List Holding) (ks : List Kept) (k : Kept) (m : ℕ) → IsWalletBook h → PartsRepresent xs ks h
    → k.number ≡ length h → k.place ≡ None
    → PartsRepresent xs (ks ++ k ∷ []) (h ++ Pend m k.ask k.peer k.target None k.secret ∷ [])
learned_draw h xs ks k m book is number place =
    let e : Entry = Pend m k.ask k.peer k.target None k.secret in
    let last : kept_of (texts_of xs) k ≡ (length h, record { ask = k.ask; peer = k.peer; target = k.target; scrip = None; secret = k.secret }) =
    ap (λ (n : ℕ). (n, request_of (texts_of xs) k)) number
    ∙ ap (λ (o : Option ℕ). (length h, record { ask = k.ask; peer = k.peer; target = k.target; scrip = option_and_then (slice_get (texts_of xs)) o; secret = k.secret })) place in
    let here : IsPlaced (length xs) k = subst (λ (o : Option ℕ). IfSome o (λ j. j < length xs)) (sym place) tt in
    record {
      pieces = holdings_more h e ∙ append-nil (map (moved h e) (holdings h)) ∙ unmoved (λ t. moves h t e) (holdings h) (λ t. refl) ∙ is.pieces;
      kept =
          kept_pend h m k.ask k.peer k.target None k.secret (book_next h book)
          ∙ ap (λ (rs : List (ℕ × Pending)). rs ++ (length h, record { ask = k.ask; peer = k.peer; target = k.target; scrip = None; secret = k.secret }) ∷ []) is.kept
          ∙ ap (λ (r : ℕ × Pending). map (kept_of (texts_of xs)) ks ++ r ∷ []) (sym last)
          ∙ sym (map_both (kept_of (texts_of xs)) ks (k ∷ []));
      placed = all_append (IsPlaced (length xs)) ks (k ∷ []) is.placed (here, tt);
    }
