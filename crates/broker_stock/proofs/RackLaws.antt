-- Pieces that were passed over, and the first one that is for sale.
use Rattle.std.proofs.Common.{[], ◌≡◌, ℕ, zero, suc, ◌+◌, ◌<◌, ◌≤◌, Bool, true, false, cond, List, ◌∷◌, ◌++◌, length, take, drop, get_or, Option, Some, None, refl, sym, ap, ◌∙◌, subst, arith}
use Rattle.std.specs.Prelude.{find, is_some}
use Rattle.std.specs.List.{remove}
use Rattle.std.proofs.lemmas.Bool.{ltb-false, le-ltb}
use Rattle.std.proofs.lemmas.List.{get_or_default}
use Rattle.std.proofs.lemmas.List.Edits.{length-remove}
use Rattle.broker_stock.specs.declared.piece.StockPiece.{StockPiece}
use Rattle.broker_stock.specs.Racks.{is_open, sold_first, AreClosed, IsPassed, IsFirstOpen}

-- what has ended stays so
pub all_later : (t u n : ℕ) (ps : List StockPiece) → t ≤ u → AreClosed t n ps → AreClosed u n ps
all_later t u zero ps le closed = tt
all_later t u (suc n) [] le closed = closed
all_later t u (suc n) (p ∷ ps) le closed =
    let ended : p.expires ≤ t = ltb-false t p.expires closed.0 in (le-ltb u p.expires (omega arith), all_later t u n ps le closed.1)

pub closed_push : (t n : ℕ) (ps : List StockPiece) (p : StockPiece) → AreClosed t n ps → AreClosed t n (ps ++ p ∷ [])
closed_push t zero ps p closed = tt
closed_push t (suc n) [] p closed = absurd closed
closed_push t (suc n) (x ∷ xs) p closed = (closed.0, closed_push t n xs p closed.1)

-- one more that was looked at
pub passed_more : (t n : ℕ) (ps : List StockPiece) (x : StockPiece) → n < length ps → x ≡ get_or ps n x → is_open t x ≡ false → IsPassed t n ps → IsPassed t (n + 1) ps
passed_more t n ps x lt there shut passed =
    record { within = omega (arith, lt); closed = subst (λ (m : ℕ). AreClosed t m ps) (let next : suc n ≡ n + 1 = omega arith in next) (go n ps lt there passed.closed) }
  where
    go : (m : ℕ) (xs : List StockPiece) → m < length xs → x ≡ get_or xs m x → AreClosed t m xs → AreClosed t (suc m) xs
    go m [] short at closed = absurd (omega (arith, short))
    go zero (p ∷ xs) short at closed = (ap (is_open t) (sym at) ∙ shut, tt)
    go (suc m) (p ∷ xs) short at closed = (closed.0, go m xs (omega (arith, short)) at closed.1)

-- ---- the first piece that is for sale

first_is : (t n : ℕ) (ps : List StockPiece) (x : StockPiece) → n < length ps → x ≡ get_or ps n x → is_open t x ≡ true → AreClosed t n ps → find (is_open t) ps ≡ Some x
first_is t n [] x lt there open' closed = absurd (omega (arith, lt))
first_is t zero (p ∷ ps) x lt there open' closed =
    ap (λ (b : Bool). cond b (Some p) (find (is_open t) ps)) (ap (is_open t) (sym there) ∙ open') ∙ ap some (sym there)
  where
    some : StockPiece → Option StockPiece
    some q = Some q
first_is t (suc n) (p ∷ ps) x lt there open' closed =
    ap (λ (b : Bool). cond b (Some p) (find (is_open t) ps)) closed.0 ∙ first_is t n ps x (omega (arith, lt)) there open' closed.1

-- the piece that is read at its place
pub first_at : (t n : ℕ) (ps : List StockPiece) (x : StockPiece) → x ≡ get_or ps n x → IsFirstOpen t ps n → Some x ≡ find (is_open t) ps
first_at t n ps x read is = ap some same ∙ sym (first_is t n ps is.piece is.within is.there is.open' is.before)
  where
    some : StockPiece → Option StockPiece
    some q = Some q

    same : x ≡ is.piece
    same = read ∙ get_or_default ps n x is.piece is.within ∙ sym is.there

pub some_found : (t n : ℕ) (ps : List StockPiece) → IsFirstOpen t ps n → true ≡ is_some (find (is_open t) ps)
some_found t n ps is = sym (ap is_some (first_is t n ps is.piece is.within is.there is.open' is.before))

-- it leaves the others as they stand
removed_is : (t n : ℕ) (ps : List StockPiece) (x : StockPiece) → n < length ps → x ≡ get_or ps n x → is_open t x ≡ true → AreClosed t n ps → remove ps n ≡ sold_first t ps
removed_is t n [] x lt there open' closed = absurd (omega (arith, lt))
removed_is t zero (p ∷ ps) x lt there open' closed = sym (ap (λ (b : Bool). cond b ps (p ∷ sold_first t ps)) (ap (is_open t) (sym there) ∙ open'))
removed_is t (suc n) (p ∷ ps) x lt there open' closed =
    ap (λ (qs : List StockPiece). p ∷ qs) (removed_is t n ps x (omega (arith, lt)) there open' closed.1) ∙ sym (ap (λ (b : Bool). cond b ps (p ∷ sold_first t ps)) closed.0)

pub sold_is : (t n : ℕ) (ps : List StockPiece) → IsFirstOpen t ps n → remove ps n ≡ sold_first t ps
sold_is t n ps is = removed_is t n ps is.piece is.within is.there is.open' is.before

-- those before it stay passed over
closed_front : (t n : ℕ) (ps qs : List StockPiece) → AreClosed t n ps → AreClosed t n (take n ps ++ qs)
closed_front t zero ps qs closed = tt
closed_front t (suc n) [] qs closed = absurd closed
closed_front t (suc n) (p ∷ ps) qs closed = (closed.0, closed_front t n ps qs closed.1)

pub passed_sold : (t n : ℕ) (ps : List StockPiece) → IsFirstOpen t ps n → IsPassed t n (remove ps n)
passed_sold t n ps is =
    record { within = let long = length-remove ps n is.within in omega (arith, long, is.within); closed = closed_front t n ps (drop (suc n) ps) is.before }

-- ---- where all were passed over

pub none_found : (t : ℕ) (ps : List StockPiece) → AreClosed t (length ps) ps → find (is_open t) ps ≡ None
none_found t [] closed = refl
none_found t (p ∷ ps) closed = ap (λ (b : Bool). cond b (Some p) (find (is_open t) ps)) closed.0 ∙ none_found t ps closed.1

pub none_sold : (t : ℕ) (ps : List StockPiece) → AreClosed t (length ps) ps → ps ≡ sold_first t ps
none_sold t [] closed = refl
none_sold t (p ∷ ps) closed = ap (λ (qs : List StockPiece). p ∷ qs) (none_sold t ps closed.1) ∙ sym (ap (λ (b : Bool). cond b ps (p ∷ sold_first t ps)) closed.0)
