-- The pieces of a wallet with where they stand, one more and one in another state.
use Rattle.std.proofs.Common.{◌≡◌, ℕ, zero, suc, ◌<◌, Bool, true, false, ◌&&◌, ◌||◌, cond, not, List, [], ◌∷◌, ◌++◌, length, map, Option, Some, None, option_map, refl, sym, ap, subst, ◌∙◌, bytes_eq, arith, get_or, set}
use Rattle.std.proofs.lemmas.List.Folds.{list_any-append}
use Rattle.std.specs.Prelude.{◌==◌, slice_get, Result, Ok, Err}
use Rattle.std.specs.List.{list_any}
use Rattle.std.specs.Result.{result_ok}
use Rattle.scrip_form.specs.Scrip.{Scrip, IsTextOf, scrip_text}
use Rattle.scrip_form.specs.Reading.{scrip_of}
use Rattle.scrip_form.specs.Told.{IsTold}
use Rattle.scrip_form.proofs.Laws.{scrip_of_tells, one_piece}
use Rattle.ledger_model.specs.Pieces.{piece_of}
use Rattle.ledger_model.proofs.ListLaws.{all_append}
use Rattle.wallet_model.proofs.CameLaws.{or_right}
use Rattle.wallet_model.specs.Holdings.{is_held}
use Rattle.wallet_model.specs.Newness.{are_one_piece, is_new}
use Rattle.wallet_book.specs.declared.holding.State.{State}
use Rattle.wallet_book.specs.declared.holding.State.TheVariants as states
use Rattle.wallet_book.specs.declared.holding.Holding.{Holding}
use Rattle.wallet_book.specs.PieceIndex.{PieceIndexView, place_of}
use Rattle.wallet_book.specs.Holdings.{state_of, text_of, texts_of, IsSpelled, AreSpelled, is_of, LeadsTo, IsIndexed, FindsPiece}

-- a state that is held by the definitions
pub held_state : (s : State) → is_held (state_of s) ≡ true → s ≡ states.Held
held_state states.Held is = refl
held_state states.Pending is = absurd cc
held_state states.Disputed is = absurd cc
held_state states.Used is = absurd cc
held_state states.Dead is = absurd cc

-- ---- texts

-- a text is read as the piece that it spells
pub read_back : (text : List ℕ) (p : Scrip) (cert : List ℕ) → IsTextOf text p cert → piece_of text ≡ Some p
read_back text p cert is = go (scrip_of text) refl (scrip_of_tells text)
  where
    go : (r : Result (Scrip × List ℕ) ℕ) → scrip_of text ≡ r → IsTold text r → piece_of text ≡ Some p
    go (Ok x) e told = ap (λ (s : Result (Scrip × List ℕ) ℕ). option_map (λ y. y.0) (result_ok s)) e ∙ ap (λ (q : Scrip). Some q) (one_piece text x.0 p x.1 cert told is).0
    go (Err place) e told = absurd (told.0 (p, cert, is))

-- pieces are one by vendor and identity
pub tests_alike : (x : Holding) (text : List ℕ) (p : Scrip) → IsSpelled x → piece_of text ≡ Some p → are_one_piece (text_of x) text ≡ is_of p.vendor p.id x
tests_alike x text p spelled is = let own = read_back (text_of x) x.piece x.cert spelled in rw (own, is) refl

any_alike : (xs : List Holding) (text : List ℕ) (p : Scrip) → AreSpelled xs → piece_of text ≡ Some p → list_any (λ t. are_one_piece t text) (texts_of xs) ≡ list_any (is_of p.vendor p.id) xs
any_alike [] text p spelled is = refl
any_alike (x ∷ xs) text p spelled is = rw (tests_alike x text p spelled.0 is, any_alike xs text p spelled.1 is) refl

pub spelled_at : (xs : List Holding) (i : ℕ) (x : Holding) → AreSpelled xs → slice_get xs i ≡ Some x → IsSpelled x
spelled_at [] i x spelled here = absurd cc
spelled_at (y ∷ ys) zero x spelled here = let same : y ≡ x = cc in subst IsSpelled same spelled.0
spelled_at (y ∷ ys) (suc i) x spelled here = spelled_at ys i x spelled.1 here

-- the place that the index gives is that of the piece of a text
pub found : (xs : List Holding) (text : List ℕ) (p : Scrip) (o : Option ℕ) → AreSpelled xs → piece_of text ≡ Some p → LeadsTo (is_of p.vendor p.id) xs o → FindsPiece xs text o
found xs text p None spelled is leads = ap not (any_alike xs text p spelled is ∙ leads)
found xs text p (Some i) spelled is leads = record {
  holding = leads.holding;
  here = leads.here;
  passes = tests_alike leads.holding text p (spelled_at xs i leads.holding spelled leads.here) is ∙ leads.passes;
}

-- where a place is found the piece is not new
pub any_at : {X : Type 0} (test : X → Bool) (xs : List X) (i : ℕ) (x : X) → slice_get xs i ≡ Some x → test x ≡ true → list_any test xs ≡ true
any_at test [] i x here passes = absurd cc
any_at test (y ∷ ys) zero x here passes = let same : y ≡ x = cc in ap (λ (z : _). test z || list_any test ys) same ∙ (rw passes refl)
any_at test (y ∷ ys) (suc i) x here passes = or_right (test y) (list_any test ys) (any_at test ys i x here passes)

pub get_map : {X Y : Type 0} (f : X → Y) (xs : List X) (i : ℕ) (x : X) → slice_get xs i ≡ Some x → slice_get (map f xs) i ≡ Some (f x)
get_map f [] i x here = absurd cc
get_map f (y ∷ ys) zero x here = let same : y ≡ x = cc in ap (λ (z : _). Some (f z)) same
get_map f (y ∷ ys) (suc i) x here = get_map f ys i x here

pub not_new : (xs : List Holding) (text : List ℕ) (i : ℕ) → FindsPiece xs text (Some i) → is_new (texts_of xs) text ≡ false
not_new xs text i at = ap not (any_at (λ t. are_one_piece t text) (texts_of xs) i (text_of at.holding) (get_map text_of xs i at.holding at.here) at.passes)

-- ---- one more

pub get_before : {X : Type 0} (xs ys : List X) (i : ℕ) (x : X) → slice_get xs i ≡ Some x → slice_get (xs ++ ys) i ≡ Some x
get_before [] ys i x here = absurd cc
get_before (y ∷ xs) ys zero x here = here
get_before (y ∷ xs) ys (suc i) x here = get_before xs ys i x here

pub get_last : {X : Type 0} (xs : List X) (x : X) → slice_get (xs ++ x ∷ []) (length xs) ≡ Some x
get_last [] x = refl
get_last (y ∷ xs) x = get_last xs x

pub spelled_more : (xs : List Holding) (x : Holding) → AreSpelled xs → IsSpelled x → AreSpelled (xs ++ x ∷ [])
spelled_more xs x spelled it = all_append IsSpelled xs (x ∷ []) spelled (it, tt)

both : (a b : Bool) → a ≡ false → b ≡ false → (a || (b || false)) ≡ false
both false false f g = refl
both true b f g = absurd cc
both false true f g = absurd cc

and_swap : (a b : Bool) → (a && b) ≡ (b && a)
and_swap true true = refl
and_swap true false = refl
and_swap false true = refl
and_swap false false = refl

pub indexed_more : (old new : PieceIndexView) (xs : List Holding) (x : Holding) → IsIndexed old xs
    → ((other : List ℕ) (number : ℕ) → place_of new other number ≡ cond (x.piece.id == number && bytes_eq x.piece.vendor other) (Some (length xs)) (place_of old other number))
    → IsIndexed new (xs ++ x ∷ [])
indexed_more old new xs x indexed put other number =
    subst (LeadsTo (is_of other number) (xs ++ x ∷ [])) (sym (put other number)) (go (x.piece.id == number && bytes_eq x.piece.vendor other) refl (place_of old other number) (indexed other number))
  where
    go : (b : Bool) → (x.piece.id == number && bytes_eq x.piece.vendor other) ≡ b → (o : Option ℕ) → LeadsTo (is_of other number) xs o → LeadsTo (is_of other number) (xs ++ x ∷ []) (cond b (Some (length xs)) o)
    go true is o leads = record { holding = x; here = get_last xs x; passes = and_swap (bytes_eq x.piece.vendor other) (x.piece.id == number) ∙ is }
    go false is None leads = list_any-append (is_of other number) xs (x ∷ []) ∙ both (list_any (is_of other number) xs) (is_of other number x) leads (and_swap (bytes_eq x.piece.vendor other) (x.piece.id == number) ∙ is)
    go false is (Some i) leads = record { holding = leads.holding; here = get_before xs (x ∷ []) i leads.holding leads.here; passes = leads.passes }

-- ---- one in another state

abbrev pub in_state : State → Holding → Holding
in_state s x = record x { state = s }

pub spelled_set : (xs : List Holding) (i : ℕ) (x : Holding) (s : State) → slice_get xs i ≡ Some x → AreSpelled xs → AreSpelled (set xs i (in_state s x))
spelled_set [] i x s here spelled = absurd cc
spelled_set (y ∷ ys) zero x s here spelled = let same : y ≡ x = cc in (subst IsSpelled same spelled.0, spelled.1)
spelled_set (y ∷ ys) (suc i) x s here spelled = (spelled.0, spelled_set ys i x s here spelled.1)

-- the holding of a place is the same but for its state
record SameAt (xs ys : List Holding) (i : ℕ) (x : Holding) : Type 0 where
  other : Holding
  here : slice_get ys i ≡ Some other
  piece : other.piece ≡ x.piece

set_at : (xs : List Holding) (i : ℕ) (x : Holding) (s : State) (k : ℕ) (y : Holding) → slice_get xs i ≡ Some x → slice_get xs k ≡ Some y → SameAt xs (set xs i (in_state s x)) k y
set_at [] i x s k y here there = absurd cc
set_at (z ∷ zs) zero x s zero y here there = let same : x ≡ y = cc in record { other = in_state s x; here = refl; piece = ap (λ (h : Holding). h.piece) same }
set_at (z ∷ zs) zero x s (suc k) y here there = record { other = y; here = there; piece = refl }
set_at (z ∷ zs) (suc i) x s zero y here there = record { other = y; here = there; piece = refl }
set_at (z ∷ zs) (suc i) x s (suc k) y here there = let r = set_at zs i x s k y here there in record { other = r.other; here = r.here; piece = r.piece }

any_set : (vendor : List ℕ) (id : ℕ) (xs : List Holding) (i : ℕ) (x : Holding) (s : State) → slice_get xs i ≡ Some x → list_any (is_of vendor id) (set xs i (in_state s x)) ≡ list_any (is_of vendor id) xs
any_set vendor id [] i x s here = absurd cc
any_set vendor id (y ∷ ys) zero x s here = let same : y ≡ x = cc in ap (λ (z : Holding). is_of vendor id z || list_any (is_of vendor id) ys) (sym same)
any_set vendor id (y ∷ ys) (suc i) x s here = ap (λ (b : Bool). is_of vendor id y || b) (any_set vendor id ys i x s here)

pub indexed_set : (index : PieceIndexView) (xs : List Holding) (i : ℕ) (x : Holding) (s : State) → slice_get xs i ≡ Some x → IsIndexed index xs → IsIndexed index (set xs i (in_state s x))
indexed_set index xs i x s here indexed vendor id = go (place_of index vendor id) (indexed vendor id)
  where
    go : (o : Option ℕ) → LeadsTo (is_of vendor id) xs o → LeadsTo (is_of vendor id) (set xs i (in_state s x)) o
    go None leads = any_set vendor id xs i x s here ∙ leads
    go (Some k) leads =
        let r = set_at xs i x s k leads.holding here leads.here in
        record { holding = r.other; here = r.here; passes = ap (λ (p : Scrip). bytes_eq p.vendor vendor && p.id == id) r.piece ∙ leads.passes }

-- what stands at a place that is read
pub read_at : {X : Type 0} (xs : List X) (i : ℕ) (x : X) → x ≡ get_or xs i x → i < length xs → slice_get xs i ≡ Some x
read_at [] i x is lt = absurd (omega arith)
read_at (y ∷ ys) zero x is lt = ap (λ (z : _). Some z) (sym is)
read_at (y ∷ ys) (suc i) x is lt = read_at ys i x is (omega (arith, lt))

-- a piece that was read has the text that it was read from
pub spelled_itself : (text : List ℕ) (p : Scrip) (cert : List ℕ) → IsTextOf text p cert → IsTextOf (scrip_text p cert) p cert
spelled_itself text p cert is = record { is_piece = is.is_piece; is_cert = is.is_cert; spelled = refl }
