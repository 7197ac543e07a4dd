-- The one holding of a text: what it tells of all of them, and what its state makes of them.
use Rattle.std.proofs.Common.{◌≡◌, ℕ, zero, suc, Bool, true, false, ◌&&◌, ◌||◌, cond, List, [], ◌∷◌, map, Option, Some, None, refl, sym, ap, subst, ◌∙◌, bytes_eq, unwrap_or, set}
use Rattle.std.proofs.lemmas.Bool.{eqb-true, eq-eqb, false_from_ne_true}
use Rattle.std.proofs.lemmas.Slice.Eq.{bytes_eq-Decides}
use Rattle.std.specs.Prelude.{◌==◌, slice_get}
use Rattle.std.specs.List.{list_any, AllByRecursion}
use Rattle.scrip_form.specs.Scrip.{Scrip}
use Rattle.ledger_model.specs.Pieces.{piece_of}
use Rattle.wallet_model.specs.Holdings as model
use Rattle.wallet_model.specs.Holdings.{PieceState, is_held}
use Rattle.wallet_model.specs.Newness.{is_same_piece, are_one_piece, is_new, are_new}
use Rattle.wallet_model.proofs.CameLaws.{one_piece_itself}
use Rattle.wallet_model.proofs.KeptLaws.{both_left, both_right, not_true}
use Rattle.wallet_book.specs.declared.holding.State.{State}
use Rattle.wallet_book.specs.declared.holding.Holding.{Holding}
use Rattle.wallet_book.specs.Holdings.{state_of, text_of, texts_of, holding_of, IsSpelled, AreSpelled}
use Rattle.wallet_book.proofs.HoldingLaws.{read_back, in_state, any_at, get_map}

same_pieces : (a b : Option Scrip) → is_same_piece a b ≡ true → is_same_piece b a ≡ true
same_pieces (Some p) (Some q) is =
    let vendor : q.vendor ≡ p.vendor = sym ((bytes_eq-Decides p.vendor q.vendor).0 (both_left (bytes_eq p.vendor q.vendor) _ is)) in
    let id : q.id ≡ p.id = sym (eqb-true p.id q.id (both_right (bytes_eq p.vendor q.vendor) _ is)) in
    let first : bytes_eq q.vendor p.vendor ≡ true = (bytes_eq-Decides q.vendor p.vendor).1 vendor in
    let second : (q.id == p.id) ≡ true = eq-eqb q.id p.id id in
    rw (first, second) refl
same_pieces (Some p) None is = absurd cc
same_pieces None b is = absurd cc

swapped : (a b : List ℕ) → are_one_piece a b ≡ true → are_one_piece b a ≡ true
swapped a b is = same_pieces (piece_of a) (piece_of b) is

itself : (x : Holding) → IsSpelled x → are_one_piece (text_of x) (text_of x) ≡ true
itself x spelled = one_piece_itself (text_of x) x.piece (read_back (text_of x) x.piece x.cert spelled)

abbrev knows : List (List ℕ) → List ℕ → Bool
knows texts text = list_any (λ t. are_one_piece t text) texts

-- a text among others to which a piece is new is of another piece
apart : (acc : List (List ℕ)) (k : ℕ) (t s : List ℕ) → slice_get acc k ≡ Some t → is_new acc s ≡ true → are_one_piece t s ≡ false
apart acc k t s at new = false_from_ne_true (are_one_piece t s) (λ one.
    let known : knows acc s ≡ true = any_at (λ u. are_one_piece u s) acc k t at one in
    let free : knows acc s ≡ false = not_true (knows acc s) new in
    cc (known, free))

-- likewise of each of some that are new
each_apart : (acc : List (List ℕ)) (k : ℕ) (t : List ℕ) (ts : List (List ℕ)) (i : ℕ) (s : List ℕ) → slice_get acc k ≡ Some t → are_new acc ts ≡ true → slice_get ts i ≡ Some s → are_one_piece t s ≡ false
each_apart acc k t [] i s at new here = absurd cc
each_apart acc k t (u ∷ us) zero s at new here =
    let same : u ≡ s = cc in
    apart acc k t s at (subst (λ (v : List ℕ). is_new acc v ≡ true) same (both_left (is_new acc u) _ new))
each_apart acc k t (u ∷ us) (suc i) s at new here = each_apart (u ∷ acc) (suc k) t us i s at (both_right (is_new acc u) _ new) here

-- none of them has the text
Differ : List ℕ → List Holding → Type 0
Differ t zs = AllByRecursion (λ z. bytes_eq t (text_of z) ≡ false) zs

differ : (acc : List (List ℕ)) (k : ℕ) (t text : List ℕ) (zs : List Holding) → slice_get acc k ≡ Some t → are_one_piece t text ≡ true → are_new acc (texts_of zs) ≡ true → Differ text zs
unfolding Differ
differ acc k t text [] at own new = tt
differ acc k t text (z ∷ zs) at own new =
    let other : are_one_piece t (text_of z) ≡ false = apart acc k t (text_of z) at (both_left (is_new acc (text_of z)) _ new) in
    let unlike : bytes_eq text (text_of z) ≡ false = false_from_ne_true (bytes_eq text (text_of z)) (λ same.
    let it : are_one_piece t (text_of z) ≡ true = subst (λ (s : List ℕ). are_one_piece t s ≡ true) ((bytes_eq-Decides text (text_of z)).0 same) own in
    cc (it, other)) in
    (unlike, differ (text_of z ∷ acc) (suc k) t text zs at own (both_right (is_new acc (text_of z)) _ new))

text_at : (xs : List Holding) (i : ℕ) (x : Holding) → slice_get xs i ≡ Some x → slice_get (texts_of xs) i ≡ Some (text_of x)
text_at xs i x here = get_map text_of xs i x here

-- ---- the state of one

abbrev pub moved_by : (List ℕ → Option PieceState) → model.Holding → model.Holding
moved_by f x = record { text = x.text; secret = x.secret; state = unwrap_or (f x.text) x.state }

still : (f : List ℕ → Option PieceState) (t : List ℕ) (s : PieceState) (zs : List Holding) → ((u : List ℕ) → f u ≡ cond (bytes_eq t u) (Some s) None) → Differ t zs → map (moved_by f) (map holding_of zs) ≡ map holding_of zs
unfolding Differ
still f t s [] is other = refl
still f t s (z ∷ zs) is other =
    let none : f (text_of z) ≡ None = is (text_of z) ∙ ap (λ (b : Bool). cond b (Some s) None) other.0 in
    rw (none, still f t s zs is other.1) refl

-- What moves the pieces of a text puts the one holding of it in its state.
moves_one : (acc : List (List ℕ)) (f : List ℕ → Option PieceState) (s : State) (xs : List Holding) (i : ℕ) (x : Holding) → AreSpelled xs → are_new acc (texts_of xs) ≡ true → slice_get xs i ≡ Some x
    → ((u : List ℕ) → f u ≡ cond (bytes_eq (text_of x) u) (Some (state_of s)) None) → map (moved_by f) (map holding_of xs) ≡ map holding_of (set xs i (in_state s x))
moves_one acc f s [] i x spelled new here is = absurd cc
moves_one acc f s (y ∷ ys) zero x spelled new here is =
    let same : y ≡ x = cc in
    let own : are_one_piece (text_of x) (text_of x) ≡ true = itself x (subst IsSpelled same spelled.0) in
    let others : Differ (text_of x) ys = differ (text_of x ∷ acc) zero (text_of x) (text_of x) ys refl own
    (subst (λ (z : Holding). are_new (text_of z ∷ acc) (texts_of ys) ≡ true) same (both_right (is_new acc (text_of y)) _ new)) in
    let alike : bytes_eq (text_of x) (text_of x) ≡ true = (bytes_eq-Decides (text_of x) (text_of x)).1 refl in
    let here' : f (text_of x) ≡ Some (state_of s) = is (text_of x) ∙ ap (λ (b : Bool). cond b (Some (state_of s)) None) alike in
    let first : moved_by f (holding_of x) ≡ holding_of (in_state s x) = rw here' refl in
    ap (λ (z : Holding). moved_by f (holding_of z) ∷ map (moved_by f) (map holding_of ys)) same
    ∙ ap (λ (z : model.Holding). z ∷ map (moved_by f) (map holding_of ys)) first
    ∙ ap (λ (zs : List model.Holding). holding_of (in_state s x) ∷ zs) (still f (text_of x) (state_of s) ys is others)
moves_one acc f s (y ∷ ys) (suc i) x spelled new here is =
    let more : are_new (text_of y ∷ acc) (texts_of ys) ≡ true = both_right (is_new acc (text_of y)) _ new in
    let other : are_one_piece (text_of y) (text_of x) ≡ false = each_apart (text_of y ∷ acc) zero (text_of y) (texts_of ys) i (text_of x) refl more (text_at ys i x here) in
    let unlike : bytes_eq (text_of x) (text_of y) ≡ false = false_from_ne_true (bytes_eq (text_of x) (text_of y)) (λ alike.
    let it : are_one_piece (text_of y) (text_of x) ≡ true = subst (λ (t : List ℕ). are_one_piece (text_of y) t ≡ true) (sym ((bytes_eq-Decides (text_of x) (text_of y)).0 alike)) (itself y spelled.0) in
    cc (it, other)) in
    let none : f (text_of y) ≡ None = is (text_of y) ∙ ap (λ (b : Bool). cond b (Some (state_of s)) None) unlike in
    let first : moved_by f (holding_of y) ≡ holding_of y = rw none refl in
    ap (λ (z : model.Holding). z ∷ map (moved_by f) (map holding_of ys)) first
    ∙ ap (λ (zs : List model.Holding). holding_of y ∷ zs) (moves_one (text_of y ∷ acc) f s ys i x spelled.1 more here is)

pub moved_one : (f : List ℕ → Option PieceState) (s : State) (xs : List Holding) (i : ℕ) (x : Holding) → AreSpelled xs → are_new [] (texts_of xs) ≡ true → slice_get xs i ≡ Some x
    → ((u : List ℕ) → f u ≡ cond (bytes_eq (text_of x) u) (Some (state_of s)) None) → map (moved_by f) (map holding_of xs) ≡ map holding_of (set xs i (in_state s x))
moved_one f s xs i x spelled new here is = moves_one [] f s xs i x spelled new here is

-- ---- what one tells of all

abbrev has_held : List ℕ → List Holding → Bool
has_held text xs = list_any (λ x. bytes_eq x.text text && is_held x.state) (map holding_of xs)

sides : (a b : List ℕ) → bytes_eq a b ≡ false → bytes_eq b a ≡ false
sides a b unlike = false_from_ne_true (bytes_eq b a) (λ same.
    let it : bytes_eq a b ≡ true = (bytes_eq-Decides a b).1 (sym ((bytes_eq-Decides b a).0 same)) in
    cc (it, unlike))

-- where no holding is one piece with a text, none has it
none_held : (text : List ℕ) (q : Scrip) (xs : List Holding) → piece_of text ≡ Some q → list_any (λ t. are_one_piece t text) (texts_of xs) ≡ false → has_held text xs ≡ false
none_held text q [] is none = refl
none_held text q (x ∷ xs) is none = go (are_one_piece (text_of x) text) refl none (none_held text q xs is)
  where
    go : (b : Bool) → are_one_piece (text_of x) text ≡ b → (b || list_any (λ t. are_one_piece t text) (texts_of xs)) ≡ false
        → (list_any (λ t. are_one_piece t text) (texts_of xs) ≡ false → has_held text xs ≡ false) → ((bytes_eq (text_of x) text && is_held (state_of x.state)) || has_held text xs) ≡ false
    go true one none rest = absurd cc
    go false one none rest =
        let unlike : bytes_eq (text_of x) text ≡ false = false_from_ne_true (bytes_eq (text_of x) text) (λ alike.
        let it : are_one_piece (text_of x) text ≡ true = subst (λ (t : List ℕ). are_one_piece t text ≡ true) (sym ((bytes_eq-Decides (text_of x) text).0 alike)) (one_piece_itself text q is) in
        cc (it, one)) in
        rw (unlike, rest none) refl

pub new_not_held : (text : List ℕ) (q : Scrip) (xs : List Holding) → piece_of text ≡ Some q → is_new (texts_of xs) text ≡ true → has_held text xs ≡ false
new_not_held text q xs is new = none_held text q xs is (not_true (knows (texts_of xs) text) new)

differ_held : (text : List ℕ) (zs : List Holding) → Differ text zs → has_held text zs ≡ false
unfolding Differ
differ_held text [] other = refl
differ_held text (z ∷ zs) other = let unlike = sides text (text_of z) other.0 in rw (unlike, differ_held text zs other.1) refl

or_false : (b : Bool) → (b || false) ≡ b
or_false true = refl
or_false false = refl

held_here : (acc : List (List ℕ)) (text : List ℕ) (xs : List Holding) (i : ℕ) (x : Holding) → are_new acc (texts_of xs) ≡ true → slice_get xs i ≡ Some x → are_one_piece (text_of x) text ≡ true
    → has_held text xs ≡ (bytes_eq (text_of x) text && is_held (state_of x.state))
held_here acc text [] i x new here one = absurd cc
held_here acc text (y ∷ ys) zero x new here one =
    let same : y ≡ x = cc in
    let later : are_new (text_of x ∷ acc) (texts_of ys) ≡ true = subst (λ (z : Holding). are_new (text_of z ∷ acc) (texts_of ys) ≡ true) same (both_right (is_new acc (text_of y)) _ new) in
    let others : has_held text ys ≡ false = differ_held text ys (differ (text_of x ∷ acc) zero (text_of x) text ys refl one later) in
    ap (λ (z : Holding). (bytes_eq (text_of z) text && is_held (state_of z.state)) || has_held text ys) same
    ∙ ap (λ (b : Bool). (bytes_eq (text_of x) text && is_held (state_of x.state)) || b) others ∙ or_false (bytes_eq (text_of x) text && is_held (state_of x.state))
held_here acc text (y ∷ ys) (suc i) x new here one =
    let more : are_new (text_of y ∷ acc) (texts_of ys) ≡ true = both_right (is_new acc (text_of y)) _ new in
    let other : are_one_piece (text_of y) (text_of x) ≡ false = each_apart (text_of y ∷ acc) zero (text_of y) (texts_of ys) i (text_of x) refl more (text_at ys i x here) in
    let unlike : bytes_eq (text_of y) text ≡ false = false_from_ne_true (bytes_eq (text_of y) text) (λ alike.
    let it : are_one_piece (text_of y) (text_of x) ≡ true = subst (λ (t : List ℕ). are_one_piece t (text_of x) ≡ true) (sym ((bytes_eq-Decides (text_of y) text).0 alike)) (swapped (text_of x) text one) in
    cc (it, other)) in
    ap (λ (b : Bool). (b && is_held (state_of y.state)) || has_held text ys) unlike ∙ held_here (text_of y ∷ acc) text ys i x more here one

-- whether a text is held is told by the one holding that is one piece with it
pub held_by_one : (text : List ℕ) (xs : List Holding) (i : ℕ) (x : Holding) → are_new [] (texts_of xs) ≡ true → slice_get xs i ≡ Some x → are_one_piece (text_of x) text ≡ true
    → has_held text xs ≡ (bytes_eq (text_of x) text && is_held (state_of x.state))
held_by_one text xs i x new here one = held_here [] text xs i x new here one
