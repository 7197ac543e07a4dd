-- The pieces in memory that may be sold on are those of the history.
use Rattle.std.proofs.Common.{◌≡◌, ◌∙◌, ℕ, zero, suc, ◌+◌, Bool, true, false, ◌&&◌, cond, List, [], ◌∷◌, ◌++◌, length, take, map, refl, sym, ap, subst, filter, arith, nat_lt, bytes_eq}
use Rattle.std.specs.Prelude.{filter_map}
use Rattle.std.specs.List.{enumerate_from}
use Rattle.ledger_model.specs.Histories.{History}
use Rattle.ledger_model.specs.Pieces.{is_first_hand}
use Rattle.wallet_model.specs.Holdings as model
use Rattle.wallet_model.specs.Holdings.{holdings}
use Rattle.wallet_model.specs.Asks.{Offered, offered_at, is_fit}
use Rattle.wallet_book.specs.declared.holding.State.{State}
use Rattle.wallet_book.specs.declared.holding.State.TheVariants as states
use Rattle.wallet_book.specs.declared.holding.Holding.{Holding}
use Rattle.wallet_book.specs.Holdings.{holding_of, AreSpelled}
use Rattle.wallet_book.specs.Holdings as memory
use Rattle.wallet_book.proofs.ChoosingLaws.{offer_of, offered}
use Rattle.held_lines.specs.declared.lines.TheConstants.{MOST}
use Rattle.held_lines.specs.Lines.{is_held, is_resold, resold, line, lines}
use Rattle.held_lines.specs.Resold.{resold_for, lines_of}

filter_twice : {X : Type 0} (f g : X → Bool) (xs : List X) → filter f (filter g xs) ≡ filter (λ x. g x && f x) xs
filter_twice f g [] = refl
filter_twice {X = X} f g (x ∷ xs) = go (g x) (filter_twice f g xs)
  where
    go : (b : Bool) → filter f (filter g xs) ≡ filter (λ y. g y && f y) xs → filter f (cond b (x ∷ filter g xs) (filter g xs)) ≡ cond (b && f x) (x ∷ filter (λ y. g y && f y) xs) (filter (λ y. g y && f y) xs)
    go true rest = ap (λ (ys : List X). cond (f x) (x ∷ ys) ys) rest
    go false rest = rest

and_joined : (a b c d : Bool) → ((a && (b && c)) && d) ≡ (a && (b && (c && d)))
and_joined true true c d = refl
and_joined true false c d = refl
and_joined false b c d = refl

held_alike : (s : State) → model.is_held (memory.state_of s) ≡ is_held s
held_alike states.Held = refl
held_alike states.Pending = refl
held_alike states.Disputed = refl
held_alike states.Used = refl
held_alike states.Dead = refl

-- whether an offered piece may be sold on
abbrev may_sell : ℕ → List ℕ → Offered → Bool
may_sell t vendor o = is_fit t vendor o && is_first_hand o.piece

tests_alike : (t : ℕ) (vendor : List ℕ) (n : ℕ) (x : Holding) → may_sell t vendor (offer_of n x) ≡ is_resold t vendor x
tests_alike t vendor n x =
    ap (λ (b : Bool). (b && (nat_lt t x.piece.expires && bytes_eq x.piece.vendor vendor)) && is_first_hand x.piece) (held_alike x.state)
    ∙ and_joined (is_held x.state) (nat_lt t x.piece.expires) (bytes_eq x.piece.vendor vendor) (is_first_hand x.piece)

-- the same lines, and as many
record AreAlike (os : List Offered) (xs : List Holding) : Type 0 where
  same : lines_of os ≡ lines xs
  many : length os ≡ length xs

abbrev offers : ℕ → List Holding → List Offered
offers n xs = filter_map offered_at (enumerate_from n (map holding_of xs))

none_alike : (m : ℕ) → AreAlike (take m []) (take m [])
none_alike zero = record { same = refl; many = refl }
none_alike (suc m) = record { same = refl; many = refl }

alike : (m n t : ℕ) (vendor : List ℕ) (xs : List Holding) → AreSpelled xs → AreAlike (take m (filter (may_sell t vendor) (offers n xs))) (take m (filter (is_resold t vendor) xs))
alike m n t vendor [] spelled = none_alike m
alike m n t vendor (x ∷ xs) spelled =
    let one = offered n x spelled.0 in
    let test = tests_alike t vendor n x in
    rw (one, test) (go m (is_resold t vendor x) (λ k. alike k (n + 1) t vendor xs spelled.1))
  where
    go : (k : ℕ) (b : Bool) → ((i : ℕ) → AreAlike (take i (filter (may_sell t vendor) (offers (n + 1) xs))) (take i (filter (is_resold t vendor) xs)))
        → AreAlike (take k (cond b (offer_of n x ∷ filter (may_sell t vendor) (offers (n + 1) xs)) (filter (may_sell t vendor) (offers (n + 1) xs)))) (take k (cond b (x ∷ filter (is_resold t vendor) xs) (filter (is_resold t vendor) xs)))
    go k false rest = rest k
    go zero true rest = record { same = refl; many = refl }
    go (suc k) true rest = record { same = ap (λ (bs : List ℕ). line x ++ bs) (rest k).same; many = ap suc (rest k).many }

resold_alike : (h : History) (t : ℕ) (vendor : List ℕ) (xs : List Holding) → AreSpelled xs → holdings h ≡ map holding_of xs → AreAlike (resold_for h t vendor) (resold t vendor xs)
resold_alike h t vendor xs spelled is =
    let P : List Offered → Type 0 = λ os. AreAlike (take MOST os) (resold t vendor xs) in
    let Q : List model.Holding → Type 0 = λ hs. AreAlike (take MOST (filter (λ o. is_first_hand o.piece) (filter (is_fit t vendor) (filter_map offered_at (enumerate_from 0 hs))))) (resold t vendor xs) in
    subst Q (sym is) (subst P (sym (filter_twice (λ o. is_first_hand o.piece) (is_fit t vendor) (offers 0 xs))) (alike MOST 0 t vendor xs spelled))

-- the lines that were made, by the history
pub made_for : (h : History) (t : ℕ) (vendor : List ℕ) (xs : List Holding) → AreSpelled xs → holdings h ≡ map holding_of xs → lines (resold t vendor xs) ≡ lines_of (resold_for h t vendor)
made_for h t vendor xs spelled is = sym (resold_alike h t vendor xs spelled is).same

-- and how many they are
pub many_for : (h : History) (t : ℕ) (vendor : List ℕ) (xs : List Holding) → AreSpelled xs → holdings h ≡ map holding_of xs → length (resold t vendor xs) ≡ length (resold_for h t vendor)
many_for h t vendor xs spelled is = sym (resold_alike h t vendor xs spelled is).many

-- there are none
pub none_of : (os : List Offered) (count : ℕ) → count ≡ length os → count ≡ 0 → os ≡ []
none_of [] count is none = refl
none_of (o ∷ os) count is none = absurd (omega (arith, is, none))
