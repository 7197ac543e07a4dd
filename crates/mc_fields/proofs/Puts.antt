-- Bytes put one behind the other.
use Rattle.std.proofs.Common.{◌≡◌, ℕ, ◌+◌, ◌<◌, ◌≤◌, List, [], ◌∷◌, ◌++◌, length, take, drop, Option, Some, None, refl, sym, ap, ap₂, ◌∙◌, append_assoc, append-nil, arith, flat_map, subst, Result, Ok, Err}
use Rattle.std.proofs.lemmas.List.{take-take, take_more, take_at, take-append-drop, length-append, length-take}
use Rattle.std.proofs.lemmas.List.Concat.{flat_map-append}
use Rattle.std.proofs.lemmas.Slice.{drop-append-drop}
use Rattle.std.proofs.Common.{get_or}
use Rattle.mc_fields.specs.Puts.{Appends, Puts}

-- what stands after the first part, regrouped
regrouped : (old mid : List ℕ) (at e : ℕ) (x : List ℕ) → mid ≡ take at old ++ (x ++ drop e old) → mid ≡ (take at old ++ x) ++ drop e old
regrouped old mid at e x h = h ∙ sym (append_assoc (take at old) x (drop e old))

-- one text put, and another behind it
pub puts_then : (old mid new : List ℕ) (at e : ℕ) (x y : List ℕ) (r : Option ℕ) → at ≤ length old → length mid ≡ length old
    → Puts old mid at x (Some e) → Puts mid new e y r → Puts old new at (x ++ y) r
puts_then old mid new at e x y None le same h g = omega (arith, h.0, g, length-append x y)
puts_then old mid new at e x y (Some f) le same h g =
    let len : length (take at old ++ x) ≡ e = omega (arith, h.0, length-append (take at old) x, length-take at old) in
    let mid_is = regrouped old mid at e x h.2 in
    let front : take e mid ≡ take at old ++ x = ap (take e) mid_is ∙ take_at (take at old ++ x) (drop e old) e len in
    let back : drop f mid ≡ drop f old = ap (drop f) mid_is ∙ drop-append-drop e old (take at old ++ x) f (omega (arith, g.0)) len in
    let new_is : new ≡ take at old ++ ((x ++ y) ++ drop f old) =
    g.2 ∙ ap₂ (λ (a b : List ℕ). a ++ (y ++ b)) front back ∙ append_assoc (take at old) x (y ++ drop f old) ∙ ap (λ (t : List ℕ). take at old ++ t) (sym (append_assoc x y (drop f old))) in
    (omega (arith, h.0, g.0, length-append x y), omega (arith, g.1), new_is)

-- ---- a text for each of a list, as a loop puts them

puts-item : {X : Type 0} (f : X → List ℕ) (old mid new : List ℕ) (start at : ℕ) (front : List X) (x : X) (r : Option ℕ) → start ≤ length old → length mid ≡ length old
    → Puts old mid start (flat_map f front) (Some at) → Puts mid new at (f x) r → Puts old new start (flat_map f (front ++ x ∷ [])) r
puts-item f old mid new start at front x r le same h g =
    let all : flat_map f (front ++ x ∷ []) ≡ flat_map f front ++ f x = flat_map-append f front (x ∷ []) ∙ ap (λ (t : List ℕ). flat_map f front ++ t) (append-nil (f x)) in
    rw all (puts_then old mid new start at (flat_map f front) (f x) r le same h g)

pub puts_next : {X : Type 0} (f : X → List ℕ) (old mid new : List ℕ) (start at i : ℕ) (xs : List X) (x d : X) (r : Option ℕ) → start ≤ length old → i < length xs → x ≡ get_or xs i d → length mid ≡ length old
    → Puts old mid start (flat_map f (take i xs)) (Some at) → Puts mid new at (f x) r → Puts old new start (flat_map f (take (i + 1) xs)) r
puts_next {X} f old mid new start at i xs x d r le lt is same h g =
    let more : take (i + 1) xs ≡ take i xs ++ x ∷ [] = take_more xs i d lt ∙ ap (λ (c : X). take i xs ++ c ∷ []) (sym is) in
    rw more (puts-item f old mid new start at (take i xs) x r le same h g)

-- where the next has no room, all together have none
pub no_room_for_next : {X : Type 0} (f : X → List ℕ) (old mid new : List ℕ) (start at i : ℕ) (xs : List X) (x d : X) → start ≤ length old → i < length xs → x ≡ get_or xs i d → length mid ≡ length old
    → Puts old mid start (flat_map f (take i xs)) (Some at) → Puts mid new at (f x) None → length old < start + length (flat_map f xs)
no_room_for_next f old mid new start at i xs x d le lt is same h g =
    let short = puts_next f old mid new start at i xs x d None le lt is same h g in
    let all : flat_map f xs ≡ flat_map f (take (i + 1) xs) ++ flat_map f (drop (i + 1) xs) =
    ap (flat_map f) (sym (take-append-drop (i + 1) xs)) ∙ flat_map-append f (take (i + 1) xs) (drop (i + 1) xs) in
    rw all (omega (arith, short, length-append (flat_map f (take (i + 1) xs)) (flat_map f (drop (i + 1) xs))))

pub puts_along : (old new : List ℕ) (at : ℕ) (x y : List ℕ) (r : Option ℕ) → x ≡ y → Puts old new at x r → Puts old new at y r
puts_along old new at x y r e h = subst (λ (t : List ℕ). Puts old new at t r) e h

-- ---- behind the bytes of a vector

-- a front of what stands is a front of what stands after more
pub front_stays : (old mid new x : List ℕ) → mid ≡ old ++ x → take (length mid) new ≡ mid → take (length old) new ≡ old
front_stays old mid new x is h =
    let le : length old ≤ length mid = omega (arith, ap length is, length-append old x) in
    sym (take-take (length old) (length mid) new le) ∙ ap (take (length old)) (h ∙ is) ∙ take_at old x (length old) refl

pub appends_then : {X E : Type 0} (old mid new x y : List ℕ) (r : Result X E) → mid ≡ old ++ x → Appends mid new y r → Appends old new (x ++ y) r
appends_then old mid new x y (Ok u) is h = h ∙ ap (λ (t : List ℕ). t ++ y) is ∙ append_assoc old x y
appends_then old mid new x y (Err e) is h = front_stays old mid new x is h

pub appends_along : {X E : Type 0} (old new x y : List ℕ) (r : Result X E) → x ≡ y → Appends old new x r → Appends old new y r
appends_along old new x y r e h = subst (λ (t : List ℕ). Appends old new t r) e h
