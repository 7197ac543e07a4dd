-- Accounts where one is changed in its place, and where one is opened.
use Rattle.std.proofs.Common.{◌≡◌, ℕ, zero, suc, ◌+◌, ◌<◌, ◌≤◌, Bool, true, false, not, cond, ◌||◌, List, [], ◌∷◌, ◌++◌, length, get_or, Option, Some, None, refl, sym, ap, ap₂, ◌∙◌, subst, arith, bytes_eq, ltb, eqb, inl, inr, length-append}
use Rattle.std.specs.Prelude.{position, is_some, IsSome}
use Rattle.std.specs.Option.{option_or}
use Rattle.std.specs.List.{list_any, position_or_len, slice_get}
use Rattle.std.proofs.Math.ListN.{set}
use Rattle.std.proofs.lemmas.Bool.{ltb-false, lt-ltb, le-ltb, eq-eqb, cases_lt, false≢true, true≢false}
use Rattle.std.proofs.lemmas.List.Folds.{find_at, position_or_len_push, list_any-append}
use Rattle.std.proofs.lemmas.List.Quantifiers.{position-Some}
use Rattle.std.proofs.lemmas.Option.{slice_get_read, slice_get_past, slice_get-get_or}
use Rattle.std.proofs.lemmas.Slice.Eq.{bytes_eq-Decides}
use Rattle.name_places.specs.NamePlaces.{NamePlacesView, place_of}
use Rattle.broker_accounts.specs.Accounts.{AccountView, is_named, account_of, changed, new_account, AreNamedApart}
use Rattle.broker_accounts.specs.Stored.{IsStored}

-- ---- the place of a name

abbrev Accounts : Type 0
Accounts = List AccountView

place_is : (p : AccountView → Bool) (xs : Accounts) (i : ℕ) → position p xs ≡ Some i → i ≡ position_or_len p xs
place_is p xs i e = go (ltb (position_or_len p xs) (length xs)) e
  where
    go : (b : Bool) → cond b (Some (position_or_len p xs)) None ≡ Some i → i ≡ position_or_len p xs
    go true r = cc
    go false r = absurd cc

place_within : (p : AccountView → Bool) (xs : Accounts) (i : ℕ) → position p xs ≡ Some i → i < length xs
place_within p xs i e = (position-Some p xs i (new_account [] []) e).0

-- the account that stands in the place of a name
pub record At (xs : Accounts) (name : List ℕ) (i : ℕ) (x : AccountView) : Type 0 where
  pub place : position (is_named name) xs ≡ Some i
  pub there : x ≡ get_or xs i x

pub found : {xs : Accounts} {name : List ℕ} {i : ℕ} {x : AccountView} → At xs name i x → account_of xs name ≡ Some x
found {xs = xs} {name = name} {i = i} {x = x} at =
    find_at (is_named name) xs ∙ ap (slice_get xs) (sym (place_is (is_named name) xs i at.place))
    ∙ slice_get_read xs (length xs) i x refl (place_within (is_named name) xs i at.place) at.there

pub none_found : (xs : Accounts) (name : List ℕ) → position (is_named name) xs ≡ None → account_of xs name ≡ None
none_found xs name e = find_at (is_named name) xs ∙ slice_get_past xs (position_or_len (is_named name) xs) (go (ltb (position_or_len (is_named name) xs) (length xs)) refl e)
  where
    some : ℕ → Option ℕ
    some n = Some n

    go : (b : Bool) → ltb (position_or_len (is_named name) xs) (length xs) ≡ b → cond b (some (position_or_len (is_named name) xs)) None ≡ None → length xs ≤ position_or_len (is_named name) xs
    go true lt r = absurd cc
    go false lt r = ltb-false _ _ lt

-- ---- an account written in its place, under the same name

names_set : (q : List ℕ) (xs : Accounts) (i : ℕ) (x y : AccountView) → i < length xs → x ≡ get_or xs i x → y.name ≡ x.name → position_or_len (is_named q) (set xs i y) ≡ position_or_len (is_named q) xs
names_set q [] i x y lt there same = absurd (omega (arith, lt))
names_set q (a ∷ rest) zero x y lt there same = ap (λ (s : List ℕ). cond (not (bytes_eq q s)) (1 + position_or_len (is_named q) rest) 0) (same ∙ ap (λ (z : AccountView). z.name) there)
names_set q (a ∷ rest) (suc i) x y lt there same = ap (λ (n : ℕ). cond (not (is_named q a)) (1 + n) 0) (names_set q rest i x y (omega (arith, lt)) there same)

any_set : (q : List ℕ) (xs : Accounts) (i : ℕ) (x y : AccountView) → i < length xs → x ≡ get_or xs i x → y.name ≡ x.name → list_any (is_named q) (set xs i y) ≡ list_any (is_named q) xs
any_set q [] i x y lt there same = absurd (omega (arith, lt))
any_set q (a ∷ rest) zero x y lt there same = ap (λ (s : List ℕ). bytes_eq q s || list_any (is_named q) rest) (same ∙ ap (λ (z : AccountView). z.name) there)
any_set q (a ∷ rest) (suc i) x y lt there same = ap (λ (b : Bool). is_named q a || b) (any_set q rest i x y (omega (arith, lt)) there same)

apart_set : (xs : Accounts) (i : ℕ) (x y : AccountView) → i < length xs → x ≡ get_or xs i x → y.name ≡ x.name → AreNamedApart xs → AreNamedApart (set xs i y)
apart_set [] i x y lt there same apart = absurd (omega (arith, lt))
apart_set (a ∷ rest) zero x y lt there same apart = (ap (λ (s : List ℕ). list_any (is_named s) rest) (same ∙ ap (λ (z : AccountView). z.name) there) ∙ apart.0, apart.1)
apart_set (a ∷ rest) (suc i) x y lt there same apart = (any_set a.name rest i x y (omega (arith, lt)) there same ∙ apart.0, apart_set rest i x y (omega (arith, lt)) there same apart.1)

length_set : (xs : Accounts) (i : ℕ) (y : AccountView) → length (set xs i y) ≡ length xs
length_set [] i y = refl
length_set (a ∷ rest) zero y = refl
length_set (a ∷ rest) (suc i) y = ap suc (length_set rest i y)

pub stored_set : {xs : Accounts} {capacity : ℕ} {places : NamePlacesView} {name : List ℕ} {i : ℕ} {x : AccountView} → IsStored xs capacity places → At xs name i x → (y : AccountView) → y.name ≡ x.name
    → IsStored (set xs i y) capacity places
stored_set {xs = xs} {name = name} {i = i} {x = x} st at y same =
    let lt = place_within (is_named name) xs i at.place in
    record {
      apart = apart_set xs i x y lt at.there same st.apart;
      found = λ q. st.found q ∙ sym (ap₂ (λ (m n : ℕ). cond (ltb m n) (Some m) None) (names_set q xs i x y lt at.there same) (length_set xs i y));
      free = λ room. omega (arith, st.free room, length_set xs i y);
    }

-- ---- the account of a name changed is the one in its place

unchanged : (name : List ℕ) (f : AccountView → AccountView) (xs : Accounts) → list_any (is_named name) xs ≡ false → changed name f xs ≡ xs
unchanged name f [] none = refl
unchanged name f (a ∷ rest) none = go (is_named name a) (unchanged name f rest) none
  where
    go : (b : Bool) → (list_any (is_named name) rest ≡ false → changed name f rest ≡ rest) → (b || list_any (is_named name) rest) ≡ false → cond b (f a) a ∷ changed name f rest ≡ a ∷ rest
    go true more e = absurd cc
    go false more e = ap (λ (zs : Accounts). a ∷ zs) (more e)

set_first : (name : List ℕ) (f : AccountView → AccountView) (xs : Accounts) (x y : AccountView) → position_or_len (is_named name) xs < length xs
    → x ≡ get_or xs (position_or_len (is_named name) xs) x → y ≡ f x → AreNamedApart xs → set xs (position_or_len (is_named name) xs) y ≡ changed name f xs
set_first name f [] x y lt there is apart = absurd (omega (arith, lt))
set_first name f (a ∷ rest) x y lt there is apart = go (is_named name a) refl (λ below at. set_first name f rest x y below at is apart.1) lt there
  where
    go : (b : Bool) → is_named name a ≡ b
        → (position_or_len (is_named name) rest < length rest → x ≡ get_or rest (position_or_len (is_named name) rest) x → set rest (position_or_len (is_named name) rest) y ≡ changed name f rest)
        → cond (not b) (1 + position_or_len (is_named name) rest) 0 < length (a ∷ rest)
        → x ≡ get_or (a ∷ rest) (cond (not b) (1 + position_or_len (is_named name) rest) 0) x
        → set (a ∷ rest) (cond (not b) (1 + position_or_len (is_named name) rest) 0) y ≡ cond b (f a) a ∷ changed name f rest
    go true named more below at =
        let same : name ≡ a.name = (bytes_eq-Decides name a.name).0 named in
        let others : changed name f rest ≡ rest = unchanged name f rest (ap (λ (s : List ℕ). list_any (is_named s) rest) same ∙ apart.0) in
        ap₂ (λ (z : AccountView) (zs : Accounts). z ∷ zs) (is ∙ ap f at) (sym others)
    go false named more below at =
        let n = position_or_len (is_named name) rest in
        let one : 1 + n ≡ suc n = omega arith in
        ap (λ (k : ℕ). set (a ∷ rest) k y) one ∙ ap (λ (zs : Accounts). a ∷ zs) (more (omega (arith, below)) (at ∙ ap (λ (k : ℕ). get_or (a ∷ rest) k x) one))

pub set_is_changed : {xs : Accounts} {name : List ℕ} {i : ℕ} {x : AccountView} → At xs name i x → AreNamedApart xs → (f : AccountView → AccountView) (y : AccountView) → y ≡ f x → set xs i y ≡ changed name f xs
set_is_changed {xs = xs} {name = name} {i = i} {x = x} at apart f y is =
    let same = place_is (is_named name) xs i at.place in
    ap (λ (n : ℕ). set xs n y) same
    ∙ set_first name f xs x y (subst (λ (n : ℕ). n < length xs) same (place_within (is_named name) xs i at.place)) (at.there ∙ ap (λ (n : ℕ). get_or xs n x) same) is apart

-- ---- an account that was opened

none_passes : (p : AccountView → Bool) (xs : Accounts) → length xs ≤ position_or_len p xs → list_any p xs ≡ false
none_passes p [] le = refl
none_passes p (a ∷ rest) le = go (p a) (none_passes p rest) le
  where
    go : (b : Bool) → (length rest ≤ position_or_len p rest → list_any p rest ≡ false) → suc (length rest) ≤ cond (not b) (1 + position_or_len p rest) 0 → (b || list_any p rest) ≡ false
    go true more le = absurd (omega (arith, le))
    go false more le = more (omega (arith, le))

pub none_named : (xs : Accounts) (name : List ℕ) → position (is_named name) xs ≡ None → list_any (is_named name) xs ≡ false
none_named xs name e = none_passes (is_named name) xs (go (ltb (position_or_len (is_named name) xs) (length xs)) refl e)
  where
    some : ℕ → Option ℕ
    some n = Some n

    go : (b : Bool) → ltb (position_or_len (is_named name) xs) (length xs) ≡ b → cond b (some (position_or_len (is_named name) xs)) None ≡ None → length xs ≤ position_or_len (is_named name) xs
    go true lt r = absurd cc
    go false lt r = ltb-false _ _ lt

place_at_most : (p : AccountView → Bool) (xs : Accounts) → position_or_len p xs ≤ length xs
place_at_most p [] = omega arith
place_at_most p (a ∷ rest) = go (p a) (place_at_most p rest)
  where
    go : (b : Bool) → position_or_len p rest ≤ length rest → cond (not b) (1 + position_or_len p rest) 0 ≤ length (a ∷ rest)
    go true le = omega arith
    go false le = omega (arith, le)

position_snoc : (p : AccountView → Bool) (xs : Accounts) (y : AccountView) → position p (xs ++ y ∷ []) ≡ option_or (position p xs) (cond (p y) (Some (length xs)) None)
position_snoc p xs y = elim (cases_lt (position_or_len p xs) (length xs)) [
  | inl lt ↦ here lt
  | inr ge ↦ let same : position_or_len p xs ≡ length xs = omega (arith, ge, place_at_most p xs) in at_end (p y) refl same
]
  where
    n : ℕ
    n = position_or_len p xs

    longer : length (xs ++ y ∷ []) ≡ length xs + 1
    longer = length-append xs (y ∷ [])

    here : n < length xs → position p (xs ++ y ∷ []) ≡ option_or (position p xs) (cond (p y) (Some (length xs)) None)
    here lt =
        let other : eqb n (length xs) ≡ false = grind (arith, lt) in
        let place : position_or_len p (xs ++ y ∷ []) ≡ n = rw (position_or_len_push p xs y, other) refl in
        rw (place, longer, lt-ltb n (length xs + 1) (omega (arith, lt)), lt-ltb n (length xs) lt) refl

    at_end : (b : Bool) → p y ≡ b → n ≡ length xs → position p (xs ++ y ∷ []) ≡ option_or (position p xs) (cond (p y) (Some (length xs)) None)
    at_end true is same =
        let place : position_or_len p (xs ++ y ∷ []) ≡ length xs = rw (position_or_len_push p xs y, eq-eqb n (length xs) same, is) (omega arith) in
        let below : length xs < length xs + 1 = omega arith in
        rw (place, longer, lt-ltb (length xs) (length xs + 1) below, le-ltb n (length xs) (omega (arith, same)), is) refl
    at_end false is same =
        let place : position_or_len p (xs ++ y ∷ []) ≡ length xs + 1 = rw (position_or_len_push p xs y, eq-eqb n (length xs) same, is) (omega arith) in
        rw (place, longer, le-ltb (length xs + 1) (length xs + 1) (omega arith), le-ltb n (length xs) (omega (arith, same)), is) refl

-- the names of an account and of another one that a search for it does not find
other_way : (a b : List ℕ) → bytes_eq a b ≡ false → bytes_eq b a ≡ false
other_way a b e = go (bytes_eq b a) refl
  where
    go : (t : Bool) → bytes_eq b a ≡ t → t ≡ false
    go true is = let same : b ≡ a = (bytes_eq-Decides b a).0 is in absurd (let yes' : bytes_eq a b ≡ true = (bytes_eq-Decides a b).1 (sym same) in cc)
    go false is = refl

either : (a b : Bool) → (a || b) ≡ false → (a ≡ false) × (b ≡ false)
either true b e = absurd cc
either false b e = (refl, e)

pub apart_push : (xs : Accounts) (y : AccountView) → AreNamedApart xs → list_any (is_named y.name) xs ≡ false → AreNamedApart (xs ++ y ∷ [])
apart_push [] y apart none = (refl, tt)
apart_push (a ∷ rest) y apart none =
    let parts = either (is_named y.name a) (list_any (is_named y.name) rest) none in (
      list_any-append (is_named a.name) rest (y ∷ []) ∙ ap₂ (λ (s t : Bool). s || (t || false)) apart.0 (other_way y.name a.name parts.0),
      apart_push rest y apart.1 parts.1,
    )

or_none : (o : Option ℕ) → option_or o None ≡ o
or_none None = refl
or_none (Some n) = refl

pub stored_push : {xs : Accounts} {before after : ℕ} {old new : NamePlacesView} {name : List ℕ} → IsStored xs before old → new.room ≡ None → (y : AccountView) → y.name ≡ name → position (is_named name) xs ≡ None
    → ((q : List ℕ) → place_of new q ≡ cond (bytes_eq q name) (Some (length xs)) (place_of old q)) → IsStored (xs ++ y ∷ []) after new
stored_push {xs = xs} {old = old} {new = new} {name = name} st used y same none put =
    record {
      apart = apart_push xs y st.apart (ap (λ (s : List ℕ). list_any (is_named s) xs) same ∙ none_named xs name none);
      found = λ q. put q ∙ ap (λ (o : Option ℕ). cond (bytes_eq q name) (Some (length xs)) o) (st.found q) ∙ sym (position_snoc (is_named q) xs y ∙ ap (λ (s : List ℕ). option_or (position (is_named q) xs) (cond (bytes_eq q s) (Some (length xs)) None)) same ∙ go (bytes_eq q name) q refl);
      free = λ room. absurd (false≢true (sym (ap is_some used) ∙ room));
    }
  where
    go : (b : Bool) (q : List ℕ) → bytes_eq q name ≡ b → option_or (position (is_named q) xs) (cond b (Some (length xs)) None) ≡ cond b (Some (length xs)) (position (is_named q) xs)
    go true q is =
        let eq : q ≡ name = (bytes_eq-Decides q name).0 is in
        ap (λ (o : Option ℕ). option_or o (Some (length xs))) (ap (λ (s : List ℕ). position (is_named s) xs) eq ∙ none)
    go false q is = or_none (position (is_named q) xs)

-- ---- what the program finds

pub at_place : {items xs : List AccountView} {name bytes : List ℕ} {o : Option ℕ} {i : ℕ} {x : AccountView}
    → items ≡ xs → bytes ≡ name → o ≡ position (is_named bytes) xs → o ≡ Some i → x ≡ get_or items i x → At items name i x
at_place {xs = xs} {name = name} same named place some there = record {
  place = ap (position (is_named name)) same ∙ ap (λ (n : List ℕ). position (is_named n) xs) (sym named) ∙ sym place ∙ some;
  there = there;
}

pub found_in : {items xs : List AccountView} {name : List ℕ} {i : ℕ} {x : AccountView} → items ≡ xs → At items name i x → account_of xs name ≡ Some x
found_in {name = name} same at = ap (λ (ys : List AccountView). account_of ys name) (sym same) ∙ found at

pub none_in : (xs : List AccountView) {name bytes : List ℕ} {o : Option ℕ} → bytes ≡ name → o ≡ position (is_named bytes) xs → o ≡ None → account_of xs name ≡ None
none_in xs {name = name} named place none = none_found xs name (ap (λ (n : List ℕ). position (is_named n) xs) (sym named) ∙ sym place ∙ none)

some_in : (xs : List AccountView) {name bytes : List ℕ} {o : Option ℕ} {i : ℕ} → bytes ≡ name → o ≡ position (is_named bytes) xs → o ≡ Some i → IsSome (account_of xs name)
some_in xs {name = name} {i = i} named place some =
    let at : position (is_named name) xs ≡ Some i = ap (λ (n : List ℕ). position (is_named n) xs) (sym named) ∙ sym place ∙ some in
    let lt : i < length xs = place_within (is_named name) xs i at in
    ap is_some (find_at (is_named name) xs ∙ ap (slice_get xs) (sym (place_is (is_named name) xs i at)) ∙ slice_get-get_or xs i (new_account [] []) lt)

pub some_named : (xs : List AccountView) {name bytes : List ℕ} (o : Option ℕ) → bytes ≡ name → o ≡ position (is_named bytes) xs → is_some o ≡ true → IsSome (account_of xs name)
some_named xs None named place some = absurd (false≢true some)
some_named xs (Some i) named place some = some_in xs named place refl

pub none_from : (o : Option ℕ) → is_some o ≡ false → o ≡ None
none_from None e = refl
none_from (Some i) e = absurd (true≢false e)

pub stored_same : {xs ys : Accounts} {capacity : ℕ} {places : NamePlacesView} → ys ≡ xs → IsStored xs capacity places → IsStored ys capacity places
stored_same {capacity = capacity} {places = places} same st = subst (λ (zs : Accounts). IsStored zs capacity places) (sym same) st

pub stored_none : {capacity : ℕ} (places : NamePlacesView) → ((name : List ℕ) → place_of places name ≡ None) → places.room ≡ None → IsStored [] capacity places
stored_none places none empty = record { apart = tt; found = none; free = λ room. absurd (false≢true (sym (ap is_some empty) ∙ room)) }

pub no_place : {items xs : List AccountView} {name bytes : List ℕ} {o : Option ℕ} → items ≡ xs → bytes ≡ name → o ≡ position (is_named bytes) xs → o ≡ None → position (is_named name) items ≡ None
no_place {xs = xs} {name = name} same named place none = ap (position (is_named name)) same ∙ ap (λ (n : List ℕ). position (is_named n) xs) (sym named) ∙ sym place ∙ none

-- a coin came out, so no more was asked for than there was
pub covered : (balance n : ℕ) → (balance < n → true ≡ false) → ltb balance n ≡ false
covered balance n never = elim (cases_lt balance n) [ inl lt ↦ absurd (true≢false (never lt)) | inr le ↦ le-ltb balance n le ]
