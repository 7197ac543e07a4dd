-- Lists place by place, and one place of a list.
use Rattle.std.proofs.Common.{◌≡◌, ℕ, zero, suc, ◌<◌, List, [], ◌∷◌, ◌++◌, length, take, Some, refl, ap, subst, arith}
use Rattle.std.specs.Prelude.{slice_get, slice_set, map}
use Rattle.std.specs.List.{AllZip, AllByRecursion, insert, remove}

-- ---- place by place

module _ {A B : Type 0} where
  pub zip_append : (R : A → B → Type 0) (xs us : List A) (ys vs : List B) → AllZip R xs ys → AllZip R us vs → AllZip R (xs ++ us) (ys ++ vs)
  zip_append R [] us [] vs a b = b
  zip_append R [] us (y ∷ ys) vs a b = absurd a
  zip_append R (x ∷ xs) us [] vs a b = absurd a
  zip_append R (x ∷ xs) us (y ∷ ys) vs a b = (a.0, zip_append R xs us ys vs a.1 b)

  pub zip_more : (R : A → B → Type 0) (xs : List A) (ys : List B) (x : A) (y : B) → AllZip R xs ys → R x y → AllZip R (xs ++ x ∷ []) (ys ++ y ∷ [])
  zip_more R xs ys x y a b = zip_append R xs (x ∷ []) ys (y ∷ []) a (b, tt)

  pub zip_weaker : (R S : A → B → Type 0) → ((a : A) (b : B) → R a b → S a b) → (xs : List A) (ys : List B) → AllZip R xs ys → AllZip S xs ys
  zip_weaker R S f [] [] a = tt
  zip_weaker R S f [] (y ∷ ys) a = absurd a
  zip_weaker R S f (x ∷ xs) [] a = absurd a
  zip_weaker R S f (x ∷ xs) (y ∷ ys) a = (f x y a.0, zip_weaker R S f xs ys a.1)

  pub zip_long : (R : A → B → Type 0) (xs : List A) (ys : List B) → AllZip R xs ys → length ys ≡ length xs
  zip_long R [] [] a = refl
  zip_long R [] (y ∷ ys) a = absurd a
  zip_long R (x ∷ xs) [] a = absurd a
  zip_long R (x ∷ xs) (y ∷ ys) a = ap suc (zip_long R xs ys a.1)

  pub zip_none : (R : A → B → Type 0) (ys : List B) → AllZip R [] ys → ys ≡ []
  zip_none R [] a = refl
  zip_none R (y ∷ ys) a = absurd a

  -- the other list where the first is in two parts, the second of which begins with x
  pub record Parted (R : A → B → Type 0) (xs us : List A) (x : A) (ys : List B) : Type 0 where
    pub front : List B
    pub there : B
    pub back : List B
    pub is : ys ≡ front ++ there ∷ back
    pub fronts : AllZip R xs front
    pub here : R x there
    pub backs : AllZip R us back

  pub zip_parted : (R : A → B → Type 0) (xs us : List A) (x : A) (ys : List B) → AllZip R (xs ++ x ∷ us) ys → Parted R xs us x ys
  zip_parted R [] us x [] a = absurd a
  zip_parted R [] us x (y ∷ ys) a = record { front = []; there = y; back = ys; is = refl; fronts = tt; here = a.0; backs = a.1 }
  zip_parted R (w ∷ ws) us x [] a = absurd a
  zip_parted R (w ∷ ws) us x (y ∷ ys) a =
      let p = zip_parted R ws us x ys a.1 in
      record { front = y ∷ p.front; there = p.there; back = p.back; is = ap (λ (l : List B). y ∷ l) p.is; fronts = (a.0, p.fronts); here = p.here; backs = p.backs }

pub zip_same : {A : Type 0} (R : A → A → Type 0) → ((a : A) → R a a) → (xs : List A) → AllZip R xs xs
zip_same R f [] = tt
zip_same R f (x ∷ xs) = (f x, zip_same R f xs)

pub zip_maps : {A : Type 0} (f : A → ℕ) (xs ys : List A) → AllZip (λ x y. f y ≡ f x) xs ys → map f ys ≡ map f xs
zip_maps f [] [] a = refl
zip_maps f [] (y ∷ ys) a = absurd a
zip_maps f (x ∷ xs) [] a = absurd a
zip_maps f (x ∷ xs) (y ∷ ys) a = λ i. a.0 i ∷ zip_maps f xs ys a.1 i

pub map_append : {A B : Type 0} (f : A → B) (xs ys : List A) → map f (xs ++ ys) ≡ map f xs ++ map f ys
map_append f [] ys = refl
map_append f (x ∷ xs) ys = ap (λ l. f x ∷ l) (map_append f xs ys)

pub length_map : {A B : Type 0} (f : A → B) (xs : List A) → length (map f xs) ≡ length xs
length_map f [] = refl
length_map f (x ∷ xs) = ap suc (length_map f xs)

-- ---- one place

module _ {X : Type 0} where
  -- what is taken out at a place and put back there is set there
  pub put_back : (xs : List X) (i : ℕ) (y : X) → i < length xs → insert (remove xs i) i y ≡ slice_set xs i y
  put_back [] i y lt = absurd (omega (arith, lt))
  put_back (x ∷ xs) zero y lt = refl
  put_back (x ∷ xs) (suc i) y lt = ap (λ (l : List X). x ∷ l) (put_back xs i y (omega (arith, lt)))

  -- behind so many elements comes one
  pub record Comes (rest : List X) (x : X) : Type 0 where
    pub behind : List X
    pub is : rest ≡ x ∷ behind

  pub comes_at : (done rest : List X) (x : X) → slice_get (done ++ rest) (length done) ≡ Some x → Comes rest x
  comes_at [] [] x is = absurd (cc is)
  comes_at [] (y ∷ ys) x is = record { behind = ys; is = ap (λ (z : X). z ∷ ys) (cc is) }
  comes_at (d ∷ ds) rest x is = comes_at ds rest x is

  pub get_at : (done rest : List X) (x : X) → slice_get (done ++ x ∷ rest) (length done) ≡ Some x
  get_at [] rest x = refl
  get_at (d ∷ ds) rest x = get_at ds rest x

  pub set_at : (done rest : List X) (x y : X) → slice_set (done ++ x ∷ rest) (length done) y ≡ done ++ y ∷ rest
  set_at [] rest x y = refl
  set_at (d ∷ ds) rest x y = ap (λ (l : List X). d ∷ l) (set_at ds rest x y)

  pub take_at : (done rest : List X) → take (length done) (done ++ rest) ≡ done
  take_at [] rest = refl
  take_at (d ∷ ds) rest = ap (λ (l : List X). d ∷ l) (take_at ds rest)

  pub none_left : (rest : List X) → length rest ≡ 0 → rest ≡ []
  none_left [] is = refl
  none_left (x ∷ xs) is = absurd (cc is)

-- ---- each element

module _ {A B : Type 0} where
  -- what is beside one element
  pub record Beside (R : A → B → Type 0) (ys : List B) (i : ℕ) (x : A) : Type 0 where
    pub y : B
    pub there : slice_get ys i ≡ Some y
    pub here : R x y

  pub zip_at : (R : A → B → Type 0) (xs : List A) (ys : List B) (i : ℕ) (x : A) → AllZip R xs ys → slice_get xs i ≡ Some x → Beside R ys i x
  zip_at R [] ys i x all is = absurd (cc is)
  zip_at R (a ∷ xs) [] i x all is = absurd all
  zip_at R (a ∷ xs) (b ∷ ys) zero x all is = record { y = b; there = refl; here = subst (λ (z : A). R z b) (cc is) all.0 }
  zip_at R (a ∷ xs) (b ∷ ys) (suc i) x all is = let z = zip_at R xs ys i x all.1 is in record { y = z.y; there = z.there; here = z.here }

pub all_more : {X : Type 0} (P : X → Type 0) (xs : List X) (x : X) → AllByRecursion P xs → P x → AllByRecursion P (xs ++ x ∷ [])
all_more P [] x all one = (one, tt)
all_more P (y ∷ ys) x all one = (all.0, all_more P ys x all.1 one)

-- what holds of each holds of one
pub at_place : {X : Type 0} (P : X → Type 0) (xs : List X) (i : ℕ) (x : X) → AllByRecursion P xs → slice_get xs i ≡ Some x → P x
at_place P [] i x all is = absurd (cc is)
at_place P (y ∷ ys) zero x all is = subst P (cc is) all.0
at_place P (y ∷ ys) (suc i) x all is = at_place P ys i x all.1 is
