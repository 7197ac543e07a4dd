-- Lists, and histories that go on.
use Rattle.std.proofs.Common.{◌≡◌, ◌⊎◌, inl, inr, ℕ, zero, suc, ◌<◌, ◌≤◌, List, [], ◌∷◌, ◌++◌, length, take, Option, Some, refl, sym, ap, subst, ◌∙◌, arith, append-nil, append_assoc, slice_get}
use Rattle.std.specs.Prelude.{slice_set}
use Rattle.std.specs.List.{AllByRecursion}
use Rattle.std.proofs.lemmas.Option.{same_Some}
use Rattle.std.proofs.lemmas.List.{length-append}
use Rattle.mc_records.specs.Entry.{Entry}
use Rattle.mc_records.specs.Following.{AllFollowBy}
use Rattle.ledger_model.specs.Histories.{History}

-- ---- what stands at a number

pub got_is : {X : Type 0} (x y : X) (o : Option X) → o ≡ Some x → o ≡ Some y → x ≡ y
got_is x y o a b = same_Some x y (sym a ∙ b)

pub get_front : {X : Type 0} (xs ys : List X) (n : ℕ) (x : X) → slice_get xs n ≡ Some x → slice_get (xs ++ ys) n ≡ Some x
get_front [] ys n x is = absurd cc
get_front (y ∷ xs) ys zero x is = is
get_front (y ∷ xs) ys (suc n) x is = get_front xs ys n x is

pub get_last : {X : Type 0} (xs : List X) (x : X) → slice_get (xs ++ x ∷ []) (length xs) ≡ Some x
get_last [] x = refl
get_last (y ∷ xs) x = get_last xs x

pub get_snoc : {X : Type 0} (xs : List X) (x : X) (n : ℕ) (y : X) → slice_get (xs ++ x ∷ []) n ≡ Some y → (slice_get xs n ≡ Some y) ⊎ ((n ≡ length xs) × (x ≡ y))
get_snoc [] x zero y is = inr (refl, same_Some x y is)
get_snoc [] x (suc n) y is = absurd cc
get_snoc (z ∷ xs) x zero y is = inl is
get_snoc (z ∷ xs) x (suc n) y is = elim (get_snoc xs x n y is) [
  | inl there ↦ inl there
  | inr last ↦ inr (ap (λ (m : ℕ). suc m) last.0, last.1)
]

pub get_below : {X : Type 0} (xs : List X) (n : ℕ) (x : X) → slice_get xs n ≡ Some x → n < length xs
get_below [] n x is = absurd cc
get_below (y ∷ xs) zero x is = omega arith
get_below (y ∷ xs) (suc n) x is = let ih = get_below xs n x is in omega (arith, ih)

pub take_front : {X : Type 0} (xs ys : List X) (n : ℕ) → n < length xs → take n (xs ++ ys) ≡ take n xs
take_front [] ys n lt = absurd (omega (arith, lt))
take_front (x ∷ xs) ys zero lt = refl
take_front {X} (x ∷ xs) ys (suc n) lt = ap (λ (zs : List X). x ∷ zs) (take_front xs ys n (omega (arith, lt)))

pub take_own : {X : Type 0} (xs ys : List X) → take (length xs) (xs ++ ys) ≡ xs
take_own [] [] = refl
take_own [] (y ∷ ys) = refl
take_own {X} (x ∷ xs) ys = ap (λ (zs : List X). x ∷ zs) (take_own xs ys)

-- ---- lists of two kinds, element by element

abbrev pub AllTwo : {A B : Type 0} → (A → B → Type 0) → List A → List B → Type 0
AllTwo R [] [] = Unit {0}
AllTwo R (x ∷ xs) (y ∷ ys) = R x y × AllTwo R xs ys
AllTwo R _ _ = ⊥

pub two_of : {A : Type 0} (R : A → A → Type 0) (P : A → Type 0) (xs : List A) → AllByRecursion P xs → ((x : A) → P x → R x x) → AllTwo R xs xs
two_of R P [] all f = tt
two_of R P (x ∷ xs) all f = (f x all.0, two_of R P xs all.1 f)

pub two_set : {A B : Type 0} (R : A → B → Type 0) (xs : List A) (ys : List B) (i : ℕ) (y z : B) → AllTwo R xs ys → slice_get ys i ≡ Some y → ((x : A) → R x y → R x z) → AllTwo R xs (slice_set ys i z)
two_set R [] [] i y z two is f = tt
two_set R [] (b ∷ ys) i y z two is f = absurd two
two_set R (a ∷ xs) [] i y z two is f = absurd two
two_set {A} {B} R (a ∷ xs) (b ∷ ys) zero y z two is f = (f a (subst (λ (v : B). R a v) (same_Some b y is) two.0), two.1)
two_set R (a ∷ xs) (b ∷ ys) (suc i) y z two is f = (two.0, two_set R xs ys i y z two.1 is f)

pub two_get : {A B : Type 0} (R : A → B → Type 0) (xs : List A) (ys : List B) (i : ℕ) (x : A) (y : B) → AllTwo R xs ys → slice_get xs i ≡ Some x → slice_get ys i ≡ Some y → R x y
two_get R [] ys i x y two is at = absurd cc
two_get R (a ∷ xs) [] i x y two is at = absurd two
two_get {A} {B} R (a ∷ xs) (b ∷ ys) zero x y two is at = subst (λ (v : B). R x v) (same_Some b y at) (subst (λ (u : A). R u b) (same_Some a x is) two.0)
two_get R (a ∷ xs) (b ∷ ys) (suc i) x y two is at = two_get R xs ys i x y two.1 is at

pub record Before {A B : Type 0} (R : A → B → Type 0) (xs : List A) (i : ℕ) (y : B) : Type 0 where
  pub x : A
  pub is : slice_get xs i ≡ Some x
  pub related : R x y

pub two_back : {A B : Type 0} (R : A → B → Type 0) (xs : List A) (ys : List B) (i : ℕ) (y : B) → AllTwo R xs ys → slice_get ys i ≡ Some y → Before R xs i y
two_back R [] [] i y two at = absurd cc
two_back R [] (b ∷ ys) i y two at = absurd two
two_back R (a ∷ xs) [] i y two at = absurd two
two_back {A} {B} R (a ∷ xs) (b ∷ ys) zero y two at = record { x = a; is = refl; related = subst (λ (v : B). R a v) (same_Some b y at) two.0 }
two_back R (a ∷ xs) (b ∷ ys) (suc i) y two at =
    let r = two_back R xs ys i y two.1 at in
    record { x = r.x; is = r.is; related = r.related }

pub two_weaker : {A B : Type 0} (R S : A → B → Type 0) (xs : List A) (ys : List B) → ((x : A) (y : B) → R x y → S x y) → AllTwo R xs ys → AllTwo S xs ys
two_weaker R S [] [] f two = tt
two_weaker R S [] (b ∷ ys) f two = absurd two
two_weaker R S (a ∷ xs) [] f two = absurd two
two_weaker R S (a ∷ xs) (b ∷ ys) f two = (f a b two.0, two_weaker R S xs ys f two.1)

pub all_of_two : {A B : Type 0} (R : A → B → Type 0) (P : A → Type 0) (Q : B → Type 0) (xs : List A) (ys : List B) → AllTwo R xs ys → AllByRecursion P xs → ((x : A) (y : B) → P x → R x y → Q y) → AllByRecursion Q ys
all_of_two R P Q [] [] two all f = tt
all_of_two R P Q [] (b ∷ ys) two all f = absurd two
all_of_two R P Q (a ∷ xs) [] two all f = absurd two
all_of_two R P Q (a ∷ xs) (b ∷ ys) two all f = (f a b all.0 two.0, all_of_two R P Q xs ys two.1 all.1 f)

pub all_get : {X : Type 0} (P : X → Type 0) (xs : List X) (i : ℕ) (x : X) → AllByRecursion P xs → slice_get xs i ≡ Some x → P x
all_get P [] i x all is = absurd cc
all_get {X} P (y ∷ xs) zero x all is = subst P (same_Some y x is) all.0
all_get P (y ∷ xs) (suc i) x all is = all_get P xs i x all.1 is

-- ---- an element that is changed

pub set_here : {X : Type 0} (ys : List X) (i : ℕ) (y z : X) → slice_get ys i ≡ Some y → slice_get (slice_set ys i z) i ≡ Some z
set_here [] i y z is = absurd cc
set_here (b ∷ ys) zero y z is = refl
set_here (b ∷ ys) (suc i) y z is = set_here ys i y z is

-- what stood at a number stands there after another was changed, or it was changed itself
pub set_stays : {X : Type 0} (ys : List X) (i : ℕ) (y z : X) (k : ℕ) (b : X) → slice_get ys i ≡ Some y → slice_get ys k ≡ Some b
    → ((b ≡ y) × (slice_get (slice_set ys i z) k ≡ Some z)) ⊎ (slice_get (slice_set ys i z) k ≡ Some b)
set_stays [] i y z k b is at = absurd cc
set_stays (a ∷ ys) zero y z zero b is at = inl (got_is b y (Some a) at is, refl)
set_stays (a ∷ ys) zero y z (suc k) b is at = inr at
set_stays (a ∷ ys) (suc i) y z zero b is at = inr at
set_stays (a ∷ ys) (suc i) y z (suc k) b is at = set_stays ys i y z k b is at

-- ---- histories that go on

pub follow_snoc : (P : History → Entry → Type 0) (before es : History) (e : Entry) → AllFollowBy P before es → P (before ++ es) e → AllFollowBy P before (es ++ e ∷ [])
follow_snoc P before [] e all p = (subst (λ (h : History). P h e) (append-nil before) p, tt)
follow_snoc P before (x ∷ xs) e all p = (all.0, follow_snoc P (before ++ x ∷ []) xs e all.1 (subst (λ (h : History). P h e) (sym (append_assoc before (x ∷ []) xs)) p))

pub follow_weaker : (P Q : History → Entry → Type 0) → ((h : History) (e : Entry) → P h e → Q h e) → (before es : History) → AllFollowBy P before es → AllFollowBy Q before es
follow_weaker P Q f before [] all = tt
follow_weaker P Q f before (e ∷ es) all = (f before e all.0, follow_weaker P Q f (before ++ e ∷ []) es all.1)

-- what holds of a history, and goes over each entry with a property, holds after entries with it
pub grown : (Q : History → Type 0) (P : History → Entry → Type 0) → ((h : History) (e : Entry) → Q h → P h e → Q (h ++ e ∷ [])) → (before es : History) → Q before → AllFollowBy P before es → Q (before ++ es)
grown Q P step before [] q all = subst Q (sym (append-nil before)) q
grown Q P step before (e ∷ es) q all = subst Q (append_assoc before (e ∷ []) es) (grown Q P step (before ++ e ∷ []) es (step before e q all.0) all.1)

-- an entry of a longer history stood in the shorter one, or came after it with the property
pub followed_at : (P : History → Entry → Type 0) (before es : History) (n : ℕ) (e : Entry) → AllFollowBy P before es → slice_get (before ++ es) n ≡ Some e
    → (slice_get before n ≡ Some e) ⊎ ((length before ≤ n) × P (take n (before ++ es)) e)
followed_at P before [] n e all is = inl (ap (λ (h : History). slice_get h n) (sym (append-nil before)) ∙ is)
followed_at P before (x ∷ xs) n e all is =
    let joined = append_assoc before (x ∷ []) xs in
    elim (followed_at P (before ++ x ∷ []) xs n e all.1 (ap (λ (h : History). slice_get h n) joined ∙ is)) [
      | inl short ↦ elim (get_snoc before x n e short) [
        | inl there ↦ inl there
        | inr last ↦ inr (
          omega (arith, last.0),
          subst (λ (h : History). P h e) (sym (take_own before (x ∷ xs)) ∙ ap (λ (m : ℕ). take m (before ++ x ∷ xs)) (sym last.0)) (subst (λ (y : Entry). P before y) last.1 all.0),
        )
      ]
      | inr later ↦ inr (
        (let long = length-append before (x ∷ []) in omega (arith, long, later.0)),
        subst (λ (h : History). P (take n h) e) joined later.1,
      )
    ]

-- one history goes on another, by entries with a property
pub record GoesOn (P : History → Entry → Type 0) (before now : History) : Type 0 where
  pub more : History
  pub is : now ≡ before ++ more
  pub all : AllFollowBy P before more

pub goes_none : (P : History → Entry → Type 0) (h : History) → GoesOn P h h
goes_none P h = record { more = []; is = sym (append-nil h); all = tt }

pub goes_more : (P : History → Entry → Type 0) (a b : History) (e : Entry) → GoesOn P a b → P b e → GoesOn P a (b ++ e ∷ [])
goes_more P a b e g p = record {
  more = g.more ++ e ∷ [];
  is = ap (λ (h : History). h ++ e ∷ []) g.is ∙ append_assoc a g.more (e ∷ []);
  all = follow_snoc P a g.more e g.all (subst (λ (h : History). P h e) g.is p);
}

pub goes_weaker : (P Q : History → Entry → Type 0) → ((h : History) (e : Entry) → P h e → Q h e) → (a b : History) → GoesOn P a b → GoesOn Q a b
goes_weaker P Q f a b g = record { more = g.more; is = g.is; all = follow_weaker P Q f a g.more g.all }

pub goes_grown : (Q : History → Type 0) (P : History → Entry → Type 0) → ((h : History) (e : Entry) → Q h → P h e → Q (h ++ e ∷ [])) → (a b : History) → Q a → GoesOn P a b → Q b
goes_grown Q P step a b q g = subst Q (sym g.is) (grown Q P step a g.more q g.all)

pub goes_at : (P : History → Entry → Type 0) (a b : History) (n : ℕ) (e : Entry) → GoesOn P a b → slice_get b n ≡ Some e → (slice_get a n ≡ Some e) ⊎ ((length a ≤ n) × P (take n b) e)
goes_at P a b n e g is = elim (followed_at P a g.more n e g.all (ap (λ (h : History). slice_get h n) (sym g.is) ∙ is)) [
  | inl there ↦ inl there
  | inr later ↦ inr (later.0, subst (λ (h : History). P (take n h) e) (sym g.is) later.1)
]
