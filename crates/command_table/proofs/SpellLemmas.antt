-- Which words may still become those of a value.
use Rattle.std.proofs.Common.{◌≡◌, ◌∙◌, ℕ, ◌+◌, ◌<◌, ◌≤◌, drop, ◌&&◌, ◌||◌, Bool, Bor, zero, suc, get_or, true, false, List, [], ◌∷◌, length, map, Option, Some, None, is_some, option_map, refl, sym, subst, ap, arith}
use Rattle.std.specs.Prelude.{IsNone, IfSome, IsTrue, ◌↔◌, ◌<◌, ◌&&◌, nat_le, nat_lt}
use Rattle.std.specs.List.{list_any, AllByRecursion, list_all}
use Rattle.clap.specs.Walk.{Text}
use Rattle.command_table.specs.Ranges.{IsPathOrAddress, is_path_or_address}
use Rattle.clap.specs.Walk.{Row}
use Rattle.std.proofs.lemmas.List.{at_drop_all, at_drop_more}
use Rattle.command_table.specs.declared.parameter.Parameter.{Parameter}
use Rattle.command_table.specs.declared.parameter.Shape.{Shape}
use Rattle.command_table.specs.declared.parameter.Shape.TheVariants.{One, Setting}
use Rattle.command_table.specs.declared.parameter.Sort.{Sort}
use Rattle.command_table.specs.declared.parameter.Sort.TheVariants as sorts
use Rattle.command_table.specs.Parameters.{is_range, name_of, shape_of}
use Rattle.command_table.specs.Values.{EachMayBe, IsOf, MayBe, MaySpell, spelled}
use Rattle.std.proofs.lemmas.Bool.{le-leb, leb-true}
use Rattle.command_table.specs.declared.value.TheConstants.{MOST_PLACE}

-- ---- one word

-- a value for the word of an argument: the one that it spells, or a sample
pub filled : {X : Type 0} (word : Option Text) (Is : X → Type 0) (spelled : X → Text) (sample : X) → Is sample → MaySpell word Is spelled
    → (x : X) × Is x × IfSome word (λ w. Some (spelled x) ≡ Some w)
filled {X} word Is spelled sample is may = go may.0 may.1 may.2
  where
    go : (o : Option X) → IfSome o Is → word ≡ option_map spelled o → (x : X) × Is x × IfSome word (λ w. Some (spelled x) ≡ Some w)
    go None fits e = (sample, is, rw e tt)
    go (Some x) fits e = (x, fits, rw e refl)

-- what is found where none lacks is spelled by the word, where there is one
pub spelled_in : {X : Type 0} (word whole : Option Text) (Is : X → Type 0) (spelled : X → Text) (x : X) → Is x → whole ≡ Some (spelled x) → IfSome word (λ w. whole ≡ Some w) → MaySpell word Is spelled
spelled_in None whole Is spelled x is e same = (None, tt, refl)
spelled_in (Some w) whole Is spelled x is e same = (Some x, is, sym same ∙ e)

pub option_in : {X : Type 0} (word whole : Option Text) (Is : X → Type 0) (spelled : X → Text) (o : Option X) → IfSome o Is → whole ≡ option_map spelled o → IfSome word (λ w. whole ≡ Some w) → MaySpell word Is spelled
option_in None whole Is spelled o is e same = (None, tt, refl)
option_in (Some w) whole Is spelled o is e same = (o, is, sym same ∙ e)

-- a word that is there
pub is_there : (r : Option (Bor Text)) (word : Option Text) → is_some r ≡ true → option_map (λ (s : Bor Text). s.now) r ≡ word → word ≡ None → ⊥
is_there None word some e none = cc
is_there (Some x) word some e none = let absent : Some x.now ≡ None = e ∙ none in cc

-- a reader of a word that is borrowed tells whether it is in its range
pub borrowed : (word : Option Text) (Is : Text → Type 0) (r : Option (Bor Text)) → IfSome r (λ p. Is p.now × (word ≡ Some p.now)) → (IsNone r → (x : Text) → Is x → word ≡ Some x → ⊥) → (word ≡ None → ⊥)
    → IsTrue (is_some r) ↔ MaySpell word Is (λ x. x)
borrowed None Is r some none there = absurd (there refl)
borrowed (Some word) Is (Some p) some none there = (λ t. (Some p.now, some.0, some.1), λ may. refl)
borrowed (Some word) Is None some none there = (λ t. absurd (cc t), λ may. absurd (no may.0 may.1 may.2))
  where
    no : (o : Option Text) → IfSome o Is → Some word ≡ option_map (λ x. x) o → ⊥
    no None is e = cc
    no (Some x) is e = none refl x is e

-- and one of an option's word
pub borrowed_option : (word : Option Text) (Is : Text → Type 0) (r : Option (Option (Bor Text))) → IfSome r (λ o. IfSome o (λ p. Is p.now) × (word ≡ option_map (λ (p : Bor Text). p.now) o)) → (IsNone r → (o : Option Text) → IfSome o Is → word ≡ o → ⊥)
    → IsTrue (is_some r) ↔ MaySpell word Is (λ x. x)
borrowed_option word Is (Some None) some none = (λ t. (None, tt, some.1), λ may. refl)
borrowed_option word Is (Some (Some p)) some none = (λ t. (Some p.now, some.0, some.1), λ may. refl)
borrowed_option word Is None some none = (λ t. absurd (cc t), λ may. absurd (no may.0 may.1 may.2))
  where
    no : (o : Option Text) → IfSome o Is → word ≡ option_map (λ (x : Text). x) o → ⊥
    no None is e = none refl None is e
    no (Some x) is e = none refl (Some x) is e

-- ---- tests

pub and_iff : (a b : Bool) {P Q : Type 0} → (IsTrue a ↔ P) → (IsTrue b ↔ Q) → IsTrue (a && b) ↔ (P × Q)
and_iff true b p q = (λ t. (p.0 refl, q.0 t), λ both. q.1 both.1)
and_iff false b p q = (λ t. absurd (cc t), λ both. p.1 both.0)

-- ---- lists of words

pub any_at : {A B : Type 0} (f : A → B) (p : B → Bool) (xs : List A) (i : ℕ) (d : A) → i < length xs → p (f (get_or xs i d)) ≡ true → list_any p (map f xs) ≡ true
any_at f p [] i d lt is = absurd (omega (arith, lt))
any_at f p (x ∷ xs) zero d lt is = rw is refl
any_at f p (x ∷ xs) (suc i) d lt is = or_right (p (f x)) _ (any_at f p xs i d (omega (arith, lt)) is)
  where
    or_right : (a b : Bool) → b ≡ true → (a || b) ≡ true
    or_right true b e = refl
    or_right false b e = e

pub none_at : {A B : Type 0} (f : A → B) (p : B → Bool) (xs : List A) → ((k : ℕ) → k < length xs → (d : A) → p (f (get_or xs k d)) ≡ false) → list_any p (map f xs) ≡ false
none_at f p [] none = refl
none_at f p (x ∷ xs) none = rw (none 0 (omega arith) x) (none_at f p xs (λ k lt d. none (suc k) (omega (arith, lt)) d))

pub list_any-map : {A B : Type 0} (f : A → B) (p : B → Bool) (xs : List A) → list_any (λ x. p (f x)) xs ≡ list_any p (map f xs)
list_any-map f p [] = refl
list_any-map f p (x ∷ xs) = ap (λ b. p (f x) || b) (list_any-map f p xs)

-- the tests of words of books decide
pub place_decides : (word : Text) → IsTrue (is_path_or_address word) ↔ IsPathOrAddress word
place_decides word =
    let both = and_iff (nat_lt 0 (length word)) (nat_le (length word) MOST_PLACE) (leb-true 1 (length word), le-leb 1 (length word)) (leb-true (length word) MOST_PLACE, le-leb (length word) MOST_PLACE) in
    (λ t. let p = both.0 t in record { some = p.0; short = p.1 }, λ is. both.1 (is.some, is.short))

pub places_decide : (words : List (Bor Text)) → IsTrue (list_all (λ (word : Bor Text). is_path_or_address word.now) words) ↔ AllByRecursion IsPathOrAddress (map (λ (word : Bor Text). word.now) words)
places_decide [] = (λ t. tt, λ all. refl)
places_decide (word ∷ words) = and_iff _ _ (place_decides word.now) (places_decide words)

-- what a reader of several words tells
pub places_told : (words : List (Bor Text)) (found : Option (List Text)) (b : Bool) → Some (map (λ (word : Bor Text). word.now) words) ≡ found
    → b ≡ list_all (λ (word : Bor Text). is_path_or_address word.now) words → IsTrue b ↔ IfSome found (AllByRecursion IsPathOrAddress)
places_told words found b e is =
    subst (λ (o : Option (List Text)). IsTrue b ↔ IfSome o (AllByRecursion IsPathOrAddress)) e
    (subst (λ (c : Bool). IsTrue c ↔ AllByRecursion IsPathOrAddress (map (λ (word : Bor Text). word.now) words)) (sym is) (places_decide words))

-- ---- sorts and shapes

-- a word of the sort that a call was given
pub spells_as : (word : Option Text) (b : Bool) {given sort : Sort} → given ≡ sort → (IsTrue b ↔ MaySpell word (IsOf sort) (spelled sort)) → IsTrue b ↔ MaySpell word (IsOf given) (spelled given)
spells_as word b {given} {sort} e = subst (λ (s : Sort). IsTrue b ↔ MaySpell word (IsOf s) (spelled s)) (sym e)

-- of the shape
pub is_as : (rows : List Row) (b : Bool) {given name : Text} {shape other : Shape} → given ≡ name → other ≡ shape → shape ≡ other → (IsTrue b ↔ MayBe rows given other) → IsTrue b ↔ MayBe rows name shape
is_as rows b {given} {name} {shape} {other} same e back is = subst (λ (n : Text). IsTrue b ↔ MayBe rows n shape) same (subst (λ (s : Shape). IsTrue b ↔ MayBe rows given s) e is)

-- the ranges of an option's value are those of a word
pub one_range : (sort : Sort) → is_range (Setting sort) ≡ true → is_range (One sort) ≡ true
one_range (sorts.Number least most) range = range
one_range sorts.Place range = refl
one_range _ range = refl

-- the next of some parameters
pub each_next : (rows : List Row) (parameters : List Parameter) (k : ℕ) (d : Parameter) → k < length parameters
    → EachMayBe rows (drop k parameters) ↔ (MayBe rows (name_of (get_or parameters k d)) (shape_of (get_or parameters k d)) × EachMayBe rows (drop (k + 1) parameters))
each_next rows parameters k d lt =
    let e = at_drop_more (λ (ps : List Parameter). ps) parameters k d lt in
    (λ each. subst (EachMayBe rows) e each, λ each. subst (EachMayBe rows) (sym e) each)

pub each_last : (rows : List Row) (parameters : List Parameter) (k : ℕ) → length parameters ≤ k → EachMayBe rows (drop k parameters)
each_last rows parameters k le = subst (EachMayBe rows) (sym (at_drop_all (λ (ps : List Parameter). ps) parameters k le)) tt
