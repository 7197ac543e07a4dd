-- What marks lead to.
use Rattle.std.proofs.Common.{◌≡◌, ℕ, zero, suc, ◌+◌, ◌*◌, ◌^◌, ◌<◌, ◌≤◌, ◌/◌, ◌%◌, cond, arith, Bool, true, false, not, ◌&&◌, ◌||◌, eqb, List, [], ◌∷◌, ◌++◌, length, filter, get_or, set, None, Some, Option, inl, inr, refl, sym, ap, subst, ◌∙◌, length-set, get_or-set_same}
use Rattle.std.specs.Bool.{then_some}
use Rattle.std.specs.List.{list_any, position, position_from}
use Rattle.std.specs.Prelude.{sum_by}
use Rattle.std.proofs.lemmas.List.Folds.{list_any_at, list_any-append, Any-from_list_any}
use Rattle.std.proofs.lemmas.List.Sums.{sum_by-set, length-filter, count_by-le-length}
use Rattle.std.proofs.lemmas.Bool.{or_cases, or_left, or_right, and_parts, eqb-true, eq-eqb, ne_eqb, both_ways}
use Rattle.std.proofs.lemmas.Map.Views.{any-filter_same}
use Rattle.std.proofs.lemmas.Option.{same_Some}
use Rattle.std.proofs.lemmas.Iterator.Adapters.{position_from-zero}
use Rattle.kept_replies.specs.declared.index.TheConstants.{MARKS, SHORTS}
use Rattle.kept_replies.specs.Index.{IndexView, passes_if, first_place, second_place, bucket_at, bucket_leads, marked_in, slot_leads, leads_in, leads, counted, taken_in}
use Rattle.kept_replies.proofs.SearchLaws.{any_weaker}

-- ---- what one of two things gives

or_more : (a b x y : Bool) → (a ≡ true → x ≡ true) → (b ≡ true → y ≡ true) → (a || b) ≡ true → (x || y) ≡ true
or_more a b x y f g either =
    elim (or_cases a b either) [
      | inl l ↦ or_left x y (f l)
      | inr r ↦ or_right x y (g r)
    ]

-- ---- a weaker test

passes_weaker : (p q : ℕ → Bool) → ((m : ℕ) → p m ≡ true → q m ≡ true) → (o : Option ℕ) → passes_if p o ≡ true → passes_if q o ≡ true
passes_weaker p q weaker None pass = absurd cc
passes_weaker p q weaker (Some m) pass = weaker m pass

-- marks that lead to one that passes a test lead to one that passes a weaker test
pub leads_weaker : (p q : ℕ → Bool) → ((m : ℕ) → p m ≡ true → q m ≡ true) → (index : IndexView) (t : ℕ) → leads index t p ≡ true → leads index t q ≡ true
leads_weaker p q weaker index t =
    let bs = index.buckets in
    let first = first_place (t % SHORTS) (length bs) in
    let second = second_place (t % SHORTS) (length bs) in
    or_more (bucket_leads bs first t p || bucket_leads bs second t p) (list_any p index.older) (bucket_leads bs first t q || bucket_leads bs second t q) (list_any q index.older)
    (or_more (bucket_leads bs first t p) (bucket_leads bs second t p) (bucket_leads bs first t q) (bucket_leads bs second t q) (bucket first) (bucket second))
    (any_weaker p q weaker index.older)
  where
    bucket : (i : ℕ) → bucket_leads index.buckets i t p ≡ true → bucket_leads index.buckets i t q ≡ true
    bucket i = any_weaker (slot_leads t p) (slot_leads t q) (λ s. passes_weaker p q weaker (marked_in t s)) (bucket_at index.buckets i)

-- ---- slots

-- a slot that leads from a tag has its last bits
pub short_is : (t : ℕ) (p : ℕ → Bool) (slot : ℕ) → slot_leads t p slot ≡ true → slot / MARKS ≡ t % SHORTS
unfolding marked_in
short_is t p slot lead = go (not (eqb slot 0) && eqb (slot / MARKS) (t % SHORTS)) refl lead
  where
    go : (b : Bool) → (not (eqb slot 0) && eqb (slot / MARKS) (t % SHORTS)) ≡ b → passes_if p (then_some b (slot % MARKS)) ≡ true → slot / MARKS ≡ t % SHORTS
    go true e pass = eqb-true (slot / MARKS) (t % SHORTS) (and_parts (not (eqb slot 0)) (eqb (slot / MARKS) (t % SHORTS)) e).1
    go false e pass = absurd cc

-- and its mark passes
pub mark_passes : (t : ℕ) (p : ℕ → Bool) (slot : ℕ) → slot_leads t p slot ≡ true → p (slot % MARKS) ≡ true
unfolding marked_in
mark_passes t p slot lead = go (not (eqb slot 0) && eqb (slot / MARKS) (t % SHORTS)) lead
  where
    go : (b : Bool) → passes_if p (then_some b (slot % MARKS)) ≡ true → p (slot % MARKS) ≡ true
    go true pass = pass
    go false pass = absurd cc

-- an empty slot leads to nothing
pub empty_leads : (t : ℕ) (p : ℕ → Bool) → slot_leads t p 0 ≡ false
unfolding marked_in
empty_leads t p = refl

-- the slot of a mark that fails a test leads from no tag to what passes it
pub slot_fails : (tag t : ℕ) (p : ℕ → Bool) (slot m : ℕ) → marked_in tag slot ≡ Some m → p m ≡ false → slot_leads t p slot ≡ false
unfolding marked_in
slot_fails tag t p slot m is fails = go (not (eqb slot 0) && eqb (slot / MARKS) (t % SHORTS))
  where
    its : (b : Bool) → then_some b (slot % MARKS) ≡ Some m → slot % MARKS ≡ m
    its true e = same_Some (slot % MARKS) m e
    its false e = absurd cc

    go : (b : Bool) → passes_if p (then_some b (slot % MARKS)) ≡ false
    go true = ap p (its (not (eqb slot 0) && eqb (slot / MARKS) (tag % SHORTS)) is) ∙ fails
    go false = refl

-- ---- slots that are replaced

-- what some slots have, another one than the replaced one has
pub any_left : (q : ℕ → Bool) (xs : List ℕ) (i v : ℕ) → q (get_or xs i 0) ≡ false → list_any q xs ≡ true → list_any q (set xs i v) ≡ true
any_left q [] i v fails any = absurd cc
any_left q (x ∷ xs) zero v fails any =
    elim (or_cases (q x) (list_any q xs) any) [
      | inl here ↦ absurd (both_ways (q x) fails here)
      | inr later ↦ or_right (q v) (list_any q xs) later
    ]
any_left q (x ∷ xs) (suc i) v fails any = or_more (q x) (list_any q xs) (q x) (list_any q (set xs i v)) (λ e. e) (any_left q xs i v fails) any

-- and the new one has what it has
pub any_there : (q : ℕ → Bool) (xs : List ℕ) (i v : ℕ) → i < length xs → q v ≡ true → list_any q (set xs i v) ≡ true
any_there q xs i v lt passes = list_any_at q (set xs i v) i v (rw (length-set xs i v) lt) (ap q (get_or-set_same xs i v v lt) ∙ passes)

-- ---- older marks

pub any_pushed : (p : ℕ → Bool) (xs : List ℕ) (m : ℕ) → list_any p xs ≡ true → list_any p (xs ++ m ∷ []) ≡ true
any_pushed p xs m any = list_any-append p xs (m ∷ []) ∙ or_left (list_any p xs) (p m || false) any

pub any_last : (p : ℕ → Bool) (xs : List ℕ) (m : ℕ) → p m ≡ true → list_any p (xs ++ m ∷ []) ≡ true
any_last p xs m passes = list_any-append p xs (m ∷ []) ∙ or_right (list_any p xs) (p m || false) (or_left (p m) false passes)

-- where one is dropped that fails a test, those that pass it are left
pub any_others : (p : ℕ → Bool) (m : ℕ) (older left : List ℕ) → p m ≡ false → left ≡ filter (λ n. not (eqb n m)) older → list_any p older ≡ true → list_any p left ≡ true
any_others p m older left fails is any = rw is (any-filter_same p (λ n. not (eqb n m)) true others older ∙ any)
  where
    others : (n : ℕ) → p n ≡ true → not (eqb n m) ≡ true
    others n passes = ap not (ne_eqb n m (λ e. both_ways (p m) fails (rw (← e) passes)))

-- ---- buckets that change

-- where so many buckets lead
abbrev leads_of : ℕ → List (List ℕ) → List ℕ → ℕ → (ℕ → Bool) → Bool
leads_of n buckets older t p = bucket_leads buckets (first_place (t % SHORTS) n) t p || bucket_leads buckets (second_place (t % SHORTS) n) t p || list_any p older

-- marks lead to what they did where each bucket of as many does, and the older ones do
pub leads_kept : (bs cs : List (List ℕ)) (older left : List ℕ) (t : ℕ) (p : ℕ → Bool) → length cs ≡ length bs
    → ((i : ℕ) → list_any (slot_leads t p) (bucket_at bs i) ≡ true → list_any (slot_leads t p) (bucket_at cs i) ≡ true)
    → (list_any p older ≡ true → list_any p left ≡ true) → leads_in bs older t p ≡ true → leads_in cs left t p ≡ true
leads_kept bs cs older left t p count buckets olders lead =
    let first = first_place (t % SHORTS) (length bs) in
    let second = second_place (t % SHORTS) (length bs) in
    subst (λ (n : ℕ). leads_of n cs left t p ≡ true) (sym count)
    (or_more (bucket_leads bs first t p || bucket_leads bs second t p) (list_any p older) (bucket_leads cs first t p || bucket_leads cs second t p) (list_any p left)
    (or_more (bucket_leads bs first t p) (bucket_leads bs second t p) (bucket_leads cs first t p) (bucket_leads cs second t p) (buckets first) (buckets second))
    olders lead)

-- they lead to what the buckets of a slot lead to, where the slot does
pub leads_first : (bs : List (List ℕ)) (older : List ℕ) (t : ℕ) (p : ℕ → Bool) (slot at : ℕ) → slot_leads t p slot ≡ true → at ≡ first_place (slot / MARKS) (length bs)
    → list_any (slot_leads t p) (bucket_at bs at) ≡ true → leads_in bs older t p ≡ true
leads_first bs older t p slot at lead is any =
    let first = first_place (t % SHORTS) (length bs) in
    let second = second_place (t % SHORTS) (length bs) in
    let same : at ≡ first = is ∙ ap (λ (s : ℕ). first_place s (length bs)) (short_is t p slot lead) in
    or_left (bucket_leads bs first t p || bucket_leads bs second t p) (list_any p older)
    (or_left (bucket_leads bs first t p) (bucket_leads bs second t p) (subst (λ (i : ℕ). bucket_leads bs i t p ≡ true) same any))

pub leads_second : (bs : List (List ℕ)) (older : List ℕ) (t : ℕ) (p : ℕ → Bool) (slot at : ℕ) → slot_leads t p slot ≡ true → at ≡ second_place (slot / MARKS) (length bs)
    → list_any (slot_leads t p) (bucket_at bs at) ≡ true → leads_in bs older t p ≡ true
leads_second bs older t p slot at lead is any =
    let first = first_place (t % SHORTS) (length bs) in
    let second = second_place (t % SHORTS) (length bs) in
    let same : at ≡ second = is ∙ ap (λ (s : ℕ). second_place s (length bs)) (short_is t p slot lead) in
    or_left (bucket_leads bs first t p || bucket_leads bs second t p) (list_any p older)
    (or_right (bucket_leads bs first t p) (bucket_leads bs second t p) (subst (λ (i : ℕ). bucket_leads bs i t p ≡ true) same any))

-- and to what the older ones lead to
pub leads_older : (bs : List (List ℕ)) (older : List ℕ) (t : ℕ) (p : ℕ → Bool) → list_any p older ≡ true → leads_in bs older t p ≡ true
leads_older bs older t p any =
    or_right (bucket_leads bs (first_place (t % SHORTS) (length bs)) t p || bucket_leads bs (second_place (t % SHORTS) (length bs)) t p) (list_any p older) any

-- ---- how many marks

abbrev weight : Bool → ℕ
weight empty = cond empty 0 1

-- a slot has at most one, and one that is not empty has one
pub counted_most : (slot : ℕ) → counted slot ≤ 1
counted_most slot = go (eqb slot 0)
  where
    go : (b : Bool) → cond b 0 1 ≤ 1
    go true = omega arith
    go false = omega arith

pub counted_other : (slot : ℕ) → (slot ≡ 0 → ⊥) → counted slot ≡ 1
counted_other slot other = ap weight (ne_eqb slot 0 other)

-- a slot that was put under a tag has one
pub counted_one : (tag slot m : ℕ) → marked_in tag slot ≡ Some m → counted slot ≡ 1
unfolding marked_in
counted_one tag slot m is = go (eqb slot 0) is
  where
    go : (b : Bool) → then_some (not b && eqb (slot / MARKS) (tag % SHORTS)) (slot % MARKS) ≡ Some m → weight b ≡ 1
    go true e = absurd cc
    go false e = refl

-- where a slot is replaced
pub taken-set : (xs : List ℕ) (i was v : ℕ) → i < length xs → get_or xs i 0 ≡ was → taken_in (set xs i v) + counted was ≡ taken_in xs + counted v
taken-set xs i was v lt is = subst (λ (n : ℕ). taken_in (set xs i v) + counted n ≡ taken_in xs + counted v) is (sum_by-set counted xs i v 0 lt)

-- and where a bucket is
pub sum-set : (bs : List (List ℕ)) (at : ℕ) (old new : List ℕ) (a b : ℕ) → at < length bs → get_or bs at [] ≡ old → taken_in new + a ≡ taken_in old + b
    → sum_by taken_in (set bs at new) + a ≡ sum_by taken_in bs + b
sum-set bs at old new a b lt is its = omega (arith, sum_by-set taken_in bs at new [] lt, ap taken_in is, its)

-- where an older mark is dropped there are fewer
pub fewer_left : (m : ℕ) (xs : List ℕ) → list_any (λ n. eqb n m) xs ≡ true → length (filter (λ n. not (eqb n m)) xs) < length xs
fewer_left m [] any = absurd cc
fewer_left m (x ∷ xs) any = go (eqb x m) any (fewer_left m xs)
  where
    others : List ℕ
    others = filter (λ n. not (eqb n m)) xs

    go : (b : Bool) → (b || list_any (λ n. eqb n m) xs) ≡ true → (list_any (λ n. eqb n m) xs ≡ true → length others < length xs) → length (cond (not b) (x ∷ others) others) < suc (length xs)
    go true any more = omega (arith, length-filter (λ n. not (eqb n m)) xs, count_by-le-length (λ n. not (eqb n m)) xs)
    go false any more = omega (arith, more any)

-- a tag leads to an older mark where its buckets lead to none
pub among_older : (bs : List (List ℕ)) (older : List ℕ) (t : ℕ) (p : ℕ → Bool)
    → (bucket_leads bs (first_place (t % SHORTS) (length bs)) t p ≡ true → ⊥) → (bucket_leads bs (second_place (t % SHORTS) (length bs)) t p ≡ true → ⊥)
    → leads_in bs older t p ≡ true → list_any p older ≡ true
among_older bs older t p no_first no_second lead =
    let first = bucket_leads bs (first_place (t % SHORTS) (length bs)) t p in
    let second = bucket_leads bs (second_place (t % SHORTS) (length bs)) t p in
    elim (or_cases (first || second) (list_any p older) lead) [
      | inl either ↦
          elim (or_cases first second either) [
            | inl l ↦ absurd (no_first l)
            | inr r ↦ absurd (no_second r)
          ]
      | inr any ↦ any
    ]

-- a slot that leads to one mark is made of it and of the last bits of its tag, and no two are
pub slot_is : (t : ℕ) (m slot : ℕ) → slot_leads t (λ n. eqb n m) slot ≡ true → slot ≡ (t % SHORTS * MARKS % 2 ^ 64 + m) % 2 ^ 64
slot_is t m slot lead =
    let short : slot / MARKS ≡ t % SHORTS = short_is t (λ n. eqb n m) slot lead in
    let mark : slot % MARKS ≡ m = eqb-true (slot % MARKS) m (mark_passes t (λ n. eqb n m) slot lead) in
    omega (arith, short, mark)

-- and it is read as this mark
pub read_as : (t : ℕ) (m slot : ℕ) → slot_leads t (λ n. eqb n m) slot ≡ true → marked_in t slot ≡ Some m
read_as t m slot lead = go (marked_in t slot) lead
  where
    go : (o : Option ℕ) → passes_if (λ n. eqb n m) o ≡ true → o ≡ Some m
    go None pass = absurd cc
    go (Some n) pass = ap (λ (k : ℕ). Some k) (eqb-true n m pass)

-- what has no first place is nowhere
none_from : (p : ℕ → Bool) (i : ℕ) (xs : List ℕ) → position_from p i xs ≡ None → list_any p xs ≡ false
none_from p i [] none = refl
none_from p i (x ∷ xs) none = go (p x) (none_from p (i + 1) xs) none
  where
    go : (b : Bool) → (position_from p (i + 1) xs ≡ None → list_any p xs ≡ false) → cond b (Some i) (position_from p (i + 1) xs) ≡ None → (b || list_any p xs) ≡ false
    go true more e = absurd cc
    go false more e = more e

pub any_none : (p : ℕ → Bool) (xs : List ℕ) → position p xs ≡ None → list_any p xs ≡ false
any_none p xs none = none_from p 0 xs (sym (position_from-zero p xs) ∙ none)

-- ---- a mark that is dropped

-- where no slot was emptied there are as many as before, and else one less
pub sum_same : (now was n : ℕ) (dropped : Bool) → now + cond dropped n 0 ≡ was → dropped ≡ false → now ≡ was
sum_same now was n true sums same = absurd cc
sum_same now was n false sums same = omega (arith, sums)

pub sum_less : (now was n : ℕ) (dropped : Bool) → now + cond dropped n 0 ≡ was → dropped ≡ true → n ≡ 1 → now < was
sum_less now was n true sums same one = omega (arith, sums, one)
sum_less now was n false sums same one = absurd cc

-- slots without the only slot of a mark don't lead to it from its tag, and none do where it has no slot
not_there : (xs : List ℕ) (tag mark slot : ℕ) → ((s : ℕ) → slot_leads tag (λ n. eqb n mark) s ≡ true → Some slot ≡ Some s) → list_any (λ s. eqb s slot) xs ≡ false
    → list_any (slot_leads tag (λ n. eqb n mark)) xs ≡ true → ⊥
not_there xs tag mark slot only none any =
    both_ways (list_any (λ s. eqb s slot) xs) none (any_weaker (slot_leads tag (λ n. eqb n mark)) (λ s. eqb s slot) (λ s lead. eq-eqb s slot (sym (same_Some slot s (only s lead)))) xs any)

none_there : (xs : List ℕ) (tag mark : ℕ) → ((s : ℕ) → slot_leads tag (λ n. eqb n mark) s ≡ true → ◌≡◌ {A = Option ℕ} None (Some s)) → list_any (slot_leads tag (λ n. eqb n mark)) xs ≡ true → ⊥
none_there xs tag mark only any =
    let one = Any-from_list_any (slot_leads tag (λ n. eqb n mark)) xs any in
    go one.1 (only one.1 one.4)
  where
    go : (s : ℕ) → ◌≡◌ {A = Option ℕ} None (Some s) → ⊥
    go s e = absurd cc

-- so that an older mark is it, where the tag leads to it
pub older_one : (bs : List (List ℕ)) (older : List ℕ) (tag mark slot : ℕ) → marked_in tag slot ≡ Some mark → ((s : ℕ) → slot_leads tag (λ n. eqb n mark) s ≡ true → Some slot ≡ Some s)
    → list_any (λ s. eqb s slot) (bucket_at bs (first_place (slot / MARKS) (length bs))) ≡ false → list_any (λ s. eqb s slot) (bucket_at bs (second_place (slot / MARKS) (length bs))) ≡ false
    → leads_in bs older tag (λ n. eqb n mark) ≡ true → list_any (λ n. eqb n mark) older ≡ true
older_one bs older tag mark slot read only no_first no_second =
    let p : ℕ → Bool = λ n. eqb n mark in
    let short : slot / MARKS ≡ tag % SHORTS = short_is tag p slot (ap (passes_if p) read ∙ eq-eqb mark mark refl) in
    among_older bs older tag p
    (not_there (bucket_at bs (first_place (tag % SHORTS) (length bs))) tag mark slot only (subst (λ (n : ℕ). list_any (λ s. eqb s slot) (bucket_at bs (first_place n (length bs))) ≡ false) short no_first))
    (not_there (bucket_at bs (second_place (tag % SHORTS) (length bs))) tag mark slot only (subst (λ (n : ℕ). list_any (λ s. eqb s slot) (bucket_at bs (second_place n (length bs))) ≡ false) short no_second))

pub older_alone : (bs : List (List ℕ)) (older : List ℕ) (tag mark : ℕ) → ((s : ℕ) → slot_leads tag (λ n. eqb n mark) s ≡ true → ◌≡◌ {A = Option ℕ} None (Some s))
    → leads_in bs older tag (λ n. eqb n mark) ≡ true → list_any (λ n. eqb n mark) older ≡ true
older_alone bs older tag mark only =
    among_older bs older tag (λ n. eqb n mark) (none_there (bucket_at bs (first_place (tag % SHORTS) (length bs))) tag mark only) (none_there (bucket_at bs (second_place (tag % SHORTS) (length bs))) tag mark only)

-- the slot that is answered where it is read as the mark
pub then_slot : (slot s : ℕ) (is : Bool) (answer : Option ℕ) → answer ≡ then_some is slot → is ≡ true → slot ≡ s → answer ≡ Some s
then_slot slot s is answer its same slots = its ∙ (λ i. then_some (same i) (slots i))
