-- A reply that is put among others by its number.
use Rattle.std.proofs.Common.{◌≡◌, subst, ℕ, zero, suc, ◌+◌, ◌<◌, ◌≤◌, ◌^◌, Bool, true, false, cond, not, ◌&&◌, ◌||◌, ltb, leb, eqb, ◌-◌, Option, Some, None, IfSome, IsSome, MatchOption, List, [], ◌∷◌, ◌++◌, length, get_or, drop, filter, All, inl, inr, refl, sym, ap, ap₂, ◌∙◌, arith}
use Rattle.std.specs.Borrow.{Bor}
use Rattle.std.specs.List.{AllByRecursion, insert}
use Rattle.std.specs.List.Sorted.{IsPartitionPoint}
use Rattle.std.proofs.lemmas.List.{take_all, drop_all}
use Rattle.std.proofs.lemmas.List.Elements.{recursion_from_All, All-append, All-cons, All-filter, All-weaker, All-from_recursion}
use Rattle.std.proofs.lemmas.List.Folds.{list_any_at}
use Rattle.std.proofs.lemmas.Bool.{leb-true, ltb-true, lt-ltb, le-ltb, eqb-true, eqb-false, or_parts, or_left, or_right, and_from, eq-eqb, cases_lt, both_ways, false_from_ne_true}
use Rattle.mc_requests.specs.Requests.{Asked}
use Rattle.kept_replies.specs.Requests.{is_same_request}
use Rattle.kept_replies.specs.Kept.{KeptReply, AreRising, IsBelowAll, has_request, has_number, inserted, kept_with}
use Rattle.kept_replies.specs.declared.parts.TheConstants.{MOST_BESIDE}
use Rattle.kept_replies.specs.Index.{IndexView, request_tag, leads, is_mark_of}
use Rattle.kept_replies.specs.Store.{AreInOrder, IsPlaceOf, HaveOneNumber, AreToOwnRequests, has_mark, room_in, room_for}
use Rattle.kept_replies.proofs.SearchLaws.{front_is, rest_is}
use Rattle.kept_replies.proofs.ReplyLaws.{number, AreRising-filter, request_is, request_is_own}

-- the tests of the numbers below a number, and above it
abbrev below : ℕ → KeptReply → Bool
below n r = ltb (number r) n

abbrev above : ℕ → KeptReply → Bool
above n r = ltb n (number r)

-- ---- the numbers still rise

all_weaker : (P Q : KeptReply → Type 0) → ((r : KeptReply) → P r → Q r) → (rs : List KeptReply) → AllByRecursion P rs → AllByRecursion Q rs
all_weaker P Q f [] all = tt
all_weaker P Q f (r ∷ rs) all = (f r all.0, all_weaker P Q f rs all.1)

all-filter : (p : KeptReply → Bool) (Q : KeptReply → Type 0) → ((r : KeptReply) → p r ≡ true → Q r) → (rs : List KeptReply) → AllByRecursion Q (filter p rs)
all-filter p Q f [] = tt
all-filter p Q f (r ∷ rs) = go (p r) (f r) (all-filter p Q f rs)
  where
    go : (b : Bool) → (b ≡ true → Q r) → AllByRecursion Q (filter p rs) → AllByRecursion Q (cond b (r ∷ filter p rs) (filter p rs))
    go true here more = (here refl, more)
    go false here more = more

all-append : (P : KeptReply → Type 0) (xs ys : List KeptReply) → AllByRecursion P xs → AllByRecursion P ys → AllByRecursion P (xs ++ ys)
all-append P [] ys a b = b
all-append P (x ∷ xs) ys a b = (a.0, all-append P xs ys a.1 b)

-- replies below a new one, it, and replies above it
rising_around : (new : KeptReply) (xs ys : List KeptReply) → AreRising xs → AreRising ys
    → AllByRecursion (λ x. number x < number new) xs → IsBelowAll new ys → AreRising (xs ++ new ∷ ys)
rising_around new [] ys a b low high = (high, b)
rising_around new (x ∷ xs) ys a b low high =
    let more = all_weaker (λ o. number new < number o) (λ o. number x < number o) (λ o lt. omega (arith, lt, low.0)) ys high in
    (all-append (λ o. number x < number o) xs (new ∷ ys) a.0 (low.0, more), rising_around new xs ys a.1 b low.1 high)

pub AreRising-inserted : (new : KeptReply) (rs : List KeptReply) → AreRising rs → AreRising (inserted new rs)
AreRising-inserted new rs all =
    let n = number new in
    rising_around new (filter (below n) rs) (filter (above n) rs) (AreRising-filter (below n) rs all) (AreRising-filter (above n) rs all)
    (all-filter (below n) (λ x. number x < n) (λ x e. ltb-true (number x) n e) rs)
    (all-filter (above n) (λ y. n < number y) (λ y e. ltb-true n (number y) e) rs)

-- ---- where it is put

-- where a number is not kept, the replies not below it are those above it
not_below : (n : ℕ) (rs : List KeptReply) → has_number rs n ≡ false → filter (λ r. not (below n r)) rs ≡ filter (above n) rs
not_below n [] new = refl
not_below n (r ∷ rs) new =
    let other = or_parts (eqb (number r) n) (has_number rs n) new in
    let more = not_below n rs other.1 in
    elim (cases_lt (number r) n) [
      | inl lt ↦ rw (lt-ltb (number r) n lt, le-ltb n (number r) (omega (arith, lt))) more
      | inr le ↦
          let lt : n < number r = omega (arith, le, eqb-false (number r) n other.0) in
          rw (le-ltb (number r) n le, lt-ltb n (number r) lt) (ap (λ (t : List KeptReply). r ∷ t) more)
    ]

-- put at the first reply whose number is not below its own, a new number stands in its place
pub insert_is : (new : KeptReply) (rs : List KeptReply) (at : ℕ) → IsPartitionPoint (λ r. below (number new) r ≡ true) (λ r. below (number new) r ≡ false) rs at
    → has_number rs (number new) ≡ false → insert rs at new ≡ inserted new rs
insert_is new rs at point fresh =
    ap (λ (t : List KeptReply). t ++ new ∷ drop at rs) (front_is (below (number new)) rs at point)
    ∙ ap (λ (t : List KeptReply). filter (below (number new)) rs ++ new ∷ t) (rest_is (below (number new)) rs at point ∙ not_below (number new) rs fresh)

-- what has fewer bytes than there is room has no more than the buffer may hold, with what an entry may need beside
pub within_room : (replies places bytes size : ℕ) (has_place : Bool) → size < room_in replies places has_place bytes → MOST_BESIDE + size ≤ bytes
within_room replies places bytes size has_place lt = go (ltb replies places && has_place) lt
  where
    go : (b : Bool) → size < cond b (bytes + 1 - MOST_BESIDE) 0 → MOST_BESIDE + size ≤ bytes
    go true less = omega (arith, less)
    go false less = absurd (omega (arith, less))

-- where replies are kept the room is that of what is stored, and a new one is kept
pub room_kept : (keep room size : ℕ) → (keep ≡ 0 → ⊥) → size < room_for keep room → size < room
room_kept keep room size keeps lt = go (eqb keep 0) (λ is. keeps (eqb-true keep 0 is)) lt
  where
    go : (b : Bool) → (b ≡ true → ⊥) → size < cond b (2 ^ 16) room → size < room
    go true never less = absurd (never refl)
    go false never less = less

pub with_kept : (keep : ℕ) (new : KeptReply) (rs : List KeptReply) → (keep ≡ 0 → ⊥) → kept_with keep new rs ≡ inserted new rs
with_kept keep new rs keeps = go (eqb keep 0) (λ is. keeps (eqb-true keep 0 is))
  where
    go : (b : Bool) → (b ≡ true → ⊥) → cond b rs (inserted new rs) ≡ inserted new rs
    go true never = absurd (never refl)
    go false never = refl

-- ---- what holds of the replies with the new one among them

all-inserted : (P : KeptReply → Type 0) (new : KeptReply) (rs : List KeptReply) → P new → All P rs → All P (inserted new rs)
all-inserted P new rs first all =
    All-append P (filter (below (number new)) rs) (new ∷ filter (above (number new)) rs) (All-filter (below (number new)) P rs all)
    (All-cons P new (filter (above (number new)) rs) first (All-filter (above (number new)) P rs all))

-- none of the replies is to the request
not_asked : (q : Asked) (rs : List KeptReply) → has_request rs q ≡ false → All (λ r. is_same_request r.asked q ≡ false) rs
not_asked q rs new k d lt = false_from_ne_true (is_same_request (get_or rs k d).asked q) (λ same. both_ways (has_request rs q) new (list_any_at (λ r. is_same_request r.asked q) rs k d lt same))

-- each is still to a request of its own, where the new one is to a new request
pub own-inserted : (new : KeptReply) (rs : List KeptReply) → has_request rs new.asked ≡ false → AreToOwnRequests rs → AreToOwnRequests (inserted new rs)
own-inserted new rs fresh own =
    all-inserted (λ r. All (HaveOneNumber r) (inserted new rs)) new rs
    (all-inserted (HaveOneNumber new) new rs (λ same. refl) (All-weaker other (HaveOneNumber new) from_new rs new_request))
    (λ k d lt. all-inserted (HaveOneNumber (get_or rs k d)) new rs (to_new (get_or rs k d) (new_request k d lt)) (own k d lt))
  where
    other : KeptReply → Type 0
    other r = is_same_request r.asked new.asked ≡ false

    new_request : All other rs
    new_request = not_asked new.asked rs fresh

    from_new : (r : KeptReply) → other r → HaveOneNumber new r
    from_new r other_one same = absurd (both_ways (is_same_request r.asked new.asked) other_one (rw (request_is new.asked r.asked same) (request_is_own r.asked)))

    to_new : (r : KeptReply) → other r → HaveOneNumber r new
    to_new r other_one same = absurd (both_ways (is_same_request r.asked new.asked) other_one same)

-- each still has its mark, and the new one has its own, where it was put under the tag of its request
pub marked-inserted : (new : KeptReply) (rs : List KeptReply) (tag : ℕ) (mark : ℕ) (old index : IndexView) → tag ≡ request_tag new.asked → is_mark_of new mark ≡ true
    → ((t : ℕ) (p : ℕ → Bool) → (leads old t p || (eqb tag t && p mark)) ≡ true → leads index t p ≡ true)
    → All (λ r. has_mark old r ≡ true) rs → All (λ r. has_mark index r ≡ true) (inserted new rs)
marked-inserted new rs tag mark old index its_tag its_mark put marked =
    all-inserted (λ r. has_mark index r ≡ true) new rs
    (put (request_tag new.asked) (is_mark_of new) (or_right (has_mark old new) (under new) (and_from (eqb tag (request_tag new.asked)) (is_mark_of new mark) (eq-eqb tag (request_tag new.asked) its_tag) its_mark)))
    (All-weaker (λ r. has_mark old r ≡ true) (λ r. has_mark index r ≡ true) (λ r has. put (request_tag r.asked) (is_mark_of r) (or_left (has_mark old r) (under r) has)) rs marked)
  where
    under : KeptReply → Bool
    under r = eqb tag (request_tag r.asked) && is_mark_of r mark

-- ---- the moments

-- put at the end, where no moment is later, a reply leaves moments in order
order_pushed : (new : KeptReply) (rs : List KeptReply) → AreInOrder rs → AllByRecursion (λ r. r.entry.moment ≤ new.entry.moment) rs → AreInOrder (rs ++ new ∷ [])
order_pushed new [] all low = (tt, tt)
order_pushed new (r ∷ rs) all low = (all-append (λ o. r.entry.moment ≤ o.entry.moment) rs (new ∷ []) all.0 (low.0, tt), order_pushed new rs all.1 low.1)

-- the moment of the last reply is above none
pub last_is_latest : (rs : List KeptReply) (i : ℕ) (d : KeptReply) (m : ℕ) → AreInOrder rs → i + 1 ≡ length rs → (get_or rs i d).entry.moment ≤ m → AllByRecursion (λ r. r.entry.moment ≤ m) rs
last_is_latest [] i d m all last low = tt
last_is_latest (r ∷ []) i d m all last low = (ap_low (omega (arith, last)), tt)
  where
    ap_low : i ≡ 0 → r.entry.moment ≤ m
    ap_low first = subst (λ (n : ℕ). (get_or (r ∷ []) n d).entry.moment ≤ m) first low
last_is_latest (r ∷ s ∷ rs) zero d m all last low = absurd (omega (arith, last))
last_is_latest (r ∷ s ∷ rs) (suc i) d m all last low =
    let more = last_is_latest (s ∷ rs) i d m all.1 (omega (arith, last)) low in
    let le : s.entry.moment ≤ m = more.0 in
    (omega (arith, all.0.0, le), more)

-- what is read of the last reply, where there is one, is judged of all
pub judged_by_last : (rs : List KeptReply) (len m : ℕ) (o : Option (Bor KeptReply)) (b : Bool) → len ≡ length rs → AreInOrder rs → (0 < len → IsSome o) → IfSome o (λ r. r.now ≡ get_or rs (len - 1) r.now)
    → MatchOption o (b ≡ true) (λ r. b ≡ leb r.now.entry.moment m) → b ≡ true → All (λ r. r.entry.moment ≤ m) rs
judged_by_last [] len m o b all order some last said passed = λ k d lt. absurd (omega (arith, lt))
judged_by_last (r ∷ rs) len m None b all order some last said passed = absurd (none (some (omega (arith, all))))
  where
    none : false ≡ true → ⊥
    none e = absurd cc
judged_by_last (r ∷ rs) len m (Some x) b all order some last said passed =
    let le : x.now.entry.moment ≤ m = leb-true x.now.entry.moment m (sym said ∙ passed) in
    let at_last : (get_or (r ∷ rs) (len - 1) x.now).entry.moment ≤ m = subst (λ (y : KeptReply). y.entry.moment ≤ m) last le in
    All-from_recursion (λ y. y.entry.moment ≤ m) (r ∷ rs) (last_is_latest (r ∷ rs) (len - 1) x.now m order (omega (arith, all)) at_last)

pub order-inserted : (new : KeptReply) (rs : List KeptReply) (at : ℕ) → insert rs at new ≡ inserted new rs → AreInOrder rs → at ≡ length rs
    → All (λ r. r.entry.moment ≤ new.entry.moment) rs → AreInOrder (inserted new rs)
order-inserted new rs at put all last low =
    subst AreInOrder (ap₂ (λ xs ys. xs ++ new ∷ ys) (sym (take_all at rs (omega (arith, last)))) (sym (drop_all at rs (omega (arith, last)))) ∙ put)
    (order_pushed new rs all (recursion_from_All (λ r. r.entry.moment ≤ new.entry.moment) rs low))

-- ---- a number above all

-- the number of the last reply is below none
last_is_greatest : (rs : List KeptReply) (i : ℕ) (d : KeptReply) (n : ℕ) → AreRising rs → i + 1 ≡ length rs → number (get_or rs i d) < n → AllByRecursion (λ r. number r < n) rs
last_is_greatest [] i d n all last low = tt
last_is_greatest (r ∷ []) i d n all last low = (at_first (omega (arith, last)), tt)
  where
    at_first : i ≡ 0 → number r < n
    at_first first = subst (λ (k : ℕ). number (get_or (r ∷ []) k d) < n) first low
last_is_greatest (r ∷ s ∷ rs) zero d n all last low = absurd (omega (arith, last))
last_is_greatest (r ∷ s ∷ rs) (suc i) d n all last low =
    let more = last_is_greatest (s ∷ rs) i d n all.1 (omega (arith, last)) low in
    let lt : number s < n = more.0 in
    (omega (arith, all.0.0, lt), more)

-- behind all goes what is above the last one that is read, where there is one
pub placed_by_last : (rs : List KeptReply) (len n : ℕ) (o : Option (Bor KeptReply)) (b : Bool) → len ≡ length rs → AreRising rs → (0 < len → IsSome o) → IfSome o (λ r. r.now ≡ get_or rs (len - 1) r.now)
    → MatchOption o (b ≡ true) (λ r. b ≡ ltb (number r.now) n) → b ≡ true → IsPlaceOf n rs len
placed_by_last rs len n o b all rising some last said passed = (
  λ k d lo hi. lt-ltb (number (get_or rs k d)) n (each rs o all rising some last said k d (omega (arith, hi, all))),
  λ k d lo hi. absurd (omega (arith, lo, hi, all)),
)
  where
    none : false ≡ true → ⊥
    none e = absurd cc

    each : (rs : List KeptReply) (o : Option (Bor KeptReply)) → len ≡ length rs → AreRising rs → (0 < len → IsSome o) → IfSome o (λ r. r.now ≡ get_or rs (len - 1) r.now)
        → MatchOption o (b ≡ true) (λ r. b ≡ ltb (number r.now) n) → All (λ r. number r < n) rs
    each [] o all rising some last said = λ k d lt. absurd (omega (arith, lt))
    each (r ∷ rs) None all rising some last said = absurd (none (some (omega (arith, all))))
    each (r ∷ rs) (Some x) all rising some last said =
        let lt : number x.now < n = ltb-true (number x.now) n (sym said ∙ passed) in
        let at_last : number (get_or (r ∷ rs) (len - 1) x.now) < n = subst (λ (y : KeptReply). number y < n) last lt in
        All-from_recursion (λ y. number y < n) (r ∷ rs) (last_is_greatest (r ∷ rs) (len - 1) x.now n rising (omega (arith, all)) at_last)

all_below : (n : ℕ) (rs : List KeptReply) → AllByRecursion (λ r. number r < n) rs → filter (below n) rs ≡ rs
all_below n [] all = refl
all_below n (r ∷ rs) all = rw (lt-ltb (number r) n all.0) (ap (λ (t : List KeptReply). r ∷ t) (all_below n rs all.1))

none_above : (n : ℕ) (rs : List KeptReply) → AllByRecursion (λ r. number r < n) rs → filter (above n) rs ≡ []
none_above n [] all = refl
none_above n (r ∷ rs) all = let lt : number r < n = all.0 in rw (le-ltb n (number r) (omega (arith, lt))) (none_above n rs all.1)

-- a reply whose number is above all others goes to the end
pub inserted_last : (new : KeptReply) (rs : List KeptReply) → All (λ r. r.entry.number < new.entry.number) rs → inserted new rs ≡ rs ++ new ∷ []
inserted_last new rs all =
    let by_recursion = recursion_from_All (λ r. number r < number new) rs all in
    ap (λ (t : List KeptReply). t ++ new ∷ filter (above (number new)) rs) (all_below (number new) rs by_recursion)
    ∙ ap (λ (t : List KeptReply). rs ++ new ∷ t) (none_above (number new) rs by_recursion)
