-- The reply that a request finds, by the marks.
use Rattle.std.proofs.Common.{◌≡◌, ℕ, zero, suc, ◌+◌, ◌<◌, ◌≤◌, Bool, true, false, cond, ◌&&◌, ltb, eqb, List, [], ◌∷◌, length, get_or, find, All, IsTrue, IsNone, IfSome, option_map, slice_get, Option, Some, None, MatchOption, inl, inr, refl, sym, subst, ap, ◌∙◌, arith}
use Rattle.std.specs.Bool.{then_some}
use Rattle.std.specs.Borrow.{Bor}
use Rattle.std.specs.List.Sorted.{IsPartitionPoint}
use Rattle.std.proofs.lemmas.List.Elements.{All-head, All-tail, All-weaker, All-from_recursion}
use Rattle.std.proofs.lemmas.Bool.{both_ways, false_from_ne_true, and_parts, and_cases, ltb-true, ltb-false, eqb-true, eqb-false, eq-eqb, ne_eqb}
use Rattle.std.proofs.lemmas.Option.{same_Some, MatchOption-at_some, MatchOption-at_none, slice_get_past, slice_get_read}
use Rattle.mc_requests.specs.Requests.{Asked}
use Rattle.kept_replies.specs.Requests.{is_same_request}
use Rattle.kept_replies.specs.Kept.{KeptReply, KeptView, AreRising, NoneInTime, is_in_time, with_number}
use Rattle.kept_replies.specs.Index.{IndexView, request_tag, leads, is_mark_of}
use Rattle.kept_replies.specs.Store.{HaveOneNumber, AreToOwnRequests, has_mark, is_repeat, is_found}
use Rattle.kept_replies.proofs.SearchLaws.{find_passes, find_from_all, find_none, none_passes}
use Rattle.kept_replies.proofs.IndexLaws.{leads_weaker}
use Rattle.kept_replies.proofs.ReplyLaws.{number, request_is, request_is_own}

-- ---- by its number

-- a reply is found by its number, among replies of rising numbers
pub by_own_number : (rs : List KeptReply) → AreRising rs → (k : ℕ) (d : KeptReply) → k < length rs → with_number rs (number (get_or rs k d)) ≡ Some (get_or rs k d)
by_own_number [] all k d lt = absurd (omega (arith, lt))
by_own_number (r ∷ rs) all zero d lt = rw (eq-eqb (number r) (number r) refl) refl
by_own_number (r ∷ rs) all (suc k) d lt =
    let below = All-from_recursion (λ o. number r < number o) rs all.0 k d (omega (arith, lt)) in
    rw (ne_eqb (number r) (number (get_or rs k d)) (λ e. omega (arith, below, e))) (by_own_number rs all.1 k d (omega (arith, lt)))

-- what passes a test is found by its number, where what passes has that number
pub found_by_number : (p : KeptReply → Bool) (n : ℕ) (rs : List KeptReply) (r : KeptReply) → with_number rs n ≡ Some r → p r ≡ true
    → All (λ o. p o ≡ true → number o ≡ n) rs → find p rs ≡ Some r
found_by_number p n [] r is passes all = absurd cc
found_by_number p n (x ∷ xs) r is passes all =
    go (eqb (number x) n) refl is (λ later. found_by_number p n xs r later passes (All-tail (λ o. p o ≡ true → number o ≡ n) x xs all))
  where
    go : (b : Bool) → eqb (number x) n ≡ b → cond b (Some x) (with_number xs n) ≡ Some r → (with_number xs n ≡ Some r → find p xs ≡ Some r)
        → cond (p x) (Some x) (find p xs) ≡ Some r
    go true here e more = let same = same_Some x r e in rw (ap p same ∙ passes) e
    go false here e more =
        let fails : p x ≡ false = false_from_ne_true (p x) (λ yes. both_ways (eqb (number x) n) here (eq-eqb (number x) n (All-head (λ o. p o ≡ true → number o ≡ n) x xs all yes))) in
        rw fails (more e)

-- the reply at the partition point of a number, where it has that number, is the one of that number
pub at_point : (n at : ℕ) (rs : List KeptReply) → AreRising rs → IsPartitionPoint (λ r. ltb (number r) n ≡ true) (λ r. ltb (number r) n ≡ false) rs at
    → MatchOption (slice_get rs at) (with_number rs n ≡ None) (λ r. with_number rs n ≡ then_some (eqb (number r) n) r)
at_point n zero [] rising point = refl
at_point n (suc at) [] rising point = refl
at_point n zero (r ∷ rs) rising point = go (eqb (number r) n) refl
  where
    none_later : eqb (number r) n ≡ false → with_number rs n ≡ None
    none_later other =
        let le = ltb-false (number r) n (point.1 zero r (omega arith) (omega arith)) in
        let low : n < number r = omega (arith, le, eqb-false (number r) n other) in
        find_none (λ o. eqb (number o) n) rs
        (λ k d h. let above = All-from_recursion (λ o. number r < number o) rs rising.0 k d h in ne_eqb (number (get_or rs k d)) n (λ e. omega (arith, low, above, e)))

    go : (b : Bool) → eqb (number r) n ≡ b → cond b (Some r) (with_number rs n) ≡ then_some b r
    go true here = refl
    go false here = none_later here
at_point n (suc at) (r ∷ rs) rising point =
    let more = at_point n at rs rising.1 (λ k d lo hi. point.0 (suc k) d (omega arith) (omega (arith, hi)), λ k d lo hi. point.1 (suc k) d (omega (arith, lo)) (omega (arith, hi))) in
    let below = ltb-true (number r) n (point.0 zero r (omega arith) (omega arith)) in
    rw (ne_eqb (number r) n (λ e. omega (arith, below, e))) more

-- the same by what is read there: a place past the end, or a reply
pub past_point : (n at : ℕ) (rs : List KeptReply) → AreRising rs → IsPartitionPoint (λ r. ltb (number r) n ≡ true) (λ r. ltb (number r) n ≡ false) rs at
    → length rs ≤ at → with_number rs n ≡ None
past_point n at rs rising point past =
    MatchOption-at_none (with_number rs n ≡ None) (λ r. with_number rs n ≡ then_some (eqb (number r) n) r) (slice_get_past rs at past) (at_point n at rs rising point)

pub read_point : (n at : ℕ) (rs : List KeptReply) → AreRising rs → IsPartitionPoint (λ r. ltb (number r) n ≡ true) (λ r. ltb (number r) n ≡ false) rs at
    → (r : Bor KeptReply) → at < length rs → r.now ≡ get_or rs at r.now → option_map (λ (p : ℕ × Bor KeptReply). p.1.now) (then_some (eqb (number r.now) n) (at, r)) ≡ with_number rs n
read_point n at rs rising point r within read =
    seen (eqb (number r.now) n)
    ∙ sym (MatchOption-at_some (with_number rs n ≡ None) (λ x. with_number rs n ≡ then_some (eqb (number x) n) x) r.now (slice_get_read rs (length rs) at r.now refl within read) (at_point n at rs rising point))
  where
    seen : (b : Bool) → option_map (λ (p : ℕ × Bor KeptReply). p.1.now) (then_some b (at, r)) ≡ then_some b r.now
    seen true = refl
    seen false = refl

-- ---- by its mark

-- whether a reply is to this request, and in time
abbrev pub asks : KeptView → ℕ → Asked → KeptReply → Bool
asks kept now q r = is_same_request r.asked q && is_in_time kept.keep now r

-- the marks lead from the request's tag to a reply that is asked for
mark_leads : (kept : KeptView) (index : IndexView) (now : ℕ) (q : Asked) (r : KeptReply) → with_number kept.replies (number r) ≡ Some r → has_mark index r ≡ true
    → asks kept now q r ≡ true → leads index (request_tag q) (is_repeat kept now q) ≡ true
mark_leads kept index now q r own has asked =
    leads_weaker (is_mark_of r) (is_repeat kept now q) it index (request_tag q) (ap (λ (a : Asked). leads index (request_tag a) (is_mark_of r)) (sym same) ∙ has)
  where
    same : r.asked ≡ q
    same = request_is r.asked q (and_parts (is_same_request r.asked q) (is_in_time kept.keep now r) asked).0

    it : (m : ℕ) → is_mark_of r m ≡ true → is_repeat kept now q m ≡ true
    it m of = ap (λ (n : ℕ). is_found kept.keep now q (with_number kept.replies n)) (eqb-true m (number r) of) ∙ ap (is_found kept.keep now q) own ∙ asked

-- a reply that is asked for and has this number is the one that is found
found_there : (kept : KeptView) (now : ℕ) (q : Asked) (n : ℕ) → AreToOwnRequests kept.replies → is_repeat kept now q n ≡ true
    → find (asks kept now q) kept.replies ≡ with_number kept.replies n
found_there kept now q n own repeat = go (with_number kept.replies n) refl repeat
  where
    to_it : (r : KeptReply) → asks kept now q r ≡ true → r.asked ≡ q
    to_it r asked = request_is r.asked q (and_parts (is_same_request r.asked q) (is_in_time kept.keep now r) asked).0

    one : (r : KeptReply) → with_number kept.replies n ≡ Some r → asks kept now q r ≡ true → All (λ o. asks kept now q o ≡ true → number o ≡ n) kept.replies
    one r there asked k d lt asked_too =
        let o = get_or kept.replies k d in
        let same = find_from_all (HaveOneNumber o) (λ x. eqb (number x) n) kept.replies r (own k d lt) there (rw (to_it o asked_too, to_it r asked) (request_is_own q)) in
        same ∙ eqb-true (number r) n (find_passes (λ x. eqb (number x) n) kept.replies r there)

    go : (o : Option KeptReply) → with_number kept.replies n ≡ o → is_found kept.keep now q o ≡ true → find (asks kept now q) kept.replies ≡ o
    go None there passes = absurd cc
    go (Some r) there passes = found_by_number (asks kept now q) n kept.replies r there passes (one r there passes)

-- where the marks lead from the request's tag to no repeat, none is found
none_led : (kept : KeptView) (index : IndexView) (now : ℕ) (q : Asked) → AreRising kept.replies → All (λ r. has_mark index r ≡ true) kept.replies
    → leads index (request_tag q) (is_repeat kept now q) ≡ false → find (asks kept now q) kept.replies ≡ None
none_led kept index now q rising marked none =
    find_none (asks kept now q) kept.replies (λ k d lt. false_from_ne_true (asks kept now q (get_or kept.replies k d)) (λ asked.
    let lead = mark_leads kept index now q (get_or kept.replies k d) (by_own_number kept.replies rising k d lt) (marked k d lt) asked in
    both_ways (leads index (request_tag q) (is_repeat kept now q)) none lead))

-- ---- where none is found

-- none is found where of each reply to the request the keeping time is over, and nowhere else
none_in_time : (kept : KeptView) (now : ℕ) (q : Asked) → find (asks kept now q) kept.replies ≡ None → NoneInTime kept now q
none_in_time kept now q none =
    All-weaker (λ r. asks kept now q r ≡ false) (λ r. IsTrue (is_same_request r.asked q) → r.entry.moment + kept.keep ≤ now) over kept.replies (none_passes (asks kept now q) kept.replies none)
  where
    over : (r : KeptReply) → asks kept now q r ≡ false → is_same_request r.asked q ≡ true → r.entry.moment + kept.keep ≤ now
    over r fails same =
        elim (and_cases (is_same_request r.asked q) (is_in_time kept.keep now r) fails) [
          | inl other ↦ absurd (both_ways (is_same_request r.asked q) other same)
          | inr late ↦ ltb-false now (r.entry.moment + kept.keep) late
        ]

some_in_time : (kept : KeptView) (now : ℕ) (q : Asked) (r : KeptReply) → find (asks kept now q) kept.replies ≡ Some r → NoneInTime kept now q → ⊥
some_in_time kept now q r there none =
    let parts = and_parts (is_same_request r.asked q) (is_in_time kept.keep now r) (find_passes (asks kept now q) kept.replies r there) in
    let over : r.entry.moment + kept.keep ≤ now = find_from_all (λ x. IsTrue (is_same_request x.asked q) → x.entry.moment + kept.keep ≤ now) (asks kept now q) kept.replies r none there parts.0 in
    let before = ltb-true now (r.entry.moment + kept.keep) parts.1 in
    omega (arith, over, before)

-- ---- the number that is found

-- the number of a reply that may be there
abbrev pub number_if : Option KeptReply → Option ℕ
number_if o = option_map (λ e. e.number) (option_map (λ r. r.entry) o)

-- the number of a repeat is that of its reply
numbered : (kept : KeptView) (now : ℕ) (q : Asked) (n : ℕ) → is_repeat kept now q n ≡ true → number_if (with_number kept.replies n) ≡ Some n
numbered kept now q n repeat = go (with_number kept.replies n) refl repeat
  where
    some : ℕ → Option ℕ
    some m = Some m

    go : (o : Option KeptReply) → with_number kept.replies n ≡ o → is_found kept.keep now q o ≡ true → number_if o ≡ Some n
    go None there passes = absurd cc
    go (Some r) there passes = ap some (eqb-true (number r) n (find_passes (λ x. eqb (number x) n) kept.replies r there))

-- a mark that leads to a repeat is the number of the reply that is asked for, and where the marks lead to none, none is found
pub number_found : (kept : KeptView) (index : IndexView) (now : ℕ) (q : Asked) (o : Option ℕ) → AreRising kept.replies → AreToOwnRequests kept.replies → All (λ r. has_mark index r ≡ true) kept.replies
    → IfSome o (λ n. is_repeat kept now q n ≡ true) → (IsNone o → leads index (request_tag q) (is_repeat kept now q) ≡ false) → o ≡ number_if (find (asks kept now q) kept.replies)
number_found kept index now q None rising own marked repeat none =
    sym (ap number_if (none_led kept index now q rising marked (none refl)))
number_found kept index now q (Some n) rising own marked repeat none =
    sym (ap number_if (found_there kept now q n own repeat) ∙ numbered kept now q n repeat)

-- there is none where of each reply to the request the keeping time is over, and nowhere else
pub none_exactly : (kept : KeptView) (now : ℕ) (q : Asked) (o : Option ℕ) → o ≡ number_if (find (asks kept now q) kept.replies) → (IsNone o → NoneInTime kept now q) × (NoneInTime kept now q → IsNone o)
none_exactly kept now q o is = subst Exactly (sym is) (go (find (asks kept now q) kept.replies) refl)
  where
    Exactly : Option ℕ → Type 0
    Exactly p = (IsNone p → NoneInTime kept now q) × (NoneInTime kept now q → IsNone p)

    go : (f : Option KeptReply) → find (asks kept now q) kept.replies ≡ f → Exactly (number_if f)
    go None there = (λ none. none_in_time kept now q there, λ over. refl)
    go (Some r) there = (λ none. absurd cc, λ over. absurd (some_in_time kept now q r there over))
