-- Replies of rising numbers, requests that are the same, and replies that are dropped.
use Rattle.std.proofs.Common.{◌≡◌, ℕ, zero, suc, ◌+◌, ◌<◌, Bool, true, false, cond, ◌&&◌, List, [], ◌∷◌, length, get_or, filter, All, Option, Some, None, refl, ap, arith}
use Rattle.std.specs.List.{AllPass}
use Rattle.std.specs.Str.{bytes_eq}
use Rattle.std.specs.List.Sorted.{IsNonDecreasingBy}
use Rattle.std.proofs.lemmas.List.Elements.{All-from_recursion, All-filter, All-weaker, filter_passes}
use Rattle.std.proofs.lemmas.List.Folds.{list_any_none}
use Rattle.std.proofs.lemmas.Slice.Eq.{bytes_eq-Decides}
use Rattle.std.proofs.lemmas.Bool.{false_from_ne_true, and_parts, and_from, ltb-true}
use Rattle.mc_requests.specs.Requests.{Asked}
use Rattle.kept_replies.specs.Requests.{is_same_text, is_same_request}
use Rattle.kept_replies.specs.Kept.{KeptReply, AreRising, IsBelowAll, KeptView, has_request, is_in_time, NoneInTime}
use Rattle.kept_replies.specs.Store.{HaveOneNumber, AreToOwnRequests}

-- ---- rising numbers

abbrev pub number : KeptReply → ℕ
number r = r.entry.number

below_all-filter : (p : KeptReply → Bool) (r : KeptReply) (rs : List KeptReply) → IsBelowAll r rs → IsBelowAll r (filter p rs)
below_all-filter p r [] all = tt
below_all-filter p r (x ∷ xs) all = go (p x) (below_all-filter p r xs all.1)
  where
    go : (b : Bool) → IsBelowAll r (filter p xs) → IsBelowAll r (cond b (x ∷ filter p xs) (filter p xs))
    go true more = (all.0, more)
    go false more = more

-- replies of rising numbers still rise where some are dropped
pub AreRising-filter : (p : KeptReply → Bool) (rs : List KeptReply) → AreRising rs → AreRising (filter p rs)
AreRising-filter p [] all = tt
AreRising-filter p (r ∷ rs) all = go (p r) (AreRising-filter p rs all.1)
  where
    go : (b : Bool) → AreRising (filter p rs) → AreRising (cond b (r ∷ filter p rs) (filter p rs))
    go true more = (below_all-filter p r rs all.0, more)
    go false more = more

-- no number falls along replies of rising numbers
pub IsNonDecreasingBy-rising : (rs : List KeptReply) → AreRising rs → IsNonDecreasingBy number rs
IsNonDecreasingBy-rising [] all i j d le lt = absurd (omega (arith, lt))
IsNonDecreasingBy-rising (r ∷ rs) all zero zero d le lt = omega arith
IsNonDecreasingBy-rising (r ∷ rs) all zero (suc j) d le lt =
    let below = All-from_recursion (λ o. number r < number o) rs all.0 j d (omega (arith, lt)) in
    omega (arith, below)
IsNonDecreasingBy-rising (r ∷ rs) all (suc i) zero d le lt = absurd (omega (arith, le))
IsNonDecreasingBy-rising (r ∷ rs) all (suc i) (suc j) d le lt = IsNonDecreasingBy-rising rs all.1 i j d (omega (arith, le)) (omega (arith, lt))

-- ---- the same request

text_is : (a b : Option (List ℕ)) → is_same_text a b ≡ true → a ≡ b
text_is None None same = refl
text_is None (Some b) same = absurd cc
text_is (Some a) None same = absurd cc
text_is (Some a) (Some b) same = ap (λ (t : List ℕ). Some t) ((bytes_eq-Decides a b).0 same)

text_is_own : (a : Option (List ℕ)) → is_same_text a a ≡ true
text_is_own None = refl
text_is_own (Some a) = (bytes_eq-Decides a a).1 refl

-- requests that are the same are equal
pub request_is : (a b : Asked) → is_same_request a b ≡ true → a ≡ b
request_is a b same =
    let both = and_parts (bytes_eq a.target b.target && is_same_text a.scrip b.scrip) (is_same_text a.sign b.sign) same in
    let texts = and_parts (bytes_eq a.target b.target) (is_same_text a.scrip b.scrip) both.0 in
    let target = (bytes_eq-Decides a.target b.target).0 texts.0 in
    let scrip = text_is a.scrip b.scrip texts.1 in
    let sign = text_is a.sign b.sign both.1 in
    λ i. record { target = target i; scrip = scrip i; sign = sign i }

-- a request is the same as itself
pub request_is_own : (a : Asked) → is_same_request a a ≡ true
request_is_own a =
    and_from (bytes_eq a.target a.target && is_same_text a.scrip a.scrip) (is_same_text a.sign a.sign)
    (and_from (bytes_eq a.target a.target) (is_same_text a.scrip a.scrip) ((bytes_eq-Decides a.target a.target).1 refl) (text_is_own a.scrip))
    (text_is_own a.sign)

-- ---- what is forgotten

-- of replies each to a request of its own so are those that pass a test
pub own-filter : (p : KeptReply → Bool) (rs : List KeptReply) → AreToOwnRequests rs → AreToOwnRequests (filter p rs)
own-filter p rs own =
    All-filter p (λ r. All (HaveOneNumber r) (filter p rs)) rs (All-weaker (λ r. All (HaveOneNumber r) rs) (λ r. All (HaveOneNumber r) (filter p rs)) (λ r all. All-filter p (HaveOneNumber r) rs all) rs own)

-- where what is over was forgotten, a request that is not found is not kept
pub not_kept : (kept : KeptView) (now : ℕ) (q : Asked) (old : List KeptReply) → kept.replies ≡ filter (is_in_time kept.keep now) old
    → NoneInTime kept now q → has_request kept.replies q ≡ false
not_kept kept now q old forgot none =
    let in_time : AllPass (is_in_time kept.keep now) kept.replies = rw forgot (filter_passes (is_in_time kept.keep now) old) in
    list_any_none (λ r. is_same_request r.asked q) kept.replies (λ k d lt. false_from_ne_true (is_same_request (get_or kept.replies k d).asked q) (λ same. over k d lt same (in_time k d lt)))
  where
    over : (k : ℕ) (d : KeptReply) → k < length kept.replies → is_same_request (get_or kept.replies k d).asked q ≡ true → is_in_time kept.keep now (get_or kept.replies k d) ≡ true → ⊥
    over k d lt same in_time =
        let before = ltb-true now ((get_or kept.replies k d).entry.moment + kept.keep) in_time in
        let after = none k d lt same in
        omega (arith, before, after)
