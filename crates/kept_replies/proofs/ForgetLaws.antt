-- Replies of which one is dropped, and those that are left where all that are over are.
use Rattle.std.proofs.Common.{◌≡◌, ℕ, zero, suc, ◌+◌, ◌<◌, ◌≤◌, Bool, true, false, cond, eqb, List, [], ◌∷◌, length, get_or, filter, All, refl, sym, ◌∙◌, ap, arith}
use Rattle.std.specs.List.{AllByRecursion, remove}
use Rattle.std.proofs.lemmas.List.Elements.{All-head, All-tail, All-cons, All-weaker, All-from_recursion}
use Rattle.std.proofs.lemmas.Bool.{ltb-true, lt-ltb, eqb-true, false_from_ne_true}
use Rattle.kept_replies.specs.Kept.{KeptReply, AreRising, is_in_time}
use Rattle.kept_replies.specs.Index.{IndexView, request_tag, leads, is_mark_of}
use Rattle.kept_replies.specs.Store.{AreInOrder, has_mark}
use Rattle.kept_replies.proofs.ReplyLaws.{number}
use Rattle.kept_replies.proofs.SearchLaws.{filter_all}

-- ---- what is left of a list where one element is dropped

-- what passes a test is as before, where the dropped one does not
pub filter-remove : {X : Type 0} (p : X → Bool) (xs : List X) (i : ℕ) (d : X) → i < length xs → p (get_or xs i d) ≡ false → filter p (remove xs i) ≡ filter p xs
filter-remove p [] i d lt fails = absurd (omega (arith, lt))
filter-remove p (x ∷ xs) zero d lt fails = rw fails refl
filter-remove {X} p (x ∷ xs) (suc i) d lt fails = ap (λ (t : List X). cond (p x) (x ∷ t) t) (filter-remove p xs i d (omega (arith, lt)) fails)

-- what holds of all holds of what is left
pub All-remove : {X : Type 0} (P : X → Type 0) (xs : List X) (i : ℕ) → All P xs → All P (remove xs i)
All-remove P [] zero all = all
All-remove P [] (suc i) all = all
All-remove P (x ∷ xs) zero all = All-tail P x xs all
All-remove P (x ∷ xs) (suc i) all = All-cons P x (remove xs i) (All-head P x xs all) (All-remove P xs i (All-tail P x xs all))

all-remove : (P : KeptReply → Type 0) (rs : List KeptReply) (i : ℕ) → AllByRecursion P rs → AllByRecursion P (remove rs i)
all-remove P [] zero all = tt
all-remove P [] (suc i) all = tt
all-remove P (r ∷ rs) zero all = all.1
all-remove P (r ∷ rs) (suc i) all = (all.0, all-remove P rs i all.1)

all_left : (p : KeptReply → Bool) (P : KeptReply → Type 0) (rs : List KeptReply) → AllByRecursion P rs → AllByRecursion P (filter p rs)
all_left p P [] all = tt
all_left p P (r ∷ rs) all = go (p r) (all_left p P rs all.1)
  where
    go : (b : Bool) → AllByRecursion P (filter p rs) → AllByRecursion P (cond b (r ∷ filter p rs) (filter p rs))
    go true more = (all.0, more)
    go false more = more

pub AreRising-remove : (rs : List KeptReply) (i : ℕ) → AreRising rs → AreRising (remove rs i)
AreRising-remove [] zero all = tt
AreRising-remove [] (suc i) all = tt
AreRising-remove (r ∷ rs) zero all = all.1
AreRising-remove (r ∷ rs) (suc i) all = (all-remove (λ o. number r < number o) rs i all.0, AreRising-remove rs i all.1)

pub AreInOrder-remove : (rs : List KeptReply) (i : ℕ) → AreInOrder rs → AreInOrder (remove rs i)
AreInOrder-remove [] zero all = tt
AreInOrder-remove [] (suc i) all = tt
AreInOrder-remove (r ∷ rs) zero all = all.1
AreInOrder-remove (r ∷ rs) (suc i) all = (all-remove (λ o. r.entry.moment ≤ o.entry.moment) rs i all.0, AreInOrder-remove rs i all.1)

-- ---- what is left where some are dropped

pub AreInOrder-filter : (p : KeptReply → Bool) (rs : List KeptReply) → AreInOrder rs → AreInOrder (filter p rs)
AreInOrder-filter p [] all = tt
AreInOrder-filter p (r ∷ rs) all = go (p r) (AreInOrder-filter p rs all.1)
  where
    go : (b : Bool) → AreInOrder (filter p rs) → AreInOrder (cond b (r ∷ filter p rs) (filter p rs))
    go true more = (all_left p (λ o. r.entry.moment ≤ o.entry.moment) rs all.0, more)
    go false more = more

-- ---- the marks of those that are left

-- each other reply has another number
others : (rs : List KeptReply) (i : ℕ) (d : KeptReply) → AreRising rs → i < length rs → All (λ o. number o ≡ number (get_or rs i d) → ⊥) (remove rs i)
others [] i d all lt = absurd (omega (arith, lt))
others (r ∷ rs) zero d all lt = All-weaker (λ o. number r < number o) (λ o. number o ≡ number r → ⊥) (λ o above e. omega (arith, above, e)) rs (All-from_recursion (λ o. number r < number o) rs all.0)
others (r ∷ rs) (suc i) d all lt =
    let above = All-from_recursion (λ o. number r < number o) rs all.0 i d (omega (arith, lt)) in
    All-cons (λ o. number o ≡ number (get_or rs i d) → ⊥) r (remove rs i) (λ e. omega (arith, above, e)) (others rs i d all.1 (omega (arith, lt)))

-- they have their marks still, where the mark of the dropped one alone was dropped
pub marked-remove : (rs : List KeptReply) (i n : ℕ) (d : KeptReply) (old index : IndexView) → AreRising rs → i < length rs → n ≡ number (get_or rs i d)
    → ((t : ℕ) (p : ℕ → Bool) → p n ≡ false → leads old t p ≡ true → leads index t p ≡ true)
    → All (λ r. has_mark old r ≡ true) rs → All (λ r. has_mark index r ≡ true) (remove rs i)
marked-remove rs i n d old index rising lt its left marked k e within =
    let o = get_or (remove rs i) k e in
    left (request_tag o.asked) (is_mark_of o)
    (false_from_ne_true (eqb n (number o)) (λ same. others rs i d rising lt k e within (sym (eqb-true n (number o) same) ∙ its)))
    (All-remove (λ r. has_mark old r ≡ true) rs i marked k e within)

-- the tag of the dropped one led to its mark
pub marked_at : (rs : List KeptReply) (i tag n : ℕ) (d : KeptReply) (index : IndexView) → i < length rs → tag ≡ request_tag (get_or rs i d).asked → n ≡ number (get_or rs i d)
    → All (λ r. has_mark index r ≡ true) rs → leads index tag (λ m. eqb m n) ≡ true
marked_at rs i tag n d index lt tags its marked = (λ k. leads index (tags k) (λ m. eqb m (its k))) ∙ marked i d lt

-- ---- where none is over

-- from a reply in time on, all are, where the moments are in order
pub all_in_time : (keep now i : ℕ) (d : KeptReply) (rs : List KeptReply) → AreInOrder rs → i ≡ 0 → i < length rs → is_in_time keep now (get_or rs i d) ≡ true → filter (is_in_time keep now) rs ≡ rs
all_in_time keep now i d [] order first lt passes = refl
all_in_time keep now i d (r ∷ rs) order first lt passes =
    let here : is_in_time keep now r ≡ true = ap (λ (n : ℕ). is_in_time keep now (get_or (r ∷ rs) n d)) (sym first) ∙ passes in
    filter_all (is_in_time keep now) (r ∷ rs)
    (All-cons (λ o. is_in_time keep now o ≡ true) r rs here (All-weaker (λ o. r.entry.moment ≤ o.entry.moment) (λ o. is_in_time keep now o ≡ true) (later here) rs (All-from_recursion (λ o. r.entry.moment ≤ o.entry.moment) rs order.0)))
  where
    later : is_in_time keep now r ≡ true → (o : KeptReply) → r.entry.moment ≤ o.entry.moment → is_in_time keep now o ≡ true
    later here o le = lt-ltb now (o.entry.moment + keep) (let before = ltb-true now (r.entry.moment + keep) here in omega (arith, le, before))
