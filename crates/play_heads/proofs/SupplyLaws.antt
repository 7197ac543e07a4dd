-- A head that is given in parts, and the heads behind it.
use Rattle.std.proofs.Common.{length, length-append, ◌%◌, ◌==◌, Bool, true, false, cond, ◌∷◌, refl, ◌≡◌, ℕ, suc, ◌+◌, ◌-◌, ◌<◌, ◌≤◌, List, [], ◌++◌, take, drop, slice_range, sym, ◌∙◌, ap, arith, take-add, drop-drop}
use Rattle.scrip_form.specs.Scrip.{Scrip}
use Rattle.play_heads.specs.PlayHeads.{play_head, paying_head, heads_from}

-- a part of some bytes in two parts
pub part_in_two : (b : List ℕ) (from n end : ℕ) → from + n ≤ end → slice_range b from end ≡ slice_range b from (from + n) ++ slice_range b (from + n) end
part_in_two b from n end le =
    let all : end - from ≡ n + (end - (from + n)) = omega (arith, le) in
    let first : from + n - from ≡ n = omega arith in
    ap (λ (k : ℕ). take k (drop from b)) all
    ∙ take-add n (end - (from + n)) (drop from b)
    ∙ ap (λ (k : ℕ). take k (drop from b) ++ take (end - (from + n)) (drop n (drop from b))) (sym first)
    ∙ ap (λ (l : List ℕ). slice_range b from (from + n) ++ take (end - (from + n)) l) (drop-drop n from b)

-- The next head is made where nothing is left of the one before.
pub made_next : (b out : List ℕ) (from end len next last : ℕ) → end ≤ from → next < last → take len out ≡ play_head next
    → slice_range b from end ++ heads_from next (last - next) ≡ slice_range out 0 len ++ heads_from (next + 1) (last - (next + 1))
made_next b out from end len next last le more head =
    let none : end - from ≡ 0 = omega (arith, le) in
    let one : last - next ≡ suc (last - (next + 1)) = omega (arith, more) in
    let whole : len - 0 ≡ len = omega arith in
    ap (λ (k : ℕ). take k (drop from b) ++ heads_from next (last - next)) none
    ∙ ap (heads_from next) one
    ∙ ap (λ (h : List ℕ). h ++ heads_from (next + 1) (last - (next + 1))) (sym (ap (λ (k : ℕ). take k out) whole ∙ head))

-- ---- heads have bytes

paying_some : (target : List ℕ) (p : Scrip) → 0 < length (paying_head target p)
unfolding paying_head
paying_some target p =
    let begins : paying_head target p ≡ 71 ∷ drop 1 (paying_head target p) = refl in
    omega (arith, ap length begins)

cond_some : (b : Bool) (x y : List ℕ) → 0 < length x → 0 < length y → 0 < length (cond b x y)
cond_some true x y h k = h
cond_some false x y h k = k

head_some : (i : ℕ) → 0 < length (play_head i)
head_some i =
    cond_some (i % 8 == 5) _ _ (paying_some _ _) (cond_some (i % 8 == 6) _ _ (paying_some _ _) (paying_some _ _))

-- heads are to come where some are
pub some_come : (x : List ℕ) (next last : ℕ) → next < last → x ++ heads_from next (last - next) ≡ [] → ⊥
some_come x next last more e =
    let one : last - next ≡ suc (last - (next + 1)) = omega (arith, more) in
    let some : 0 < length (play_head next) = head_some next in
    let long : length (heads_from next (last - next)) ≡ length (play_head next) + length (heads_from (next + 1) (last - (next + 1))) =
    ap (λ (n : ℕ). length (heads_from next n)) one ∙ length-append (play_head next) (heads_from (next + 1) (last - (next + 1))) in
    omega (arith, some, long, length-append x (heads_from next (last - next)), ap length e)

-- and none where none are
pub none_come : (b : List ℕ) (from end next last : ℕ) → end ≤ from → last ≤ next → slice_range b from end ++ heads_from next (last - next) ≡ []
none_come b from end next last given le =
    let none : end - from ≡ 0 = omega (arith, given) in
    let no_more : last - next ≡ 0 = omega (arith, le) in
    ap (λ (k : ℕ). take k (drop from b) ++ heads_from next (last - next)) none ∙ ap (heads_from next) no_more
