-- Bytes that are received into a buffer, one part after another.
use Rattle.std.proofs.Common.{◌≡◌, inl, inr, ℕ, ◌+◌, ◌-◌, ◌≤◌, List, ◌++◌, length, take, drop, sym, ap, ◌∙◌, subst, arith, length-append, length-drop, Option, Some, None}
use Rattle.std.proofs.lemmas.List.{take-append-le, take-take, length-take-le}
use Rattle.std.proofs.Math.Seq.{take-append-add}
use borrow.Rule.Slice.PartMut.{put_mid}
use Rattle.mc_outside.specs.Bytes.{Rose}
use Rattle.mc_outside.specs.LinkView.{LinkView, after_recv, next_taken, Failed}
use Rattle.mc_outside.proofs.Sessions.{heard_more}
use Rattle.millicent_http.specs.Inputs.{IsInput, TakesInput, LostInput, LosesInput, Receives}

-- the first bytes of a buffer into whose rest more were put
pub front_with : (a m : ℕ) (buf more : List ℕ) → a ≤ length buf → m ≤ length more → take (a + m) (put_mid a (length buf - a) buf more) ≡ take a buf ++ take m more
front_with a m buf more le few =
    let front : length (take a buf) ≡ a = length-take-le a buf le in
    ap (λ (n : ℕ). take (n + m) (put_mid a (length buf - a) buf more)) (sym front)
    ∙ take-append-add (take a buf) (more ++ drop (length buf - a) (drop a buf)) m
    ∙ ap (λ (l : List ℕ). take a buf ++ l) (take-append-le m more (drop (length buf - a) (drop a buf)) few)

-- the buffer keeps its size
pub size_with : (a : ℕ) (buf more : List ℕ) → a ≤ length buf → length more ≡ length buf - a → length (put_mid a (length buf - a) buf more) ≡ length buf
size_with a buf more le same =
    let rest : length (drop (length buf - a) (drop a buf)) ≡ 0 = omega (arith, length-drop (length buf - a) (drop a buf), length-drop a buf, le) in
    omega (arith, length-append (take a buf) (more ++ drop (length buf - a) (drop a buf)), length-append more (drop (length buf - a) (drop a buf)), length-take-le a buf le, rest, same, le)

-- more was heard
pub heard_then : (u v w : LinkView) (a m : ℕ) (buf more : List ℕ) → a ≤ length buf → m ≤ length more → v ≡ after_recv (take a buf) u → w ≡ after_recv (take m more) v
    → w ≡ after_recv (take (a + m) (put_mid a (length buf - a) buf more)) u
heard_then u v w a m buf more le few is then =
    then ∙ ap (after_recv (take m more)) is ∙ heard_more u (take a buf) (take m more) ∙ ap (λ (l : List ℕ). after_recv l u) (sym (front_with a m buf more le few))

-- what was received on a link that was taken is the input
pub input_is : (most n : ℕ) (u v : LinkView) (got : List ℕ) → length got ≡ n → Receives (most + 1) (next_taken u) n got v → IsInput most u got v
input_is most n u v got len (inl full) = inr (inr (len ∙ full.0, full.1))
input_is most n u v got len (inr ended) = inr (inl (omega (arith, len, ended.0), ended.1))

-- and nothing more is there where receiving failed
pub lost : (u v w : LinkView) (got : List ℕ) → v ≡ after_recv got u → Failed v w → Failed (after_recv got u) w
lost u v w got is failed = subst (λ (x : LinkView). Failed x w) is failed

-- the first bytes of a list that was cut behind them
pub cut_to : (n most : ℕ) (buf rest : List ℕ) → n ≤ most → n ≤ length buf → take n (take most (buf ++ rest)) ≡ take n buf
cut_to n most buf rest le few = take-take n most (buf ++ rest) le ∙ take-append-le n buf rest few

-- no more than the buffer holds
pub within_size : (size : ℕ) (u : LinkView) (n : ℕ) (got : List ℕ) (v : LinkView) → Receives size u n got v → n ≤ size
within_size size u n got v (inl full) = omega (arith, full.0)
within_size size u n got v (inr ended) = omega (arith, ended.0)

-- the input, where the buffer was made so large, and cut to what was received
pub input_cut : (most n size : ℕ) (u v w : LinkView) (buf got : List ℕ) → size ≡ most + 1 → length buf ≡ size → v ≡ next_taken u → got ≡ take n buf → Receives size v n (take n buf) w → IsInput most u got w
input_cut most n size u v w buf got is_size len taken is received =
    let few : n ≤ length buf = subst (λ (z : ℕ). n ≤ z) (sym len) (within_size size v n (take n buf) w received) in
    subst (λ (l : List ℕ). IsInput most u l w) (sym is)
    (input_is most n u w (take n buf) (length-take-le n buf few) (subst (λ (x : LinkView). Receives (most + 1) x n (take n buf) w) taken (subst (λ (z : ℕ). Receives z v n (take n buf) w) is_size received)))

-- ---- the count of the links' faults

-- it stays where the input is read
pub input_counts : (most : ℕ) (u v : LinkView) (input : List ℕ) → IsInput most u input v → v.faults ≡ u.faults
input_counts most u v input (inl none) = ap (λ (x : LinkView). x.faults) none.1
input_counts most u v input (inr (inl whole)) = ap (λ (x : LinkView). x.faults) whole.1
input_counts most u v input (inr (inr long)) = ap (λ (x : LinkView). x.faults) long.1

pub taken_counts : (most : Option ℕ) (u v : LinkView) (input : List ℕ) → TakesInput most u input v → v.faults ≡ u.faults
taken_counts (Some most) u v input is = input_counts most u v input is
taken_counts None u v input is = ap (λ (x : LinkView). x.faults) is.1

-- and rises where it is lost
pub lost_rose : (u v : LinkView) → LostInput u v → Rose u.faults v.faults
lost_rose u v (inl none) = none.rose
lost_rose u v (inr (got, failed)) = failed.rose

pub loses_rose : (most : Option ℕ) (u v : LinkView) → LosesInput most u v → Rose u.faults v.faults
loses_rose (Some most) u v lost = lost_rose u v lost
loses_rose None u v lost = absurd lost
