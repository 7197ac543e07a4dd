-- Sums over the entries from a number on.
use Rattle.std.proofs.Common.{◌≡◌, ℕ, suc, ◌+◌, ◌-◌, ◌/◌, ◌^◌, ◌<◌, Bool, cond, eqb, ◌||◌, List, [], ◌∷◌, ◌++◌, length, take, drop, count_by, Option, Some, option_to_list, slice_get, IfSome, position, refl, sym, ap, ◌∙◌, arith, subst}
use Rattle.std.specs.List.{list_any, position_from}
use Rattle.std.proofs.lemmas.List.Sums.{sum_by-append}
use Rattle.std.proofs.lemmas.Iterator.Adapters.{position_from-zero}
use Rattle.scrip_form.specs.Scrip.{Scrip}
use Rattle.mc_records.specs.Entry.{Entry, Goods, payload}
use Rattle.mc_records.specs.Chains.{chain, chain_after, is_switch, has_switch}
use Rattle.mc_records.specs.Sizes.{tail_size, size_from}
use Rattle.mc_records.proofs.ChainLaws.{chain-more, has_switch-more}
use Rattle.mc_records.proofs.SizeLaws.{length-tail}
use Rattle.ledger_model.specs.Histories.{History}
use Rattle.ledger_model.specs.Goods.{bytes_in, in_force}
use Rattle.ledger_model.specs.Pieces.{handed_piece, minted_pieces, own_out_from, minted_from, run_from, first_hand}
use Rattle.slow_ledger.specs.Slow.{is_of}
use Rattle.slow_ledger.proofs.SlowLaws.{next, of_next}

pub count_append : {X : Type 0} (p : X → Bool) (xs ys : List X) → count_by p (xs ++ ys) ≡ count_by p xs + count_by p ys
count_append p xs ys = sum_by-append (λ x. cond (p x) 1 0) xs ys

-- ---- pieces of a series

-- those that the entries of a list hand out or mint, after the entries before them
abbrev pub own_from : ℕ → History → History → ℕ
own_from series before h = count_by (is_of series) (own_out_from before h) + count_by (is_of series) (minted_from before h)

own_from_cons : (series : ℕ) (before : History) (e : Entry) (h : History)
    → own_from series before (e ∷ h) ≡ count_by (is_of series) (option_to_list (handed_piece before e)) + count_by (is_of series) (minted_pieces before e) + own_from series (before ++ e ∷ []) h
own_from_cons series before e h =
    let a = count_append (is_of series) (option_to_list (handed_piece before e)) (own_out_from (before ++ e ∷ []) h) in
    let b = count_append (is_of series) (minted_pieces before e) (minted_from (before ++ e ∷ []) h) in
    omega (arith, a, b)

pub own_more : (h : History) (n series all r new whole : ℕ) → n < length h → all + own_from series (take n h) (drop n h) ≡ whole
    → IfSome (slice_get h n) (λ e. (before : History) → r ≡ count_by (is_of series) (option_to_list (handed_piece before e)) + count_by (is_of series) (minted_pieces before e))
    → new ≡ all + r → new + own_from series (take (n + 1) h) (drop (n + 1) h) ≡ whole
own_more h n series all r new whole lt so_far said is_sum =
    let x = next h n lt in
    let is : r ≡ count_by (is_of series) (option_to_list (handed_piece (take n h) x.entry)) + count_by (is_of series) (minted_pieces (take n h) x.entry) =
    of_next (λ e. (before : History) → r ≡ count_by (is_of series) (option_to_list (handed_piece before e)) + count_by (is_of series) (minted_pieces before e)) h n x said (take n h) in
    let here : all + own_from series (take n h) (x.entry ∷ drop (n + 1) h) ≡ whole = subst (λ (t : History). all + own_from series (take n h) t ≡ whole) x.rest so_far in
    let front : own_from series (take (n + 1) h) (drop (n + 1) h) ≡ own_from series (take n h ++ x.entry ∷ []) (drop (n + 1) h) = ap (λ (t : History). own_from series t (drop (n + 1) h)) x.front in
    omega (arith, own_from_cons series (take n h) x.entry (drop (n + 1) h))

-- ---- minted pieces

pub minted_more : (before : History) (value series first count k found new : ℕ) (test : Bool) → k < count
    → found + count_by (is_of series) (run_from before value (first + k) (count - k)) ≡ count_by (is_of series) (run_from before value first count)
    → eqb ((first + k) / 2 ^ 32) series ≡ test → new ≡ found + cond test 1 0
    → new + count_by (is_of series) (run_from before value (first + (k + 1)) (count - (k + 1))) ≡ count_by (is_of series) (run_from before value first count)
minted_more before value series first count k found new test lt so_far is_test is_sum =
    let left : count - k ≡ suc (count - (k + 1)) = omega arith in
    let place : first + k + 1 ≡ first + (k + 1) = omega arith in
    let here : found + count_by (is_of series) (run_from before value (first + k) (suc (count - (k + 1)))) ≡ count_by (is_of series) (run_from before value first count) =
    subst (λ (m : ℕ). found + count_by (is_of series) (run_from before value (first + k) m) ≡ count_by (is_of series) (run_from before value first count)) left so_far in
    let tail : List Scrip = run_from before value (first + k + 1) (count - (k + 1)) in
    let both : count_by (is_of series) (first_hand before value (first + k) ∷ tail) ≡ (0 + cond (eqb ((first + k) / 2 ^ 32) series) 1 0) + count_by (is_of series) tail =
    count_append (is_of series) (first_hand before value (first + k) ∷ []) tail in
    let one : cond {A = ℕ} (eqb ((first + k) / 2 ^ 32) series) 1 0 ≡ cond {A = ℕ} test 1 0 = ap (λ (b : Bool). cond {A = ℕ} b 1 0) is_test in
    let rest : count_by (is_of series) tail ≡ count_by (is_of series) (run_from before value (first + (k + 1)) (count - (k + 1))) =
    ap (λ (m : ℕ). count_by (is_of series) (run_from before value m (count - (k + 1)))) place in
    omega arith

-- ---- size

pub size_more : (h : History) (bytes : List ℕ) (n tail all some new whole : ℕ) → n < length h → tail ≡ tail_size (take n h)
    → all + size_from (take n h) (drop n h) ≡ whole → IfSome (slice_get h n) (λ e. bytes ≡ payload e) → some ≡ all + length bytes → new ≡ some + (5 + tail)
    → new + size_from (take (n + 1) h) (drop (n + 1) h) ≡ whole
size_more h bytes n tail all some new whole lt is_tail so_far said is_some is_new =
    let x = next h n lt in
    let is : length bytes ≡ length (payload x.entry) = ap length (of_next (λ e. bytes ≡ payload e) h n x said) in
    let here : all + size_from (take n h) (x.entry ∷ drop (n + 1) h) ≡ whole = subst (λ (t : History). all + size_from (take n h) t ≡ whole) x.rest so_far in
    let front : size_from (take (n + 1) h) (drop (n + 1) h) ≡ size_from (take n h ++ x.entry ∷ []) (drop (n + 1) h) = ap (λ (t : History). size_from t (drop (n + 1) h)) x.front in
    omega (arith, is_tail, length-tail (take n h) x.entry)

pub switched_more : (h : History) (n : ℕ) (r switched : Bool) → n < length h → switched ≡ has_switch (take n h)
    → IfSome (slice_get h n) (λ e. r ≡ (switched || is_switch e)) → r ≡ has_switch (take (n + 1) h)
switched_more h n r switched lt so_far said =
    let x = next h n lt in
    of_next (λ e. r ≡ (switched || is_switch e)) h n x said
    ∙ ap (λ (b : Bool). b || is_switch x.entry) so_far ∙ sym (has_switch-more (take n h) x.entry) ∙ ap has_switch (sym x.front)

-- ---- the chain

pub chain_more : (h : History) (bytes before r : List ℕ) (n : ℕ) → n < length h → before ≡ chain (take n h) → IfSome (slice_get h n) (λ e. bytes ≡ payload e)
    → r ≡ chain_after before bytes → r ≡ chain (take (n + 1) h)
chain_more h bytes before r n lt so_far said is =
    let x = next h n lt in
    is ∙ ap (λ (c : List ℕ). chain_after c bytes) so_far ∙ ap (λ (p : List ℕ). chain_after (chain (take n h)) p) (of_next (λ e. bytes ≡ payload e) h n x said)
    ∙ sym (chain-more (take n h) x.entry) ∙ ap chain (sym x.front)

-- ---- contents in force

in_force_cons : (e : Entry) (h : History) → in_force (e ∷ h) ≡ bytes_in h e + in_force h
in_force_cons (Goods m target price kind contents) h = refl
in_force_cons e h = omega arith

pub in_force_more : (h : History) (n all r new whole : ℕ) → n < length h → all + in_force (drop n h) ≡ whole
    → IfSome (slice_get h n) (λ e. r ≡ bytes_in (drop (n + 1) h) e) → new ≡ all + r → new + in_force (drop (n + 1) h) ≡ whole
in_force_more h n all r new whole lt so_far said is_sum =
    let x = next h n lt in
    let is : r ≡ bytes_in (drop (n + 1) h) x.entry = of_next (λ e. r ≡ bytes_in (drop (n + 1) h) e) h n x said in
    let here : all + in_force (x.entry ∷ drop (n + 1) h) ≡ whole = subst (λ (t : History). all + in_force t ≡ whole) x.rest so_far in
    omega (arith, in_force_cons x.entry (drop (n + 1) h))

-- ---- the first entry that passes a test

pub passes_more : (test : Entry → Bool) (h : History) (n : ℕ) (r whole : Bool) → n < length h → list_any test (drop n h) ≡ whole
    → IfSome (slice_get h n) (λ e. r ≡ test e) → (r || list_any test (drop (n + 1) h)) ≡ whole
passes_more test h n r whole lt so_far said =
    let x = next h n lt in
    let is : r ≡ test x.entry = of_next (λ e. r ≡ test e) h n x said in
    let here : list_any test (x.entry ∷ drop (n + 1) h) ≡ whole = subst (λ (t : History). list_any test t ≡ whole) x.rest so_far in
    ap (λ (b : Bool). b || list_any test (drop (n + 1) h)) is ∙ here

pub position_start : (test : Entry → Bool) (h : History) → position_from test 0 h ≡ position test h
position_start test h = sym (position_from-zero test h)

pub position_more : (test : Entry → Bool) (h : History) (n : ℕ) (r : Bool) (whole : Option ℕ) → n < length h → position_from test n (drop n h) ≡ whole
    → IfSome (slice_get h n) (λ e. r ≡ test e) → cond r (Some n) (position_from test (n + 1) (drop (n + 1) h)) ≡ whole
position_more test h n r whole lt so_far said =
    let x = next h n lt in
    let is : r ≡ test x.entry = of_next (λ e. r ≡ test e) h n x said in
    let here : position_from test n (x.entry ∷ drop (n + 1) h) ≡ whole = subst (λ (t : History). position_from test n t ≡ whole) x.rest so_far in
    ap (λ (t : Bool). cond t (Some n) (position_from test (n + 1) (drop (n + 1) h))) is ∙ here
