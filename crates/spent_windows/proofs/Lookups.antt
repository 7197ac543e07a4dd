-- What is found of a number among windows in order, and what an edit of the list changes in it.
use Rattle.std.proofs.Common.{◌≡◌, ◌≢◌, ℕ, zero, suc, ◌+◌, ◌-◌, ◌<◌, ◌≤◌, Bool, true, false, cond, eqb, List, [], ◌∷◌, length, get_or, set, Option, Some, None, refl, sym, ap, subst, ◌∙◌, inl, inr, arith}
use Rattle.std.specs.Prelude.{find, filter}
use Rattle.std.specs.List.{All, insert}
use Rattle.std.proofs.lemmas.Bool.{cases_lt, cases_order, eqb-true}
use Rattle.std.proofs.lemmas.Bool.Decides.{nat_tests}
use Rattle.std.proofs.lemmas.List.{get_or_default}
use Rattle.std.proofs.lemmas.List.Edits.{length-insert, get_or-insert_below, get_or-insert_at, get_or-insert_above}
use Rattle.std.proofs.lemmas.List.Elements.{All-filter}
use Rattle.spent_windows.specs.Windows.{WindowView, is_numbered, AreInOrder}
use Rattle.spent_windows.specs.Store.{no_window, number_at, IsAt, IsGapFor}

abbrev number_of : WindowView → ℕ
number_of w = w.number

abbrev number_in : List WindowView → ℕ → WindowView → ℕ
number_in ws j d = number_of (get_or ws j d)

-- no window before a place has the number
abbrev pub NoneBefore : List WindowView → ℕ → ℕ → Type 0
NoneBefore ws n i = (j : ℕ) → j < i → number_at ws j ≢ n

none_before_tail : (w : WindowView) (ws : List WindowView) (n i : ℕ) → NoneBefore (w ∷ ws) n (suc i) → NoneBefore ws n i
none_before_tail w ws n i none j before = none (suc j) (omega arith)

-- a number that no window has is not found
pub not_found : (ws : List WindowView) (n : ℕ) → NoneBefore ws n (length ws) → find (is_numbered n) ws ≡ None
not_found [] n none = refl
not_found (w ∷ ws) n none = grind (arith, nat_tests, none 0 (omega arith), not_found ws n (none_before_tail w ws n _ none))

-- the first window of the number is found
pub found_first : (ws : List WindowView) (n i : ℕ) → i < length ws → number_at ws i ≡ n → NoneBefore ws n i → find (is_numbered n) ws ≡ Some (get_or ws i no_window)
found_first [] n i within there none = absurd (omega arith)
found_first (w ∷ ws) n zero within there none = grind (arith, nat_tests, there)
found_first (w ∷ ws) n (suc i) within there none = grind (arith, nat_tests, none 0 (omega arith), found_first ws n i (omega arith) there (none_before_tail w ws n i none))

-- another window of that number in its place
pub found_set : (ws : List WindowView) (n i : ℕ) (x : WindowView) → i < length ws → number_at ws i ≡ n → x.number ≡ n → NoneBefore ws n i
    → (q : ℕ) → find (is_numbered q) (set ws i x) ≡ cond (eqb n q) (Some x) (find (is_numbered q) ws)
found_set [] n i x within there same none q = absurd (omega arith)
found_set (w ∷ ws) n zero x within there same none q = grind (arith, nat_tests, there)
found_set (w ∷ ws) n (suc i) x within there same none q = grind (arith, nat_tests, none 0 (omega arith), found_set ws n i x (omega arith) there same (none_before_tail w ws n i none) q)

-- a window more
pub found_insert : (ws : List WindowView) (i : ℕ) (x : WindowView) → NoneBefore ws x.number i
    → (q : ℕ) → find (is_numbered q) (insert ws i x) ≡ cond (eqb x.number q) (Some x) (find (is_numbered q) ws)
found_insert ws zero x none q = refl
found_insert [] (suc i) x none q = refl
found_insert (w ∷ ws) (suc i) x none q = grind (arith, nat_tests, none 0 (omega arith), found_insert ws i x (none_before_tail w ws x.number i none) q)

-- ---- windows in order

module _ (ws : List WindowView) (n i : ℕ) where
  pub none_before_gap : IsGapFor ws n i → NoneBefore ws n i
  none_before_gap gap j before same = omega (arith, gap.smaller j before)

  pub found_gap : IsGapFor ws n i → find (is_numbered n) ws ≡ None
  found_gap gap = not_found ws n (λ j within same. elim (cases_lt j i) [
    | inl before ↦ omega (arith, gap.smaller j before)
    | inr behind ↦ omega (arith, gap.greater j behind within)
  ])

  pub none_before_at : AreInOrder ws → IsAt ws n i → NoneBefore ws n i
  none_before_at ordered at j before same = omega (arith, ordered j i no_window before at.within, at.there)

  pub found_at : AreInOrder ws → IsAt ws n i → find (is_numbered n) ws ≡ Some (get_or ws i no_window)
  found_at ordered at = found_first ws n i at.within at.there (none_before_at ordered at)

-- ---- the order after an edit

-- a window between smaller and greater ones
pub order_insert : (ws : List WindowView) (i : ℕ) (x : WindowView) → IsGapFor ws x.number i → AreInOrder ws → AreInOrder (insert ws i x)
order_insert ws i x gap ordered j k d before within =
    let new = insert ws i x in
    let long = length-insert ws i x gap.within in
    let below : (j : ℕ) → j < i → number_in new j d ≡ number_at ws j = λ j less. ap number_of (get_or-insert_below ws i x d j less gap.within ∙ get_or_default ws j d no_window (omega (arith, gap.within))) in
    let here : (j : ℕ) → j ≡ i → number_in new j d ≡ x.number = λ j same. rw same (ap number_of (get_or-insert_at ws i x d gap.within)) in
    let above : (j : ℕ) → i < j → j ≤ length ws → number_in new j d ≡ number_at ws (j - 1) = λ j more most.
    subst (λ q. number_in new q d ≡ number_at ws (j - 1)) {x = j - 1 + 1} (omega arith) (ap number_of (get_or-insert_above ws i x d (j - 1) (omega arith) gap.within ∙ get_or_default ws (j - 1) d no_window (omega arith))) in
    grind (arith, below j, here j, above j, below k, here k, above k, ordered j k no_window, ordered j (k - 1) no_window, ordered (j - 1) (k - 1) no_window, gap.smaller j, gap.greater (k - 1))

-- what is true of each window and of one more
pub all_insert : (P : WindowView → Type 0) (ws : List WindowView) (i : ℕ) (x : WindowView) → i ≤ length ws → All P ws → P x → All P (insert ws i x)
all_insert P ws i x place all its k d within =
    let new = insert ws i x in
    let long = length-insert ws i x place in
    elim (cases_order k i) [
      | inl same ↦ rw same (subst P (sym (get_or-insert_at ws i x d place)) its)
      | inr (inl less) ↦ subst P (sym (get_or-insert_below ws i x d k less place)) (all k d (omega arith))
      | inr (inr more) ↦
          let above : get_or new (k - 1 + 1) d ≡ get_or ws (k - 1) d = get_or-insert_above ws i x d (k - 1) (omega arith) place in
          let here : k - 1 + 1 ≡ k = omega arith in
          let read : get_or new k d ≡ get_or ws (k - 1) d = subst (λ (n : ℕ). get_or new n d ≡ get_or ws (k - 1) d) here above in
          subst P (sym read) (all (k - 1) d (omega arith))
    ]

-- ---- a filter

-- what is found, where it passes a test
abbrev pub passed : {X : Type 0} → (X → Bool) → Option X → Option X
passed p None = None
passed p (Some x) = cond (p x) (Some x) None

order_tail : (w : WindowView) (ws : List WindowView) → AreInOrder (w ∷ ws) → AreInOrder ws
order_tail w ws ordered i j d before within = ordered (suc i) (suc j) d (omega arith) (omega arith)

order_head : (w : WindowView) (ws : List WindowView) → AreInOrder (w ∷ ws) → All (λ x. w.number < x.number) ws
order_head w ws ordered k d within = ordered 0 (suc k) d (omega arith) (omega arith)

-- what is left of the windows behind one has other numbers
none_left : (p : WindowView → Bool) (w : WindowView) (ws : List WindowView) → AreInOrder (w ∷ ws) → find (is_numbered w.number) (filter p ws) ≡ None
none_left p w ws ordered = not_found (filter p ws) w.number (λ j within same.
    omega (arith, All-filter p (λ x. w.number < x.number) ws (order_head w ws ordered) j no_window within))

filter_step : (p : WindowView → Bool) (n : ℕ) (w : WindowView) (ws : List WindowView) → AreInOrder (w ∷ ws)
    → find (is_numbered n) (filter p ws) ≡ passed p (find (is_numbered n) ws)
    → (t e : Bool) → p w ≡ t → eqb w.number n ≡ e
    → find (is_numbered n) (cond t (w ∷ filter p ws) (filter p ws)) ≡ passed p (cond e (Some w) (find (is_numbered n) ws))
filter_step p n w ws ordered rest true true t e = rw (e, t) refl
filter_step p n w ws ordered rest true false t e = rw e rest
filter_step p n w ws ordered rest false true t e =
    rw t (ap (λ (m : ℕ). find (is_numbered m) (filter p ws)) (sym (eqb-true w.number n e)) ∙ none_left p w ws ordered)
filter_step p n w ws ordered rest false false t e = rest

pub found_filter : (p : WindowView → Bool) (n : ℕ) (ws : List WindowView) → AreInOrder ws → find (is_numbered n) (filter p ws) ≡ passed p (find (is_numbered n) ws)
found_filter p n [] ordered = refl
found_filter p n (w ∷ ws) ordered =
    filter_step p n w ws ordered (found_filter p n ws (order_tail w ws ordered)) (p w) (eqb w.number n) refl refl
