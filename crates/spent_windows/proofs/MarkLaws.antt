-- Which identities are marked, and where their windows end, after each edit of the windows.
use Rattle.std.proofs.Common.{◌≡◌, ℕ, ◌+◌, ◌<◌, ◌≤◌, Bool, true, false, cond, eqb, ltb, ◌&&◌, ◌||◌, List, [], ◌∷◌, suc, length, Result, Ok, Err, IfErr, IsOk, get_or, set, Option, Some, None, option_map, unwrap_or, refl, sym, ap, ◌∙◌, inl, inr, arith}
use Rattle.std.proofs.Math.Bool.{or-false, and-true}
use Rattle.std.specs.Prelude.{is_some, find, filter}
use Rattle.std.specs.List.{All}
use Rattle.std.proofs.lemmas.Bool.{cases_Bool, false≢true, lt-ltb, eqb-true, eqb-false, eq-eqb, ne_eqb}
use Rattle.std.proofs.lemmas.List.{get_or_default}
use Rattle.std.proofs.lemmas.List.Edits.{length-insert}
use Rattle.scrip_form.specs.Identities.{series_of}
use Rattle.spent_windows.specs.Windows.{WindowView, window_of, bit_of, has_mark, is_numbered, is_marked, end_of, has_room, ends_after, lasts, later_than, AreInOrder}
use Rattle.spent_windows.specs.Store.{no_window, IsAt, IsGapFor, IsAdded}
use Rattle.spent_windows.proofs.Lookups.{passed, found_at, found_gap, found_set, found_insert, found_filter, none_before_at, none_before_gap, order_insert, all_insert}

-- what is asked of the window of an identity
abbrev pub told_of : Option WindowView → ℕ → Bool
told_of o id = unwrap_or (option_map (λ w. has_mark w (bit_of id)) o) false

abbrev pub end_in : Option WindowView → Option ℕ
end_in o = option_map (λ w. w.end) o

-- the place of a window that stands is found
pub placed : (ws : List WindowView) (id number : ℕ) (r : Result ℕ ℕ) → number ≡ window_of id → IfErr r (IsGapFor ws number) → has_room ws id ≡ true → IsOk r
unfolding end_of
placed ws id number (Ok i) is gap room = refl
placed ws id number (Err i) is gap room =
    absurd (false≢true (sym (ap (λ (o : Option WindowView). is_some (end_in o)) (ap (λ (n : ℕ). find (is_numbered n) ws) (sym is) ∙ found_gap ws number i gap)) ∙ room))

-- ---- one window looked at

module _ (ws : List WindowView) (id i : ℕ) where
  window_read : (w : WindowView) → AreInOrder ws → IsAt ws (window_of id) i → w ≡ get_or ws i w → find (is_numbered (window_of id)) ws ≡ Some w
  window_read w ordered at read = found_at ws (window_of id) i ordered at ∙ ap Some (get_or_default ws i no_window w at.within ∙ sym read)

  pub marked_there : (w : WindowView) → AreInOrder ws → IsAt ws (window_of id) i → w ≡ get_or ws i w → is_marked ws id ≡ has_mark w (bit_of id)
  unfolding is_marked
  marked_there w ordered at read = ap (λ (o : Option WindowView). told_of o id) (window_read w ordered at read)

  pub unmarked_gap : IsGapFor ws (window_of id) i → is_marked ws id ≡ false
  unfolding is_marked
  unmarked_gap gap = ap (λ (o : Option WindowView). told_of o id) (found_gap ws (window_of id) i gap)

  pub no_room_gap : IsGapFor ws (window_of id) i → has_room ws id ≡ false
  unfolding end_of
  no_room_gap gap = ap (λ (o : Option WindowView). is_some (end_in o)) (found_gap ws (window_of id) i gap)

  pub room_at : AreInOrder ws → IsAt ws (window_of id) i → has_room ws id ≡ true
  unfolding end_of
  room_at ordered at = ap (λ (o : Option WindowView). is_some (end_in o)) (found_at ws (window_of id) i ordered at)

  -- where the window stands, its end is that for which it was reserved
  pub ends_at : (end : ℕ) → AreInOrder ws → IsAt ws (window_of id) i
      → ((k e : ℕ) → series_of k ≡ series_of id → end_of ws k ≡ Some e → e ≡ end)
      → (k : ℕ) → end_of ws k ≡ cond (eqb (window_of id) (window_of k)) (Some end) (end_of ws k)
  unfolding end_of
  ends_at end ordered at reserved k =
      let w : WindowView = get_or ws i no_window in
      let found : end_of ws id ≡ Some w.end = ap end_in (found_at ws (window_of id) i ordered at) in
      let same : w.end ≡ end = reserved id w.end refl found in
      elim (cases_Bool (eqb (window_of id) (window_of k))) [
        | inl t ↦
            rw t (ap (λ (n : ℕ). end_in (find (is_numbered n) ws)) (sym (eqb-true (window_of id) (window_of k) t)) ∙ found ∙ ap Some same)
        | inr t ↦ rw t refl
      ]

-- ---- a window more

module _ {ws new : List WindowView} {i number end : ℕ} (added : IsAdded ws new i number end) (id : ℕ) (is : number ≡ window_of id) (gap : IsGapFor ws number i) where
  found_new : (q : ℕ) → find (is_numbered q) new ≡ cond (eqb (window_of id) q) (Some added.window) (find (is_numbered q) ws)
  found_new q =
      ap (find (is_numbered q)) added.put
      ∙ found_insert ws i added.window (rw added.numbered (none_before_gap ws number i gap)) q
      ∙ ap (λ (n : ℕ). cond (eqb n q) (Some added.window) (find (is_numbered q) ws)) (added.numbered ∙ is)

  not_before : (q : ℕ) → eqb (window_of id) q ≡ true → find (is_numbered q) ws ≡ None
  not_before q t = ap (λ (n : ℕ). find (is_numbered n) ws) (sym (is ∙ eqb-true (window_of id) q t)) ∙ found_gap ws number i gap

  pub ends_added : (k : ℕ) → end_of new k ≡ cond (eqb (window_of id) (window_of k)) (Some end) (end_of ws k)
  unfolding end_of
  ends_added k =
      ap end_in (found_new (window_of k))
      ∙ elim (cases_Bool (eqb (window_of id) (window_of k))) [ inl t ↦ rw t (ap Some added.ends) | inr t ↦ rw t refl ]

  pub marks_kept : (k : ℕ) → is_marked new k ≡ is_marked ws k
  unfolding is_marked
  marks_kept k =
      let told : Option WindowView → Bool = λ o. told_of o k in
      ap told (found_new (window_of k))
      ∙ elim (cases_Bool (eqb (window_of id) (window_of k))) [
        | inl t ↦ rw t (added.blank (bit_of k) (omega arith) ∙ sym (ap told (not_before (window_of k) t)))
        | inr t ↦ rw t refl
      ]

  pub order_added : AreInOrder ws → AreInOrder new
  order_added ordered = rw added.put (order_insert ws i added.window (rw added.numbered gap) ordered)

  pub all_added : (P : WindowView → Type 0) → All P ws → P added.window → All P new
  all_added P all its = rw added.put (all_insert P ws i added.window gap.within all its)

  pub count_added : length new ≡ length ws + cond (has_room ws id) 0 1
  unfolding end_of
  count_added =
      ap length added.put ∙ length-insert ws i added.window gap.within
      ∙ ap (λ (o : Option WindowView). length ws + cond (is_some (end_in o)) 0 1) (sym (not_before (window_of id) (eq-eqb (window_of id) (window_of id) refl)))

-- ---- a place marked

same_place : (id k : ℕ) → window_of id ≡ window_of k → eqb (bit_of id) (bit_of k) ≡ eqb id k
same_place id k same = elim (cases_Bool (eqb id k)) [
  | inl t ↦ rw t (eq-eqb (bit_of id) (bit_of k) (ap bit_of (eqb-true id k t)))
  | inr t ↦ rw t (ne_eqb (bit_of id) (bit_of k) (λ e. eqb-false id k t (omega arith)))
]

module _ (ws : List WindowView) (id i : ℕ) (w x : WindowView) (ordered : AreInOrder ws) (at : IsAt ws (window_of id) i) (read : w ≡ get_or ws i w)
    (numbered : x.number ≡ w.number) where
  its_number : x.number ≡ window_of id
  its_number = numbered ∙ ap (λ (v : WindowView). v.number) (read ∙ get_or_default ws i w no_window at.within) ∙ at.there

  found_changed : (q : ℕ) → find (is_numbered q) (set ws i x) ≡ cond (eqb (window_of id) q) (Some x) (find (is_numbered q) ws)
  found_changed q = found_set ws (window_of id) i x at.within at.there its_number (none_before_at ws (window_of id) i ordered at) q

  found_before : (q : ℕ) → eqb (window_of id) q ≡ true → find (is_numbered q) ws ≡ Some w
  found_before q t = ap (λ (n : ℕ). find (is_numbered n) ws) (sym (eqb-true (window_of id) q t)) ∙ window_read ws id i w ordered at read

  pub ends_kept : x.end ≡ w.end → (k : ℕ) → end_of (set ws i x) k ≡ end_of ws k
  unfolding end_of
  ends_kept same k =
      ap end_in (found_changed (window_of k))
      ∙ elim (cases_Bool (eqb (window_of id) (window_of k))) [
        | inl t ↦ rw t (ap Some same ∙ sym (ap end_in (found_before (window_of k) t)))
        | inr t ↦ rw t refl
      ]

  pub marked_more : ((k : ℕ) → k < 4096 → has_mark x k ≡ (has_mark w k || eqb (bit_of id) k)) → (k : ℕ) → is_marked (set ws i x) k ≡ (is_marked ws k || eqb id k)
  unfolding is_marked
  marked_more more k =
      let told : Option WindowView → Bool = λ o. told_of o k in
      ap told (found_changed (window_of k))
      ∙ elim (cases_Bool (eqb (window_of id) (window_of k))) [
        | inl t ↦
            let old : told (find (is_numbered (window_of k)) ws) ≡ has_mark w (bit_of k) = ap told (found_before (window_of k) t) in
            rw t (
            more (bit_of k) (omega arith)
            ∙ ap (λ (b : Bool). has_mark w (bit_of k) || b) (same_place id k (eqb-true (window_of id) (window_of k) t))
            ∙ ap (λ (b : Bool). b || eqb id k) (sym old)
            )
        | inr t ↦
            let other : eqb id k ≡ false = ne_eqb id k (λ e. eqb-false (window_of id) (window_of k) t (ap window_of e)) in
            rw (t, other) (sym (or-false _))
      ]

-- ---- windows dropped

-- where none ends by a time, none is dropped
pub none_dropped : (ws : List WindowView) (now first : ℕ) → now < first → All (λ w. first ≤ w.end) ws → filter (ends_after now) ws ≡ ws
none_dropped [] now first before all = refl
none_dropped (w ∷ ws) now first before all =
    rw (lt-ltb now w.end (omega (arith, all 0 w (omega arith)))) (ap (λ (ws : List WindowView). w ∷ ws) (none_dropped ws now first before (λ k d within. all (suc k) d (omega arith))))

module _ (ws : List WindowView) (now : ℕ) (ordered : AreInOrder ws) where
  ends_passed : (o : Option WindowView) → end_in (passed (ends_after now) o) ≡ later_than now (end_in o)
  ends_passed None = refl
  ends_passed (Some w) = elim (cases_Bool (ltb now w.end)) [ inl t ↦ rw t refl | inr t ↦ rw t refl ]

  marks_passed : (o : Option WindowView) (k : ℕ) → told_of (passed (ends_after now) o) k ≡ (told_of o k && lasts now (end_in o))
  marks_passed None k = refl
  marks_passed (Some w) k = elim (cases_Bool (ltb now w.end)) [ inl t ↦ rw t (sym (and-true _)) | inr t ↦ rw t (and_false _) ]
    where
      and_false : (b : Bool) → false ≡ (b && false)
      and_false true = refl
      and_false false = refl

  pub ends_dropped : (k : ℕ) → end_of (filter (ends_after now) ws) k ≡ later_than now (end_of ws k)
  unfolding end_of
  ends_dropped k = ap end_in (found_filter (ends_after now) (window_of k) ws ordered) ∙ ends_passed (find (is_numbered (window_of k)) ws)

  pub marks_dropped : (k : ℕ) → is_marked (filter (ends_after now) ws) k ≡ (is_marked ws k && lasts now (end_of ws k))
  unfolding is_marked end_of
  marks_dropped k =
      ap (λ (o : Option WindowView). told_of o k) (found_filter (ends_after now) (window_of k) ws ordered) ∙ marks_passed (find (is_numbered (window_of k)) ws) k
