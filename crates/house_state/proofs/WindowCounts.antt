-- Which windows of a house have a marked identity, and how many there are.
use Rattle.std.proofs.Common.{◌≡◌, ◌≢◌, ℕ, ◌*◌, ◌^◌, ◌<◌, Bool, true, false, cond, eqb, leb, List, [], ◌∷◌, length, map, Option, Some, None, option_map, refl, sym, ap, ap₂, subst, ◌∙◌, arith}
use Rattle.std.specs.Prelude.{◌&&◌, ◌||◌, not, unwrap_or, is_some, find, filter}
use Rattle.std.specs.List.{list_any, AllPairs}
use Rattle.std.specs.Set.{distinct_count}
use Rattle.std.specs.Cmp.{both_ways}
use Rattle.std.proofs.lemmas.Bool.{lt-ltb, lt-leb, eqb-true, eqb-false, eq-eqb, ne_eqb}
use Rattle.std.proofs.lemmas.Cmp.{nat_eq_equiv}
use Rattle.std.proofs.lemmas.List.{length-map, get_or-map}
use Rattle.std.proofs.lemmas.Map.Made.{length-from_keys, IsDistinct-from_AllPairs}
use Rattle.scrip_form.specs.Issuing.{Issuing}
use Rattle.scrip_form.specs.Scrip.{Scrip}
use Rattle.spent_windows.specs.Windows.{WindowView, window_of, bit_of, has_mark, is_numbered, is_marked, end_of, lasts, later_than, AreInOrder}
use Rattle.spent_windows.specs.Store.{no_window}
use Rattle.ledger_model.specs.Histories.{History}
use Rattle.ledger_model.specs.Pieces.{accepted, is_spent}
use Rattle.house_state.specs.HouseState.{HouseStateView, IsSound, ended_by}
use Rattle.house_state.specs.Representation.{StateRepresents, has_ended}
use Rattle.house_state.specs.LiveWindows.{HasMarked, AreUsed, AreUsedBut, live_windows}
use Rattle.house_state.proofs.EndLaws.{later_is}

-- ---- after a call

same_window : (ws : List WindowView) (k id : ℕ) → window_of k ≡ window_of id → end_of ws k ≡ end_of ws id
unfolding end_of
same_window ws k id same = ap (λ (n : ℕ). option_map (λ (w : WindowView). w.end) (find (is_numbered n) ws)) same

no_end : (end : ℕ) → None ≡ Some end → ⊥
no_end end e = absurd cc

none_end : (id : ℕ) → end_of [] id ≡ None
unfolding end_of
none_end id = refl

-- no window stands
pub none_used : (ws : List WindowView) → ws ≡ [] → AreUsed ws
none_used ws empty id end found = absurd (no_end end (sym (none_end id) ∙ ap (λ (vs : List WindowView). end_of vs id) (sym empty) ∙ found))

-- windows whose end has come were dropped
pub used_dropped : (t : ℕ) (ws new : List WindowView) → ((k : ℕ) → is_marked new k ≡ (is_marked ws k && lasts t (end_of ws k))) → ((k : ℕ) → end_of new k ≡ later_than t (end_of ws k))
    → AreUsed ws → AreUsed new
used_dropped t ws new left later used id end found =
    let was = later_is t (end_of ws id) end (sym (later id) ∙ found) in
    let mark = used id end was.0 in
    let its : end_of ws mark.0 ≡ Some end = same_window ws mark.0 id mark.1 ∙ was.0 in
    (mark.0, mark.1, left mark.0 ∙ ap₂ (λ (a b : Bool). a && b) mark.2 (ap (lasts t) its ∙ lt-ltb t end was.1))

-- room was made for an identity
pub used_reserved : (id end : ℕ) (ws new : List WindowView) → ((k : ℕ) → is_marked new k ≡ is_marked ws k)
    → ((k : ℕ) → end_of new k ≡ cond (eqb (window_of id) (window_of k)) (Some end) (end_of ws k)) → AreUsed ws → AreUsedBut (window_of id) new
used_reserved id end ws new same more used k e found other =
    let apart : eqb (window_of id) (window_of k) ≡ false = ne_eqb (window_of id) (window_of k) (λ is. other (sym is)) in
    let was : end_of ws k ≡ Some e = ap (λ (b : Bool). cond b (Some end) (end_of ws k)) (sym apart) ∙ sym (more k) ∙ found in
    let mark = used k e was in (mark.0, mark.1, same mark.0 ∙ mark.2)

or_true : (a : Bool) → (a || true) ≡ true
or_true true = refl
or_true false = refl

-- an identity was marked
pub used_marked : (id : ℕ) (ws new : List WindowView) → ((k : ℕ) → is_marked new k ≡ (is_marked ws k || eqb id k)) → ((k : ℕ) → end_of new k ≡ end_of ws k)
    → AreUsedBut (window_of id) ws → AreUsed new
used_marked id ws new more same used k e found = by (eqb (window_of k) (window_of id)) refl
  where
    by : (b : Bool) → eqb (window_of k) (window_of id) ≡ b → HasMarked new (window_of k)
    by true is = (id, sym (eqb-true (window_of k) (window_of id) is), more id ∙ ap (λ (b : Bool). is_marked ws id || b) (eq-eqb id id refl) ∙ or_true (is_marked ws id))
    by false is =
        let mark = used k e (sym (same k) ∙ found) (eqb-false (window_of k) (window_of id) is) in
        (mark.0, mark.1, more mark.0 ∙ ap (λ (b : Bool). b || eqb id mark.0) mark.2)

-- ---- how many there are

-- whether there is a window of a number
abbrev stands : List WindowView → ℕ → Bool
stands ws number = list_any (eqb number) (map (λ (w : WindowView). w.number) ws)

stands_from : (ws : List WindowView) (number : ℕ) → is_some (find (is_numbered number) ws) ≡ true → stands ws number ≡ true
stands_from [] number found = absurd cc
stands_from (w ∷ ws) number found = go (eqb w.number number) refl (stands_from ws number) found
  where
    go : (b : Bool) → eqb w.number number ≡ b → (is_some (find (is_numbered number) ws) ≡ true → stands ws number ≡ true)
        → is_some (cond b (Some w) (find (is_numbered number) ws)) ≡ true → (eqb number w.number || stands ws number) ≡ true
    go true is more some = rw (eq-eqb number w.number (sym (eqb-true w.number number is))) refl
    go false is more some = ap (λ (b : Bool). eqb number w.number || b) (more some) ∙ or_true (eqb number w.number)

found_from : (ws : List WindowView) (number : ℕ) → stands ws number ≡ true → is_some (find (is_numbered number) ws) ≡ true
found_from [] number is = absurd cc
found_from (w ∷ ws) number is = go (eqb w.number number) refl (found_from ws number)
  where
    go : (b : Bool) → eqb w.number number ≡ b → (stands ws number ≡ true → is_some (find (is_numbered number) ws) ≡ true)
        → is_some (cond b (Some w) (find (is_numbered number) ws)) ≡ true
    go true same more = refl
    go false other more =
        let apart : eqb number w.number ≡ false = ne_eqb number w.number (λ e. eqb-false w.number number other (sym e)) in
        more (ap (λ (b : Bool). b || stands ws number) (sym apart) ∙ is)

an_end : (o : Option WindowView) → is_some o ≡ true → (end : ℕ) × (option_map (λ (w : WindowView). w.end) o ≡ Some end)
an_end None is = absurd cc
an_end (Some w) is = (w.end, refl)

-- an identity of a window that stands has an end
end_there : (ws : List WindowView) (id : ℕ) → stands ws (window_of id) ≡ true → (end : ℕ) × (end_of ws id ≡ Some end)
unfolding end_of
end_there ws id is = an_end (find (is_numbered (window_of id)) ws) (found_from ws (window_of id) is)

-- the window of a marked identity stands
marked_stands : (ws : List WindowView) (id : ℕ) → is_marked ws id ≡ true → stands ws (window_of id) ≡ true
unfolding is_marked
marked_stands ws id is = stands_from ws (window_of id) (go (find (is_numbered (window_of id)) ws) is)
  where
    go : (o : Option WindowView) → unwrap_or (option_map (λ (w : WindowView). has_mark w (bit_of id)) o) false ≡ true → is_some o ≡ true
    go None is = absurd cc
    go (Some w) is = refl

marked_ends : (ws : List WindowView) (id : ℕ) → is_marked ws id ≡ true → (end : ℕ) × (end_of ws id ≡ Some end)
marked_ends ws id is = end_there ws id (marked_stands ws id is)

-- the windows of those of some pieces whose series has not ended
abbrev live_of : History → ℕ → List Scrip → List ℕ
live_of h t ps = map (λ (p : Scrip). window_of p.id) (filter (λ (p : Scrip). not (has_ended h t p.id)) ps)

live_has : (h : History) (t : ℕ) (ps : List Scrip) (id : ℕ) → has_ended h t id ≡ false → list_any (λ (p : Scrip). eqb p.id id) ps ≡ true → list_any (eqb (window_of id)) (live_of h t ps) ≡ true
live_has h t [] id live is = absurd cc
live_has h t (p ∷ ps) id live is = go (eqb p.id id) refl (live_has h t ps id live) is
  where
    more : (b : Bool) → list_any (eqb (window_of id)) (live_of h t ps) ≡ true
        → list_any (eqb (window_of id)) (map (λ (x : Scrip). window_of x.id) (cond b (p ∷ filter (λ (x : Scrip). not (has_ended h t x.id)) ps) (filter (λ (x : Scrip). not (has_ended h t x.id)) ps))) ≡ true
    more true ih = ap (λ (b : Bool). eqb (window_of id) (window_of p.id) || b) ih ∙ or_true (eqb (window_of id) (window_of p.id))
    more false ih = ih

    go : (b : Bool) → eqb p.id id ≡ b → (list_any (λ (x : Scrip). eqb x.id id) ps ≡ true → list_any (eqb (window_of id)) (live_of h t ps) ≡ true)
        → (b || list_any (λ (x : Scrip). eqb x.id id) ps) ≡ true → list_any (eqb (window_of id)) (live_of h t (p ∷ ps)) ≡ true
    go true same ih any =
        let is_id : p.id ≡ id = eqb-true p.id id same in
        let goes : has_ended h t p.id ≡ false = ap (has_ended h t) is_id ∙ live in
        let first : eqb (window_of id) (window_of p.id) ≡ true = eq-eqb (window_of id) (window_of p.id) (ap window_of (sym is_id)) in
        rw (goes, first) refl
    go false other ih any = more (not (has_ended h t p.id)) (ih any)

-- such a piece
abbrev LivePiece : History → ℕ → List Scrip → ℕ → Type 0
LivePiece h t ps number = (id : ℕ) × (window_of id ≡ number) × (has_ended h t id ≡ false) × (list_any (λ (p : Scrip). eqb p.id id) ps ≡ true)

live_piece : (h : History) (t : ℕ) (ps : List Scrip) (number : ℕ) → list_any (eqb number) (live_of h t ps) ≡ true → LivePiece h t ps number
live_piece h t [] number is = absurd cc
live_piece h t (p ∷ ps) number is = go (has_ended h t p.id) refl (live_piece h t ps number) is
  where
    later : LivePiece h t ps number → LivePiece h t (p ∷ ps) number
    later x = (x.0, x.1, x.2, ap (λ (b : Bool). eqb p.id x.0 || b) x.3 ∙ or_true (eqb p.id x.0))

    first : (b : Bool) → eqb number (window_of p.id) ≡ b → has_ended h t p.id ≡ false → (list_any (eqb number) (live_of h t ps) ≡ true → LivePiece h t ps number)
        → (b || list_any (eqb number) (live_of h t ps)) ≡ true → LivePiece h t (p ∷ ps) number
    first true same live ih any = (p.id, sym (eqb-true number (window_of p.id) same), live, ap (λ (b : Bool). b || list_any (λ (x : Scrip). eqb x.id p.id) ps) (eq-eqb p.id p.id refl))
    first false other live ih any = later (ih any)

    go : (b : Bool) → has_ended h t p.id ≡ b → (list_any (eqb number) (live_of h t ps) ≡ true → LivePiece h t ps number)
        → list_any (eqb number) (map (λ (x : Scrip). window_of x.id) (cond (not b) (p ∷ filter (λ (x : Scrip). not (has_ended h t x.id)) ps) (filter (λ (x : Scrip). not (has_ended h t x.id)) ps))) ≡ true
        → LivePiece h t (p ∷ ps) number
    go true ended ih any = later (ih any)
    go false live ih any = first (eqb number (window_of p.id)) refl live ih any

module _ {b : HouseStateView} {h : History} (st : StateRepresents b h) (sound : IsSound b) where
  -- the series of a marked identity has not ended
  marked_lives : (id : ℕ) → is_marked b.spent id ≡ true → has_ended h b.time id ≡ false
  marked_lives id is =
      let end = marked_ends b.spent id is in
      let alive : b.time < end.0 = sound.alive id end.0 end.1 in
      ap (λ (ts : List Issuing). ended_by ts b.time id) st.terms
      ∙ ap (λ (o : Option ℕ). unwrap_or (option_map (λ (e : ℕ). leb e b.time) o) false) (sound.ends id end.0 end.1)
      ∙ lt-leb end.0 b.time alive

  there : AreUsed b.spent → (number : ℕ) → stands b.spent number ≡ true → list_any (eqb number) (live_windows h b.time) ≡ true
  there used number is =
      let whole : window_of (number * 2 ^ 12) ≡ number = omega arith in
      let end = end_there b.spent (number * 2 ^ 12) (ap (stands b.spent) whole ∙ is) in
      let mark = used (number * 2 ^ 12) end.0 end.1 in
      let live = marked_lives mark.0 mark.2 in
      let spent : is_spent h mark.0 ≡ true = st.spent mark.0 live ∙ mark.2 in
      subst (λ (n : ℕ). list_any (eqb n) (live_windows h b.time) ≡ true) (mark.1 ∙ whole) (live_has h b.time (accepted h) mark.0 live spent)

  back : (number : ℕ) → list_any (eqb number) (live_windows h b.time) ≡ true → stands b.spent number ≡ true
  back number is =
      let p = live_piece h b.time (accepted h) number is in
      subst (λ (n : ℕ). stands b.spent n ≡ true) p.1 (marked_stands b.spent p.0 (sym (st.spent p.0 p.2) ∙ p.3))

  -- there are as many windows as have an accepted identity whose series has not ended
  pub windows_counted : AreInOrder b.spent → AreUsed b.spent → length b.spent ≡ distinct_count eqb (live_windows h b.time)
  windows_counted order used =
      sym (length-map b.spent number_of)
      ∙ length-from_keys nat_eq_equiv numbers (live_windows h b.time) (IsDistinct-from_AllPairs (λ (x y : ℕ). (eqb-true x y, eq-eqb x y)) numbers apart)
      (λ (n : ℕ). both_ways (list_any (eqb n) numbers) (list_any (eqb n) (live_windows h b.time)) (there used n) (back n))
    where
      number_of : WindowView → ℕ
      number_of w = w.number

      numbers : List ℕ
      numbers = map number_of b.spent

      apart : AllPairs (λ (x y : ℕ). x ≢ y) numbers
      apart i j d before within =
          let all : length numbers ≡ length b.spent = length-map b.spent number_of in
          let last : j < length b.spent = omega (arith, within, all) in
          let first : i < length b.spent = omega (arith, before, last) in
          λ same. omega (
            arith,
            order i j no_window before last,
            same,
            get_or-map number_of b.spent i no_window d first,
            get_or-map number_of b.spent j no_window d last,
          )
