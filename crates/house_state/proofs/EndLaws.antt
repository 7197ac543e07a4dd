-- The ends of series, as terms and windows have them.
use Rattle.std.proofs.Common.{◌≡◌, ℕ, ◌/◌, ◌%◌, ◌^◌, ◌<◌, ◌≤◌, Bool, true, false, cond, eqb, ltb, leb, List, [], ◌++◌, Option, Some, None, option_map, refl, sym, ap, ◌∙◌, arith}
use Rattle.std.specs.Prelude.{unwrap_or}
use Rattle.std.specs.Option.{option_or}
use Rattle.std.proofs.lemmas.Bool.{ltb-true, leb-false, eqb-true}
use Rattle.std.proofs.lemmas.List.Folds.{find-append}
use Rattle.scrip_form.specs.Identities.{issuer_of, epoch_of, series_of}
use Rattle.scrip_form.specs.Issuing.{Issuing, series_end}
use Rattle.spent_windows.specs.Windows.{WindowView, window_of, is_marked, end_of, later_than}
use Rattle.ledger_model.specs.Houses.{terms_by}
use Rattle.house_state.specs.HouseState.{end_by, ended_by}

-- where there are no windows, nothing is marked
pub none_marked : (id : ℕ) → is_marked [] id ≡ false
unfolding is_marked
none_marked id = refl

-- ---- the end of a series

issuer_in : (id : ℕ) → issuer_of id ≡ series_of id / 2 ^ 24
issuer_in id = omega arith

-- identities of one series have one end
same_end : (terms : List Issuing) (k id : ℕ) → series_of k ≡ series_of id → end_by terms k ≡ end_by terms id
same_end terms k id same =
    let issuer : issuer_of k ≡ issuer_of id = issuer_in k ∙ ap (λ (s : ℕ). s / 2 ^ 24) same ∙ sym (issuer_in id) in
    let epoch : epoch_of k ≡ epoch_of id = ap (λ (s : ℕ). s % 2 ^ 24) same in
    ap (λ (i : ℕ). option_map (λ x. series_end x (epoch_of k)) (terms_by terms i)) issuer
    ∙ ap (λ (e : ℕ). option_map (λ x. series_end x e) (terms_by terms (issuer_of id))) epoch

-- more terms change no end that there is
pub end_kept : (terms more : List Issuing) (id e : ℕ) → end_by terms id ≡ Some e → end_by (terms ++ more) id ≡ Some e
end_kept terms more id e is =
    ap (option_map (λ x. series_end x (epoch_of id))) (find-append (λ x. eqb x.issuer (issuer_of id)) terms more) ∙ go (terms_by terms (issuer_of id)) is
  where
    go : (o : Option Issuing) → option_map (λ x. series_end x (epoch_of id)) o ≡ Some e
        → option_map (λ x. series_end x (epoch_of id)) (option_or o (terms_by more (issuer_of id))) ≡ Some e
    go None is = absurd cc
    go (Some x) is = is

-- a series that has not ended by more terms has not ended by fewer
pub ended_kept : (terms more : List Issuing) (t id : ℕ) → ended_by (terms ++ more) t id ≡ false → ended_by terms t id ≡ false
ended_kept terms more t id live =
    go (terms_by terms (issuer_of id))
    (ap (λ (o : Option Issuing). unwrap_or (option_map (λ e. leb e t) (option_map (λ x. series_end x (epoch_of id)) o)) false) (sym (find-append (λ x. eqb x.issuer (issuer_of id)) terms more)) ∙ live)
  where
    go : (o : Option Issuing) → unwrap_or (option_map (λ e. leb e t) (option_map (λ x. series_end x (epoch_of id)) (option_or o (terms_by more (issuer_of id))))) false ≡ false
        → unwrap_or (option_map (λ e. leb e t) (option_map (λ x. series_end x (epoch_of id)) o)) false ≡ false
    go None live = refl
    go (Some x) live = live

-- a series that has not ended later has not ended now
pub ended_later : (terms : List Issuing) (t u id : ℕ) → t ≤ u → ended_by terms u id ≡ false → ended_by terms t id ≡ false
ended_later terms t u id le = go (end_by terms id)
  where
    go : (o : Option ℕ) → unwrap_or (option_map (λ e. leb e u) o) false ≡ false → unwrap_or (option_map (λ e. leb e t) o) false ≡ false
    go None live = refl
    go (Some e) live = let above : u < e = leb-false e u live in grind (arith, above, le)

-- ---- windows

-- each window ends with its series, which has not ended
pub record EndInTime (terms : List Issuing) (t : ℕ) (ws : List WindowView) : Type 0 where
  pub ends : (id end : ℕ) → end_of ws id ≡ Some end → end_by terms id ≡ Some end
  pub alive : (id end : ℕ) → end_of ws id ≡ Some end → t < end

some_is : (a b : ℕ) → Some a ≡ Some b → a ≡ b
some_is a b e = cc

-- the windows of a series that stand have the end of the series
pub one_end : (terms : List Issuing) (ws : List WindowView) (id end : ℕ) → ((k e : ℕ) → end_of ws k ≡ Some e → end_by terms k ≡ Some e) → end_by terms id ≡ Some end
    → (k e : ℕ) → series_of k ≡ series_of id → end_of ws k ≡ Some e → e ≡ end
one_end terms ws id end ends its k e same found = some_is e end (sym (ends k e found) ∙ same_end terms k id same ∙ its)

-- room for one more identity, whose series ends later
pub ends_reserved : (terms : List Issuing) (t id end : ℕ) (ws new : List WindowView) → EndInTime terms t ws → end_by terms id ≡ Some end → t < end
    → ((k : ℕ) → end_of new k ≡ cond (eqb (window_of id) (window_of k)) (Some end) (end_of ws k)) → EndInTime terms t new
ends_reserved terms t id end ws new in_time its live more = record { ends = λ k e found. (both k e found).0; alive = λ k e found. (both k e found).1 }
  where
    by_window : (k e : ℕ) (b : Bool) → eqb (window_of id) (window_of k) ≡ b → cond b (Some end) (end_of ws k) ≡ Some e → (end_by terms k ≡ Some e) × (t < e)
    by_window k e true is found =
        let same : end ≡ e = some_is end e found in
        let window : window_of id ≡ window_of k = eqb-true (window_of id) (window_of k) is in
        let series : series_of k ≡ series_of id = omega (arith, window) in
        (same_end terms k id series ∙ its ∙ found, omega (arith, live, same))
    by_window k e false is found = (in_time.ends k e found, in_time.alive k e found)

    both : (k e : ℕ) → end_of new k ≡ Some e → (end_by terms k ≡ Some e) × (t < e)
    both k e found = by_window k e (eqb (window_of id) (window_of k)) refl (sym (more k) ∙ found)

-- an end that is left at a time was there, and is later
pub later_is : (t : ℕ) (o : Option ℕ) (e : ℕ) → later_than t o ≡ Some e → (o ≡ Some e) × (t < e)
later_is t None e is = absurd cc
later_is t (Some x) e is = go (ltb t x) refl is
  where
    go : (b : Bool) → ltb t x ≡ b → cond b (Some x) None ≡ Some e → (Some x ≡ Some e) × (t < e)
    go true less is = (is, rw (← some_is x e is) (ltb-true t x less))
    go false less is = absurd cc

-- windows whose end has come are dropped
pub ends_dropped : (terms : List Issuing) (u t : ℕ) (ws new : List WindowView) → EndInTime terms u ws → ((k : ℕ) → end_of new k ≡ later_than t (end_of ws k)) → EndInTime terms t new
ends_dropped terms u t ws new in_time later = record {
  ends = λ k e found. in_time.ends k e (later_is t (end_of ws k) e (sym (later k) ∙ found)).0;
  alive = λ k e found. (later_is t (end_of ws k) e (sym (later k) ∙ found)).1;
}
