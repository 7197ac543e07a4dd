-- What one more sale does to the marks.
use Rattle.std.proofs.Common.{◌≡◌, ℕ, Bool, true, false, cond, ◌&&◌, true≢false, List, [], ◌∷◌, ◌++◌, Option, Some, None, option_map, refl, sym, ap, ap₂, ◌∙◌, eqb, eqb-true, eq-eqb, bytes_eq}
use Rattle.std.specs.List.{list_any}
use Rattle.std.proofs.lemmas.Slice.Eq.{bytes_eq-Decides}
use Rattle.name_places.specs.NamePlaces.{NamePlacesView, place_of}
use Rattle.audit_model.specs.declared.part.Part.{Part}
use Rattle.audit_search.proofs.Ties.{turned}
use Rattle.relayed_books.specs.Tree.{Sold, clash}
use Rattle.relayed_books.specs.Seen as seen
use Rattle.relayed_books.specs.Seen.{marked, is_of, mark_from, is_barred}
use Rattle.relayed_books.proofs.SeenLaws.{seen_bars}
use Rattle.tree_search.specs.declared.marks.Mark.{Mark}
use Rattle.tree_search.specs.declared.marks.Marks.{Marks}
use Rattle.tree_search.specs.Marks.{AreApart, mark_view, mark_at, MarksShow, IsSale, barred_by, mark_with}

-- two places are one exactly where the names are
pub same_place : (places : NamePlacesView) (vendor name : List ℕ) (place p : ℕ) → AreApart places → place_of places vendor ≡ Some place → place_of places name ≡ Some p → eqb p place ≡ bytes_eq vendor name
same_place places vendor name place p apart at at' = go (eqb p place) refl (bytes_eq vendor name) refl
  where
    some_is : (a b : ℕ) → Some a ≡ Some b → a ≡ b
    some_is a b e = cc

    go : (x : Bool) → eqb p place ≡ x → (y : Bool) → bytes_eq vendor name ≡ y → eqb p place ≡ bytes_eq vendor name
    go true e true f = e ∙ sym f
    go false e false f = e ∙ sym f
    go true e false f =
        let same : vendor ≡ name = apart vendor name place at (at' ∙ ap (λ (n : ℕ). Some n) (eqb-true p place e)) in
        absurd (true≢false (sym ((bytes_eq-Decides vendor name).1 same) ∙ f))
    go false e true f =
        let same : vendor ≡ name = (bytes_eq-Decides vendor name).0 f in
        let one : Some p ≡ Some place = sym at' ∙ ap (place_of places) (sym same) ∙ at in
        absurd (true≢false (sym (eq-eqb p place (some_is p place one)) ∙ e))

-- with one more sale behind the others
mark_more : (o : Option seen.Mark) (vendor : List ℕ) (id : ℕ) (ts : List Sold) (s : Sold) → mark_from o vendor id (ts ++ s ∷ []) ≡ cond (is_of vendor id s) (Some (marked (mark_from o vendor id ts) s)) (mark_from o vendor id ts)
mark_more o vendor id [] s = refl
mark_more o vendor id (t ∷ ts) s = mark_more (cond (is_of vendor id t) (Some (marked o t)) o) vendor id ts s

-- what the marks tell of a sale
pub barred_is : (m : Marks) (places : NamePlacesView) (place : ℕ) (part : Part) (stock : Bool) (earlier : List Sold) (s : Sold) → MarksShow m places earlier → place_of places s.vendor ≡ Some place → IsSale part stock s
    → barred_by (mark_at m place part.id) part.value stock ≡ list_any (clash s) earlier
barred_is m places place part stock earlier s show at is =
    ap (λ (id : ℕ). barred_by (mark_at m place id) part.value stock) (sym is.id')
    ∙ ap (λ (n : ℕ). barred_by (mark_at m place s.piece.id) n stock) (sym is.value')
    ∙ ap (λ (b : Bool). barred_by (mark_at m place s.piece.id) s.piece.value b) (sym is.stock')
    ∙ alike (mark_at m place s.piece.id)
    ∙ ap (λ (o : Option seen.Mark). is_barred o s) (show s.vendor place s.piece.id at)
    ∙ seen_bars s earlier
  where
    alike : (o : Option Mark) → barred_by o s.piece.value s.stock ≡ is_barred (option_map mark_view o) s
    alike None = refl
    alike (Some x) = refl

-- the marks with one more
pub with_sale : (old new : Marks) (places : NamePlacesView) (place : ℕ) (part : Part) (stock : Bool) (earlier : List Sold) (s : Sold) → AreApart places → MarksShow old places earlier → place_of places s.vendor ≡ Some place → IsSale part stock s
    → ((p id : ℕ) → mark_at new p id ≡ cond (eqb p place && eqb id part.id) (Some (mark_with (mark_at old place part.id) part.value stock)) (mark_at old p id)) → MarksShow new places (earlier ++ s ∷ [])
with_sale old new places place part stock earlier s apart show at is put name p id there =
    ap (option_map mark_view) (put p id)
    ∙ ap (λ (b : Bool). option_map mark_view (cond (b && eqb id part.id) (Some (mark_with (mark_at old place part.id) part.value stock)) (mark_at old p id))) (same_place places s.vendor name place p apart at there)
    ∙ go (bytes_eq s.vendor name) refl (eqb id part.id) refl
    ∙ sym (mark_more None name id earlier s)
  where
    alike : (o : Option Mark) → mark_view (mark_with o part.value stock) ≡ marked (option_map mark_view o) s
    alike o = ap₂ (λ (n : ℕ) (b : Bool). mark_view (mark_with o n b)) (sym is.value') (sym is.stock') ∙ one o
      where
        one : (x : Option Mark) → mark_view (mark_with x s.piece.value s.stock) ≡ marked (option_map mark_view x) s
        one None = refl
        one (Some x) = refl

    here : Option seen.Mark
    here = mark_from None name id earlier

    some : seen.Mark → Option seen.Mark
    some m = Some m

    go : (x : Bool) → bytes_eq s.vendor name ≡ x → (y : Bool) → eqb id part.id ≡ y
        → option_map mark_view (cond (x && y) (Some (mark_with (mark_at old place part.id) part.value stock)) (mark_at old p id)) ≡ cond (x && eqb s.piece.id id) (Some (marked here s)) here
    go false e y f = show name p id there
    go true e false f =
        show name p id there
        ∙ sym (ap (λ (b : Bool). cond b (some (marked here s)) here) (turned s.piece.id id ∙ ap (eqb id) is.id' ∙ f))
    go true e true f =
        ap some (alike (mark_at old place part.id))
        ∙ ap (λ (o : Option seen.Mark). some (marked o s)) (show s.vendor place part.id at)
        ∙ ap₂ (λ (n : List ℕ) (i : ℕ). some (marked (mark_from None n i earlier) s)) ((bytes_eq-Decides s.vendor name).0 e) (sym (eqb-true id part.id f))
        ∙ sym (ap (λ (b : Bool). cond b (some (marked here s)) here) (turned s.piece.id id ∙ ap (eqb id) is.id' ∙ f))

-- a map where a mark was put, by the number of its identity
pub put_mark : (old new : Marks) (place id number p q : ℕ) (x y : Mark) → number ≡ id → x ≡ y → mark_at new p q ≡ cond (eqb place p && eqb number q) (Some x) (mark_at old p q)
    → mark_at new p q ≡ cond (eqb p place && eqb q id) (Some y) (mark_at old p q)
put_mark old new place id number p q x y same is put =
    put
    ∙ ap₂ (λ (a b : Bool). cond (a && b) (Some x) (mark_at old p q)) (turned place p) (turned number q ∙ ap (eqb q) same)
    ∙ ap (λ (m : Mark). cond (eqb p place && eqb q id) (Some m) (mark_at old p q)) is
