-- The serials of the pieces that are sold under a vendor's licence: 0, 1, 2 and so on.
use Rattle.std.proofs.Common.{◌≡◌, ℕ, ◌^◌, ◌<◌, ◌≤◌, Bool, true, false, cond, not, ◌&&◌, List, [], ◌∷◌, ◌++◌, Option, Some, None, refl, sym, ap, subst, ◌∙◌, append-nil, arith, eqb, ltb, bytes_eq}
use Rattle.std.specs.Prelude.{filter, filter_map}
use Rattle.std.specs.List.{cons_option, AllByRecursion}
use Rattle.std.proofs.lemmas.List.Elements.{filter-append, filter_map-append}
use Rattle.std.proofs.lemmas.Slice.Eq.{bytes_eq-Decides}
use Rattle.scrip_form.specs.Identities.{numbered, series_of}
use Rattle.scrip_form.specs.Issuing.{series_at}
use Rattle.scrip_form.specs.Scrip.{Scrip}
use Rattle.mc_requests.specs.declared.limits.Limits.{Limits}
use Rattle.mc_records.specs.Entry.{Entry, moment_of}
use Rattle.ledger_model.specs.Histories.{History}
use Rattle.ledger_model.specs.Pieces.{in_series}
use Rattle.ledger_model.specs.Stock.{Sale, sale_of, sales, is_licensed, licensed_count, licensed_sold}
use Rattle.ledger_model.specs.Lawful.{MayFollow, IsLawful}
use Rattle.ledger_model.specs.Taken.{IsSupplied}
use Rattle.ledger_model.specs.Laws.{HaveNoGap}
use Rattle.ledger_model.proofs.ListLaws.{counts_cons, counts_append}
use Rattle.ledger_model.proofs.SerialLaws.{next_piece, same_gap, empty_no_gap}
use Rattle.ledger_model.proofs.StockLaws.{supplied_sale, SoldWell, sold_well, HasId, pieces_counted, sold_counted}
use Rattle.ledger_model.proofs.FollowLaws.{lawful_walk}

-- a sale's identity, as a piece
abbrev pub stub : Sale → Option Scrip
stub s = Some (record { version = 1; vendor = []; value = 0; id = s.id; cust = 0; expires = 0; props = [] })

abbrev pub licensed : List ℕ → List Sale → List Scrip
licensed vendor ss = filter_map stub (filter (is_licensed vendor) ss)

all_stubs : (ss : List Sale) → AllByRecursion (HasId stub) ss
all_stubs [] = tt
all_stubs (s ∷ ss) = ((record { version = 1; vendor = []; value = 0; id = s.id; cust = 0; expires = 0; props = [] }, refl, refl), all_stubs ss)

series_counted : (h : History) (vendor : List ℕ) (series : ℕ) → in_series (licensed vendor (sales h)) series ≡ licensed_count h vendor series
series_counted h vendor series = pieces_counted stub (is_licensed vendor) (λ n. eqb (series_of n) series) (sales h) (all_stubs (sales h))

licensed_append : (vendor : List ℕ) (xs ys : List Sale) → licensed vendor (xs ++ ys) ≡ licensed vendor xs ++ licensed vendor ys
licensed_append vendor xs ys = ap (filter_map stub) (filter-append (is_licensed vendor) xs ys) ∙ filter_map-append stub (filter (is_licensed vendor) xs) (filter (is_licensed vendor) ys)

gap_snoc : (ps : List Scrip) (p : Scrip) (s : ℕ) → HaveNoGap ps → p.id ≡ numbered s (in_series ps s) → in_series ps s < 2 ^ 32 → HaveNoGap (ps ++ p ∷ [])
gap_snoc ps p s no_gap is lt =
    same_gap (p ∷ ps) (ps ++ p ∷ []) (λ test.
    let a = counts_cons test p ps in
    let b = counts_append test ps (p ∷ []) in
    let c = counts_cons test p [] in
    omega (arith, a, b, c)) (next_piece ps p s no_gap is lt)

-- one more sale, where there is one
sale_no_gap : (most m : ℕ) (h : History) (vendor : List ℕ) (o : Option Sale) → most ≤ 2 ^ 32 → ((s : Sale) → o ≡ Some s → IsSupplied most h m s.vendor s.value s.stock s.id)
    → HaveNoGap (licensed vendor (sales h)) → HaveNoGap (licensed vendor (sales h) ++ licensed vendor (cons_option o []))
sale_no_gap most m h vendor None le supplied no_gap = subst HaveNoGap (sym (append-nil (licensed vendor (sales h)))) no_gap
sale_no_gap most m h vendor (Some s) le supplied no_gap = go s.stock (bytes_eq s.vendor vendor) refl (supplied s refl)
  where
    ps : List Scrip
    ps = licensed vendor (sales h)

    none_more : HaveNoGap (ps ++ [])
    none_more = subst HaveNoGap (sym (append-nil ps)) no_gap

    go : (c b : Bool) → bytes_eq s.vendor vendor ≡ b → IsSupplied most h m s.vendor s.value c s.id → HaveNoGap (ps ++ filter_map stub (cond (not c && b) (s ∷ []) []))
    go true b is made = none_more
    go false false is made = none_more
    go false true is made =
        let k = series_at made.terms m in
        let counted : licensed_count h s.vendor k ≡ in_series ps k = ap (λ (n : List ℕ). licensed_count h n k) ((bytes_eq-Decides s.vendor vendor).0 is) ∙ sym (series_counted h vendor k) in
        gap_snoc ps (record { version = 1; vendor = []; value = 0; id = s.id; cust = 0; expires = 0; props = [] }) k no_gap (made.next ∙ ap (numbered k) counted) (omega (arith, made.room, counted, le))

pub licence_step : (limits : Limits) (h : History) (e : Entry) (vendor : List ℕ) → limits.series ≤ 2 ^ 32 → MayFollow limits h e → HaveNoGap (licensed vendor (sales h)) → HaveNoGap (licensed vendor (sales (h ++ e ∷ [])))
licence_step limits h e vendor le may no_gap =
    subst HaveNoGap (sym (ap (licensed vendor) (filter_map-append sale_of h (e ∷ [])) ∙ licensed_append vendor (sales h) (cons_option (sale_of e) [])))
    (sale_no_gap limits.series (moment_of e) h vendor (sale_of e) le (λ s is. supplied_sale limits h e s may.allowed is) no_gap)

pub licensed_no_gap : (limits : Limits) (h : History) (vendor : List ℕ) → limits.series ≤ 2 ^ 32 → IsLawful limits h → HaveNoGap (licensed vendor (sales h))
licensed_no_gap limits h vendor le lawful =
    lawful_walk (λ g. HaveNoGap (licensed vendor (sales g))) limits (λ g e may no_gap. licence_step limits g e vendor le may no_gap) empty_no_gap h lawful

-- the serials of the sales are those of the pieces
pub sold_no_gap : (h : History) (vendor : List ℕ) → SoldWell h → HaveNoGap (licensed vendor (sales h)) → HaveNoGap (licensed_sold h vendor)
sold_no_gap h vendor w no_gap series serial lt =
    let ids = λ (test : ℕ → Bool). sold_counted h (is_licensed vendor) test w ∙ sym (pieces_counted stub (is_licensed vendor) test (sales h) (all_stubs (sales h))) in
    ids (λ n. eqb n (numbered series serial)) ∙ no_gap series serial lt
    ∙ ap (λ (n : ℕ). cond (ltb serial n) 1 0) (sym (ids (λ n. eqb (series_of n) series)))

-- the serials that a lawful history sold under the licence of a vendor have no gap
pub licensed_serials : (limits : Limits) (h : History) (vendor : List ℕ) → limits.series ≤ 2 ^ 32 → IsLawful limits h → HaveNoGap (licensed_sold h vendor)
licensed_serials limits h vendor le lawful = sold_no_gap h vendor (sold_well limits h lawful) (licensed_no_gap limits h vendor le lawful)
