-- What a lawful book has in stock and sold.
use Rattle.std.proofs.Common.{◌≡◌, ℕ, ◌+◌, ◌≤◌, Bool, true, false, cond, not, ◌&&◌, ◌||◌, List, [], ◌∷◌, ◌++◌, Option, Some, None, refl, sym, ap, subst, ◌∙◌, append_assoc, append-nil, arith, eqb, ltb, bytes_eq, find, map, count_by, option_map, option_and_then, unwrap_or, IsTrue}
use Rattle.std.specs.Prelude.{filter, filter_map}
use Rattle.std.specs.List.{list_any, list_all, cons_option, AllByRecursion}
use Rattle.std.proofs.lemmas.Bool.{eqb-true, eq-eqb, and_parts}
use Rattle.std.proofs.lemmas.List.Elements.{filter_map-append}
use Rattle.std.proofs.lemmas.Option.{same_Some}
use Rattle.std.proofs.lemmas.Slice.Eq.{bytes_eq-Decides}
use Rattle.scrip_form.specs.Identities.{series_of}
use Rattle.scrip_form.specs.Issuing.{Issuing}
use Rattle.scrip_form.specs.Scrip.{Scrip}
use Rattle.mc_requests.specs.declared.limits.Limits.{Limits}
use Rattle.mc_records.specs.Entry.{goods_deed, sale, credit, Held, Entry, Accept, Stock, moment_of}
use Rattle.ledger_model.specs.Histories.{History}
use Rattle.ledger_model.specs.Houses.{version}
use Rattle.ledger_model.specs.Pieces.{in_series, is_first_hand}
use Rattle.ledger_model.specs.Stock.{is_licence_of, licence_terms, licence_in, stock_of, stock_in, held_piece, held_pieces, stock_pieces, ids_of, stock_ids, may_be_stock, are_new, Sale, sale_at, sale_of, sales, is_of_vendor, is_of_stock, is_licensed, is_sold, licensed_count, is_for_sale, licensed_piece, sold_piece, sold, stock_sold, licensed_sold}
use Rattle.ledger_model.specs.Lawful.{unbounded, request_of, IsAllowed, IsLawful}
use Rattle.ledger_model.specs.Taken.{IsSupplied}
use Rattle.ledger_model.specs.Laws.{AreDistinct, HasPiece, with_id}
use Rattle.ledger_model.proofs.ListLaws.{counts_cons, counts_none, once_snoc, all_append, all_weaker, all_snoc, found_passes, found_holds, found_stays}
use Rattle.ledger_model.proofs.AcceptLaws.{snoc_distinct}
use Rattle.ledger_model.proofs.TakenLaws.{taken_sale}
use Rattle.ledger_model.proofs.FollowLaws.{lawful_walk}

-- ---- the sale of a lawful entry

pub supplied_sale : (limits : Limits) (h : History) (e : Entry) (s : Sale) → IsAllowed limits h e → sale_of e ≡ Some s → IsSupplied limits.series h (moment_of e) s.vendor s.value s.stock s.id
supplied_sale limits h (Accept m scrip target sign price change goods_deed) s allowed is = absurd cc
supplied_sale limits h (Accept m scrip target sign price change (credit after)) s allowed is = absurd cc
supplied_sale limits h (Accept m scrip target sign price change (sale stock id)) s allowed is =
    let x = taken_sale h m (unbounded limits) (request_of scrip target sign) m scrip target sign price change stock id allowed in
    subst (λ (y : Sale). IsSupplied limits.series h m y.vendor y.value y.stock y.id)
    (same_Some (record { vendor = x.vendor; value = x.value; stock = stock; id = id }) s (sym (ap (sale_at stock id) x.asks) ∙ is)) x.supplied
supplied_sale limits h e s allowed is = absurd cc

-- ---- stock

stock_snoc : (h : History) (e : Entry) (vendor : List ℕ) → stock_in (h ++ e ∷ []) vendor ≡ stock_in h vendor ++ stock_of vendor e
stock_snoc [] e vendor = append-nil (stock_of vendor e)
stock_snoc (x ∷ xs) e vendor = ap (λ (ps : List Held). stock_of vendor x ++ ps) (stock_snoc xs e vendor) ∙ sym (append_assoc (stock_of vendor x) (stock_in xs vendor) (stock_of vendor e))

pieces_snoc : (h : History) (e : Entry) (vendor : List ℕ) → stock_pieces (h ++ e ∷ []) vendor ≡ stock_pieces h vendor ++ held_pieces (stock_of vendor e)
pieces_snoc h e vendor = ap held_pieces (stock_snoc h e vendor) ∙ filter_map-append held_piece (stock_in h vendor) (stock_of vendor e)

abbrev id_of : Scrip → ℕ
id_of p = p.id

ids_are : (helds : List Held) → ids_of helds ≡ map id_of (held_pieces helds)
ids_are [] = refl
ids_are (x ∷ xs) = go (held_piece x) (ids_are xs)
  where
    go : (o : Option Scrip) → ids_of xs ≡ map id_of (held_pieces xs) → cons_option (option_map (λ p. p.id) o) (ids_of xs) ≡ map id_of (cons_option o (held_pieces xs))
    go None ih = ih
    go (Some p) ih = ap (λ (ids : List ℕ). p.id ∷ ids) ih

-- the identities that are known are those of the pieces
abbrev Same : List ℕ → List Scrip → Type 0
Same known ps = (id : ℕ) → list_any (λ k. eqb k id) known ≡ list_any (λ p. eqb p.id id) ps

mapped_same : (ps : List Scrip) → Same (map id_of ps) ps
mapped_same [] id = refl
mapped_same (p ∷ ps) id = ap (λ (b : Bool). eqb p.id id || b) (mapped_same ps id)

any_snoc : (ps : List Scrip) (p : Scrip) (id : ℕ) → list_any (λ q. eqb q.id id) (ps ++ p ∷ []) ≡ (eqb p.id id || list_any (λ q. eqb q.id id) ps)
any_snoc [] p id = refl
any_snoc (q ∷ qs) p id = ap (λ (b : Bool). eqb q.id id || b) (any_snoc qs p id) ∙ swap (eqb q.id id) (eqb p.id id) (list_any (λ x. eqb x.id id) qs)
  where
    swap : (a b c : Bool) → (a || (b || c)) ≡ (b || (a || c))
    swap true true c = refl
    swap true false c = refl
    swap false b c = refl

not_true : (a : Bool) → not a ≡ true → a ≡ false
not_true true e = absurd cc
not_true false e = refl

new_pieces : (known : List ℕ) (ps qs : List Scrip) → Same known ps → AreDistinct ps → are_new known (map id_of qs) ≡ true → AreDistinct (ps ++ qs)
new_pieces known ps [] same distinct new = subst AreDistinct (sym (append-nil ps)) distinct
new_pieces known ps (q ∷ qs) same distinct new =
    let parts = and_parts (not (list_any (λ k. eqb k q.id) known)) (are_new (q.id ∷ known) (map id_of qs)) new in
    let free : list_any (λ p. eqb p.id q.id) ps ≡ false = sym (same q.id) ∙ not_true _ parts.0 in
    let more : Same (q.id ∷ known) (ps ++ q ∷ []) = λ id. ap (λ (b : Bool). eqb q.id id || b) (same id) ∙ sym (any_snoc ps q id) in
    subst AreDistinct (append_assoc ps (q ∷ []) qs) (new_pieces (q.id ∷ known) (ps ++ q ∷ []) qs more (snoc_distinct ps q distinct free) parts.1)

abbrev pub IsStock : List ℕ → Scrip → Type 0
IsStock vendor p = IsTrue (may_be_stock vendor p)

abbrev pub passes : List ℕ → Held → Bool
passes vendor held = unwrap_or (option_map (may_be_stock vendor) (held_piece held)) false

pub all_stock : (vendor : List ℕ) (helds : List Held) → list_all (passes vendor) helds ≡ true → AllByRecursion (IsStock vendor) (held_pieces helds)
all_stock vendor [] e = tt
all_stock vendor (x ∷ xs) e =
    let parts = and_parts (passes vendor x) (list_all (passes vendor) xs) e in
    go (held_piece x) parts.0 (all_stock vendor xs parts.1)
  where
    go : (o : Option Scrip) → unwrap_or (option_map (may_be_stock vendor) o) false ≡ true → AllByRecursion (IsStock vendor) (held_pieces xs) → AllByRecursion (IsStock vendor) (cons_option o (held_pieces xs))
    go None p rest = rest
    go (Some q) p rest = (p, rest)

-- what the stock of a vendor is: pieces that may be stock, and no identity twice
pub record Stocked (h : History) (vendor : List ℕ) : Type 0 where
  pub fit : AllByRecursion (IsStock vendor) (stock_pieces h vendor)
  pub once : AreDistinct (stock_pieces h vendor)

none_stocked : (h : History) (e : Entry) (vendor : List ℕ) → stock_of vendor e ≡ [] → stock_pieces (h ++ e ∷ []) vendor ≡ stock_pieces h vendor
none_stocked h e vendor none = pieces_snoc h e vendor ∙ ap (λ (xs : List Held). stock_pieces h vendor ++ held_pieces xs) none ∙ append-nil (stock_pieces h vendor)

stay_stocked : (h : History) (e : Entry) (vendor : List ℕ) → stock_of vendor e ≡ [] → Stocked h vendor → Stocked (h ++ e ∷ []) vendor
stay_stocked h e vendor none s = record {
  fit = subst (AllByRecursion (IsStock vendor)) (sym (none_stocked h e vendor none)) s.fit;
  once = subst AreDistinct (sym (none_stocked h e vendor none)) s.once;
}

stock_step : (limits : Limits) (h : History) (e : Entry) → IsAllowed limits h e → ((vendor : List ℕ) → Stocked h vendor) → (vendor : List ℕ) → Stocked (h ++ e ∷ []) vendor
stock_step limits h (Stock m name pieces) allowed stocked vendor = go (bytes_eq name vendor) refl
  where
    parts : (list_all (passes name) pieces ≡ true) × (are_new (stock_ids h name) (ids_of pieces) ≡ true)
    parts = and_parts (list_all (passes name) pieces) (are_new (stock_ids h name) (ids_of pieces)) allowed.1

    here : (n : List ℕ) → name ≡ n → stock_pieces (h ++ Stock m name pieces ∷ []) n ≡ stock_pieces h n ++ held_pieces pieces
    here n is =
        pieces_snoc h (Stock m name pieces) n
        ∙ ap (λ (b : Bool). stock_pieces h n ++ held_pieces (cond b pieces [])) ((bytes_eq-Decides name n).1 is)

    own : AreDistinct (stock_pieces h name ++ held_pieces pieces)
    own =
        let new : are_new (map id_of (stock_pieces h name)) (map id_of (held_pieces pieces)) ≡ true =
        ap (λ (k : List ℕ). are_new k (map id_of (held_pieces pieces))) (sym (ids_are (stock_in h name))) ∙ ap (are_new (stock_ids h name)) (sym (ids_are pieces)) ∙ parts.1 in
        new_pieces (map id_of (stock_pieces h name)) (stock_pieces h name) (held_pieces pieces) (mapped_same (stock_pieces h name)) (stocked name).once new

    go : (b : Bool) → bytes_eq name vendor ≡ b → Stocked (h ++ Stock m name pieces ∷ []) vendor
    go true same =
        let is : name ≡ vendor = (bytes_eq-Decides name vendor).0 same in
        subst (Stocked (h ++ Stock m name pieces ∷ [])) is (record {
          fit = subst (AllByRecursion (IsStock name)) (sym (here name refl)) (all_append (IsStock name) (stock_pieces h name) (held_pieces pieces) (stocked name).fit (all_stock name pieces parts.0));
          once = subst AreDistinct (sym (here name refl)) own;
        })
    go false other = stay_stocked h (Stock m name pieces) vendor (ap (λ (b : Bool). cond b pieces []) other) (stocked vendor)
stock_step limits h e allowed stocked vendor = stay_stocked h e vendor refl (stocked vendor)

-- ---- a piece found by a test is the one found by its identity

not_both : (a : Bool) → a ≡ true → a ≡ false → ⊥
not_both a t f = absurd cc

found_is_there : (test : Scrip → Bool) (ps : List Scrip) (p : Scrip) (n : ℕ) → find test ps ≡ Some p → list_any (λ q. eqb q.id n) ps ≡ false → p.id ≡ n → ⊥
found_is_there test [] p n is none same = absurd cc
found_is_there test (x ∷ xs) p n is none same = go (test x) is (eqb x.id n) refl none (λ e any. found_is_there test xs p n e any same)
  where
    go : (b : Bool) → cond b (Some x) (find test xs) ≡ Some p → (c : Bool) → eqb x.id n ≡ c → (c || list_any (λ q. eqb q.id n) xs) ≡ false
        → (find test xs ≡ Some p → list_any (λ q. eqb q.id n) xs ≡ false → ⊥) → ⊥
    go b e true id_is any ih = absurd cc
    go true e false id_is any ih =
        let p_is : x ≡ p = same_Some x p e in
        not_both (eqb x.id n) (eq-eqb x.id n (ap id_of p_is ∙ same)) id_is
    go false e false id_is any ih = ih e any

found_by_id : (test : Scrip → Bool) (ps : List Scrip) (p : Scrip) → AreDistinct ps → find test ps ≡ Some p → find (λ q. eqb q.id p.id) ps ≡ Some p
found_by_id test [] p distinct is = absurd cc
found_by_id test (x ∷ xs) p distinct is = go (test x) (later (eqb x.id p.id) refl (found_by_id test xs p distinct.1)) is
  where
    later : (c : Bool) → eqb x.id p.id ≡ c → (find test xs ≡ Some p → find (λ q. eqb q.id p.id) xs ≡ Some p) → find test xs ≡ Some p → cond c (Some x) (find (λ q. eqb q.id p.id) xs) ≡ Some p
    later true same ih e = absurd (found_is_there test xs p x.id e distinct.0 (sym (eqb-true x.id p.id same)))
    later false other ih e = ih e

    go : (b : Bool) → (find test xs ≡ Some p → find (λ q. eqb q.id p.id) (x ∷ xs) ≡ Some p) → cond b (Some x) (find test xs) ≡ Some p → find (λ q. eqb q.id p.id) (x ∷ xs) ≡ Some p
    go true ih e = let p_is = same_Some x p e in ap (λ (c : Bool). cond c (Some x) (find (λ q. eqb q.id p.id) xs)) (eq-eqb x.id p.id (ap id_of p_is)) ∙ e
    go false ih e = ih e

-- ---- the piece of a sale

pub licence_stays : (h : History) (e : Entry) (vendor : List ℕ) (t : Issuing) → licence_in h vendor ≡ Some t → licence_in (h ++ e ∷ []) vendor ≡ Some t
licence_stays h e vendor t is = go (find (is_licence_of vendor) h) refl is
  where
    go : (o : Option Entry) → find (is_licence_of vendor) h ≡ o → option_and_then licence_terms o ≡ Some t → licence_in (h ++ e ∷ []) vendor ≡ Some t
    go None f some = absurd cc
    go (Some x) f some = ap (option_and_then licence_terms) (found_stays (is_licence_of vendor) h (e ∷ []) x f) ∙ some

-- after a later entry the piece of a sale is the same, but maybe for its version
has_stays : (h : History) (e : Entry) (s : Sale) → HasPiece h s → HasPiece (h ++ e ∷ []) s
has_stays h e s x = go s.stock refl x.is
  where
    g : History
    g = h ++ e ∷ []

    out_of : History → Bool → Option Scrip
    out_of k b = cond b (find (λ q. eqb q.id s.id) (stock_pieces k s.vendor)) (option_map (λ t. licensed_piece (version k s.vendor (series_of s.id)) t s.vendor s.value s.id) (licence_in k s.vendor))

    of_licence : (o : Option Issuing) → licence_in h s.vendor ≡ o → out_of g s.stock ≡ out_of g false → option_map (λ t. licensed_piece (version h s.vendor (series_of s.id)) t s.vendor s.value s.id) o ≡ Some x.piece → HasPiece g s
    of_licence None f same some = absurd cc
    of_licence (Some t) f same some = record {
      piece = licensed_piece (version g s.vendor (series_of s.id)) t s.vendor s.value s.id;
      is = same ∙ ap (option_map (λ y. licensed_piece (version g s.vendor (series_of s.id)) y s.vendor s.value s.id)) (licence_stays h e s.vendor t f);
      vendor = refl;
      value = refl;
      id = refl;
    }

    go : (b : Bool) → s.stock ≡ b → out_of h s.stock ≡ Some x.piece → HasPiece g s
    go true is f = record {
      piece = x.piece;
      is = ap (out_of g) is ∙ ap (find (λ q. eqb q.id s.id)) (pieces_snoc h e s.vendor)
          ∙ found_stays (λ q. eqb q.id s.id) (stock_pieces h s.vendor) (held_pieces (stock_of s.vendor e)) x.piece (ap (out_of h) (sym is) ∙ f);
      vendor = x.vendor;
      value = x.value;
      id = x.id;
    }
    go false is f = of_licence (licence_in h s.vendor) refl (ap (out_of g) is) (ap (out_of h) (sym is) ∙ f)

has_here : (most m : ℕ) (h : History) (vendor : List ℕ) (value id : ℕ) (stock : Bool) → Stocked h vendor → IsSupplied most h m vendor value stock id → HasPiece h (record { vendor = vendor; value = value; stock = stock; id = id })
has_here most m h vendor value id false stocked made = record {
  piece = licensed_piece (version h vendor (series_of id)) made.terms vendor value id;
  is = ap (option_map (λ t. licensed_piece (version h vendor (series_of id)) t vendor value id)) made.licence;
  vendor = refl;
  value = refl;
  id = refl;
}
has_here most m h vendor value id true stocked from =
    let p = from.piece in
    let test = is_for_sale h m vendor value in
    let by_id = found_by_id test (stock_pieces h vendor) p stocked.once from.first in
    let parts = and_parts (eqb p.value value) (ltb m p.expires && not (is_sold h vendor p.id)) (found_passes test (stock_pieces h vendor) p from.first) in
    let fits = and_parts (bytes_eq p.vendor vendor) (is_first_hand p) (found_holds (IsStock vendor) test (stock_pieces h vendor) p stocked.fit from.first) in
    record {
      piece = p;
      is = subst (λ (n : ℕ). find (λ q. eqb q.id n) (stock_pieces h vendor) ≡ Some p) from.is by_id;
      vendor = (bytes_eq-Decides p.vendor vendor).0 fits.0;
      value = eqb-true p.value value parts.0;
      id = from.is;
    }

-- ---- stock is sold once

abbrev is_this : List ℕ → ℕ → Sale → Bool
is_this vendor id s = is_of_stock vendor s && eqb s.id id

unsold : (most m : ℕ) (h : History) (vendor : List ℕ) (value id : ℕ) → IsSupplied most h m vendor value true id → list_any (is_this vendor id) (sales h) ≡ false
unsold most m h vendor value id from =
    let p = from.piece in
    let passed = found_passes (is_for_sale h m vendor value) (stock_pieces h vendor) p from.first in
    let parts = and_parts (eqb p.value value) (ltb m p.expires && not (is_sold h vendor p.id)) passed in
    let more = and_parts (ltb m p.expires) (not (is_sold h vendor p.id)) parts.1 in
    ap (λ (n : ℕ). is_sold h vendor n) (sym from.is) ∙ not_true (is_sold h vendor p.id) more.1

sold_before : (most m : ℕ) (h : History) (s : Sale) (vendor : List ℕ) (id : ℕ) → IsSupplied most h m s.vendor s.value s.stock s.id → is_this vendor id s ≡ true → count_by (is_this vendor id) (sales h) ≡ 0
sold_before most m h s vendor id supplied same = go s.stock supplied same
  where
    go : (b : Bool) → IsSupplied most h m s.vendor s.value b s.id → ((b && bytes_eq s.vendor vendor) && eqb s.id id) ≡ true → count_by (is_this vendor id) (sales h) ≡ 0
    go false x e = absurd cc
    go true x e =
        let parts = and_parts (bytes_eq s.vendor vendor) (eqb s.id id) e in
        let none : list_any (is_this s.vendor s.id) (sales h) ≡ false = unsold most m h s.vendor s.value s.id x in
        counts_none (is_this vendor id) (sales h)
        (ap (λ (n : List ℕ). list_any (is_this n id) (sales h)) (sym ((bytes_eq-Decides s.vendor vendor).0 parts.0)) ∙ ap (λ (n : ℕ). list_any (is_this s.vendor n) (sales h)) (sym (eqb-true s.id id parts.1)) ∙ none)

-- ---- a lawful history

pub record SoldWell (h : History) : Type 0 where
  pub stocked : (vendor : List ℕ) → Stocked h vendor
  pub made : AllByRecursion (HasPiece h) (sales h)
  pub stock_once : (vendor : List ℕ) (id : ℕ) → count_by (is_this vendor id) (sales h) ≤ 1

pub well_snoc : (limits : Limits) (h : History) (e : Entry) → IsAllowed limits h e → SoldWell h → SoldWell (h ++ e ∷ [])
well_snoc limits h e allowed w = record {
  stocked = stock_step limits h e allowed w.stocked;
  made = all_snoc (HasPiece (h ++ e ∷ [])) sale_of h e (all_weaker (HasPiece h) (HasPiece (h ++ e ∷ [])) (has_stays h e) (sales h) w.made)
      (λ s is. has_stays h e s (has_here limits.series (moment_of e) h s.vendor s.value s.id s.stock (w.stocked s.vendor) (supplied_sale limits h e s allowed is)));
  stock_once = λ vendor id. subst (λ (ss : List Sale). count_by (is_this vendor id) ss ≤ 1) (sym (filter_map-append sale_of h (e ∷ [])))
      (once_snoc (is_this vendor id) (sales h) (sale_of e) (w.stock_once vendor id) (λ s is same. sold_before limits.series (moment_of e) h s vendor id (supplied_sale limits h e s allowed is) same));
}

pub sold_well : (limits : Limits) (h : History) → IsLawful limits h → SoldWell h
sold_well limits h lawful =
    lawful_walk SoldWell limits (λ g e may w. well_snoc limits g e may.allowed w)
    (record { stocked = λ vendor. record { fit = tt; once = tt }; made = tt; stock_once = λ vendor id. omega arith }) h lawful

pub all_made : (limits : Limits) (h : History) → IsLawful limits h → AllByRecursion (HasPiece h) (sales h)
all_made limits h lawful = (sold_well limits h lawful).made

pub stock_stands_once : (limits : Limits) (h : History) (vendor : List ℕ) → IsLawful limits h → AreDistinct (stock_pieces h vendor)
stock_stands_once limits h vendor lawful = ((sold_well limits h lawful).stocked vendor).once

pub stock_fits : (limits : Limits) (h : History) (vendor : List ℕ) → IsLawful limits h → AllByRecursion (λ p. IsTrue (may_be_stock vendor p)) (stock_pieces h vendor)
stock_fits limits h vendor lawful = ((sold_well limits h lawful).stocked vendor).fit

-- ---- pieces by the identities of their sales

abbrev pub HasId : (Sale → Option Scrip) → Sale → Type 0
HasId f s = (p : Scrip) × (f s ≡ Some p) × (p.id ≡ s.id)

-- where each sale has a piece of its identity, a test by identity counts as many pieces as sales
pub pieces_counted : (f : Sale → Option Scrip) (keep : Sale → Bool) (test : ℕ → Bool) (ss : List Sale) → AllByRecursion (HasId f) ss
    → count_by (λ p. test p.id) (filter_map f (filter keep ss)) ≡ count_by (λ s. keep s && test s.id) ss
pieces_counted f keep test [] all = refl
pieces_counted f keep test (s ∷ ss) all = go (keep s) (pieces_counted f keep test ss all.1) (counts_cons (λ x. keep x && test x.id) s ss)
  where
    rest : List Scrip
    rest = filter_map f (filter keep ss)

    go : (b : Bool) → count_by (λ p. test p.id) rest ≡ count_by (λ x. keep x && test x.id) ss → count_by (λ x. keep x && test x.id) (s ∷ ss) ≡ cond (b && test s.id) 1 0 + count_by (λ x. keep x && test x.id) ss
        → count_by (λ p. test p.id) (filter_map f (cond b (s ∷ filter keep ss) (filter keep ss))) ≡ count_by (λ x. keep x && test x.id) (s ∷ ss)
    go false ih here = omega (arith, ih, here)
    go true ih here =
        let x = all.0 in
        let first : count_by (λ p. test p.id) (cons_option (f s) rest) ≡ count_by (λ p. test p.id) (x.0 ∷ rest) = ap (λ (o : Option Scrip). count_by (λ p. test p.id) (cons_option o rest)) x.1 in
        let one : count_by (λ p. test p.id) (x.0 ∷ rest) ≡ cond (test x.0.id) 1 0 + count_by (λ p. test p.id) rest = counts_cons (λ p. test p.id) x.0 rest in
        let same : cond {A = ℕ} (test x.0.id) 1 0 ≡ cond {A = ℕ} (test s.id) 1 0 = ap (λ (n : ℕ). cond {A = ℕ} (test n) 1 0) x.2 in
        omega (arith, first, one, same, ih, here)

-- the same of what was sold
pub sold_counted : (h : History) (keep : Sale → Bool) (test : ℕ → Bool) → SoldWell h → count_by (λ p. test p.id) (filter_map (sold_piece h) (filter keep (sales h))) ≡ count_by (λ s. keep s && test s.id) (sales h)
sold_counted h keep test w = pieces_counted (sold_piece h) keep test (sales h) (all_weaker (HasPiece h) (HasId (sold_piece h)) (λ s x. (x.piece, x.is, x.id)) (sales h) w.made)

pub well_sold_once : (h : History) (vendor : List ℕ) (id : ℕ) → SoldWell h → with_id (stock_sold h vendor) id ≤ 1
well_sold_once h vendor id w =
    let counted = sold_counted h (is_of_stock vendor) (λ n. eqb n id) w in
    omega (arith, counted, w.stock_once vendor id)

pub stock_sold_once : (limits : Limits) (h : History) (vendor : List ℕ) (id : ℕ) → IsLawful limits h → with_id (stock_sold h vendor) id ≤ 1
stock_sold_once limits h vendor id lawful = well_sold_once h vendor id (sold_well limits h lawful)

pub licensed_counted : (limits : Limits) (h : History) (vendor : List ℕ) (series : ℕ) → IsLawful limits h → in_series (licensed_sold h vendor) series ≡ licensed_count h vendor series
licensed_counted limits h vendor series lawful = sold_counted h (is_licensed vendor) (λ n. eqb (series_of n) series) (sold_well limits h lawful)

-- ---- what is sold under a licence, and what out of stock

parts_counted : (f : Sale → Option Scrip) (vendor : List ℕ) (test : Scrip → Bool) (ss : List Sale)
    → count_by test (filter_map f (filter (is_of_vendor vendor) ss)) ≡ count_by test (filter_map f (filter (is_licensed vendor) ss)) + count_by test (filter_map f (filter (is_of_stock vendor) ss))
parts_counted f vendor test [] = refl
parts_counted f vendor test (s ∷ ss) = go s.stock (bytes_eq s.vendor vendor) (f s) (parts_counted f vendor test ss)
  where
    all : List Scrip
    all = filter_map f (filter (is_of_vendor vendor) ss)

    licensed : List Scrip
    licensed = filter_map f (filter (is_licensed vendor) ss)

    stock : List Scrip
    stock = filter_map f (filter (is_of_stock vendor) ss)

    one : (o : Option Scrip) (ps : List Scrip) → count_by test (cons_option o ps) ≡ count_by test (cons_option o []) + count_by test ps
    one None ps = omega arith
    one (Some p) ps = let a = counts_cons test p ps in let b = counts_cons test p [] in omega (arith, a, b)

    go : (a b : Bool) (o : Option Scrip) → count_by test all ≡ count_by test licensed + count_by test stock
        → count_by test (filter_map f (cond b (s ∷ filter (is_of_vendor vendor) ss) (filter (is_of_vendor vendor) ss)))
        ≡ count_by test (filter_map f (cond (not a && b) (s ∷ filter (is_licensed vendor) ss) (filter (is_licensed vendor) ss))) + count_by test (filter_map f (cond (a && b) (s ∷ filter (is_of_stock vendor) ss) (filter (is_of_stock vendor) ss)))
    go true true o ih = omega (arith, ih, one (f s) all, one (f s) stock)
    go false true o ih = omega (arith, ih, one (f s) all, one (f s) licensed)
    go true false o ih = ih
    go false false o ih = ih

-- an identity stands among what was sold of a vendor as often as under his licence and out of his stock
pub sold_parts : (h : History) (vendor : List ℕ) (id : ℕ) → with_id (sold h vendor) id ≡ with_id (licensed_sold h vendor) id + with_id (stock_sold h vendor) id
sold_parts h vendor id = parts_counted (sold_piece h) vendor (λ p. eqb p.id id) (sales h)
