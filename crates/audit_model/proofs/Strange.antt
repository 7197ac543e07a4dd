-- No stranger stands in lawful books exactly where all was handed out.
use Rattle.std.proofs.Common.{◌≡◌, ℕ, ◌+◌, ◌^◌, ◌≤◌, Bool, true, false, cond, not, ◌&&◌, ◌||◌, List, [], ◌∷◌, ◌++◌, Option, Some, None, refl, sym, ap, subst, ◌∙◌, bytes_eq, eqb, option_map, unwrap_or, IsTrue}
use Rattle.std.specs.Prelude.{filter, filter_map, flat_map}
use Rattle.std.specs.List.{list_any, AllByRecursion, cons_option}
use Rattle.scrip_form.specs.Scrip.{Scrip}
use Rattle.mc_requests.specs.declared.limits.Limits.{Limits}
use Rattle.mc_records.specs.Entry.{goods_deed, sale, credit, Entry, Site, Accept}
use Rattle.ledger_model.specs.declared.numbers.TheConstants.{VENDOR_KIND}
use Rattle.ledger_model.specs.Histories.{History}
use Rattle.ledger_model.specs.Houses.{site_name, is_vendor, is_broker}
use Rattle.ledger_model.specs.Pieces.{accepted, accepted_piece, own_out, minted}
use Rattle.ledger_model.specs.Stock.{Sale, sale_of, sales, is_of_stock, sold_piece}
use Rattle.ledger_model.specs.Sums.{handed_out}
use Rattle.ledger_model.specs.Lawful.{unbounded, request_of, IsAllowed, AllFollow}
use Rattle.ledger_model.proofs.TakenLaws.{taken_sale}
use Rattle.ledger_model.proofs.DrawnLaws.{first_kind, not_both}
use Rattle.audit_model.specs.Meets.{is_among, AreAmong}
use Rattle.audit_model.specs.Books.{IsBook, HaveOwnNames, AreBooks, IsHandedOut, IsBalanced}
use Rattle.audit_model.specs.Strangers.{handed_of, is_minted, stranger, sold_stranger, entry_strangers, strangers, first_by, first_from, first_stranger, AreOfMarket}
use Rattle.audit_model.proofs.Balanced.{no_other, balanced}

-- ---- one entry

nothing_in_front : {X : Type 0} (xs ys : List X) → xs ++ ys ≡ [] → (xs ≡ []) × (ys ≡ [])
nothing_in_front [] ys e = (refl, e)
nothing_in_front (x ∷ xs) ys e = absurd cc

-- a piece that is there passes a test
abbrev Passes : (Scrip → Bool) → Option Scrip → Type 0
Passes test (Some p) = IsTrue (test p)
Passes test None = Unit {0}

passed : (test : Scrip → Bool) (o : Option Scrip) → stranger test o ≡ [] → Passes test o
passed test None e = tt
passed test (Some p) e = go (test p) e
  where
    go : (b : Bool) → cond b [] (p.id ∷ []) ≡ [] → b ≡ true
    go true f = refl
    go false f = absurd cc

no_stranger_here : (test : Scrip → Bool) (o : Option Scrip) → Passes test o → stranger test o ≡ []
no_stranger_here test None passes = refl
no_stranger_here test (Some p) passes = ap (λ (b : Bool). cond b [] (p.id ∷ [])) passes

-- the piece of a sale out of stock was minted by its vendor
abbrev IsMinted : List History → History → Sale → Type 0
IsMinted vs h s = s.stock ≡ true → Passes (is_minted vs s.vendor) (sold_piece h s)

sold_passed : (vs : List History) (h : History) (s : Sale) → sold_stranger vs h (Some s) ≡ [] → IsMinted vs h s
sold_passed vs h s e is = go s.stock e is
  where
    go : (b : Bool) → cond b (stranger (is_minted vs s.vendor) (sold_piece h s)) [] ≡ [] → b ≡ true → Passes (is_minted vs s.vendor) (sold_piece h s)
    go true f g = passed (is_minted vs s.vendor) (sold_piece h s) f
    go false f g = absurd cc

no_sold_stranger : (vs : List History) (h : History) (s : Sale) → IsMinted vs h s → sold_stranger vs h (Some s) ≡ []
no_sold_stranger vs h s minted_is = go s.stock minted_is
  where
    go : (b : Bool) → (b ≡ true → Passes (is_minted vs s.vendor) (sold_piece h s)) → cond b (stranger (is_minted vs s.vendor) (sold_piece h s)) [] ≡ []
    go true passes = no_stranger_here (is_minted vs s.vendor) (sold_piece h s) (passes refl)
    go false passes = refl

-- ---- one book

record Met (b : History) (vs : List History) (h es : History) : Type 0 where
  accepted_ones : AreAmong (handed_of b h) (accepted es)
  sold_ones : AllByRecursion (IsMinted vs h) (sales es)

accepted_met : (handed : List Scrip) (o : Option Scrip) (ps : List Scrip) → Passes (is_among handed) o → AreAmong handed ps → AreAmong handed (cons_option o ps)
accepted_met handed None ps passes rest = rest
accepted_met handed (Some p) ps passes rest = (passes, rest)

sold_met : (vs : List History) (h : History) (o : Option Sale) (ss : List Sale) → sold_stranger vs h o ≡ [] → AllByRecursion (IsMinted vs h) ss → AllByRecursion (IsMinted vs h) (cons_option o ss)
sold_met vs h None ss e rest = rest
sold_met vs h (Some s) ss e rest = (sold_passed vs h s e, rest)

met_by : (b : History) (vs : List History) (h es : History) → flat_map (entry_strangers b vs h) es ≡ [] → Met b vs h es
met_by b vs h [] none = record { accepted_ones = tt; sold_ones = tt }
met_by b vs h (e ∷ es) none =
    let here = nothing_in_front (entry_strangers b vs h e) _ none in
    let one = nothing_in_front (stranger (is_among (handed_of b h)) (accepted_piece e)) _ here.0 in
    let more = met_by b vs h es here.1 in
    record {
      accepted_ones = accepted_met (handed_of b h) (accepted_piece e) (accepted es) (passed (is_among (handed_of b h)) (accepted_piece e) one.0) more.accepted_ones;
      sold_ones = sold_met vs h (sale_of e) (sales es) one.1 more.sold_ones;
    }

accepted_one : (handed : List Scrip) (o : Option Scrip) (ps : List Scrip) → AreAmong handed (cons_option o ps) → (stranger (is_among handed) o ≡ []) × AreAmong handed ps
accepted_one handed None ps among = (refl, among)
accepted_one handed (Some p) ps among = (no_stranger_here (is_among handed) (Some p) among.0, among.1)

sold_one : (vs : List History) (h : History) (o : Option Sale) (ss : List Sale) → AllByRecursion (IsMinted vs h) (cons_option o ss) → (sold_stranger vs h o ≡ []) × AllByRecursion (IsMinted vs h) ss
sold_one vs h None ss all = (refl, all)
sold_one vs h (Some s) ss all = (no_sold_stranger vs h s all.0, all.1)

none_by : (b : History) (vs : List History) (h es : History) → AreAmong (handed_of b h) (accepted es) → AllByRecursion (IsMinted vs h) (sales es) → flat_map (entry_strangers b vs h) es ≡ []
none_by b vs h [] among all = refl
none_by b vs h (e ∷ es) among all =
    let one = accepted_one (handed_of b h) (accepted_piece e) (accepted es) among in
    let two = sold_one vs h (sale_of e) (sales es) all in
    ap (λ (ids : List ℕ). (ids ++ sold_stranger vs h (sale_of e)) ++ flat_map (entry_strangers b vs h) es) one.0
    ∙ ap (λ (ids : List ℕ). ids ++ flat_map (entry_strangers b vs h) es) two.0 ∙ none_by b vs h es one.1 two.1

-- ---- the one vendor of a name

pub none_minted : (name : List ℕ) (p : Scrip) (vs : List History) → AllByRecursion (λ v. bytes_eq name (site_name v) ≡ false) vs → is_minted vs name p ≡ false
none_minted name p [] all = refl
none_minted name p (v ∷ vs) all = go (bytes_eq name (site_name v)) all.0 (none_minted name p vs all.1)
  where
    go : (b : Bool) → b ≡ false → is_minted vs name p ≡ false → ((b && is_among (minted v) p) || is_minted vs name p) ≡ false
    go true e ih = absurd cc
    go false e ih = ih

all_vacuous : (name : List ℕ) (p : Scrip) (vs : List History) → AllByRecursion (λ v. bytes_eq name (site_name v) ≡ false) vs
    → AllByRecursion (λ v. bytes_eq name (site_name v) ≡ true → is_among (minted v) p ≡ true) vs
all_vacuous name p [] all = tt
all_vacuous name p (v ∷ vs) all = ((λ same. absurd (not_both (bytes_eq name (site_name v)) same all.0)), all_vacuous name p vs all.1)

left_true : (a b : Bool) → (a || b) ≡ true → b ≡ false → a ≡ true
left_true true b e f = refl
left_true false b e f = absurd cc

-- where names differ, the vendor of a name is the one that minted
pub minted_here : (name : List ℕ) (p : Scrip) (vs : List History) → HaveOwnNames vs → is_minted vs name p ≡ true
    → AllByRecursion (λ v. bytes_eq name (site_name v) ≡ true → is_among (minted v) p ≡ true) vs
minted_here name p [] own any = tt
minted_here name p (v ∷ vs) own any = go (bytes_eq name (site_name v)) refl any (minted_here name p vs own.1)
  where
    go : (b : Bool) → bytes_eq name (site_name v) ≡ b → ((b && is_among (minted v) p) || is_minted vs name p) ≡ true
        → (is_minted vs name p ≡ true → AllByRecursion (λ w. bytes_eq name (site_name w) ≡ true → is_among (minted w) p ≡ true) vs)
        → (bytes_eq name (site_name v) ≡ true → is_among (minted v) p ≡ true) × AllByRecursion (λ w. bytes_eq name (site_name w) ≡ true → is_among (minted w) p ≡ true) vs
    go true is e ih =
        let others = no_other name (site_name v) vs is own.0 in
        ((λ same. left_true (is_among (minted v) p) (is_minted vs name p) e (none_minted name p vs others)), all_vacuous name p vs others)
    go false is e ih = ((λ same. absurd (not_both (bytes_eq name (site_name v)) same is)), ih e)

-- ---- stock that was sold

-- the stock that was sold of a vendor is what it minted
abbrev StockOf : History → List Sale → History → Type 0
StockOf b ss v = AreAmong (minted v) (filter_map (sold_piece b) (filter (is_of_stock (site_name v)) ss))

-- a sale out of stock of a vendor's is of a piece that this vendor minted
abbrev MintedBy : History → Sale → History → Type 0
MintedBy b s v = s.stock ≡ true → bytes_eq s.vendor (site_name v) ≡ true → Passes (is_among (minted v)) (sold_piece b s)

one_more : (b : History) (s : Sale) (ss : List Sale) (vs : List History) → AllByRecursion (MintedBy b s) vs → AllByRecursion (StockOf b ss) vs → AllByRecursion (StockOf b (s ∷ ss)) vs
one_more b s ss [] here rest = tt
one_more b s ss (v ∷ vs) here rest = (go s.stock (bytes_eq s.vendor (site_name v)) here.0, one_more b s ss vs here.1 rest.1)
  where
    go : (c d : Bool) → (c ≡ true → d ≡ true → Passes (is_among (minted v)) (sold_piece b s))
        → AreAmong (minted v) (filter_map (sold_piece b) (cond (c && d) (s ∷ filter (is_of_stock (site_name v)) ss) (filter (is_of_stock (site_name v)) ss)))
    go true true one = accepted_met (minted v) (sold_piece b s) (filter_map (sold_piece b) (filter (is_of_stock (site_name v)) ss)) (one refl refl) rest.0
    go true false one = rest.0
    go false d one = rest.0

one_less : (b : History) (s : Sale) (ss : List Sale) (vs : List History) → AllByRecursion (StockOf b (s ∷ ss)) vs → AllByRecursion (MintedBy b s) vs × AllByRecursion (StockOf b ss) vs
one_less b s ss [] all = (tt, tt)
one_less b s ss (v ∷ vs) all =
    let here = go s.stock (bytes_eq s.vendor (site_name v)) all.0 in
    let more = one_less b s ss vs all.1 in
    ((here.0, more.0), (here.1, more.1))
  where
    rest : List Scrip
    rest = filter_map (sold_piece b) (filter (is_of_stock (site_name v)) ss)

    first : (o : Option Scrip) → AreAmong (minted v) (cons_option o rest) → Passes (is_among (minted v)) o × AreAmong (minted v) rest
    first None among = (tt, among)
    first (Some p) among = among

    go : (c d : Bool) → AreAmong (minted v) (filter_map (sold_piece b) (cond (c && d) (s ∷ filter (is_of_stock (site_name v)) ss) (filter (is_of_stock (site_name v)) ss)))
        → (c ≡ true → d ≡ true → Passes (is_among (minted v)) (sold_piece b s)) × AreAmong (minted v) rest
    go true true among = let parts = first (sold_piece b s) among in ((λ e f. parts.0), parts.1)
    go true false among = ((λ e f. absurd cc), among)
    go false d among = ((λ e f. absurd cc), among)

here_minted : (vs : List History) (b : History) (s : Sale) → HaveOwnNames vs → IsMinted vs b s → AllByRecursion (MintedBy b s) vs
here_minted vs b s own minted_is = under vs (λ is. go (sold_piece b s) (minted_is is))
  where
    go : (o : Option Scrip) → Passes (is_minted vs s.vendor) o → AllByRecursion (λ v. bytes_eq s.vendor (site_name v) ≡ true → Passes (is_among (minted v)) o) vs
    go None passes = nothing vs
      where
        nothing : (ws : List History) → AllByRecursion (λ v. bytes_eq s.vendor (site_name v) ≡ true → Unit {0}) ws
        nothing [] = tt
        nothing (w ∷ ws) = ((λ e. tt), nothing ws)
    go (Some p) passes = minted_here s.vendor p vs own passes

    under : (ws : List History) → (s.stock ≡ true → AllByRecursion (λ v. bytes_eq s.vendor (site_name v) ≡ true → Passes (is_among (minted v)) (sold_piece b s)) ws) → AllByRecursion (MintedBy b s) ws
    under [] all = tt
    under (w ∷ ws) all = ((λ is same. (all is).0 same), under ws (λ is. (all is).1))

no_sales : (b : History) (vs : List History) → AllByRecursion (StockOf b []) vs
no_sales b [] = tt
no_sales b (v ∷ vs) = (tt, no_sales b vs)

stock_met : (b : History) (ss : List Sale) (vs : List History) → HaveOwnNames vs → AllByRecursion (IsMinted vs b) ss → AllByRecursion (StockOf b ss) vs
stock_met b [] vs own all = no_sales b vs
stock_met b (s ∷ ss) vs own all = one_more b s ss vs (here_minted vs b s own all.0) (stock_met b ss vs own all.1)

minted_some : (b : History) (s : Sale) (vs : List History) → s.stock ≡ true → AllByRecursion (MintedBy b s) vs → list_any (λ v. bytes_eq s.vendor (site_name v)) vs ≡ true → Passes (is_minted vs s.vendor) (sold_piece b s)
minted_some b s [] stock all any = absurd cc
minted_some b s (v ∷ vs) stock all any = go (bytes_eq s.vendor (site_name v)) (all.0 stock) any (minted_some b s vs stock all.1)
  where
    by_this : (o : Option Scrip) → Passes (is_among (minted v)) o → Passes (λ p. (true && is_among (minted v) p) || is_minted vs s.vendor p) o
    by_this None passes = tt
    by_this (Some p) passes = ap (λ (t : Bool). t || is_minted vs s.vendor p) passes

    by_others : (o : Option Scrip) → Passes (is_minted vs s.vendor) o → Passes (λ p. (false && is_among (minted v) p) || is_minted vs s.vendor p) o
    by_others None passes = tt
    by_others (Some p) passes = passes

    go : (c : Bool) → (c ≡ true → Passes (is_among (minted v)) (sold_piece b s)) → (c || list_any (λ w. bytes_eq s.vendor (site_name w)) vs) ≡ true
        → (list_any (λ w. bytes_eq s.vendor (site_name w)) vs ≡ true → Passes (is_minted vs s.vendor) (sold_piece b s)) → Passes (λ p. (c && is_among (minted v) p) || is_minted vs s.vendor p) (sold_piece b s)
    go true here e ih = by_this (sold_piece b s) (here refl)
    go false here e ih = by_others (sold_piece b s) (ih e)

all_minted : (b : History) (ss : List Sale) (vs : List History) → AllByRecursion (StockOf b ss) vs → AllByRecursion (λ s. IsTrue (list_any (λ v. bytes_eq s.vendor (site_name v)) vs)) ss → AllByRecursion (IsMinted vs b) ss
all_minted b [] vs stock known = tt
all_minted b (s ∷ ss) vs stock known =
    let parts = one_less b s ss vs stock in
    ((λ is. minted_some b s vs is parts.0 known.0), all_minted b ss vs parts.1 known.1)

-- ---- a vendor sells nothing

no_sale : (limits : Limits) (before : History) (e : Entry) → is_vendor before ≡ true → IsAllowed limits before e → sale_of e ≡ None
no_sale limits before (Accept m scrip target sign price change goods_deed) vendor allowed = refl
no_sale limits before (Accept m scrip target sign price change (credit after)) vendor allowed = refl
no_sale limits before (Accept m scrip target sign price change (sale stock id)) vendor allowed =
    absurd (not_both (is_vendor before) vendor (taken_sale before m (unbounded limits) (request_of scrip target sign) m scrip target sign price change stock id allowed).no_vendor)
no_sale limits before e vendor allowed = refl

abbrev is_vendors : Option ℕ → Bool
is_vendors o = unwrap_or (option_map (λ kind. eqb kind 0) o) false

nothing_sold : (limits : Limits) (x : Entry) (xs es : History) → is_vendor (x ∷ xs) ≡ true → AllFollow limits (x ∷ xs) es → sales es ≡ []
nothing_sold limits x xs [] vendor follow = refl
nothing_sold limits x xs (e ∷ es) vendor follow =
    ap (λ (o : Option Sale). cons_option o (sales es)) (no_sale limits (x ∷ xs) e vendor follow.0.allowed)
    ∙ nothing_sold limits x (xs ++ e ∷ []) es (ap is_vendors (first_kind x (xs ++ e ∷ []) xs) ∙ vendor) follow.1

pub sells_nothing : (limits : Limits) (v : History) → IsBook limits VENDOR_KIND v → sales v ≡ []
sells_nothing limits [] book = absurd book.lawful
sells_nothing limits (Site m kind name house ∷ es) book = nothing_sold limits (Site m kind name house) [] es (ap is_vendors book.site) book.lawful.1
sells_nothing limits (e ∷ es) book = absurd (cc book.site)

-- ---- all books

all_kept : {X : Type 0} (P : X → Type 0) (test : X → Bool) (xs : List X) → AllByRecursion P xs → AllByRecursion (λ x. (test x ≡ true) × P x) (filter test xs)
all_kept P test [] all = tt
all_kept P test (x ∷ xs) all = go (test x) refl (all_kept P test xs all.1)
  where
    go : (b : Bool) → test x ≡ b → AllByRecursion (λ y. (test y ≡ true) × P y) (filter test xs) → AllByRecursion (λ y. (test y ≡ true) × P y) (cond b (x ∷ filter test xs) (filter test xs))
    go true is ih = ((is, all.0), ih)
    go false is ih = ih

no_strangers : (book : ℕ) (b : History) (vs books : List History) → first_from book b vs books ≡ None → AllByRecursion (λ h. strangers b vs h ≡ []) books
no_strangers book b vs [] none = tt
no_strangers book b vs (h ∷ hs) none =
    let one = first_none (strangers b vs h) (first_from (book + 1) b vs hs) none in
    (one.0, no_strangers (book + 1) b vs hs one.1)
  where
    first_none : (ids : List ℕ) (later : Option (ℕ × ℕ)) → first_by book ids later ≡ None → (ids ≡ []) × (later ≡ None)
    first_none [] later e = (refl, e)
    first_none (id ∷ ids) later e = absurd cc

to_vendor : (b v : History) (c : Bool) → c ≡ false → AreAmong (cond c (own_out v) (handed_out b v)) (accepted v) → AreAmong (handed_out b v) (accepted v)
to_vendor b v true e among = absurd cc
to_vendor b v false e among = among

of_vendor : (b v : History) (c : Bool) → c ≡ false → AreAmong (handed_out b v) (accepted v) → AreAmong (cond c (own_out v) (handed_out b v)) (accepted v)
of_vendor b v true e among = absurd cc
of_vendor b v false e among = among

to_broker : (b : History) (c : Bool) → c ≡ true → AreAmong (cond c (own_out b) (handed_out b b)) (accepted b) → AreAmong (own_out b) (accepted b)
to_broker b true e among = among
to_broker b false e among = absurd cc

of_broker : (b : History) (c : Bool) → c ≡ true → AreAmong (own_out b) (accepted b) → AreAmong (cond c (own_out b) (handed_out b b)) (accepted b)
of_broker b true e among = among
of_broker b false e among = absurd cc

not_true : (c : Bool) → not c ≡ true → c ≡ false
not_true true e = absurd cc
not_true false e = refl

vendors_met : (b : History) (all vs : List History) → AllByRecursion (λ h. (not (is_broker h) ≡ true) × (strangers b all h ≡ [])) vs → AllByRecursion (λ v. AreAmong (handed_out b v) (accepted v)) vs
vendors_met b all [] none = tt
vendors_met b all (v ∷ vs) none =
    (to_vendor b v (is_broker v) (not_true (is_broker v) none.0.0) (met_by b all v v none.0.1).accepted_ones, vendors_met b all vs none.1)

-- where no stranger stands, all was handed out
pub no_stranger : (b : History) (vs books : List History) → AreOfMarket b vs books → HaveOwnNames vs → first_stranger b vs books ≡ None → IsHandedOut b vs
no_stranger b vs books market own none =
    let each = no_strangers 0 b vs books none in
    let desk = subst (λ (hs : List History). AllByRecursion (λ h. (is_broker h ≡ true) × (strangers b vs h ≡ [])) hs) market.one_broker (all_kept (λ h. strangers b vs h ≡ []) is_broker books each) in
    let shops = subst (λ (hs : List History). AllByRecursion (λ h. (not (is_broker h) ≡ true) × (strangers b vs h ≡ [])) hs) market.vendors_are (all_kept (λ h. strangers b vs h ≡ []) (λ h. not (is_broker h)) books each) in
    let met = met_by b vs b b desk.0.1 in
    record {
      own = to_broker b (is_broker b) desk.0.0 met.accepted_ones;
      accepted_pieces = vendors_met b vs vs shops;
      stock = stock_met b (sales b) vs own met.sold_ones;
    }

pub no_stranger_balanced : (limits : Limits) (b : History) (vs books : List History) → limits.series ≤ 2 ^ 32 → AreBooks limits b vs → AreOfMarket b vs books → first_stranger b vs books ≡ None → IsBalanced b vs
no_stranger_balanced limits b vs books le lawful market none = balanced limits b vs le lawful (no_stranger b vs books market lawful.names none)

none_first : (book : ℕ) (b : History) (vs books : List History) → AllByRecursion (λ h. strangers b vs h ≡ []) books → first_from book b vs books ≡ None
none_first book b vs [] all = refl
none_first book b vs (h ∷ hs) all = ap (λ (ids : List ℕ). first_by book ids (first_from (book + 1) b vs hs)) all.0 ∙ none_first (book + 1) b vs hs all.1

pub all_merge : {X : Type 0} (P : X → Type 0) (test : X → Bool) (xs : List X) → AllByRecursion (λ x. test x ≡ true → P x) (filter test xs) → AllByRecursion (λ x. test x ≡ false → P x) (filter (λ x. not (test x)) xs) → AllByRecursion P xs
all_merge P test [] yes' no' = tt
all_merge P test (x ∷ xs) yes' no' = go (test x) refl yes' no' (all_merge P test xs)
  where
    go : (b : Bool) → test x ≡ b → AllByRecursion (λ y. test y ≡ true → P y) (cond b (x ∷ filter test xs) (filter test xs))
        → AllByRecursion (λ y. test y ≡ false → P y) (cond (not b) (x ∷ filter (λ y. not (test y)) xs) (filter (λ y. not (test y)) xs))
        → (AllByRecursion (λ y. test y ≡ true → P y) (filter test xs) → AllByRecursion (λ y. test y ≡ false → P y) (filter (λ y. not (test y)) xs) → AllByRecursion P xs)
        → P x × AllByRecursion P xs
    go true is f g ih = (f.0 is, ih f.1 g)
    go false is f g ih = (g.0 is, ih f g.1)

no_vendor_strangers : (limits : Limits) (b : History) (vs ws : List History) → AllByRecursion (IsBook limits VENDOR_KIND) ws → AllByRecursion (λ v. AreAmong (handed_out b v) (accepted v)) ws
    → AllByRecursion (λ v. is_broker v ≡ false → strangers b vs v ≡ []) ws
no_vendor_strangers limits b vs [] books among = tt
no_vendor_strangers limits b vs (v ∷ ws) books among =
    ((λ is. none_by b vs v v (of_vendor b v (is_broker v) is among.0) (subst (AllByRecursion (IsMinted vs v)) (sym (sells_nothing limits v books.0)) tt)), no_vendor_strangers limits b vs ws books.1 among.1)

-- where all was handed out, no stranger stands
pub none_strange : (limits : Limits) (b : History) (vs books : List History) → AreBooks limits b vs → AreOfMarket b vs books → IsHandedOut b vs → first_stranger b vs books ≡ None
none_strange limits b vs books lawful market handed =
    let minted_all = all_minted b (sales b) vs handed.stock lawful.sold_for in
    let desk : AllByRecursion (λ h. is_broker h ≡ true → strangers b vs h ≡ []) (b ∷ []) = ((λ is. none_by b vs b b (of_broker b (is_broker b) is handed.own) minted_all), tt) in
    let shops = no_vendor_strangers limits b vs vs lawful.vendors handed.accepted_pieces in
    none_first 0 b vs books
    (all_merge (λ h. strangers b vs h ≡ []) is_broker books
    (subst (AllByRecursion (λ h. is_broker h ≡ true → strangers b vs h ≡ [])) (sym market.one_broker) desk)
    (subst (AllByRecursion (λ h. is_broker h ≡ false → strangers b vs h ≡ [])) (sym market.vendors_are) shops))
