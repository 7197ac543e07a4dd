-- Lawful books of brokers and vendors of which all was handed out are balanced.
use Rattle.std.proofs.Common.{◌≡◌, ℕ, ◌^◌, ◌≤◌, Bool, true, false, cond, not, ◌&&◌, ◌||◌, List, [], ◌∷◌, ◌++◌, Option, Some, None, option_map, refl, subst, IsTrue, bytes_eq, eqb}
use Rattle.std.specs.Prelude.{filter, filter_map}
use Rattle.std.specs.List.{list_any, cons_option, AllByRecursion}
use Rattle.std.proofs.lemmas.Slice.Eq.{bytes_eq-Decides}
use Rattle.scrip_form.specs.Scrip.{Scrip}
use Rattle.mc_requests.specs.declared.limits.Limits.{Limits}
use Rattle.ledger_model.specs.Histories.{History}
use Rattle.ledger_model.specs.Houses.{site_name}
use Rattle.ledger_model.specs.Pieces.{minted}
use Rattle.ledger_model.specs.Stock.{Sale, sales, is_of_stock, sold_piece, stock_sold, licensed_sold}
use Rattle.audit_model.specs.Meets.{is_among}
use Rattle.audit_model.specs.Books.{HaveOwnNames}
use Rattle.audit_model.specs.Brokers.{licensed_by, AreBooksOf, IsGenuineStock, IsHandedOutBy, AreBalanced}
use Rattle.audit_model.specs.Strangers.{is_minted}
use Rattle.audit_model.proofs.Brokers.{all_balanced}
use Rattle.audit_model.proofs.Strange.{minted_here}
use Rattle.relayed_books.specs.Tree.{Sold, sold_as, all_sold, sold_over, is_genuine, AreHandedOut, AreOfTree, first_stranger}
use Rattle.relayed_books.proofs.Strange.{no_stranger}

on_left : (a b : Bool) → a ≡ true → (a || b) ≡ true
on_left true b e = refl
on_left false b e = absurd cc

on_right : (a b : Bool) → b ≡ true → (a || b) ≡ true
on_right true b e = refl
on_right false b e = e

second : (a b : Bool) → (a && b) ≡ true → b ≡ true
second true b e = e
second false b e = absurd cc

-- ---- what another broker sold under a licence

among_append : (xs ys : List Scrip) (p : Scrip) → (is_among xs p || is_among ys p) ≡ true → is_among (xs ++ ys) p ≡ true
among_append [] ys p e = e
among_append (x ∷ xs) ys p e = go (eqb x.id p.id && eqb x.value p.value) e (among_append xs ys p)
  where
    go : (b : Bool) → ((b || is_among xs p) || is_among ys p) ≡ true → ((is_among xs p || is_among ys p) ≡ true → is_among (xs ++ ys) p ≡ true) → (b || is_among (xs ++ ys) p) ≡ true
    go true f ih = refl
    go false f ih = ih f

-- what a broker of another name sold under a licence, some broker did
by_some : (broker name : List ℕ) (p : Scrip) (bs : List History) → list_any (λ b. not (bytes_eq (site_name b) broker) && is_among (licensed_sold b name) p) bs ≡ true → is_among (licensed_by bs name) p ≡ true
by_some broker name p [] any = absurd cc
by_some broker name p (b ∷ bs) any =
    among_append (licensed_sold b name) (licensed_by bs name) p (go (not (bytes_eq (site_name b) broker) && is_among (licensed_sold b name) p) refl any (by_some broker name p bs))
  where
    go : (c : Bool) → (not (bytes_eq (site_name b) broker) && is_among (licensed_sold b name) p) ≡ c → (c || list_any (λ x. not (bytes_eq (site_name x) broker) && is_among (licensed_sold x name) p) bs) ≡ true
        → (list_any (λ x. not (bytes_eq (site_name x) broker) && is_among (licensed_sold x name) p) bs ≡ true → is_among (licensed_by bs name) p ≡ true)
        → (is_among (licensed_sold b name) p || is_among (licensed_by bs name) p) ≡ true
    go true is e ih = on_left (is_among (licensed_sold b name) p) (is_among (licensed_by bs name) p) (second (not (bytes_eq (site_name b) broker)) (is_among (licensed_sold b name) p) is)
    go false is e ih = on_right (is_among (licensed_sold b name) p) (is_among (licensed_by bs name) p) (ih e)

-- ---- one piece

-- of the vendor of this name, a piece is minted or some broker sold it under a licence
abbrev IsGenuineFor : List History → List ℕ → Scrip → History → Type 0
IsGenuineFor bs name p v = bytes_eq name (site_name v) ≡ true → IsGenuineStock bs v p

all_under : {X : Type 0} (P Q : X → Type 0) (xs : List X) → ((x : X) → P x → Q x) → AllByRecursion P xs → AllByRecursion Q xs
all_under P Q [] f all = tt
all_under P Q (x ∷ xs) f all = (f x all.0, all_under P Q xs f all.1)

all_always : {X : Type 0} (P : X → Type 0) (xs : List X) → ((x : X) → P x) → AllByRecursion P xs
all_always P [] f = tt
all_always P (x ∷ xs) f = (f x, all_always P xs f)

genuine_for : (bs vs : List History) (name : List ℕ) (p : Scrip) (broker : List ℕ) → HaveOwnNames vs
    → (is_minted vs name p || list_any (λ b. not (bytes_eq (site_name b) broker) && is_among (licensed_sold b name) p) bs) ≡ true → AllByRecursion (IsGenuineFor bs name p) vs
genuine_for bs vs name p broker own e = go (is_minted vs name p) refl e
  where
    go : (c : Bool) → is_minted vs name p ≡ c → (c || list_any (λ b. not (bytes_eq (site_name b) broker) && is_among (licensed_sold b name) p) bs) ≡ true → AllByRecursion (IsGenuineFor bs name p) vs
    go true is any =
        all_under (λ v. bytes_eq name (site_name v) ≡ true → is_among (minted v) p ≡ true) (IsGenuineFor bs name p) vs
        (λ v here same. on_left (is_among (minted v) p) (is_among (licensed_by bs (site_name v)) p) (here same)) (minted_here name p vs own is)
    go false is any =
        all_always (IsGenuineFor bs name p) vs
        (λ v same. on_right (is_among (minted v) p) (is_among (licensed_by bs (site_name v)) p)
        (subst (λ (n : List ℕ). is_among (licensed_by bs n) p ≡ true) ((bytes_eq-Decides name (site_name v)).0 same) (by_some broker name p bs any)))

-- ---- one book

abbrev IsSold : List History → List History → Sold → Type 0
IsSold bs vs s = IsTrue (is_genuine bs vs s)

-- the stock of a vendor's that a broker sold is genuine
abbrev StockOf : List History → History → List Sale → History → Type 0
StockOf bs b ss v = AllByRecursion (IsGenuineStock bs v) (filter_map (sold_piece b) (filter (is_of_stock (site_name v)) ss))

-- a sale that has a piece is as this piece was sold
abbrev as_sold : History → Sale → Scrip → Sold
as_sold b s p = record { broker = site_name b; vendor = s.vendor; stock = s.stock; piece = p }

first_sold : (bs vs : List History) (b : History) (s : Sale) (o : Option Scrip) (rest : List Sold) → AllByRecursion (IsSold bs vs) (cons_option (option_map (as_sold b s) o) rest)
    → ((p : Scrip) → o ≡ Some p → IsSold bs vs (as_sold b s p)) × AllByRecursion (IsSold bs vs) rest
first_sold bs vs b s None rest all = ((λ p e. absurd cc), all)
first_sold bs vs b s (Some x) rest all = ((λ p e. let same : x ≡ p = cc in subst (λ (y : Scrip). IsSold bs vs (as_sold b s y)) same all.0), all.1)

out_of_stock : (c : Bool) (b : Bool) → (not c || b) ≡ true → c ≡ true → b ≡ true
out_of_stock true b e is = e
out_of_stock false b e is = absurd cc

one_more : (bs : List History) (b : History) (s : Sale) (ss : List Sale) (vs : List History) → (s.stock ≡ true → (p : Scrip) → sold_piece b s ≡ Some p → AllByRecursion (IsGenuineFor bs s.vendor p) vs)
    → AllByRecursion (StockOf bs b ss) vs → AllByRecursion (StockOf bs b (s ∷ ss)) vs
one_more bs b s ss [] here rest = tt
one_more bs b s ss (v ∷ vs) here rest =
    (go s.stock (bytes_eq s.vendor (site_name v)) (λ is p e. (here is p e).0), one_more bs b s ss vs (λ is p e. (here is p e).1) rest.1)
  where
    more : (o : Option Scrip) → ((p : Scrip) → o ≡ Some p → IsGenuineStock bs v p) → AllByRecursion (IsGenuineStock bs v) (cons_option o (filter_map (sold_piece b) (filter (is_of_stock (site_name v)) ss)))
    more None one = rest.0
    more (Some p) one = (one p refl, rest.0)

    go : (c d : Bool) → (c ≡ true → (p : Scrip) → sold_piece b s ≡ Some p → d ≡ true → IsGenuineStock bs v p)
        → AllByRecursion (IsGenuineStock bs v) (filter_map (sold_piece b) (cond (c && d) (s ∷ filter (is_of_stock (site_name v)) ss) (filter (is_of_stock (site_name v)) ss)))
    go true true one = more (sold_piece b s) (λ p e. one refl p e refl)
    go true false one = rest.0
    go false d one = rest.0

stock_of : (bs vs : List History) (b : History) (ss : List Sale) → HaveOwnNames vs → AllByRecursion (IsSold bs vs) (filter_map (sold_as b) ss) → AllByRecursion (StockOf bs b ss) vs
stock_of bs vs b [] own all = all_always (StockOf bs b []) vs (λ v. tt)
stock_of bs vs b (s ∷ ss) own all =
    let parts = first_sold bs vs b s (sold_piece b s) (filter_map (sold_as b) ss) all in
    one_more bs b s ss vs
    (λ is p e. genuine_for bs vs s.vendor p (site_name b) own
    (out_of_stock s.stock (is_minted vs s.vendor p || list_any (λ c. not (bytes_eq (site_name c) (site_name b)) && is_among (licensed_sold c s.vendor) p) bs) (parts.0 p e) is))
    (stock_of bs vs b ss own parts.1)

-- ---- all books

all_parts : {X : Type 0} (P : X → Type 0) (xs ys : List X) → AllByRecursion P (xs ++ ys) → AllByRecursion P xs × AllByRecursion P ys
all_parts P [] ys all = (tt, all)
all_parts P (x ∷ xs) ys all = let more = all_parts P xs ys all.1 in ((all.0, more.0), more.1)

-- of each broker for each vendor, and of each vendor for each broker
turned : (P : History → History → Type 0) (bs vs : List History) → AllByRecursion (λ b. AllByRecursion (P b) vs) bs → AllByRecursion (λ v. AllByRecursion (λ b. P b v) bs) vs
turned P [] vs all = all_always (λ v. AllByRecursion (λ b. P b v) []) vs (λ v. tt)
turned P (b ∷ bs) vs all = zipped vs all.0 (turned P bs vs all.1)
  where
    zipped : (ws : List History) → AllByRecursion (P b) ws → AllByRecursion (λ v. AllByRecursion (λ c. P c v) bs) ws → AllByRecursion (λ v. P b v × AllByRecursion (λ c. P c v) bs) ws
    zipped [] one more = tt
    zipped (w ∷ ws) one more = ((one.0, more.0), zipped ws one.1 more.1)

all_stock : (all vs bs : List History) → HaveOwnNames vs → AllByRecursion (IsSold all vs) (sold_over bs) → AllByRecursion (λ b. AllByRecursion (StockOf all b (sales b)) vs) bs
all_stock all vs [] own genuine = tt
all_stock all vs (b ∷ bs) own genuine =
    let parts = all_parts (IsSold all vs) (all_sold b) (sold_over bs) genuine in
    (stock_of all vs b (sales b) own parts.0, all_stock all vs bs own parts.1)

-- what was handed out by all rules was handed out as the sums ask
pub handed_out_by : (bs vs : List History) → HaveOwnNames vs → AreHandedOut bs vs → IsHandedOutBy bs vs
handed_out_by bs vs own handed = record {
  own = handed.own;
  accepted_pieces = handed.accepted_pieces;
  stock = turned (λ b v. AllByRecursion (IsGenuineStock bs v) (stock_sold b (site_name v))) bs vs (all_stock bs vs bs own handed.genuine);
}

pub tree_balanced : (limits : Limits) (bs vs : List History) → limits.series ≤ 2 ^ 32 → AreBooksOf limits bs vs → AreHandedOut bs vs → AreBalanced bs vs
tree_balanced limits bs vs le books handed = all_balanced limits bs vs le books (handed_out_by bs vs books.names handed)

pub none_balanced : (limits : Limits) (bs vs books : List History) → limits.series ≤ 2 ^ 32 → AreBooksOf limits bs vs → AreOfTree bs vs books → first_stranger bs vs books ≡ None → AreBalanced bs vs
none_balanced limits bs vs books le all tree none = tree_balanced limits bs vs le all (no_stranger limits bs vs books all.vendors tree none)
