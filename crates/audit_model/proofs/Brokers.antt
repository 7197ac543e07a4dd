-- Lawful books of several brokers and of vendors of which all was handed out are balanced.
use Rattle.std.proofs.Common.{◌≡◌, ℕ, ◌+◌, ◌^◌, ◌≤◌, ◌<◌, Bool, true, false, cond, not, ◌&&◌, ◌||◌, List, [], ◌∷◌, ◌++◌, Option, Some, None, refl, sym, ap, subst, ◌∙◌, arith, eqb, leb, bytes_eq, count_by, IsTrue}
use Rattle.std.specs.Prelude.{sum_by, filter, filter_map}
use Rattle.std.specs.List.{list_any, cons_option, AllByRecursion}
use Rattle.std.proofs.lemmas.Bool.{eqb-true, eq-eqb, leb-true, leb-false}
use Rattle.std.proofs.lemmas.List.Sums.{sum_by-cons, sum_by-append}
use Rattle.std.proofs.lemmas.List.Filters.{sum_by-filter_both}
use Rattle.scrip_form.specs.Scrip.{Scrip}
use Rattle.mc_requests.specs.declared.limits.Limits.{Limits}
use Rattle.ledger_model.specs.declared.numbers.TheConstants.{VENDOR_KIND, BROKER_KIND}
use Rattle.ledger_model.specs.Histories.{History}
use Rattle.ledger_model.specs.Houses.{site_name}
use Rattle.ledger_model.specs.Pieces.{accepted, own_out, minted}
use Rattle.ledger_model.specs.Stock.{Sale, sales, is_of_vendor, is_of_stock, is_licensed, sold_piece, sold, stock_sold, licensed_sold}
use Rattle.ledger_model.specs.Sums.{values, takings, paid_in, sold_values, outstanding, lapsed}
use Rattle.ledger_model.specs.Laws.{with_id, AreDistinct}
use Rattle.ledger_model.proofs.ListLaws.{counts_cons, counts_append, all_append, all_weaker}
use Rattle.ledger_model.proofs.AcceptLaws.{or_false, other_way}
use Rattle.ledger_model.proofs.MoneyLaws.{sum_same, sum_plus, sum_nothing}
use Rattle.ledger_model.proofs.SerialLaws.{made_once}
use Rattle.ledger_model.proofs.StockLaws.{all_made}
use Rattle.audit_model.specs.Meets.{is_among, AreAmong}
use Rattle.audit_model.specs.Books.{IsBook, HaveOwnNames, broker_sum}
use Rattle.audit_model.specs.Brokers.{sold_by, licensed_by, once_from, once, again_from, again, handed_by, relayed, AreBooksOf, IsGenuineStock, IsHandedOutBy, vendor_sum_by, AreBalanced}
use Rattle.audit_model.proofs.Meeting.{StandOnce}
use Rattle.audit_model.proofs.OwnIssuer.{own_below}
use Rattle.audit_model.proofs.VendorBalance.{vendor_balances, sales_apart, never, not_among}
use Rattle.audit_model.proofs.SoldLaws.{sale_value, IsIssued, picked_values, licensed_high}
use Rattle.audit_model.proofs.Balanced.{own_once, broker_balances, joined}

abbrev has : List ℕ → ℕ → Bool
has seen id = list_any (λ n. eqb n id) seen

-- ---- each identity once

once_count : (seen : List ℕ) (ps : List Scrip) (id : ℕ) → with_id (once_from seen ps) id ≤ cond (has seen id) 0 1
once_count seen [] id = go (has seen id)
  where
    go : (b : Bool) → 0 ≤ cond b 0 1
    go true = omega arith
    go false = omega arith
once_count seen (p ∷ ps) id = go (has seen p.id) refl (once_count seen ps id) (once_count (p.id ∷ seen) ps id)
  where
    new : has seen p.id ≡ false → (b : Bool) → eqb p.id id ≡ b → with_id (once_from (p.id ∷ seen) ps) id ≤ cond (b || has seen id) 0 1
        → with_id (p ∷ once_from (p.id ∷ seen) ps) id ≡ cond b 1 0 + with_id (once_from (p.id ∷ seen) ps) id → with_id (p ∷ once_from (p.id ∷ seen) ps) id ≤ cond (has seen id) 0 1
    new fresh true same le is =
        let free : has seen id ≡ false = ap (has seen) (sym (eqb-true p.id id same)) ∙ fresh in
        let one : cond {A = ℕ} (has seen id) 0 1 ≡ 1 = ap (λ (b : Bool). cond {A = ℕ} b 0 1) free in
        omega (arith, le, is, one)
    new fresh false other le is = omega (arith, le, is)

    go : (b : Bool) → has seen p.id ≡ b → with_id (once_from seen ps) id ≤ cond (has seen id) 0 1 → with_id (once_from (p.id ∷ seen) ps) id ≤ cond (eqb p.id id || has seen id) 0 1
        → with_id (cond b (once_from seen ps) (p ∷ once_from (p.id ∷ seen) ps)) id ≤ cond (has seen id) 0 1
    go true is before after = before
    go false is before after = new is (eqb p.id id) refl after (counts_cons (λ q. eqb q.id id) p (once_from (p.id ∷ seen) ps))

stand_once : (ps : List Scrip) → StandOnce (once ps)
stand_once ps id = once_count [] ps id

-- the values of pieces are those of each once, and of the others
once_and_again : (seen : List ℕ) (ps : List Scrip) → values ps ≡ values (once_from seen ps) + values (again_from seen ps)
once_and_again seen [] = refl
once_and_again seen (p ∷ ps) = go (has seen p.id) (sum_by-cons (λ (x : Scrip). x.value) p ps) (once_and_again seen ps) (once_and_again (p.id ∷ seen) ps)
  where
    go : (b : Bool) → values (p ∷ ps) ≡ p.value + values ps → values ps ≡ values (once_from seen ps) + values (again_from seen ps)
        → values ps ≡ values (once_from (p.id ∷ seen) ps) + values (again_from (p.id ∷ seen) ps)
        → values (p ∷ ps) ≡ values (cond b (once_from seen ps) (p ∷ once_from (p.id ∷ seen) ps)) + values (cond b (p ∷ again_from seen ps) (again_from (p.id ∷ seen) ps))
    go true all before after = let here = sum_by-cons (λ (x : Scrip). x.value) p (again_from seen ps) in omega (arith, all, before, here)
    go false all before after = let here = sum_by-cons (λ (x : Scrip). x.value) p (once_from (p.id ∷ seen) ps) in omega (arith, all, after, here)

once_all : (P : Scrip → Type 0) (seen : List ℕ) (ps : List Scrip) → AllByRecursion P ps → AllByRecursion P (once_from seen ps)
once_all P seen [] all = tt
once_all P seen (p ∷ ps) all = go (has seen p.id) (once_all P seen ps all.1) (once_all P (p.id ∷ seen) ps all.1)
  where
    go : (b : Bool) → AllByRecursion P (once_from seen ps) → AllByRecursion P (once_from (p.id ∷ seen) ps) → AllByRecursion P (cond b (once_from seen ps) (p ∷ once_from (p.id ∷ seen) ps))
    go true before after = before
    go false before after = (all.0, after)

-- pieces whose identities stand once, and neither among those seen nor in front of them, stay
abbrev Fresh : List ℕ → List Scrip → Scrip → Type 0
Fresh seen ps q = (has seen q.id ≡ false) × (list_any (λ p. eqb p.id q.id) ps ≡ false)

or_both : (a b : Bool) → a ≡ false → b ≡ false → (a || b) ≡ false
or_both true b e f = absurd cc
or_both false b e f = f

all_later : (seen : List ℕ) (q : Scrip) (qs : List Scrip) → AllByRecursion (λ r. has seen r.id ≡ false) qs → list_any (λ r. eqb r.id q.id) qs ≡ false → AllByRecursion (λ r. has (q.id ∷ seen) r.id ≡ false) qs
all_later seen q [] all none = tt
all_later seen q (r ∷ rs) all none =
    let parts = or_false (eqb r.id q.id) (list_any (λ x. eqb x.id q.id) rs) none in
    (or_both (eqb q.id r.id) (has seen r.id) (other_way r.id q.id parts.0) all.0, all_later seen q rs all.1 parts.1)

kept_whole : (seen : List ℕ) (ys : List Scrip) → AreDistinct ys → AllByRecursion (λ q. has seen q.id ≡ false) ys → once_from seen ys ≡ ys
kept_whole seen [] distinct fresh = refl
kept_whole seen (q ∷ qs) distinct fresh =
    go (has seen q.id) fresh.0 (kept_whole (q.id ∷ seen) qs distinct.1 (all_later seen q qs fresh.1 distinct.0))
  where
    go : (b : Bool) → b ≡ false → once_from (q.id ∷ seen) qs ≡ qs → cond b (once_from seen qs) (q ∷ once_from (q.id ∷ seen) qs) ≡ q ∷ qs
    go true e ih = absurd cc
    go false e ih = ap (λ (ps : List Scrip). q ∷ ps) ih

once_append : (seen : List ℕ) (xs ys : List Scrip) → AreDistinct ys → AllByRecursion (Fresh seen xs) ys → once_from seen (xs ++ ys) ≡ once_from seen xs ++ ys
once_append seen [] ys distinct fresh = kept_whole seen ys distinct (all_weaker (Fresh seen []) (λ q. has seen q.id ≡ false) (λ q f. f.0) ys fresh)
once_append seen (p ∷ xs) ys distinct fresh =
    go (has seen p.id)
    (once_append seen xs ys distinct (all_weaker (Fresh seen (p ∷ xs)) (Fresh seen xs) (λ q f. (f.0, (or_false (eqb p.id q.id) (list_any (λ x. eqb x.id q.id) xs) f.1).1)) ys fresh))
    (once_append (p.id ∷ seen) xs ys distinct (all_weaker (Fresh seen (p ∷ xs)) (Fresh (p.id ∷ seen) xs)
    (λ q f. let parts = or_false (eqb p.id q.id) (list_any (λ x. eqb x.id q.id) xs) f.1 in (or_both (eqb p.id q.id) (has seen q.id) parts.0 f.0, parts.1)) ys fresh))
  where
    go : (b : Bool) → once_from seen (xs ++ ys) ≡ once_from seen xs ++ ys → once_from (p.id ∷ seen) (xs ++ ys) ≡ once_from (p.id ∷ seen) xs ++ ys
        → cond b (once_from seen (xs ++ ys)) (p ∷ once_from (p.id ∷ seen) (xs ++ ys)) ≡ cond b (once_from seen xs) (p ∷ once_from (p.id ∷ seen) xs) ++ ys
    go true before after = before
    go false before after = ap (λ (ps : List Scrip). p ∷ ps) after

-- ---- a vendor's pieces that brokers sold are of issuers above 0, or minted

abbrev IsProper : History → Scrip → Type 0
IsProper v p = (2 ^ 56 ≤ p.id → ⊥) → IsTrue (is_among (minted v) p)

-- what is sold of a vendor is sold under a licence or out of stock
by_deeds : (Q : Scrip → Type 0) (b : History) (name : List ℕ) (ss : List Sale) → AllByRecursion Q (filter_map (sold_piece b) (filter (is_licensed name) ss)) → AllByRecursion Q (filter_map (sold_piece b) (filter (is_of_stock name) ss))
    → AllByRecursion Q (filter_map (sold_piece b) (filter (is_of_vendor name) ss))
by_deeds Q b name [] licensed stock = tt
by_deeds Q b name (s ∷ ss) licensed stock = go s.stock (bytes_eq s.vendor name) licensed stock (by_deeds Q b name ss)
  where
    lower : List Scrip
    lower = filter_map (sold_piece b) (filter (is_licensed name) ss)

    other : List Scrip
    other = filter_map (sold_piece b) (filter (is_of_stock name) ss)

    all : List Scrip
    all = filter_map (sold_piece b) (filter (is_of_vendor name) ss)

    joins : (o : Option Scrip) (ps : List Scrip) → AllByRecursion Q (cons_option o ps) → AllByRecursion Q ps × (AllByRecursion Q all → AllByRecursion Q (cons_option o all))
    joins None ps q = (q, λ rest. rest)
    joins (Some p) ps q = (q.1, λ rest. (q.0, rest))

    go : (c d : Bool) → AllByRecursion Q (filter_map (sold_piece b) (cond (not c && d) (s ∷ filter (is_licensed name) ss) (filter (is_licensed name) ss)))
        → AllByRecursion Q (filter_map (sold_piece b) (cond (c && d) (s ∷ filter (is_of_stock name) ss) (filter (is_of_stock name) ss)))
        → (AllByRecursion Q lower → AllByRecursion Q other → AllByRecursion Q all)
        → AllByRecursion Q (filter_map (sold_piece b) (cond d (s ∷ filter (is_of_vendor name) ss) (filter (is_of_vendor name) ss)))
    go true true l k ih = let x = joins (sold_piece b s) other k in x.1 (ih l x.0)
    go false true l k ih = let x = joins (sold_piece b s) lower l in x.1 (ih x.0 k)
    go true false l k ih = ih l k
    go false false l k ih = ih l k

all_issued : (limits : Limits) (name : List ℕ) (bs : List History) → AllByRecursion (IsBook limits BROKER_KIND) bs → AllByRecursion IsIssued (licensed_by bs name)
all_issued limits name [] books = tt
all_issued limits name (b ∷ bs) books = all_append IsIssued (licensed_sold b name) (licensed_by bs name) (licensed_high limits 1 b name books.0) (all_issued limits name bs books.1)

among_issued : (ps : List Scrip) (p : Scrip) → AllByRecursion IsIssued ps → is_among ps p ≡ true → IsIssued p
among_issued [] p high among = absurd cc
among_issued (q ∷ qs) p high among = go (eqb q.id p.id) refl among (among_issued qs p high.1)
  where
    go : (b : Bool) → eqb q.id p.id ≡ b → ((b && eqb q.value p.value) || is_among qs p) ≡ true → (is_among qs p ≡ true → IsIssued p) → IsIssued p
    go true same any ih = let is = eqb-true q.id p.id same in let big = high.0 in omega (arith, is, big)
    go false other any ih = ih any

proper : (bs : List History) (v : History) (p : Scrip) → AllByRecursion IsIssued (licensed_by bs (site_name v)) → IsGenuineStock bs v p → IsProper v p
proper bs v p high genuine = go (is_among (minted v) p) genuine
  where
    go : (b : Bool) → (b || is_among (licensed_by bs (site_name v)) p) ≡ true → (2 ^ 56 ≤ p.id → ⊥) → b ≡ true
    go true e low = refl
    go false e low = absurd (low (among_issued (licensed_by bs (site_name v)) p high e))

proper_sales : (limits : Limits) (all bs : List History) (v : History) → AllByRecursion IsIssued (licensed_by all (site_name v)) → AllByRecursion (IsBook limits BROKER_KIND) bs
    → AllByRecursion (λ b. AllByRecursion (IsGenuineStock all v) (stock_sold b (site_name v))) bs → AllByRecursion (IsProper v) (sold_by bs (site_name v))
proper_sales limits all [] v high books stock = tt
proper_sales limits all (b ∷ bs) v high books stock =
    let name = site_name v in
    let own = licensed_high limits 1 b name books.0 in
    all_append (IsProper v) (sold b name) (sold_by bs name)
    (by_deeds (IsProper v) b name (sales b) (all_weaker IsIssued (IsProper v) (λ p big low. absurd (low big)) (licensed_sold b name) own)
    (all_weaker (IsGenuineStock all v) (IsProper v) (λ p. proper all v p high) (stock_sold b name) stock.0))
    (proper_sales limits all bs v high books.1 stock.1)

-- ---- one vendor

abbrev is_high : Scrip → Bool
is_high p = leb (2 ^ 56) p.id

filter_parts : (ps : List Scrip) (id : ℕ) → with_id ps id ≡ with_id (filter is_high ps) id + with_id (filter (λ p. not (is_high p)) ps) id
filter_parts ps id = sym (sum_by-filter_both is_high (λ p. not (is_high p)) (λ p. refl) (λ p. cond (eqb p.id id) 1 0) ps)

kept_high : (ps : List Scrip) → AllByRecursion IsIssued (filter is_high ps)
kept_high [] = tt
kept_high (p ∷ ps) = go (is_high p) refl (kept_high ps)
  where
    go : (b : Bool) → is_high p ≡ b → AllByRecursion IsIssued (filter is_high ps) → AllByRecursion IsIssued (cond b (p ∷ filter is_high ps) (filter is_high ps))
    go true is ih = (leb-true (2 ^ 56) p.id is, ih)
    go false is ih = ih

kept_minted : (v : History) (ps : List Scrip) → AllByRecursion (IsProper v) ps → AreAmong (minted v) (filter (λ p. not (is_high p)) ps)
kept_minted v [] all = tt
kept_minted v (p ∷ ps) all = go (is_high p) refl (kept_minted v ps all.1)
  where
    go : (b : Bool) → is_high p ≡ b → AreAmong (minted v) (filter (λ q. not (is_high q)) ps)
        → AreAmong (minted v) (cond (not b) (p ∷ filter (λ q. not (is_high q)) ps) (filter (λ q. not (is_high q)) ps))
    go true is ih = ih
    go false is ih = let low = leb-false (2 ^ 56) p.id is in (all.0 (λ big. absurd (omega (arith, low, big))), ih)

apart_in_tree : (limits : Limits) (v : History) (ps : List Scrip) → limits.series ≤ 2 ^ 32 → IsBook limits VENDOR_KIND v → AllByRecursion (IsProper v) ps → StandOnce (once ps ++ own_out v)
apart_in_tree limits v ps le book proper =
    let parts = filter_parts (once ps) in
    let one = stand_once ps in
    sales_apart limits v (once ps) (filter is_high (once ps)) (filter (λ p. not (is_high p)) (once ps)) le book parts
    (λ id. omega (arith, parts id, one id)) (kept_high (once ps)) (λ id. omega (arith, parts id, one id)) (kept_minted v (once ps) (once_all (IsProper v) [] ps proper))

present : (qs : List Scrip) → AllByRecursion (λ q. 1 ≤ with_id qs q.id) qs
present [] = tt
present (q ∷ qs) =
    let here = counts_cons (λ x. eqb x.id q.id) q qs in
    let one : cond {A = ℕ} (eqb q.id q.id) 1 0 ≡ 1 = ap (λ (b : Bool). cond {A = ℕ} b 1 0) (eq-eqb q.id q.id refl) in
    (omega (arith, here, one), all_weaker (λ r. 1 ≤ with_id qs r.id) (λ r. 1 ≤ with_id (q ∷ qs) r.id) (λ r le. let more = counts_cons (λ x. eqb x.id r.id) q qs in omega (arith, more, le)) qs (present qs))

count_none : (test : Scrip → Bool) (ps : List Scrip) → count_by test ps ≡ 0 → list_any test ps ≡ false
count_none test [] e = refl
count_none test (p ∷ ps) e = go (test p) (sym (counts_cons test p ps) ∙ e) (count_none test ps)
  where
    go : (b : Bool) → cond b 1 0 + count_by test ps ≡ 0 → (count_by test ps ≡ 0 → list_any test ps ≡ false) → (b || list_any test ps) ≡ false
    go true zero ih = absurd (omega (arith, zero))
    go false zero ih = ih (omega (arith, zero))

once_distinct : (ps : List Scrip) → StandOnce ps → AreDistinct ps
once_distinct [] once = tt
once_distinct (p ∷ ps) once =
    let here = counts_cons (λ q. eqb q.id p.id) p ps in
    let one : cond {A = ℕ} (eqb p.id p.id) 1 0 ≡ 1 = ap (λ (b : Bool). cond {A = ℕ} b 1 0) (eq-eqb p.id p.id refl) in
    let most = once p.id in
    (count_none (λ q. eqb q.id p.id) ps (omega (arith, here, one, most)), once_distinct ps (λ id. let more = counts_cons (λ q. eqb q.id id) p ps in let le = once id in omega (arith, more, le)))

fresh_own : (limits : Limits) (v : History) (ps qs : List Scrip) → limits.series ≤ 2 ^ 32 → IsBook limits VENDOR_KIND v → AllByRecursion (IsProper v) ps
    → AllByRecursion (λ q. q.id < 2 ^ 56) qs → AllByRecursion (λ q. 1 ≤ with_id (own_out v) q.id) qs → AllByRecursion (Fresh [] ps) qs
fresh_own limits v ps [] le book proper small there = tt
fresh_own limits v ps (q ∷ qs) le book proper small there =
    let made = counts_append (λ p. eqb p.id q.id) (own_out v) (minted v) in
    let most = made_once limits v q.id le book.lawful in
    let here = there.0 in
    let low = small.0 in
    let none : with_id (minted v) q.id ≡ 0 = omega (arith, made, most, here) in
    let never_sold = never (IsProper v) q.id ps (λ p is_proper is. not_among (minted v) p (ap (with_id (minted v)) is ∙ none) (is_proper (λ big. absurd (omega (arith, big, low, is))))) proper in
    ((refl, count_none (λ p. eqb p.id q.id) ps never_sold), fresh_own limits v ps qs le book proper small.1 there.1)

one_vendor : (limits : Limits) (bs : List History) (v : History) → limits.series ≤ 2 ^ 32 → AllByRecursion (IsBook limits BROKER_KIND) bs → IsBook limits VENDOR_KIND v → AreAmong (handed_by bs v) (accepted v)
    → AllByRecursion (λ b. AllByRecursion (IsGenuineStock bs v) (stock_sold b (site_name v))) bs
    → values (sold_by bs (site_name v)) ≡ vendor_sum_by bs v + values (again (sold_by bs (site_name v)))
one_vendor limits bs v le brokers book among stock =
    let ps = sold_by bs (site_name v) in
    let proper_ones = proper_sales limits bs bs v (all_issued limits (site_name v) bs brokers) brokers stock in
    let apart = apart_in_tree limits v ps le book proper_ones in
    let own = own_below limits v le book.lawful book.fits in
    let own_ones = own_once limits v le book.lawful in
    let is : handed_by bs v ≡ once ps ++ own_out v = once_append [] ps (own_out v) (once_distinct (own_out v) own_ones) (fresh_own limits v ps (own_out v) le book proper_ones own.0 (present (own_out v))) in
    let balance : values (once ps) ≡ vendor_sum_by bs v =
    subst (λ (hs : List Scrip). values (once ps) ≡ takings v + outstanding hs v + lapsed hs v) (sym is)
    (vendor_balances limits v (once ps) book apart (subst (λ (hs : List Scrip). AreAmong hs (accepted v)) is among)) in
    let split = once_and_again [] ps in
    omega (arith, balance, split)

-- ---- all vendors and all brokers

all_vendors : (limits : Limits) (bs vs : List History) → limits.series ≤ 2 ^ 32 → AllByRecursion (IsBook limits BROKER_KIND) bs → AllByRecursion (IsBook limits VENDOR_KIND) vs
    → AllByRecursion (λ v. AreAmong (handed_by bs v) (accepted v)) vs → AllByRecursion (λ v. AllByRecursion (λ b. AllByRecursion (IsGenuineStock bs v) (stock_sold b (site_name v))) bs) vs
    → sum_by (λ v. values (sold_by bs (site_name v))) vs ≡ sum_by (vendor_sum_by bs) vs + relayed bs vs
all_vendors limits bs [] le brokers vendors among stock = refl
all_vendors limits bs (v ∷ vs) le brokers vendors among stock =
    let one = one_vendor limits bs v le brokers vendors.0 among.0 stock.0 in
    let a = sum_by-cons (λ (w : History). values (sold_by bs (site_name w))) v vs in
    let b = sum_by-cons (vendor_sum_by bs) v vs in
    let c = sum_by-cons (λ (w : History). values (again (sold_by bs (site_name w)))) v vs in
    omega (arith, one, a, b, c, all_vendors limits bs vs le brokers vendors.1 among.1 stock.1)

-- what a broker sold is what it sold of the vendors
one_broker : (limits : Limits) (b : History) (vs : List History) → IsBook limits BROKER_KIND b → HaveOwnNames vs
    → AllByRecursion (λ s. IsTrue (list_any (λ v. bytes_eq s.vendor (site_name v)) vs)) (sales b) → sold_values b ≡ sum_by (λ v. values (sold b (site_name v))) vs
one_broker limits b vs book own known =
    let made = all_made limits b book.lawful in
    sym (joined (sales b) vs own known)
    ∙ sum_same (λ v. sum_by sale_value (filter (is_of_vendor (site_name v)) (sales b))) (λ v. values (sold b (site_name v))) (λ v. sym (picked_values b (is_of_vendor (site_name v)) (sales b) made)) vs

all_brokers : (limits : Limits) (bs vs : List History) → limits.series ≤ 2 ^ 32 → AllByRecursion (IsBook limits BROKER_KIND) bs → AllByRecursion (λ b. AreAmong (own_out b) (accepted b)) bs → HaveOwnNames vs
    → AllByRecursion (λ b. AllByRecursion (λ s. IsTrue (list_any (λ v. bytes_eq s.vendor (site_name v)) vs)) (sales b)) bs
    → sum_by paid_in bs ≡ sum_by broker_sum bs + sum_by (λ v. values (sold_by bs (site_name v))) vs
all_brokers limits [] vs le books among own known =
    let none : sum_by (λ v. values (sold_by [] (site_name v))) vs ≡ 0 = sum_nothing vs in
    omega (arith, none)
all_brokers limits (b ∷ bs) vs le books among own known =
    let one = broker_balances limits b le books.0 among.0 in
    let sales_are = one_broker limits b vs books.0 own known.0 in
    let a = sum_by-cons paid_in b bs in
    let c = sum_by-cons broker_sum b bs in
    let both = sum_same (λ v. values (sold_by (b ∷ bs) (site_name v))) (λ v. values (sold b (site_name v)) + values (sold_by bs (site_name v)))
    (λ v. sum_by-append (λ (p : Scrip). p.value) (sold b (site_name v)) (sold_by bs (site_name v))) vs in
    let parts = sum_plus (λ v. values (sold b (site_name v))) (λ v. values (sold_by bs (site_name v))) vs in
    omega (arith, one, sales_are, a, c, both, parts, all_brokers limits bs vs le books.1 among.1 own known.1)

pub all_balanced : (limits : Limits) (bs vs : List History) → limits.series ≤ 2 ^ 32 → AreBooksOf limits bs vs → IsHandedOutBy bs vs → AreBalanced bs vs
all_balanced limits bs vs le books handed =
    let brokers = all_brokers limits bs vs le books.brokers handed.own books.names books.sold_for in
    let vendors = all_vendors limits bs vs le books.brokers books.vendors handed.accepted_pieces handed.stock in
    omega (arith, brokers, vendors)
