-- The request of what is asked, and the piece that it pays with.
use Rattle.std.proofs.Common.{◌≡◌, ℕ, zero, suc, ◌+◌, ◌<◌, true, false, ◌&&◌, List, [], ◌∷◌, ◌++◌, length, map, Option, Some, None, Result, Ok, Err, option_map, unwrap_or, bytes_eq, refl, sym, ap, subst, ◌∙◌, append_assoc, arith, filter}
use Rattle.std.proofs.lemmas.List.{length-append}
use Rattle.std.proofs.lemmas.Slice.Eq.{bytes_eq-Decides}
use Rattle.std.specs.Prelude.{nat_le, filter_map, slice_get, IfOk}
use Rattle.std.specs.List.{AllByRecursion, enumerate_from, cons_option}
use Rattle.scrip_form.specs.Scrip.{Scrip}
use Rattle.mc_requests.specs.declared.refusal.Refusal.{Refusal}
use Rattle.mc_requests.specs.declared.refusal.Refusal.TheVariants.{NothingDue}
use Rattle.mc_requests.specs.Errands as errands
use Rattle.mc_requests.specs.Errands.{IsErrand, errand_text}
use Rattle.mc_requests.proofs.ErrandLaws.{errand_read}
use Rattle.mc_records.specs.Entry.{Entry, Pend}
use Rattle.ledger_model.specs.Histories.{History}
use Rattle.ledger_model.specs.Pieces.{piece_of}
use Rattle.wallet_model.specs.Holdings as model
use Rattle.wallet_model.specs.Holdings.{holdings, is_held, has_held}
use Rattle.wallet_model.specs.Follows.{is_of_vendor, asks_rightly, WalletFollows}
use Rattle.wallet_model.specs.Asks.{Offered, offered_at, is_fit, fit_for, chosen, due, Asking, get, paid_with, pend_entry, or_none_due, due_entry}
use Rattle.wallet_model.specs.Laws.{CanAsk}
use Rattle.wallet_model.proofs.WrittenLaws.{book_is_wallet, chosen_one, due_one, filtered_all, pend_follows}
use Rattle.wallet_book.specs.declared.holding.Holding.{Holding}
use Rattle.wallet_book.specs.declared.holding.State.{State}
use Rattle.wallet_book.specs.declared.holding.State.TheVariants.{Held}
use Rattle.wallet_book.specs.Holdings.{state_of, text_of, holding_of, IsSpelled}
use Rattle.wallet_book.specs.Choosing.{Chooses}
use Rattle.wallet_book.specs.Book.{BookView, WalletRepresents}
use Rattle.wallet_book.proofs.HoldingLaws.{read_back, any_at, get_map}
use Rattle.wallet_core.specs.declared.request.WalletRequest.{WalletRequest}
use Rattle.wallet_core.specs.Requests.{pending_view, pend_of}
use Rattle.wallet_core.specs.declared.ask.Ask.{Ask}
use Rattle.wallet_core.specs.declared.ask.Ask.TheVariants as asks
use Rattle.wallet_core.specs.Asks.{Answers, asking_of, paid_by, paid_by_one, pend_with_entry, peer_of, PaysAt}

-- ---- what is chosen stands among the holdings at its place

record Stands (all : List model.Holding) (o : Offered) : Type 0 where
  here : slice_get all o.place ≡ Some o.holding

middle : (before xs : List model.Holding) (x : model.Holding) → slice_get (before ++ x ∷ xs) (length before) ≡ Some x
middle [] xs x = refl
middle (b ∷ before) xs x = middle before xs x

stand_first : (all : List model.Holding) (n : ℕ) (x : model.Holding) (o : Option Scrip) (os : List Offered) → slice_get all n ≡ Some x → AllByRecursion (Stands all) os
    → AllByRecursion (Stands all) (cons_option (option_map (λ p. record { place = n; holding = x; piece = p }) o) os)
stand_first all n x None os here rest = rest
stand_first all n x (Some p) os here rest = (record { here = here }, rest)

all_stand : (before xs : List model.Holding) (n : ℕ) → n ≡ length before → AllByRecursion (Stands (before ++ xs)) (filter_map offered_at (enumerate_from n xs))
all_stand before [] n is = tt
all_stand before (x ∷ xs) n is =
    let more = all_stand (before ++ x ∷ []) xs (n + 1) (omega (arith, is, length-append before (x ∷ []))) in
    let rest = subst (λ (all : List model.Holding). AllByRecursion (Stands all) (filter_map offered_at (enumerate_from (n + 1) xs))) (append_assoc before (x ∷ []) xs) more in
    stand_first (before ++ x ∷ xs) n x (piece_of x.text) (filter_map offered_at (enumerate_from (n + 1) xs)) (ap (slice_get (before ++ x ∷ xs)) is ∙ middle before xs x) rest

chosen_stands : (h : History) (t : ℕ) (vendor : List ℕ) (limit : ℕ) (o : Offered) → chosen h t vendor limit ≡ Ok o → slice_get (holdings h) o.place ≡ Some o.holding
chosen_stands h t vendor limit o is =
    (chosen_one (Stands (holdings h)) (fit_for h t vendor) (filter (λ x. nat_le limit x.piece.value) (fit_for h t vendor)) o
    (filtered_all (Stands (holdings h)) (λ x. nat_le limit x.piece.value) (fit_for h t vendor) (filtered_all (Stands (holdings h)) (is_fit t vendor) (filter_map offered_at (enumerate_from 0 (holdings h))) (all_stand [] (holdings h) 0 refl))) is).here

due_stands : (h : History) (t : ℕ) (vendor : List ℕ) (before : ℕ) (o : Offered) → due h t vendor before ≡ Some o → slice_get (holdings h) o.place ≡ Some o.holding
due_stands h t vendor before o is =
    (due_one (Stands (holdings h)) (filter (λ x. nat_le x.piece.expires before) (fit_for h t vendor)) o
    (filtered_all (Stands (holdings h)) (λ x. nat_le x.piece.expires before) (fit_for h t vendor) (filtered_all (Stands (holdings h)) (is_fit t vendor) (filter_map offered_at (enumerate_from 0 (holdings h))) (all_stand [] (holdings h) 0 refl))) is).here

-- the piece of the place of the one that is due pays for the renewal
pub due_pays : (h : History) (t : ℕ) (vendor target : List ℕ) (before limit place : ℕ) (e : Entry) → Some place ≡ option_map (λ o. o.place) (due h t vendor before)
    → pend_with_entry h t place (get vendor target limit) ≡ Some e → due_entry h t vendor target before ≡ Ok e
due_pays h t vendor target before limit place e at pays = go (due h t vendor before) refl at
  where
    go : (r : Option Offered) → due h t vendor before ≡ r → Some place ≡ option_map (λ o. o.place) r → paid_with t 0 vendor target (or_none_due r) ≡ Ok e
    go None is none = absurd cc
    go (Some o) is one =
        let same : place ≡ o.place = cc in
        let here : slice_get (holdings h) place ≡ Some o.holding = ap (slice_get (holdings h)) same ∙ due_stands h t vendor before o is in
        let made : Some (Pend t 0 vendor target (Some o.holding.text) o.holding.secret) ≡ Some e = ap (λ (x : Option model.Holding). paid_by_one t x (get vendor target limit)) (sym here) ∙ pays in
        cc

-- nothing is due where there is no place
pub none_due : (h : History) (t : ℕ) (vendor target : List ℕ) (before : ℕ) → None ≡ option_map (λ o. o.place) (due h t vendor before) → due_entry h t vendor target before ≡ Err NothingDue
none_due h t vendor target before none = go (due h t vendor before) none
  where
    go : (r : Option Offered) → None ≡ option_map (λ o. o.place) r → paid_with t 0 vendor target (or_none_due r) ≡ Err NothingDue
    go None e = refl
    go (Some o) e = absurd cc

-- ---- the answer

at_place : (b : BookView) (h : History) (place : ℕ) (x : Holding) → WalletRepresents b h → slice_get b.holdings place ≡ Some x → slice_get (holdings h) place ≡ Some (holding_of x)
at_place b h place x is here = ap (λ (xs : List model.Holding). slice_get xs place) is.parts.pieces ∙ get_map holding_of b.holdings place x here

-- with the piece of the place that was chosen
pub pays_chosen : (b : BookView) (h : History) (ask limit place : ℕ) (peer target : List ℕ) (x : Holding) (p : WalletRequest) → WalletRepresents b h → Chooses (chosen h b.time peer limit) (Ok place)
    → slice_get b.holdings place ≡ Some x → p ≡ record { ask = ask; peer = peer; target = target; scrip = Some (text_of x); secret = x.secret }
    → Answers b.time (paid_with b.time ask peer target (chosen h b.time peer limit)) (Ok p)
pays_chosen b h ask limit place peer target x p is chooses here request = go (chosen h b.time peer limit) refl chooses
  where
    go : (r : Result Offered Refusal) → chosen h b.time peer limit ≡ r → Chooses r (Ok place) → Answers b.time (paid_with b.time ask peer target r) (Ok p)
    go (Err f) e c = absurd cc
    go (Ok o) e c =
        let same : place ≡ o.place = cc in
        let there : slice_get (holdings h) place ≡ Some o.holding = ap (slice_get (holdings h)) same ∙ chosen_stands h b.time peer limit o e in
        let holding : o.holding ≡ holding_of x = let mine = at_place b h place x is here in cc in
        ap (λ (y : model.Holding). Pend b.time ask peer target (Some y.text) y.secret) holding ∙ ap (λ (q : WalletRequest). pend_of b.time (pending_view q)) (sym request)

-- where no piece stands at the place
pub chosen_is_there : (b : BookView) (h : History) (limit place : ℕ) (peer : List ℕ) → WalletRepresents b h → Chooses (chosen h b.time peer limit) (Ok place) → slice_get b.holdings place ≡ None → ⊥
chosen_is_there b h limit place peer is chooses none = go (chosen h b.time peer limit) refl chooses
  where
    not_in : (xs : List Holding) (i : ℕ) → slice_get xs i ≡ None → slice_get (map holding_of xs) i ≡ None
    not_in [] i e = refl
    not_in (x ∷ xs) zero e = absurd cc
    not_in (x ∷ xs) (suc i) e = not_in xs i e

    go : (r : Result Offered Refusal) → chosen h b.time peer limit ≡ r → Chooses r (Ok place) → ⊥
    go (Err f) e c = cc
    go (Ok o) e c =
        let same : place ≡ o.place = cc in
        let there : slice_get (holdings h) place ≡ Some o.holding = ap (slice_get (holdings h)) same ∙ chosen_stands h b.time peer limit o e in
        let mine : slice_get (holdings h) place ≡ None = ap (λ (xs : List model.Holding). slice_get xs place) is.parts.pieces ∙ not_in b.holdings place none in
        cc

pub pays_none : (h : History) (t ask limit : ℕ) (peer target : List ℕ) (f : Refusal) → Chooses (chosen h t peer limit) (Err f) → Answers t (paid_with t ask peer target (chosen h t peer limit)) (Err f)
pays_none h t ask limit peer target f chooses = go (chosen h t peer limit) chooses
  where
    go : (r : Result Offered Refusal) → Chooses r (Err f) → Answers t (paid_with t ask peer target r) (Err f)
    go (Err g) c = let same : f ≡ g = cc in same
    go (Ok o) c = absurd cc

-- ---- what is asked may follow

pub asked_follows : (b : BookView) (h : History) (a : Asking) (r : Result WalletRequest Refusal) → WalletRepresents b h → CanAsk a → Answers b.time (pend_entry h b.time a) r → IfOk r (λ p. WalletFollows h (pend_of b.time (pending_view p)))
asked_follows b h a (Err f) is can answers = tt
asked_follows b h a (Ok p) is can answers = go (pend_entry h b.time a) refl answers
  where
    go : (e : Result Entry Refusal) → pend_entry h b.time a ≡ e → Answers b.time e (Ok p) → WalletFollows h (pend_of b.time (pending_view p))
    go (Ok e) eq answer = subst (WalletFollows h) answer (pend_follows h b.time a e is.lawful is.in_time can eq)
    go (Err f) eq answer = absurd answer

pub low_ask : (n : ℕ) (r : Result WalletRequest Refusal) → n < 3 → IfOk r (λ p. p.ask ≡ n) → IfOk r (λ p. p.ask < 3)
low_ask n (Ok p) low is = omega (arith, low, is)
low_ask n (Err f) low is = tt

-- ---- a piece of a place

held_here : (b : BookView) (h : History) (place : ℕ) (x : Holding) → WalletRepresents b h → slice_get b.holdings place ≡ Some x → x.state ≡ Held → has_held h (text_of x) ≡ true
held_here b h place x is here held =
    let itself : bytes_eq (text_of x) (text_of x) ≡ true = (bytes_eq-Decides (text_of x) (text_of x)).1 refl in
    let state : is_held (state_of x.state) ≡ true = ap (λ (s : State). is_held (state_of s)) held in
    any_at (λ y. bytes_eq y.text (text_of x) && is_held y.state) (holdings h) place (holding_of x) (at_place b h place x is here) (rw (itself, state) refl)

vendors_own : (x : Holding) (peer : List ℕ) → IsSpelled x → x.piece.vendor ≡ peer → is_of_vendor peer (text_of x) ≡ true
vendors_own x peer spelled vendor =
    ap (λ (o : Option Scrip). unwrap_or (option_map (λ q. bytes_eq q.vendor peer) o) false) (read_back (text_of x) x.piece x.cert spelled)
    ∙ (bytes_eq-Decides x.piece.vendor peer).1 vendor

pend_allowed : (b : BookView) (h : History) (ask : ℕ) (peer target scrip secret : List ℕ) → WalletRepresents b h → asks_rightly h ask peer target (Some scrip) ≡ true → WalletFollows h (Pend b.time ask peer target (Some scrip) secret)
pend_allowed b h ask peer target scrip secret is rightly = record { in_order = is.in_time; allowed = let wallet = book_is_wallet h is.lawful in rw (wallet, rightly) refl }

pub get_follows : (b : BookView) (h : History) (place : ℕ) (x : Holding) (peer target : List ℕ) → WalletRepresents b h → slice_get b.holdings place ≡ Some x → x.state ≡ Held → IsSpelled x → x.piece.vendor ≡ peer
    → WalletFollows h (Pend b.time 0 peer target (Some (text_of x)) x.secret)
get_follows b h place x peer target is here held spelled vendor =
    pend_allowed b h 0 peer target (text_of x) x.secret is (let a = held_here b h place x is here held in let v = vendors_own x peer spelled vendor in rw (a, v) refl)

pub buy_follows : (b : BookView) (h : History) (place : ℕ) (x : Holding) (peer vendor : List ℕ) (amount : ℕ) → WalletRepresents b h → slice_get b.holdings place ≡ Some x → x.state ≡ Held → IsSpelled x → x.piece.vendor ≡ peer
    → IsErrand (errands.buy vendor amount) → WalletFollows h (Pend b.time 1 peer (errand_text (errands.buy vendor amount)) (Some (text_of x)) x.secret)
buy_follows b h place x peer vendor amount is here held spelled own errand =
    pend_allowed b h 1 peer (errand_text (errands.buy vendor amount)) (text_of x) x.secret is
    (let a = held_here b h place x is here held in let v = vendors_own x peer spelled own in let read = errand_read (errands.buy vendor amount) errand in rw (a, v, read) refl)

pub at_piece : (b : BookView) (place : ℕ) (ask : Ask) (x : Holding) → PaysAt b place ask → slice_get b.holdings place ≡ Some x → (x.state ≡ Held) × (x.piece.vendor ≡ peer_of ask)
at_piece b place ask x pays here =
    let same : pays.holding ≡ x = let there = pays.here in cc in
    subst (λ (y : Holding). (y.state ≡ Held) × (y.piece.vendor ≡ peer_of ask)) same (pays.held', pays.vendor')

pub paid_here : (b : BookView) (h : History) (place : ℕ) (x : Holding) (a : Asking) → WalletRepresents b h → slice_get b.holdings place ≡ Some x → pend_with_entry h b.time place a ≡ paid_by b.time (holding_of x) a
paid_here b h place x a is here = ap (λ (o : Option model.Holding). paid_by_one b.time o a) (at_place b h place x is here)

pub with_get : (b : BookView) (h : History) (place : ℕ) (ask : Ask) (x : Holding) (q : WalletRequest) (vendor target : List ℕ) (limit : ℕ) → WalletRepresents b h → PaysAt b place ask → slice_get b.holdings place ≡ Some x → IsSpelled x
    → ask ≡ asks.Get vendor target limit → q ≡ record { ask = 0; peer = vendor; target = target; scrip = Some (text_of x); secret = x.secret }
    → (pend_with_entry h b.time place (asking_of ask) ≡ Some (pend_of b.time (pending_view q))) × WalletFollows h (pend_of b.time (pending_view q))
with_get b h place ask x q vendor target limit is pays here spelled what request =
    let at = at_piece b place ask x pays here in
    let own : x.piece.vendor ≡ vendor = at.1 ∙ ap peer_of what in (
      paid_here b h place x (asking_of ask) is here ∙ ap (λ (a : Ask). paid_by b.time (holding_of x) (asking_of a)) what ∙ ap (λ (r : WalletRequest). Some (pend_of b.time (pending_view r))) (sym request),
      subst (λ (r : WalletRequest). WalletFollows h (pend_of b.time (pending_view r))) (sym request) (get_follows b h place x vendor target is here at.0 spelled own),
    )

pub with_buy : (b : BookView) (h : History) (place : ℕ) (ask : Ask) (x : Holding) (q : WalletRequest) (broker vendor target : List ℕ) (amount limit : ℕ) → WalletRepresents b h → PaysAt b place ask → slice_get b.holdings place ≡ Some x → IsSpelled x
    → ask ≡ asks.Buy broker vendor amount limit → target ≡ errand_text (errands.buy vendor amount) → IsErrand (errands.buy vendor amount)
    → q ≡ record { ask = 1; peer = broker; target = target; scrip = Some (text_of x); secret = x.secret }
    → (pend_with_entry h b.time place (asking_of ask) ≡ Some (pend_of b.time (pending_view q))) × WalletFollows h (pend_of b.time (pending_view q))
with_buy b h place ask x q broker vendor target amount limit is pays here spelled what text errand request =
    let at = at_piece b place ask x pays here in
    let own : x.piece.vendor ≡ broker = at.1 ∙ ap peer_of what in
    let made : q ≡ record { ask = 1; peer = broker; target = errand_text (errands.buy vendor amount); scrip = Some (text_of x); secret = x.secret } =
    request ∙ ap (λ (t : List ℕ). with_target t) text in (
      paid_here b h place x (asking_of ask) is here ∙ ap (λ (a : Ask). paid_by b.time (holding_of x) (asking_of a)) what ∙ ap (λ (r : WalletRequest). Some (pend_of b.time (pending_view r))) (sym made),
      subst (λ (r : WalletRequest). WalletFollows h (pend_of b.time (pending_view r))) (sym made) (buy_follows b h place x broker vendor amount is here at.0 spelled own errand),
    )
  where
    with_target : List ℕ → WalletRequest
    with_target t = record { ask = 1; peer = broker; target = t; scrip = Some (text_of x); secret = x.secret }
