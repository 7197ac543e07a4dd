-- What a wallet writes may follow its book, and what a settlement leaves of the piece that paid.
use Rattle.std.proofs.Common.{◌≡◌, ℕ, ◌≤◌, Bool, true, false, ◌&&◌, cond, List, [], ◌∷◌, ◌++◌, length, Option, Some, None, Result, Ok, Err, refl, ap, sym, subst, ◌∙◌, filter, unwrap_or, option_map, bytes_eq, ◌+◌}
use Rattle.std.proofs.lemmas.Slice.Eq.{bytes_eq-Decides}
use Rattle.std.specs.Prelude.{◌==◌, not, nat_lt, nat_le, option_to_list, filter_map, fold}
use Rattle.std.specs.List.{AllByRecursion, list_any, enumerate_from, reduce, cons_option}
use Rattle.scrip_form.specs.Scrip.{Scrip}
use Rattle.mc_requests.specs.declared.refusal.Refusal.{Refusal}
use Rattle.mc_requests.specs.Errands.{errand_of, errand_text}
use Rattle.mc_requests.specs.Errands as errands
use Rattle.mc_requests.proofs.ErrandLaws.{errand_read}
use Rattle.mc_records.specs.Entry.{Held, Entry, Site, Pend, Done, Refused, Switch, moment_of}
use Rattle.mc_records.specs.Chains.{chain, has_switch}
use Rattle.ledger_model.specs.Histories.{History, time}
use Rattle.ledger_model.specs.Pieces.{piece_of}
use Rattle.wallet_model.specs.Requests.{Pending, is_kept, pays_with}
use Rattle.wallet_model.specs.Holdings.{PieceState, used, refused_state, moves, state_in, Holding, holdings, texts_came, is_held, has_held}
use Rattle.wallet_model.specs.Newness.{is_new, are_new}
use Rattle.wallet_model.specs.Follows.{is_wallet, is_of_vendor, is_draw, asks_rightly, settled_texts, entry_allowed, wallet_allows, WalletFollows, IsWalletBook}
use Rattle.wallet_model.specs.Asks.{Offered, offered_at, is_fit, fit_for, lesser, sooner, chosen_of, chosen, Asking, get, buy, draw, paid_with, pend_entry}
use Rattle.millicent_http.specs.Received.{Received}
use Rattle.wallet_model.specs.Settling.{price_of, change_came, if_new, contents_came, got_came, refusal_number, settlement}
use Rattle.wallet_model.specs.Laws.{CanAsk}
use Rattle.wallet_model.proofs.PieceLaws.{state_more}
use Rattle.wallet_model.proofs.KeptLaws.{both_left, both_right}
use Rattle.wallet_model.proofs.CameLaws.{or_right}

-- ---- a lawful book is a wallet's

pub book_is_wallet : (h : History) → IsWalletBook h → is_wallet h ≡ true
book_is_wallet [] book = absurd book
book_is_wallet (Site m kind name house ∷ es) book = both_right (length {A = Entry} [] == 0) (kind == 2) book.0.allowed
book_is_wallet (e ∷ es) book = first e book.0.allowed
  where
    first : (e : Entry) → wallet_allows [] e ≡ true → is_wallet (e ∷ es) ≡ true
    first (Site m kind name house) allowed = both_right (length {A = Entry} [] == 0) (kind == 2) allowed
    first x allowed = absurd cc

-- ---- a Switch

-- one that tells the chain of a book without a Switch may follow it
pub switch_follows : (h : History) (t : ℕ) → IsWalletBook h → time h ≤ t → has_switch h ≡ false → WalletFollows h (Switch t (chain h))
switch_follows h t book at none = record {
  in_order = at;
  allowed = ap (λ (w : Bool). w && (not (has_switch h) && bytes_eq (chain h) (chain h))) (book_is_wallet h book)
      ∙ ap (λ (s : Bool). not s && bytes_eq (chain h) (chain h)) none
      ∙ (bytes_eq-Decides (chain h) (chain h)).1 refl;
}

-- ---- settlements

change_new : (texts : List (List ℕ)) (text : List ℕ) → are_new texts (option_to_list (change_came texts text)) ≡ true
change_new texts text = go (bytes_eq text _) (is_new texts text) refl
  where
    go : (a b : Bool) → is_new texts text ≡ b → are_new texts (option_to_list (cond a None (cond b (Some text) None))) ≡ true
    go true b is = refl
    go false true is = rw is refl
    go false false is = refl

got_new : (texts : List (List ℕ)) (o : Option Held) → are_new texts (option_to_list (option_map (λ p. p.text) (if_new texts o))) ≡ true
got_new texts None = refl
got_new texts (Some x) = go (is_new texts x.text) refl
  where
    go : (b : Bool) → is_new texts x.text ≡ b → are_new texts (option_to_list (option_map (λ p. p.text) (cond b (Some x) None))) ≡ true
    go true is = rw is refl
    go false is = refl

both_new : (texts : List (List ℕ)) (change : Option (List ℕ)) (got : List (List ℕ)) → are_new texts (option_to_list change) ≡ true → are_new (option_to_list change ++ texts) got ≡ true → are_new texts (option_to_list change ++ got) ≡ true
both_new texts None got first rest = rest
both_new texts (Some text) got first rest = let new : is_new texts text ≡ true = both_left (is_new texts text) true first in rw (new, rest) refl

settled_new : (texts : List (List ℕ)) (r : Received) (ask : ℕ) → are_new texts (settled_texts (change_came texts r.change) (got_came texts (change_came texts r.change) ask r.contents)) ≡ true
settled_new texts r ask =
    let change = change_came texts r.change in
    both_new texts change (option_to_list (option_map (λ p. p.text) (got_came texts change ask r.contents))) (change_new texts r.change) (got_new (option_to_list change ++ texts) (contents_came ask r.contents))

pub settlement_allowed : (h : History) (t n : ℕ) (p : Pending) (r : Received) → is_wallet h ≡ true → is_kept h n ≡ true → wallet_allows h (settlement h t n p r) ≡ true
unfolding settlement
settlement_allowed h t n p r wallet kept = go (r.status == 200)
  where
    go : (b : Bool) → wallet_allows h (cond b (Done t n (unwrap_or (price_of r) 0) (change_came (texts_came h) r.change) (got_came (texts_came h) (change_came (texts_came h) r.change) p.ask r.contents)) (Refused t n (refusal_number r.refusal))) ≡ true
    go true = rw (wallet, kept, settled_new (texts_came h) r p.ask) refl
    go false = rw (wallet, kept) refl

settled_moment : (h : History) (t n : ℕ) (p : Pending) (r : Received) → moment_of (settlement h t n p r) ≡ t
unfolding settlement
settled_moment h t n p r = go (r.status == 200)
  where
    go : (b : Bool) → moment_of (cond b (Done t n (unwrap_or (price_of r) 0) (change_came (texts_came h) r.change) (got_came (texts_came h) (change_came (texts_came h) r.change) p.ask r.contents)) (Refused t n (refusal_number r.refusal))) ≡ t
    go true = refl
    go false = refl

pub settlement_follows : (h : History) (t n : ℕ) (p : Pending) (r : Received) → IsWalletBook h → time h ≤ t → is_kept h n ≡ true → WalletFollows h (settlement h t n p r)
settlement_follows h t n p r book le kept = record {
  in_order = subst (λ (m : ℕ). time h ≤ m) (sym (settled_moment h t n p r)) le;
  allowed = settlement_allowed h t n p r (book_is_wallet h book) kept;
}

-- ---- the state that a settlement leaves

settled_moves : (h : History) (t n : ℕ) (p : Pending) (r : Received) (text : List ℕ) → moves h text (settlement h t n p r) ≡ cond (pays_with h n text) (Some (cond (r.status == 200) used (refused_state (refusal_number r.refusal)))) None
unfolding settlement
settled_moves h t n p r text = go (r.status == 200)
  where
    go : (b : Bool) → moves h text (cond b (Done t n (unwrap_or (price_of r) 0) (change_came (texts_came h) r.change) (got_came (texts_came h) (change_came (texts_came h) r.change) p.ask r.contents)) (Refused t n (refusal_number r.refusal)))
        ≡ cond (pays_with h n text) (Some (cond b used (refused_state (refusal_number r.refusal)))) None
    go true = refl
    go false = refl

pub settled_state : (h : History) (t n : ℕ) (p : Pending) (r : Received) (text : List ℕ) → pays_with h n text ≡ true
    → state_in (h ++ settlement h t n p r ∷ []) text ≡ cond (r.status == 200) used (refused_state (refusal_number r.refusal))
settled_state h t n p r text pays =
    state_more h (settlement h t n p r) text ∙ ap (λ (o : Option PieceState). unwrap_or o (state_in h text)) (settled_moves h t n p r text) ∙ (rw pays refl)

pub others_state : (h : History) (t n : ℕ) (p : Pending) (r : Received) (text : List ℕ) → pays_with h n text ≡ false
    → state_in (h ++ settlement h t n p r ∷ []) text ≡ state_in h text
others_state h t n p r text pays =
    state_more h (settlement h t n p r) text ∙ ap (λ (o : Option PieceState). unwrap_or o (state_in h text)) (settled_moves h t n p r text) ∙ (rw pays refl)

-- ---- what is chosen

-- a piece of some holdings that is held, has not expired at a time, and is a vendor's
record IsFit (t : ℕ) (vendor : List ℕ) (all : List Holding) (o : Offered) : Type 0 where
  fit : is_fit t vendor o ≡ true
  piece : piece_of o.holding.text ≡ Some o.piece
  stands : list_any (λ x. bytes_eq x.text o.holding.text && is_held x.state) all ≡ true

abbrev AreFit : ℕ → List ℕ → List Holding → List Offered → Type 0
AreFit t vendor all os = AllByRecursion (IsFit t vendor all) os

fit_behind : (t : ℕ) (vendor : List ℕ) (x : Holding) (all : List Holding) (os : List Offered) → AreFit t vendor all os → AreFit t vendor (x ∷ all) os
fit_behind t vendor x all [] fit = tt
fit_behind t vendor x all (o ∷ os) fit = (
  record {
    fit = fit.0.fit;
    piece = fit.0.piece;
    stands = or_right (bytes_eq x.text o.holding.text && is_held x.state) _ fit.0.stands;
  },
  fit_behind t vendor x all os fit.1,
)

fit_first : (t : ℕ) (vendor : List ℕ) (n : ℕ) (x : Holding) (all : List Holding) (o : Option Scrip) (os : List Offered) → piece_of x.text ≡ o → AreFit t vendor (x ∷ all) (filter (is_fit t vendor) os)
    → AreFit t vendor (x ∷ all) (filter (is_fit t vendor) (cons_option (option_map (λ p. record { place = n; holding = x; piece = p }) o) os))
fit_first t vendor n x all None os is rest = rest
fit_first t vendor n x all (Some p) os is rest = go (is_fit t vendor (record { place = n; holding = x; piece = p })) refl
  where
    go : (b : Bool) → is_fit t vendor (record { place = n; holding = x; piece = p }) ≡ b
        → AreFit t vendor (x ∷ all) (cond b ((record { place = n; holding = x; piece = p }) ∷ filter (is_fit t vendor) os) (filter (is_fit t vendor) os))
    go false other = rest
    go true fit =
        let itself : bytes_eq x.text x.text ≡ true = (bytes_eq-Decides x.text x.text).1 refl in
        let free : is_held x.state ≡ true = both_left (is_held x.state) _ fit in
        (record { fit = fit; piece = is; stands = rw (itself, free) refl }, rest)

fit_all : (t : ℕ) (vendor : List ℕ) (n : ℕ) (all : List Holding) → AreFit t vendor all (filter (is_fit t vendor) (filter_map offered_at (enumerate_from n all)))
fit_all t vendor n [] = tt
fit_all t vendor n (x ∷ all) =
    fit_first t vendor n x all (piece_of x.text) (filter_map offered_at (enumerate_from (n + 1) all)) refl
    (fit_behind t vendor x all (filter (is_fit t vendor) (filter_map offered_at (enumerate_from (n + 1) all))) (fit_all t vendor (n + 1) all))

same_ok : {A : Type 0} (x y : A) (r : Result A Refusal) → r ≡ Ok x → r ≡ Ok y → x ≡ y
same_ok x y r a b = cc

pub filtered_all : {A : Type 0} (P : A → Type 0) (f : A → Bool) (xs : List A) → AllByRecursion P xs → AllByRecursion P (filter f xs)
filtered_all P f [] all = tt
filtered_all P f (x ∷ xs) all = go (f x) (filtered_all P f xs all.1)
  where
    go : (b : Bool) → AllByRecursion P (filter f xs) → AllByRecursion P (cond b (x ∷ filter f xs) (filter f xs))
    go true rest = (all.0, rest)
    go false rest = rest

-- what holds of some pieces holds of the one that is picked out of them, two by two
picked : (P : Offered → Type 0) (pick : Offered → Offered → Offered) → ((a b : Offered) → P a → P b → P (pick a b)) → (o : Offered) (os : List Offered) → P o → AllByRecursion P os → P (fold pick o os)
picked P pick either o [] p all = p
picked P pick either o (x ∷ xs) p all = picked P pick either (pick o x) xs (either o x p all.0) all.1

one_of : (P : Offered → Type 0) (a b : Offered) (second : Bool) → P a → P b → P (cond second b a)
one_of P a b true p q = q
one_of P a b false p q = p

pub chosen_one : (P : Offered → Type 0) (fit os : List Offered) (o : Offered) → AllByRecursion P os → chosen_of fit (reduce lesser os) ≡ Ok o → P o
chosen_one P fit [] o all is = absurd cc
chosen_one P fit (x ∷ xs) o all is =
    subst P (same_ok (fold lesser x xs) o (Ok (fold lesser x xs)) refl is)
    (picked P lesser (λ a b. one_of P a b (nat_lt b.piece.value a.piece.value)) x xs all.0 all.1)

pub due_one : (P : Offered → Type 0) (os : List Offered) (o : Offered) → AllByRecursion P os → reduce sooner os ≡ Some o → P o
due_one P [] o all is = absurd cc
due_one P (x ∷ xs) o all is =
    let same : fold sooner x xs ≡ o = cc in
    subst P same (picked P sooner (λ a b. one_of P a b (nat_lt b.piece.expires a.piece.expires)) x xs all.0 all.1)

-- the piece that is chosen is held, and its vendor's
chosen_fits : (h : History) (t : ℕ) (vendor : List ℕ) (limit : ℕ) (o : Offered) → chosen h t vendor limit ≡ Ok o → IsFit t vendor (holdings h) o
chosen_fits h t vendor limit o is =
    chosen_one (IsFit t vendor (holdings h)) (fit_for h t vendor) (filter (λ x. nat_le limit x.piece.value) (fit_for h t vendor)) o
    (filtered_all (IsFit t vendor (holdings h)) (λ x. nat_le limit x.piece.value) (fit_for h t vendor) (fit_all t vendor 0 (holdings h))) is

-- ---- what is asked

pays_rightly : (h : History) (t : ℕ) (vendor : List ℕ) (o : Offered) → IsFit t vendor (holdings h) o → (has_held h o.holding.text ≡ true) × (is_of_vendor vendor o.holding.text ≡ true)
pays_rightly h t vendor o fit =
    let vendors : bytes_eq o.piece.vendor vendor ≡ true = both_right (nat_lt t o.piece.expires) _ (both_right (is_held o.holding.state) _ fit.fit) in
    (fit.stands, ap (λ (p : Option Scrip). unwrap_or (option_map (λ q. bytes_eq q.vendor vendor) p) false) fit.piece ∙ vendors)

record Follows (h : History) (t : ℕ) (e : Entry) : Type 0 where
  moment : moment_of e ≡ t
  allowed : entry_allowed h e ≡ true

paid_follows : (h : History) (t ask : ℕ) (peer target : List ℕ) (r : Result Offered Refusal) (e : Entry)
    → ((o : Offered) → r ≡ Ok o → asks_rightly h ask peer target (Some o.holding.text) ≡ true) → paid_with t ask peer target r ≡ Ok e → Follows h t e
paid_follows h t ask peer target (Err f) e rightly is = absurd cc
paid_follows h t ask peer target (Ok o) e rightly is = let made : Entry = Pend t ask peer target (Some o.holding.text) o.holding.secret in
    subst (Follows h t) (same_ok made e (Ok made) refl is) (record { moment = refl; allowed = rightly o refl })

pend_allowed : (h : History) (t : ℕ) (a : Asking) (e : Entry) → CanAsk a → pend_entry h t a ≡ Ok e → Follows h t e
pend_allowed h t (get vendor target limit) e can is =
    paid_follows h t 0 vendor target (chosen h t vendor limit) e (λ o at. let r = pays_rightly h t vendor o (chosen_fits h t vendor limit o at) in rw (r.0, r.1) refl) is
pend_allowed h t (buy broker vendor amount limit) e can is =
    let target = errand_text (errands.buy vendor amount) in
    let read : errand_of target ≡ Some (errands.buy vendor amount) = errand_read (errands.buy vendor amount) can in
    paid_follows h t 1 broker target (chosen h t broker limit) e (λ o at. let r = pays_rightly h t broker o (chosen_fits h t broker limit o at) in rw (r.0, r.1, read) refl) is
pend_allowed h t (draw broker account key order amount) e can is =
    let target = errand_text (errands.draw account order amount) in
    let read : errand_of target ≡ Some (errands.draw account order amount) = errand_read (errands.draw account order amount) can in
    let made : Entry = Pend t 2 broker target None key in
    subst (Follows h t) (same_ok made e (Ok made) refl is) (record { moment = refl; allowed = ap is_draw read })

pend_of : (h : History) (t : ℕ) (a : Asking) (e : Entry) → pend_entry h t a ≡ Ok e → entry_allowed h e ≡ true → is_wallet h ≡ true → wallet_allows h e ≡ true
pend_of h t a (Site m kind name house) is allowed wallet = absurd cc
pend_of h t a e is allowed wallet = rw (wallet, allowed) refl

pub pend_follows : (h : History) (t : ℕ) (a : Asking) (e : Entry) → IsWalletBook h → time h ≤ t → CanAsk a → pend_entry h t a ≡ Ok e → WalletFollows h e
pend_follows h t a e book le can is =
    let f = pend_allowed h t a e can is in
    record { in_order = subst (λ (m : ℕ). time h ≤ m) (sym f.moment) le; allowed = pend_of h t a e is f.allowed (book_is_wallet h book) }
