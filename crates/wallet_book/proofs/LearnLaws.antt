-- What an entry makes of the pieces and the kept requests, or that the history does not allow it.
use Rattle.std.proofs.Common.{◌≡◌, ℕ, zero, suc, ◌<◌, ◌≤◌, Bool, true, false, not, ◌&&◌, List, [], ◌∷◌, ◌++◌, length, map, Option, Some, None, option_map, refl, sym, ap, subst, ◌∙◌, arith, find}
use Rattle.std.specs.Prelude.{◌==◌, option_to_list, IfSome}
use Rattle.std.specs.Borrow.{Bor}
use Rattle.scrip_form.specs.Scrip.{IsScripText}
use Rattle.mc_requests.specs.Requests.{seen}
use Rattle.mc_records.specs.Views.{held_of}
use Rattle.std.specs.List.{AllByRecursion}
use Rattle.mc_records.specs.Entry.{Held, HeldFits, Got, Pend, Done, Refused, Switch}
use Rattle.mc_records.specs.Chains.{chain, has_switch}
use Rattle.std.proofs.lemmas.Slice.Eq.{bytes_eq-Decides}
use Rattle.mc_requests.specs.Errands.{errand_of}
use Rattle.ledger_model.specs.Histories.{History}
use Rattle.wallet_model.specs.Holdings as model
use Rattle.wallet_model.specs.Holdings.{holdings, texts_came, refused_state}
use Rattle.wallet_model.specs.Newness.{are_new}
use Rattle.wallet_model.specs.Follows.{is_draw, settled_texts, asks_rightly, wallet_allows, IsWalletBook}
use Rattle.wallet_model.proofs.WrittenLaws.{book_is_wallet}
use Rattle.wallet_book.specs.declared.holding.State.{State}
use Rattle.wallet_book.specs.declared.holding.State.TheVariants as states
use Rattle.wallet_book.specs.declared.holding.Holding.{Holding}
use Rattle.wallet_book.specs.declared.kept.Kept.{Kept}
use Rattle.wallet_book.specs.Holdings.{state_of, text_of, holding_of, AreSpelled}
use Rattle.wallet_book.specs.Parts.{PartsRepresent, HasText, Brings, held_texts, put_in, in_state_at, LearnsEntry, asks_with, FindsPayment}
use Rattle.wallet_book.proofs.PartLaws.{came_texts, brings_both, brings_less}
use Rattle.wallet_book.proofs.EntryLaws.{learned_got, learned_pend, learned_draw, learned_still}
use Rattle.wallet_book.proofs.SettledLaws.{not_found, without, settled_pieces_of, learns_refused, learns_done}

-- ---- Got

have_texts : (ps : List Held) → AllByRecursion HeldFits ps → AllByRecursion HasText ps
have_texts [] fit = tt
have_texts (p ∷ ps) fit = (fit.0.text, have_texts ps fit.1)

pub learns_got : (h : History) (xs ys : List Holding) (ks : List Kept) (m : ℕ) (ps : List Held) (r : Bool) → IsWalletBook h → PartsRepresent xs ks h → AllByRecursion HeldFits ps → Brings xs ys ps r → LearnsEntry ys ks h (Got m ps) r
learns_got h xs ys ks m ps false book is fit brought = ap (λ (ts : List (List ℕ)). are_new ts (held_texts ps)) (came_texts h xs is.pieces) ∙ brought
learns_got h xs ys ks m ps true book is fit brought =
    let new : are_new (texts_came h) (held_texts ps) ≡ true = ap (λ (ts : List (List ℕ)). are_new ts (held_texts ps)) (came_texts h xs is.pieces) ∙ brought.0 in
    let wallet = book_is_wallet h book in
    let allowed : wallet_allows h (Got m ps) ≡ true = rw (wallet, new) refl in
    (new, learned_got h xs ys ks m ps book is allowed (have_texts ps fit) brought.0 brought.1)

-- ---- Pend

asks_alike : (h : History) (ask : ℕ) (peer target : List ℕ) (scrip : Option (List ℕ)) → asks_rightly h ask peer target scrip ≡ asks_with (holdings h) ask peer target scrip
asks_alike h zero peer target (Some text) = refl
asks_alike h zero peer target None = refl
asks_alike h (suc zero) peer target (Some text) = refl
asks_alike h (suc zero) peer target None = refl
asks_alike h (suc (suc ask)) peer target (Some text) = refl
asks_alike h (suc (suc ask)) peer target None = refl

asks_here : (h : History) (xs : List Holding) (ask : ℕ) (peer target : List ℕ) (scrip : Option (List ℕ)) → holdings h ≡ map holding_of xs → asks_rightly h ask peer target scrip ≡ asks_with (map holding_of xs) ask peer target scrip
asks_here h xs ask peer target scrip is = asks_alike h ask peer target scrip ∙ ap (λ (zs : List model.Holding). asks_with zs ask peer target scrip) is

pub learns_payment : (h : History) (xs : List Holding) (ks : List Kept) (i m : ℕ) (text : List ℕ) (k : Kept) → IsWalletBook h → PartsRepresent xs ks h → AreSpelled xs → k.number ≡ length h → k.place ≡ Some i
    → FindsPayment xs k.ask k.peer k.target text (Some i) → LearnsEntry (in_state_at xs (Some i) states.Pending) (ks ++ k ∷ []) h (Pend m k.ask k.peer k.target (Some text) k.secret) true
learns_payment h xs ks i m text k book is spelled number place found =
    let x : Holding = found.0.holding in
    let stands : PartsRepresent (put_in xs i states.Pending (Some x)) (ks ++ k ∷ []) (h ++ Pend m k.ask k.peer k.target (Some (text_of x)) k.secret ∷ []) =
    learned_pend h xs ks i x k m book is spelled found.0.here number place in
    let at : PartsRepresent (in_state_at xs (Some i) states.Pending) (ks ++ k ∷ []) (h ++ Pend m k.ask k.peer k.target (Some (text_of x)) k.secret ∷ []) =
    subst (λ (o : Option Holding). PartsRepresent (put_in xs i states.Pending o) (ks ++ k ∷ []) (h ++ Pend m k.ask k.peer k.target (Some (text_of x)) k.secret ∷ [])) (sym found.0.here) stands in (
      asks_here h xs k.ask k.peer k.target (Some text) is.pieces ∙ found.1,
      subst (λ (t : List ℕ). PartsRepresent (in_state_at xs (Some i) states.Pending) (ks ++ k ∷ []) (h ++ Pend m k.ask k.peer k.target (Some t) k.secret ∷ [])) found.0.text' at,
    )

pub no_payment : (h : History) (xs : List Holding) (ks : List Kept) (ask : ℕ) (peer target text : List ℕ) → PartsRepresent xs ks h → FindsPayment xs ask peer target text None → asks_rightly h ask peer target (Some text) ≡ false
no_payment h xs ks ask peer target text is found = asks_here h xs ask peer target (Some text) is.pieces ∙ found

draws : (h : History) (ask : ℕ) (peer target : List ℕ) → 2 ≤ ask → asks_rightly h ask peer target None ≡ is_draw (errand_of target)
draws h zero peer target le = absurd (omega (arith, le))
draws h (suc zero) peer target le = absurd (omega (arith, le))
draws h (suc (suc ask)) peer target le = refl

pub learns_draw : (h : History) (xs : List Holding) (ks : List Kept) (m : ℕ) (k : Kept) → IsWalletBook h → PartsRepresent xs ks h → k.number ≡ length h → k.place ≡ None → 2 ≤ k.ask → is_draw (errand_of k.target) ≡ true
    → LearnsEntry xs (ks ++ k ∷ []) h (Pend m k.ask k.peer k.target None k.secret) true
learns_draw h xs ks m k book is number place le drawn = (draws h k.ask k.peer k.target le ∙ drawn, learned_draw h xs ks k m book is number place)

pub no_draw : (h : History) (ask : ℕ) (peer target : List ℕ) → is_draw (errand_of target) ≡ false → asks_rightly h ask peer target None ≡ false
no_draw h zero peer target other = refl
no_draw h (suc zero) peer target other = refl
no_draw h (suc (suc ask)) peer target other = other

pub low_draw : (h : History) (ask : ℕ) (peer target : List ℕ) → ask < 2 → asks_rightly h ask peer target None ≡ false
low_draw h zero peer target lt = refl
low_draw h (suc zero) peer target lt = refl
low_draw h (suc (suc ask)) peer target lt = absurd (omega (arith, lt))

-- ---- Done and Refused

pub none_refused : (h : History) (xs ys : List Holding) (ks js : List Kept) (n m refusal : ℕ) → PartsRepresent xs ks h → find (λ j. n == j.number) ks ≡ None → LearnsEntry ys js h (Refused m n refusal) false
none_refused h xs ys ks js n m refusal is none = not_found h xs ks n is none

pub none_done : (h : History) (xs ys : List Holding) (ks js : List Kept) (n m price : ℕ) (change : Option (List ℕ)) (got : Option Held) → PartsRepresent xs ks h → find (λ j. n == j.number) ks ≡ None → LearnsEntry ys js h (Done m n price change got) false
none_done h xs ys ks js n m price change got is none = ap (λ (b : Bool). b && are_new (texts_came h) (settled_texts change got)) (not_found h xs ks n is none)

-- what is kept then, as it was put
pub refused_as : (h : History) (xs ys : List Holding) (ks js : List Kept) (n m refusal : ℕ) (k : Kept) (s : State) → IsWalletBook h → PartsRepresent xs ks h → AreSpelled xs → find (λ j. n == j.number) ks ≡ Some k
    → state_of s ≡ refused_state refusal → ys ≡ in_state_at xs k.place s → js ≡ without n ks → LearnsEntry ys js h (Refused m n refusal) true
refused_as h xs ys ks js n m refusal k s book is spelled at state pieces left =
    subst (λ (zs : List Holding). LearnsEntry zs js h (Refused m n refusal) true) (sym pieces)
    (subst (λ (ls : List Kept). LearnsEntry (in_state_at xs k.place s) ls h (Refused m n refusal) true) (sym left) (learns_refused h xs ks n m refusal k s book is spelled at state))

-- the change came before
pub done_less : (h : History) (xs zs mid ys : List Holding) (ks js : List Kept) (n m price : ℕ) (change : Option (List ℕ)) (got : Option Held) (k : Kept) → IsWalletBook h → PartsRepresent xs ks h → AreSpelled xs → find (λ j. n == j.number) ks ≡ Some k
    → AllByRecursion HasText (settled_pieces_of k.secret change got) → zs ≡ in_state_at xs k.place states.Used → Brings zs mid (option_to_list (option_map (λ text. record { text = text; secret = k.secret }) change)) false
    → LearnsEntry ys js h (Done m n price change got) false
done_less h xs zs mid ys ks js n m price change got k book is spelled at fit pieces first =
    learns_done h xs mid ks n m price change got k false book is spelled at fit
    (subst (λ (vs : List Holding). Brings vs mid (settled_pieces_of k.secret change got) false) pieces
    (brings_less zs mid mid (option_to_list (option_map (λ text. record { text = text; secret = k.secret }) change)) (option_to_list got) first))

pub done_as : (h : History) (xs zs mid ys : List Holding) (ks js : List Kept) (n m price : ℕ) (change : Option (List ℕ)) (got : Option Held) (k : Kept) (r : Bool) → IsWalletBook h → PartsRepresent xs ks h → AreSpelled xs → find (λ j. n == j.number) ks ≡ Some k
    → AllByRecursion HasText (settled_pieces_of k.secret change got) → zs ≡ in_state_at xs k.place states.Used → js ≡ without n ks → Brings zs mid (option_to_list (option_map (λ text. record { text = text; secret = k.secret }) change)) true
    → Brings mid ys (option_to_list got) r → LearnsEntry ys js h (Done m n price change got) r
done_as h xs zs mid ys ks js n m price change got k r book is spelled at fit pieces left first second =
    subst (λ (ls : List Kept). LearnsEntry ys ls h (Done m n price change got) r) (sym left)
    (learns_done h xs ys ks n m price change got k r book is spelled at fit
    (subst (λ (vs : List Holding). Brings vs ys (settled_pieces_of k.secret change got) r) pieces
    (brings_both zs mid ys (option_to_list (option_map (λ text. record { text = text; secret = k.secret }) change)) (option_to_list got) r first second)))

-- the texts of a settlement are scrip texts
pub settled_texts_fit : (secret : List ℕ) (change : Option (Bor (List ℕ))) (got : Option (Bor (List ℕ) × List ℕ)) → IfSome change (λ t. IsScripText t.now) → IfSome got (λ p. IsScripText p.0.now)
    → AllByRecursion HasText (settled_pieces_of secret (seen change) (option_map held_of got))
settled_texts_fit secret None None c g = tt
settled_texts_fit secret None (Some p) c g = (g, tt)
settled_texts_fit secret (Some t) None c g = (c, tt)
settled_texts_fit secret (Some t) (Some p) c g = (c, (g, tt))

-- ---- Switch

pub switches : (h : History) (xs : List Holding) (ks : List Kept) (m : ℕ) (c : List ℕ) (switched : Bool) → PartsRepresent xs ks h → has_switch h ≡ switched → c ≡ chain h → LearnsEntry xs ks h (Switch m c) (not switched)
switches h xs ks m c true is on tells = rw on refl
switches h xs ks m c false is on tells = (rw (on, (bytes_eq-Decides c (chain h)).1 tells) refl, learned_still h xs ks (Switch m c) (record { no_request = refl; no_settlement = λ n. refl; no_piece = λ g. refl; no_move = λ g t. refl }) is)
