-- The place of the piece that a request pays with.
use Rattle.std.proofs.Common.{◌≡◌, ℕ, Bool, true, false, ◌&&◌, cond, List, [], map, Option, Some, None, option_map, refl, sym, ap, subst, ◌∙◌, bytes_eq, unwrap_or}
use Rattle.std.proofs.lemmas.Slice.Eq.{bytes_eq-Decides}
use Rattle.std.specs.List.{list_any}
use Rattle.scrip_form.specs.Scrip.{Scrip}
use Rattle.mc_requests.specs.Errands.{errand_of}
use Rattle.ledger_model.specs.Pieces.{piece_of}
use Rattle.wallet_model.specs.Holdings.{is_held}
use Rattle.wallet_model.specs.Newness.{are_new}
use Rattle.wallet_model.specs.Follows.{is_of_vendor, is_buy}
use Rattle.wallet_book.specs.declared.holding.State.{State}
use Rattle.wallet_book.specs.declared.holding.Holding.{Holding}
use Rattle.wallet_book.specs.Holdings.{state_of, text_of, texts_of, holding_of, FindsPiece}
use Rattle.wallet_book.specs.Parts.{HeldAt, FindsHeld, is_held_text, if_held, FindsPayment}
use Rattle.wallet_book.proofs.HoldingLaws.{any_at, get_map, held_state}
use Rattle.wallet_book.proofs.PlaceLaws.{held_by_one, new_not_held}

of_vendor : (vendor text : List ℕ) (q : Scrip) → piece_of text ≡ Some q → is_of_vendor vendor text ≡ bytes_eq q.vendor vendor
of_vendor vendor text q is = ap (λ (o : Option Scrip). unwrap_or (option_map (λ p. bytes_eq p.vendor vendor) o) false) is

and_false : (a b : Bool) → b ≡ false → (a && b) ≡ false
and_false true b is = is
and_false false b is = refl

pub other_vendor : (xs : List Holding) (text vendor : List ℕ) (q : Scrip) → piece_of text ≡ Some q → bytes_eq q.vendor vendor ≡ false → FindsHeld xs text vendor None
other_vendor xs text vendor q is other = and_false (list_any (λ x. bytes_eq x.text text && is_held x.state) (map holding_of xs)) (is_of_vendor vendor text) (of_vendor vendor text q is ∙ other)

-- a place that was found is that of the piece to pay with, where that is held and has the text
pub finds_held : (xs : List Holding) (text vendor : List ℕ) (q : Scrip) (o : Option ℕ) → are_new [] (texts_of xs) ≡ true → piece_of text ≡ Some q → bytes_eq q.vendor vendor ≡ true → FindsPiece xs text o
    → FindsHeld xs text vendor (if_held xs o text)
finds_held xs text vendor q None apart is own found = ap (λ (b : Bool). b && is_of_vendor vendor text) (new_not_held text q xs is found)
finds_held xs text vendor q (Some place) apart is own found =
    subst (λ (o : Option Holding). FindsHeld xs text vendor (cond (is_held_text text o) (Some place) None)) (sym found.here) (go (bytes_eq (text_of found.holding) text) (is_held (state_of found.holding.state)) refl refl)
  where
    tells : list_any (λ x. bytes_eq x.text text && is_held x.state) (map holding_of xs) ≡ (bytes_eq (text_of found.holding) text && is_held (state_of found.holding.state))
    tells = held_by_one text xs place found.holding apart found.here found.passes

    go : (a b : Bool) → bytes_eq (text_of found.holding) text ≡ a → is_held (state_of found.holding.state) ≡ b → FindsHeld xs text vendor (cond (bytes_eq (text_of found.holding) text && is_held (state_of found.holding.state)) (Some place) None)
    go true true same rests = rw (same, rests) (record {
      holding = found.holding;
      here = found.here;
      text' = (bytes_eq-Decides (text_of found.holding) text).0 same;
      held' = held_state found.holding.state rests;
      vendor' = of_vendor vendor text q is ∙ own;
    })
    go true false same rests =
        let none : (bytes_eq (text_of found.holding) text && is_held (state_of found.holding.state)) ≡ false = rw (same, rests) refl in
        rw (same, rests) (ap (λ (b : Bool). b && is_of_vendor vendor text) (tells ∙ none))
    go false b same rests =
        let none : (bytes_eq (text_of found.holding) text && is_held (state_of found.holding.state)) ≡ false = rw same refl in
        rw same (ap (λ (c : Bool). c && is_of_vendor vendor text) (tells ∙ none))

has_one : (xs : List Holding) (text vendor : List ℕ) (place : ℕ) → HeldAt xs text vendor place → list_any (λ x. bytes_eq x.text text && is_held x.state) (map holding_of xs) ≡ true
has_one xs text vendor place at =
    let same : bytes_eq (text_of at.holding) text ≡ true = (bytes_eq-Decides (text_of at.holding) text).1 at.text' in
    let rests : is_held (state_of at.holding.state) ≡ true = ap (λ (s : State). is_held (state_of s)) at.held' in
    any_at (λ x. bytes_eq x.text text && is_held x.state) (map holding_of xs) place (holding_of at.holding) (get_map holding_of xs place at.holding at.here) (rw (same, rests) refl)

-- a get pays with it
pub pays_get : (xs : List Holding) (peer target text : List ℕ) (o : Option ℕ) → FindsHeld xs text peer o → FindsPayment xs 0 peer target text o
pays_get xs peer target text None found = found
pays_get xs peer target text (Some place) found = (found, (let has = has_one xs text peer place found in let vendor = found.vendor' in rw (has, vendor) refl))

and_less : (a b c : Bool) → (a && b) ≡ false → (a && (b && c)) ≡ false
and_less true true c is = absurd cc
and_less true false c is = refl
and_less false b c is = refl

-- and so does a buy
pub pays_buy : (xs : List Holding) (peer target text : List ℕ) (o : Option ℕ) → is_buy (errand_of target) ≡ true → FindsHeld xs text peer o → FindsPayment xs 1 peer target text o
pays_buy xs peer target text None buys found =
    and_less (list_any (λ x. bytes_eq x.text text && is_held x.state) (map holding_of xs)) (is_of_vendor peer text) (is_buy (errand_of target)) found
pays_buy xs peer target text (Some place) buys found = (found, (let has = has_one xs text peer place found in let vendor = found.vendor' in rw (has, vendor, buys) refl))
