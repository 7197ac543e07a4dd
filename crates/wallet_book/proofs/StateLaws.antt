-- A piece that a wallet never got is on no entry, so that it is held when it comes.
use Rattle.std.proofs.Common.{◌≡◌, ℕ, zero, suc, Bool, true, false, ◌&&◌, ◌||◌, cond, List, [], ◌∷◌, ◌++◌, Option, Some, None, refl, sym, ap, subst, ◌∙◌, unwrap_or, bytes_eq, map, inl, inr}
use Rattle.std.proofs.lemmas.Slice.Eq.{bytes_eq-Decides}
use Rattle.std.specs.List.{list_any}
use Rattle.mc_records.specs.Entry.{Held, Entry, Pend, Done, Refused}
use Rattle.mc_records.specs.Following.{AllFollowBy}
use Rattle.ledger_model.specs.Histories.{History}
use Rattle.ledger_model.specs.Pieces.{piece_of}
use Rattle.scrip_form.specs.Scrip.{Scrip}
use Rattle.wallet_model.specs.Requests.{pays_with, is_kept}
use Rattle.wallet_model.specs.Holdings.{PieceState, held, pending, moves, state_in, Holding, holdings, texts_came, pieces_came, is_held, has_held}
use Rattle.wallet_model.specs.Newness.{are_one_piece, is_new}
use Rattle.wallet_model.specs.Follows.{is_wallet, asks_rightly, wallet_allows, WalletFollows, IsWalletBook}
use Rattle.wallet_model.specs.Laws.{is_pending, has_piece}
use Rattle.wallet_model.proofs.BookLaws.{walked, all_joined, all_of_book}
use Rattle.wallet_model.proofs.PieceLaws.{state_more}
use Rattle.wallet_model.proofs.CameLaws.{pieces_stay, has_among, one_piece_itself, or_right}
use Rattle.wallet_model.proofs.KeptLaws.{by_cases, both_left, both_right, not_true}
use Rattle.wallet_model.proofs.PaidLaws.{all_paid, pays_pending}

-- what has a held piece has the piece
has_of_held : (text : List ℕ) (xs : List Holding) → list_any (λ x. bytes_eq x.text text && is_held x.state) xs ≡ true → list_any (λ x. bytes_eq x.text text) xs ≡ true
has_of_held text [] any = any
has_of_held text (x ∷ xs) any = go (bytes_eq x.text text) (is_held x.state) any (has_of_held text xs)
  where
    go : (a b : Bool) → ((a && b) || list_any (λ y. bytes_eq y.text text && is_held y.state) xs) ≡ true
        → (list_any (λ y. bytes_eq y.text text && is_held y.state) xs ≡ true → list_any (λ y. bytes_eq y.text text) xs ≡ true) → (a || list_any (λ y. bytes_eq y.text text) xs) ≡ true
    go true b any rest = refl
    go false b any rest = rest any

asks_has : (h : History) (ask : ℕ) (peer target scrip : List ℕ) → asks_rightly h ask peer target (Some scrip) ≡ true → has_piece h scrip ≡ true
asks_has h zero peer target scrip rightly = has_of_held scrip (holdings h) (both_left (has_held h scrip) _ rightly)
asks_has h (suc zero) peer target scrip rightly = has_of_held scrip (holdings h) (both_left (has_held h scrip) _ rightly)
asks_has h (suc (suc ask)) peer target scrip rightly = absurd cc

pub record Unseen (h : History) : Type 0 where
  pub all : AllFollowBy WalletFollows [] h
  pub free : (text : List ℕ) → has_piece h text ≡ false → state_in h text ≡ held

-- a held piece is not pending, so no kept request pays with it
pays_none : (h : History) (n : ℕ) (text : List ℕ) → AllFollowBy WalletFollows [] h → is_kept h n ≡ true → state_in h text ≡ held → pays_with h n text ≡ false
pays_none h n text all kept free = elim (by_cases (pays_with h n text)) [
  | inr f ↦ f
  | inl t ↦ absurd (
      let wait : is_pending (state_in h text) ≡ true = pays_pending h n text (all_paid h all) kept t in
      let rests : is_pending (state_in h text) ≡ false = ap is_pending free in
      cc (wait, rests))
]

-- an entry that may follow is on no piece that is not there
unmoved : (h : History) (e : Entry) (text : List ℕ) → AllFollowBy WalletFollows [] h → wallet_allows h e ≡ true → has_piece h text ≡ false → state_in h text ≡ held → moves h text e ≡ None
unmoved h (Pend m ask peer target (Some scrip) secret) text all allowed none free = go (bytes_eq scrip text) refl
  where
    go : (b : Bool) → bytes_eq scrip text ≡ b → cond b (Some pending) None ≡ None
    go false other = refl
    go true same = absurd (
        let at : scrip ≡ text = (bytes_eq-Decides scrip text).0 same in
        let has : has_piece h text ≡ true = subst (λ (t : List ℕ). has_piece h t ≡ true) at (asks_has h ask peer target scrip (both_right (is_wallet h) _ allowed)) in
        cc (has, none))
unmoved h (Done m n price change got) text all allowed none free =
    let pays = pays_none h n text all (both_left (is_kept h n) _ (both_right (is_wallet h) _ allowed)) free in rw pays refl
unmoved h (Refused m n refusal) text all allowed none free =
    let pays = pays_none h n text all (both_right (is_wallet h) _ allowed) free in rw pays refl
unmoved h e text all allowed none free = refl

earlier : (h : History) (e : Entry) (text : List ℕ) → has_piece (h ++ e ∷ []) text ≡ false → has_piece h text ≡ false
earlier h e text none = elim (by_cases (has_piece h text)) [
  | inr f ↦ f
  | inl t ↦ absurd (let has : has_piece (h ++ e ∷ []) text ≡ true = pieces_stay h (e ∷ []) text t in cc (has, none))
]

unseen_step : (h : History) (e : Entry) → Unseen h → WalletFollows h e → Unseen (h ++ e ∷ [])
unseen_step h e before follows = record {
  all = all_joined [] h (e ∷ []) before.all (follows, tt);
  free = λ text none.
      let was = earlier h e text none in
      let rested = before.free text was in
      state_more h e text ∙ ap (λ (o : Option PieceState). unwrap_or o (state_in h text)) (unmoved h e text before.all follows.allowed was rested) ∙ rested;
}

pub unseen : (h : History) → IsWalletBook h → Unseen h
unseen h book = walked Unseen unseen_step [] h (record { all = tt; free = λ text none. refl }) (all_of_book h book)

-- ---- a new piece

has_text : (h : History) (text : List ℕ) (ps : List Held) → list_any (λ p. bytes_eq p.text text) ps ≡ true → are_one_piece text text ≡ true → list_any (λ t. are_one_piece t text) (map (λ p. p.text) ps) ≡ true
has_text h text [] any one = any
has_text h text (p ∷ ps) any one = go (bytes_eq p.text text) refl any (has_text h text ps)
  where
    go : (b : Bool) → bytes_eq p.text text ≡ b → (b || list_any (λ q. bytes_eq q.text text) ps) ≡ true
        → (list_any (λ q. bytes_eq q.text text) ps ≡ true → are_one_piece text text ≡ true → list_any (λ t. are_one_piece t text) (map (λ q. q.text) ps) ≡ true)
        → (are_one_piece p.text text || list_any (λ t. are_one_piece t text) (map (λ q. q.text) ps)) ≡ true
    go true same any rest =
        let at : p.text ≡ text = (bytes_eq-Decides p.text text).0 same in
        let it : are_one_piece p.text text ≡ true = subst (λ (t : List ℕ). are_one_piece t text ≡ true) (sym at) one in
        rw it refl
    go false other any rest = or_right (are_one_piece p.text text) _ (rest any one)

-- a piece that is new has not come
pub new_is_none : (h : History) (text : List ℕ) (q : Scrip) → piece_of text ≡ Some q → is_new (texts_came h) text ≡ true → has_piece h text ≡ false
new_is_none h text q is new = elim (by_cases (has_piece h text)) [
  | inr f ↦ f
  | inl t ↦ absurd (
      let came : list_any (λ p. bytes_eq p.text text) (pieces_came h) ≡ true = sym (has_among h text (pieces_came h)) ∙ t in
      let known : list_any (λ s. are_one_piece s text) (texts_came h) ≡ true = has_text h text (pieces_came h) came (one_piece_itself text q is) in
      let fresh : list_any (λ s. are_one_piece s text) (texts_came h) ≡ false = not_true (list_any (λ s. are_one_piece s text) (texts_came h)) new in
      cc (known, fresh))
]

-- after an entry that may follow, a piece that was new before it is held
pub new_is_held : (h : History) (e : Entry) (text : List ℕ) (q : Scrip) → IsWalletBook h → wallet_allows h e ≡ true → piece_of text ≡ Some q → is_new (texts_came h) text ≡ true → state_in (h ++ e ∷ []) text ≡ held
new_is_held h e text q book allowed is new =
    let none = new_is_none h text q is new in
    let all = unseen h book in
    let free = all.free text none in
    state_more h e text ∙ ap (λ (o : Option PieceState). unwrap_or o (state_in h text)) (unmoved h e text all.all allowed none free) ∙ free
