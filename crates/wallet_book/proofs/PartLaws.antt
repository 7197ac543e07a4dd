-- What is kept of pieces and requests, with one entry more.
use Rattle.std.proofs.Common.{◌≡◌, ℕ, suc, ◌+◌, ◌≤◌, Bool, true, false, ◌&&◌, ◌||◌, not, List, [], ◌∷◌, ◌++◌, length, map, Option, Some, None, refl, sym, ap, ◌∙◌, append_assoc, arith, unwrap_or}
use Rattle.std.proofs.lemmas.List.Folds.{list_any-append}
use Rattle.std.specs.List.{AllByRecursion}
use Rattle.mc_records.specs.Entry.{Held, Entry}
use Rattle.ledger_model.specs.Histories.{History}
use Rattle.ledger_model.specs.Pieces.{piece_of}
use Rattle.wallet_model.specs.Holdings as model
use Rattle.wallet_model.specs.Holdings.{PieceState, held, holdings, holding, pieces_came, texts_came, state_in}
use Rattle.wallet_model.specs.Newness.{are_one_piece, is_new, are_new}
use Rattle.wallet_model.specs.Follows.{wallet_allows, IsWalletBook}
use Rattle.wallet_model.proofs.CameLaws.{new_both, map_both}
use Rattle.wallet_model.proofs.KeptLaws.{both_left, both_right}
use Rattle.wallet_book.specs.declared.holding.Holding.{Holding}
use Rattle.wallet_book.specs.Holdings.{text_of, texts_of, holding_of}
use Rattle.wallet_book.specs.Parts.{fresh_of, held_texts, HasText, Brings, Bringing}
use Rattle.wallet_book.proofs.HoldingLaws.{read_back}
use Rattle.wallet_book.proofs.StateLaws.{new_is_held}
use Rattle.wallet_model.proofs.CameLaws.{knows, new_alike}

-- ---- texts

texts_same : (h : History) (ps : List Held) → map (λ x. x.text) (map (holding h) ps) ≡ map (λ p. p.text) ps
texts_same h [] = refl
texts_same h (p ∷ ps) = ap (λ (ts : List (List ℕ)). p.text ∷ ts) (texts_same h ps)

pub seen_texts : (xs : List Holding) → map (λ x. x.text) (map holding_of xs) ≡ texts_of xs
seen_texts [] = refl
seen_texts (x ∷ xs) = ap (λ (ts : List (List ℕ)). text_of x ∷ ts) (seen_texts xs)

-- the texts of the pieces that came are those in memory
pub came_texts : (h : History) (xs : List Holding) → holdings h ≡ map holding_of xs → texts_came h ≡ texts_of xs
came_texts h xs is = sym (texts_same h (pieces_came h)) ∙ ap (λ (ys : List model.Holding). map (λ x. x.text) ys) is ∙ seen_texts xs

-- ---- new pieces

or_swap : (a b : Bool) → (a || b) ≡ (b || a)
or_swap true true = refl
or_swap true false = refl
or_swap false true = refl
or_swap false false = refl

-- in whichever order the others stand
pub new_swap : (a b ts : List (List ℕ)) → are_new (a ++ b) ts ≡ are_new (b ++ a) ts
new_swap a b ts = new_alike (a ++ b) (b ++ a) ts (λ t.
    list_any-append (λ s. are_one_piece s t) a b ∙ or_swap (knows a t) (knows b t) ∙ sym (list_any-append (λ s. are_one_piece s t) b a))

new_of_both : (front texts : List (List ℕ)) (t : List ℕ) → is_new (front ++ texts) t ≡ true → is_new texts t ≡ true
new_of_both front texts t new = go (knows front t) (knows texts t) (sym (ap not (list_any-append (λ s. are_one_piece s t) front texts)) ∙ new)
  where
    go : (a b : Bool) → not (a || b) ≡ true → not b ≡ true
    go true b is = absurd cc
    go false b is = is

-- ---- pieces that come, one after the other

fresh_texts : (ps : List Held) → map (λ x. x.text) (map fresh_of ps) ≡ held_texts ps
fresh_texts [] = refl
fresh_texts (p ∷ ps) = ap (λ (ts : List (List ℕ)). p.text ∷ ts) (fresh_texts ps)

-- the texts then are these too
pub brought_texts : (old new : List Holding) (ps : List Held) → map holding_of new ≡ map holding_of old ++ map fresh_of ps → texts_of new ≡ texts_of old ++ held_texts ps
brought_texts old new ps is =
    sym (seen_texts new) ∙ ap (λ (ys : List model.Holding). map (λ x. x.text) ys) is ∙ map_both (λ x. x.text) (map holding_of old) (map fresh_of ps)
    ∙ ap (λ (ts : List (List ℕ)). map (λ x. x.text) (map holding_of old) ++ ts) (fresh_texts ps) ∙ ap (λ (ts : List (List ℕ)). ts ++ held_texts ps) (seen_texts old)

two_new : (old mid : List Holding) (ps qs : List Held) → Brings old mid ps true → are_new (texts_of old) (held_texts (ps ++ qs)) ≡ are_new (texts_of mid) (held_texts qs)
two_new old mid ps qs first =
    ap (are_new (texts_of old)) (map_both (λ p. p.text) ps qs)
    ∙ new_both (texts_of old) (held_texts ps) (held_texts qs)
    ∙ ap (λ (b : Bool). b && are_new (held_texts ps ++ texts_of old) (held_texts qs)) first.0
    ∙ new_swap (held_texts ps) (texts_of old) (held_texts qs)
    ∙ ap (λ (ts : List (List ℕ)). are_new ts (held_texts qs)) (sym (brought_texts old mid ps first.1))

pub brings_both : (old mid new : List Holding) (ps qs : List Held) (r : Bool) → Brings old mid ps true → Brings mid new qs r → Brings old new (ps ++ qs) r
brings_both old mid new ps qs true first second = (
  two_new old mid ps qs first ∙ second.0,
  second.1 ∙ ap (λ (ys : List model.Holding). ys ++ map fresh_of qs) first.1 ∙ append_assoc (map holding_of old) (map fresh_of ps) (map fresh_of qs)
      ∙ ap (λ (ys : List model.Holding). map holding_of old ++ ys) (sym (map_both fresh_of ps qs)),
)
brings_both old mid new ps qs false first second = two_new old mid ps qs first ∙ second

and_false : (a b : Bool) → a ≡ false → (a && b) ≡ false
and_false true b is = absurd cc
and_false false b is = refl

pub brings_less : (old mid new : List Holding) (ps qs : List Held) → Brings old mid ps false → Brings old new (ps ++ qs) false
brings_less old mid new ps qs first =
    ap (are_new (texts_of old)) (map_both (λ p. p.text) ps qs) ∙ new_both (texts_of old) (held_texts ps) (held_texts qs)
    ∙ and_false (are_new (texts_of old) (held_texts ps)) (are_new (held_texts ps ++ texts_of old) (held_texts qs)) first

-- ---- Got

still : (f : List ℕ → Option PieceState) (xs : List model.Holding) → ((t : List ℕ) → f t ≡ None) → map (λ x. record { text = x.text; secret = x.secret; state = unwrap_or (f x.text) x.state }) xs ≡ xs
still f [] none = refl
still f (x ∷ xs) none = rw (none x.text, still f xs none) refl

-- pieces that are new are held after the entry
all_fresh : (h : History) (e : Entry) (front : List (List ℕ)) (ps : List Held) → IsWalletBook h → wallet_allows h e ≡ true → AllByRecursion HasText ps
    → are_new (front ++ texts_came h) (held_texts ps) ≡ true → map (holding (h ++ e ∷ [])) ps ≡ map fresh_of ps
all_fresh h e front [] book allowed fit new = refl
all_fresh h e front (p ∷ ps) book allowed fit new =
    let text = fit.0 in
    let own : piece_of p.text ≡ Some text.0 = read_back p.text text.0 text.1 text.2 in
    let first : is_new (texts_came h) p.text ≡ true = new_of_both front (texts_came h) p.text (both_left (is_new (front ++ texts_came h) p.text) _ new) in
    let state : state_in (h ++ e ∷ []) p.text ≡ held = new_is_held h e p.text text.0 book allowed own first in
    let rest = all_fresh h e (p.text ∷ front) ps book allowed fit.1 (both_right (is_new (front ++ texts_came h) p.text) _ new) in
    rw (state, rest) refl

pub fresh_pieces : (h : History) (e : Entry) (ps : List Held) → IsWalletBook h → wallet_allows h e ≡ true → AllByRecursion HasText ps → are_new (texts_came h) (held_texts ps) ≡ true
    → map (holding (h ++ e ∷ [])) ps ≡ map fresh_of ps
fresh_pieces h e ps book allowed fit new = all_fresh h e [] ps book allowed fit new

-- ---- pieces that are being brought

pub bringing_more : (all left rest : List Held) (p : Held) (old mid new : List Holding) (room left_room : ℕ) → Bringing all left old mid room → left ≡ p ∷ rest → Brings mid new (p ∷ []) true → room ≤ left_room + 1
    → Bringing all rest old new left_room
bringing_more all left rest p old mid new room left_room b is it less = record {
  done = b.done ++ p ∷ [];
  both = b.both ∙ ap (λ (ps : List Held). b.done ++ ps) is ∙ sym (append_assoc b.done (p ∷ []) rest);
  brought = brings_both old mid new b.done (p ∷ []) true b.brought it;
  room' = let long : length left ≡ suc (length rest) = ap length is in omega (arith, long, less, b.room');
}

pub bringing_fails : (all left rest : List Held) (p : Held) (old mid new : List Holding) (room : ℕ) → Bringing all left old mid room → left ≡ p ∷ rest → Brings mid new (p ∷ []) false → are_new (texts_of old) (held_texts all) ≡ false
bringing_fails all left rest p old mid new room b is it =
    let whole : all ≡ (b.done ++ p ∷ []) ++ rest = b.both ∙ ap (λ (ps : List Held). b.done ++ ps) is ∙ sym (append_assoc b.done (p ∷ []) rest) in
    ap (λ (ps : List Held). are_new (texts_of old) (held_texts ps)) whole
    ∙ brings_less old mid new (b.done ++ p ∷ []) rest (brings_both old mid new b.done (p ∷ []) false b.brought it)
