-- Pieces and kept requests after a settlement.
use Rattle.std.proofs.Common.{◌≡◌, ℕ, zero, suc, ◌<◌, Bool, true, false, ◌&&◌, cond, not, List, [], ◌∷◌, ◌++◌, length, map, Option, Some, None, option_map, refl, sym, ap, subst, ◌∙◌, append-nil, arith, bytes_eq, unwrap_or, filter, find, replicate}
use Rattle.std.proofs.lemmas.Option.{same_Some}
use Rattle.std.specs.Prelude.{◌==◌, slice_get, option_and_then, option_to_list, IfSome}
use Rattle.std.specs.List.{AllByRecursion}
use Rattle.mc_records.specs.Entry.{Held, Entry, Done, Refused}
use Rattle.ledger_model.specs.Histories.{History}
use Rattle.wallet_model.specs.Requests.{Pending, pending_in, is_kept, kept_requests, pays, pays_with}
use Rattle.wallet_model.specs.Holdings as model
use Rattle.wallet_model.specs.Holdings.{PieceState, holdings, holding, texts_came, moves, brings, change_held, secret_at, refused_state}
use Rattle.wallet_model.specs.Newness.{are_new}
use Rattle.wallet_model.specs.Follows.{is_wallet, settled_texts, entry_allowed, wallet_allows, IsWalletBook}
use Rattle.wallet_model.specs.Laws.{moved}
use Rattle.wallet_model.proofs.PieceLaws.{holdings_more}
use Rattle.wallet_model.proofs.KeptLaws.{kept_done, kept_refused}
use Rattle.wallet_model.proofs.WrittenLaws.{book_is_wallet}
use Rattle.wallet_book.specs.declared.holding.State.{State}
use Rattle.wallet_book.specs.declared.holding.State.TheVariants as states
use Rattle.wallet_book.specs.declared.holding.Holding.{Holding}
use Rattle.wallet_book.specs.declared.kept.Kept.{Kept}
use Rattle.wallet_book.specs.Holdings.{state_of, text_of, texts_of, holding_of, AreSpelled}
use Rattle.wallet_book.specs.Kept.{request_of, kept_of, IsPlaced, ArePlaced, kept_in}
use Rattle.wallet_book.specs.Parts.{PartsRepresent, fresh_of, held_texts, HasText, Brings, put_in, in_state_at, LearnsEntry}
use Rattle.wallet_book.proofs.HoldingLaws.{in_state, get_map}
use Rattle.wallet_book.proofs.KeptLaws.{found_kept, placed_filter, filter_map_of}
use Rattle.wallet_book.proofs.PartLaws.{came_texts, fresh_pieces, brought_texts}
use Rattle.wallet_book.proofs.PlaceLaws.{moved_by, moved_one}
use Rattle.wallet_book.proofs.EntryLaws.{unmoved, kept_with, placed_with, texts_set, long_set, own_apart}

-- ---- the request of a number

-- the request that is found is that of its entry, and is kept
pub record IsFound (h : History) (xs : List Holding) (n : ℕ) (k : Kept) : Type 0 where
  pub kept : is_kept h n ≡ true
  pub request : pending_in h n ≡ Some (request_of (texts_of xs) k)

abbrev with_number : ℕ → Option Pending → Option (ℕ × Pending)
with_number n o = option_map (λ p. (n, p)) o

found_of : (h : History) (xs : List Holding) (ks : List Kept) (n : ℕ) (o : Option Kept) → PartsRepresent xs ks h → find (λ j. n == j.number) ks ≡ o → with_number n (kept_in h n) ≡ option_map (kept_of (texts_of xs)) o
found_of h xs ks n o is at = sym (sym (ap (option_map (kept_of (texts_of xs))) at) ∙ found_kept h (texts_of xs) ks n is.kept)

pub is_found : (h : History) (xs : List Holding) (ks : List Kept) (n : ℕ) (k : Kept) → PartsRepresent xs ks h → find (λ j. n == j.number) ks ≡ Some k → IsFound h xs n k
is_found h xs ks n k is at = go (is_kept h n) refl (pending_in h n) refl (found_of h xs ks n (Some k) is at)
  where
    go : (b : Bool) → is_kept h n ≡ b → (o : Option Pending) → pending_in h n ≡ o → with_number n (cond b o None) ≡ Some (kept_of (texts_of xs) k) → IsFound h xs n k
    go true kept (Some p) request both = record { kept = kept; request = request ∙ ap (λ (x : ℕ × Pending). Some x.1) (same_Some (n, p) (kept_of (texts_of xs) k) both) }
    go true kept None request both = absurd cc
    go false kept o request both = absurd cc

-- a number that is not found is not kept
pub not_found : (h : History) (xs : List Holding) (ks : List Kept) (n : ℕ) → PartsRepresent xs ks h → find (λ j. n == j.number) ks ≡ None → is_kept h n ≡ false
not_found h xs ks n is at = go (is_kept h n) refl (pending_in h n) refl (found_of h xs ks n None is at)
  where
    none_kept : pending_in h n ≡ None → is_kept h n ≡ false
    none_kept none = rw none refl

    go : (b : Bool) → is_kept h n ≡ b → (o : Option Pending) → pending_in h n ≡ o → with_number n (cond b o None) ≡ None → is_kept h n ≡ false
    go true kept (Some p) request both = absurd cc
    go true kept None request both = none_kept request
    go false kept o request both = kept

-- ---- its piece in another state

pub texts_at : (xs : List Holding) (o : Option ℕ) (s : State) → texts_of (in_state_at xs o s) ≡ texts_of xs
texts_at xs None s = refl
texts_at xs (Some i) s = go (slice_get xs i) refl
  where
    go : (o : Option Holding) → slice_get xs i ≡ o → texts_of (put_in xs i s o) ≡ texts_of xs
    go None here = refl
    go (Some x) here = texts_set xs i x s here

pub long_at : (xs : List Holding) (o : Option ℕ) (s : State) → length (in_state_at xs o s) ≡ length xs
long_at xs None s = refl
long_at xs (Some i) s = go (slice_get xs i)
  where
    go : (o : Option Holding) → length (put_in xs i s o) ≡ length xs
    go None = refl
    go (Some x) = long_set xs i (in_state s x)

pays_by : (h : History) (n : ℕ) (p : Pending) (t : List ℕ) → pending_in h n ≡ Some p → pays_with h n t ≡ pays t p
pays_by h n p t is = ap (λ (o : Option Pending). unwrap_or (option_map (pays t) o) false) is

none_pays : (t : List ℕ) (p : Pending) → p.scrip ≡ None → pays t p ≡ false
none_pays t p is = ap (λ (o : Option (List ℕ)). unwrap_or (option_map (λ s. bytes_eq s t) o) false) is

one_pays : (t text : List ℕ) (p : Pending) → p.scrip ≡ Some text → pays t p ≡ bytes_eq text t
one_pays t text p is = ap (λ (o : Option (List ℕ)). unwrap_or (option_map (λ s. bytes_eq s t) o) false) is

-- what the pieces are moved to by an entry that settles a request
settled_pieces : (h : History) (xs : List Holding) (n : ℕ) (k : Kept) (s : State) (f : List ℕ → Option PieceState) (o : Option ℕ) → o ≡ k.place → IfSome o (λ i. i < length xs) → AreSpelled xs → are_new [] (texts_of xs) ≡ true
    → pending_in h n ≡ Some (request_of (texts_of xs) k) → ((t : List ℕ) → f t ≡ cond (pays_with h n t) (Some (state_of s)) None) → map (moved_by f) (map holding_of xs) ≡ map holding_of (in_state_at xs o s)
settled_pieces h xs n k s f None place within spelled new request moves_to =
    unmoved f (map holding_of xs) (λ t.
    moves_to t ∙ ap (λ (b : Bool). cond b (Some (state_of s)) None) (pays_by h n (request_of (texts_of xs) k) t request
    ∙ none_pays t (request_of (texts_of xs) k) (ap (option_and_then (slice_get (texts_of xs))) (sym place))))
settled_pieces h xs n k s f (Some i) place within spelled new request moves_to = go (slice_get xs i) refl
  where
    go : (o : Option Holding) → slice_get xs i ≡ o → map (moved_by f) (map holding_of xs) ≡ map holding_of (put_in xs i s o)
    go None here = absurd (nothing xs i within here)
      where
        nothing : (ys : List Holding) (j : ℕ) → j < length ys → slice_get ys j ≡ None → ⊥
        nothing [] j lt none = absurd (omega (arith, lt))
        nothing (y ∷ ys) zero lt none = absurd cc
        nothing (y ∷ ys) (suc j) lt none = nothing ys j (omega (arith, lt)) none
    go (Some x) here = moved_one f s xs i x spelled new here (λ u.
        let scrip = ap (option_and_then (slice_get (texts_of xs))) (sym place) ∙ get_map text_of xs i x here in
        moves_to u ∙ ap (λ (b : Bool). cond b (Some (state_of s)) None) (pays_by h n (request_of (texts_of xs) k) u request ∙ one_pays u (text_of x) (request_of (texts_of xs) k) scrip))

placed_of : (n : ℕ) (ks : List Kept) (m : ℕ) (k : Kept) → ArePlaced n ks → find (λ j. m == j.number) ks ≡ Some k → IsPlaced n k
placed_of n [] m k placed at = absurd cc
placed_of n (j ∷ ks) m k placed at = go (m == j.number) at (placed_of n ks m k placed.1)
  where
    go : (b : Bool) → cond b (Some j) (find (λ i. m == i.number) ks) ≡ Some k → (find (λ i. m == i.number) ks ≡ Some k → IsPlaced n k) → IsPlaced n k
    go true at rest = let same : j ≡ k = cc in subst (IsPlaced n) same placed.0
    go false at rest = rest at

-- ---- Refused

abbrev pub without : ℕ → List Kept → List Kept
without n ks = filter (λ k. not (n == k.number)) ks

kept_without : (xs : List Holding) (ks : List Kept) (h : History) (n : ℕ) → kept_requests h ≡ map (kept_of (texts_of xs)) ks → filter (λ x. not (n == x.0)) (kept_requests h) ≡ map (kept_of (texts_of xs)) (without n ks)
kept_without xs ks h n is = ap (filter (λ x. not (n == x.0))) is ∙ filter_map_of (kept_of (texts_of xs)) (λ x. not (n == x.0)) ks

moved_to : (h : History) (xs : List Holding) (ks : List Kept) (n : ℕ) (k : Kept) (s : State) (e : Entry) → IsWalletBook h → PartsRepresent xs ks h → AreSpelled xs → find (λ j. n == j.number) ks ≡ Some k
    → ((t : List ℕ) → moves h t e ≡ cond (pays_with h n t) (Some (state_of s)) None) → map (moved h e) (holdings h) ≡ map holding_of (in_state_at xs k.place s)
moved_to h xs ks n k s e book is spelled at moves_to =
    ap (map (moved h e)) is.pieces
    ∙ settled_pieces h xs n k s (λ t. moves h t e) k.place refl (placed_of (length xs) ks n k is.placed at) spelled (own_apart h xs book is.pieces) (is_found h xs ks n k is at).request moves_to

allowed_by : (h : History) (e : Entry) (b : Bool) → IsWalletBook h → b ≡ true → (is_wallet h && b) ≡ true
allowed_by h e b book is = let wallet = book_is_wallet h book in rw (wallet, is) refl

pub learns_refused : (h : History) (xs : List Holding) (ks : List Kept) (n m refusal : ℕ) (k : Kept) (s : State) → IsWalletBook h → PartsRepresent xs ks h → AreSpelled xs → find (λ j. n == j.number) ks ≡ Some k
    → state_of s ≡ refused_state refusal → LearnsEntry (in_state_at xs k.place s) (without n ks) h (Refused m n refusal) true
learns_refused h xs ks n m refusal k s book is spelled at state =
    let e : Entry = Refused m n refusal in
    let ys : List Holding = in_state_at xs k.place s in
    let texts = texts_at xs k.place s in (
      (is_found h xs ks n k is at).kept,
      record {
        pieces =
            holdings_more h e ∙ append-nil (map (moved h e) (holdings h))
            ∙ moved_to h xs ks n k s e book is spelled at (λ t. ap (λ (q : PieceState). cond (pays_with h n t) (Some q) None) (sym state));
        kept = kept_refused h m n refusal ∙ kept_without xs ks h n is.kept ∙ ap (λ (ts : List (List ℕ)). map (kept_of ts) (without n ks)) (sym texts);
        placed = subst (λ (l : ℕ). ArePlaced l (without n ks)) (sym (long_at xs k.place s)) (placed_filter (length xs) (λ j. not (n == j.number)) ks is.placed);
      },
    )

-- ---- Done

-- the pieces of a settlement, for the customer of its request
abbrev pub settled_pieces_of : List ℕ → Option (List ℕ) → Option Held → List Held
settled_pieces_of secret change got = option_to_list (option_map (λ text. record { text = text; secret = secret }) change) ++ option_to_list got

pub texts_of_settled : (secret : List ℕ) (change : Option (List ℕ)) (got : Option Held) → held_texts (settled_pieces_of secret change got) ≡ settled_texts change got
texts_of_settled secret None None = refl
texts_of_settled secret None (Some p) = refl
texts_of_settled secret (Some t) None = refl
texts_of_settled secret (Some t) (Some p) = refl

brings_settled : (h : History) (n : ℕ) (secret : List ℕ) (change : Option (List ℕ)) (got : Option Held) → secret_at h n ≡ secret
    → option_to_list (option_map (change_held h n) change) ++ option_to_list got ≡ settled_pieces_of secret change got
brings_settled h n secret None got is = refl
brings_settled h n secret (Some t) got is = ap (λ (s : List ℕ). record { text = t; secret = s } ∷ option_to_list got) is

and_false : (a : Bool) → (a && false) ≡ false
and_false true = refl
and_false false = refl

pub learns_done : (h : History) (xs ys : List Holding) (ks : List Kept) (n m price : ℕ) (change : Option (List ℕ)) (got : Option Held) (k : Kept) (r : Bool) → IsWalletBook h → PartsRepresent xs ks h → AreSpelled xs
    → find (λ j. n == j.number) ks ≡ Some k → AllByRecursion HasText (settled_pieces_of k.secret change got) → Brings (in_state_at xs k.place states.Used) ys (settled_pieces_of k.secret change got) r
    → LearnsEntry ys (without n ks) h (Done m n price change got) r
learns_done h xs ys ks n m price change got k false book is spelled at fit brought =
    let texts = texts_at xs k.place states.Used ∙ sym (came_texts h xs is.pieces) in
    let old : are_new (texts_came h) (settled_texts change got) ≡ false =
    ap (are_new (texts_came h)) (sym (texts_of_settled k.secret change got)) ∙ ap (λ (ts : List (List ℕ)). are_new ts (held_texts (settled_pieces_of k.secret change got))) (sym texts) ∙ brought in
    ap (λ (b : Bool). is_kept h n && b) old ∙ and_false (is_kept h n)
learns_done h xs ys ks n m price change got k true book is spelled at fit brought =
    let e : Entry = Done m n price change got in
    let ps : List Held = settled_pieces_of k.secret change got in
    let zs : List Holding = in_state_at xs k.place states.Used in
    let found = is_found h xs ks n k is at in
    let texts = texts_at xs k.place states.Used in
    let came = came_texts h xs is.pieces in
    let new : are_new (texts_came h) (held_texts ps) ≡ true = ap (λ (ts : List (List ℕ)). are_new ts (held_texts ps)) (came ∙ sym texts) ∙ brought.0 in
    let named : are_new (texts_came h) (settled_texts change got) ≡ true = ap (are_new (texts_came h)) (sym (texts_of_settled k.secret change got)) ∙ new in
    let allowed : entry_allowed h e ≡ true = ap (λ (b : Bool). is_kept h n && b) named ∙ (let kept = found.kept in rw kept refl) in
    let may : wallet_allows h e ≡ true = allowed_by h e (entry_allowed h e) book allowed in
    let secret : secret_at h n ≡ k.secret = ap (λ (o : Option Pending). unwrap_or (option_map (λ p. p.secret) o) (replicate 16 0)) found.request in
    let pieces : brings h e ≡ ps = brings_settled h n k.secret change got secret in
    let more = brought_texts zs ys ps brought.1 in
    let long = long_at xs k.place states.Used in
    let left : kept_requests (h ++ e ∷ []) ≡ map (kept_of (texts_of zs)) (without n ks) =
    kept_done h m n price change got ∙ kept_without xs ks h n is.kept ∙ ap (λ (ts : List (List ℕ)). map (kept_of ts) (without n ks)) (sym texts) in
    let placed : ArePlaced (length zs) (without n ks) = subst (λ (l : ℕ). ArePlaced l (without n ks)) (sym long) (placed_filter (length xs) (λ j. not (n == j.number)) ks is.placed) in (
      allowed,
      record {
        pieces =
            holdings_more h e ∙ ap (λ (bs : List Held). map (moved h e) (holdings h) ++ map (holding (h ++ e ∷ [])) bs) pieces
            ∙ ap (λ (vs : List model.Holding). map (moved h e) (holdings h) ++ vs) (fresh_pieces h e ps book may fit new)
            ∙ ap (λ (vs : List model.Holding). vs ++ map fresh_of ps) (moved_to h xs ks n k states.Used e book is spelled at (λ t. refl)) ∙ sym brought.1;
        kept = kept_with zs ys (without n ks) ps (h ++ e ∷ []) left placed more;
        placed = placed_with zs ys (without n ks) ps placed more;
      },
    )
