-- The definitions over the first entries, with one more.
use Rattle.std.proofs.Common.{◌≡◌, ℕ, ◌+◌, ◌<◌, ◌≤◌, Bool, true, false, ◌||◌, ◌&&◌, List, [], ◌∷◌, ◌++◌, length, map, take, drop, Option, Some, None, option_map, unwrap_or, slice_get, IfSome, bytes_eq, refl, sym, ap, subst, ◌∙◌}
use Rattle.std.specs.Prelude.{not, option_and_then, IsTrue, MatchOption}
use Rattle.std.specs.List.{list_any}
use Rattle.std.proofs.lemmas.List.{take-append-drop, take-take}
use Rattle.std.proofs.lemmas.List.Folds.{list_any-append}
use Rattle.std.proofs.lemmas.Slice.Eq.{bytes_eq-Decides}
use Rattle.mc_records.specs.Entry.{Held, Entry}
use Rattle.mc_records.specs.Following.{AllFollowBy}
use Rattle.ledger_model.specs.Histories.{History}
use Rattle.wallet_model.specs.Holdings.{PieceState, brings, pieces_from, pieces_came, texts_came, moves, state_in, holding, is_held, has_held}
use Rattle.wallet_model.specs.Newness.{are_one_piece, is_new, are_new}
use Rattle.wallet_model.specs.Follows.{WalletFollows, IsFirstAgainst}
use Rattle.wallet_model.proofs.BookLaws.{all_joined}
use Rattle.wallet_model.proofs.PieceLaws.{pieces_more, state_more}
use Rattle.wallet_model.proofs.CameLaws.{pieces_both, map_both, new_both}
use Rattle.slow_ledger.proofs.SlowLaws.{Next, next, of_next}
use Rattle.wallet_book.specs.declared.holding.State.{State}
use Rattle.wallet_book.specs.Holdings.{state_of}
use Rattle.slow_wallet.specs.Slow.{brought_at, moved_at}

pub brought_next : (h : History) (n : ℕ) (x : Next h n) → brought_at h n ≡ brings (take n h) x.entry
brought_next h n x = ap (λ (o : Option Entry). unwrap_or (option_map (brings (take n h)) o) []) x.stands

-- the pieces of one entry more
pub came_next : (h : History) (n : ℕ) → n < length h → pieces_came (take (n + 1) h) ≡ pieces_came (take n h) ++ brought_at h n
came_next h n lt =
    let x = next h n lt in
    ap pieces_came x.front ∙ pieces_more (take n h) x.entry ∙ ap (λ (ps : List Held). pieces_came (take n h) ++ ps) (sym (brought_next h n x))

-- the state of a piece after one entry more
pub state_next : (h : History) (n : ℕ) (text : List ℕ) → n < length h → state_in (take (n + 1) h) text ≡ unwrap_or (moved_at h n text) (state_in (take n h) text)
state_next h n text lt =
    let x = next h n lt in
    ap (λ (k : History). state_in k text) x.front ∙ state_more (take n h) x.entry text
    ∙ ap (λ (o : Option PieceState). unwrap_or o (state_in (take n h) text)) (sym (ap (option_and_then (moves (take n h) text)) x.stands))

pub state_or : (o : Option State) (s : State) → state_of (unwrap_or o s) ≡ unwrap_or (option_map state_of o) (state_of s)
state_or None s = refl
state_or (Some t) s = refl

pub state_step : (h : History) (n : ℕ) (text : List ℕ) (m : Option State) (s r : State) → n < length h → option_map state_of m ≡ moved_at h n text → state_of s ≡ state_in (take n h) text → r ≡ unwrap_or m s
    → state_of r ≡ state_in (take (n + 1) h) text
state_step h n text m s r lt moved before is =
    ap state_of is ∙ state_or m s ∙ ap (λ (o : Option PieceState). unwrap_or o (state_of s)) moved
    ∙ ap (unwrap_or (moved_at h n text)) before ∙ sym (state_next h n text lt)

-- ---- pieces that are alike

-- among the pieces of one entry more
pub alike_next : (test : Held → Bool) (h : History) (n : ℕ) (r : Bool) → n < length h → list_any test (pieces_came (take n h)) ≡ false → r ≡ list_any test (brought_at h n)
    → list_any test (pieces_came (take (n + 1) h)) ≡ r
alike_next test h n r lt none is =
    ap (list_any test) (came_next h n lt) ∙ list_any-append test (pieces_came (take n h)) (brought_at h n)
    ∙ ap (λ (b : Bool). b || list_any test (brought_at h n)) none ∙ sym is

-- and so among all
pub alike_all : (test : Held → Bool) (h : History) (m : ℕ) → list_any test (pieces_came (take m h)) ≡ true → list_any test (pieces_came h) ≡ true
alike_all test h m found =
    ap (λ (k : History). list_any test (pieces_came k)) (sym (take-append-drop m h))
    ∙ ap (list_any test) (pieces_both [] (take m h) (drop m h))
    ∙ list_any-append test (pieces_came (take m h)) (pieces_from (take m h) (drop m h))
    ∙ ap (λ (b : Bool). b || list_any test (pieces_from (take m h) (drop m h))) found

and_or : (a b c d : Bool) → ((a && d) || (c && d)) ≡ ((a || c) && d)
and_or true b true true = refl
and_or true b true false = refl
and_or true b false true = refl
and_or true b false false = refl
and_or false b c d = refl

-- a piece with a text is held where one came, and its state is so
pub held_test : (h : History) (text : List ℕ) → has_held h text ≡ (list_any (λ p. bytes_eq p.text text) (pieces_came h) && is_held (state_in h text))
held_test h text = among (pieces_came h)
  where
    one : (p : Held) (b : Bool) → bytes_eq p.text text ≡ b → (b && is_held (state_in h p.text)) ≡ (b && is_held (state_in h text))
    one p false is = refl
    one p true is = ap (λ (t : List ℕ). is_held (state_in h t)) ((bytes_eq-Decides p.text text).0 is)

    among : (ps : List Held) → list_any (λ x. bytes_eq x.text text && is_held x.state) (map (holding h) ps) ≡ (list_any (λ p. bytes_eq p.text text) ps && is_held (state_in h text))
    among [] = refl
    among (p ∷ ps) =
        ap (λ (b : Bool). b || list_any (λ x. bytes_eq x.text text && is_held x.state) (map (holding h) ps)) (one p (bytes_eq p.text text) refl)
        ∙ ap (λ (b : Bool). (bytes_eq p.text text && is_held (state_in h text)) || b) (among ps)
        ∙ and_or (bytes_eq p.text text) true (list_any (λ q. bytes_eq q.text text) ps) (is_held (state_in h text))

-- ---- pieces that are new

-- the texts of pieces know what the pieces do
pub texts_know : (text : List ℕ) (ps : List Held) → list_any (λ t. are_one_piece t text) (map (λ p. p.text) ps) ≡ list_any (λ p. are_one_piece p.text text) ps
texts_know text [] = refl
texts_know text (p ∷ ps) = ap (λ (b : Bool). are_one_piece p.text text || b) (texts_know text ps)

knows_both : (texts xs : List (List ℕ)) (text : List ℕ) → is_new (xs ++ texts) text ≡ not (list_any (λ t. are_one_piece t text) xs || list_any (λ t. are_one_piece t text) texts)
knows_both texts xs text = ap not (list_any-append (λ t. are_one_piece t text) xs texts)

pub text_there : (texts xs : List (List ℕ)) (text : List ℕ) → true ≡ list_any (λ t. are_one_piece t text) xs → false ≡ is_new (xs ++ texts) text
text_there texts xs text there = sym (knows_both texts xs text ∙ ap (λ (b : Bool). not (b || list_any (λ t. are_one_piece t text) texts)) (sym there))

pub text_apart : (h : History) (xs : List (List ℕ)) (text : List ℕ) (r : Bool) → false ≡ list_any (λ t. are_one_piece t text) xs → r ≡ list_any (λ p. are_one_piece p.text text) (pieces_came h)
    → not r ≡ is_new (xs ++ texts_came h) text
text_apart h xs text r apart is =
    ap not (is ∙ sym (texts_know text (pieces_came h)))
    ∙ sym (knows_both (texts_came h) xs text ∙ ap (λ (b : Bool). not (b || list_any (λ t. are_one_piece t text) (texts_came h))) (sym apart))

pub alone_new : (h : History) (text : List ℕ) (r : Bool) → r ≡ list_any (λ p. are_one_piece p.text text) (pieces_came h) → not r ≡ are_new (texts_came h) (text ∷ [])
alone_new h text r is = ap not (is ∙ sym (texts_know text (pieces_came h))) ∙ sym (and_true (is_new (texts_came h) text))
  where
    and_true : (b : Bool) → (b && true) ≡ b
    and_true true = refl
    and_true false = refl

-- one piece more of a list
pub new_next : (texts : List (List ℕ)) (ps : List Held) (k : ℕ) (r : Bool) → k < length ps → are_new texts (map (λ p. p.text) (take k ps)) ≡ true
    → IfSome (slice_get ps k) (λ p. r ≡ is_new (map (λ q. q.text) (take k ps) ++ texts) p.text) → are_new texts (map (λ p. p.text) (take (k + 1) ps)) ≡ r
new_next texts ps k r lt before said =
    let x = next ps k lt in
    let is : r ≡ is_new (map (λ q. q.text) (take k ps) ++ texts) x.entry.text = of_next (λ p. r ≡ is_new (map (λ q. q.text) (take k ps) ++ texts) p.text) ps k x said in
    ap (λ (l : List Held). are_new texts (map (λ p. p.text) l)) x.front
    ∙ ap (are_new texts) (map_both (λ p. p.text) (take k ps) (x.entry ∷ []))
    ∙ new_both texts (map (λ p. p.text) (take k ps)) (x.entry.text ∷ [])
    ∙ ap (λ (b : Bool). b && (is_new (map (λ q. q.text) (take k ps) ++ texts) x.entry.text && true)) before
    ∙ and_true (is_new (map (λ q. q.text) (take k ps) ++ texts) x.entry.text) ∙ sym is
  where
    and_true : (b : Bool) → (b && true) ≡ b
    and_true true = refl
    and_true false = refl

pub not_new_all : (texts : List (List ℕ)) (ps : List Held) (m : ℕ) → are_new texts (map (λ p. p.text) (take m ps)) ≡ false → are_new texts (map (λ p. p.text) ps) ≡ false
not_new_all texts ps m found =
    ap (λ (l : List Held). are_new texts (map (λ p. p.text) l)) (sym (take-append-drop m ps))
    ∙ ap (are_new texts) (map_both (λ p. p.text) (take m ps) (drop m ps))
    ∙ new_both texts (map (λ p. p.text) (take m ps)) (map (λ p. p.text) (drop m ps))
    ∙ ap (λ (b : Bool). b && are_new (map (λ p. p.text) (take m ps) ++ texts) (map (λ p. p.text) (drop m ps))) found

-- ---- among the first of a list

pub listed_next : (test : Held → Bool) (ps : List Held) (k : ℕ) (r : Bool) → k < length ps → list_any test (take k ps) ≡ false → IfSome (slice_get ps k) (λ p. r ≡ test p) → list_any test (take (k + 1) ps) ≡ r
listed_next test ps k r lt none said =
    let x = next ps k lt in
    let is : r ≡ test x.entry = of_next (λ p. r ≡ test p) ps k x said in
    ap (list_any test) x.front ∙ list_any-append test (take k ps) (x.entry ∷ []) ∙ ap (λ (b : Bool). b || (test x.entry || false)) none ∙ or_false (test x.entry) ∙ sym is
  where
    or_false : (b : Bool) → (b || false) ≡ b
    or_false true = refl
    or_false false = refl

-- and so among more of them
pub listed_all : (test : Held → Bool) (ps : List Held) (k count : ℕ) → k ≤ count → list_any test (take k ps) ≡ true → list_any test (take count ps) ≡ true
listed_all test ps k count le found =
    let front : List Held = take k ps in
    let rest : List Held = drop k (take count ps) in
    let is : take count ps ≡ front ++ rest = sym (take-append-drop k (take count ps)) ∙ ap (λ (l : List Held). l ++ rest) (take-take k count ps le) in
    ap (list_any test) is ∙ list_any-append test front rest ∙ ap (λ (b : Bool). b || list_any test rest) found

-- ---- entries that follow

-- what is told of the entry of a number
abbrev Said : History → ℕ → Bool → Type 0
Said h n b = IfSome (slice_get h n) (λ e. (IsTrue b → WalletFollows (take n h) e) × (WalletFollows (take n h) e → IsTrue b))

says : (h : History) (n : ℕ) (b : Bool) (x : Next h n) → Said h n b → (IsTrue b → WalletFollows (take n h) x.entry) × (WalletFollows (take n h) x.entry → IsTrue b)
says h n b x said = of_next (λ e. (IsTrue b → WalletFollows (take n h) e) × (WalletFollows (take n h) e → IsTrue b)) h n x said

pub follows_next : (h : History) (n : ℕ) → n < length h → AllFollowBy WalletFollows [] (take n h) → Said h n true → AllFollowBy WalletFollows [] (take (n + 1) h)
follows_next h n lt all said =
    let x = next h n lt in
    subst (AllFollowBy WalletFollows []) (sym x.front) (all_joined [] (take n h) (x.entry ∷ []) all ((says h n true x said).0 refl, tt))

pub first_there : (h : History) (n : ℕ) → n < length h → AllFollowBy WalletFollows [] (take n h) → Said h n false → IsFirstAgainst h n
first_there h n lt all said =
    let x = next h n lt in
    record {
      before = all;
      breaks = subst (λ (o : Option Entry). MatchOption o ((h ≡ []) × (n ≡ 0)) (λ e. WalletFollows (take n h) e → ⊥)) (sym x.stands) (λ may. let no' : false ≡ true = (says h n false x said).1 may in absurd cc);
    }
