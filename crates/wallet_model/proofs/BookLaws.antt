-- Wallets' books, one entry after the other.
use Rattle.std.proofs.Common.{◌≡◌, ℕ, zero, suc, ◌<◌, ◌≤◌, [], ◌∷◌, ◌++◌, take, Option, Some, None, refl, sym, subst, ◌∙◌, append_assoc, append-nil, arith, slice_get, inl, inr}
use Rattle.std.specs.Prelude.{MatchOption}
use Rattle.std.proofs.lemmas.Bool.{cases_lt}
use Rattle.mc_records.specs.Entry.{Entry}
use Rattle.mc_records.specs.Following.{AllFollowBy}
use Rattle.ledger_model.specs.Histories.{History}
use Rattle.wallet_model.specs.Follows.{WalletFollows, IsWalletBook, IsFirstAgainst}
use Rattle.ledger_model.proofs.LawfulLaws.{get_take, take_take}

-- what holds after some entries, and goes over each that may follow, holds after all that follow
pub walked : (P : History → Type 0) → ((h : History) (e : Entry) → P h → WalletFollows h e → P (h ++ e ∷ []))
    → (before es : History) → P before → AllFollowBy WalletFollows before es → P (before ++ es)
walked P step before [] p all = subst P (sym (append-nil before)) p
walked P step before (e ∷ es) p all = subst P (append_assoc before (e ∷ []) es) (walked P step (before ++ e ∷ []) es (step before e p all.0) all.1)

pub all_split : (before xs ys : History) → AllFollowBy WalletFollows before (xs ++ ys) → AllFollowBy WalletFollows before xs × AllFollowBy WalletFollows (before ++ xs) ys
all_split before [] ys all = (tt, subst (λ (h : History). AllFollowBy WalletFollows h ys) (sym (append-nil before)) all)
all_split before (x ∷ xs) ys all =
    let rest = all_split (before ++ x ∷ []) xs ys all.1 in
    ((all.0, rest.0), subst (λ (h : History). AllFollowBy WalletFollows h ys) (append_assoc before (x ∷ []) xs) rest.1)

pub all_joined : (before xs ys : History) → AllFollowBy WalletFollows before xs → AllFollowBy WalletFollows (before ++ xs) ys → AllFollowBy WalletFollows before (xs ++ ys)
all_joined before [] ys front back = subst (λ (h : History). AllFollowBy WalletFollows h ys) (append-nil before) back
all_joined before (x ∷ xs) ys front back =
    (front.0, all_joined (before ++ x ∷ []) xs ys front.1 (subst (λ (h : History). AllFollowBy WalletFollows h ys) (sym (append_assoc before (x ∷ []) xs)) back))

pub all_of_book : (h : History) → IsWalletBook h → AllFollowBy WalletFollows [] h
all_of_book [] book = absurd book
all_of_book (e ∷ es) book = book

pub book_prefix : (e : Entry) (xs ys : History) → IsWalletBook ((e ∷ xs) ++ ys) → IsWalletBook (e ∷ xs)
book_prefix e xs ys book = (all_split [] (e ∷ xs) ys book).0

-- one entry more
pub book_grows : (h : History) (e : Entry) → IsWalletBook h → WalletFollows h e → IsWalletBook (h ++ e ∷ [])
book_grows [] e book follows = absurd book
book_grows (x ∷ xs) e book follows = all_joined [] (x ∷ xs) (e ∷ []) book (follows, tt)

-- ---- the first entry that may not follow

follows_at : (before es : History) (n : ℕ) (e : Entry) → AllFollowBy WalletFollows before es → slice_get es n ≡ Some e → WalletFollows (before ++ take n es) e
follows_at before [] n e all is = absurd cc
follows_at before (x ∷ xs) zero e all is =
    let same : x ≡ e = cc in
    subst (λ (h : History). WalletFollows h e) (sym (append-nil before)) (subst (λ (y : Entry). WalletFollows before y) same all.0)
follows_at before (x ∷ xs) (suc n) e all is =
    subst (λ (h : History). WalletFollows h e) (append_assoc before (x ∷ []) (take n xs)) (follows_at (before ++ x ∷ []) xs n e all.1 is)

-- an entry that breaks contradicts that all follow
broken : (h es : History) (n : ℕ) → MatchOption (slice_get h n) ((h ≡ []) × (n ≡ 0)) (λ e. WalletFollows (take n h) e → ⊥)
    → slice_get es n ≡ slice_get h n → take n es ≡ take n h → (h ≡ [] → ⊥) → AllFollowBy WalletFollows [] es → ⊥
broken h es n breaks got front some all = go (slice_get h n) refl breaks
  where
    go : (o : Option Entry) → slice_get h n ≡ o → MatchOption o ((h ≡ []) × (n ≡ 0)) (λ e. WalletFollows (take n h) e → ⊥) → ⊥
    go None is b = some b.0
    go (Some e) is b = b (subst (λ (g : History). WalletFollows g e) front (follows_at [] es n e all (got ∙ is)))

not_empty : (x : Entry) (xs : History) → x ∷ xs ≡ [] → ⊥
not_empty x xs e = cc

pub unlawful : (h : History) (n : ℕ) → IsFirstAgainst h n → IsWalletBook h → ⊥
unlawful [] n first book = book
unlawful (x ∷ xs) n first book = broken (x ∷ xs) (x ∷ xs) n first.breaks refl refl (not_empty x xs) book

none_before : (x : Entry) (xs : History) (n m : ℕ) → IsFirstAgainst (x ∷ xs) n → IsFirstAgainst (x ∷ xs) m → n < m → ⊥
none_before x xs n m first other lt =
    broken (x ∷ xs) (take m (x ∷ xs)) n first.breaks (get_take (x ∷ xs) n m lt) (take_take (x ∷ xs) n m lt) (not_empty x xs) other.before

pub one_number : (h : History) (n m : ℕ) → IsFirstAgainst h n → IsFirstAgainst h m → n ≡ m
one_number [] n m first other = first.breaks.1 ∙ sym other.breaks.1
one_number (x ∷ xs) n m first other =
    let low = none_before x xs n m first other in
    let high = none_before x xs m n other first in
    omega (arith, not_below n m low, not_below m n high)
  where
    not_below : (a b : ℕ) → (a < b → ⊥) → b ≤ a
    not_below a b never = elim (cases_lt a b) [ inl lt ↦ absurd (never lt) | inr le ↦ le ]
