-- What a lawful book of a wallet settles and pays: each request once, and each piece once.
use Rattle.std.proofs.Common.{◌≡◌, ℕ, zero, suc, ◌+◌, ◌≤◌, ◌<◌, Bool, true, false, ◌||◌, ◌&&◌, cond, List, [], ◌∷◌, ◌++◌, length, map, Option, Some, None, refl, ap, sym, subst, ◌∙◌, append_assoc, arith, filter, count_by, inl, inr, unwrap_or, option_map, bytes_eq}
use Rattle.std.proofs.lemmas.Bool.{eqb-true, cases_lt}
use Rattle.std.proofs.lemmas.List.{length-append}
use Rattle.std.proofs.lemmas.List.Folds.{list_any-append}
use Rattle.std.proofs.lemmas.Slice.Eq.{bytes_eq-Decides}
use Rattle.std.specs.Prelude.{◌==◌, not, is_some}
use Rattle.std.specs.List.{list_any}
use Rattle.mc_records.specs.Entry.{Held, Entry, Pend, Done, Refused}
use Rattle.mc_records.specs.Following.{AllFollowBy}
use Rattle.ledger_model.specs.Histories.{History}
use Rattle.ledger_model.proofs.ListLaws.{counts_cons, counts_append, counts_none}
use Rattle.wallet_model.specs.Requests.{Pending, pending_in, settles, is_kept, kept_requests, pays, pays_with}
use Rattle.wallet_model.specs.Holdings.{PieceState, held, pending, disputed, used, dead, refused_state, moves, state_in, holding, pieces_came, is_held, has_held}
use Rattle.wallet_model.specs.Follows.{is_wallet, asks_rightly, wallet_allows, WalletFollows, IsWalletBook}
use Rattle.wallet_model.specs.Laws.{is_pending, is_last}
use Rattle.wallet_model.proofs.BookLaws.{walked, all_split, all_of_book}
use Rattle.wallet_model.proofs.PieceLaws.{state_more}
use Rattle.wallet_model.proofs.KeptLaws.{by_cases, both_left, both_right, not_true, kept_pend, kept_done, kept_refused, kept_still, not_kept, kept_at, count_without}

abbrev one_if : Bool → ℕ
one_if b = cond b 1 0

-- ---- an entry settles what is kept

-- what is settled is kept
pub settles_kept : (h : History) (e : Entry) (n : ℕ) → wallet_allows h e ≡ true → settles n e ≡ true → is_kept h n ≡ true
settles_kept h (Done m k price change got) n allowed is =
    let at : k ≡ n = eqb-true k n is in
    subst (λ (j : ℕ). is_kept h j ≡ true) at (both_left (is_kept h k) _ (both_right (is_wallet h) _ allowed))
settles_kept h (Refused m k refusal) n allowed is =
    let at : k ≡ n = eqb-true k n is in
    subst (λ (j : ℕ). is_kept h j ≡ true) at (both_right (is_wallet h) _ allowed)
settles_kept h e n allowed is = absurd cc

-- and stands before
pub kept_below : (h : History) (n : ℕ) → is_kept h n ≡ true → n < length h
kept_below h n kept = elim (cases_lt n (length h)) [
  | inl lt ↦ lt
  | inr le ↦ absurd (let none : is_kept h n ≡ false = not_kept h n le in cc (none, kept))
]

settles_none : (h : History) (e : Entry) (k : ℕ) → wallet_allows h e ≡ true → length h ≤ k → settles k e ≡ false
settles_none h e k allowed le = elim (by_cases (settles k e)) [
  | inr f ↦ f
  | inl t ↦ absurd (omega (arith, le, kept_below h k (settles_kept h e k allowed t)))
]

-- no entry settles a number that is not below the count of entries
pub AreOpen : History → Type 0
AreOpen h = (k : ℕ) → length h ≤ k → list_any (settles k) h ≡ false

any_more : (h : History) (e : Entry) (k : ℕ) → list_any (settles k) (h ++ e ∷ []) ≡ (list_any (settles k) h || (settles k e || false))
any_more h e k = list_any-append (settles k) h (e ∷ [])

open_step : (h : History) (e : Entry) → AreOpen h → WalletFollows h e → AreOpen (h ++ e ∷ [])
unfolding AreOpen
open_step h e before follows k le =
    let short : length h ≤ k = omega (arith, le, length-append h (e ∷ [])) in
    any_more h e k ∙ (rw (before k short, settles_none h e k follows.allowed short) refl)

open_none : AreOpen []
unfolding AreOpen
open_none k le = refl

pub all_open : (h : History) → AllFollowBy WalletFollows [] h → AreOpen h
all_open h all = walked AreOpen open_step [] h open_none all

pub next_is_open : (h : History) → AllFollowBy WalletFollows [] h → list_any (settles (length h)) h ≡ false
unfolding AreOpen
next_is_open h all = all_open h all (length h) (omega arith)

-- ---- each request is settled once

pub SettledOnce : History → Type 0
SettledOnce h = (n : ℕ) → count_by (settles n) h ≤ 1

none_settled : (h : History) (n : ℕ) → is_kept h n ≡ true → count_by (settles n) h ≡ 0
none_settled h n kept = counts_none (settles n) h (not_true (list_any (settles n) h) (both_right (is_some (pending_in h n)) _ kept))

once_step : (h : History) (e : Entry) → SettledOnce h → WalletFollows h e → SettledOnce (h ++ e ∷ [])
unfolding SettledOnce
once_step h e before follows n = go (settles n e) refl (counts_append (settles n) h (e ∷ [])) (counts_cons (settles n) e [])
  where
    go : (b : Bool) → settles n e ≡ b → count_by (settles n) (h ++ e ∷ []) ≡ count_by (settles n) h + count_by (settles n) (e ∷ []) → count_by (settles n) (e ∷ []) ≡ one_if b + 0 → count_by (settles n) (h ++ e ∷ []) ≤ 1
    go true is both one = omega (arith, both, one, none_settled h n (settles_kept h e n follows.allowed is))
    go false is both one = omega (arith, both, one, before n)

once_none : SettledOnce []
unfolding SettledOnce
once_none n = omega arith

pub settled_once : (h : History) (n : ℕ) → IsWalletBook h → count_by (settles n) h ≤ 1
unfolding SettledOnce
settled_once h n book = walked SettledOnce once_step [] h once_none (all_of_book h book) n

-- ---- a pending piece has one kept request, and another none
abbrev pub kept_on : History → List ℕ → ℕ
kept_on h text = count_by (λ x. pays text x.1) (kept_requests h)

pub record Paid (h : History) : Type 0 where
  pub unsettled : AreOpen h
  pub counted : (text : List ℕ) → kept_on h text ≡ one_if (is_pending (state_in h text))

-- a piece that pays is held
held_among : (h : History) (text : List ℕ) (ps : List Held) → list_any (λ x. bytes_eq x.text text && is_held x.state) (map (holding h) ps) ≡ true → is_held (state_in h text) ≡ true
held_among h text [] any = absurd cc
held_among h text (p ∷ ps) any = go (bytes_eq p.text text) (is_held (state_in h p.text)) refl refl any (held_among h text ps)
  where
    go : (b c : Bool) → bytes_eq p.text text ≡ b → is_held (state_in h p.text) ≡ c → ((b && c) || list_any (λ x. bytes_eq x.text text && is_held x.state) (map (holding h) ps)) ≡ true
        → (list_any (λ x. bytes_eq x.text text && is_held x.state) (map (holding h) ps) ≡ true → is_held (state_in h text) ≡ true) → is_held (state_in h text) ≡ true
    go true true is here any rest = subst (λ (t : List ℕ). is_held (state_in h t) ≡ true) ((bytes_eq-Decides p.text text).0 is) here
    go true false is here any rest = rest any
    go false c is here any rest = rest any

is_the_held : (s : PieceState) → is_held s ≡ true → s ≡ held
is_the_held held h = refl
is_the_held pending h = absurd cc
is_the_held disputed h = absurd cc
is_the_held used h = absurd cc
is_the_held dead h = absurd cc

pub held_state : (h : History) (text : List ℕ) → has_held h text ≡ true → state_in h text ≡ held
held_state h text has = is_the_held (state_in h text) (held_among h text (pieces_came h) has)

asks_held : (h : History) (ask : ℕ) (peer target scrip : List ℕ) → asks_rightly h ask peer target (Some scrip) ≡ true → has_held h scrip ≡ true
asks_held h zero peer target scrip rightly = both_left (has_held h scrip) _ rightly
asks_held h (suc zero) peer target scrip rightly = both_left (has_held h scrip) _ rightly
asks_held h (suc (suc ask)) peer target scrip rightly = absurd cc

-- a request of a held piece, and then of a piece that is pending
pend_step : (h : History) (m ask : ℕ) (peer target scrip secret : List ℕ) → Paid h → has_held h scrip ≡ true → (text : List ℕ)
    → kept_on (h ++ Pend m ask peer target (Some scrip) secret ∷ []) text ≡ one_if (is_pending (state_in (h ++ Pend m ask peer target (Some scrip) secret ∷ []) text))
unfolding AreOpen
pend_step h m ask peer target scrip secret before has text =
    let e : Entry = Pend m ask peer target (Some scrip) secret in
    let request : Pending = record { ask = ask; peer = peer; target = target; scrip = Some scrip; secret = secret } in
    let f : ℕ × Pending → Bool = λ x. pays text x.1 in
    let kept : kept_on (h ++ e ∷ []) text ≡ kept_on h text + count_by f ((length h, request) ∷ []) =
    ap (count_by f) (kept_pend h m ask peer target (Some scrip) secret (before.unsettled (length h) (omega arith))) ∙ counts_append f (kept_requests h) ((length h, request) ∷ []) in
    let one : count_by f ((length h, request) ∷ []) ≡ one_if (bytes_eq scrip text) + 0 = counts_cons f (length h, request) [] in
    go (bytes_eq scrip text) refl (omega (arith, kept, one)) (state_more h e text)
  where
    go : (b : Bool) → bytes_eq scrip text ≡ b → kept_on (h ++ Pend m ask peer target (Some scrip) secret ∷ []) text ≡ kept_on h text + one_if b
        → state_in (h ++ Pend m ask peer target (Some scrip) secret ∷ []) text ≡ unwrap_or (cond b (Some pending) None) (state_in h text)
        → kept_on (h ++ Pend m ask peer target (Some scrip) secret ∷ []) text ≡ one_if (is_pending (state_in (h ++ Pend m ask peer target (Some scrip) secret ∷ []) text))
    go true is kept state =
        let at : scrip ≡ text = (bytes_eq-Decides scrip text).0 is in
        let was : state_in h text ≡ held = held_state h text (subst (λ (t : List ℕ). has_held h t ≡ true) at has) in
        let none : kept_on h text ≡ 0 = before.counted text ∙ ap (λ (s : PieceState). one_if (is_pending s)) was in
        let now : one_if (is_pending (state_in (h ++ Pend m ask peer target (Some scrip) secret ∷ []) text)) ≡ 1 = ap (λ (s : PieceState). one_if (is_pending s)) state in
        omega (arith, kept, none, now)
    go false is kept state =
        let now : one_if (is_pending (state_in (h ++ Pend m ask peer target (Some scrip) secret ∷ []) text)) ≡ one_if (is_pending (state_in h text)) = ap (λ (s : PieceState). one_if (is_pending s)) state in
        omega (arith, kept, before.counted text, now)

-- what is settled is taken off, and its piece is no longer pending
settle_step : (h : History) (e : Entry) (n : ℕ) (s : PieceState) → Paid h → is_kept h n ≡ true → is_pending s ≡ false
    → kept_requests (h ++ e ∷ []) ≡ filter (λ x. not (n == x.0)) (kept_requests h) → (text : List ℕ) → moves h text e ≡ cond (pays_with h n text) (Some s) None
    → kept_on (h ++ e ∷ []) text ≡ one_if (is_pending (state_in (h ++ e ∷ []) text))
settle_step h e n s before kept ends left text moved =
    let k = kept_at h n kept in
    let f : ℕ × Pending → Bool = λ x. pays text x.1 in
    let same : pays_with h n text ≡ pays text k.request = ap (λ (o : Option Pending). unwrap_or (option_map (pays text) o) false) k.is in
    let less : kept_on h text ≡ kept_on (h ++ e ∷ []) text + one_if (pays text k.request) =
    count_without h n f k ∙ ap (λ (xs : List (ℕ × Pending)). count_by f xs + one_if (pays text k.request)) (sym left) in
    go (pays text k.request) less (state_more h e text ∙ ap (λ (o : Option PieceState). unwrap_or o (state_in h text)) (moved ∙ ap (λ (b : Bool). cond b (Some s) None) same)) (before.counted text)
  where
    most : (t : PieceState) → one_if (is_pending t) ≤ 1
    most held = omega arith
    most pending = omega arith
    most disputed = omega arith
    most used = omega arith
    most dead = omega arith

    go : (b : Bool) → kept_on h text ≡ kept_on (h ++ e ∷ []) text + one_if b → state_in (h ++ e ∷ []) text ≡ unwrap_or (cond b (Some s) None) (state_in h text)
        → kept_on h text ≡ one_if (is_pending (state_in h text)) → kept_on (h ++ e ∷ []) text ≡ one_if (is_pending (state_in (h ++ e ∷ []) text))
    go true less state was =
        let now : one_if (is_pending (state_in (h ++ e ∷ []) text)) ≡ 0 = ap (λ (t : PieceState). one_if (is_pending t)) state ∙ ap (λ (b : Bool). one_if b) ends in
        omega (arith, less, was, now, most (state_in h text))
    go false less state was =
        let now : one_if (is_pending (state_in (h ++ e ∷ []) text)) ≡ one_if (is_pending (state_in h text)) = ap (λ (t : PieceState). one_if (is_pending t)) state in
        omega (arith, less, was, now)

refused_ends : (refusal : ℕ) → is_pending (refused_state refusal) ≡ false
refused_ends refusal = go (refusal == 27) (refusal == 26)
  where
    go : (a b : Bool) → is_pending (cond a disputed (cond b dead held)) ≡ false
    go true b = refl
    go false true = refl
    go false false = refl

-- an entry that is on no piece, and settles and asks nothing
quiet_step : (h : History) (e : Entry) → Paid h → kept_requests (h ++ e ∷ []) ≡ kept_requests h → (text : List ℕ) → moves h text e ≡ None
    → kept_on (h ++ e ∷ []) text ≡ one_if (is_pending (state_in (h ++ e ∷ []) text))
quiet_step h e before same text still =
    ap (count_by (λ x. pays text x.1)) same ∙ before.counted text
    ∙ ap (λ (s : PieceState). one_if (is_pending s)) (sym (state_more h e text ∙ ap (λ (o : Option PieceState). unwrap_or o (state_in h text)) still))

-- a draw pays with no piece
draw_step : (h : History) (m ask : ℕ) (peer target secret : List ℕ) → Paid h → (text : List ℕ)
    → kept_on (h ++ Pend m ask peer target None secret ∷ []) text ≡ one_if (is_pending (state_in (h ++ Pend m ask peer target None secret ∷ []) text))
unfolding AreOpen
draw_step h m ask peer target secret before text =
    let e : Entry = Pend m ask peer target None secret in
    let request : Pending = record { ask = ask; peer = peer; target = target; scrip = None; secret = secret } in
    let f : ℕ × Pending → Bool = λ x. pays text x.1 in
    let kept : kept_on (h ++ e ∷ []) text ≡ kept_on h text + count_by f ((length h, request) ∷ []) =
    ap (count_by f) (kept_pend h m ask peer target None secret (before.unsettled (length h) (omega arith))) ∙ counts_append f (kept_requests h) ((length h, request) ∷ []) in
    let one : count_by f ((length h, request) ∷ []) ≡ 0 + 0 = counts_cons f (length h, request) [] in
    let now : one_if (is_pending (state_in (h ++ e ∷ []) text)) ≡ one_if (is_pending (state_in h text)) = ap (λ (s : PieceState). one_if (is_pending s)) (state_more h e text) in
    omega (arith, kept, one, now, before.counted text)

counted_step : (h : History) (e : Entry) → Paid h → wallet_allows h e ≡ true → (text : List ℕ) → kept_on (h ++ e ∷ []) text ≡ one_if (is_pending (state_in (h ++ e ∷ []) text))
counted_step h (Pend m ask peer target (Some scrip) secret) before allowed text =
    pend_step h m ask peer target scrip secret before (asks_held h ask peer target scrip (both_right (is_wallet h) _ allowed)) text
counted_step h (Pend m ask peer target None secret) before allowed text = draw_step h m ask peer target secret before text
counted_step h (Done m n price change got) before allowed text =
    settle_step h (Done m n price change got) n used before (both_left (is_kept h n) _ (both_right (is_wallet h) _ allowed)) refl (kept_done h m n price change got) text refl
counted_step h (Refused m n refusal) before allowed text =
    settle_step h (Refused m n refusal) n (refused_state refusal) before (both_right (is_wallet h) _ allowed) (refused_ends refusal) (kept_refused h m n refusal) text refl
counted_step h e before allowed text = quiet_step h e before (kept_still h e refl (λ n. refl)) text refl

paid_step : (h : History) (e : Entry) → Paid h → WalletFollows h e → Paid (h ++ e ∷ [])
paid_step h e before follows = record {
  unsettled = open_step h e before.unsettled follows;
  counted = counted_step h e before follows.allowed;
}

paid_none : Paid []
paid_none = record { unsettled = open_none; counted = λ text. refl }

pub all_paid : (h : History) → AllFollowBy WalletFollows [] h → Paid h
all_paid h all = walked Paid paid_step [] h paid_none all

-- ---- a piece that was used stays so, and pays no more

-- where a kept request pays with a piece, it is pending
pub pays_pending : (h : History) (n : ℕ) (text : List ℕ) → Paid h → is_kept h n ≡ true → pays_with h n text ≡ true → is_pending (state_in h text) ≡ true
pays_pending h n text paid kept pays_it =
    let k = kept_at h n kept in
    let f : ℕ × Pending → Bool = λ x. pays text x.1 in
    let it : pays text k.request ≡ true = sym (ap (λ (o : Option Pending). unwrap_or (option_map (pays text) o) false) k.is) ∙ pays_it in
    let less = count_without h n f k in
    let one : one_if (pays text k.request) ≡ 1 = ap (λ (b : Bool). one_if b) it in
    go (is_pending (state_in h text)) refl (paid.counted text) (omega (arith, less, one))
  where
    go : (b : Bool) → is_pending (state_in h text) ≡ b → kept_on h text ≡ one_if b → 1 ≤ kept_on h text → is_pending (state_in h text) ≡ true
    go true is c some = is
    go false is c some = absurd (omega (arith, c, some))

not_both : (s : PieceState) → is_last s ≡ true → is_pending s ≡ true → ⊥
not_both held a b = cc
not_both pending a b = cc
not_both disputed a b = cc
not_both used a b = cc
not_both dead a b = cc

not_held : (s : PieceState) → is_last s ≡ true → s ≡ held → ⊥
not_held held a b = cc
not_held pending a b = cc
not_held disputed a b = let c : is_held disputed ≡ is_held held = ap is_held b in cc
not_held used a b = let c : is_held used ≡ is_held held = ap is_held b in cc
not_held dead a b = let c : is_held dead ≡ is_held held = ap is_held b in cc

-- no entry that may follow is on a piece in such a state
no_move : (h : History) (e : Entry) (text : List ℕ) → Paid h → wallet_allows h e ≡ true → is_last (state_in h text) ≡ true → moves h text e ≡ None
no_move h (Pend m ask peer target (Some scrip) secret) text paid allowed last = go (bytes_eq scrip text) refl
  where
    go : (b : Bool) → bytes_eq scrip text ≡ b → cond b (Some pending) None ≡ None
    go false is = refl
    go true is = absurd (
        let at : scrip ≡ text = (bytes_eq-Decides scrip text).0 is in
        let has : has_held h text ≡ true = subst (λ (t : List ℕ). has_held h t ≡ true) at (asks_held h ask peer target scrip (both_right (is_wallet h) _ allowed)) in
        not_held (state_in h text) last (held_state h text has))
no_move h (Done m n price change got) text paid allowed last = go (pays_with h n text) refl
  where
    go : (b : Bool) → pays_with h n text ≡ b → cond b (Some used) None ≡ None
    go false is = refl
    go true is = absurd (not_both (state_in h text) last (pays_pending h n text paid (both_left (is_kept h n) _ (both_right (is_wallet h) _ allowed)) is))
no_move h (Refused m n refusal) text paid allowed last = go (pays_with h n text) refl
  where
    go : (b : Bool) → pays_with h n text ≡ b → cond b (Some (refused_state refusal)) None ≡ None
    go false is = refl
    go true is = absurd (not_both (state_in h text) last (pays_pending h n text paid (both_right (is_wallet h) _ allowed) is))
no_move h e text paid allowed last = refl

record Stays (text : List ℕ) (s : PieceState) (h : History) : Type 0 where
  paid : Paid h
  state : state_in h text ≡ s

stays_step : (text : List ℕ) (s : PieceState) → is_last s ≡ true → (h : History) (e : Entry) → Stays text s h → WalletFollows h e → Stays text s (h ++ e ∷ [])
stays_step text s last h e before follows =
    let was : is_last (state_in h text) ≡ true = ap is_last before.state ∙ last in
    record {
      paid = paid_step h e before.paid follows;
      state = state_more h e text ∙ ap (λ (o : Option PieceState). unwrap_or o (state_in h text)) (no_move h e text before.paid follows.allowed was) ∙ before.state;
    }

pub stays_last : (h more : History) (text : List ℕ) → IsWalletBook (h ++ more) → is_last (state_in h text) ≡ true → state_in (h ++ more) text ≡ state_in h text
stays_last h more text book last =
    let all = all_split [] h more (all_of_book (h ++ more) book) in
    (walked (Stays text (state_in h text)) (stays_step text (state_in h text) last) h more (record { paid = all_paid h all.0; state = refl }) all.1).state

-- after an entry that uses a piece: used, and then no request of it is settled or made
used_then : (before between : History) (m n price : ℕ) (change : Option (List ℕ)) (got : Option Held) (text : List ℕ)
    → AllFollowBy WalletFollows [] before → WalletFollows before (Done m n price change got) → AllFollowBy WalletFollows (before ++ Done m n price change got ∷ []) between
    → pays_with before n text ≡ true → Stays text used ((before ++ Done m n price change got ∷ []) ++ between)
used_then before between m n price change got text front it back pays_it =
    let e : Entry = Done m n price change got in
    let state : state_in (before ++ e ∷ []) text ≡ used = state_more before e text ∙ (rw pays_it refl) in
    walked (Stays text used) (stays_step text used refl) (before ++ e ∷ []) between (record { paid = paid_step before e (all_paid before front) it; state = state }) back

record Used (before between : History) (e : Entry) (later : Entry) (text : List ℕ) : Type 0 where
  stays : Stays text used (before ++ e ∷ between)
  follows : WalletFollows (before ++ e ∷ between) later

used_at : (before between after : History) (m n price : ℕ) (change : Option (List ℕ)) (got : Option Held) (later : Entry) (text : List ℕ)
    → IsWalletBook (before ++ Done m n price change got ∷ (between ++ later ∷ after)) → pays_with before n text ≡ true → Used before between (Done m n price change got) later text
used_at before between after m n price change got later text book pays_it =
    let e : Entry = Done m n price change got in
    let first = all_split [] before (e ∷ (between ++ later ∷ after)) (all_of_book (before ++ e ∷ (between ++ later ∷ after)) book) in
    let second = all_split (before ++ e ∷ []) between (later ∷ after) first.1.1 in
    let joined : (before ++ e ∷ []) ++ between ≡ before ++ e ∷ between = append_assoc before (e ∷ []) between in
    record {
      stays = subst (Stays text used) joined (used_then before between m n price change got text first.0 first.1.0 second.0 pays_it);
      follows = subst (λ (h : History). WalletFollows h later) joined second.1.0;
    }

-- what was paid with, no later request that is settled pays with
pub paid_once : (before between after : History) (m n price : ℕ) (change : Option (List ℕ)) (got : Option Held) (later : Entry) (k : ℕ) (text : List ℕ)
    → IsWalletBook (before ++ Done m n price change got ∷ (between ++ later ∷ after)) → pays_with before n text ≡ true → settles k later ≡ true
    → pays_with (before ++ Done m n price change got ∷ between) k text ≡ false
paid_once before between after m n price change got later k text book pays_it is =
    let u = used_at before between after m n price change got later text book pays_it in
    let h : History = before ++ Done m n price change got ∷ between in
    elim (by_cases (pays_with h k text)) [
      | inr f ↦ f
      | inl t ↦ absurd (
          let wait : is_pending (state_in h text) ≡ true = pays_pending h k text u.stays.paid (settles_kept h later k u.follows.allowed is) t in
          let end : is_pending (state_in h text) ≡ false = ap is_pending u.stays.state in
          cc (wait, end))
    ]

-- nor is it asked with again
pub asked_once : (before between after : History) (m n price : ℕ) (change : Option (List ℕ)) (got : Option Held) (k ask : ℕ) (peer target text secret : List ℕ)
    → IsWalletBook (before ++ Done m n price change got ∷ (between ++ Pend k ask peer target (Some text) secret ∷ after)) → pays_with before n text ≡ true → ⊥
asked_once before between after m n price change got k ask peer target text secret book pays_it =
    let u = used_at before between after m n price change got (Pend k ask peer target (Some text) secret) text book pays_it in
    let h : History = before ++ Done m n price change got ∷ between in
    let free : state_in h text ≡ held = held_state h text (asks_held h ask peer target text (both_right (is_wallet h) _ u.follows.allowed)) in
    let both : is_last used ≡ is_last held = ap is_last (sym u.stays.state ∙ free) in
    absurd cc

-- ---- the same of a book

pub settled_is_kept : (before more : History) (e : Entry) (n : ℕ) → IsWalletBook (before ++ e ∷ more) → settles n e ≡ true → is_kept before n ≡ true
settled_is_kept before more e n book is = settles_kept before e n (all_split [] before (e ∷ more) (all_of_book (before ++ e ∷ more) book)).1.0.allowed is

pub book_next : (h : History) → IsWalletBook h → list_any (settles (length h)) h ≡ false
book_next h book = next_is_open h (all_of_book h book)

pub book_counted : (h : History) (text : List ℕ) → IsWalletBook h → kept_on h text ≡ one_if (is_pending (state_in h text))
book_counted h text book = (all_paid h (all_of_book h book)).counted text
