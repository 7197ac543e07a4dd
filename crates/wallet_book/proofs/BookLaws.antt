-- What is kept of a book, with one entry more.
use Rattle.std.proofs.Common.{◌≡◌, ℕ, suc, ◌+◌, ◌≤◌, Bool, true, false, ◌&&◌, ◌||◌, List, [], ◌∷◌, ◌++◌, length, Option, Some, None, refl, sym, ap, ap₂, subst, ◌∙◌, arith, max, option_map, find, filter, bytes_eq}
use Rattle.std.proofs.lemmas.Bool.{eqb-true}
use Rattle.std.proofs.lemmas.List.{length-append}
use Rattle.std.specs.Prelude.{◌==◌, ◌-◌, Result, Ok, Err, OnOk}
use Rattle.mc_records.specs.declared.sizes.TheConstants.{EMPTY_JOURNAL, FRAME}
use Rattle.mc_records.specs.Entry.{House, Entry, Site, moment_of, payload}
use Rattle.mc_records.specs.Chains.{has_switch, is_switch}
use Rattle.mc_records.specs.Sizes.{tail_bytes, entry_size}
use Rattle.mc_records.proofs.ChainLaws.{has_switch-first}
use Rattle.mc_records.proofs.SizeLaws.{length-tail, tail_size-by}
use Rattle.ledger_model.specs.Histories.{History, time}
use Rattle.ledger_model.specs.Houses.{site_name}
use Rattle.ledger_model.proofs.FollowLaws.{size_snoc}
use Rattle.std.specs.Prelude.{filter_map}
use Rattle.std.specs.List.{enumerate_from}
use Rattle.mc_requests.specs.declared.refusal.Refusal.{Refusal}
use Rattle.wallet_model.specs.Asks.{offered_at, is_fit, chosen_by, chosen, due_of, due}
use Rattle.wallet_model.specs.Holdings as model
use Rattle.wallet_model.specs.Requests.{Pending, oldest_kept, kept_get}
use Rattle.wallet_book.specs.Choosing.{fit_among, Chooses}
use Rattle.wallet_model.specs.Follows.{is_wallet, entry_allowed, wallet_allows, WalletFollows, IsWalletBook}
use Rattle.wallet_model.proofs.BookLaws.{book_grows}
use Rattle.wallet_model.proofs.KeptLaws.{both_left, both_right}
use Rattle.wallet_model.proofs.WrittenLaws.{book_is_wallet}
use Rattle.wallet_book.specs.declared.holding.Holding.{Holding}
use Rattle.wallet_book.specs.declared.kept.Kept.{Kept}
use Rattle.wallet_book.specs.Holdings.{texts_of}
use Rattle.wallet_book.specs.Kept.{request_of, kept_of, kept_in, is_get_of, Retries}
use Rattle.wallet_book.specs.Parts.{PartsRepresent}
use Rattle.wallet_book.specs.Book.{BookView, WalletRepresents, IsSameBook, FoundsWallet, HasRoom, brought_count, asked_count}
use Rattle.wallet_book.proofs.KeptLaws.{found_kept, find_map}

pub long_entry : (h : History) (e : Entry) → entry_size h e ≡ length (payload e) + tail_bytes (has_switch h) + FRAME
long_entry h e = omega (arith, length-tail h e, tail_size-by h)

-- ---- the first entry

first_represents : (b : BookView) (m : ℕ) (name : List ℕ) (house : Option House) → b.name ≡ name → b.last ≡ m → b.time ≡ m → b.holdings ≡ [] → b.kept ≡ [] → b.count ≡ 1
    → b.size ≡ EMPTY_JOURNAL + length (payload (Site m 2 name house)) + FRAME → b.switched ≡ false → WalletRepresents b (Site m 2 name house ∷ [])
first_represents b m name house name_is last_is time_is pieces kept count long none_yet =
    let h : History = Site m 2 name house ∷ [] in
    let none : PartsRepresent [] [] h = record { pieces = refl; kept = refl; placed = tt } in
    let at : PartsRepresent b.holdings [] h = subst (λ (xs : List Holding). PartsRepresent xs [] h) (sym pieces) none in
    record {
      lawful = (record { in_order = omega arith; allowed = refl }, tt);
      name = sym name_is;
      last = omega (arith, last_is);
      in_time = omega (arith, time_is);
      parts = subst (λ (ks : List Kept). PartsRepresent b.holdings ks h) (sym kept) at;
      counted = sym count;
      sized = omega (arith, long, long_entry [] (Site m 2 name house));
      switched = sym none_yet;
    }

pub first_of : (b : BookView) (e : Entry) → FoundsWallet e → b.name ≡ site_name (e ∷ []) → b.last ≡ moment_of e → b.time ≡ moment_of e → b.holdings ≡ [] → b.kept ≡ [] → b.count ≡ 1
    → b.size ≡ EMPTY_JOURNAL + length (payload e) + FRAME → b.switched ≡ false → WalletRepresents b (e ∷ [])
first_of b (Site m kind name house) wallet name_is last_is time_is pieces kept count long none_yet =
    let P : ℕ → Type 0 = λ k. b.size ≡ EMPTY_JOURNAL + length (payload (Site m k name house)) + FRAME in
    subst (λ (k : ℕ). WalletRepresents b (Site m k name house ∷ [])) (sym wallet) (first_represents b m name house name_is last_is time_is pieces kept count (subst P wallet long) none_yet)
first_of b e wallet name_is last_is time_is pieces kept count long none_yet = absurd wallet

-- ---- the others

-- the first entry of a book has its name
same_name : (h : History) (e : Entry) → IsWalletBook h → site_name (h ++ e ∷ []) ≡ site_name h
same_name [] e book = absurd book
same_name (Site m k name house ∷ xs) e book = refl
same_name (x ∷ xs) e book = refl

pub time_more : (h : History) (e : Entry) → time (h ++ e ∷ []) ≡ max (time h) (moment_of e)
time_more [] e = omega arith
time_more (x ∷ xs) e = omega (arith, time_more xs e)

allows : (h : History) (e : Entry) → is_wallet h ≡ true → entry_allowed h e ≡ true → wallet_allows h e ≡ true
allows h (Site m kind name house) wallet is = absurd cc
allows h e wallet is = rw (wallet, is) refl

first_only : (h : History) (kind : ℕ) → IsWalletBook h → (length h == 0 && kind == 2) ≡ true → ⊥
first_only [] kind book is = book
first_only (x ∷ xs) kind book is = let none : suc (length xs) ≡ 0 = eqb-true (suc (length xs)) 0 (both_left (suc (length xs) == 0) _ is) in omega (arith, none)

forbids : (h : History) (e : Entry) → IsWalletBook h → entry_allowed h e ≡ false → wallet_allows h e ≡ true → ⊥
forbids h (Site m kind name house) book is may = first_only h kind book may
forbids h e book is may = let it = both_right (is_wallet h) (entry_allowed h e) may in cc (it, is)

-- an entry that the history does not allow may not follow
pub not_allowed : (old : BookView) (h : History) (e : Entry) → WalletRepresents old h → entry_allowed h e ≡ false → WalletFollows h e → ⊥
not_allowed old h e is other follows = forbids h e is.lawful other follows.allowed

-- an entry that the history allows, at its time or later
pub learned : (old new : BookView) (h : History) (e : Entry) → WalletRepresents old h → old.last ≤ moment_of e → entry_allowed h e ≡ true → PartsRepresent new.holdings new.kept (h ++ e ∷ [])
    → new.name ≡ old.name → new.last ≡ moment_of e → moment_of e ≤ new.time → new.count ≡ old.count + 1 → new.size ≡ old.size + (length (payload e) + tail_bytes old.switched + FRAME) → new.switched ≡ (is_switch e || old.switched)
    → WalletFollows h e × WalletRepresents new (h ++ e ∷ [])
learned old new h e is at may parts name_is last_is time_is count long switched =
    let wallet = book_is_wallet h is.lawful in
    let follows : WalletFollows h e = record { in_order = omega (arith, is.last, at); allowed = allows h e wallet may } in (
      follows,
      record {
        lawful = book_grows h e is.lawful follows;
        name = same_name h e is.lawful ∙ is.name ∙ sym name_is;
        last = omega (arith, time_more h e, is.last, at, last_is);
        in_time = omega (arith, time_more h e, is.last, at, time_is);
        parts = parts;
        counted = omega (arith, length-append h (e ∷ []), is.counted, count);
        sized = omega (arith, size_snoc h e, is.sized, long_entry h e, ap tail_bytes is.switched, long);
        switched = has_switch-first h e ∙ ap (λ (b : Bool). is_switch e || b) is.switched ∙ sym switched;
      },
    )

-- ---- readers

some_of : (n : ℕ) (texts : List (List ℕ)) (o : Option Kept) (p : Option Pending) → option_map (kept_of texts) o ≡ option_map (λ q. (n, q)) p → option_map (request_of texts) o ≡ p
some_of n texts None None is = refl
some_of n texts (Some k) (Some p) is = ap (option_map (λ x. x.1)) is
some_of n texts None (Some p) is = absurd cc
some_of n texts (Some k) None is = absurd cc

pub kept_request : (b : BookView) (h : History) (n : ℕ) → WalletRepresents b h → option_map (request_of (texts_of b.holdings)) (find (λ k. n == k.number) b.kept) ≡ kept_in h n
kept_request b h n is = some_of n (texts_of b.holdings) (find (λ k. n == k.number) b.kept) (kept_in h n) (found_kept h (texts_of b.holdings) b.kept n is.parts.kept)

pub chosen_here : (b : BookView) (h : History) (t limit : ℕ) (vendor : List ℕ) (r : Result ℕ Refusal) → WalletRepresents b h → Chooses (chosen_by (fit_among b.holdings t vendor) limit) r → Chooses (chosen h t vendor limit) r
chosen_here b h t limit vendor r is choice =
    subst (λ (hs : List model.Holding). Chooses (chosen_by (filter (is_fit t vendor) (filter_map offered_at (enumerate_from 0 hs))) limit) r) (sym is.parts.pieces) choice

pub due_here : (b : BookView) (h : History) (t before : ℕ) (vendor : List ℕ) (r : Option ℕ) → WalletRepresents b h → r ≡ option_map (λ o. o.place) (due_of (fit_among b.holdings t vendor) before)
    → r ≡ option_map (λ o. o.place) (due h t vendor before)
due_here b h t before vendor r is first =
    subst (λ (hs : List model.Holding). r ≡ option_map (λ o. o.place) (due_of (filter (is_fit t vendor) (filter_map offered_at (enumerate_from 0 hs))) before)) (sym is.parts.pieces) first

-- ---- the time, and room

pub raised : (b : BookView) (t : ℕ) (h : History) → WalletRepresents b h → b.time ≤ t → WalletRepresents (record b { time = t }) h
raised b t h is le = record {
  lawful = is.lawful;
  name = is.name;
  last = is.last;
  in_time = omega (arith, is.in_time, le);
  parts = is.parts;
  counted = is.counted;
  sized = is.sized;
  switched = is.switched;
}

pub with_room : (b : BookView) (xs : List Holding) (ks : List Kept) (room kept_room : ℕ) (h : History) → WalletRepresents b h → xs ≡ b.holdings → ks ≡ b.kept
    → WalletRepresents (record b { holdings = xs; kept = ks; room = room; kept_room = kept_room }) h
with_room b xs ks room kept_room h is pieces requests =
    let at : PartsRepresent xs b.kept h = subst (λ (ys : List Holding). PartsRepresent ys b.kept h) (sym pieces) is.parts in
    record {
      lawful = is.lawful;
      name = is.name;
      last = is.last;
      in_time = is.in_time;
      parts = subst (λ (js : List Kept). PartsRepresent xs js h) (sym requests) at;
      counted = is.counted;
      sized = is.sized;
      switched = is.switched;
    }

-- and it is the same book
pub same_with_room : (old b : BookView) (xs : List Holding) (ks : List Kept) (room kept_room : ℕ) → b ≡ old → xs ≡ b.holdings → ks ≡ b.kept → IsSameBook old (record b { holdings = xs; kept = ks; room = room; kept_room = kept_room })
same_with_room old b xs ks room kept_room is pieces requests =
    subst (λ (o : BookView). IsSameBook o (record b { holdings = xs; kept = ks; room = room; kept_room = kept_room })) is
    (ap₂ (λ (ys : List Holding) (js : List Kept). record b { holdings = ys; kept = js; room = room; kept_room = kept_room }) pieces requests)

pub room_made : {A : Type 0} (r : Result (Unit {0}) A) (b : BookView) (e : Entry) (p q len capacity : ℕ) → OnOk r (p ≤ b.room) → OnOk r (len + q ≤ capacity) → p ≡ brought_count e → q ≡ asked_count e → b.kept_room ≡ capacity - len → OnOk r (HasRoom b e)
room_made (Ok x) b e p q len capacity pieces requests is_p is_q left = record { pieces = omega (arith, pieces, is_p); requests = omega (arith, requests, is_q, left) }
room_made (Err x) b e p q len capacity pieces requests is_p is_q left = tt

-- ---- kept requests

pub oldest : (b : BookView) (h : History) (peer : List ℕ) → WalletRepresents b h → oldest_kept h peer ≡ option_map (kept_of (texts_of b.holdings)) (find (λ k. bytes_eq k.peer peer) b.kept)
oldest b h peer is = ap (find (λ x. bytes_eq x.1.peer peer)) is.parts.kept ∙ find_map (kept_of (texts_of b.holdings)) (λ x. bytes_eq x.1.peer peer) b.kept

pub oldest_get : (b : BookView) (h : History) (vendor target : List ℕ) → WalletRepresents b h → kept_get h vendor target ≡ option_map (kept_of (texts_of b.holdings)) (find (is_get_of vendor target) b.kept)
oldest_get b h vendor target is =
    ap (find (λ x. x.1.ask == 0 && (bytes_eq x.1.peer vendor && bytes_eq x.1.target target))) is.parts.kept
    ∙ find_map (kept_of (texts_of b.holdings)) (λ x. x.1.ask == 0 && (bytes_eq x.1.peer vendor && bytes_eq x.1.target target)) b.kept

pub retries : (b : BookView) (h : History) (peer : List ℕ) (o : Option Kept) (r : Result ℕ Refusal) → WalletRepresents b h → o ≡ find (λ k. bytes_eq k.peer peer) b.kept → Retries (option_map (kept_of (texts_of b.holdings)) o) r → Retries (oldest_kept h peer) r
retries b h peer o r is at told = subst (λ (x : Option (ℕ × Pending)). Retries x r) (ap (option_map (kept_of (texts_of b.holdings))) at ∙ sym (oldest b h peer is)) told
