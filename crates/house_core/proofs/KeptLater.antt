-- What is kept still stands at a later house time.
use Rattle.std.proofs.Common.{◌≡◌, ℕ, ◌+◌, ◌<◌, ◌≤◌, Bool, true, false, cond, List, [], ◌∷◌, length, get_or, filter, find, All, IfSome, Option, Some, None, refl, sym, ap, subst, ◌∙◌, arith}
use Rattle.std.specs.Prelude.{◌&&◌, option_map, position}
use Rattle.std.proofs.lemmas.Bool.{and_parts, ltb-true, lt-ltb}
use Rattle.std.proofs.lemmas.List.Elements.{All-filter}
use Rattle.mc_requests.specs.Requests.{Asked}
use Rattle.kept_replies.specs.declared.deed.Deed.{Deed}
use Rattle.kept_replies.specs.declared.deed.Deed.TheVariants as kept
use Rattle.kept_replies.specs.declared.deed.KeptEntry.{KeptEntry}
use Rattle.kept_replies.specs.Requests.{is_same_request}
use Rattle.kept_replies.specs.Kept.{KeptReply, KeptView, is_in_time, found}
use Rattle.scrip_form.specs.Issuing.{Issuing}
use Rattle.mc_records.specs.Entry.{Entry, AddTerms, Mint, Upgrade}
use Rattle.spent_windows.specs.Windows.{WindowView, is_marked}
use Rattle.ledger_model.specs.Histories.{History}
use Rattle.ledger_model.specs.Houses.{all_terms}
use Rattle.ledger_model.specs.Stages.{is_repeat}
use Rattle.house_state.specs.HouseState.{HouseStateView, ended_by, MayMove, HasRoomFor, GoesOn}
use Rattle.house_core.specs.BenchView.{BenchView}
use Rattle.house_state.specs.Trade.{Replaces, LiesBehind, IsKeptFrom, OfGoods, TradeView}
use Rattle.house_state.specs.Representation.{StateRepresents, IsReply}
use Rattle.house_core.specs.Bench.{IsInForceFor, HasContents}
use Rattle.house_state.proofs.EndLaws.{ended_later}

-- ---- replies

-- a filter that keeps what a test finds
pub find_filter : {X : Type 0} (p q : X → Bool) → ((x : X) → p x ≡ true → q x ≡ true) → (xs : List X) → find p (filter q xs) ≡ find p xs
find_filter p q keeps [] = refl
find_filter {X = X} p q keeps (y ∷ ys) = go (p y) (q y) (keeps y) refl (find_filter p q keeps ys)
  where
    go : (a b : Bool) → (a ≡ true → b ≡ true) → p y ≡ a → find p (filter q ys) ≡ find p ys → find p (cond b (y ∷ filter q ys) (filter q ys)) ≡ cond a (Some y) (find p ys)
    go true true k is ih = rw is refl
    go true false k is ih = let never : false ≡ true = k refl in absurd cc
    go false true k is ih = rw is ih
    go false false k is ih = ih

-- what is in time later is in time now
in_time_before : (keep now t : ℕ) (r : KeptReply) → now ≤ t → is_in_time keep t r ≡ true → is_in_time keep now r ≡ true
in_time_before keep now t r le is = let before = ltb-true t (r.entry.moment + keep) is in lt-ltb now (r.entry.moment + keep) (omega (arith, before))

-- letting go what is over changes nothing that is found from then on
pub found_later : (old new : KeptView) (now t : ℕ) (q : Asked) → new.keep ≡ old.keep → new.replies ≡ filter (is_in_time old.keep now) old.replies → now ≤ t → found new t q ≡ found old t q
found_later old new now t q keep replies le =
    let test : ℕ → KeptReply → Bool = λ k r. is_same_request r.asked q && is_in_time k t r in
    let entry : Option KeptReply → Option KeptEntry = option_map (λ r. r.entry) in
    ap (λ (k : ℕ). entry (find (test k) new.replies)) keep
    ∙ ap (λ (rs : List KeptReply). entry (find (test old.keep) rs)) replies
    ∙ ap entry (find_filter (test old.keep) (is_in_time old.keep now) (λ r passes. in_time_before old.keep now t r le (and_parts (is_same_request r.asked q) (is_in_time old.keep t r) passes).1) old.replies)

-- ---- contents

-- what is held for a reply that is kept is still held
still_held : (old new : ℕ → Type 0) (h : History) (from : Option ℕ) (number : ℕ) → ((n : ℕ) → IsKeptFrom h from n → old n → new n) → ((m : ℕ) → number < m → LiesBehind from m)
    → (d : Deed) → OfGoods (λ n. (m : ℕ) → Replaces h n m → number < m) d → OfGoods old d → OfGoods new d
still_held old new h from number keeps behind (kept.Goods n) later held = keeps n (λ m replaces. behind m (later m replaces)) held
still_held old new h from number keeps behind (kept.Sale piece cert secret stock) later held = tt
still_held old new h from number keeps behind (kept.Credit balance) later held = tt
still_held old new h from number keeps behind (kept.Draw piece cert secret) later held = tt

-- a number above one that is kept lies behind the first
lies_behind : (from : Option ℕ) (rs : List KeptReply) (k : ℕ) (d : KeptReply) → k < length rs → IfSome from (λ n. All (λ r. n ≤ r.entry.number) rs) → (from ≡ None → rs ≡ [])
    → (m : ℕ) → (get_or rs k d).entry.number < m → LiesBehind from m
lies_behind None rs k d lt least none m above = let empty : length rs ≡ 0 = ap length (none refl) in absurd (omega (arith, empty, lt))
lies_behind (Some n) rs k d lt least none m above = let first = least k d lt in omega (arith, first, above)

pub all_held : (old new : ℕ → Type 0) (h : History) (from : Option ℕ) (rs : List KeptReply) → ((n : ℕ) → IsKeptFrom h from n → old n → new n)
    → IfSome from (λ n. All (λ r. n ≤ r.entry.number) rs) → (from ≡ None → rs ≡ [])
    → All (IsInForceFor h) rs → All (λ r. OfGoods old r.entry.deed) rs → All (λ r. OfGoods new r.entry.deed) rs
all_held old new h from rs keeps least none in_force held k d lt =
    still_held old new h from (get_or rs k d).entry.number keeps (λ m above. lies_behind from rs k d lt least none m above) (get_or rs k d).entry.deed (in_force k d lt) (held k d lt)

-- ---- the state

pub stands_later : {b : HouseStateView} {h : History} → StateRepresents b h → (t : ℕ) (spent : List WindowView) (kept : KeptView) → b.time ≤ t
    → ((id : ℕ) → ended_by b.terms t id ≡ false → is_marked spent id ≡ is_marked b.spent id) → kept.keep ≡ b.kept.keep → kept.replies ≡ filter (is_in_time b.kept.keep t) b.kept.replies
    → StateRepresents (record b { time = t; spent = spent; kept = kept }) h
stands_later {b = b} {h = h} st t spent kept le marked keep replies = record {
  name = st.name;
  clear = st.clear;
  terms = st.terms;
  own_terms = st.own_terms;
  in_time = omega (arith, st.in_time, le);
  spent = λ id live. st.spent id (ended_later (all_terms h) b.time t id le live)
      ∙ sym (marked id (subst (λ (ts : List Issuing). ended_by ts t id ≡ false) st.terms live));
  again = λ u q later. ap (λ (k : ℕ). position (is_repeat k u q) h) keep ∙ st.again u q (omega (arith, later, le)) ∙ ap (option_map (λ (e : KeptEntry). e.number)) (sym (found_later b.kept kept t u q keep replies later));
  replies = subst (All (IsReply h)) (sym replies) (All-filter (is_in_time b.kept.keep t) (IsReply h) b.kept.replies st.replies);
  issued = st.issued;
  most = st.most;
  redeemed = st.redeemed;
  worth = st.worth;
  takings = st.takings;
  counted = st.counted;
  sized = st.sized;
  switched = st.switched;
  upgrades = st.upgrades;
  limits = st.limits;
  lawful = st.lawful;
}

-- the room for an entry by a command does not depend on the time, and neither does what it goes on with
pub room_later : (b : HouseStateView) (t : ℕ) (spent : List WindowView) (kept : KeptView) (e : Entry) → HasRoomFor b e → HasRoomFor (record b { time = t; spent = spent; kept = kept }) e
room_later b t spent kept (AddTerms m terms) room = room
room_later b t spent kept (Upgrade m vendor issuer from) room = room
room_later b t spent kept (Mint m reference count value first) room = room
room_later b t spent kept e room = room

pub goes_later : (b : HouseStateView) (t : ℕ) (spent : List WindowView) (kept : KeptView) (kind : ℕ) (e : Entry) → GoesOn b kind e → GoesOn (record b { time = t; spent = spent; kept = kept }) kind e
goes_later b t spent kept kind (Upgrade m vendor issuer from) goes =
    λ house. let moves : MayMove b m vendor issuer from = goes house in record { own = moves.own; new = moves.new; coming = moves.coming }
goes_later b t spent kept kind e goes = goes

pub contents_later : {T : Type 0} (trade : T → TradeView) (b c : BenchView T) (h : History) (t : ℕ) (from : Option ℕ)
    → HasContents trade b h → c.state.kept.keep ≡ b.state.kept.keep → c.state.kept.replies ≡ filter (is_in_time b.state.kept.keep t) b.state.kept.replies
    → IfSome from (λ n. All (λ r. n ≤ r.entry.number) c.state.kept.replies) → (from ≡ None → c.state.kept.replies ≡ [])
    → ((n : ℕ) → IsKeptFrom h from n → (trade b.trade).holds n → (trade c.trade).holds n) → HasContents trade c h
contents_later {T = T} trade b c h t from has keep replies least none keeps =
    let of_rest : (P : KeptReply → Type 0) → All P b.state.kept.replies → All P c.state.kept.replies =
    λ P all. subst (All P) (sym replies) (All-filter (is_in_time b.state.kept.keep t) P b.state.kept.replies all) in
    let in_force = of_rest (IsInForceFor h) has.in_force in
    let held = of_rest (λ r. OfGoods (trade b.trade).holds r.entry.deed) has.held in
    record { keep = has.keep ∙ sym keep; some = subst (λ (n : ℕ). 0 < n) (sym keep) has.some; in_force = in_force; held = all_held (trade b.trade).holds (trade c.trade).holds h from c.state.kept.replies keeps least none in_force held }

-- the same, where the trade forgets nothing
pub contents_raised : {T : Type 0} (trade : T → TradeView) (b c : BenchView T) (h : History) (t : ℕ)
    → HasContents trade b h → c.state.kept.keep ≡ b.state.kept.keep → c.state.kept.replies ≡ filter (is_in_time b.state.kept.keep t) b.state.kept.replies
    → ((n : ℕ) → (trade b.trade).holds n → (trade c.trade).holds n) → HasContents trade c h
contents_raised trade b c h t has keep replies keeps =
    contents_later trade b c h t (Some 0) has keep replies (λ k d lt. omega arith) (λ some. absurd (cc)) (λ n kept held. keeps n held)
