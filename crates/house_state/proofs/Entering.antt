-- The state before and after an authorization was entered, by what the calls on the way say.
use Rattle.std.proofs.Common.{◌^◌, ◌≡◌, ℕ, ◌+◌, ◌<◌, ◌≤◌, Bool, true, false, cond, is_some, List, [], ◌∷◌, ◌++◌, length, filter, find, All, Option, Some, None, refl, sym, ap, subst, ◌∙◌, arith, eqb, append-nil}
use Rattle.std.specs.Prelude.{◌&&◌, ◌||◌, ◌==◌, min, option_map, IsTrue, IfSome, MatchOption}
use Rattle.std.proofs.lemmas.Bool.{lt-ltb}
use Rattle.std.proofs.lemmas.List.Elements.{All-head, All-tail, All-push, All-weaker, All-filter, filter_passes}
use Rattle.mc_base.specs.declared.amount.TheConstants.Amount.{MOST}
use Rattle.scrip_form.specs.Identities.{series_of}
use Rattle.scrip_form.specs.Issuing.{Issuing, epoch}
use Rattle.scrip_form.specs.Scrip.{Scrip, IsPiece}
use Rattle.mc_requests.specs.declared.limits.Limits.{Limits}
use Rattle.mc_requests.specs.Requests.{Asked}
use Rattle.ledger_model.specs.declared.upgraded.Upgraded.{Upgraded}
use Rattle.kept_replies.specs.Requests.{is_same_request}
use Rattle.kept_replies.specs.Kept.{KeptReply, KeptView, is_in_time, has_request, has_number, inserted, kept_with, change_size}
use Rattle.kept_replies.proofs.InsertLaws.{inserted_last}
use Rattle.change_issue.specs.Registers.{Register, count_in, issued_in, redeemed_in, next_in}
use Rattle.change_issue.specs.IssuedPieces.{issued_piece}
use Rattle.house_state.specs.declared.verdict.Authorization.{Authorization}
use Rattle.spent_windows.specs.Windows.{WindowView, is_marked, end_of, later_than}
use Rattle.house_state.specs.HouseState.{HouseStateView, end_by, IsSound, Growth, IsGrown, IsMarkedToo, kept_if, IsKeptAs, IsKeptToo, IsEntered, size_with, in_version, series_now, change_made, at_series, count_handed, worth_handed, worth_redeemed, change_count, change_worth, accept_growth}
use Rattle.house_state.proofs.EndLaws.{end_kept, EndInTime, ends_dropped}

-- ---- a later time

-- letting go what is over leaves the state sound
pub sound_later : (b : HouseStateView) (t : ℕ) (spent : List WindowView) (kept : KeptView) → IsSound b → ((id : ℕ) → end_of spent id ≡ later_than t (end_of b.spent id))
    → kept.keep ≡ b.kept.keep → kept.replies ≡ filter (is_in_time b.kept.keep t) b.kept.replies → IsSound (record b { time = t; spent = spent; kept = kept })
sound_later b t spent kept sound dropped keep replies = record {
  limits = sound.limits;
  most = sound.most;
  counted = sound.counted;
  sized = sound.sized;
  numbers = subst (All (λ r. r.entry.number < b.count)) (sym replies) (All-filter (is_in_time b.kept.keep t) (λ r. r.entry.number < b.count) b.kept.replies sound.numbers);
  in_time = subst (λ (n : ℕ). All (λ r. IsTrue (is_in_time n t r)) kept.replies) (sym keep) (subst (All (λ r. IsTrue (is_in_time b.kept.keep t r))) (sym replies) (filter_passes (is_in_time b.kept.keep t) b.kept.replies));
  redeemed = sound.redeemed;
  takings = sound.takings;
  ends = in_time.ends;
  alive = in_time.alive;
}
  where
    in_time : EndInTime b.terms t spent
    in_time = ends_dropped b.terms b.time t b.spent spent (record { ends = sound.ends; alive = sound.alive }) dropped

-- ---- an entry that accepts nothing

-- more terms, another issuer moved, more minted pieces and one entry more leave the state sound
pub sound_grown : (b : HouseStateView) (terms : List Issuing) (room : ℕ) (upgrades : List Upgraded) (places : ℕ) (own : Register) (size bytes : ℕ) (switched : Bool) → IsSound b
    → own.most ≡ b.own.most → ((s : ℕ) → redeemed_in own s ≡ redeemed_in b.own s) → ((id end : ℕ) → end_by b.terms id ≡ Some end → end_by terms id ≡ Some end)
    → size ≡ size_with b bytes → size_with b bytes ≤ 2 ^ 40
    → IsSound (record b { terms = terms; terms_room = room; upgrades = upgrades; upgrades_room = places; own = own; count = b.count + 1; size = size; switched = switched })
sound_grown b terms room upgrades places own size bytes switched sound most redeemed ends grown fits = record {
  limits = sound.limits;
  most = most ∙ sound.most;
  counted = omega (arith, grown, sound.counted);
  sized = omega (arith, grown, fits);
  numbers = All-weaker (λ r. r.entry.number < b.count) (λ r. r.entry.number < b.count + 1) (λ r lt. omega (arith, lt)) b.kept.replies sound.numbers;
  in_time = sound.in_time;
  redeemed = λ s. omega (arith, redeemed s, sound.redeemed s);
  takings = omega (arith, sound.takings);
  ends = λ id end is. ends id end (sound.ends id end is);
  alive = sound.alive;
}

-- ---- the program's test of minted pieces

pub goes_on_own : (own : Register) (series first n : ℕ) → first ≡ next_in own series → count_in own series + n ≤ own.most → 1 ≤ n → own.most ≤ 2 ^ 32
    → (first ≡ next_in own (series_of first)) × (count_in own (series_of first) + n ≤ own.most)
goes_on_own own series first n is fits some most =
    let same : series_of first ≡ series = omega (arith, is, fits, some, most) in
    (is ∙ ap (next_in own) (sym same), subst (λ (s : ℕ). count_in own s + n ≤ own.most) (sym same) fits)

-- ---- the new reply

pub no_request : (keep now : ℕ) (q : Asked) (rs : List KeptReply) → All (λ r. IsTrue (is_in_time keep now r)) rs
    → option_map (λ r. r.entry) (find (λ r. is_same_request r.asked q && is_in_time keep now r) rs) ≡ None → has_request rs q ≡ false
no_request keep now q [] all none = refl
no_request keep now q (r ∷ rs) all none =
    go (is_same_request r.asked q) (is_in_time keep now r) (All-head (λ x. IsTrue (is_in_time keep now x)) r rs all) (no_request keep now q rs (All-tail (λ x. IsTrue (is_in_time keep now x)) r rs all)) none
  where
    test : KeptReply → Bool
    test x = is_same_request x.asked q && is_in_time keep now x

    go : (same kept : Bool) → IsTrue kept → (option_map (λ x. x.entry) (find test rs) ≡ None → has_request rs q ≡ false)
        → option_map (λ x. x.entry) (cond (same && kept) (Some r) (find test rs)) ≡ None → (same || has_request rs q) ≡ false
    go true true is more e = absurd cc
    go true false is more e = absurd cc
    go false true is more e = more e
    go false false is more e = more e

pub no_number : (n : ℕ) (rs : List KeptReply) → All (λ r. r.entry.number < n) rs → has_number rs n ≡ false
no_number n [] all = refl
no_number n (r ∷ rs) all =
    let below : r.entry.number < n = All-head (λ x. x.entry.number < n) r rs all in
    let more : has_number rs n ≡ false = no_number n rs (All-tail (λ x. x.entry.number < n) r rs all) in
    let other : eqb r.entry.number n ≡ false = grind (arith, below) in
    rw (other, more) refl

-- what holds of a reply that is kept
pub if_kept : (keep : ℕ) (r : KeptReply) (P : KeptReply → Type 0) → (0 < keep → P r) → IfSome (kept_if keep r) P
if_kept keep r P holds = go (eqb keep 0) (λ is. positive keep is)
  where
    positive : (n : ℕ) → eqb n 0 ≡ false → 0 < n
    positive n is = grind (arith, is)

    go : (b : Bool) → (b ≡ false → 0 < keep) → IfSome (cond b None (Some r)) P
    go true some = tt
    go false some = holds (some refl)

-- what was kept or not of one reply
pub kept_so : (old new : KeptView) (made r : KeptReply) → new.keep ≡ old.keep → new.replies ≡ kept_with old.keep made old.replies → inserted made old.replies ≡ old.replies ++ r ∷ []
    → MatchOption (kept_if old.keep r) (IsKeptAs old new) (IsKeptToo old new)
kept_so old new made r keep is last = go (eqb old.keep 0) is
  where
    go : (b : Bool) → new.replies ≡ cond b old.replies (inserted made old.replies) → MatchOption (cond b None (Some r)) (IsKeptAs old new) (IsKeptToo old new)
    go true replies = record { keep = keep; replies = replies }
    go false replies = record { keep = keep; replies = replies ∙ last }

-- ---- what is handed out

pub at_most : (series n s : ℕ) → at_series series n s ≤ n
at_most series n s = go (eqb series s)
  where
    go : (b : Bool) → cond b n 0 ≤ n
    go true = omega arith
    go false = omega arith

zero_at : (series s : ℕ) → at_series series 0 s ≡ 0
zero_at series s = omega (arith, at_most series 0 s)

-- the change has the name of the house and the properties of the piece
pub change_fits : (upgrades : List Upgraded) (terms : Issuing) (time worth : ℕ) (name : List ℕ) (cust : ℕ) (props : List ℕ) (change : Option ℕ) (piece : Option Scrip)
    → piece ≡ option_map (λ id. in_version upgrades (issued_piece terms time name worth id (Some cust) props)) change → change_size piece ≡ cond (is_some change) (length name + length props) 0
change_fits upgrades terms time worth name cust props change piece is = ap change_size is ∙ go change
  where
    go : (o : Option ℕ) → change_size (option_map (λ id. in_version upgrades (issued_piece terms time name worth id (Some cust) props)) o) ≡ cond (is_some o) (length name + length props) 0
    go None = refl
    go (Some id) = refl

if_change : (f : ℕ → Scrip) (change : Option ℕ) {P : Type 0} → P → IfSome (option_map f change) (λ p. P)
if_change f None holds = tt
if_change f (Some id) holds = holds

change_counted : (series s : ℕ) (f : ℕ → Scrip) (change : Option ℕ) → at_series series (change_count change) s ≡ count_handed series (option_map f change) s
change_counted series s f None = zero_at series s
change_counted series s f (Some id) = refl

change_valued : (old : HouseStateView) (paid : Scrip) (price : ℕ) (change : Option ℕ) (s : ℕ)
    → at_series (series_now old) (change_worth price paid.value change) s ≡ worth_handed (series_now old) (option_map (change_made old paid price) change) s
change_valued old paid price None s = zero_at (series_now old) s
change_valued old paid price (Some id) s = refl

pub entered : (old : HouseStateView) (spent : List WindowView) (kept : KeptView) (own : Register) (takings size : ℕ) (q : Asked) (paid : Scrip) (a : Authorization) (piece : Option Scrip) → IsSound old → epoch old.own.terms old.time < 2 ^ 24
    → ((k : ℕ) → is_marked spent k ≡ (is_marked old.spent k || (paid.id == k))) → ((k : ℕ) → end_of spent k ≡ end_of old.spent k)
    → kept.keep ≡ old.kept.keep
    → kept.replies ≡ kept_with old.kept.keep (record { asked = q; entry = record { number = old.count; moment = old.time; price = a.price; change = piece; secret = a.secret; deed = a.deed } }) old.kept.replies
    → piece ≡ option_map (change_made old paid a.price) a.change
    → own.terms ≡ old.own.terms → own.most ≡ old.own.most
    → ((s : ℕ) → count_in own s ≡ count_in old.own s + at_series (series_now old) (change_count a.change) s)
    → ((s : ℕ) → issued_in own s ≡ issued_in old.own s + at_series (series_now old) (change_worth a.price paid.value a.change) s)
    → ((s : ℕ) → redeemed_in own s ≡ redeemed_in old.own s + at_series (series_of paid.id) paid.value s)
    → takings ≡ old.takings + min a.price paid.value → size ≡ size_with old a.payload
    → IsEntered old (record old { spent = spent; kept = kept; own = own; takings = takings; count = old.count + 1; size = size }) q paid a
entered old spent kept own takings size q paid a piece sound short marks same_ends keep replies is_piece terms most count worth redeemed took grown =
    let reply : Option Scrip → KeptReply = λ c. record { asked = q; entry = record { number = old.count; moment = old.time; price = a.price; change = c; secret = a.secret; deed = a.deed } } in
    record {
      name = refl;
      clear = refl;
      terms = sym (append-nil old.terms);
      upgrades = sym (append-nil old.upgrades);
      time = refl;
      limits = refl;
      short = if_change (change_made old paid a.price) a.change short;
      spent = record { marked = marks; ends = same_ends };
      kept = kept_so old.kept kept (reply piece) (reply (option_map (change_made old paid a.price) a.change)) keep replies
          (inserted_last (reply piece) old.kept.replies sound.numbers ∙ ap (λ (c : Option Scrip). old.kept.replies ++ reply c ∷ []) is_piece);
      issuer = terms;
      most = most;
      issued = λ s. omega (arith, count s, change_counted (series_now old) s (change_made old paid a.price) a.change);
      worth = λ s. omega (arith, worth s, change_valued old paid a.price a.change s);
      redeemed = redeemed;
      takings = took;
      counted = refl;
      sized = grown;
      switched = refl;
    }

-- ---- that the state stays sound

-- what an entry brings leaves the state sound
pub record IsSoundGrowth (b : HouseStateView) (g : Growth) : Type 0 where
  pub paid : IfSome g.paid IsPiece
  pub takings : g.takings ≤ MOST
  pub keeps : IfSome g.kept (λ r. 0 < b.kept.keep)
  pub number : IfSome g.kept (λ r. r.entry.number ≡ b.count)
  pub moment : IfSome g.kept (λ r. r.entry.moment ≡ b.time)
  pub fits : size_with b g.bytes ≤ 2 ^ 40

redeemed_most : (o : Option Scrip) (s : ℕ) → IfSome o IsPiece → worth_redeemed o s ≤ MOST
redeemed_most None s piece = omega arith
redeemed_most (Some p) s piece = omega (arith, at_most (series_of p.id) p.value s, piece.most)

ends_stay : (old new : List WindowView) (o : Option Scrip) (id : ℕ) → MatchOption o (new ≡ old) (IsMarkedToo old new) → end_of new id ≡ end_of old id
ends_stay old new None id is = ap (λ (ws : List WindowView). end_of ws id) is
ends_stay old new (Some p) id is = is.ends id

numbers_more : (old new : KeptView) (o : Option KeptReply) (count : ℕ) → All (λ r. r.entry.number < count) old.replies → IfSome o (λ r. r.entry.number ≡ count)
    → MatchOption o (IsKeptAs old new) (IsKeptToo old new) → All (λ r. r.entry.number < count + 1) new.replies
numbers_more old new o count below number is = go o number is
  where
    more : All (λ r. r.entry.number < count + 1) old.replies
    more = All-weaker (λ r. r.entry.number < count) (λ r. r.entry.number < count + 1) (λ r lt. omega (arith, lt)) old.replies below

    go : (p : Option KeptReply) → IfSome p (λ r. r.entry.number ≡ count) → MatchOption p (IsKeptAs old new) (IsKeptToo old new) → All (λ r. r.entry.number < count + 1) new.replies
    go None number is = subst (All (λ r. r.entry.number < count + 1)) (sym is.replies) more
    go (Some r) number is = subst (All (λ r. r.entry.number < count + 1)) (sym is.replies) (All-push (λ r. r.entry.number < count + 1) old.replies r more (omega (arith, number)))

in_time_more : (old new : KeptView) (o : Option KeptReply) (t : ℕ) → IfSome o (λ r. 0 < old.keep) → All (λ r. IsTrue (is_in_time old.keep t r)) old.replies → IfSome o (λ r. r.entry.moment ≡ t)
    → MatchOption o (IsKeptAs old new) (IsKeptToo old new) → All (λ r. IsTrue (is_in_time new.keep t r)) new.replies
in_time_more old new None t keeps all moment is = rw (is.replies, is.keep) all
in_time_more old new (Some r) t keeps all moment is =
    let live : t < r.entry.moment + old.keep = omega (arith, keeps, moment) in
    rw (is.replies, is.keep) (All-push (λ r. IsTrue (is_in_time old.keep t r)) old.replies r all (lt-ltb t (r.entry.moment + old.keep) live))

pub sound_more : (old new : HouseStateView) (g : Growth) → IsSound old → IsSoundGrowth old g → IsGrown old new g → IsSound new
sound_more old new g sound brings is = record {
  limits = rw is.limits sound.limits;
  most = is.most ∙ sound.most ∙ ap (λ (l : Limits). l.series) (sym is.limits);
  counted = omega (arith, is.counted, is.sized, sound.counted);
  sized = omega (arith, is.sized, brings.fits);
  numbers = rw is.counted (numbers_more old.kept new.kept g.kept old.count sound.numbers brings.number is.kept);
  in_time = rw is.time (in_time_more old.kept new.kept g.kept old.time brings.keeps sound.in_time brings.moment is.kept);
  redeemed = λ s. omega (arith, is.redeemed s, sound.redeemed s, is.counted, redeemed_most g.paid s brings.paid);
  takings = omega (arith, is.takings, sound.takings, is.counted, brings.takings);
  ends = λ id end found. rw is.terms (end_kept old.terms g.terms id end (sound.ends id end (sym (ends_stay old.spent new.spent g.paid id is.spent) ∙ found)));
  alive = λ id end found. rw is.time (sound.alive id end (sym (ends_stay old.spent new.spent g.paid id is.spent) ∙ found));
}

pub sound_entered : (old new : HouseStateView) (q : Asked) (paid : Scrip) (a : Authorization) → IsSound old → IsPiece paid → size_with old a.payload ≤ 2 ^ 40 → IsEntered old new q paid a → IsSound new
sound_entered old new q paid a sound piece fits is =
    sound_more old new (accept_growth old q paid a) sound (record {
      paid = piece;
      takings = omega (arith, piece.most);
      keeps = if_kept old.kept.keep _ (λ r. 0 < old.kept.keep) (λ keeps. keeps);
      number = if_kept old.kept.keep _ (λ r. r.entry.number ≡ old.count) (λ keeps. refl);
      moment = if_kept old.kept.keep _ (λ r. r.entry.moment ≡ old.time) (λ keeps. refl);
      fits = fits;
    }) is
