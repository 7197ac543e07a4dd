-- What the state keeps after one more entry says what the longer history says.
use Rattle.std.proofs.Common.{◌≡◌, ℕ, ◌+◌, ◌<◌, ◌≤◌, ◌^◌, Bool, true, false, not, cond, List, [], ◌∷◌, ◌++◌, length, filter, find, Option, Some, None, refl, sym, ap, ap₂, ◌∙◌, arith, eqb, ltb, inl, inr, length-append, All, subst}
use Rattle.std.specs.Prelude.{◌&&◌, ◌||◌, ◌==◌, max, option_map, option_to_list, unwrap_or, position, count_by, MatchOption, IfSome}
use Rattle.std.specs.Option.{option_or}
use Rattle.std.specs.List.{list_any, cons_option, position_or_len}
use Rattle.std.proofs.lemmas.Bool.{lt-ltb, le-ltb, eq-eqb, eqb-true, cases_lt}
use Rattle.std.proofs.lemmas.List.Elements.{filter-append, filter_map-append, All-push, All-weaker}
use Rattle.std.proofs.lemmas.List.Folds.{find-append, list_any-append, position_or_len_push}
use Rattle.std.proofs.lemmas.List.Sums.{sum_by-append}
use Rattle.scrip_form.specs.Identities.{series_of}
use Rattle.scrip_form.specs.Issuing.{Issuing}
use Rattle.scrip_form.specs.Scrip.{Scrip}
use Rattle.mc_requests.specs.declared.limits.Limits.{Limits}
use Rattle.mc_records.specs.Entry.{House, Entry, Accept, Mint, Draw, moment_of, payload}
use Rattle.mc_requests.specs.Requests.{Asked}
use Rattle.mc_records.specs.Chains.{is_switch}
use Rattle.mc_records.specs.Sizes.{tail_bytes}
use Rattle.mc_records.proofs.ChainLaws.{has_switch-first}
use Rattle.mc_records.proofs.SizeLaws.{length-tail, tail_size-by}
use Rattle.kept_replies.specs.declared.deed.KeptEntry.{KeptEntry}
use Rattle.kept_replies.specs.Requests.{is_same_request}
use Rattle.kept_replies.specs.Kept.{KeptReply, KeptView, is_in_time, found}
use Rattle.spent_windows.specs.Windows.{WindowView, is_marked}
use Rattle.ledger_model.specs.Histories.{History, time}
use Rattle.ledger_model.specs.Houses.{site_name, terms_of, all_terms, upgrade_of, upgrades_of}
use Rattle.ledger_model.specs.declared.upgraded.Upgraded.{Upgraded}
use Rattle.ledger_model.specs.Pieces.{accepted_piece, accepted, handed_piece, own_out, minted_pieces, minted, in_series, own_count}
use Rattle.ledger_model.specs.Sums.{price_paid, values}
use Rattle.ledger_model.specs.Stages.{is_repeat}
use Rattle.ledger_model.specs.Answer.{answer, Take}
use Rattle.ledger_model.specs.Lawful.{MayFollow, IsAllowed, request_of, draw_request}
use Rattle.ledger_model.proofs.AcceptLaws.{accepted_snoc}
use Rattle.ledger_model.proofs.SerialLaws.{own_out_snoc, minted_snoc, count-append}
use Rattle.ledger_model.proofs.FollowLaws.{may_follow, longer_lawful, size_snoc}
use Rattle.house_state.specs.HouseState.{HouseStateView, ended_by, series_now, at_series, kept_if, Growth, IsGrown, IsMarkedToo, IsKeptAs, IsKeptToo, count_handed, worth_handed, worth_redeemed}
use Rattle.house_state.specs.Representation.{StateRepresents, IsReply, has_ended, of_series}
use Rattle.house_state.proofs.EndLaws.{ended_kept}
use Rattle.house_core.proofs.FirstEntry.{same_house, own_terms_stay}
use Rattle.house_core.proofs.Replied.{reply_kept}

-- ---- the time

pub time_snoc : (h : History) (e : Entry) → time (h ++ e ∷ []) ≡ max (time h) (moment_of e)
time_snoc [] e = omega arith
time_snoc (x ∷ xs) e = omega (arith, time_snoc xs e)

-- ---- repeats

place_within : (p : Entry → Bool) (h : History) → position_or_len p h ≤ length h
place_within p [] = omega arith
place_within p (x ∷ xs) = go (p x) (place_within p xs)
  where
    go : (b : Bool) → position_or_len p xs ≤ length xs → cond (not b) (1 + position_or_len p xs) 0 ≤ length (x ∷ xs)
    go true le = omega arith
    go false le = omega (arith, le)

pub position_snoc : (p : Entry → Bool) (h : History) (e : Entry) → position p (h ++ e ∷ []) ≡ option_or (position p h) (cond (p e) (Some (length h)) None)
position_snoc p h e = elim (cases_lt (position_or_len p h) (length h)) [
  | inl lt ↦ here lt
  | inr ge ↦ let same : position_or_len p h ≡ length h = omega (arith, ge, place_within p h) in at_end (p e) refl same
]
  where
    n : ℕ
    n = position_or_len p h

    longer : length (h ++ e ∷ []) ≡ length h + 1
    longer = length-append h (e ∷ [])

    here : n < length h → position p (h ++ e ∷ []) ≡ option_or (position p h) (cond (p e) (Some (length h)) None)
    here lt =
        let other : eqb n (length h) ≡ false = grind (arith, lt) in
        let place : position_or_len p (h ++ e ∷ []) ≡ n = rw (position_or_len_push p h e, other) refl in
        rw (place, longer, lt-ltb n (length h + 1) (omega (arith, lt)), lt-ltb n (length h) lt) refl

    at_end : (b : Bool) → p e ≡ b → n ≡ length h → position p (h ++ e ∷ []) ≡ option_or (position p h) (cond (p e) (Some (length h)) None)
    at_end true is same =
        let place : position_or_len p (h ++ e ∷ []) ≡ length h = rw (position_or_len_push p h e, eq-eqb n (length h) same, is) (omega arith) in
        let below : length h < length h + 1 = omega arith in
        rw (place, longer, lt-ltb (length h) (length h + 1) below, le-ltb n (length h) (omega (arith, same)), is) refl
    at_end false is same =
        let place : position_or_len p (h ++ e ∷ []) ≡ length h + 1 = rw (position_or_len_push p h e, eq-eqb n (length h) same, is) (omega arith) in
        rw (place, longer, le-ltb (length h + 1) (length h + 1) (omega arith), le-ltb n (length h) (omega (arith, same)), is) refl

number_or : (o : Option KeptReply) (b : Bool) (r : KeptReply) → option_or (option_map (λ e. e.number) (option_map (λ x. x.entry) o)) (cond b (Some r.entry.number) None)
    ≡ option_map (λ e. e.number) (option_map (λ x. x.entry) (option_or o (cond b (Some r) None)))
number_or None true r = refl
number_or None false r = refl
number_or (Some x) true r = refl
number_or (Some x) false r = refl

-- ---- what the ledger says of an entry

-- whether a request is that of a kept reply, where there is one, within the keeping time
abbrev pub is_repeat_of : ℕ → ℕ → Asked → Option KeptReply → Bool
is_repeat_of keep t q None = false
is_repeat_of keep t q (Some r) = is_same_request r.asked q && is_in_time keep t r

-- What the ledger says of an entry behind a history, where it brings this to the state of a house.
pub record Says (old : HouseStateView) (h : History) (e : Entry) (g : Growth) : Type 0 where
  pub moment : moment_of e ≤ old.time
  pub paid : accepted_piece e ≡ g.paid
  pub handed : handed_piece h e ≡ g.handed
  pub series : IfSome g.handed (λ p. series_of p.id ≡ series_now old)
  pub repeats : (t : ℕ) (q : Asked) → old.time ≤ t → is_repeat old.kept.keep t q e ≡ is_repeat_of old.kept.keep t q g.kept
  pub number : IfSome g.kept (λ r. r.entry.number ≡ old.count)
  pub reply : IfSome g.kept (IsReply (h ++ e ∷ []))
  pub takings : price_paid e ≡ g.takings
  pub terms : all_terms (e ∷ []) ≡ g.terms
  pub upgrades : upgrades_of (e ∷ []) old.name ≡ g.upgrades
  pub minted : (s : ℕ) → in_series (minted_pieces h e) s ≡ g.minted s
  pub switches : is_switch e ≡ g.switches
  pub payload : length (payload e) ≡ g.bytes

and_false : (b : Bool) → (b && false) ≡ false
and_false true = refl
and_false false = refl

-- an entry is a repeat as its reply says, where it is kept, and no repeat any more where it is not
pub repeats_if : (keep t : ℕ) (p : Asked) (r : KeptReply) (b : Bool) → r.entry.moment ≤ t → b ≡ (is_same_request r.asked p && is_in_time keep t r) → b ≡ is_repeat_of keep t p (kept_if keep r)
repeats_if keep t p r b passed alike = go (eqb keep 0) refl
  where
    go : (z : Bool) → eqb keep 0 ≡ z → b ≡ is_repeat_of keep t p (cond z None (Some r))
    go true none =
        let over : ltb t (r.entry.moment + keep) ≡ false = le-ltb t (r.entry.moment + keep) (omega (arith, passed, eqb-true keep 0 none)) in
        alike ∙ ap (λ (x : Bool). is_same_request r.asked p && x) over ∙ and_false (is_same_request r.asked p)
    go false some = alike

-- ---- sums and counts at one more piece

or_end : (b : Bool) → (b || false) ≡ b
or_end true = refl
or_end false = refl

one_value : (series s : ℕ) (p : Scrip) → series_of p.id ≡ series → values (of_series s (p ∷ [])) ≡ at_series series p.value s
one_value series s p is = rw is (go (eqb series s))
  where
    go : (b : Bool) → values (cond b (p ∷ []) []) ≡ cond b p.value 0
    go true = omega arith
    go false = refl

one_count : (series s : ℕ) (p : Scrip) → series_of p.id ≡ series → count_by (λ x. series_of x.id == s) (p ∷ []) ≡ at_series series 1 s
one_count series s p is = let one : count_by (λ x. series_of x.id == s) (p ∷ []) ≡ at_series (series_of p.id) 1 s = omega arith in one ∙ ap (λ (n : ℕ). at_series n 1 s) is

values_more : (s : ℕ) (ps qs : List Scrip) → values (of_series s (ps ++ qs)) ≡ values (of_series s ps) + values (of_series s qs)
values_more s ps qs =
    let test : Scrip → Bool = λ p. series_of p.id == s in
    ap values (filter-append test ps qs) ∙ sum_by-append (λ (p : Scrip). p.value) (filter test ps) (filter test qs)

-- ---- what may follow

-- what the state's own limits allow is what limits of the same series allow
pub same_series : (limits own : Limits) (h : History) (e : Entry) → limits.series ≡ own.series → MayFollow limits h e → MayFollow own h e
same_series limits own h e same may = record { in_order = may.in_order; allowed = allowed e may.allowed }
  where
    bounds : ℕ → Limits
    bounds series = record { journal = 2 ^ 40; series = series }

    allowed : (x : Entry) → IsAllowed limits h x → IsAllowed own h x
    allowed (Accept m scrip target sign price change deed) a = ap (λ (n : ℕ). answer h m (bounds n) (request_of scrip target sign)) (sym same) ∙ a
    allowed (Mint m reference count value first) a = (a.0, a.1, a.2, omega (arith, a.3, same))
    allowed (Draw m target sign drawn) a = ap (λ (n : ℕ). answer h m (bounds n) (draw_request target sign)) (sym same) ∙ a
    allowed e a = a

-- the entry that the answer takes may follow
pub takes_follow : {b : HouseStateView} {h : History} → StateRepresents b h → (limits : Limits) (q : Asked) (e : Entry) → limits.series ≡ b.limits.series → limits.journal ≤ 2 ^ 40
    → answer h b.time limits q ≡ Take e → MayFollow b.limits h e
takes_follow {b = b} {h = h} st limits q e series most takes = same_series limits b.limits h e series (may_follow h b.time limits q e st.in_time most takes)

-- ---- the parts of the state

marked_more : (old new : List WindowView) (o : Option Scrip) (id : ℕ) → MatchOption o (new ≡ old) (IsMarkedToo old new)
    → (is_marked old id || list_any (λ p. p.id == id) (cons_option o [])) ≡ is_marked new id
marked_more old new None id is = or_end (is_marked old id) ∙ ap (λ (ws : List WindowView). is_marked ws id) (sym is)
marked_more old new (Some p) id is = ap (λ (b : Bool). is_marked old id || b) (or_end (eqb p.id id)) ∙ sym (is.marked id)

pub keep_stays : (old new : KeptView) (o : Option KeptReply) → MatchOption o (IsKeptAs old new) (IsKeptToo old new) → new.keep ≡ old.keep
keep_stays old new None is = is.keep
keep_stays old new (Some r) is = is.keep

or_none : {X : Type 0} (o : Option X) → option_or o None ≡ o
or_none None = refl
or_none (Some x) = refl

abbrev number_found : KeptView → ℕ → Asked → Option ℕ
number_found kept t q = option_map (λ e. e.number) (found kept t q)

found_more : (old new : KeptView) (o : Option KeptReply) (count t : ℕ) (q : Asked) → IfSome o (λ r. r.entry.number ≡ count) → MatchOption o (IsKeptAs old new) (IsKeptToo old new)
    → option_or (number_found old t q) (cond (is_repeat_of old.keep t q o) (Some count) None) ≡ number_found new t q
found_more old new None count t q number is =
    let numbers : Option KeptReply → Option ℕ = λ o. option_map (λ (x : KeptEntry). x.number) (option_map (λ (x : KeptReply). x.entry) o) in
    or_none (number_found old t q) ∙ ap₂ (λ (k : ℕ) (rs : List KeptReply). numbers (find (λ x. is_same_request x.asked q && is_in_time k t x) rs)) (sym is.keep) (sym is.replies)
found_more old new (Some r) count t q number is =
    let asks : KeptReply → Bool = λ x. is_same_request x.asked q && is_in_time old.keep t x in
    let numbers : Option KeptReply → Option ℕ = λ o. option_map (λ (x : KeptEntry). x.number) (option_map (λ (x : KeptReply). x.entry) o) in
    ap (λ (n : ℕ). option_or (number_found old t q) (cond (asks r) (Some n) None)) (sym number)
    ∙ number_or (find asks old.replies) (asks r) r
    ∙ ap numbers (sym (find-append asks old.replies (r ∷ [])))
    ∙ ap₂ (λ (k : ℕ) (rs : List KeptReply). numbers (find (λ x. is_same_request x.asked q && is_in_time k t x) rs)) (sym is.keep) (sym is.replies)

replies_more : (old new : KeptView) (o : Option KeptReply) (P : KeptReply → Type 0) → IfSome o P → MatchOption o (IsKeptAs old new) (IsKeptToo old new) → All P old.replies → All P new.replies
replies_more old new None P reply is all = subst (All P) (sym is.replies) all
replies_more old new (Some r) P reply is all = subst (All P) (sym is.replies) (All-push P old.replies r all reply)

-- ---- sums and counts of the pieces

redeemed_more : (o : Option Scrip) (s : ℕ) → values (of_series s (cons_option o [])) ≡ worth_redeemed o s
redeemed_more None s = refl
redeemed_more (Some p) s = one_value (series_of p.id) s p refl

worth_more : (series s : ℕ) (o : Option Scrip) → IfSome o (λ p. series_of p.id ≡ series) → values (of_series s (option_to_list o)) ≡ worth_handed series o s
worth_more series s None of = refl
worth_more series s (Some p) of = one_value series s p of

count_more : (series s : ℕ) (o : Option Scrip) → IfSome o (λ p. series_of p.id ≡ series) → in_series (option_to_list o) s ≡ count_handed series o s
count_more series s None of = refl
count_more series s (Some p) of = one_count series s p of

own_count_snoc : (h : History) (e : Entry) (s : ℕ) → own_count (h ++ e ∷ []) s ≡ own_count h s + in_series (option_to_list (handed_piece h e)) s + in_series (minted_pieces h e) s
own_count_snoc h e s =
    let test : Scrip → Bool = λ p. series_of p.id == s in
    let handed = option_to_list (handed_piece h e) in
    let pieces = minted_pieces h e in
    let longer : own_count (h ++ e ∷ []) s ≡ count_by test ((own_out h ++ handed) ++ (minted h ++ pieces)) =
    ap₂ (λ (ps qs : List Scrip). count_by test (ps ++ qs)) (own_out_snoc [] h e) (minted_snoc [] h e) in
    omega (
      arith,
      longer,
      count-append test (own_out h ++ handed) (minted h ++ pieces),
      count-append test (own_out h) handed,
      count-append test (minted h) pieces,
      count-append test (own_out h) (minted h),
    )

-- ---- the state

pub stands_more : {old new : HouseStateView} {h : History} → StateRepresents old h → (e : Entry) (g : Growth) → Says old h e g → MayFollow old.limits h e → IsGrown old new g → StateRepresents new (h ++ e ∷ [])
stands_more {old = old} {new = new} {h = h} st e g says may is =
    let same = same_house old.limits h e st.lawful in
    let series = series_now old in
    let terms : all_terms (h ++ e ∷ []) ≡ all_terms h ++ all_terms (e ∷ []) = filter_map-append terms_of h (e ∷ []) in
    let accepts : accepted (h ++ e ∷ []) ≡ accepted h ++ cons_option g.paid [] = accepted_snoc h e ∙ ap (λ (o : Option Scrip). accepted h ++ cons_option o []) says.paid in
    let out : own_out (h ++ e ∷ []) ≡ own_out h ++ option_to_list g.handed = own_out_snoc [] h e ∙ ap (λ (o : Option Scrip). own_out h ++ option_to_list o) says.handed in
    record {
      name = same.name ∙ st.name ∙ sym is.name;
      clear = ap (λ (o : Option House). unwrap_or (option_map (λ x. x.clear) o) false) same.house ∙ st.clear ∙ sym is.clear;
      terms = terms ∙ ap₂ (λ (xs ys : List Issuing). xs ++ ys) st.terms says.terms ∙ sym is.terms;
      own_terms = own_terms_stay h e old.own.terms st.own_terms ∙ ap some (sym is.issuer);
      in_time = omega (arith, time_snoc h e, st.in_time, is.time, says.moment);
      spent = λ id live.
          let before : has_ended h old.time id ≡ false =
          ended_kept (all_terms h) (all_terms (e ∷ [])) old.time id (ap₂ (λ (ts : List Issuing) (t : ℕ). ended_by ts t id) (sym terms) (sym is.time) ∙ live) in
          ap (list_any (λ p. p.id == id)) accepts ∙ list_any-append (λ p. p.id == id) (accepted h) (cons_option g.paid [])
          ∙ ap (λ (b : Bool). b || list_any (λ p. p.id == id) (cons_option g.paid [])) (st.spent id before) ∙ marked_more old.spent new.spent g.paid id is.spent;
      again = λ t q later. ap (λ (k : ℕ). position (is_repeat k t q) (h ++ e ∷ [])) (keep_stays old.kept new.kept g.kept is.kept)
          ∙ position_snoc (is_repeat old.kept.keep t q) h e
          ∙ ap₂ (λ (o : Option ℕ) (b : Bool). option_or o (cond b (Some (length h)) None)) (st.again t q (omega (arith, later, is.time))) (says.repeats t q (omega (arith, later, is.time)))
          ∙ ap (λ (n : ℕ). option_or (number_found old.kept t q) (cond (is_repeat_of old.kept.keep t q g.kept) (Some n) None)) st.counted
          ∙ found_more old.kept new.kept g.kept old.count t q says.number is.kept;
      replies = replies_more old.kept new.kept g.kept (IsReply (h ++ e ∷ [])) says.reply is.kept (All-weaker (IsReply h) (IsReply (h ++ e ∷ [])) (λ r. reply_kept st e r) old.kept.replies st.replies);
      issued = λ s. own_count_snoc h e s
          ∙ ap₂ (λ (m n : ℕ). m + n) (ap₂ (λ (m n : ℕ). m + n) (st.issued s) (ap (λ (o : Option Scrip). in_series (option_to_list o) s) says.handed ∙ count_more series s g.handed says.series)) (says.minted s)
          ∙ sym (is.issued s);
      most = is.most ∙ st.most ∙ ap (λ (l : Limits). l.series) (sym is.limits);
      redeemed = λ s. ap (λ (ps : List Scrip). values (of_series s ps)) accepts ∙ values_more s (accepted h) (cons_option g.paid [])
          ∙ ap₂ (λ (m n : ℕ). m + n) (st.redeemed s) (redeemed_more g.paid s) ∙ sym (is.redeemed s);
      worth = λ s. ap (λ (ps : List Scrip). values (of_series s ps)) out ∙ values_more s (own_out h) (option_to_list g.handed)
          ∙ ap₂ (λ (m n : ℕ). m + n) (st.worth s) (worth_more series s g.handed says.series) ∙ sym (is.worth s);
      takings = omega (arith, sum_by-append price_paid h (e ∷ []), says.takings, st.takings, is.takings);
      counted = omega (arith, length-append h (e ∷ []), st.counted, is.counted);
      sized = omega (arith, size_snoc h e, length-tail h e, tail_size-by h, ap tail_bytes st.switched, st.sized, says.payload, is.sized);
      switched = has_switch-first h e ∙ ap₂ (λ (a b : Bool). a || b) says.switches st.switched ∙ sym is.switched;
      upgrades = ap (upgrades_of (h ++ e ∷ [])) same.name ∙ filter_map-append (upgrade_of (site_name h)) h (e ∷ [])
          ∙ ap₂ (λ (us vs : List Upgraded). us ++ vs) st.upgrades (ap (upgrades_of (e ∷ [])) st.name ∙ says.upgrades) ∙ sym is.upgrades;
      limits = rw is.limits st.limits;
      lawful = rw is.limits (longer_lawful old.limits h e st.lawful may);
    }
  where
    some : Issuing → Option Issuing
    some t = Some t
