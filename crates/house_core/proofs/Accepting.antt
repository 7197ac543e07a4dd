-- What comes of a request, from the answer to it.
use Rattle.std.proofs.Common.{◌≡◌, ◌≤◌, ◌^◌, ℕ, false, List, [], ◌∷◌, ◌++◌, length, Option, Some, None, Ok, Err, refl, sym, ap, subst, ◌∙◌, arith}
use Rattle.std.specs.Prelude.{option_map, position, IfOk, IfErr, IsOk, OnOk, Result}
use Rattle.scrip_form.specs.Issuing.{Issuing}
use Rattle.mc_requests.specs.declared.limits.Limits.{Limits}
use Rattle.mc_records.specs.Sizes.{tail_bytes}
use Rattle.mc_records.specs.Entry.{payload}
use Rattle.mc_requests.specs.Requests.{Asked}
use Rattle.kept_replies.specs.declared.deed.KeptEntry.{KeptEntry}
use Rattle.kept_replies.specs.Kept.{found}
use Rattle.ledger_model.specs.Histories.{History}
use Rattle.ledger_model.specs.Answer as answers
use Rattle.ledger_model.specs.Answer.{Answer, answer, answered}
use Rattle.ledger_model.specs.Stages.{is_repeat, read_by}
use Rattle.ledger_model.proofs.TableLaws.{read_ok}
use Rattle.house_core.specs.BenchView.{BenchView}
use Rattle.house_state.specs.declared.verdict.Authorization.{Authorization}
use Rattle.house_state.specs.declared.verdict.NotAuthorized.{NotAuthorized}
use Rattle.house_state.specs.declared.verdict.NotAuthorized.TheVariants as stops
use Rattle.house_core.specs.declared.fault.BenchFault.TheVariants as faults
use Rattle.house_state.specs.Trade.{BringsFor, TradeView}
use Rattle.house_state.specs.HouseState.{HouseStateView, HasChange, IsEntered, IsAsBefore, series_now}
use Rattle.house_state.specs.Representation.{StateRepresents, has_ended}
use Rattle.house_state.specs.Verdicts.{accept_entry, stop_of, IsReady, RepeatsKept, StopIsOfSite}
use Rattle.house_core.specs.Bench.{Represents, IsRoomed, Accepts, KeepsReply, FaultIsOfSite, house_time, limits_of, stopped_with}
use Rattle.house_core.proofs.Entered.{takes_follow, stands_more}
use Rattle.house_core.proofs.AcceptSays.{says_accept}
use Rattle.house_state.proofs.Tabled.{scrip_asked}

-- ---- a request that makes no entry

pub makes_none : {T : Type 0} (trade : T → TradeView) (b : BenchView T) (h : History) (q : Asked) (s : NotAuthorized) → Represents trade b h
    → answered (Err (stop_of s)) ≡ answer h (house_time b) (limits_of b) q → Accepts trade b h (answer h (house_time b) (limits_of b) q) (stopped_with s)
makes_none trade b h q (stops.Refused f) st e = subst (λ (a : Answer). Accepts trade b h a (Err (faults.Refused f))) e (refl, st)
makes_none trade b h q (stops.Again n) st e = subst (λ (a : Answer). Accepts trade b h a (Ok n)) e (refl, st)

-- ---- replies that are kept

pub stopped_kept : {T : Type 0} (b : BenchView T) (s : NotAuthorized) → RepeatsKept b.state s → IfOk (stopped_with s) (KeepsReply b)
stopped_kept b (stops.Refused f) is = tt
stopped_kept b (stops.Again n) is = is

pub stopped_site : (s : NotAuthorized) → StopIsOfSite s → IfErr (stopped_with s) FaultIsOfSite
stopped_site (stops.Refused f) is = is
stopped_site (stops.Again n) is = tt

-- ---- room that was made

pub stands_as_before : {old new : HouseStateView} {h : History} → StateRepresents old h → IsAsBefore old new → StateRepresents new h
stands_as_before {old = old} {new = new} {h = h} st is = record {
  name = st.name ∙ sym is.name;
  clear = st.clear ∙ sym is.clear;
  terms = st.terms ∙ sym is.terms;
  own_terms = st.own_terms ∙ ap some (sym is.issuer);
  in_time = omega (arith, st.in_time, is.time);
  spent = λ id live. st.spent id (subst (λ (t : ℕ). has_ended h t id ≡ false) is.time live) ∙ sym (is.spent id);
  again = λ t q later. ap (λ (k : ℕ). position (is_repeat k t q) h) is.keep ∙ st.again t q (omega (arith, later, is.time)) ∙ same_found t q;
  replies = rw is.replies st.replies;
  issued = λ s. st.issued s ∙ sym (is.issued s);
  most = is.most ∙ st.most ∙ ap (λ (l : Limits). l.series) (sym is.limits);
  redeemed = λ s. st.redeemed s ∙ sym (is.redeemed s);
  worth = λ s. st.worth s ∙ sym (is.worth s);
  takings = st.takings ∙ sym is.takings;
  counted = st.counted ∙ sym is.counted;
  sized = st.sized ∙ sym is.sized;
  switched = st.switched ∙ sym is.switched;
  upgrades = st.upgrades ∙ sym is.upgrades;
  limits = rw is.limits st.limits;
  lawful = rw is.limits st.lawful;
}
  where
    some : Issuing → Option Issuing
    some t = Some t

    same_found : (t : ℕ) (q : Asked) → option_map (λ (e : KeptEntry). e.number) (found old.kept t q) ≡ option_map (λ e. e.number) (found new.kept t q)
    same_found t q = rw (is.keep, is.replies) refl

pub ready_as_before : {old new : HouseStateView} → IsAsBefore old new → (target : List ℕ) (a : Authorization) → IsReady old target a → IsReady new target a
ready_as_before {old = old} {new = new} is target a ready = record {
  secret = rw (is.name, is.terms, is.upgrades) ready.secret;
  live = rw is.time ready.live;
  fresh = record { its = ready.fresh.its; seen = λ k. ready.fresh.seen k ∙ sym (is.spent k) };
  change = by_change a.change ready.change;
  payload = subst (λ (t : ℕ). a.payload ≡ length (payload (accept_entry t target a))) (sym is.time) ready.payload;
  fits = omega (arith, ready.fits, is.sized, ap tail_bytes is.switched);
}
  where
    series : series_now new ≡ series_now old
    series = rw (is.issuer, is.time) refl

    by_change : (o : Option ℕ) → HasChange old a.price a.scrip.now.piece.value o → HasChange new a.price a.scrip.now.piece.value o
    by_change None has = has
    by_change (Some id) has = (has.0, rw (series, is.issued (series_now old), is.most) has.1, rw (series, is.issued (series_now old)) has.2)

-- ---- the new entry

pub stands_taken : {old mid new : HouseStateView} {h : History} → StateRepresents old h → IsAsBefore old mid → (q : Asked) (a : Authorization) → Ok a.scrip.now ≡ read_by q.scrip
    → IsReady old q.target a → BringsFor h q.target a.deed → (limits : Limits) → limits.series ≡ old.limits.series → limits.journal ≤ 2 ^ 40
    → answer h old.time limits q ≡ answers.Take (accept_entry old.time q.target a)
    → IsEntered mid new q a.scrip.now.piece a → StateRepresents new (h ++ accept_entry old.time q.target a ∷ [])
stands_taken {old = old} {mid = mid} {new = new} {h = h} st before q a read ready brings limits series most takes is =
    let st' = stands_as_before st before in
    let e = accept_entry mid.time q.target a in
    let later : answer h mid.time limits q ≡ answers.Take e = rw before.time takes in
    let same : limits.series ≡ mid.limits.series = series ∙ ap (λ (l : Limits). l.series) (sym before.limits) in
    let entered = subst (λ (p : Asked). IsEntered mid new p a.scrip.now.piece a) (scrip_asked q a.scrip.now read) is in
    let says = says_accept st' q a (read_ok q.scrip a.scrip.now (sym read)).1 (ready_as_before before q.target a ready) brings limits later entered.short in
    subst (λ (t : ℕ). StateRepresents new (h ++ accept_entry t q.target a ∷ [])) before.time (stands_more st' e _ says (takes_follow st' limits q e same most later) entered)

-- ---- what is learned

pub as_it_was : (b : HouseStateView) → IsAsBefore b b
as_it_was b = record {
  name = refl;
  clear = refl;
  terms = refl;
  upgrades = refl;
  time = refl;
  limits = refl;
  spent = λ id. refl;
  keep = refl;
  replies = refl;
  issuer = refl;
  most = refl;
  issued = λ s. refl;
  worth = λ s. refl;
  redeemed = λ s. refl;
  takings = refl;
  counted = refl;
  sized = refl;
  switched = refl;
}

pub on_is_ok : {T E : Type 0} (r : Result T E) (P : Type 0) → IsOk r → OnOk r P → P
on_is_ok (Ok x) P is p = p
on_is_ok (Err e) P is p = absurd (cc is)

-- a house where room was made represents what it represented
pub holds_roomed : {T : Type 0} (trade : T → TradeView) (old new : BenchView T) (h : History) → IsRoomed trade old new → Represents trade old h → Represents trade new h
holds_roomed trade old new h is st = record { state = stands_as_before st.state is.state; learned = is.represents h st.learned; of_kind = rw is.site' st.of_kind }
