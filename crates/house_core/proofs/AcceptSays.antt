-- What the ledger says of the entry of an authorization.
use Rattle.std.proofs.Common.{◌≡◌, ℕ, ◌+◌, ◌<◌, ◌≤◌, ◌^◌, Bool, true, false, List, [], ◌∷◌, ◌++◌, Option, Some, None, Result, Ok, refl, sym, ap, ap₂, ◌∙◌, arith, ltb}
use Rattle.std.specs.Prelude.{◌&&◌, option_map, bytes_eq, IfSome}
use Rattle.std.specs.Result.{result_ok}
use Rattle.hex.specs.Hex.{encode_lower}
use Rattle.scrip_form.specs.Identities.{series_of}
use Rattle.scrip_form.specs.Issuing.{epoch}
use Rattle.scrip_form.specs.Scrip.{Scrip}
use Rattle.scrip_form.specs.Reading.{scrip_of}
use Rattle.mc_requests.specs.declared.limits.Limits.{Limits}
use Rattle.mc_records.specs.Entry.{Entry, Accept}
use Rattle.mc_requests.specs.Requests.{Asked}
use Rattle.kept_replies.specs.Requests.{is_same_text, is_same_request}
use Rattle.kept_replies.specs.Kept.{is_in_time}
use Rattle.change_issue.specs.Registers.{count_in, next_in}
use Rattle.ledger_model.specs.Histories.{History}
use Rattle.ledger_model.specs.Pieces.{piece_of}
use Rattle.ledger_model.specs.Sums.{price_paid}
use Rattle.ledger_model.specs.Stages.{is_same_scrip, is_repeat, is_same_sign}
use Rattle.ledger_model.specs.Answer.{answer, Take}
use Rattle.ledger_model.proofs.TableLaws.{accept_answer}
use Rattle.ledger_model.proofs.AcceptLaws.{offer_below}
use Rattle.ledger_model.proofs.FollowLaws.{same_request}
use Rattle.house_state.specs.declared.verdict.Authorization.{Authorization}
use Rattle.house_state.specs.Views.{entry_deed}
use Rattle.house_state.specs.Trade.{BringsFor}
use Rattle.house_state.specs.HouseState.{HouseStateView, HasChange, series_now, kept_entry, change_made, accept_growth}
use Rattle.house_state.specs.Representation.{StateRepresents, IsReply, scrip_request}
use Rattle.house_state.specs.Verdicts.{accept_entry, IsReady}
use Rattle.house_state.proofs.Entering.{if_kept}
use Rattle.house_core.proofs.Entered.{Says, repeats_if}
use Rattle.house_core.proofs.Replied.{handed_is, reply_new}

-- ---- repeats

sign_as_text : (sign other : Option (List ℕ)) → is_same_text (option_map encode_lower sign) other ≡ is_same_sign sign other
sign_as_text None None = refl
sign_as_text None (Some t) = refl
sign_as_text (Some s) None = refl
sign_as_text (Some s) (Some t) = refl

scrip_as_text : (text : List ℕ) (scrip : Option (List ℕ)) → is_same_scrip scrip text ≡ is_same_text (Some text) scrip
scrip_as_text text None = refl
scrip_as_text text (Some s) = refl

pub swap_and : (a b c d : Bool) → (a && b && c && d) ≡ (b && a && c && d)
swap_and true true c d = refl
swap_and true false c d = refl
swap_and false true c d = refl
swap_and false false c d = refl

-- ---- the entry

abbrev accept_text : Entry → List ℕ
accept_text (Accept m scrip target sign price change deed) = scrip
accept_text _ = []

abbrev accept_sign : Entry → Option (List ℕ)
accept_sign (Accept m scrip target sign price change deed) = sign
accept_sign _ = None

-- what is known of an authorization that the answer takes
record IsTaken (h : History) (t : ℕ) (q : Asked) (a : Authorization) : Type 0 where
  pub piece : piece_of a.scrip.now.text ≡ Some a.scrip.now.piece
  pub price : a.price ≤ a.scrip.now.piece.value
  pub sign : option_map encode_lower a.sign ≡ q.sign

is_taken : (h : History) (t : ℕ) (limits : Limits) (q : Asked) (a : Authorization) → scrip_of a.scrip.now.text ≡ Ok (a.scrip.now.piece, a.scrip.now.cert)
    → answer h t limits q ≡ Take (accept_entry t q.target a) → IsTaken h t q a
is_taken h t limits q a read takes =
    let x = accept_answer h t limits q t a.scrip.now.text q.target a.sign a.price a.change (entry_deed a.deed) takes in
    let text : x.scrip.text ≡ a.scrip.now.text = ap accept_text x.is in
    let sign : x.sign ≡ a.sign = ap accept_sign x.is in
    let price : x.offered.price ≡ a.price = ap price_paid x.is in
    let whole : Scrip × List ℕ = (x.scrip.piece, x.scrip.cert) in
    let pair : whole ≡ (a.scrip.now.piece, a.scrip.now.cert) = cc (x.is_scrip, ap scrip_of text, read) in
    let piece : x.scrip.piece ≡ a.scrip.now.piece = ap (λ (p : Scrip × List ℕ). p.0) pair in
    let below : x.offered.price ≤ x.scrip.piece.value = offer_below h t limits q.target x.scrip.piece.value x.offered x.is_offered in
    record {
      piece = ap (λ (r : Result (Scrip × List ℕ) ℕ). option_map (λ p. p.0) (result_ok r)) read;
      price = omega (arith, below, price, ap (λ (p : Scrip). p.value) piece);
      sign = ap (option_map encode_lower) (sym sign) ∙ ap (λ (p : Asked). p.sign) (same_request h t limits q (accept_entry t q.target a) x);
    }

-- ---- the change

-- the change piece of an entry is of the series in which it was handed out
series_is : (b : HouseStateView) (id : ℕ) → count_in b.own (series_now b) < 2 ^ 32 → id ≡ next_in b.own (series_now b) → series_of id ≡ series_now b
series_is b id below is = omega (arith, below, is)

change_series : (b : HouseStateView) (paid : Scrip) (price : ℕ) (change : Option ℕ) → b.own.most ≤ 2 ^ 32 → HasChange b price paid.value change
    → IfSome (option_map (change_made b paid price) change) (λ p. series_of p.id ≡ series_now b)
change_series b paid price None most has = tt
change_series b paid price (Some id) most has = series_is b id (omega (arith, most, has.1)) has.2

-- ---- the reply

-- a repeat of the new entry is a repeat of its reply
repeats_alike : (b : HouseStateView) (paid : Scrip) (a : Authorization) (keep t : ℕ) (p : Asked) (own_target : List ℕ) (own_sign : Option (List ℕ)) → option_map encode_lower a.sign ≡ own_sign
    → is_repeat keep t p (accept_entry b.time own_target a)
    ≡ (is_same_request (scrip_request a.scrip.now.text own_target own_sign) p && is_in_time keep t (record { asked = scrip_request a.scrip.now.text own_target own_sign; entry = kept_entry b paid a }))
repeats_alike b paid a keep t p own_target own_sign same =
    swap_and (is_same_scrip p.scrip a.scrip.now.text) (bytes_eq own_target p.target) (is_same_sign a.sign p.sign) (ltb t (b.time + keep))
    ∙ ap₂ (λ (x y : Bool). bytes_eq own_target p.target && x && y && ltb t (b.time + keep)) (scrip_as_text a.scrip.now.text p.scrip)
    (sym (sign_as_text a.sign p.sign) ∙ ap (λ (o : Option (List ℕ)). is_same_text o p.sign) same)

-- ---- what it brings

-- what the ledger says of the entry that the answer takes
pub says_accept : {b : HouseStateView} {h : History} → StateRepresents b h → (q : Asked) (a : Authorization) → scrip_of a.scrip.now.text ≡ Ok (a.scrip.now.piece, a.scrip.now.cert)
    → IsReady b q.target a → BringsFor h q.target a.deed → (limits : Limits) → answer h b.time limits q ≡ Take (accept_entry b.time q.target a)
    → IfSome (option_map (change_made b a.scrip.now.piece a.price) a.change) (λ p. epoch b.own.terms b.time < 2 ^ 24)
    → Says b h (accept_entry b.time q.target a) (accept_growth b (scrip_request a.scrip.now.text q.target q.sign) a.scrip.now.piece a)
says_accept {b = b} {h = h} st q a read ready brings limits takes short =
    let taken = is_taken h b.time limits q a read takes in
    let most : b.own.most ≤ 2 ^ 32 = omega (arith, st.most, st.limits.series_most) in
    record {
      moment = omega arith;
      paid = taken.piece;
      handed = handed_is st q.target a taken.piece most ready.change short;
      series = change_series b a.scrip.now.piece a.price a.change most ready.change;
      repeats = λ t p later. repeats_if b.kept.keep t p _ _ later (repeats_alike b a.scrip.now.piece a b.kept.keep t p q.target q.sign taken.sign);
      number = if_kept b.kept.keep _ (λ r. r.entry.number ≡ b.count) (λ keeps. refl);
      reply = if_kept b.kept.keep _ (IsReply (h ++ accept_entry b.time q.target a ∷ [])) (λ keeps. reply_new st q a taken.piece ready most short brings);
      takings = omega (arith, taken.price);
      terms = refl;
      upgrades = refl;
      minted = λ s. refl;
      switches = refl;
      payload = sym ready.payload;
    }
