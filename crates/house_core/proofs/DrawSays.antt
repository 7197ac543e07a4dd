-- What the ledger says of the entry of a draw.
use Rattle.std.proofs.Common.{◌≡◌, ℕ, ◌+◌, ◌<◌, ◌^◌, Bool, true, false, cond, List, [], ◌∷◌, ◌++◌, length-append, Option, Some, None, refl, sym, ap, ap₂, ◌∙◌, arith, ltb}
use Rattle.std.specs.Prelude.{◌&&◌, codes, option_map, unwrap_or, is_none, bytes_eq}
use Rattle.hex.specs.Hex.{encode_lower}
use Rattle.scrip_form.specs.Identities.{issuer_of, series_of}
use Rattle.scrip_form.specs.Issuing.{Issuing, epoch}
use Rattle.scrip_form.specs.Scrip.{Scrip}
use Rattle.mc_requests.specs.declared.limits.Limits.{Limits}
use Rattle.mc_records.specs.Entry.{Entry, Draw}
use Rattle.mc_requests.specs.Requests.{Asked}
use Rattle.kept_replies.specs.Requests.{is_same_text, is_same_request}
use Rattle.kept_replies.specs.Kept.{KeptReply, is_in_time}
use Rattle.ledger_model.specs.Histories.{History}
use Rattle.ledger_model.specs.Houses.{is_broker, terms_in, version_by, secret_of}
use Rattle.ledger_model.specs.declared.upgraded.Upgraded.{Upgraded}
use Rattle.scrip_certs.specs.Digests.{customer_secret}
use Rattle.ledger_model.specs.Orders.{Order, order_of, order_amount}
use Rattle.ledger_model.specs.Accounts.{order_key}
use Rattle.ledger_model.specs.Pieces.{first_hand, drawn_piece, handed_piece}
use Rattle.ledger_model.specs.Stages.{is_repeat, is_same_sign}
use Rattle.ledger_model.specs.Answer.{without_scrip, answer, Take}
use Rattle.ledger_model.specs.Replies.{Contents, held_contents, contents_if, own_held, contents_after, taken_values, taken_reply, reply_of}
use Rattle.ledger_model.proofs.TableLaws.{draw_answer}
use Rattle.ledger_model.proofs.ReplyLaws.{own_reply}
use Rattle.house_state.specs.declared.verdict.DrawAuthorization.{DrawAuthorization}
use Rattle.house_state.specs.HouseState.{HouseStateView, version_of, drawn_made, deed_drawn, kept_draw, draw_growth}
use Rattle.house_state.specs.Trade.{brought_by, piece_brought}
use Rattle.house_state.specs.Representation.{StateRepresents, IsReply, brought_then, kept_reply}
use Rattle.house_state.specs.Verdicts.{draw_entry, IsDrawReady, IsOrdered}
use Rattle.house_core.proofs.Replied.{IsOwn, next_is_own, own_end_is, own_text_is, brought_new}
use Rattle.house_state.proofs.Entering.{if_kept}
use Rattle.house_core.proofs.Entered.{Says, repeats_if}
use Rattle.house_core.proofs.AcceptSays.{swap_and}

-- ---- the piece

order_is : (h : History) (target : List ℕ) (d : DrawAuthorization) → (x : IsOrdered h target d) → order_of target ≡ Some x.order
order_is h target d x = go (is_broker h) x.asks
  where
    go : (b : Bool) → cond b (order_of target) None ≡ Some x.order → order_of target ≡ Some x.order
    go true asks = asks
    go false asks = absurd cc

-- what is drawn is what the ledger says
pub drawn_is : {b : HouseStateView} {h : History} → StateRepresents b h → (target : List ℕ) (d : DrawAuthorization) → IsOrdered h target d → IsOwn b d.id
    → handed_piece h (draw_entry b.time target d) ≡ Some (drawn_made b d)
drawn_is {b = b} {h = h} st target d ordered own =
    let ends = own_end_is st d.id own.of_epoch in
    let same : first_hand h d.amount d.id ≡ drawn_made b d = λ i. record { version = version_by (st.upgrades i) (series_of d.id); vendor = st.name i; value = d.amount; id = d.id; cust = d.id; expires = ends i; props = [] } in
    ap (drawn_piece h d.id) (order_is h target d ordered)
    ∙ ap (λ (n : ℕ). Some (first_hand h n d.id)) ordered.amount
    ∙ ap (λ (p : Scrip). Some p) same

-- the secret of a customer whose identity is the house's own
own_secret_is : {b : HouseStateView} {h : History} → StateRepresents b h → (id : ℕ) → issuer_of id ≡ 0 → secret_of h id ≡ Some (customer_secret b.own.terms id (version_of b (series_of id)))
own_secret_is {h = h} st id own =
    ap₂ (λ (us : List Upgraded) (o : Option Issuing). option_map (λ t. customer_secret t id (version_by us (series_of id))) o) st.upgrades (ap (terms_in h) own ∙ st.own_terms)

-- ---- what it brings

-- the line of the piece
contents_are : {b : HouseStateView} {h : History} → StateRepresents b h → (target : List ℕ) (d : DrawAuthorization) → IsOrdered h target d → IsOwn b d.id
    → (more : History) → brought_by more (deed_drawn b.own.terms (drawn_made b d)) ≡ Some (contents_after h (draw_entry b.time target d))
unfolding piece_brought
contents_are {b = b} {h = h} st target d ordered own more =
    let p = drawn_made b d in
    let line : List ℕ → Option (List ℕ) → Option Contents = λ text secret. Some (held_contents (record { text = text; secret = unwrap_or secret [] })) in
    sym (
    ap (λ (o : Option Scrip). Some (contents_if (option_map (own_held h) o))) (drawn_is st target d ordered own)
    ∙ ap₂ line (own_text_is st p) (own_secret_is st d.id own.issuer)
    )

-- ---- the reply

reply_drawn : {b : HouseStateView} {h : History} → StateRepresents b h → (q : Asked) (d : DrawAuthorization) → IsOrdered h q.target d → IsOwn b d.id
    → IsReply (h ++ draw_entry b.time q.target d ∷ []) (record { asked = without_scrip q; entry = kept_draw b d })
reply_drawn {b = b} {h = h} st q d ordered own =
    let e = draw_entry b.time q.target d in
    let longer = h ++ e ∷ [] in
    let contents = contents_after h e in
    let r : KeptReply = record { asked = without_scrip q; entry = kept_draw b d } in
    let new : brought_then longer b.count ≡ contents = brought_new h e b.count (sym st.counted) in
    let said : Option (List ℕ) → ℕ → List ℕ = λ key amount. taken_reply key (codes "-") q.target contents (taken_values b.time contents amount None) in
    record {
      brings = contents_are st q.target d ordered own longer ∙ ap (λ (x : Contents). Some x) (sym new);
      within = omega (arith, st.counted, length-append h (e ∷ []));
      own = tt;
      reply = ap (reply_of longer) (sym st.counted) ∙ own_reply h [] e
          ∙ ap (λ (o : Option Order). said (order_key h o) (order_amount o)) (order_is h q.target d ordered)
          ∙ ap₂ said ordered.key ordered.amount
          ∙ ap (kept_reply longer r) (sym new);
    }

-- ---- repeats

none_as_text : (scrip : Option (List ℕ)) → is_none scrip ≡ is_same_text None scrip
none_as_text None = refl
none_as_text (Some s) = refl

signed_as_text : (sign : List ℕ) (other : Option (List ℕ)) → is_same_sign (Some sign) other ≡ is_same_text (Some (encode_lower sign)) other
signed_as_text sign None = refl
signed_as_text sign (Some text) = refl

-- a repeat of the new entry is a repeat of its reply
repeats_alike : (b : HouseStateView) (d : DrawAuthorization) (q : Asked) (keep t : ℕ) (p : Asked) → q.sign ≡ Some (encode_lower d.sign)
    → is_repeat keep t p (draw_entry b.time q.target d) ≡ (is_same_request (without_scrip q) p && is_in_time keep t (record { asked = without_scrip q; entry = kept_draw b d }))
repeats_alike b d q keep t p signed =
    swap_and (is_none p.scrip) (bytes_eq q.target p.target) (is_same_sign (Some d.sign) p.sign) (ltb t (b.time + keep))
    ∙ ap₂ (λ (x y : Bool). bytes_eq q.target p.target && x && y && ltb t (b.time + keep)) (none_as_text p.scrip)
    (signed_as_text d.sign p.sign ∙ ap (λ (o : Option (List ℕ)). is_same_text o p.sign) (sym signed))

abbrev draw_sign : Entry → List ℕ
draw_sign (Draw m target sign drawn) = sign
draw_sign _ = []

-- the signature of an entry that the answer takes is that of the request
sign_is : (h : History) (t : ℕ) (limits : Limits) (q : Asked) (d : DrawAuthorization) → answer h t limits q ≡ Take (draw_entry t q.target d) → q.sign ≡ Some (encode_lower d.sign)
sign_is h t limits q d takes =
    let x = (draw_answer h t limits q t q.target d.sign d.id takes).through in
    x.given_sign ∙ ap some (x.is_right ∙ ap encode_lower (ap draw_sign x.is))
  where
    some : List ℕ → Option (List ℕ)
    some s = Some s

-- ---- all of it

-- what the ledger says of the entry of a draw that the answer takes
pub says_draw : {b : HouseStateView} {h : History} → StateRepresents b h → (q : Asked) (d : DrawAuthorization) → IsDrawReady b q.target d → IsOrdered h q.target d
    → (limits : Limits) → answer h b.time limits q ≡ Take (draw_entry b.time q.target d) → epoch b.own.terms b.time < 2 ^ 24
    → Says b h (draw_entry b.time q.target d) (draw_growth b (without_scrip q) d)
says_draw {b = b} {h = h} st q d ready ordered limits takes short =
    let own = next_is_own st d.id short (omega (arith, ready.below, st.most, st.limits.series_most)) ready.next in
    record {
      moment = omega arith;
      paid = refl;
      handed = drawn_is st q.target d ordered own;
      series = own.series;
      repeats = λ t p later. repeats_if b.kept.keep t p _ _ later (repeats_alike b d q b.kept.keep t p (sign_is h b.time limits q d takes));
      number = if_kept b.kept.keep _ (λ r. r.entry.number ≡ b.count) (λ keeps. refl);
      reply = if_kept b.kept.keep _ (IsReply (h ++ draw_entry b.time q.target d ∷ [])) (λ keeps. reply_drawn st q d ordered own);
      takings = refl;
      terms = refl;
      upgrades = refl;
      minted = λ s. refl;
      switches = refl;
      payload = sym ready.payload;
    }
