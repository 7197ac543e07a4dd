-- Each Draw entry under a key under which one wallet alone signs draws is for a request of the wallet.
use Rattle.std.proofs.Common.{◌≡◌, inl, inr, ℕ, List, [], take, Option, Some, refl, sym, ap, subst, ◌∙◌, slice_get, unwrap_or}
use Rattle.std.specs.Prelude.{codes}
use Rattle.std.proofs.lemmas.Option.{same_Some}
use Rattle.hex.specs.Hex.{encode_lower}
use Rattle.mc_requests.specs.declared.limits.Limits.{Limits}
use Rattle.mc_records.specs.Entry.{Entry, Draw}
use Rattle.mc_requests.specs.Requests.{Asked}
use Rattle.scrip_certs.specs.Digests.{request_signature}
use Rattle.ledger_model.specs.Histories.{History}
use Rattle.ledger_model.specs.Orders.{order_of}
use Rattle.ledger_model.specs.Accounts.{key_in, order_key}
use Rattle.ledger_model.specs.Lawful.{draw_request}
use Rattle.house_core.specs.Session.{State}
use Rattle.wallet_model.specs.Asks.{signature_of}
use Rattle.world_model.specs.Worlds.{World}
use Rattle.world_model.specs.Signings.{Signing, HasRequest, HasOrder, DrewBefore, DrawsAlone}
use Rattle.world_model.specs.Agreement.{IsSetup}
use Rattle.world_model.proofs.Lists.{got_is, two_back, goes_at}
use Rattle.world_model.proofs.Tied.{IsOrderedIn, HouseEntry, HouseTied, Tied}
use Rattle.world_model.proofs.AskedLaws.{asked_where}
use Rattle.world_model.proofs.DoneLaws.{house_lawful}
use Rattle.world_model.proofs.DrawLaws.{drawn_of}

some : List ℕ → Option (List ℕ)
some s = Some s

-- a wallet's own request is one of that target and signature
own_order : (h : History) (q : Asked) (target sign : List ℕ) → HasRequest h q → q.target ≡ target → q.sign ≡ Some (encode_lower sign) → HasOrder h (draw_request target sign)
own_order h q target sign (n, p, request, asks) target_is sign_is =
    (n, p, request, ap (λ (x : Asked). x.target) asks ∙ target_is, sym sign_is ∙ sym (ap (λ (x : Asked). x.sign) asks))

same_order : (h : History) (q : Asked) (target sign : List ℕ) → HasOrder h q → q.target ≡ target → q.sign ≡ Some (encode_lower sign) → HasOrder h (draw_request target sign)
same_order h q target sign (n, p, request, asks, signed) target_is sign_is = (n, p, request, asks ∙ target_is, sym sign_is ∙ signed)

pub drawn_is_asked : (limits : Limits) (w : World) (Made : Signing → Type 0) (v : World) (i j n m id : ℕ) (s : State) (h : History) (key target sign : List ℕ)
    → IsSetup limits w → Tied limits w Made v → slice_get v.houses i ≡ Some s → slice_get v.wallets j ≡ Some h → DrawsAlone w v j key
    → slice_get s.history n ≡ Some (Draw m target sign id) → order_key (take n s.history) (order_of target) ≡ Some key
    → HasOrder h (draw_request target sign)
unfolding some
drawn_is_asked limits w Made v i j n m id s h key target sign setup tied house wallet alone at known =
    let e : Entry = Draw m target sign id in
    let b = two_back (HouseTied limits v.messages) w.houses v.houses i s tied.houses house in
    let d = drawn_of limits s.history n m target sign id setup.range.series_most (house_lawful limits w Made v i s setup tied house) b.related.all at in
    let own : List ℕ = unwrap_or (key_in (take n s.history) d.order.account) [] in
    let its_key : order_key (take n s.history) (order_of target) ≡ Some own = ap (order_key (take n s.history)) d.asks ∙ d.key in
    let key_is : own ≡ key = same_Some own key (sym its_key ∙ known) in
    let signed : sign ≡ request_signature (codes "-") target key = d.signed ∙ ap (request_signature (codes "-") target) key_is in
    elim (goes_at (HouseEntry limits v.messages) b.x.history s.history n e b.related.goes at) [
      | inl there ↦
          let before : DrewBefore w (draw_request target sign) = record { i = i; s = b.x; n = n; moment = m; sign = sign; id = id; house = b.is; entry = there; signed = refl } in
          alone h (draw_request target sign) wallet (inr before) (ap (λ (x : List ℕ). some (encode_lower x)) signed)
      | inr later ↦
          let came : IsOrderedIn v.messages target sign = later.1.came in
          let under : came.q.sign ≡ Some (encode_lower (request_signature (codes "-") came.q.target key)) =
          came.sign_is ∙ ap (λ (x : List ℕ). some (encode_lower x)) (signed ∙ ap (λ (t : List ℕ). request_signature (codes "-") t key) (sym came.target_is)) in
          elim (asked_where limits w Made v j came.q setup tied came.asked) [
            | inl other ↦ same_order h came.q target sign (alone h came.q wallet (inl other) under) came.target_is came.sign_is
            | inr ours ↦ own_order h came.q target sign (subst (λ (g : History). HasRequest g came.q) (got_is ours.h h (slice_get v.wallets j) ours.wallet wallet) ours.has) came.target_is came.sign_is
          ]
    ]
