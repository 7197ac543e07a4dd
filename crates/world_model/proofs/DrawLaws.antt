-- Each Done entry that a schedule added for a draw is a Draw entry of a house, with the drawn piece.
use Rattle.std.proofs.Common.{◌≡◌, inl, inr, ℕ, zero, suc, ◌<◌, ◌≤◌, ◌^◌, Bool, true, false, cond, List, [], ◌∷◌, ◌++◌, take, drop, Option, Some, None, Ok, refl, sym, ap, subst, ◌∙◌, arith, append-nil, slice_get, option_map, unwrap_or}
use Rattle.std.specs.Prelude.{codes}
use Rattle.std.specs.List.{AllByRecursion}
use Rattle.std.proofs.lemmas.Option.{same_Some}
use Rattle.std.proofs.lemmas.List.{take-append-drop}
use Rattle.std.proofs.lemmas.List.Elements.{All-nil}
use Rattle.std.specs.Int.{w64, to_be_bytes}
use Rattle.scrip_form.specs.Issuing.{Issuing, selected}
use Rattle.scrip_form.specs.Identities.{issuer_of, series_of}
use Rattle.scrip_form.specs.Texts.{IsProps, is_props_byte}
use Rattle.scrip_form.specs.Scrip.{Scrip, IsCert, IsTextOf, IsScripText}
use Rattle.scrip_certs.specs.Digests.{customer_secret, request_signature}
use Rattle.mc_fields.specs.Texts.{IsNumber}
use Rattle.mc_base.specs.declared.amount.TheConstants.Amount.{MOST}
use Rattle.mc_requests.specs.declared.limits.Limits.{Limits}
use Rattle.mc_requests.specs.Errands as errands
use Rattle.mc_requests.specs.Errands.{Errand, errand_of}
use Rattle.mc_requests.proofs.ErrandLaws.{errand_told}
use Rattle.mc_records.specs.PieceLine.{piece_line}
use Rattle.mc_records.specs.Entry.{Held, Entry, Draw, Fits}
use Rattle.mc_requests.specs.Replies.{or_dash}
use Rattle.piece_lines.specs.declared.rule.PieceRule.TheVariants.{Any}
use Rattle.piece_lines.specs.Rules as rules
use Rattle.piece_lines.specs.PieceLines.{LineFits, AreLines}
use Rattle.piece_lines.proofs.InputLaws.{told_only}
use Rattle.ledger_model.specs.Histories.{History}
use Rattle.ledger_model.specs.Houses.{site_name, terms_in, upgrades_of, version, secret_of}
use Rattle.ledger_model.specs.Orders.{Order, order_of, as_order, order_amount}
use Rattle.ledger_model.specs.Accounts.{key_in, order_key}
use Rattle.ledger_model.specs.Pieces.{first_hand, drawn_piece}
use Rattle.ledger_model.specs.Answer.{answer}
use Rattle.ledger_model.specs.Lawful.{unbounded, draw_request, IsLawful}
use Rattle.audit_model.proofs.OwnIssuer.{own_series_below}
use Rattle.ledger_model.specs.Replies.{Contents, contents_if, held_contents, contents_after, own_held, own_text, own_certificate}
use Rattle.ledger_model.proofs.TakenLaws.{taken_draw}
use Rattle.ledger_model.proofs.FollowLaws.{prefix_lawful}
use Rattle.wallet_model.specs.Requests.{Pending}
use Rattle.wallet_model.specs.Holdings.{texts_came}
use Rattle.wallet_model.specs.Newness.{is_new}
use Rattle.wallet_model.specs.Asks.{signature_of}
use Rattle.wallet_model.specs.Settling.{sole, one_line, if_new, contents_came, got_came, change_came}
use Rattle.wallet_model.specs.Laws.{HasItsPiece}
use Rattle.wallet_model.proofs.FitLaws.{text_of_piece, requests_have}
use Rattle.world_model.specs.Worlds.{World}
use Rattle.world_model.specs.Signings.{Signing, signing_asked, IsMade}
use Rattle.world_model.specs.Agreement.{IsSetup, SettledSince, HasDrawn, drawn_held, AgreesWithDraw}
use Rattle.world_model.proofs.Lists.{two_get, two_back, all_get}
use Rattle.world_model.proofs.Tied.{HouseTied, WalletTied, Tied}
use Rattle.world_model.proofs.Signed.{same_line}
use Rattle.world_model.proofs.Steps.{wallet_now}
use Rattle.world_model.proofs.Accepted.{may_at, lawful_accept}
use Rattle.world_model.proofs.DoneLaws.{house_lawful, IsPaid, paid_since, SignedBy, by_accept, by_draw, signed_by, no_dash_text}
use Rattle.world_model.proofs.OwnPieces.{OwnTerms, own_terms, cert_below, in_a_version, own_text_of}
use Rattle.world_model.proofs.Repeats.{nothing_taken}

-- ---- fronts of a history

pub front_lawful : (limits : Limits) (h : History) (n : ℕ) → (take n h ≡ [] → ⊥) → IsLawful limits h → IsLawful limits (take n h)
front_lawful limits h n some lawful = go (take n h) refl some
  where
    go : (g : History) → take n h ≡ g → (g ≡ [] → ⊥) → IsLawful limits (take n h)
    go [] is some = absurd (some refl)
    go (x ∷ xs) is some =
        let whole : h ≡ (x ∷ xs) ++ drop n h = sym (take-append-drop n h) ∙ ap (λ (g : History). g ++ drop n h) is in
        subst (IsLawful limits) (sym is) (prefix_lawful limits x xs (drop n h) (subst (IsLawful limits) whole lawful))

pub all_front : (h : History) (n : ℕ) → AllByRecursion Fits h → AllByRecursion Fits (take n h)
all_front h zero all = tt
all_front [] (suc n) all = tt
all_front (x ∷ xs) (suc n) all = (all.0, all_front xs n all.1)

-- ---- the drawn piece

secret_cert : (h : History) (id : ℕ) → OwnTerms h → id < 2 ^ 56 → IsCert (unwrap_or (secret_of h id) [])
unfolding customer_secret
secret_cert h id own below =
    let zeroth : issuer_of id ≡ 0 = omega (arith, below) in
    let is : terms_in h (issuer_of id) ≡ Some own.terms = ap (terms_in h) zeroth ∙ own.is in
    subst (λ (o : Option Issuing). IsCert (unwrap_or (option_map (λ x. customer_secret x id (version h (site_name h) (series_of id))) o) [])) (sym is) (cert_below (version h (site_name h) (series_of id)) (to_be_bytes w64 id ++ selected own.terms.customer id))

pub record DrawnPiece (h : History) (k : ℕ) (m : ℕ) (target sign : List ℕ) (id : ℕ) : Type 0 where
  pub order : Order
  pub asks : order_of target ≡ Some order
  pub key : key_in (take k h) order.account ≡ Some (unwrap_or (key_in (take k h) order.account) [])
  pub signed : sign ≡ request_signature (codes "-") target (unwrap_or (key_in (take k h) order.account) [])
  pub amount : IsNumber MOST order.amount
  pub text : IsTextOf (own_text (take k h) (first_hand (take k h) order.amount id)) (first_hand (take k h) order.amount id) (own_certificate (take k h) (first_hand (take k h) order.amount id))
  pub secret : IsCert (own_held (take k h) (first_hand (take k h) order.amount id)).secret
  pub some : take k h ≡ [] → ⊥

amount_of : (target : List ℕ) (o : Option Errand) (order : Order) → errand_of target ≡ o → as_order o ≡ Some order → IsNumber MOST order.amount
amount_of target (Some (errands.draw account number amount)) order read is =
    let e = (errand_told target (errands.draw account number amount) read).0 in
    let made : Order = record { account = account; order = number; amount = amount } in
    let same : made ≡ order = same_Some made order is in
    subst (λ (o : Order). IsNumber MOST o.amount) same e.2
amount_of target (Some (errands.buy vendor amount)) order read is = absurd cc
amount_of target (Some (errands.pay_in account)) order read is = absurd cc
amount_of target None order read is = absurd cc

pub no_props : IsProps []
no_props = record { some = omega arith; short = omega arith; begins = λ lt. absurd (omega (arith, lt)); all = All-nil (λ b. is_props_byte b ≡ true) }

pub drawn_of : (limits : Limits) (h : History) (k m : ℕ) (target sign : List ℕ) (id : ℕ) → limits.series ≤ 2 ^ 32 → IsLawful limits h → AllByRecursion Fits h → slice_get h k ≡ Some (Draw m target sign id) → DrawnPiece h k m target sign id
drawn_of limits h k m target sign id small lawful fits at =
    let may = may_at limits h k (Draw m target sign id) lawful at in
    let d = taken_draw (take k h) m (unbounded limits) (draw_request target sign) m target sign id may.allowed in
    let some : take k h ≡ [] → ⊥ = λ empty. nothing_taken m (unbounded limits) (draw_request target sign) (Draw m target sign id)
    (ap (λ (g : History). answer g m (unbounded limits) (draw_request target sign)) (sym empty) ∙ may.allowed) in
    let own = own_terms limits (take k h) (front_lawful limits h k some lawful) (all_front h k fits) in
    let amount = amount_of target (errand_of target) d.order refl d.asks in
    let low = amount.some in
    let high = amount.within in
    let entry = all_get Fits h k (Draw m target sign id) fits at in
    let below : id < 2 ^ 64 = entry.drawn in
    let moment : m < 2 ^ 35 = entry.moment in
    let next = d.next in
    let room = d.room in
    let series = own_series_below (take k h) m (all_front h k fits) moment in
    let key : unwrap_or (key_in (take k h) d.order.account) [] ≡ d.key = ap (λ (o : Option (List ℕ)). unwrap_or o []) d.stands in
    record {
      order = d.order;
      asks = d.asks;
      key = d.stands ∙ ap some_key (sym key);
      signed = d.signed ∙ ap (request_signature (codes "-") target) (sym key);
      amount = amount;
      text = own_text_of (take k h) (first_hand (take k h) d.order.amount id) own (in_a_version (upgrades_of (take k h) (site_name (take k h))) (series_of id)) refl (omega (arith, low)) (omega (arith, high)) below below refl no_props;
      secret = secret_cert (take k h) id own (omega (arith, next, series, room, small));
      some = some;
    }
  where
    some_key : List ℕ → Option (List ℕ)
    some_key s = Some s

-- ---- its line

-- a line is read as its piece
pub line_read_back : (x : Held) (p : Scrip) (cert : List ℕ) → IsTextOf x.text p cert → IsCert x.secret → one_line (piece_line x) ≡ Some x
line_read_back x p cert text secret =
    let fit : LineFits (rules.passes Any) x = record { piece = p; cert = cert; text = text; passes = refl; secret = secret } in
    let lines : AreLines (rules.passes Any) (piece_line x) (x ∷ []) = record { some = omega arith; few = omega arith; fit = (fit, tt); spelled = sym (append-nil (piece_line x)) } in
    ap sole (sym (told_only (rules.passes Any) (piece_line x) (Ok (x ∷ [])) lines))

-- ---- the Done entry

came_drawn : (now : History) (n : ℕ) (x : Held) (got : Option Held) → if_new (texts_came (take n now)) (Some x) ≡ got → HasDrawn now n x got
came_drawn now n x got is = go (is_new (texts_came (take n now)) x.text) refl is
  where
    go : (b : Bool) → is_new (texts_came (take n now)) x.text ≡ b → cond b (Some x) None ≡ got → HasDrawn now n x got
    go true new e = inl (sym e)
    go false old e = inr (sym e, old)

draw_asks : (ask : ℕ) (scrip : Option (List ℕ)) (contents : List ℕ) → scrip ≡ None → HasItsPiece ask scrip → contents_came ask contents ≡ one_line contents
draw_asks zero None contents is has = absurd has
draw_asks zero (Some t) contents is has = absurd cc
draw_asks (suc zero) None contents is has = absurd has
draw_asks (suc zero) (Some t) contents is has = absurd cc
draw_asks (suc (suc ask)) scrip contents is has = refl

pub done_is_drawn : (limits : Limits) (w v : World) (j : ℕ) (before now : History) (n : ℕ) (p : Pending) (price : ℕ) (change : Option (List ℕ)) (got : Option Held)
    → IsSetup limits w → Tied limits w (IsMade v) v → slice_get w.wallets j ≡ Some before → slice_get v.wallets j ≡ Some now → SettledSince before now n p price change got → p.scrip ≡ None
    → (i : ℕ) × (k : ℕ) × AgreesWithDraw v now n p got i k
done_is_drawn limits w v j before now n p price change got setup tied first last since none =
    let x = paid_since (IsMade v) before now n p price change got (two_get (WalletTied (IsMade v)) w.wallets v.wallets j before now tied.wallets first last) since in
    let lawful = house_lawful limits w (IsMade v) v x.made.i x.made.s setup tied x.made.house in
    let fits = (two_back (HouseTied limits v.messages) w.houses v.houses x.made.i x.made.s tied.houses x.made.house).related.all in
    let has = requests_have now since.number p (wallet_now limits w (IsMade v) v j now setup tied last).lawful since.request in
    go x lawful fits has (signed_by x.made.s.history x.made.n (signing_asked p x.r) x.made.made)
  where
    dash : or_dash p.scrip ≡ codes "-"
    dash = ap or_dash none

    draws : ℕ → ℕ → List ℕ → List ℕ → Option Entry
    draws m id target sign = Some (Draw m target sign id)

    go : (x : IsPaid (IsMade v) now n price change got p) → IsLawful limits x.made.s.history → AllByRecursion Fits x.made.s.history → HasItsPiece p.ask p.scrip → SignedBy x.made.s.history x.made.n (signing_asked p x.r)
        → (i : ℕ) × (k : ℕ) × AgreesWithDraw v now n p got i k
    go x lawful fits has (by_accept m text target sign cost rest deed secret at known same) =
        let la = lawful_accept limits x.made.s.history x.made.n m text target sign cost rest deed lawful at in
        absurd (no_dash_text (subst IsScripText (ap (λ (y : Signing). y.scrip) same ∙ dash) (text_of_piece text la.piece la.read)))
    go x lawful fits has (by_draw m target sign id key at known same) =
        let h : History = take x.made.n x.made.s.history in
        let d = drawn_of limits x.made.s.history x.made.n m target sign id setup.range.series_most lawful fits at in
        let most = d.amount.within in
        let piece : Scrip = first_hand h d.order.amount id in
        let held : Held = own_held h piece in
        let target_is : target ≡ p.target = ap (λ (y : Signing). y.target) same in
        let its_key : order_key h (order_of target) ≡ Some (unwrap_or (key_in h d.order.account) []) = ap (order_key h) d.asks ∙ d.key in
        let key_is : unwrap_or (key_in h d.order.account) [] ≡ p.secret = same_Some (unwrap_or (key_in h d.order.account) []) p.secret (sym its_key ∙ known ∙ ap some (ap (λ (y : Signing). y.secret) same)) in
        let sign_is : sign ≡ signature_of p =
        d.signed ∙ ap (request_signature (codes "-") target) key_is ∙ ap (λ (t : List ℕ). request_signature (codes "-") t p.secret) target_is ∙ ap (λ (s : List ℕ). request_signature s p.target p.secret) (sym dash) in
        let cost : order_amount (order_of target) ≡ d.order.amount = ap order_amount d.asks in
        let says = same_line m (contents_after h (Draw m target sign id)) (order_amount (order_of target)) None p x.r (omega (arith, cost, most)) x.status x.unrefused x.checked tt has (ap (λ (y : Signing). y.text) same) in
        let no_change : change_came (texts_came (take n now)) x.r.change ≡ None = ap (change_came (texts_came (take n now))) says.change_is in
        let brought : contents_after h (Draw m target sign id) ≡ held_contents held = ap (λ (o : Option Order). contents_if (option_map (own_held h) (drawn_piece h id o))) d.asks in
        let line : x.r.contents ≡ piece_line held = sym says.contents_is ∙ ap (λ (c : Contents). c.bytes) brought in
        let read : contents_came p.ask x.r.contents ≡ Some held = draw_asks p.ask p.scrip x.r.contents none has ∙ ap one_line line ∙ line_read_back held piece (own_certificate h piece) d.text d.secret in
        let came : if_new (texts_came (take n now)) (Some held) ≡ got =
        ap (if_new (texts_came (take n now))) (sym read) ∙ ap (λ (o : Option (List ℕ)). got_came (texts_came (take n now)) o p.ask x.r.contents) (sym no_change) ∙ x.piece in
        let drawn_is : drawn_held h id p.target ≡ Some held = ap (drawn_held h id) (sym target_is) ∙ ap (λ (o : Option Order). option_map (own_held h) (drawn_piece h id o)) d.asks in (
          x.made.i,
          x.made.n,
          record {
            is = record { s = x.made.s; moment = m; id = id; house = x.made.house; entry = at ∙ ap (λ (t : List ℕ). draws m id t sign) target_is ∙ ap (draws m id p.target) sign_is };
            held = held;
            given = drawn_is;
            drawn = came_drawn now n held got came;
          },
        )
      where
        some : List ℕ → Option (List ℕ)
        some s = Some s
