-- An entry that an answer takes has a payload.
use Rattle.std.proofs.Common.{◌≡◌, ℕ, ◌<◌, ◌≤◌, ◌^◌, Bool, true, false, List, [], ◌∷◌, ◌++◌, Option, Some, None, Result, Ok, Err, refl, sym, ap, subst, ◌∙◌, arith, option_map, ltb, find}
use Rattle.std.specs.Prelude.{◌/◌, IfSome, codes}
use Rattle.std.specs.List.{AllByRecursion, cons_option}
use Rattle.std.specs.Result.{result_ok}
use Rattle.std.proofs.lemmas.Nat.{div_below}
use Rattle.std.proofs.lemmas.Option.{same_Some, option_and_then_some}
use Rattle.scrip_certs.proofs.DigestLaws.{length-digest}
use Rattle.scrip_form.specs.Texts.{IsTarget}
use Rattle.scrip_form.specs.Issuing.{Issuing, series_at}
use Rattle.scrip_form.specs.Scrip.{Scrip, IsPiece, text_version}
use Rattle.scrip_form.specs.Reading.{scrip_of}
use Rattle.scrip_certs.specs.Digests.{line, request_text, request_signature}
use Rattle.mc_requests.specs.declared.limits.Limits.{Limits}
use Rattle.mc_requests.specs.Requests.{Asked}
use Rattle.mc_records.specs.Entry.{Held, Deed, goods_deed, sale, credit, DeedFits, Entry, Accept, Draw, Licence, IsKey, IsLong, AreTerms, Fits}
use Rattle.ledger_model.specs.Histories.{History}
use Rattle.ledger_model.specs.Houses.{own_series}
use Rattle.ledger_model.specs.Pieces.{piece_of, own_count}
use Rattle.ledger_model.specs.Stock.{is_licence_of, licence_terms, licence_in, held_piece, held_pieces, stock_in, stock_pieces, is_for_sale}
use Rattle.ledger_model.specs.Stages.{needed}
use Rattle.ledger_model.specs.Answer.{next_own, Answer, Take, answer}
use Rattle.ledger_model.specs.Taken.{IsSupplied}
use Rattle.ledger_model.proofs.ListLaws.{found_holds}
use Rattle.ledger_model.proofs.TableLaws.{TakenBy, by_scrip, by_draw, taken_by, Through, through, draw_through}
use Rattle.ledger_model.proofs.AcceptLaws.{offer_below}
use Rattle.ledger_model.proofs.SerialLaws.{needed_next, next_is}
use Rattle.ledger_model.proofs.TakenLaws.{taken_sale, taken_credit}
use Rattle.audit_model.proofs.OwnIssuer.{own_series_below}
use Rattle.world_model.proofs.Accepted.{text_of, piece_ranges}

-- ---- signatures

pub sign_key : (text target secret : List ℕ) → IsKey (request_signature text target secret)
unfolding request_signature
sign_key text target secret = length-digest (text_version text) (line text ++ line (request_text target) ++ secret)

sign_fits : (q sign : Option (List ℕ)) (right : List ℕ) → IsKey right → option_map (λ _. right) q ≡ sign → IfSome sign IsKey
sign_fits q sign right key is = subst (λ (o : Option (List ℕ)). IfSome o IsKey) is (go q)
  where
    go : (o : Option (List ℕ)) → IfSome (option_map (λ _. right) o) IsKey
    go None = tt
    go (Some text) = key

-- ---- identities

own_id : (h : History) (t : ℕ) (limits : Limits) (id : ℕ) → AllByRecursion Fits h → limits.series ≤ 2 ^ 32 → t < 2 ^ 35 → next_own h t limits ≡ Ok id → id < 2 ^ 64
own_id h t limits id all small below is =
    let next = next_is limits.series (own_series h t) (own_count h (own_series h t)) id is in
    let series = own_series_below h t all below in
    let least = next.0 in
    let at = next.1 in
    omega (arith, series, least, at, small)

change_fits : (h : History) (t : ℕ) (limits : Limits) (b : Bool) (change : Option ℕ) → AllByRecursion Fits h → limits.series ≤ 2 ^ 32 → t < 2 ^ 35 → needed b (next_own h t limits) ≡ Ok change → IfSome change IsLong
change_fits h t limits b None all small below is = tt
change_fits h t limits b (Some id) all small below is = own_id h t limits id all small below (needed_next b (next_own h t limits) id is)

-- ---- licences

entry_terms : (e : Entry) (terms : Issuing) → Fits e → licence_terms e ≡ Some terms → AreTerms 1 255 terms
entry_terms (Licence m vendor t) terms fits is = subst (AreTerms 1 255) (same_Some t terms is) fits.terms
entry_terms e terms fits is = absurd cc

pub licence_fits : (h : History) (vendor : List ℕ) (terms : Issuing) → AllByRecursion Fits h → licence_in h vendor ≡ Some terms → AreTerms 1 255 terms
licence_fits h vendor terms all is =
    option_and_then_some licence_terms (find (is_licence_of vendor) h) terms is (λ e at of. entry_terms e terms (found_holds Fits (is_licence_of vendor) h e all at) of)

series_below : (t : Issuing) (m : ℕ) → AreTerms 1 255 t → m < 2 ^ 35 → series_at t m < 2 ^ 32
series_below t m terms below =
    let least = terms.period.least in
    let most = terms.issuer.1 in
    let part : m / t.period < 2 ^ 24 = div_below m t.period (2 ^ 24) (omega (arith, least)) (omega (arith, least, below)) in
    omega (arith, most, part)

-- ---- stock

pub piece_fits : (text : List ℕ) (p : Scrip) → piece_of text ≡ Some p → IsPiece p
piece_fits text p is = go (scrip_of text) refl is
  where
    go : (r : Result (Scrip × List ℕ) ℕ) → scrip_of text ≡ r → option_map (λ x. x.0) (result_ok r) ≡ Some p → IsPiece p
    go (Ok x) read e = subst IsPiece (same_Some x.0 p e) (piece_ranges text x.0 x.1 read)
    go (Err place) read e = absurd cc

pieces_are : (helds : List Held) → AllByRecursion IsPiece (held_pieces helds)
pieces_are [] = tt
pieces_are (x ∷ xs) = go (held_piece x) refl (pieces_are xs)
  where
    go : (o : Option Scrip) → held_piece x ≡ o → AllByRecursion IsPiece (held_pieces xs) → AllByRecursion IsPiece (cons_option o (held_pieces xs))
    go None is rest = rest
    go (Some p) is rest = (piece_fits x.text p is, rest)

supplied_id : (most : ℕ) (h : History) (t : ℕ) (vendor : List ℕ) (value : ℕ) (stock : Bool) (id : ℕ) → AllByRecursion Fits h → most ≤ 2 ^ 32 → t < 2 ^ 35 → IsSupplied most h t vendor value stock id → id < 2 ^ 64
supplied_id most h t vendor value false id all small below x =
    let series = series_below x.terms t (licence_fits h vendor x.terms all x.licence) below in
    let room = x.room in
    let at = x.next in
    omega (arith, series, room, at, small)
supplied_id most h t vendor value true id all small below x =
    let p = found_holds IsPiece (is_for_sale h t vendor value) (stock_pieces h vendor) x.piece (pieces_are (stock_in h vendor)) x.first in
    let range = p.id in
    let at = x.is in
    omega (arith, range, at)

-- ---- deeds

deed_fits : (h : History) (t : ℕ) (limits : Limits) (q : Asked) (m : ℕ) (text target : List ℕ) (sign : Option (List ℕ)) (price : ℕ) (change : Option ℕ) (deed : Deed) → AllByRecursion Fits h → limits.series ≤ 2 ^ 32 → t < 2 ^ 35
    → answer h t limits q ≡ Take (Accept m text target sign price change deed) → DeedFits deed
deed_fits h t limits q m text target sign price change goods_deed all small below takes = tt
deed_fits h t limits q m text target sign price change (sale stock id) all small below takes =
    let x = taken_sale h t limits q m text target sign price change stock id takes in
    supplied_id limits.series h t x.vendor x.value stock id all small below x.supplied
deed_fits h t limits q m text target sign price change (credit after) all small below takes =
    let x = taken_credit h t limits q m text target sign price change after takes in
    let most = x.fits in
    omega (arith, most)

-- ---- the entry

accept_fits : (h : History) (t : ℕ) (limits : Limits) (q : Asked) (e : Entry) → AllByRecursion Fits h → limits.series ≤ 2 ^ 32 → t < 2 ^ 35 → IsTarget q.target → answer h t limits q ≡ Take e → Through h t limits q e → Fits e
accept_fits h t limits q e all small below target takes x =
    let price_below = offer_below h t limits q.target x.scrip.piece.value x.offered x.is_offered in
    let most = (piece_ranges x.scrip.text x.scrip.piece x.scrip.cert x.is_scrip).most in
    let made : Entry = Accept t x.scrip.text q.target x.sign x.offered.price x.change x.offered.deed in
    let fits : Fits made = record {
      moment = below;
      scrip = text_of x.scrip.text x.scrip.piece x.scrip.cert x.is_scrip;
      target = target;
      sign = sign_fits q.sign x.sign (request_signature x.scrip.text q.target x.secret) (sign_key x.scrip.text q.target x.secret) x.is_spendable.sign_is;
      price = omega (arith, price_below, most);
      change = change_fits h t limits (ltb x.offered.price x.scrip.piece.value) x.change all small below x.is_change;
      deed = deed_fits h t limits q t x.scrip.text q.target x.sign x.offered.price x.change x.offered.deed all small below (takes ∙ ap taken (sym x.is));
    } in
    subst Fits x.is fits
  where
    taken : Entry → Answer
    taken y = Take y

pub taken_has_payload : (h : History) (t : ℕ) (limits : Limits) (q : Asked) (e : Entry) → AllByRecursion Fits h → limits.series ≤ 2 ^ 32 → t < 2 ^ 35 → IsTarget q.target → answer h t limits q ≡ Take e → Fits e
taken_has_payload h t limits q e all small below target takes = go (taken_by h t limits q e takes)
  where
    go : TakenBy h t limits q e → Fits e
    go (by_scrip none ran) = accept_fits h t limits q e all small below target takes (through h t limits q e ran)
    go (by_draw o asks ran) =
        let x = draw_through h t limits q o e ran in
        let made : Entry = Draw t q.target (request_signature (codes "-") q.target x.key) x.id in
        let fits : Fits made = record { moment = below; target = target; sign = sign_key (codes "-") q.target x.key; drawn = own_id h t limits x.id all small below x.is_next } in
        subst Fits x.is fits
