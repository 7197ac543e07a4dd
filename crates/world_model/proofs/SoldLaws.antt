-- What a sale and a draw bring: the line of a piece of the vendor and of the value that were asked for.
use Rattle.std.proofs.Common.{◌≡◌, ℕ, zero, suc, ◌+◌, ◌*◌, ◌<◌, ◌≤◌, ◌^◌, Bool, true, false, ◌&&◌, ◌||◌, cond, List, [], ◌∷◌, ◌++◌, length, take, Option, Some, None, refl, sym, ap, subst, ◌∙◌, arith, slice_get, option_map, unwrap_or, find, bytes_eq}
use Rattle.std.specs.Prelude.{◌==◌, option_and_then, IsTrue, All}
use Rattle.std.specs.List.{AllByRecursion, list_any, cons_option}
use Rattle.std.proofs.lemmas.Bool.{eq-eqb, eqb-true}
use Rattle.std.proofs.lemmas.List.{length-append}
use Rattle.std.proofs.lemmas.List.Elements.{recursion_from_All}
use Rattle.std.proofs.lemmas.Option.{same_Some}
use Rattle.std.proofs.lemmas.Slice.Eq.{bytes_eq-Decides}
use Rattle.std.proofs.Math.Nat.{mul-le-mul_right}
use Rattle.std.specs.Int.{w64, to_be_bytes}
use Rattle.hex.specs.Hex.{encode_with, encode_lower}
use Rattle.scrip_form.specs.Identities.{epoch_of, series_of}
use Rattle.scrip_form.specs.Issuing.{Issuing, HasPeriod, selected, series_end}
use Rattle.scrip_form.specs.Texts.{IsName}
use Rattle.scrip_form.specs.Scrip.{Scrip, IsCert, IsTextOf, scrip_body, text_version}
use Rattle.scrip_form.proofs.TextTests.{scrip_is_short}
use Rattle.scrip_certs.specs.Digests.{certificate, customer_secret}
use Rattle.mc_fields.specs.Texts.{IsNumber}
use Rattle.mc_base.specs.declared.amount.TheConstants.Amount.{MOST}
use Rattle.mc_requests.specs.declared.limits.Limits.{Limits}
use Rattle.mc_records.specs.declared.ranges.TheConstants.{MOST_CONTENTS}
use Rattle.mc_requests.specs.Errands as errands
use Rattle.mc_requests.specs.Errands.{Errand, errand_of}
use Rattle.mc_requests.proofs.ErrandLaws.{errand_told}
use Rattle.mc_records.specs.PieceLine.{piece_line}
use Rattle.mc_records.specs.Entry.{Held, HeldFits, sale, Entry, Accept, Stock, Fits}
use Rattle.ledger_model.specs.Histories.{History}
use Rattle.ledger_model.specs.Houses.{upgrades_of, version}
use Rattle.ledger_model.specs.Pieces.{piece_of}
use Rattle.ledger_model.specs.Stock.{licence_in, stock_of, stock_in, held_piece, held_pieces, stock_pieces, may_be_stock, is_for_sale, for_sale, sale_at, licensed_piece, has_id, licensed_held, sold_held}
use Rattle.ledger_model.specs.Lawful.{unbounded, request_of, IsLawful}
use Rattle.ledger_model.specs.Laws.{AreDistinct}
use Rattle.ledger_model.specs.Taken.{IsSupplied}
use Rattle.ledger_model.specs.Answer.{answer}
use Rattle.ledger_model.specs.Replies.{Contents, held_contents, contents_if, sale_brought}
use Rattle.ledger_model.proofs.ListLaws.{all_append, found_holds, found_passes}
use Rattle.ledger_model.proofs.StockLaws.{stock_stands_once, stock_fits}
use Rattle.ledger_model.proofs.TakenLaws.{taken_sale}
use Rattle.wallet_model.specs.Settling.{one_line, is_piece_of}
use Rattle.wallet_model.proofs.KeptLaws.{both_left}
use Rattle.world_model.specs.Worlds.{HasBytes}
use Rattle.world_model.proofs.Lists.{all_get}
use Rattle.world_model.proofs.Accepted.{may_at}
use Rattle.world_model.proofs.Payloads.{licence_fits}
use Rattle.world_model.proofs.Repeats.{nothing_taken}
use Rattle.world_model.proofs.OwnPieces.{cert_below, in_a_version, read_back}
use Rattle.world_model.proofs.DrawLaws.{no_props, front_lawful, all_front, line_read_back}

-- ---- a piece with its line

-- contents are the line of a piece of this vendor and value
pub record IsLineOf (contents : Contents) (vendor : List ℕ) (value : ℕ) : Type 0 where
  pub held : Held
  pub piece : Scrip
  pub cert : List ℕ
  pub is : contents ≡ held_contents held
  pub text : IsTextOf held.text piece cert
  pub secret : IsCert held.secret
  pub vendor' : piece.vendor ≡ vendor
  pub value' : piece.value ≡ value

pub line_brings : (contents : Contents) (vendor : List ℕ) (value : ℕ) → IsLineOf contents vendor value → is_piece_of vendor value contents.bytes ≡ true
line_brings contents vendor value x =
    let read : one_line contents.bytes ≡ Some x.held = ap (λ (c : Contents). one_line c.bytes) x.is ∙ line_read_back x.held x.piece x.cert x.text x.secret in
    let found : option_and_then (λ (y : Held). piece_of y.text) (one_line contents.bytes) ≡ Some x.piece = ap (λ (o : Option Held). option_and_then (λ y. piece_of y.text) o) read ∙ read_back x.held.text x.piece x.cert x.text in
    let a : bytes_eq x.piece.vendor vendor ≡ true = (bytes_eq-Decides x.piece.vendor vendor).1 x.vendor' in
    let b : (x.piece.value == value) ≡ true = eq-eqb x.piece.value value x.value' in
    ap (λ (o : Option Scrip). unwrap_or (option_map (λ p. bytes_eq p.vendor vendor && p.value == value) o) false) found ∙ (rw (a, b) refl)

pub hex_length : (bytes : List ℕ) → length (encode_lower bytes) ≡ length bytes + length bytes
unfolding encode_with
hex_length [] = omega arith
hex_length (b ∷ bytes) = omega (arith, hex_length bytes)

pub line_few : (contents : Contents) (vendor : List ℕ) (value : ℕ) → IsLineOf contents vendor value → length contents.bytes ≤ MOST_CONTENTS
line_few contents vendor value x =
    let is : length contents.bytes ≡ length (piece_line x.held) = ap (λ (c : Contents). length c.bytes) x.is in
    let text = scrip_is_short x.held.text (x.piece, x.cert, x.text) in
    let digits = hex_length x.held.secret in
    let key = x.secret.0 in
    let long : length (piece_line x.held) ≡ length x.held.text + (1 + (length (encode_lower x.held.secret) + 1)) = simp length-append (omega arith) in
    omega (arith, is, text, digits, key, long)

-- ---- under a licence

end_range : (t : Issuing) (id : ℕ) → HasPeriod t.period t.life → id < 2 ^ 64 → (0 < series_end t (epoch_of id)) × (series_end t (epoch_of id) ≤ 2 ^ 49)
end_range t id period below =
    let least = period.least in
    let most = period.most in
    let short = period.short in
    let epoch : epoch_of id + 1 ≤ 2 ^ 24 = omega (arith, below) in
    let up : (epoch_of id + 1) * t.period ≤ 2 ^ 24 * t.period = mul-le-mul_right t.period epoch in
    let down : 1 * t.period ≤ (epoch_of id + 1) * t.period = mul-le-mul_right t.period (omega arith) in
    (omega (arith, down, least), omega (arith, up, most, short))

licensed_line : (h : History) (vendor : List ℕ) (value id : ℕ) (terms : Issuing) → licence_in h vendor ≡ Some terms → HasPeriod terms.period terms.life → IsName vendor → IsNumber MOST value → id < 2 ^ 64
    → IsLineOf (contents_if (sold_held h (record { vendor = vendor; value = value; stock = false; id = id }))) vendor value
unfolding certificate customer_secret
licensed_line h vendor value id terms licence period name amount below =
    let v : ℕ = version h vendor (series_of id) in
    let piece : Scrip = licensed_piece v terms vendor value id in
    let ends = end_range terms id period below in
    let low = amount.some in
    let high = amount.within in
    record {
      held = licensed_held terms piece;
      piece = piece;
      cert = certificate terms (scrip_body piece) id;
      is = ap (λ (o : Option Issuing). contents_if (option_map (λ t. licensed_held t (licensed_piece (version h vendor (series_of id)) t vendor value id)) o)) licence;
      text = record {
        is_piece = record { version = in_a_version (upgrades_of h vendor) (series_of id); vendor = name; some = low; most = omega (arith, high); id = below; cust = below; ends = ends.0; last = omega (arith, ends.1); props = no_props };
        is_cert = cert_below (text_version (scrip_body piece)) (scrip_body piece ++ selected terms.scrip id);
        spelled = refl;
      };
      secret = cert_below v (to_be_bytes w64 id ++ selected terms.customer id);
      vendor' = refl;
      value' = refl;
    }

-- ---- out of stock

any_of : (test : Scrip → Bool) (ps : List Scrip) (p : Scrip) (k : ℕ) → find test ps ≡ Some p → p.id ≡ k → list_any (λ q. q.id == k) ps ≡ true
any_of test [] p k is at = absurd cc
any_of test (q ∷ qs) p k is at = go (test q) (any_of test qs p k) is
  where
    or_right : (a b : Bool) → b ≡ true → (a || b) ≡ true
    or_right true b e = refl
    or_right false b e = e

    go : (b : Bool) → (find test qs ≡ Some p → p.id ≡ k → list_any (λ r. r.id == k) qs ≡ true) → cond b (Some q) (find test qs) ≡ Some p → ((q.id == k) || list_any (λ r. r.id == k) qs) ≡ true
    go true ih e =
        let same : q ≡ p = same_Some q p e in
        let it : (q.id == k) ≡ true = eq-eqb q.id k (ap (λ (x : Scrip). x.id) same ∙ at) in
        rw it refl
    go false ih e = or_right (q.id == k) _ (ih e at)

record FoundHeld (helds : List Held) (p : Scrip) : Type 0 where
  held : Held
  found : find (has_id p.id) helds ≡ Some held
  piece : piece_of held.text ≡ Some p

found_held : (test : Scrip → Bool) (helds : List Held) (p : Scrip) → AreDistinct (held_pieces helds) → find test (held_pieces helds) ≡ Some p → FoundHeld helds p
found_held test [] p distinct is = absurd cc
found_held test (x ∷ xs) p distinct is = go (held_piece x) refl distinct is (found_held test xs p)
  where
    later : Bool → FoundHeld xs p → (has_id p.id x ≡ false) → FoundHeld (x ∷ xs) p
    later b r off = record { held = r.held; found = ap (λ (c : Bool). cond c (Some x) (find (has_id p.id) xs)) off ∙ r.found; piece = r.piece }

    no_piece : held_piece x ≡ None → has_id p.id x ≡ false
    no_piece none = ap (λ (o : Option Scrip). unwrap_or (option_map (λ q. q.id == p.id) o) false) none

    apart : (q : Scrip) (rest : List Scrip) → list_any (λ r. r.id == q.id) rest ≡ false → find test rest ≡ Some p → (q.id == p.id) ≡ false
    apart q rest none at = by (q.id == p.id) refl
      where
        by : (b : Bool) → (q.id == p.id) ≡ b → b ≡ false
        by false e = refl
        by true e = absurd (let same : p.id ≡ q.id = sym (eqb-true q.id p.id e) in let any = any_of test rest p q.id at same in let both : true ≡ false = sym any ∙ none in cc)

    here : (q : Scrip) → held_piece x ≡ Some q → q ≡ p → FoundHeld (x ∷ xs) p
    here q at same =
        let hit : has_id p.id x ≡ true = ap (λ (o : Option Scrip). unwrap_or (option_map (λ r. r.id == p.id) o) false) at ∙ eq-eqb q.id p.id (ap (λ (r : Scrip). r.id) same) in
        record { held = x; found = ap (λ (c : Bool). cond c (Some x) (find (has_id p.id) xs)) hit; piece = at ∙ ap some same }
      where
        some : Scrip → Option Scrip
        some r = Some r

    go : (o : Option Scrip) → held_piece x ≡ o → AreDistinct (cons_option o (held_pieces xs)) → find test (cons_option o (held_pieces xs)) ≡ Some p → (AreDistinct (held_pieces xs) → find test (held_pieces xs) ≡ Some p → FoundHeld xs p) → FoundHeld (x ∷ xs) p
    go None at distinct is ih = later false (ih distinct is) (no_piece at)
    go (Some q) at distinct is ih = inner (test q) is
      where
        inner : (b : Bool) → cond b (Some q) (find test (held_pieces xs)) ≡ Some p → FoundHeld (x ∷ xs) p
        inner true e = here q at (same_Some q p e)
        inner false e = later false (ih distinct.1 e) (ap (λ (o : Option Scrip). unwrap_or (option_map (λ r. r.id == p.id) o) false) at ∙ apart q (held_pieces xs) distinct.0 e)

-- what is known of the held texts of stock
record IsInStock (x : Held) : Type 0 where
  fits : HeldFits x
  bytes : All (λ b. b < 256) x.secret

both_held : (xs : List Held) → AllByRecursion HeldFits xs → AllByRecursion (λ p. All (λ b. b < 256) p.secret) xs → AllByRecursion IsInStock xs
both_held [] a b = tt
both_held (x ∷ xs) a b = (record { fits = a.0; bytes = b.0 }, both_held xs a.1 b.1)

entry_stock : (vendor : List ℕ) (e : Entry) → Fits e → HasBytes e → AllByRecursion IsInStock (stock_of vendor e)
entry_stock vendor (Stock m v pieces) fits bytes = go (bytes_eq v vendor)
  where
    go : (b : Bool) → AllByRecursion IsInStock (cond b pieces [])
    go true = both_held pieces fits.pieces.held bytes
    go false = tt
entry_stock vendor e fits bytes = tt

all_in_stock : (vendor : List ℕ) (h : History) → AllByRecursion Fits h → AllByRecursion HasBytes h → AllByRecursion IsInStock (stock_in h vendor)
all_in_stock vendor [] fits bytes = tt
all_in_stock vendor (e ∷ es) fits bytes = all_append IsInStock (stock_of vendor e) (stock_in es vendor) (entry_stock vendor e fits.0 bytes.0) (all_in_stock vendor es fits.1 bytes.1)

stock_line : (limits : Limits) (h : History) (t : ℕ) (vendor : List ℕ) (value id : ℕ) (p : Scrip) → IsLawful limits h → AllByRecursion Fits h → AllByRecursion HasBytes h → for_sale h t vendor value ≡ Some p → p.id ≡ id
    → IsLineOf (contents_if (sold_held h (record { vendor = vendor; value = value; stock = true; id = id }))) vendor value
stock_line limits h t vendor value id p lawful fits bytes first is =
    let f = found_held (is_for_sale h t vendor value) (stock_in h vendor) p (stock_stands_once limits h vendor lawful) first in
    let known = found_holds IsInStock (has_id p.id) (stock_in h vendor) f.held (all_in_stock vendor h fits bytes) f.found in
    let text = known.fits.text in
    let same : text.0 ≡ p = same_Some text.0 p (sym (read_back f.held.text text.0 text.1 text.2) ∙ f.piece) in
    let passes = found_passes (is_for_sale h t vendor value) (stock_pieces h vendor) p first in
    let ours = found_holds (λ q. IsTrue (may_be_stock vendor q)) (is_for_sale h t vendor value) (stock_pieces h vendor) p (stock_fits limits h vendor lawful) first in
    record {
      held = f.held;
      piece = p;
      cert = text.1;
      is = ap (λ (n : ℕ). contents_if (find (has_id n) (stock_in h vendor))) (sym is) ∙ ap contents_if f.found;
      text = subst (λ (q : Scrip). IsTextOf f.held.text q text.1) same text.2;
      secret = (known.fits.secret, recursion_from_All (λ b. b < 256) f.held.secret known.bytes);
      vendor' = (bytes_eq-Decides p.vendor vendor).0 (both_left (bytes_eq p.vendor vendor) _ ours);
      value' = eqb-true p.value value (both_left (p.value == value) _ passes);
    }

-- ---- a sale

pub record SoldLine (h : History) (target : List ℕ) (stock : Bool) (id : ℕ) : Type 0 where
  pub vendor : List ℕ
  pub value : ℕ
  pub asks : errand_of target ≡ Some (errands.buy vendor value)
  pub line : IsLineOf (sale_brought h target stock id) vendor value

sold_line : (limits : Limits) (h : History) (m : ℕ) (target vendor : List ℕ) (value : ℕ) (stock : Bool) (id : ℕ) → IsLawful limits h → AllByRecursion Fits h → AllByRecursion HasBytes h → id < 2 ^ 64
    → errand_of target ≡ Some (errands.buy vendor value) → IsSupplied limits.series h m vendor value stock id → IsLineOf (contents_if (sold_held h (record { vendor = vendor; value = value; stock = stock; id = id }))) vendor value
sold_line limits h m target vendor value false id lawful fits bytes below asks x =
    let e = (errand_told target (errands.buy vendor value) asks).0 in
    licensed_line h vendor value id x.terms x.licence (licence_fits h vendor x.terms fits x.licence).period e.0 e.1 below
sold_line limits h m target vendor value true id lawful fits bytes below asks x = stock_line limits h m vendor value id x.piece lawful fits bytes x.first x.is

pub sold_of : (limits : Limits) (h : History) (at m : ℕ) (text target : List ℕ) (sign : Option (List ℕ)) (price : ℕ) (change : Option ℕ) (stock : Bool) (id : ℕ) → IsLawful limits h → AllByRecursion Fits h → AllByRecursion HasBytes h
    → slice_get h at ≡ Some (Accept m text target sign price change (sale stock id)) → SoldLine (take at h) target stock id
unfolding sale_brought
sold_of limits h at m text target sign price change stock id lawful fits bytes is =
    let e : Entry = Accept m text target sign price change (sale stock id) in
    let may = may_at limits h at e lawful is in
    let x = taken_sale (take at h) m (unbounded limits) (request_of text target sign) m text target sign price change stock id may.allowed in
    let some : take at h ≡ [] → ⊥ = λ empty. nothing_taken m (unbounded limits) (request_of text target sign) e (ap (λ (g : History). answer g m (unbounded limits) (request_of text target sign)) (sym empty) ∙ may.allowed) in
    let entry = all_get Fits h at e fits is in
    let line = sold_line limits (take at h) m target x.vendor x.value stock id (front_lawful limits h at some lawful) (all_front h at fits) (all_bytes h at bytes) entry.deed x.asks x.supplied in
    record {
      vendor = x.vendor;
      value = x.value;
      asks = x.asks;
      line = subst (λ (o : Option Errand). IsLineOf (contents_if (option_and_then (sold_held (take at h)) (sale_at stock id o))) x.vendor x.value) (sym x.asks) line;
    }
  where
    all_bytes : (h : History) (n : ℕ) → AllByRecursion HasBytes h → AllByRecursion HasBytes (take n h)
    all_bytes h zero all = tt
    all_bytes [] (suc n) all = tt
    all_bytes (x ∷ xs) (suc n) all = (all.0, all_bytes xs n all.1)
