-- A settlement is in the ranges of its entry, so that it has a payload.
use Rattle.std.proofs.Common.{◌≡◌, ℕ, zero, suc, ◌<◌, ◌^◌, Bool, true, false, cond, ◌&&◌, List, [], ◌∷◌, ◌++◌, Option, Some, None, Result, Ok, Err, option_map, unwrap_or, bytes_eq, refl, sym, ap, subst, ◌∙◌, arith, ◌⊎◌, inl, inr}
use Rattle.std.specs.Prelude.{◌==◌, not, nat_lt, codes, IfSome, IsSome, is_ok, option_and_then, option_to_list}
use Rattle.std.specs.Result.{result_ok}
use Rattle.mc_base.specs.declared.amount.TheConstants.Amount.{MOST}
use Rattle.mc_fields.specs.Reading.{Read, field_of, number_machine, number_at}
use Rattle.mc_fields.proofs.NumberField.{number_whole, number_reads}
use Rattle.scrip_form.specs.Scrip.{Scrip, IsScripText}
use Rattle.scrip_form.specs.Reading.{scrip_of, is_scrip}
use Rattle.scrip_form.proofs.TextTests.{scrip_decides}
use Rattle.mc_requests.specs.declared.refusal.Refusal.TheVariants.{BadReply, Unproved}
use Rattle.mc_requests.specs.Errands.{Errand, buy, pay_in, draw, errand_of}
use Rattle.mc_records.specs.Entry.{Held, Entry, Pend, Done, Refused, IsMoment, IsLong, HeldFits, Fits}
use Rattle.piece_lines.specs.declared.rule.PieceRule.TheVariants.{Any}
use Rattle.piece_lines.specs.Rules.{passes}
use Rattle.piece_lines.specs.PieceLines.{input_lines}
use Rattle.piece_lines.proofs.InputLaws.{are_pieces_read}
use Rattle.ledger_model.specs.Histories.{History}
use Rattle.ledger_model.specs.Pieces.{piece_of}
use Rattle.millicent_http.specs.Decimals.{decimal_of}
use Rattle.wallet_model.specs.Requests.{Pending, pending_of, pending_in}
use Rattle.wallet_model.specs.Holdings.{texts_came, has_held}
use Rattle.wallet_model.specs.Follows.{is_wallet, is_of_vendor, asks_rightly, wallet_allows, WalletFollows, IsWalletBook}
use Rattle.wallet_model.specs.Newness.{is_new}
use Rattle.millicent_http.specs.Received.{Received}
use Rattle.wallet_model.specs.Settling.{price_of, is_change, is_paid_by, sole, one_line, brings_drawn, brings_asked, fits_at, fits_request, is_proved, check_of, number_before, refusal_number, change_came, if_new, contents_came, got_came, settlement}
use Rattle.wallet_model.specs.Laws.{HasItsPiece}
use Rattle.wallet_model.proofs.BookLaws.{walked, all_of_book}
use Rattle.wallet_model.proofs.KeptLaws.{both_left, both_right}

-- ---- numbers

number_range : (bytes : List ℕ) (n : ℕ) → decimal_of MOST bytes ≡ Some n → n < 2 ^ 64
number_range bytes n is = go (bytes_eq bytes (codes "0")) is
  where
    go : (b : Bool) → cond b (Some 0) (field_of (number_machine MOST 0) 0 bytes) ≡ Some n → n < 2 ^ 64
    go true e = let z : 0 ≡ n = cc in omega (arith, z)
    go false e = let w = number_whole MOST n bytes (omega arith) e in omega (arith, w.0.within)

number_short : (r : Read ℕ) → ((n : ℕ) (rest : List ℕ) → r ≡ Ok (n, rest) → n < 2 ^ 16) → unwrap_or (option_map (λ x. x.0) (result_ok r)) 0 < 2 ^ 16
number_short (Ok (n, rest)) short = short n rest refl
number_short (Err left) short = omega arith

refusal_range : (text : List ℕ) → number_before text < 2 ^ 16
refusal_range text = number_short (number_at 0xffff 32 text) (λ n rest is. let s = (number_reads 0xffff 32 refl (omega arith) (omega arith)).sound text n rest is in omega (arith, s.1.within))

refused_range : (refusal : Option (List ℕ)) → refusal_number refusal < 2 ^ 16
refused_range None = omega arith
refused_range (Some text) = refusal_range text

-- ---- texts

-- a text that is read as a piece is a scrip text
pub text_of_piece : (text : List ℕ) (p : Scrip) → piece_of text ≡ Some p → IsScripText text
unfolding is_scrip
text_of_piece text p is = (scrip_decides text).0 (go (scrip_of text) is)
  where
    go : (r : Result (Scrip × List ℕ) ℕ) → option_map (λ x. x.0) (result_ok r) ≡ Some p → is_ok r ≡ true
    go (Ok x) e = refl
    go (Err place) e = absurd cc

-- change that is a piece's is a scrip text
change_text : (paid : Scrip) (price : ℕ) (text : List ℕ) (o : Option Scrip) → piece_of text ≡ o → is_change paid price o ≡ true → IsScripText text
change_text paid price text (Some p) is fits = text_of_piece text p is
change_text paid price text None is fits = absurd cc

paid_text : (paid : Scrip) (price : ℕ) (text : List ℕ) → is_paid_by (Some paid) price text ≡ true → bytes_eq text (codes "-") ≡ false → IsScripText text
paid_text paid price text fits no_dash = go (price == paid.value) fits
  where
    go : (b : Bool) → cond b (bytes_eq text (codes "-")) (nat_lt price paid.value && is_change paid price (piece_of text)) ≡ true → IsScripText text
    go true e = absurd (let both : true ≡ false = sym e ∙ no_dash in cc)
    go false e = change_text paid price text (piece_of text) refl (both_right (nat_lt price paid.value) _ e)

drawn_dash : (peer : List ℕ) (o : Option Errand) (price : ℕ) (change contents : List ℕ) → brings_drawn peer o price change contents ≡ true → bytes_eq change (codes "-") ≡ true
drawn_dash peer (Some (draw account order amount)) price change contents is = both_left (bytes_eq change (codes "-")) _ is
drawn_dash peer (Some (buy vendor amount)) price change contents is = absurd cc
drawn_dash peer (Some (pay_in account)) price change contents is = absurd cc
drawn_dash peer None price change contents is = absurd cc

paid_by_text : (o : Option Scrip) (price : ℕ) (text : List ℕ) → IsSome o → is_paid_by o price text ≡ true → bytes_eq text (codes "-") ≡ false → IsScripText text
paid_by_text (Some paid) price text some fits no_dash = paid_text paid price text fits no_dash
paid_by_text None price text some fits no_dash = absurd cc

-- the change of a reply that settles a request is a scrip text, or `-`
pub settles_text : (p : Pending) (r : Received) (ask price : ℕ) (scrip : Option (List ℕ)) → HasItsPiece ask scrip → is_paid_by (option_and_then piece_of scrip) price r.change ≡ true
    → brings_asked p ask price r ≡ true → bytes_eq r.change (codes "-") ≡ false → IsScripText r.change
settles_text p r zero price (Some text) has paid brings no_dash = paid_by_text (piece_of text) price r.change has paid no_dash
settles_text p r zero price None has paid brings no_dash = absurd has
settles_text p r (suc zero) price (Some text) has paid brings no_dash = paid_by_text (piece_of text) price r.change has paid no_dash
settles_text p r (suc zero) price None has paid brings no_dash = absurd has
settles_text p r (suc (suc ask)) price scrip has paid brings no_dash =
    absurd (let both : true ≡ false = sym (drawn_dash p.peer (errand_of p.target) price r.change r.contents brings) ∙ no_dash in cc)

change_fits : (texts : List (List ℕ)) (text : List ℕ) → (bytes_eq text (codes "-") ≡ false → IsScripText text) → IfSome (change_came texts text) IsScripText
change_fits texts text is = go (bytes_eq text (codes "-")) (is_new texts text) refl
  where
    go : (a b : Bool) → bytes_eq text (codes "-") ≡ a → IfSome (cond a None (cond b (Some text) None)) IsScripText
    go true b e = tt
    go false true e = is e
    go false false e = tt

-- ---- the piece in the contents

line_fits : (contents : List ℕ) (o : Option Held) → one_line contents ≡ o → IfSome o HeldFits
line_fits contents o is = go (input_lines (passes Any) contents) refl
  where
    go : (r : Result (List Held) ℕ) → input_lines (passes Any) contents ≡ r → IfSome o HeldFits
    go (Ok []) read = let none : o ≡ None = sym is ∙ ap sole read in subst (λ (x : Option Held). IfSome x HeldFits) (sym none) tt
    go (Ok (p ∷ [])) read =
        let some : o ≡ Some p = sym is ∙ ap sole read in
        subst (λ (x : Option Held). IfSome x HeldFits) (sym some) ((are_pieces_read (passes Any) contents (p ∷ []) read).held.0)
    go (Ok (p ∷ q ∷ ps)) read = let none : o ≡ None = sym is ∙ ap sole read in subst (λ (x : Option Held). IfSome x HeldFits) (sym none) tt
    go (Err line) read = let none : o ≡ None = sym is ∙ ap sole read in subst (λ (x : Option Held). IfSome x HeldFits) (sym none) tt

new_fits : (texts : List (List ℕ)) (o : Option Held) → IfSome o HeldFits → IfSome (if_new texts o) HeldFits
new_fits texts None fits = tt
new_fits texts (Some p) fits = go (is_new texts p.text)
  where
    go : (b : Bool) → IfSome (cond b (Some p) None) HeldFits
    go true = fits
    go false = tt

contents_fit : (ask : ℕ) (contents : List ℕ) → IfSome (contents_came ask contents) HeldFits
contents_fit zero contents = tt
contents_fit (suc ask) contents = line_fits contents (one_line contents) refl

-- ---- the settlement

may_fit : {A : Type 0} (x y : A) (a b : Bool) → cond (true && not a) (Some x) (cond (not b) (Some y) None) ≡ None → a ≡ true
may_fit x y true b e = refl
may_fit x y false b e = absurd cc

pub settlement_fits : (h : History) (t n : ℕ) (p : Pending) (r : Received) → IsMoment t → IsLong n → HasItsPiece p.ask p.scrip → check_of p r ≡ None → Fits (settlement h t n p r)
unfolding settlement check_of
settlement_fits h t n p r moment number has checked = go (r.status == 200) checked
  where
    done : (o : Option ℕ) → price_of r ≡ o → fits_at p r o ≡ true
        → Fits (Done t n (unwrap_or (price_of r) 0) (change_came (texts_came h) r.change) (got_came (texts_came h) (change_came (texts_came h) r.change) p.ask r.contents))
    done None is e = absurd cc
    done (Some price) is e =
        let paid = both_left (is_paid_by (option_and_then piece_of p.scrip) price r.change) (brings_asked p p.ask price r) e in
        let brings = both_right (is_paid_by (option_and_then piece_of p.scrip) price r.change) (brings_asked p p.ask price r) e in
        let eq : unwrap_or (price_of r) 0 ≡ price = ap (λ (x : Option ℕ). unwrap_or x 0) is in
        record {
          moment = moment;
          number = number;
          price = omega (arith, eq, number_range r.price price is);
          change = change_fits (texts_came h) r.change (settles_text p r p.ask price p.scrip has paid brings);
          got = new_fits (option_to_list (change_came (texts_came h) r.change) ++ texts_came h) (contents_came p.ask r.contents) (contents_fit p.ask r.contents);
        }

    go : (b : Bool) → cond (b && not (fits_request p r)) (Some BadReply) (cond (not (is_proved p r)) (Some Unproved) None) ≡ None
        → Fits (cond b (Done t n (unwrap_or (price_of r) 0) (change_came (texts_came h) r.change) (got_came (texts_came h) (change_came (texts_came h) r.change) p.ask r.contents)) (Refused t n (refusal_number r.refusal)))
    go false e = record { moment = moment; number = number; refusal = refused_range r.refusal }
    go true e = done (price_of r) refl (may_fit BadReply Unproved (fits_request p r) (is_proved p r) e)

-- ---- requests of a lawful book

vendors_piece : (vendor text : List ℕ) → is_of_vendor vendor text ≡ true → IsSome (piece_of text)
vendors_piece vendor text is = go (piece_of text) is
  where
    go : (o : Option Scrip) → unwrap_or (option_map (λ p. bytes_eq p.vendor vendor) o) false ≡ true → IsSome o
    go (Some p) e = refl
    go None e = absurd cc

asks_have : (h : History) (ask : ℕ) (peer target : List ℕ) (scrip : Option (List ℕ)) → asks_rightly h ask peer target scrip ≡ true → HasItsPiece ask scrip
asks_have h zero peer target (Some text) rightly = vendors_piece peer text (both_right (has_held h text) _ rightly)
asks_have h zero peer target None rightly = absurd cc
asks_have h (suc zero) peer target (Some text) rightly = vendors_piece peer text (both_left (is_of_vendor peer text) _ (both_right (has_held h text) _ rightly))
asks_have h (suc zero) peer target None rightly = absurd cc
asks_have h (suc (suc ask)) peer target scrip rightly = tt

pending_more : (h : History) (e : Entry) (n : ℕ) → (pending_in (h ++ e ∷ []) n ≡ pending_in h n) ⊎ (pending_in (h ++ e ∷ []) n ≡ pending_of e)
pending_more [] e zero = inr refl
pending_more [] e (suc n) = inl refl
pending_more (x ∷ xs) e zero = inl refl
pending_more (x ∷ xs) e (suc n) = pending_more xs e n

HavePieces : History → Type 0
HavePieces h = (n : ℕ) (p : Pending) → pending_in h n ≡ Some p → HasItsPiece p.ask p.scrip

entry_has : (h : History) (e : Entry) (p : Pending) → wallet_allows h e ≡ true → pending_of e ≡ Some p → HasItsPiece p.ask p.scrip
entry_has h (Pend m ask peer target scrip secret) p allowed is =
    let request : Pending = record { ask = ask; peer = peer; target = target; scrip = scrip; secret = secret } in
    let same : request ≡ p = cc in
    subst (λ (q : Pending). HasItsPiece q.ask q.scrip) same (asks_have h ask peer target scrip (both_right (is_wallet h) _ allowed))
entry_has h e p allowed is = absurd cc

have_step : (h : History) (e : Entry) → HavePieces h → WalletFollows h e → HavePieces (h ++ e ∷ [])
unfolding HavePieces
have_step h e before follows n p is = elim (pending_more h e n) [
  | inl old ↦ before n p (sym old ∙ is)
  | inr new ↦ entry_has h e p follows.allowed (sym new ∙ is)
]

have_none : HavePieces []
unfolding HavePieces
have_none n p is = absurd cc

pub requests_have : (h : History) (n : ℕ) (p : Pending) → IsWalletBook h → pending_in h n ≡ Some p → HasItsPiece p.ask p.scrip
unfolding HavePieces
requests_have h n p book is = walked HavePieces have_step [] h have_none (all_of_book h book) n p is
