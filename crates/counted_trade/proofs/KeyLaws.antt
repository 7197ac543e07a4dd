-- Series as keys, and what an entry adds to their sums.
use Rattle.std.proofs.Common.{◌≡◌, ℕ, Result, Ok, Err, option_map, ◌+◌, ◌*◌, ◌/◌, ◌%◌, ◌^◌, ◌<◌, Bool, true, false, cond, ◌&&◌, List, [], ◌∷◌, ◌++◌, length, Option, Some, None, refl, sym, ap, subst, ◌∙◌, arith, eqb, bytes_eq}
use Rattle.std.specs.Prelude.{filter, IfSome}
use Rattle.std.specs.Int.{w32, byte_at, to_be_bytes, from_be_bytes}
use Rattle.std.specs.List.{cons_option}
use Rattle.std.specs.Result.{result_ok}
use Rattle.std.proofs.lemmas.Bool.{eqb-true, eq-eqb}
use Rattle.std.proofs.lemmas.Nat.{from_be_bytes-to_be_bytes_4}
use Rattle.std.proofs.lemmas.Slice.Eq.{bytes_eq-Decides}
use Rattle.std.proofs.lemmas.Option.{same_Some}
use Rattle.std.proofs.lemmas.List.Elements.{filter-append, filter_map-append}
use Rattle.std.proofs.lemmas.List.Sums.{sum_by-append, sum_by-cons}
use Rattle.scrip_form.specs.Identities.{issuer_of, epoch_of, series_of}
use Rattle.scrip_form.specs.Scrip.{Scrip, IsPiece}
use Rattle.scrip_form.specs.Reading.{scrip_of}
use Rattle.scrip_form.specs.Told.{IsTold}
use Rattle.scrip_form.proofs.Laws.{scrip_of_tells}
use Rattle.mc_records.specs.Entry.{Entry, Accept}
use Rattle.ledger_model.specs.Histories.{History}
use Rattle.ledger_model.specs.Pieces.{accepted, accepted_piece}
use Rattle.ledger_model.specs.Sums.{values}
use Rattle.ledger_model.proofs.AccountLaws.{turned}
use Rattle.audit_model.specs.Parts.{part_of}
use Rattle.audit_model.specs.declared.part.Part.{Part}
use Rattle.sum_table.specs.SumTable.{SumTableView, sum_of}
use Rattle.settle_core.specs.Settlement.{is_of_series, redeemed}
use Rattle.settle_core.proofs.CountLaws.{redeemed_small}
use Rattle.counted_trade.specs.Series.{series_key, key_of, RedeemedStand, HasRoomToRedeem}

-- an identity is of a series exactly where their keys are the same
pub same_key : (issuer epoch id : ℕ) → issuer < 2 ^ 8 → epoch < 2 ^ 24 → id < 2 ^ 64 → bytes_eq (series_key issuer epoch) (key_of id) ≡ is_of_series issuer epoch id
same_key issuer epoch id i e fits = go (bytes_eq (series_key issuer epoch) (key_of id)) refl (eqb (issuer_of id) issuer) refl (eqb (epoch_of id) epoch) refl
  where
    Agree : Bool → Type 0
    Agree b = bytes_eq (series_key issuer epoch) (key_of id) ≡ b

    number : series_key issuer epoch ≡ key_of id → issuer * 2 ^ 24 + epoch ≡ id / 2 ^ 32
    number same =
        sym (from_be_bytes-to_be_bytes_4 (issuer * 2 ^ 24 + epoch) (omega (arith, i, e)))
        ∙ ap (from_be_bytes w32) same ∙ from_be_bytes-to_be_bytes_4 (series_of id) (omega (arith, fits))

    equal : (b : Bool) → Agree b → b ≡ true → issuer * 2 ^ 24 + epoch ≡ id / 2 ^ 32
    equal b is t = number ((bytes_eq-Decides (series_key issuer epoch) (key_of id)).0 (is ∙ t))

    go : (b : Bool) → Agree b → (x : Bool) → eqb (issuer_of id) issuer ≡ x → (y : Bool) → eqb (epoch_of id) epoch ≡ y → b ≡ (x && y)
    go true is true xi true ye = refl
    go true is false xi y ye =
        let same = equal true is refl in
        let k : id / 2 ^ 56 ≡ issuer = omega (arith, same, i, e) in
        absurd (clash (eq-eqb (issuer_of id) issuer k) xi)
      where
        clash : eqb (issuer_of id) issuer ≡ true → eqb (issuer_of id) issuer ≡ false → ⊥
        clash t f = absurd cc
    go true is true xi false ye =
        let same = equal true is refl in
        let k : id / 2 ^ 32 % 2 ^ 24 ≡ epoch = omega (arith, same, i, e) in
        absurd (clash (eq-eqb (epoch_of id) epoch k) ye)
      where
        clash : eqb (epoch_of id) epoch ≡ true → eqb (epoch_of id) epoch ≡ false → ⊥
        clash t f = absurd cc
    go false is true xi true ye =
        let a : id / 2 ^ 56 ≡ issuer = eqb-true (issuer_of id) issuer xi in
        let c : id / 2 ^ 32 % 2 ^ 24 ≡ epoch = eqb-true (epoch_of id) epoch ye in
        let n : issuer * 2 ^ 24 + epoch ≡ id / 2 ^ 32 = omega (arith, a, c) in
        absurd (clash ((bytes_eq-Decides (series_key issuer epoch) (key_of id)).1 (ap (to_be_bytes w32) n)) is)
      where
        clash : Agree true → Agree false → ⊥
        clash t f = absurd cc
    go false is false xi y ye = refl
    go false is true xi false ye = refl

-- the number of a series is its parts
pub series_parts : (id : ℕ) → issuer_of id * 2 ^ 24 + epoch_of id ≡ series_of id
series_parts id = omega arith

four : (a b c d x : Bool) → (a && (b && (c && (d && x)))) ≡ ((a && (b && (c && (d && true)))) && x)
four false b c d x = refl
four true false c d x = refl
four true true false d x = refl
four true true true false x = refl
four true true true true x = refl

and_turned : (a b : Bool) → (a && b) ≡ (b && a)
and_turned true true = refl
and_turned true false = refl
and_turned false true = refl
and_turned false false = refl

front_alike : (n m : ℕ) (v w : List ℕ) → bytes_eq (to_be_bytes w32 n ++ v) (to_be_bytes w32 m ++ w) ≡ (bytes_eq (to_be_bytes w32 n) (to_be_bytes w32 m) && bytes_eq v w)
front_alike n m v w = four (eqb (byte_at 3 n) (byte_at 3 m)) (eqb (byte_at 2 n) (byte_at 2 m)) (eqb (byte_at 1 n) (byte_at 1 m)) (eqb (byte_at 0 n) (byte_at 0 m)) (bytes_eq v w)

-- the same of a series with a vendor
pub same_sold_key : (v w : List ℕ) (issuer epoch id : ℕ) → issuer < 2 ^ 8 → epoch < 2 ^ 24 → id < 2 ^ 64
    → bytes_eq (series_key issuer epoch ++ v) (key_of id ++ w) ≡ (bytes_eq w v && is_of_series issuer epoch id)
same_sold_key v w issuer epoch id i e fits =
    front_alike (issuer * 2 ^ 24 + epoch) (series_of id) v w
    ∙ ap (λ (b : Bool). b && bytes_eq v w) (same_key issuer epoch id i e fits)
    ∙ ap (λ (b : Bool). is_of_series issuer epoch id && b) (turned v w)
    ∙ and_turned (is_of_series issuer epoch id) (bytes_eq w v)

-- ---- two series

-- the identity of the first piece of a series
abbrev first_of : ℕ → ℕ → ℕ
first_of j f = j * 2 ^ 56 + f * 2 ^ 32

-- two series are the same exactly where their keys are
pub same_series : (i e j f : ℕ) → i < 2 ^ 8 → e < 2 ^ 24 → j < 2 ^ 8 → f < 2 ^ 24 → bytes_eq (series_key i e) (series_key j f) ≡ (eqb j i && eqb f e)
same_series i e j f a b c d =
    let number : first_of j f / 2 ^ 32 ≡ j * 2 ^ 24 + f = omega arith in
    let issuer : first_of j f / 2 ^ 56 ≡ j = omega (arith, d) in
    let epoch : first_of j f / 2 ^ 32 % 2 ^ 24 ≡ f = omega (arith, number, d) in
    ap (λ (n : ℕ). bytes_eq (series_key i e) (to_be_bytes w32 n)) (sym number)
    ∙ same_key i e (first_of j f) a b (omega (arith, c, d))
    ∙ ap (λ (n : ℕ). eqb n i && eqb (epoch_of (first_of j f)) e) issuer
    ∙ ap (λ (n : ℕ). eqb j i && eqb n e) epoch

-- the same of series with vendors
pub same_sold_series : (v w : List ℕ) (i e j f : ℕ) → i < 2 ^ 8 → e < 2 ^ 24 → j < 2 ^ 8 → f < 2 ^ 24 → bytes_eq (series_key i e ++ v) (series_key j f ++ w) ≡ (bytes_eq w v && (eqb j i && eqb f e))
same_sold_series v w i e j f a b c d =
    front_alike (i * 2 ^ 24 + e) (j * 2 ^ 24 + f) v w
    ∙ ap (λ (x : Bool). x && bytes_eq v w) (same_series i e j f a b c d)
    ∙ ap (λ (x : Bool). (eqb j i && eqb f e) && x) (turned v w)
    ∙ and_turned (eqb j i && eqb f e) (bytes_eq w v)

-- ---- one more entry

pub adds : (h : History) (e : Entry) (issuer epoch : ℕ) (p : Scrip) → accepted_piece e ≡ Some p → redeemed (h ++ e ∷ []) issuer epoch ≡ cond (is_of_series issuer epoch p.id) (redeemed h issuer epoch + p.value) (redeemed h issuer epoch)
adds h e issuer epoch p is = more ∙ go (is_of_series issuer epoch p.id)
  where
    test : Scrip → Bool
    test q = is_of_series issuer epoch q.id

    more : redeemed (h ++ e ∷ []) issuer epoch ≡ redeemed h issuer epoch + values (cond (test p) (p ∷ []) [])
    more =
        ap (λ (ps : List Scrip). values (filter test ps)) (filter_map-append accepted_piece h (e ∷ []))
        ∙ ap values (filter-append test (accepted h) (accepted (e ∷ [])))
        ∙ sum_by-append (λ (q : Scrip). q.value) (filter test (accepted h)) (filter test (accepted (e ∷ [])))
        ∙ ap (λ (o : Option Scrip). redeemed h issuer epoch + values (filter test (cons_option o []))) is

    go : (b : Bool) → redeemed h issuer epoch + values (cond b (p ∷ []) []) ≡ cond b (redeemed h issuer epoch + p.value) (redeemed h issuer epoch)
    go true = omega (arith, sum_by-cons (λ (q : Scrip). q.value) p [])
    go false = omega arith

pub adds_none : (h : History) (e : Entry) (issuer epoch : ℕ) → accepted_piece e ≡ None → redeemed (h ++ e ∷ []) issuer epoch ≡ redeemed h issuer epoch
adds_none h e issuer epoch is =
    let test : Scrip → Bool = λ q. is_of_series issuer epoch q.id in
    let more : redeemed (h ++ e ∷ []) issuer epoch ≡ redeemed h issuer epoch + values [] =
    ap (λ (ps : List Scrip). values (filter test ps)) (filter_map-append accepted_piece h (e ∷ []))
    ∙ ap values (filter-append test (accepted h) (accepted (e ∷ [])))
    ∙ sum_by-append (λ (q : Scrip). q.value) (filter test (accepted h)) (filter test (accepted (e ∷ [])))
    ∙ ap (λ (o : Option Scrip). redeemed h issuer epoch + values (filter test (cons_option o []))) is in
    omega (arith, more)

-- ---- counting

-- an accepted piece is in its ranges
paid_piece : (e : Entry) (p : Scrip) → accepted_piece e ≡ Some p → IsPiece p
paid_piece (Accept m scrip target sign price change deed) p is = go (scrip_of scrip) (scrip_of_tells scrip) is
  where
    go : (r : Result (Scrip × List ℕ) ℕ) → IsTold scrip r → option_map (λ x. x.0) (result_ok r) ≡ Some p → IsPiece p
    go (Err left) told e = absurd cc
    go (Ok x) told e = subst IsPiece (same_Some x.0 p e) told.is_piece
paid_piece e p is = absurd cc

-- what adding to the sum of a key says
abbrev pub Adds : SumTableView → SumTableView → ℕ → Type 0
Adds old new amount = (key : List ℕ) → old.room ≡ Some key → sum_of old key + amount < 2 ^ 128 → (q : List ℕ)
    → sum_of new q ≡ cond (bytes_eq q key) (sum_of old q + amount) (sum_of old q)

pub counted_some : (old new : SumTableView) (h : History) (e : Entry) (part : Part) (number : ℕ) → number < 2 ^ 64 → number ≡ length h → RedeemedStand old h
    → option_map part_of (accepted_piece e) ≡ Some part → HasRoomToRedeem old e → Adds old new part.value → RedeemedStand new (h ++ e ∷ [])
counted_some old new h e part number short long counts is room adding = go (accepted_piece e) refl is room
  where
    go : (o : Option Scrip) → accepted_piece e ≡ o → option_map part_of o ≡ Some part → IfSome o (λ p. old.room ≡ Some (key_of p.id)) → RedeemedStand new (h ++ e ∷ [])
    go None paid s ready = absurd cc
    go (Some p) paid s ready =
        let fits = paid_piece e p paid in
        let i : p.id / 2 ^ 56 < 2 ^ 8 = omega (arith, fits.id) in
        let k : p.id / 2 ^ 32 % 2 ^ 24 < 2 ^ 24 = omega arith in
        let had : sum_of old (key_of p.id) ≡ redeemed h (issuer_of p.id) (epoch_of p.id) =
        ap (λ (n : ℕ). sum_of old (to_be_bytes w32 n)) (sym (series_parts p.id)) ∙ counts.is (issuer_of p.id) (epoch_of p.id) i k in
        let small = redeemed_small h (issuer_of p.id) (epoch_of p.id) in
        let value : p.value ≡ part.value = ap (λ (x : Part). x.value) (same_Some (part_of p) part s) in
        let below : sum_of old (key_of p.id) + part.value < 2 ^ 128 = omega (arith, had, small, value, fits.most, long, short) in
        record {
          is = λ issuer epoch byte three.
              adding (key_of p.id) ready below (series_key issuer epoch)
              ∙ ap (λ (b : Bool). cond b (sum_of old (series_key issuer epoch) + part.value) (sum_of old (series_key issuer epoch))) (same_key issuer epoch p.id byte three fits.id)
              ∙ ap (λ (n : ℕ). cond (is_of_series issuer epoch p.id) (n + part.value) n) (counts.is issuer epoch byte three)
              ∙ ap (λ (n : ℕ). cond (is_of_series issuer epoch p.id) (redeemed h issuer epoch + n) (redeemed h issuer epoch)) (sym value)
              ∙ sym (adds h e issuer epoch p paid);
        }

pub counted_none : (old : SumTableView) (h : History) (e : Entry) → RedeemedStand old h → option_map part_of (accepted_piece e) ≡ None → RedeemedStand old (h ++ e ∷ [])
counted_none old h e counts is = go (accepted_piece e) refl is
  where
    go : (o : Option Scrip) → accepted_piece e ≡ o → option_map part_of o ≡ None → RedeemedStand old (h ++ e ∷ [])
    go (Some p) paid s = absurd cc
    go None paid s = record { is = λ issuer epoch byte three. counts.is issuer epoch byte three ∙ sym (adds_none h e issuer epoch paid) }
