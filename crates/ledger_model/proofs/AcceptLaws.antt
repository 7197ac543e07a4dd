-- What a lawful book has accepted: no identity twice, and values that were paid.
use Rattle.std.proofs.Common.{◌≡◌, ℕ, ◌+◌, ◌<◌, ◌≤◌, Bool, true, false, cond, ◌||◌, List, [], ◌∷◌, ◌++◌, Option, Some, None, Result, Ok, Err, refl, sym, ap, subst, ◌∙◌, append-nil, arith, option_map, ltb, eqb}
use Rattle.std.specs.List.{list_any, cons_option}
use Rattle.std.specs.Result.{result_ok}
use Rattle.std.specs.Prelude.{option_to_list}
use Rattle.std.proofs.lemmas.Bool.{ltb-true, ltb-false}
use Rattle.std.proofs.lemmas.Bool.Decides.{nat_tests}
use Rattle.std.proofs.lemmas.List.Sums.{sum_by-cons}
use Rattle.scrip_form.specs.Scrip.{Scrip}
use Rattle.mc_records.specs.declared.ranges.TheConstants.{MOST_IN_ACCOUNT}
use Rattle.mc_requests.specs.declared.limits.Limits.{Limits}
use Rattle.mc_requests.specs.declared.refusal.Refusal.TheVariants.{TooLittle, NoSuchGoods, NoAccount, AccountFull}
use Rattle.mc_requests.specs.Errands.{Errand, buy, pay_in, draw, errand_of}
use Rattle.mc_records.specs.Entry.{Deed, goods_deed, credit, Entry, Accept, Draw}
use Rattle.ledger_model.specs.Histories.{History}
use Rattle.ledger_model.specs.Houses.{is_vendor, fee}
use Rattle.ledger_model.specs.Goods.{price_in}
use Rattle.ledger_model.specs.Orders.{Order, order_of, order_amount}
use Rattle.ledger_model.specs.Pieces.{piece_of, accepted, accepted_piece, change_piece, change_from, drawn_piece, handed_piece, own_out_from, own_out}
use Rattle.ledger_model.specs.Accounts.{account_in, balance}
use Rattle.ledger_model.specs.Sums.{price_paid, takings, values, amount_drawn, all_drawn}
use Rattle.ledger_model.specs.Lines.{Stop, ◌>>=◌, given, refused_if}
use Rattle.ledger_model.specs.Stages.{Offer, shelf_by, Supply, supplied, sale_by, credit_by, needed}
use Rattle.ledger_model.specs.Answer.{offer, supply_of, errand_offer, broker_offer}
use Rattle.ledger_model.specs.Lawful.{unbounded, request_of, IsAllowed, AllFollow, IsLawful}
use Rattle.ledger_model.specs.Laws.{AreDistinct, worth, IsPaid, ArePaid}
use Rattle.ledger_model.proofs.FollowLaws.{lawful_walk}
use Rattle.ledger_model.proofs.TableLaws.{line_ok, refused_ok, ok_is, Through, accept_answer}

-- ---- an Accept entry that may follow

abbrev pub some : {A : Type 0} → A → Option A
some x = Some x

pub some_is : {A : Type 0} (x y : A) → some x ≡ some y → x ≡ y
some_is x y e = cc

pub accept_through : (limits : Limits) (h : History) (m : ℕ) (scrip target : List ℕ) (sign : Option (List ℕ)) (price : ℕ) (change : Option ℕ) (deed : Deed)
    → IsAllowed limits h (Accept m scrip target sign price change deed)
    → Through h m (unbounded limits) (request_of scrip target sign) (Accept m scrip target sign price change deed)
accept_through limits h m scrip target sign price change deed allowed = accept_answer h m (unbounded limits) (request_of scrip target sign) m scrip target sign price change deed allowed

abbrev pub piece_read : Result (Scrip × List ℕ) ℕ → Option Scrip
piece_read r = option_map (λ x. x.0) (result_ok r)

-- the piece of the text of an entry that ran through
pub read_piece : (limits : Limits) (h : History) (m : ℕ) (scrip target : List ℕ) (sign : Option (List ℕ)) (e : Entry)
    (t : Through h m (unbounded limits) (request_of scrip target sign) e) → piece_of scrip ≡ Some t.scrip.piece
read_piece limits h m scrip target sign e t = ap piece_of (some_is scrip t.scrip.text t.given_scrip) ∙ ap piece_read t.is_scrip

-- ---- no identity is accepted twice

pub or_false : (a b : Bool) → (a || b) ≡ false → (a ≡ false) × (b ≡ false)
or_false true b e = absurd cc
or_false false b e = (refl, e)

any_snoc : (test : Scrip → Bool) (ps : List Scrip) (p : Scrip) → list_any test ps ≡ false → test p ≡ false → list_any test (ps ++ p ∷ []) ≡ false
any_snoc test [] p a b = rw b refl
any_snoc test (x ∷ xs) p a b = let s = or_false (test x) (list_any test xs) a in rw (s.0, any_snoc test xs p s.1 b) refl

pub other_way : (a b : ℕ) → eqb a b ≡ false → eqb b a ≡ false
other_way a b e = grind (arith, nat_tests, e)

pub snoc_distinct : (ps : List Scrip) (p : Scrip) → AreDistinct ps → list_any (λ q. eqb q.id p.id) ps ≡ false → AreDistinct (ps ++ p ∷ [])
snoc_distinct [] p d new = (refl, tt)
snoc_distinct (x ∷ xs) p d new =
    let s = or_false (eqb x.id p.id) (list_any (λ q. eqb q.id p.id) xs) new in
    (any_snoc (λ q. eqb q.id x.id) xs p d.0 (other_way x.id p.id s.0), snoc_distinct xs p d.1 s.1)

pub accepted_snoc : (h : History) (e : Entry) → accepted (h ++ e ∷ []) ≡ accepted h ++ accepted (e ∷ [])
accepted_snoc [] e = refl
accepted_snoc (x ∷ xs) e = go (accepted_piece x) (accepted_snoc xs e)
  where
    go : (o : Option Scrip) → accepted (xs ++ e ∷ []) ≡ accepted xs ++ accepted (e ∷ []) → cons_option o (accepted (xs ++ e ∷ [])) ≡ cons_option o (accepted xs) ++ accepted (e ∷ [])
    go None ih = ih
    go (Some p) ih = ap (λ (ps : List Scrip). p ∷ ps) ih

same_distinct : (h : History) (e : Entry) → accepted (e ∷ []) ≡ [] → AreDistinct (accepted h) → AreDistinct (accepted (h ++ e ∷ []))
same_distinct h e none d = subst (λ (ps : List Scrip). AreDistinct ps) (sym (accepted_snoc h e ∙ ap (λ (ps : List Scrip). accepted h ++ ps) none ∙ append-nil (accepted h))) d

pub step_distinct : (limits : Limits) (h : History) (e : Entry) → IsAllowed limits h e → AreDistinct (accepted h) → AreDistinct (accepted (h ++ e ∷ []))
step_distinct limits h (Accept m scrip target sign price change deed) allowed d =
    let t = accept_through limits h m scrip target sign price change deed allowed in
    let e = Accept m scrip target sign price change deed in
    let one : accepted (e ∷ []) ≡ t.scrip.piece ∷ [] = ap (λ (o : Option Scrip). cons_option o []) (read_piece limits h m scrip target sign _ t) in
    subst (λ (ps : List Scrip). AreDistinct ps) (sym (accepted_snoc h e ∙ ap (λ (ps : List Scrip). accepted h ++ ps) one)) (snoc_distinct (accepted h) t.scrip.piece d t.is_spendable.is_new)
step_distinct limits h e allowed d = same_distinct h e refl d

pub accepted_once : (limits : Limits) (h : History) → IsLawful limits h → AreDistinct (accepted h)
accepted_once limits h lawful =
    lawful_walk (λ g. AreDistinct (accepted g)) limits (λ g e may d. step_distinct limits g e may.allowed d) tt h lawful

-- ---- a piece's value is its price and its change

-- no more than the piece's value is asked at a broker
sold_below : (limit t fee asked value : ℕ) (supply : Supply) (o : Offer) → sale_by limit t fee supply asked value ≡ Ok o → o.price ≤ value
sold_below limit t fee asked value supply o r =
    let stocked = supplied limit t asked supply.licence supply.count supply.known supply.piece in
    let a = line_ok (refused_if (ltb value (asked + fee)) (TooLittle (asked + fee))) (λ _. stocked >>= λ deed. Ok (record { price = asked + fee; deed = deed })) o r in
    let b = line_ok stocked (λ deed. Ok (record { price = asked + fee; deed = deed })) o a.2 in
    let le : asked + fee ≤ value = ltb-false value (asked + fee) (refused_ok _ _ a.0 a.1) in
    let is : asked + fee ≡ o.price = ap (λ (x : Offer). x.price) (ok_is (record { price = asked + fee; deed = b.0 }) o b.2) in
    omega arith

credit_below : (balance : Option ℕ) (value : ℕ) (o : Offer) → credit_by balance value ≡ Ok o → o.price ≤ value
credit_below balance value o r =
    let a = line_ok (given balance NoAccount) (λ b. refused_if (ltb MOST_IN_ACCOUNT (b + value)) (AccountFull b) >>= λ _. Ok (record { price = value; deed = credit (b + value) })) o r in
    let b = line_ok (refused_if (ltb MOST_IN_ACCOUNT (a.0 + value)) (AccountFull a.0)) (λ _. Ok (record { price = value; deed = credit (a.0 + value) })) o a.2 in
    let is : value ≡ o.price = ap (λ (x : Offer). x.price) (ok_is (record { price = value; deed = credit (a.0 + value) }) o b.2) in
    omega arith

broker_offer_below : (h : History) (t : ℕ) (limits : Limits) (target : List ℕ) (value : ℕ) (o : Offer) → broker_offer h t limits target value ≡ Ok o → o.price ≤ value
unfolding broker_offer
broker_offer_below h t limits target value o r = go (errand_of target) r
  where
    go : (e : Option Errand) → errand_offer h t limits value e ≡ Ok o → o.price ≤ value
    go (Some (buy vendor asked)) r = sold_below limits.series t (fee h) asked value (supply_of h t vendor asked) o r
    go (Some (pay_in account)) r = credit_below (option_map (λ _. balance h account) (account_in h account)) value o r
    go (Some (draw account order amount)) r = absurd cc
    go None r = absurd cc

-- nor at any house
pub offer_below : (h : History) (t : ℕ) (limits : Limits) (target : List ℕ) (value : ℕ) (o : Offer) → offer h t limits target value ≡ Ok o → o.price ≤ value
offer_below h t limits target value o e = by_kind (is_vendor h) e
  where
    on_shelf : shelf_by (price_in h target) value ≡ Ok o → o.price ≤ value
    on_shelf r =
        let a = line_ok (given (price_in h target) NoSuchGoods) (λ price. refused_if (ltb value price) (TooLittle price) >>= λ _. Ok (record { price = price; deed = goods_deed })) o r in
        let b = line_ok (refused_if (ltb value a.0) (TooLittle a.0)) (λ _. Ok (record { price = a.0; deed = goods_deed })) o a.2 in
        let le : a.0 ≤ value = ltb-false value a.0 (refused_ok _ _ b.0 b.1) in
        let is : a.0 ≡ o.price = ap (λ (x : Offer). x.price) (ok_is _ o b.2) in
        omega arith

    by_kind : (b : Bool) → cond b (shelf_by (price_in h target) value) (broker_offer h t limits target value) ≡ Ok o → o.price ≤ value
    by_kind true r = on_shelf r
    by_kind false r = broker_offer_below h t limits target value o r

-- a value splits into its price and its change
record Split (value price : ℕ) (change : Option ℕ) : Type 0 where
  with_change : (id : ℕ) → change ≡ Some id → price < value
  without : change ≡ None → value ≡ price

needed_split : (value price : ℕ) (r : Result ℕ Stop) (c : Option ℕ) → price ≤ value → needed (ltb price value) r ≡ Ok c → Split value price c
needed_split value price r c le e = go (ltb price value) refl r e
  where
    go : (b : Bool) → ltb price value ≡ b → (s : Result ℕ Stop) → needed b s ≡ Ok c → Split value price c
    go false test s e = record { with_change = λ id h. absurd cc; without = λ h. let below : value ≤ price = ltb-false _ _ test in omega arith }
    go true test (Ok id) e = record { with_change = λ i h. ltb-true _ _ test; without = λ h. absurd cc }
    go true test (Err a) e = absurd cc

abbrev pub accept_change : Entry → Option ℕ
accept_change (Accept m scrip target sign price change deed) = change
accept_change _ = None

-- the change of a piece that was read
abbrev change_of : History → Option Scrip → ℕ → Option ℕ → Option Scrip
change_of h o price None = None
change_of h o price (Some id) = option_map (λ p. change_from h p price id) o

worths : (h : History) (p : Scrip) (price : ℕ) (change : Option ℕ) → Split p.value price change → p.value ≡ price + worth (change_of h (Some p) price change)
worths h p price None split = omega (arith, split.without refl)
worths h p price (Some id) split = omega (arith, split.with_change id refl)

paid_step : (limits : Limits) (h : History) (e : Entry) → IsAllowed limits h e → IsPaid h e
paid_step limits h (Accept m scrip target sign price change deed) allowed =
    let t = accept_through limits h m scrip target sign price change deed allowed in
    let offered : Split t.scrip.piece.value t.offered.price t.change =
    needed_split _ _ _ _ (offer_below h m (unbounded limits) target t.scrip.piece.value t.offered t.is_offered) t.is_change in
    let price_is : t.offered.price ≡ price = ap price_paid t.is in
    let change_is : t.change ≡ change = ap accept_change t.is in
    let split : Split t.scrip.piece.value price change =
    subst (λ (n : ℕ). Split t.scrip.piece.value n change) price_is (subst (λ (c : Option ℕ). Split t.scrip.piece.value t.offered.price c) change_is offered) in
    by_change change (worths h t.scrip.piece price change split) (read_piece limits h m scrip target sign _ t)
  where
    by_change : (c : Option ℕ) {p : Scrip} → p.value ≡ price + worth (change_of h (Some p) price c) → piece_of scrip ≡ Some p → IsPaid h (Accept m scrip target sign price c deed)
    by_change None v text = rw text v
    by_change (Some id) v text = rw text v
paid_step limits h e allowed = tt

pub all_paid : (limits : Limits) (before es : History) → AllFollow limits before es → ArePaid before es
all_paid limits before [] lawful = tt
all_paid limits before (e ∷ es) lawful = (paid_step limits before e lawful.0.allowed, all_paid limits (before ++ e ∷ []) es lawful.1)

pub values_are_paid : (limits : Limits) (h : History) → IsLawful limits h → ArePaid [] h
values_are_paid limits [] lawful = absurd lawful
values_are_paid limits (e ∷ es) lawful = all_paid limits [] (e ∷ es) lawful

-- ---- the sums of a history that was paid

values_with : (o : Option Scrip) (ps : List Scrip) → values (option_to_list o ++ ps) ≡ worth o + values ps
values_with None ps = omega arith
values_with (Some p) ps = sum_by-cons (λ (x : Scrip). x.value) p ps

values_cons : (o : Option Scrip) (ps : List Scrip) → values (cons_option o ps) ≡ worth o + values ps
values_cons None ps = omega arith
values_cons (Some p) ps = sum_by-cons (λ (x : Scrip). x.value) p ps

drawn_worth : (before : History) (id : ℕ) (o : Option Order) → worth (drawn_piece before id o) ≡ order_amount o
drawn_worth before id None = refl
drawn_worth before id (Some o) = refl

paid_one : (before : History) (e : Entry) → IsPaid before e → worth (accepted_piece e) + amount_drawn e ≡ price_paid e + worth (handed_piece before e)
paid_one before (Accept m scrip target sign price change deed) paid =
    let is : worth (accepted_piece (Accept m scrip target sign price change deed)) ≡ price + worth (change_piece before (Accept m scrip target sign price change deed)) = paid in
    omega (arith, is)
paid_one before (Draw m target sign drawn) paid = let is = drawn_worth before drawn (order_of target) in omega (arith, is)
paid_one before e paid = refl

pub paid_sums : (before es : History) → ArePaid before es → values (accepted es) + all_drawn es ≡ takings es + values (own_out_from before es)
paid_sums before [] paid = refl
paid_sums before (e ∷ es) paid =
    let ih = paid_sums (before ++ e ∷ []) es paid.1 in
    let one = paid_one before e paid.0 in
    let came = values_cons (accepted_piece e) (accepted es) in
    let went = values_with (handed_piece before e) (own_out_from (before ++ e ∷ []) es) in
    let prices : takings (e ∷ es) ≡ price_paid e + takings es = sum_by-cons price_paid e es in
    let drew : all_drawn (e ∷ es) ≡ amount_drawn e + all_drawn es = sum_by-cons amount_drawn e es in
    omega (arith, ih, one, came, went, prices, drew)

pub values_are_kept : (limits : Limits) (h : History) → IsLawful limits h → values (accepted h) + all_drawn h ≡ takings h + values (own_out h)
values_are_kept limits h lawful = paid_sums [] h (values_are_paid limits h lawful)
