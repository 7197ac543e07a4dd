-- The serials of the pieces that a lawful history hands out and mints: 0, 1, 2 and so on.
use Rattle.std.proofs.Common.{◌≡◌, ℕ, zero, suc, ◌+◌, ◌/◌, ◌%◌, ◌^◌, ◌<◌, ◌≤◌, Bool, true, false, cond, List, [], ◌∷◌, ◌++◌, Option, Some, None, Result, Ok, Err, refl, sym, ap, ◌∙◌, append_assoc, append-nil, arith, leb, ltb, eqb, option_map}
use Rattle.std.specs.Prelude.{count_by, option_to_list}
use Rattle.std.proofs.lemmas.Bool.{leb-false, le-ltb, eq-eqb}
use Rattle.std.proofs.lemmas.Bool.Decides.{nat_tests}
use Rattle.std.proofs.lemmas.List.Sums.{sum_by-cons, sum_by-append}
use Rattle.scrip_form.specs.Identities.{series_of, numbered}
use Rattle.scrip_form.specs.Scrip.{Scrip}
use Rattle.mc_requests.specs.declared.limits.Limits.{Limits}
use Rattle.mc_requests.specs.declared.refusal.Refusal.TheVariants.{SeriesFull}
use Rattle.mc_records.specs.Entry.{Deed, Entry, Accept, Mint, Draw}
use Rattle.ledger_model.specs.Histories.{History}
use Rattle.ledger_model.specs.Houses.{own_series}
use Rattle.ledger_model.specs.Orders.{Order, order_of}
use Rattle.ledger_model.specs.Pieces.{change_piece, drawn_piece, handed_piece, own_out, own_out_from, minted, minted_from, minted_pieces, run_from, first_hand, in_series, own_count, piece_of, change_from}
use Rattle.ledger_model.specs.Lines.{Stop, refused_if}
use Rattle.ledger_model.specs.Stages.{next_by, needed}
use Rattle.ledger_model.specs.Answer.{next_own}
use Rattle.ledger_model.specs.Lawful.{unbounded, draw_request, IsAllowed, MayFollow, IsLawful}
use Rattle.ledger_model.specs.Laws.{with_id, HaveNoGap}
use Rattle.ledger_model.proofs.FollowLaws.{lawful_walk}
use Rattle.ledger_model.proofs.TableLaws.{line_ok, refused_ok, ok_is, draw_answer}
use Rattle.ledger_model.proofs.AcceptLaws.{some_is, accept_change, accept_through}

-- ---- counts, which know no order

pub count-cons : (test : Scrip → Bool) (p : Scrip) (ps : List Scrip) → count_by test (p ∷ ps) ≡ cond (test p) 1 0 + count_by test ps
count-cons test p ps = sum_by-cons (λ (x : Scrip). cond (test x) 1 0) p ps

pub count-append : (test : Scrip → Bool) (xs ys : List Scrip) → count_by test (xs ++ ys) ≡ count_by test xs + count_by test ys
count-append test xs ys = sum_by-append (λ (x : Scrip). cond (test x) 1 0) xs ys

pub same_gap : (xs ys : List Scrip) → ((test : Scrip → Bool) → count_by test xs ≡ count_by test ys) → HaveNoGap xs → HaveNoGap ys
same_gap xs ys same no_gap series serial lt =
    sym (same (λ p. eqb p.id (numbered series serial))) ∙ no_gap series serial lt
    ∙ ap (λ (n : ℕ). cond (ltb serial n) 1 0) (same (λ p. eqb (series_of p.id) series))

-- ---- one more piece, under the next identity of its series

one_more : (s c series serial n m : ℕ) → c < 2 ^ 32 → serial < 2 ^ 32
    → m ≡ cond (ltb serial n) 1 0 → (s ≡ series → n ≡ c)
    → cond (eqb (numbered s c) (numbered series serial)) 1 0 + m ≡ cond (ltb serial (cond (eqb (series_of (numbered s c)) series) 1 0 + n)) 1 0
one_more s c series serial n m c_lt serial_lt m_is n_is = grind (arith, nat_tests, m_is, n_is)

pub next_piece : (ps : List Scrip) (p : Scrip) (s : ℕ) → HaveNoGap ps → p.id ≡ numbered s (in_series ps s) → in_series ps s < 2 ^ 32 → HaveNoGap (p ∷ ps)
next_piece ps p s no_gap is lt series serial serial_lt =
    let c = in_series ps s in
    let n = in_series ps series in
    let ids : with_id (p ∷ ps) (numbered series serial) ≡ cond (eqb p.id (numbered series serial)) 1 0 + with_id ps (numbered series serial) = count-cons (λ q. eqb q.id (numbered series serial)) p ps in
    let all : in_series (p ∷ ps) series ≡ cond (eqb (series_of p.id) series) 1 0 + n = count-cons (λ q. eqb (series_of q.id) series) p ps in
    let core = one_more s c series serial n (with_id ps (numbered series serial)) lt serial_lt (no_gap series serial serial_lt) (λ e. ap (in_series ps) (sym e)) in
    ids ∙ ap (λ (id : ℕ). cond (eqb id (numbered series serial)) 1 0 + with_id ps (numbered series serial)) is ∙ core
    ∙ sym (ap (λ (k : ℕ). cond (ltb serial k) 1 0) (all ∙ ap (λ (id : ℕ). cond (eqb (series_of id) series) 1 0 + n) is))

-- ---- a run of pieces

in_series_next : (ps : List Scrip) (p : Scrip) (s c : ℕ) → in_series ps s ≡ c → p.id ≡ numbered s c → c < 2 ^ 32 → in_series (p ∷ ps) s ≡ c + 1
in_series_next ps p s c is id_is lt =
    let mine : eqb (series_of p.id) s ≡ true = eq-eqb (series_of p.id) s (ap series_of id_is ∙ omega (arith, lt)) in
    count-cons (λ q. eqb (series_of q.id) s) p ps ∙ rw mine (omega (arith, is))

pub next_run : (before : History) (value s n : ℕ) (ps : List Scrip) (c first : ℕ) → HaveNoGap ps → in_series ps s ≡ c → first ≡ numbered s c → c + n ≤ 2 ^ 32
    → HaveNoGap (run_from before value first n ++ ps)
next_run before value s zero ps c first no_gap is first_is le = no_gap
next_run before value s (suc n) ps c first no_gap is first_is le =
    let p = first_hand before value first in
    let rest = run_from before value (first + 1) n in
    let lt : c < 2 ^ 32 = omega (arith, le) in
    let more = next_piece ps p s no_gap (first_is ∙ ap (numbered s) (sym is)) (omega (arith, is, lt)) in
    let grown = in_series_next ps p s c is first_is lt in
    let all = next_run before value s n (p ∷ ps) (c + 1) (first + 1) more grown (omega (arith, first_is)) (omega (arith, le)) in
    same_gap (rest ++ p ∷ ps) (p ∷ (rest ++ ps)) (λ test.
    let a = count-append test rest (p ∷ ps) in
    let b = count-cons test p ps in
    let d = count-cons test p (rest ++ ps) in
    let e = count-append test rest ps in
    omega (arith, a, b, d, e)) all

-- ---- the pieces at one more entry

pub own_out_snoc : (before h : History) (e : Entry) → own_out_from before (h ++ e ∷ []) ≡ own_out_from before h ++ option_to_list (handed_piece (before ++ h) e)
own_out_snoc before [] e = append-nil (option_to_list (handed_piece before e)) ∙ ap (λ (b : History). option_to_list (handed_piece b e)) (sym (append-nil before))
own_out_snoc before (x ∷ xs) e =
    ap (λ (ps : List Scrip). option_to_list (handed_piece before x) ++ ps)
    (own_out_snoc (before ++ x ∷ []) xs e ∙ ap (λ (b : History). own_out_from (before ++ x ∷ []) xs ++ option_to_list (handed_piece b e)) (append_assoc before (x ∷ []) xs))
    ∙ sym (append_assoc (option_to_list (handed_piece before x)) (own_out_from (before ++ x ∷ []) xs) (option_to_list (handed_piece (before ++ x ∷ xs) e)))

pub minted_snoc : (before h : History) (e : Entry) → minted_from before (h ++ e ∷ []) ≡ minted_from before h ++ minted_pieces (before ++ h) e
minted_snoc before [] e = append-nil (minted_pieces before e) ∙ ap (λ (b : History). minted_pieces b e) (sym (append-nil before))
minted_snoc before (x ∷ xs) e =
    ap (λ (ps : List Scrip). minted_pieces before x ++ ps)
    (minted_snoc (before ++ x ∷ []) xs e ∙ ap (λ (b : History). minted_from (before ++ x ∷ []) xs ++ minted_pieces b e) (append_assoc before (x ∷ []) xs))
    ∙ sym (append_assoc (minted_pieces before x) (minted_from (before ++ x ∷ []) xs) (minted_pieces (before ++ x ∷ xs) e))

-- the pieces that the house made, in any order
abbrev pub made : History → List Scrip
made h = own_out h ++ minted h

made_snoc : (h : History) (e : Entry) (test : Scrip → Bool)
    → count_by test (option_to_list (handed_piece h e) ++ (minted_pieces h e ++ made h)) ≡ count_by test (made (h ++ e ∷ []))
made_snoc h e test =
    let c = option_to_list (handed_piece h e) in
    let m = minted_pieces h e in
    let left = count-append test c (m ++ made h) in
    let left2 = count-append test m (made h) in
    let left3 = count-append test (own_out h) (minted h) in
    let right = count-append test (own_out (h ++ e ∷ [])) (minted (h ++ e ∷ [])) in
    let own : count_by test (own_out (h ++ e ∷ [])) ≡ count_by test (own_out h) + count_by test c = ap (count_by test) (own_out_snoc [] h e) ∙ count-append test (own_out h) c in
    let mints : count_by test (minted (h ++ e ∷ [])) ≡ count_by test (minted h) + count_by test m = ap (count_by test) (minted_snoc [] h e) ∙ count-append test (minted h) m in
    omega (arith, left, left2, left3, right, own, mints)

-- ---- each kind of entry

pub needed_next : (b : Bool) (next : Result ℕ Stop) (id : ℕ) → needed b next ≡ Ok (Some id) → next ≡ Ok id
needed_next false next id e = absurd cc
needed_next true (Ok i) id e = cc
needed_next true (Err stop) id e = absurd cc

pub next_is : (limit series count id : ℕ) → next_by limit series count ≡ Ok id → (count < limit) × (id ≡ numbered series count)
next_is limit series count id e =
    let a = line_ok (refused_if (leb limit count) (SeriesFull series)) (λ _. Ok (numbered series count)) id e in
    let below : count < limit = leb-false limit count (refused_ok _ _ a.0 a.1) in
    (below, sym (ok_is (numbered series count) id a.2))

with_change : (h : History) (id : ℕ) (o : Option Scrip) → ((p : Scrip) → o ≡ Some p → p.id ≡ id) → HaveNoGap (made h) → (series : ℕ) → id ≡ numbered series (own_count h series) → own_count h series < 2 ^ 32
    → HaveNoGap (option_to_list o ++ made h)
with_change h id None is no_gap series next lt = no_gap
with_change h id (Some p) is no_gap series next lt = next_piece (made h) p series no_gap (is p refl ∙ next) lt

pub change_id : (h : History) (m : ℕ) (scrip target : List ℕ) (sign : Option (List ℕ)) (price id : ℕ) (deed : Deed) (p : Scrip)
    → change_piece h (Accept m scrip target sign price (Some id) deed) ≡ Some p → p.id ≡ id
change_id h m scrip target sign price id deed p e = go (piece_of scrip) e
  where
    go : (o : Option Scrip) → option_map (λ q. change_from h q price id) o ≡ Some p → p.id ≡ id
    go None r = absurd cc
    go (Some q) r = let is = some_is (change_from h q price id) p r in sym (ap (λ (x : Scrip). x.id) is)

step_no_gap : (limits : Limits) (h : History) (e : Entry) → limits.series ≤ 2 ^ 32 → IsAllowed limits h e → HaveNoGap (made h)
    → HaveNoGap (option_to_list (handed_piece h e) ++ (minted_pieces h e ++ made h))
step_no_gap limits h (Accept m scrip target sign price None deed) le allowed no_gap = no_gap
step_no_gap limits h (Accept m scrip target sign price (Some id) deed) le allowed no_gap =
    let x = accept_through limits h m scrip target sign price (Some id) deed allowed in
    let change_is : x.change ≡ Some id = ap accept_change x.is in
    let needs : needed (ltb x.offered.price x.scrip.piece.value) (next_own h m (unbounded limits)) ≡ Ok (Some id) = x.is_change ∙ ap ok_option change_is in
    let next = next_is limits.series (own_series h m) (own_count h (own_series h m)) id (needed_next _ _ id needs) in
    with_change h id (change_piece h (Accept m scrip target sign price (Some id) deed)) (change_id h m scrip target sign price id deed) no_gap (own_series h m) next.1 (omega (arith, next.0))
  where
    ok_option : Option ℕ → Result (Option ℕ) Stop
    ok_option o = Ok o
step_no_gap limits h (Mint m reference count value first) le allowed no_gap =
    next_run h value (own_series h m) count (made h) (own_count h (own_series h m)) first no_gap refl allowed.2 (let room = allowed.3 in omega (arith, room))
step_no_gap limits h (Draw m target sign drawn) le allowed no_gap =
    let x = (draw_answer h m (unbounded limits) (draw_request target sign) m target sign drawn allowed).through in
    let id_is : x.id ≡ drawn = ap draw_id x.is in
    let next = next_is limits.series (own_series h m) (own_count h (own_series h m)) drawn (x.is_next ∙ ap ok_id id_is) in
    with_change h drawn (drawn_piece h drawn (order_of target)) (drawn_id h drawn (order_of target)) no_gap (own_series h m) next.1 (omega (arith, next.0))
  where
    ok_id : ℕ → Result ℕ Stop
    ok_id n = Ok n

    draw_id : Entry → ℕ
    draw_id (Draw a b c d) = d
    draw_id e = 0

    drawn_id : (before : History) (id : ℕ) (o : Option Order) (p : Scrip) → drawn_piece before id o ≡ Some p → p.id ≡ id
    drawn_id before id None p e = absurd cc
    drawn_id before id (Some o) p e = let is = some_is (first_hand before o.amount id) p e in sym (ap (λ (s : Scrip). s.id) is)
step_no_gap limits h e le allowed no_gap = no_gap

pub empty_no_gap : HaveNoGap []
empty_no_gap series serial lt = sym (ap (λ (b : Bool). cond b 1 0) (le-ltb serial 0 (omega arith)))

pub made_step : (limits : Limits) (h : History) (e : Entry) → limits.series ≤ 2 ^ 32 → MayFollow limits h e → HaveNoGap (made h) → HaveNoGap (made (h ++ e ∷ []))
made_step limits h e le may no_gap =
    same_gap (option_to_list (handed_piece h e) ++ (minted_pieces h e ++ made h)) (made (h ++ e ∷ [])) (made_snoc h e) (step_no_gap limits h e le may.allowed no_gap)

-- the serials that a lawful history handed out or minted have no gap
pub serials_have_no_gap : (limits : Limits) (h : History) → limits.series ≤ 2 ^ 32 → IsLawful limits h → HaveNoGap (own_out h ++ minted h)
serials_have_no_gap limits h le lawful =
    lawful_walk (λ g. HaveNoGap (made g)) limits (λ g e may no_gap. made_step limits g e le may no_gap) empty_no_gap h lawful

-- so no identity stands twice among them
pub gap_once : (ps : List Scrip) (id : ℕ) → HaveNoGap ps → with_id ps id ≤ 1
gap_once ps id no_gap =
    let is : numbered (id / 2 ^ 32) (id % 2 ^ 32) ≡ id = omega arith in
    let small : id % 2 ^ 32 < 2 ^ 32 = omega arith in
    let e = ap (with_id ps) (sym is) ∙ no_gap (id / 2 ^ 32) (id % 2 ^ 32) small in
    go _ e
  where
    go : (b : Bool) → with_id ps id ≡ cond b 1 0 → with_id ps id ≤ 1
    go true e = omega (arith, e)
    go false e = omega (arith, e)

pub made_once : (limits : Limits) (h : History) (id : ℕ) → limits.series ≤ 2 ^ 32 → IsLawful limits h → with_id (own_out h ++ minted h) id ≤ 1
made_once limits h id le lawful = gap_once (own_out h ++ minted h) id (serials_have_no_gap limits h le lawful)
