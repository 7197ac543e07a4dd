-- Which lines are taken as stock.
use Rattle.std.proofs.Common.{◌≡◌, ℕ, ◌+◌, ◌≤◌, Bool, true, false, cond, eqb, ltb, ◌||◌, not, List, [], ◌∷◌, take, find, count_by, Option, Some, None, Ok, Err, Result, option_map, unwrap_or, IsSome, refl, sym, ap, subst, ◌∙◌, arith}
use Rattle.std.specs.Prelude.{IsSomeAnd}
use Rattle.std.specs.List.{list_any, list_all, AllByRecursion}
use Rattle.std.specs.Result.{result_ok}
use Rattle.std.proofs.lemmas.Option.{same_Some}
use Rattle.std.proofs.lemmas.Bool.{eqb-true, eq-eqb, false_from_ne_true, or_from, or_parts, and_from, ltb-false}
use Rattle.scrip_form.specs.Scrip.{Scrip}
use Rattle.mc_requests.specs.declared.limits.Limits.{Limits}
use Rattle.mc_requests.specs.declared.refusal.Refusal.{Refusal}
use Rattle.mc_requests.specs.declared.refusal.Refusal.TheVariants.{StockTwice, BadInput}
use Rattle.mc_records.specs.declared.piece_list.PieceList.{PieceList}
use Rattle.mc_records.specs.PieceViews.{pieces_of}
use Rattle.mc_records.specs.Entry.{Held, Stock}
use Rattle.ledger_model.specs.declared.numbers.TheConstants.{BROKER_KIND}
use Rattle.ledger_model.specs.Histories.{History, time}
use Rattle.ledger_model.specs.Houses.{site_kind}
use Rattle.ledger_model.specs.Lawful.{MayFollow}
use Rattle.ledger_model.proofs.ListLaws.{counts_cons}
use Rattle.ledger_model.specs.Stock.{held_piece, may_be_stock, are_new, are_stock, ids_of, stock_ids}
use Rattle.piece_lines.specs.Answers.{AreIds}
use Rattle.piece_lines.specs.Rules.{is_stock_of}
use Rattle.piece_lines.specs.PieceLines.{LineFits, AreLines, IsTold}
use Rattle.piece_lines.proofs.IdLaws.{text_read}
use Rattle.piece_lines.proofs.LineLaws.{input_told}
use Rattle.broker_stalls.specs.Stalls.{StallView, empty_stall, has_id, was_stocked}
use Rattle.broker_stalls.specs.Shown.{Shows}
use Rattle.house_core.specs.Tasks.{Add, Refuse}
use Rattle.broker_core.specs.Tasks.{stands_twice, first_twice, stock_refusal, stock_lines, stock_task, pieces_in, unless}
use Rattle.broker_core.proofs.OperatorLemmas.{broker_is}

-- ---- what is known

turned : (a b : ℕ) → eqb a b ≡ eqb b a
turned a b = go (eqb a b) refl
  where
    go : (x : Bool) → eqb a b ≡ x → x ≡ eqb b a
    go true e = sym (eq-eqb b a (sym (eqb-true a b e)))
    go false e = sym (false_from_ne_true (eqb b a) (λ t. let again = eq-eqb a b (sym (eqb-true b a t)) in absurd cc))

any_turned : (id : ℕ) (xs : List ℕ) → list_any (λ k. eqb id k) xs ≡ list_any (λ k. eqb k id) xs
any_turned id xs = ap (λ (p : ℕ → Bool). list_any p xs) (λ i k. turned id k i)

pub nothing_stocked : (id : ℕ) → false ≡ was_stocked empty_stall id
unfolding has_id
nothing_stocked id = refl

same_find : (p q : ℕ → Bool) → ((id : ℕ) → p id ≡ q id) → (ids : List ℕ) → find p ids ≡ find q ids
same_find p q same ids = ap (λ (r : ℕ → Bool). find r ids) (λ i id. same id i)

-- the first identity that a stall had, or that stands twice, is the ledger's
first_same : (h : History) (vendor : List ℕ) (s : StallView) (ids : List ℕ) → Shows h vendor s
    → find (λ id. was_stocked s id || stands_twice ids id) ids ≡ first_twice (stock_ids h vendor) ids
first_same h vendor s ids shows =
    let known : (id : ℕ) → was_stocked s id ≡ list_any (λ k. eqb k id) (stock_ids h vendor) = λ id. shows.ids id ∙ any_turned id (stock_ids h vendor) in
    same_find (λ id. was_stocked s id || stands_twice ids id) (λ id. list_any (λ k. eqb k id) (stock_ids h vendor) || stands_twice ids id)
    (λ id. ap (λ (b : Bool). b || stands_twice ids id) (known id)) ids

-- what is told of the identities of lines is why they are not taken
pub refusal_is : (h : History) (vendor lines : List ℕ) (s : StallView) (ids : List ℕ) (count : ℕ) (o : Option ℕ) → Shows h vendor s → AreIds (stock_lines vendor lines) ids count
    → o ≡ find (λ id. was_stocked s id || stands_twice (take count ids) id) (take count ids)
    → option_map StockTwice o ≡ stock_refusal (stock_ids h vendor) (stock_lines vendor lines)
refusal_is h vendor lines s ids count o shows are is =
    let pieces = are.pieces in
    let these : take count ids ≡ ids_of pieces = are.ids' in
    let at : o ≡ first_twice (stock_ids h vendor) (ids_of pieces) =
    is ∙ ap (λ (xs : List ℕ). find (λ id. was_stocked s id || stands_twice xs id) xs) these ∙ first_same h vendor s (ids_of pieces) shows in
    ap (λ (x : Option ℕ). option_map StockTwice x) at ∙ sym (ap (stock_refusal (stock_ids h vendor)) are.read)

-- ---- what is new

none_found : (p : ℕ → Bool) (xs : List ℕ) → find p xs ≡ None → AllByRecursion (λ x. p x ≡ false) xs
none_found p [] e = tt
none_found p (x ∷ xs) e = go (p x) refl e (λ rest. none_found p xs rest)
  where
    go : (b : Bool) → p x ≡ b → cond b (Some x) (find p xs) ≡ None → (find p xs ≡ None → AllByRecursion (λ y. p y ≡ false) xs) → AllByRecursion (λ y. p y ≡ false) (x ∷ xs)
    go true is none more = absurd cc
    go false is none more = (is, more none)

all_both : (P Q R : ℕ → Type 0) → ((y : ℕ) → P y → Q y → R y) → (xs : List ℕ) → AllByRecursion P xs → AllByRecursion Q xs → AllByRecursion R xs
all_both P Q R both [] a b = tt
all_both P Q R both (x ∷ xs) a b = (both x a.0 b.0, all_both P Q R both xs a.1 b.1)

count_more : (id x : ℕ) (xs : List ℕ) → count_by (λ k. eqb k id) (x ∷ xs) ≡ cond (eqb x id) 1 0 + count_by (λ k. eqb k id) xs
count_more id x xs = counts_cons (λ k. eqb k id) x xs

-- what is counted nowhere is none of them
absent : (x : ℕ) (xs : List ℕ) → count_by (λ k. eqb k x) xs ≡ 0 → AllByRecursion (λ y. eqb y x ≡ false) xs
absent x [] none = tt
absent x (y ∷ ys) none = go (eqb y x) refl (sym (count_more x y ys) ∙ none) (λ rest. absent x ys rest)
  where
    go : (b : Bool) → eqb y x ≡ b → cond b 1 0 + count_by (λ k. eqb k x) ys ≡ 0 → (count_by (λ k. eqb k x) ys ≡ 0 → AllByRecursion (λ z. eqb z x ≡ false) ys) → AllByRecursion (λ z. eqb z x ≡ false) (y ∷ ys)
    go true is e more = absurd (omega (arith, e))
    go false is e more = (is, more (omega (arith, e)))

-- an identity is not known, and does not stand twice among some
abbrev IsOnce : List ℕ → List ℕ → ℕ → Type 0
IsOnce known ids id = (list_any (λ k. eqb k id) known || ltb 1 (count_by (λ k. eqb k id) ids)) ≡ false

later_once : (known : List ℕ) (x : ℕ) (xs : List ℕ) (y : ℕ) → IsOnce known (x ∷ xs) y → eqb y x ≡ false → IsOnce (x ∷ known) xs y
later_once known x xs y once other =
    let apart : eqb x y ≡ false = turned x y ∙ other in
    let parts = or_parts (list_any (λ k. eqb k y) known) (ltb 1 (cond (eqb x y) 1 0 + count_by (λ k. eqb k y) xs)) (ap (λ (n : ℕ). list_any (λ k. eqb k y) known || ltb 1 n) (sym (count_more y x xs)) ∙ once) in
    let none : 0 + count_by (λ k. eqb k y) xs ≡ count_by (λ k. eqb k y) xs = omega arith in
    let few : ltb 1 (count_by (λ k. eqb k y) xs) ≡ false =
    ap (ltb 1) (sym (ap (λ (b : Bool). cond b 1 0 + count_by (λ k. eqb k y) xs) apart ∙ none)) ∙ parts.1 in
    or_from (eqb x y || list_any (λ k. eqb k y) known) (ltb 1 (count_by (λ k. eqb k y) xs)) (or_from (eqb x y) (list_any (λ k. eqb k y) known) apart parts.0) few

new_of : (known ids : List ℕ) → AllByRecursion (IsOnce known ids) ids → are_new known ids ≡ true
new_of known [] all = refl
new_of known (x ∷ xs) all =
    let parts = or_parts (list_any (λ k. eqb k x) known) (ltb 1 (cond (eqb x x) 1 0 + count_by (λ k. eqb k x) xs)) (ap (λ (n : ℕ). list_any (λ k. eqb k x) known || ltb 1 n) (sym (count_more x x xs)) ∙ all.0) in
    let itself : cond (eqb x x) 1 0 + count_by (λ k. eqb k x) xs ≡ 1 + count_by (λ k. eqb k x) xs = ap (λ (b : Bool). cond b 1 0 + count_by (λ k. eqb k x) xs) (eq-eqb x x refl) in
    let most : cond (eqb x x) 1 0 + count_by (λ k. eqb k x) xs ≤ 1 = ltb-false 1 (cond (eqb x x) 1 0 + count_by (λ k. eqb k x) xs) parts.1 in
    let none : count_by (λ k. eqb k x) xs ≡ 0 = omega (arith, itself, most) in
    and_from (not (list_any (λ k. eqb k x) known)) (are_new (x ∷ known) xs) (ap not parts.0)
    (new_of (x ∷ known) xs (all_both (IsOnce known (x ∷ xs)) (λ y. eqb y x ≡ false) (IsOnce (x ∷ known) xs) (later_once known x xs) xs all.1 (absent x xs none)))

-- ---- what may be stock

abbrev may_stock : List ℕ → Held → Bool
may_stock vendor p = unwrap_or (option_map (may_be_stock vendor) (held_piece p)) false

one_may : (vendor : List ℕ) (p : Held) → LineFits (is_stock_of vendor) p → may_stock vendor p ≡ true
one_may vendor p f =
    ap (λ (r : Result (Scrip × List ℕ) ℕ). unwrap_or (option_map (may_be_stock vendor) (option_map (λ x. x.0) (result_ok r))) false) (text_read (is_stock_of vendor) p f)
    ∙ f.passes

all_may : (vendor : List ℕ) (ps : List Held) → AllByRecursion (LineFits (is_stock_of vendor)) ps → list_all (may_stock vendor) ps ≡ true
all_may vendor [] fit = refl
all_may vendor (p ∷ ps) fit = and_from (may_stock vendor p) (list_all (may_stock vendor) ps) (one_may vendor p fit.0) (all_may vendor ps fit.1)

none_twice : (o : Option ℕ) → None ≡ option_map StockTwice o → o ≡ None
none_twice None is = refl
none_twice (Some id) is = absurd cc

-- pieces that are not refused may be put into stock
pub stock_allowed : (h : History) (vendor lines : List ℕ) (pieces : List Held) → None ≡ stock_refusal (stock_ids h vendor) (stock_lines vendor lines) → stock_lines vendor lines ≡ Ok pieces
    → are_stock vendor (stock_ids h vendor) pieces ≡ true
stock_allowed h vendor lines pieces new read =
    let none = none_twice (first_twice (stock_ids h vendor) (ids_of pieces)) (new ∙ ap (stock_refusal (stock_ids h vendor)) read) in
    let told : AreLines (is_stock_of vendor) lines pieces = subst (λ (r : Result (List Held) ℕ). IsTold (is_stock_of vendor) lines r) read (input_told (is_stock_of vendor) lines) in
    and_from (list_all (may_stock vendor) pieces) (are_new (stock_ids h vendor) (ids_of pieces)) (all_may vendor pieces told.fit)
    (new_of (stock_ids h vendor) (ids_of pieces) (none_found (λ id. list_any (λ k. eqb k id) (stock_ids h vendor) || stands_twice (ids_of pieces) id) (ids_of pieces) none))

-- ---- the task

pub stock_refused : (h : History) (t : ℕ) (vendor lines : List ℕ) (f : Refusal) → Some f ≡ stock_refusal (stock_ids h vendor) (stock_lines vendor lines) → Refuse f ≡ stock_task h t vendor lines
stock_refused h t vendor lines f is = ap (unless (Stock t vendor (pieces_in (stock_lines vendor lines)))) is

pub stock_added : (h : History) (t : ℕ) (vendor lines : List ℕ) → None ≡ stock_refusal (stock_ids h vendor) (stock_lines vendor lines)
    → Add (Stock t vendor (pieces_in (stock_lines vendor lines))) ≡ stock_task h t vendor lines
stock_added h t vendor lines is = ap (unless (Stock t vendor (pieces_in (stock_lines vendor lines)))) is

pub stock_broken : (h : History) (t : ℕ) (vendor lines : List ℕ) (line : ℕ) → stock_lines vendor lines ≡ Err line → Refuse (BadInput line) ≡ stock_task h t vendor lines
stock_broken h t vendor lines line is =
    sym (ap (λ (r : Result (List Held) ℕ). unless (Stock t vendor (pieces_in r)) (stock_refusal (stock_ids h vendor) r)) is)

-- the entry of pieces that were read may follow at a broker
pub stock_may_follow : (limits : Limits) (h : History) (t : ℕ) (vendor lines : List ℕ) (pieces : List Held) → time h ≤ t → site_kind h ≡ Some BROKER_KIND
    → None ≡ stock_refusal (stock_ids h vendor) (stock_lines vendor lines) → stock_lines vendor lines ≡ Ok pieces → MayFollow limits h (Stock t vendor pieces)
stock_may_follow limits h t vendor lines pieces order kind new read = record { in_order = order; allowed = (broker_is h kind, stock_allowed h vendor lines pieces new read) }

-- ---- the pieces of their elements

pub some_of : {A : Type 0} (o : Option A) (P : A → Type 0) → IsSomeAnd o P → IsSome o
some_of (Some x) P is = refl
some_of None P is = absurd is

pub read_pieces : (o : Option PieceList) (l : PieceList) (ps : List Held) → o ≡ Some l → IsSomeAnd o (λ x. pieces_of x ≡ ps) → pieces_of l ≡ ps
read_pieces (Some x) l ps is same = ap pieces_of (sym (same_Some x l is)) ∙ same
read_pieces None l ps is same = absurd same

pub same_stock : {t u : ℕ} {a b : List ℕ} {ps qs : List Held} → t ≡ u → a ≡ b → ps ≡ qs → Stock t a ps ≡ Stock u b qs
same_stock p q r = λ i. Stock (p i) (q i) (r i)
