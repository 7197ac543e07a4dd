-- Pieces that are taken: those that came before or stand twice.
use Rattle.std.proofs.Common.{◌≡◌, ℕ, ◌+◌, ◌≤◌, Bool, true, false, cond, ◌||◌, not, List, [], ◌∷◌, ◌++◌, map, Option, Some, None, Result, Ok, Err, option_map, unwrap_or, find, refl, sym, ap, ◌∙◌, arith, append_assoc, bytes_eq}
use Rattle.std.specs.Prelude.{◌==◌, nat_lt, count_by, IfOk}
use Rattle.std.proofs.lemmas.Bool.{eq-eqb}
use Rattle.std.proofs.lemmas.Bool.Decides.{nat_tests}
use Rattle.std.proofs.lemmas.List.Folds.{list_any-append}
use Rattle.std.proofs.lemmas.List.Sums.{sum_by-cons}
use Rattle.std.proofs.lemmas.Slice.Eq.{bytes_eq-Decides}
use Rattle.std.specs.List.{AllByRecursion, list_any}
use Rattle.scrip_form.specs.Scrip.{Scrip}
use Rattle.mc_requests.specs.declared.refusal.Refusal.{Refusal}
use Rattle.mc_requests.specs.declared.refusal.Refusal.TheVariants.{TwiceHeld}
use Rattle.mc_records.specs.Entry.{Held, HeldFits, Got, ArePieces, IsMoment}
use Rattle.mc_records.specs.Pieces.{pieces_bytes}
use Rattle.ledger_model.specs.Histories.{History}
use Rattle.ledger_model.proofs.ListLaws.{counts_append}
use Rattle.ledger_model.specs.Pieces.{piece_of}
use Rattle.wallet_model.specs.Holdings.{texts_came}
use Rattle.wallet_model.specs.Newness.{is_same_piece, are_one_piece, is_new, are_new}
use Rattle.wallet_model.proofs.WrittenLaws.{book_is_wallet}
use Rattle.wallet_book.specs.Holdings.{texts_of}
use Rattle.wallet_book.specs.Book.{BookView, WalletRepresents}
use Rattle.wallet_book.proofs.HoldingLaws.{read_back}
use Rattle.wallet_book.proofs.PartLaws.{came_texts}
use Rattle.wallet_core.specs.Requests.{CanEnter}
use Rattle.wallet_core.specs.declared.taking.TakeFault.{TakeFault}
use Rattle.wallet_core.specs.declared.taking.TakeFault.TheVariants as faults
use Rattle.wallet_core.specs.Taking.{is_twice, id_of, if_none_twice, taken_pieces, AreElements, Takes, TakesOf}

-- ---- counting and finding

count_cons : (test : Held → Bool) (p : Held) (rest : List Held) → count_by test (p ∷ rest) ≡ cond {A = ℕ} (test p) 1 0 + count_by test rest
count_cons test p rest = sum_by-cons (λ (y : Held). cond {A = ℕ} (test y) 1 0) p rest

pub count_next : (test : Held → Bool) (p : Held) (rest : List Held) (count n all : ℕ) → count + count_by test (p ∷ rest) ≡ all → n ≡ cond {A = ℕ} (test p) 1 0 → count + n + count_by test rest ≡ all
count_next test p rest count n all is one = let both = count_cons test p rest in omega (arith, is, one, both)

pub find_first : (test : Held → Bool) (p : Held) (rest : List Held) → test p ≡ true → find test (p ∷ rest) ≡ Some p
find_first test p rest holds = rw holds refl

pub find_behind : (test : Held → Bool) (p : Held) (rest : List Held) → test p ≡ false → find test (p ∷ rest) ≡ find test rest
find_behind test p rest fails = rw fails refl

-- ---- pieces of which none came and none stands twice are new, one after the other

abbrev alike : List ℕ → Held → Bool
alike text q = are_one_piece q.text text

abbrev knows : List (List ℕ) → List ℕ → Bool
knows texts text = list_any (λ t. are_one_piece t text) texts

IsRead : Held → Type 0
IsRead p = (q : Scrip) × (piece_of p.text ≡ Some q)

one_itself : (p : Held) → IsRead p → are_one_piece p.text p.text ≡ true
unfolding IsRead
one_itself p is =
    let vendor : bytes_eq is.0.vendor is.0.vendor ≡ true = (bytes_eq-Decides is.0.vendor is.0.vendor).1 refl in
    let id : (is.0.id == is.0.id) ≡ true = eq-eqb is.0.id is.0.id refl in
    ap (λ (o : Option Scrip). is_same_piece o o) is.1 ∙ (rw (vendor, id) refl)

none_counted : (test : Held → Bool) (xs : List Held) → count_by test xs ≡ 0 → list_any test xs ≡ false
none_counted test [] zero_ = refl
none_counted test (x ∷ xs) zero_ = go (test x) refl (none_counted test xs)
  where
    go : (b : Bool) → test x ≡ b → (count_by test xs ≡ 0 → list_any test xs ≡ false) → list_any test (x ∷ xs) ≡ false
    go true holds behind = let one : count_by test (x ∷ xs) ≡ 1 + count_by test xs = count_cons test x xs ∙ ap (λ (b : Bool). cond {A = ℕ} b 1 0 + count_by test xs) holds in absurd (omega (arith, one, zero_))
    go false fails behind =
        let here : count_by test (x ∷ xs) ≡ 0 + count_by test xs = count_cons test x xs ∙ ap (λ (b : Bool). cond {A = ℕ} b 1 0 + count_by test xs) fails in
        let rest = behind (omega (arith, here, zero_)) in
        rw (fails, rest) refl

not_found : (test : Held → Bool) (p : Held) (ps : List Held) → find test (p ∷ ps) ≡ None → (test p ≡ false) × (find test ps ≡ None)
not_found test p ps none = go (test p) refl none
  where
    go : (b : Bool) → test p ≡ b → cond b (Some p) (find test ps) ≡ None → (test p ≡ false) × (find test ps ≡ None)
    go true holds e = absurd cc
    go false fails e = (fails, e)

neither : (a b : Bool) → (not a || b) ≡ false → (a ≡ true) × (b ≡ false)
neither true false e = (refl, refl)
neither true true e = absurd cc
neither false b e = absurd cc

turned : (a d f : Bool) → (f || (a || d)) ≡ (a || (d || (f || false)))
turned true true true = refl
turned true true false = refl
turned true false true = refl
turned true false false = refl
turned false true true = refl
turned false true false = refl
turned false false true = refl
turned false false false = refl

-- the texts of some pieces and those of the pieces before them
abbrev Covers : List (List ℕ) → List (List ℕ) → List Held → Type 0
Covers acc texts done = (text : List ℕ) → knows acc text ≡ (knows texts text || list_any (alike text) done)

covers_more : (acc texts : List (List ℕ)) (done : List Held) (p : Held) → Covers acc texts done → Covers (p.text ∷ acc) texts (done ++ p ∷ [])
covers_more acc texts done p covers text =
    ap (λ (b : Bool). are_one_piece p.text text || b) (covers text)
    ∙ turned (knows texts text) (list_any (alike text) done) (are_one_piece p.text text)
    ∙ ap (λ (b : Bool). knows texts text || b) (sym (list_any-append (alike text) done (p ∷ [])))

new_rest : (texts acc : List (List ℕ)) (done left : List Held) → Covers acc texts done → AllByRecursion IsRead left → find (is_twice texts (done ++ left)) left ≡ None → are_new acc (map (λ p. p.text) left) ≡ true
new_rest texts acc done [] covers read none = refl
new_rest texts acc done (p ∷ ps) covers read none =
    let found = not_found (is_twice texts (done ++ p ∷ ps)) p ps none in
    let parts = neither (is_new texts p.text) (nat_lt 1 (count_by (alike p.text) (done ++ p ∷ ps))) found.0 in
    let few : count_by (alike p.text) (done ++ p ∷ ps) ≤ 1 = not_more _ parts.1 in
    let itself = one_itself p read.0 in
    let own : count_by (alike p.text) (p ∷ ps) ≡ 1 + count_by (alike p.text) ps = count_cons (alike p.text) p ps ∙ ap (λ (b : Bool). cond {A = ℕ} b 1 0 + count_by (alike p.text) ps) itself in
    let before : list_any (alike p.text) done ≡ false = none_counted (alike p.text) done (omega (arith, few, own, counts_append (alike p.text) done (p ∷ ps))) in
    let old : knows texts p.text ≡ false = not_known (knows texts p.text) parts.0 in
    let unknown : knows acc p.text ≡ false = covers p.text ∙ (rw (old, before) refl) in
    let here : is_new acc p.text ≡ true = ap not unknown in
    let same : (done ++ p ∷ []) ++ ps ≡ done ++ p ∷ ps = append_assoc done (p ∷ []) ps in
    let rest : find (is_twice texts ((done ++ p ∷ []) ++ ps)) ps ≡ None = ap (λ (all : List Held). find (is_twice texts all) ps) same ∙ found.1 in
    let later = new_rest texts (p.text ∷ acc) (done ++ p ∷ []) ps (covers_more acc texts done p covers) read.1 rest in
    rw (here, later) refl
  where
    not_more : (n : ℕ) → nat_lt 1 n ≡ false → n ≤ 1
    not_more n is = grind (arith, nat_tests, is)

    not_known : (b : Bool) → not b ≡ true → b ≡ false
    not_known true e = absurd cc
    not_known false e = refl

all_read : (ps : List Held) → AllByRecursion HeldFits ps → AllByRecursion IsRead ps
unfolding IsRead
all_read [] fit = tt
all_read (p ∷ ps) fit = ((fit.0.text.0, read_back p.text fit.0.text.0 fit.0.text.1 fit.0.text.2), all_read ps fit.1)

plain : (b : Bool) → b ≡ (b || false)
plain true = refl
plain false = refl

pub none_twice_new : (texts : List (List ℕ)) (ps : List Held) → ArePieces ps → find (is_twice texts ps) ps ≡ None → are_new texts (map (λ p. p.text) ps) ≡ true
none_twice_new texts ps are none = new_rest texts texts [] ps (λ text. plain (knows texts text)) (all_read ps are.held) none

-- ---- the entry

pub taken_enters : (b : BookView) (h : History) (ps : List Held) → WalletRepresents b h → IsMoment b.time → ArePieces ps → find (is_twice (texts_of b.holdings) ps) ps ≡ None → CanEnter h (Got b.time ps)
taken_enters b h ps is moment are none =
    let texts : texts_came h ≡ texts_of b.holdings = came_texts h b.holdings is.parts.pieces in
    let new : are_new (texts_came h) (map (λ p. p.text) ps) ≡ true = ap (λ (ts : List (List ℕ)). are_new ts (map (λ (p : Held). p.text) ps)) texts ∙ none_twice_new (texts_of b.holdings) ps are none in
    let wallet = book_is_wallet h is.lawful in
    record {
      follows = record { in_order = is.in_time; allowed = rw (wallet, new) refl };
      fits = record { moment = moment; pieces = are };
    }

-- what there is to do of pieces that were read
todo_is : (b : BookView) (h : History) (input : Result (List Held) ℕ) (ps : List Held) (o : Option Held) → WalletRepresents b h → input ≡ Ok ps → find (is_twice (texts_of b.holdings) ps) ps ≡ o → taken_pieces h b.time input ≡ if_none_twice b.time ps o
todo_is b h input ps o is read found =
    ap (taken_pieces h b.time) read ∙ ap (λ (ts : List (List ℕ)). if_none_twice b.time ps (find (is_twice ts ps) ps)) (came_texts h b.holdings is.parts.pieces)
    ∙ ap (if_none_twice b.time ps) found

pub taken_exact : (b : BookView) (h : History) (input : Result (List Held) ℕ) (ps : List Held) (elements : List ℕ) (r : Result (List ℕ) TakeFault) → WalletRepresents b h → input ≡ Ok ps → ArePieces ps → elements ≡ pieces_bytes ps
    → TakesOf (texts_of b.holdings) ps elements r → Takes (taken_pieces h b.time input) b.time r
taken_exact b h input ps elements (Ok bytes) is read are spelled took =
    record { elements = record { pieces = ps; are = are; spelled = took.0 ∙ spelled }; entry = todo_is b h input ps None is read took.1 }
taken_exact b h input ps elements (Err (faults.Refused f)) is read are spelled took =
    todo_is b h input ps (Some took.0) is read took.1 ∙ ap (λ (g : Refusal). Err g) (sym took.2)
taken_exact b h input ps elements (Err faults.NoMemory) is read are spelled took = tt

pub taken_elements : (texts : List (List ℕ)) (ps : List Held) (elements : List ℕ) (r : Result (List ℕ) TakeFault) → ArePieces ps → elements ≡ pieces_bytes ps → TakesOf texts ps elements r → IfOk r AreElements
taken_elements texts ps elements (Ok bytes) are spelled took = record { pieces = ps; are = are; spelled = took.0 ∙ spelled }
taken_elements texts ps elements (Err f) are spelled took = tt

pub taken_may : (b : BookView) (h : History) (ps : List Held) (elements : List ℕ) (r : Result (List ℕ) TakeFault) → WalletRepresents b h → IsMoment b.time → ((qs : List Held) → ArePieces qs → elements ≡ pieces_bytes qs → TakesOf (texts_of b.holdings) qs elements r)
    → ArePieces ps → elements ≡ pieces_bytes ps → IfOk r (λ bytes. (qs : List Held) → ArePieces qs → bytes ≡ pieces_bytes qs → CanEnter h (Got b.time qs))
taken_may b h ps elements (Ok bytes) is moment took are spelled = λ qs fit same.
    let mine = took ps are spelled in
    taken_enters b h qs is moment fit (took qs fit (sym mine.0 ∙ same)).1
taken_may b h ps elements (Err f) is moment took are spelled = tt

-- the first that stands twice
pub took_none : (texts : List (List ℕ)) (ps : List Held) (elements bytes : List ℕ) → None ≡ option_map id_of (find (is_twice texts ps) ps) → bytes ≡ elements → TakesOf texts ps elements (Ok bytes)
took_none texts ps elements bytes told same = (same, go (find (is_twice texts ps) ps) told)
  where
    go : (o : Option Held) → None ≡ option_map id_of o → o ≡ None
    go None e = refl
    go (Some p) e = absurd cc

pub took_twice : (texts : List (List ℕ)) (ps : List Held) (elements : List ℕ) (id : ℕ) → Some id ≡ option_map id_of (find (is_twice texts ps) ps) → TakesOf texts ps elements (Err (faults.Refused (TwiceHeld id)))
took_twice texts ps elements id told = go (find (is_twice texts ps) ps) refl told
  where
    go : (o : Option Held) → find (is_twice texts ps) ps ≡ o → Some id ≡ option_map id_of o → TakesOf texts ps elements (Err (faults.Refused (TwiceHeld id)))
    go (Some p) found e = let same : id ≡ id_of p = cc in (p, found, ap (λ (n : ℕ). TwiceHeld n) same)
    go None found e = absurd cc

pub id_is : (p : Held) (q : Scrip) → piece_of p.text ≡ Some q → id_of p ≡ q.id
id_is p q is = ap (λ (o : Option Scrip). unwrap_or (option_map (λ x. x.id) o) 0) is
