-- What holds of books whose notes are in order.
use Rattle.std.proofs.Common.{◌≡◌, ℕ, max, ◌≤◌, List, [], ◌∷◌, ◌++◌, Option, Some, None, refl, sym, ap, subst, ◌∙◌, append-nil, append_assoc, option_and_then, arith}
use Rattle.std.specs.Prelude.{filter, sum_by, IfSome, MatchOption}
use Rattle.std.proofs.lemmas.List.Elements.{filter-append, filter_map-append}
use Rattle.std.proofs.lemmas.List.Sums.{sum_by-append}
use Rattle.mc_records.specs.Entry.{Entry, Accept, moment_of}
use Rattle.mc_records.specs.Following.{AllFollowBy}
use Rattle.ledger_model.specs.Histories.{History, time}
use Rattle.ledger_model.specs.Pieces.{accepted_piece}
use Rattle.ledger_model.specs.Stock.{Sale, sale_of, sales}
use Rattle.settle_core.specs.Claims.{claim_of, payment_of}
use Rattle.settle_core.specs.declared.claim.Claim.{Claim}
use Rattle.settle_core.specs.declared.claim.Payment.{Payment}
use Rattle.settle_core.specs.Settlement.{stated_bytes, paid_bytes, stated_by, paid_by, is_sold_in, sold_under, StatedInOrder, PaidInOrder, IsTextOf, IsInOrder}

-- what holds of some entries, and goes on to each that may follow them, holds of more
pub walk_by : (P : History → Type 0) (may : History → Entry → Type 0) → ((h : History) (e : Entry) → may h e → P h → P (h ++ e ∷ [])) → (before es : History) → AllFollowBy may before es → P before → P (before ++ es)
walk_by P may step before [] all base = subst P (sym (append-nil before)) base
walk_by P may step before (e ∷ es) all base =
    subst P (append_assoc before (e ∷ []) es) (walk_by P may step (before ++ e ∷ []) es all.1 (step before e all.0 base))

-- the same of entries that may follow in two ways
pub walk_both : (P : History → Type 0) (may order : History → Entry → Type 0) → ((h : History) (e : Entry) → may h e → order h e → P h → P (h ++ e ∷ [])) → (before es : History) → AllFollowBy may before es → AllFollowBy order before es → P before
    → P (before ++ es)
walk_both P may order step before [] all ordered base = subst P (sym (append-nil before)) base
walk_both P may order step before (e ∷ es) all ordered base =
    subst P (append_assoc before (e ∷ []) es) (walk_both P may order step (before ++ e ∷ []) es all.1 ordered.1 (step before e all.0 ordered.0 base))

-- one more entry that may follow
pub follow_last : (may : History → Entry → Type 0) (before es : History) (e : Entry) → AllFollowBy may before es → may (before ++ es) e → AllFollowBy may before (es ++ e ∷ [])
follow_last may before [] e all last = (subst (λ (k : History). may k e) (append-nil before) last, tt)
follow_last may before (x ∷ xs) e all last = (all.0, follow_last may (before ++ x ∷ []) xs e all.1 (subst (λ (k : History). may k e) (sym (append_assoc before (x ∷ []) xs)) last))

pub time_more : (h : History) (e : Entry) → time (h ++ e ∷ []) ≡ max (time h) (moment_of e)
time_more [] e = omega arith
time_more (x ∷ xs) e = omega (arith, time_more xs e)

-- what was sold under a licence never falls
pub sold_grows : (h : History) (e : Entry) (vendor : List ℕ) (issuer epoch : ℕ) → sold_under h vendor issuer epoch ≤ sold_under (h ++ e ∷ []) vendor issuer epoch
sold_grows h e vendor issuer epoch =
    let test = is_sold_in vendor issuer epoch in
    let is : sold_under (h ++ e ∷ []) vendor issuer epoch ≡ sum_by (λ (s : Sale). s.value) (filter test (sales h) ++ filter test (sales (e ∷ []))) =
    ap (λ (ss : List Sale). sum_by (λ (s : Sale). s.value) (filter test ss)) (filter_map-append sale_of h (e ∷ []))
    ∙ ap (sum_by (λ (s : Sale). s.value)) (filter-append test (sales h) (sales (e ∷ []))) in
    let parts = sum_by-append (λ (s : Sale). s.value) (filter test (sales h)) (filter test (sales (e ∷ []))) in
    omega (arith, is, parts)

-- ---- what a note says

-- bytes of a note that are read so
record SaysBy {A : Type 0} (read : List ℕ → Option A) (o : Option (List ℕ)) (x : A) : Type 0 where
  bytes : List ℕ
  is : o ≡ Some bytes
  read' : read bytes ≡ Some x

says : {A : Type 0} (read : List ℕ → Option A) (o : Option (List ℕ)) (x : A) → option_and_then read o ≡ Some x → SaysBy read o x
says read None x is = absurd cc
says read (Some bytes) x is = record { bytes = bytes; is = refl; read' = is }

-- what is read of a note in order is in order
read_in_order : {A : Type 0} (read : List ℕ → Option A) (P : A → Type 0) (o : Option (List ℕ)) (x : A) → IfSome o (IsTextOf read P) → option_and_then read o ≡ Some x → P x
read_in_order {A = A} read P o x order is =
    let s = says read o x is in
    let its : IsTextOf read P s.bytes = subst (λ (y : Option (List ℕ)). IfSome y (IsTextOf read P)) s.is order in
    subst (λ (y : Option A). MatchOption y ⊥ P) s.read' its

pub stated_in_order : (h : History) (e : Entry) (c : Claim) → IsInOrder h e → stated_by e ≡ Some c → StatedInOrder h (moment_of e) c
stated_in_order h e c order is = read_in_order claim_of (StatedInOrder h (moment_of e)) (stated_bytes e) c order.stated is

pub paid_in_order : (h : History) (e : Entry) (p : Payment) → IsInOrder h e → paid_by e ≡ Some p → PaidInOrder h (moment_of e) p
paid_in_order h e p order is = read_in_order payment_of (PaidInOrder h (moment_of e)) (paid_bytes e) p order.paid is

-- a note that states accepts nothing
pub states_alone : (e : Entry) (c : Claim) → stated_by e ≡ Some c → accepted_piece e ≡ None
states_alone (Accept m scrip target sign price change deed) c is = absurd cc
states_alone e c is = refl
