-- The shops of brokers' books, one by one.
use Rattle.std.proofs.Common.{◌≡◌, ℕ, zero, suc, ◌+◌, ◌<◌, ◌≤◌, arith, Bool, true, false, cond, not, List, [], ◌∷◌, ◌++◌, map, filter, filter_map, length, take, drop, get_or, Option, Some, None, refl, sym, ap, ap₂, ◌∙◌, subst, append-nil}
use Rattle.std.specs.List.{AllZip, AllByRecursion}
use Rattle.std.proofs.lemmas.List.{map-append}
use Rattle.std.proofs.lemmas.List.Concat.{flat_map-append}
use Rattle.mc_requests.specs.declared.limits.Limits.{Limits}
use Rattle.ledger_model.specs.Histories.{History}
use Rattle.ledger_model.specs.Houses.{is_broker}
use Rattle.ledger_model.specs.Stock.{Sale, sales, sold}
use Rattle.audit_model.specs.declared.part.Part.{Part}
use Rattle.audit_model.specs.Parts.{part_of}
use Rattle.audit_model.specs.Brokers.{sold_by}
use Rattle.audit_model.proofs.Strange.{sells_nothing}
use Rattle.audit_sums.specs.declared.audit_sums.BookSums.{BookSums}
use Rattle.audit_search.specs.declared.shops.Shops.{Shops}
use Rattle.audit_search.specs.Audit.{IsLearned, AreLearned, has_book}
use Rattle.audit_search.proofs.MarketLaws.{desk_is}
use Rattle.audit_search.proofs.AuditLaws.{vendor_book}
use Rattle.relayed_books.specs.Tree.{Sold, sold_as, all_sold, sold_over}
use Rattle.tree_search.specs.Desks.{IsDeskOf, AreDesksOf, StandsAt, AreDesks, sold_at_desks}

-- ---- one more element

pub zip_more : {A B : Type 0} (R : A → B → Type 0) (xs : List A) (ys : List B) (x : A) (y : B) → AllZip R xs ys → R x y → AllZip R (xs ++ x ∷ []) (ys ++ y ∷ [])
zip_more R [] [] x y all one = (one, tt)
zip_more R (a ∷ xs) (b ∷ ys) x y all one = (all.0, zip_more R xs ys x y all.1 one)
zip_more R [] (b ∷ ys) x y all one = absurd all
zip_more R (a ∷ xs) [] x y all one = absurd all

pub zip_long : {A B : Type 0} (R : A → B → Type 0) (xs : List A) (ys : List B) → AllZip R xs ys → length ys ≡ length xs
zip_long R [] [] all = refl
zip_long R (x ∷ xs) (y ∷ ys) all = ap suc (zip_long R xs ys all.1)
zip_long R [] (y ∷ ys) all = absurd all
zip_long R (x ∷ xs) [] all = absurd all

-- ---- by the histories

desk_at : (limits : Limits) (books : List BookSums) (hs : List History) → AreLearned limits books hs → (s : BookSums) (h : History) → IsLearned limits s h → (o : Option Shops) → IsDeskOf books s o → StandsAt (filter (λ g. not (is_broker g)) hs) h o
desk_at limits books hs all s h is None at = sym (desk_is limits s h is) ∙ at
desk_at limits books hs all s h is (Some shops) at = (sym (desk_is limits s h is) ∙ at.0, at.1 limits h hs is all)

pub desks_are : (limits : Limits) (books : List BookSums) (hs : List History) → AreLearned limits books hs → (ss : List BookSums) (gs : List History) (desks : List (Option Shops)) → AreLearned limits ss gs → AreDesksOf books ss desks
    → AreDesks (filter (λ g. not (is_broker g)) hs) gs desks
desks_are limits books hs all [] [] [] every of = tt
desks_are limits books hs all (s ∷ ss) (g ∷ gs) (d ∷ ds) every of = (desk_at limits books hs all s g every.0 d of.0, desks_are limits books hs all ss gs ds every.1 of.1)
desks_are limits books hs all [] (g ∷ gs) ds every of = absurd every
desks_are limits books hs all (s ∷ ss) [] ds every of = absurd every
desks_are limits books hs all [] [] (d ∷ ds) every of = absurd of
desks_are limits books hs all (s ∷ ss) (g ∷ gs) [] every of = absurd of

-- what was sold at all of them of a vendor that has a book
pub sold_is : (vs hs : List History) (desks : List (Option Shops)) (name : List ℕ) → AreDesks vs hs desks → has_book vs name ≡ true → sold_at_desks desks name ≡ map part_of (sold_by (filter is_broker hs) name)
sold_is vs [] [] name all any = refl
sold_is vs (h ∷ hs) (None ∷ ds) name all any =
    sold_is vs hs ds name all.1 any ∙ sym (ap (λ (b : Bool). map part_of (sold_by (cond b (h ∷ filter is_broker hs) (filter is_broker hs)) name)) all.0)
sold_is vs (h ∷ hs) (Some shops ∷ ds) name all any =
    ap₂ (λ (x y : List Part). x ++ y) (all.0.1.sold' name any) (sold_is vs hs ds name all.1 any)
    ∙ sym (map-append part_of (sold h name) (sold_by (filter is_broker hs) name))
    ∙ sym (ap (λ (b : Bool). map part_of (sold_by (cond b (h ∷ filter is_broker hs) (filter is_broker hs)) name)) all.0.0)
sold_is vs [] (d ∷ ds) name all any = absurd all
sold_is vs (h ∷ hs) [] name all any = absurd all

-- ---- the book at a place

pub record IsAt (limits : Limits) (vs hs : List History) (s : BookSums) (d : Option Shops) (n : ℕ) : Type 0 where
  pub history : History
  pub learned : IsLearned limits s history
  pub stands : StandsAt vs history d
  pub next : drop n hs ≡ history ∷ drop (n + 1) hs
  pub more : take (n + 1) hs ≡ take n hs ++ history ∷ []

pub book_at : (limits : Limits) (vs : List History) (books : List BookSums) (hs : List History) (desks : List (Option Shops)) (n : ℕ) (s : BookSums) (d : Option Shops) → AreLearned limits books hs → AreDesks vs hs desks
    → n < length books → s ≡ get_or books n s → d ≡ get_or desks n d → IsAt limits vs hs s d n
book_at limits vs [] [] desks n s d all stand lt is at = absurd (omega (arith, lt))
book_at limits vs (x ∷ books) (h ∷ hs) (y ∷ desks) zero s d all stand lt is at = record {
  history = h;
  learned = subst (λ (z : BookSums). IsLearned limits z h) (sym is) all.0;
  stands = subst (StandsAt vs h) (sym at) stand.0;
  next = refl;
  more = refl;
}
book_at limits vs (x ∷ books) (h ∷ hs) (y ∷ desks) (suc n) s d all stand lt is at =
    let r = book_at limits vs books hs desks n s d all.1 stand.1 (omega (arith, lt)) is at in
    let on : suc (n + 1) ≡ suc n + 1 = omega arith in
    record {
      history = r.history;
      learned = r.learned;
      stands = r.stands;
      next = r.next ∙ ap (λ (k : ℕ). r.history ∷ drop k (h ∷ hs)) on;
      more = ap (λ (k : ℕ). take k (h ∷ hs)) (sym on) ∙ ap (λ (l : List History). h ∷ l) r.more;
    }
book_at limits vs [] (h ∷ hs) desks n s d all stand lt is at = absurd all
book_at limits vs (x ∷ books) [] desks n s d all stand lt is at = absurd all
book_at limits vs (x ∷ books) (h ∷ hs) [] n s d all stand lt is at = absurd stand

-- a vendor's lawful book sold nothing
pub vendor_sold : (limits : Limits) (s : BookSums) (h : History) → IsLearned limits s h → is_broker h ≡ false → sales h ≡ []
vendor_sold limits s h is e = sells_nothing limits h (vendor_book limits s h is e)

-- what was sold up to the next book
pub sold_more : (hs : List History) (n : ℕ) (h : History) → take (n + 1) hs ≡ take n hs ++ h ∷ [] → sold_over (take (n + 1) hs) ≡ sold_over (take n hs) ++ all_sold h
sold_more hs n h more = ap sold_over more ∙ flat_map-append all_sold (take n hs) (h ∷ []) ∙ ap (λ (l : List Sold). sold_over (take n hs) ++ l) (append-nil (all_sold h))

-- nothing more where it is a vendor's
pub none_more : (h : History) (before : List Sold) → sales h ≡ [] → before ++ all_sold h ≡ before
none_more h before none = ap (λ (l : List Sale). before ++ filter_map (sold_as h) l) none ∙ append-nil before

pub learned_long : (limits : Limits) (ss : List BookSums) (hs : List History) → AreLearned limits ss hs → length hs ≡ length ss
learned_long limits [] [] all = refl
learned_long limits (s ∷ ss) (h ∷ hs) all = ap suc (learned_long limits ss hs all.1)
learned_long limits [] (h ∷ hs) all = absurd all
learned_long limits (s ∷ ss) [] all = absurd all

-- nothing is left behind the last
pub drop_none : {X : Type 0} (n : ℕ) (xs : List X) → length xs ≤ n → drop n xs ≡ []
drop_none zero [] le = refl
drop_none (suc n) [] le = refl
drop_none zero (x ∷ xs) le = absurd (omega (arith, le))
drop_none (suc n) (x ∷ xs) le = drop_none n xs (omega (arith, le))

-- what holds of all holds of the book at a place
pub holds_at : (P : History → Type 0) (hs : List History) (n : ℕ) (h : History) (rest : List History) → AllByRecursion P hs → drop n hs ≡ h ∷ rest → P h
holds_at P [] zero h rest all e = absurd (cc e)
holds_at P [] (suc n) h rest all e = absurd (cc e)
holds_at P (x ∷ xs) zero h rest all e = let same : x ≡ h = cc in subst P same all.0
holds_at P (x ∷ xs) (suc n) h rest all e = holds_at P xs n h rest all.1 e
