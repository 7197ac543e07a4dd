-- What is found of lawful books, none of which is a wallet's.
use Rattle.std.proofs.Common.{◌≡◌, ◌<◌, inr, refl, ℕ, zero, suc, Bool, false, List, [], ◌∷◌, length, Some, Result, Err, subst, arith}
use Rattle.std.specs.Prelude.{IfSome, slice_get}
use Rattle.mc_requests.specs.declared.limits.TheConstants.Limits.{FULL}
use Rattle.ledger_model.specs.Histories.{History}
use Rattle.audit_search.specs.declared.fault.BooksFault.{BooksFault}
use Rattle.audit_search.specs.declared.fault.BooksFault.TheVariants as founds
use Rattle.audit_search.specs.Audit.{AreLearned, NamesBook}
use Rattle.audit_sums.specs.declared.audit_sums.BookSums.{BookSums}
use Rattle.audit_cmd.specs.Books.{AreAuditedBy, FindsBy, IsOfAll, CountsBy, told_book, fault_of}
use Rattle.audit_cmd.specs.Loops.{AreKept, KeptOf}

pub fault_found : {R : Type 0} (Audits : List History → Result R BooksFault → Type 0) (books : List (List ℕ)) (fault : BooksFault) → AreAuditedBy Audits books (Err fault) → FindsBy Audits books (Err (fault_of fault))
fault_found Audits books founds.BadBooks is = inr is
fault_found Audits books (founds.MissingBook name) is = is
fault_found Audits books (founds.Stranger book name id) is = is
fault_found Audits books founds.NoMemory is = tt

pub fault_calm : (R : Type 0) (fault : BooksFault) (before : List ℕ) → CountsBy {A = R} (Err (fault_of fault)) before before
fault_calm R founds.BadBooks before = refl
fault_calm R (founds.MissingBook name) before = refl
fault_calm R (founds.Stranger book name id) before = refl
fault_calm R founds.NoMemory before = refl

pub fault_of_all : (R : Type 0) (fault : BooksFault) → IsOfAll {A = R} (Err (fault_of fault))
fault_of_all R founds.BadBooks = tt
fault_of_all R (founds.MissingBook name) = tt
fault_of_all R (founds.Stranger book name id) = tt
fault_of_all R founds.NoMemory = tt

pub fault_place : (R : Type 0) (houses : List BookSums) (fault : BooksFault) → NamesBook {R = R} houses (Err fault) → IfSome (told_book {A = R} (Err (fault_of fault))) (λ book. book < length houses)
fault_place R houses founds.BadBooks named = tt
fault_place R houses (founds.MissingBook name) named = tt
fault_place R houses (founds.Stranger book name id) (s, there, is) = within houses book s there
  where
    within : (ss : List BookSums) (n : ℕ) (x : BookSums) → slice_get ss n ≡ Some x → n < length ss
    within [] n x e = absurd cc
    within (y ∷ ss) zero x e = omega arith
    within (y ∷ ss) (suc n) x e = omega (arith, within ss n x e)
fault_place R houses founds.NoMemory named = tt

-- what is found of houses, where no book is a wallet's
pub kept_audited : {R : Type 0} (Audits : List History → Result R BooksFault → Type 0) (books : List (List ℕ)) (wallet : Bool) (houses : List BookSums) (found : Result R BooksFault) → wallet ≡ false → KeptOf books wallet houses
    → ((hs : List History) → AreLearned FULL houses hs → Audits hs found) → AreAuditedBy Audits books found
kept_audited Audits books wallet houses found none kept audited =
    let k : AreKept books houses = subst (λ (w : Bool). KeptOf books w houses) none kept in
    record { histories = k.histories; stand = k.stand; audited = audited k.histories k.learned }
