-- What is kept of books that were read as lawful ones.
use Rattle.std.proofs.Common.{◌≡◌, inl, inr, ℕ, Bool, true, false, ◌||◌, List, [], ◌∷◌, ◌++◌, Option, Some, None, refl, sym, ap, ◌∙◌, subst}
use Rattle.std.specs.List.{AllZip, list_any}
use Rattle.mc_outside.specs.DiskView.{DiskView}
use Rattle.mc_records.specs.Entry.{Entry, Site}
use Rattle.mc_requests.specs.declared.limits.TheConstants.Limits.{FULL}
use Rattle.ledger_model.specs.Histories.{History}
use Rattle.wallet_model.specs.Follows.{is_wallet, IsWalletBook, wallet_allows}
use Rattle.audit_sums.specs.declared.audit_sums.BookSums.{BookSums}
use Rattle.audit_search.specs.Audit.{IsLearned, AreLearned}
use Rattle.audit_cmd.specs.Reading.{ReadsAs, IsWalletsHistory, IsKeptOf}
use Rattle.audit_cmd.specs.Books.{AreTold, IsHousesHistory, IsHistoryOf, IsLawfulBook, HaveWallet}
use Rattle.audit_cmd.specs.Loops.{KeptOf}
use Rattle.audit_cmd.proofs.Zips.{zip_more, zip_weaker}

-- ---- whether a wallet is among them

or_true : (b : Bool) → (b || true) ≡ true
or_true true = refl
or_true false = refl

or_more : (b c d : Bool) → (c ≡ true → d ≡ true) → (b || c) ≡ true → (b || d) ≡ true
or_more true c d f is = refl
or_more false c d f is = f is

any_last : {X : Type 0} (test : X → Bool) (xs : List X) (x : X) → test x ≡ true → list_any test (xs ++ x ∷ []) ≡ true
any_last test [] x is = ap (λ (b : Bool). b || false) is
any_last test (y ∷ ys) x is = ap (λ (b : Bool). test y || b) (any_last test ys x is) ∙ or_true (test y)

any_more : {X : Type 0} (test : X → Bool) (xs : List X) (x : X) → list_any test xs ≡ true → list_any test (xs ++ x ∷ []) ≡ true
any_more test [] x is = absurd (cc is)
any_more test (y ∷ ys) x is = or_more (test y) (list_any test ys) (list_any test (ys ++ x ∷ [])) (any_more test ys x) is

first_is_wallet : (e : Entry) (es : History) → wallet_allows [] e ≡ true → is_wallet (e ∷ es) ≡ true
first_is_wallet (Site m kind name house) es allowed = allowed
first_is_wallet e es allowed = absurd (cc allowed)

book_is_wallet : (h : History) → IsWalletBook h → is_wallet h ≡ true
book_is_wallet [] lawful = absurd lawful
book_is_wallet (e ∷ es) lawful = first_is_wallet e es lawful.0.allowed

-- ---- lawful books

houses_zip : (xs : List (List ℕ)) (hs : List History) → AllZip IsHousesHistory xs hs → AllZip IsHistoryOf xs hs
houses_zip xs hs stand = zip_weaker IsHousesHistory IsHistoryOf (λ x h is. inl is) xs hs stand

-- ---- one more

learned_more : (ss : List BookSums) (hs : List History) (s : BookSums) (h : History) → AreLearned FULL ss hs → IsLearned FULL s h → AreLearned FULL (ss ++ s ∷ []) (hs ++ h ∷ [])
learned_more [] [] s h all one = (one, tt)
learned_more [] (g ∷ gs) s h all one = absurd all
learned_more (t ∷ ts) [] s h all one = absurd all
learned_more (t ∷ ts) (g ∷ gs) s h all one = (all.0, learned_more ts gs s h all.1 one)

houses_history : (x : List ℕ) (s : BookSums) (is : ReadsAs x s) → IsHousesHistory x is.history
houses_history x s is = record { of_bytes = is.of_bytes; lawful = is.learned.lawful }

-- a book of which this is kept is lawful
pub kept_lawful : (x : List ℕ) (read : Option BookSums) → IsKeptOf x read → IsLawfulBook x
kept_lawful x (Some s) is = (is.history, inl (houses_history x s is))
kept_lawful x None is = (is.0, inr is.1)

pub house_more : (xs : List (List ℕ)) (wallet : Bool) (ss : List BookSums) (x : List ℕ) (s : BookSums) → KeptOf xs wallet ss → ReadsAs x s → KeptOf (xs ++ x ∷ []) wallet (ss ++ s ∷ [])
house_more xs true ss x s kept is = record {
  histories = kept.histories ++ is.history ∷ [];
  stand = zip_more IsHistoryOf xs kept.histories x is.history kept.stand (inl (houses_history x s is));
  wallet = any_more is_wallet kept.histories is.history kept.wallet;
}
house_more xs false ss x s kept is = record {
  histories = kept.histories ++ is.history ∷ [];
  stand = zip_more IsHousesHistory xs kept.histories x is.history kept.stand (houses_history x s is);
  learned = learned_more ss kept.histories s is.history kept.learned is.learned;
}

wallet_last : (xs : List (List ℕ)) (hs : List History) (x : List ℕ) (h : History) → AllZip IsHistoryOf xs hs → IsWalletsHistory x h → HaveWallet (xs ++ x ∷ [])
wallet_last xs hs x h stand is = record {
  histories = hs ++ h ∷ [];
  stand = zip_more IsHistoryOf xs hs x h stand (inr is);
  wallet = any_last is_wallet hs h (book_is_wallet h is.lawful);
}

pub wallet_more : (xs : List (List ℕ)) (wallet : Bool) (ss : List BookSums) (x : List ℕ) → KeptOf xs wallet ss → IsKeptOf x None → KeptOf (xs ++ x ∷ []) true ss
wallet_more xs true ss x kept is = wallet_last xs kept.histories x is.0 kept.stand is.1
wallet_more xs false ss x kept is = wallet_last xs kept.histories x is.0 (houses_zip xs kept.histories kept.stand) is.1

-- nothing is kept of no books
pub none_kept : {D : Type 0} (view : D → DiskView) (xs : List (List ℕ)) (ss : List BookSums) → ss ≡ [] → AreTold view [] xs → KeptOf xs false ss
none_kept view [] ss is told = record { histories = []; stand = tt; learned = subst (λ (l : List BookSums). AreLearned FULL l []) (sym is) tt }
none_kept view (x ∷ xs) ss is told = absurd told
