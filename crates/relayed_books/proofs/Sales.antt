-- Sales that stand together, and those of some books.
use Rattle.std.proofs.Common.{◌≡◌, Bool, true, false, cond, List, [], ◌∷◌, ◌++◌, Option, Some, None, refl, sym, ap, subst, ◌∙◌, append-nil, append_assoc, option_and_then}
use Rattle.std.specs.Prelude.{filter, filter_map, option_to_list}
use Rattle.std.specs.List.{list_any, cons_option, AllByRecursion}
use Rattle.mc_records.specs.Entry.{Entry}
use Rattle.ledger_model.specs.Histories.{History}
use Rattle.ledger_model.specs.Houses.{is_broker}
use Rattle.ledger_model.specs.Stock.{Sale, sale_of, sales}
use Rattle.relayed_books.specs.Tree.{Sold, sold_as, sold_by_entry, all_sold, sold_over, clash, StandTogether}

-- ---- what a book sold, entry by entry

-- what some entries of a book sold
abbrev pub sold_in : History → History → List Sold
sold_in h es = filter_map (sold_as h) (sales es)

pub sold_cons : (h : History) (e : Entry) (es : History) → sold_in h (e ∷ es) ≡ cons_option (sold_by_entry h e) (sold_in h es)
sold_cons h e es = go (sale_of e)
  where
    go : (o : Option Sale) → filter_map (sold_as h) (cons_option o (sales es)) ≡ cons_option (option_and_then (sold_as h) o) (sold_in h es)
    go None = refl
    go (Some s) = refl

-- ---- together

pub together_cons : (earlier : List Sold) (o : Option Sold) (ss : List Sold) → ((s : Sold) → o ≡ Some s → list_any (clash s) earlier ≡ false)
    → StandTogether (earlier ++ option_to_list o) ss → StandTogether earlier (cons_option o ss)
together_cons earlier None ss one rest = subst (λ (x : List Sold). StandTogether x ss) (append-nil earlier) rest
together_cons earlier (Some s) ss one rest = (one s refl, rest)

pub together_uncons : (earlier : List Sold) (o : Option Sold) (ss : List Sold) → StandTogether earlier (cons_option o ss)
    → ((s : Sold) → o ≡ Some s → list_any (clash s) earlier ≡ false) × StandTogether (earlier ++ option_to_list o) ss
together_uncons earlier None ss all = ((λ s e. absurd cc), subst (λ (x : List Sold). StandTogether x ss) (sym (append-nil earlier)) all)
together_uncons earlier (Some s) ss all = ((λ t e. let same : s ≡ t = cc in subst (λ (x : Sold). list_any (clash x) earlier ≡ false) same all.0), all.1)

pub together_append : (earlier xs ys : List Sold) → StandTogether earlier xs → StandTogether (earlier ++ xs) ys → StandTogether earlier (xs ++ ys)
together_append earlier [] ys xs_stand rest = subst (λ (x : List Sold). StandTogether x ys) (append-nil earlier) rest
together_append earlier (x ∷ xs) ys xs_stand rest =
    (xs_stand.0, together_append (earlier ++ x ∷ []) xs ys xs_stand.1 (subst (λ (z : List Sold). StandTogether z ys) (sym (append_assoc earlier (x ∷ []) xs)) rest))

pub together_parts : (earlier xs ys : List Sold) → StandTogether earlier (xs ++ ys) → StandTogether earlier xs × StandTogether (earlier ++ xs) ys
together_parts earlier [] ys all = (tt, subst (λ (x : List Sold). StandTogether x ys) (sym (append-nil earlier)) all)
together_parts earlier (x ∷ xs) ys all =
    let more = together_parts (earlier ++ x ∷ []) xs ys all.1 in
    ((all.0, more.0), subst (λ (z : List Sold). StandTogether z ys) (append_assoc earlier (x ∷ []) xs) more.1)

-- ---- brokers alone sell

pub only_brokers : (books : List History) → AllByRecursion (λ h. is_broker h ≡ false → sales h ≡ []) books → sold_over books ≡ sold_over (filter is_broker books)
only_brokers [] none = refl
only_brokers (h ∷ hs) none = go (is_broker h) none.0 (only_brokers hs none.1)
  where
    go : (b : Bool) → (b ≡ false → sales h ≡ []) → sold_over hs ≡ sold_over (filter is_broker hs) → all_sold h ++ sold_over hs ≡ sold_over (cond b (h ∷ filter is_broker hs) (filter is_broker hs))
    go true nothing ih = ap (λ (ss : List Sold). all_sold h ++ ss) ih
    go false nothing ih = ap (λ (ss : List Sale). filter_map (sold_as h) ss ++ sold_over hs) (nothing refl) ∙ ih
