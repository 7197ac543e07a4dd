-- An entry that moves no money and no piece leaves all sums as they were.
use Rattle.std.proofs.Common.{◌≡◌, ℕ, ◌+◌, ◌-◌, List, [], ◌∷◌, ◌++◌, Option, Some, None, refl, sym, ap, ap₂, ◌∙◌, arith, append-nil}
use Rattle.std.specs.Prelude.{sum_by, filter_map}
use Rattle.std.specs.List.{cons_option}
use Rattle.std.proofs.lemmas.List.Elements.{filter_map-append}
use Rattle.mc_records.specs.Entry.{Entry, Site, Note, Switch}
use Rattle.ledger_model.specs.Histories.{History}
use Rattle.ledger_model.specs.Houses.{fee}
use Rattle.ledger_model.specs.Accounts.{account_name, account_names, amount_to, amount_from, balance, all_balances}
use Rattle.ledger_model.specs.Pieces.{accepted, own_out, handed_piece}
use Rattle.ledger_model.specs.Stock.{sales, sale_of}
use Rattle.ledger_model.specs.Sums.{amount_in, amount_out, fee_of, fees, price_paid}
use Rattle.ledger_model.proofs.ListLaws.{sum_snoc}
use Rattle.ledger_model.proofs.AcceptLaws.{accepted_snoc}
use Rattle.ledger_model.proofs.SerialLaws.{own_out_snoc}
use Rattle.ledger_model.proofs.MoneyLaws.{sum_same}
use Rattle.world_model.specs.Conservation.{OnlyTells, HaveTheSame, TimeMovesAlone}

sum_stays : (f : Entry → ℕ) (h : History) (e : Entry) → f e ≡ 0 → sum_by f (h ++ e ∷ []) ≡ sum_by f h
sum_stays f h e none = let s = sum_snoc f h e in omega (arith, s, none)

list_stays : {X : Type 0} (f : Entry → Option X) (h : History) (e : Entry) → f e ≡ None → filter_map f (h ++ e ∷ []) ≡ filter_map f h
list_stays f h e none = filter_map-append f h (e ∷ []) ∙ ap (λ o. filter_map f h ++ cons_option o []) none ∙ append-nil (filter_map f h)

same_balance : (h : History) (e : Entry) (name : List ℕ) → amount_to name e ≡ 0 → amount_from name e ≡ 0 → balance (h ++ e ∷ []) name ≡ balance h name
same_balance h e name in_ out = ap₂ (λ (a b : ℕ). a - b) (sum_stays (amount_to name) h e in_) (sum_stays (amount_from name) h e out)

balances : (h : History) (e : Entry) → ((name : List ℕ) → amount_to name e ≡ 0) → ((name : List ℕ) → amount_from name e ≡ 0) → account_name e ≡ None → all_balances (h ++ e ∷ []) ≡ all_balances h
balances h e in_ out none =
    ap (sum_by (balance (h ++ e ∷ []))) (list_stays account_name h e none) ∙ sum_same (balance (h ++ e ∷ [])) (balance h) (λ name. same_balance h e name (in_ name) (out name)) (account_names h)

front_fee : (x : Entry) (xs more : History) → fee (x ∷ xs ++ more) ≡ fee (x ∷ xs)
front_fee (Site m kind name house) xs more = refl
front_fee x xs more = refl

note_fee : (h : History) (m : ℕ) (tag bytes : List ℕ) → fee (h ++ Note m tag bytes ∷ []) ≡ fee h
note_fee [] m tag bytes = refl
note_fee (x ∷ xs) m tag bytes = front_fee x xs (Note m tag bytes ∷ [])

switch_fee : (h : History) (m : ℕ) (c : List ℕ) → fee (h ++ Switch m c ∷ []) ≡ fee h
switch_fee [] m c = refl
switch_fee (x ∷ xs) m c = front_fee x xs (Switch m c ∷ [])

same_fees : (h : History) (e : Entry) → fee (h ++ e ∷ []) ≡ fee h → fee_of (fee h) e ≡ 0 → fees (h ++ e ∷ []) ≡ fees h
same_fees h e same none = ap (λ (n : ℕ). sum_by (fee_of n) (h ++ e ∷ [])) same ∙ sum_stays (fee_of (fee h)) h e none

pub time_moves_alone : TimeMovesAlone
time_moves_alone h (Note m tag bytes) tells = record {
  paid_in = sum_stays amount_in h (Note m tag bytes) refl;
  paid_out = sum_stays amount_out h (Note m tag bytes) refl;
  accounts = balances h (Note m tag bytes) (λ name. refl) (λ name. refl) refl;
  fees = same_fees h (Note m tag bytes) (note_fee h m tag bytes) refl;
  takings = sum_stays price_paid h (Note m tag bytes) refl;
  accepted = accepted_snoc h (Note m tag bytes) ∙ append-nil (accepted h);
  sales = list_stays sale_of h (Note m tag bytes) refl;
  handed_out = own_out_snoc [] h (Note m tag bytes) ∙ append-nil (own_out h);
}
time_moves_alone h (Switch m c) tells = record {
  paid_in = sum_stays amount_in h (Switch m c) refl;
  paid_out = sum_stays amount_out h (Switch m c) refl;
  accounts = balances h (Switch m c) (λ name. refl) (λ name. refl) refl;
  fees = same_fees h (Switch m c) (switch_fee h m c) refl;
  takings = sum_stays price_paid h (Switch m c) refl;
  accepted = accepted_snoc h (Switch m c) ∙ append-nil (accepted h);
  sales = list_stays sale_of h (Switch m c) refl;
  handed_out = own_out_snoc [] h (Switch m c) ∙ append-nil (own_out h);
}
time_moves_alone h e tells = absurd tells
