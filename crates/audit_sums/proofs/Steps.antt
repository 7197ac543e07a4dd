-- What is kept of a book at one more entry.
use Rattle.std.proofs.Common.{◌≡◌, ℕ, max, eqb, find, List, [], ◌∷◌, ◌++◌, map, filter_map, flat_map, Option, Some, None, option_map, option_to_list, Result, Ok, Err, OnOk, refl, sym, ap, ap₂, ◌∙◌, arith, append-nil, sum_by}
use Rattle.std.specs.List.{cons_option}
use Rattle.std.proofs.lemmas.List.{map-append}
use Rattle.std.proofs.lemmas.List.Elements.{filter_map-append}
use Rattle.std.proofs.lemmas.List.Concat.{flat_map-append}
use Rattle.mc_records.specs.Entry.{House, Entry, Site, moment_of}
use Rattle.scrip_form.specs.Issuing.{Issuing}
use Rattle.ledger_model.specs.Histories.{History, time}
use Rattle.ledger_model.specs.Houses.{site_name, site_kind, fee, terms_of, all_terms, terms_in}
use Rattle.ledger_model.specs.Pieces.{handed_piece, own_out}
use Rattle.ledger_model.specs.Stock.{Sale, sale_of, sales}
use Rattle.ledger_model.specs.Sums.{amount_in, amount_out, amount_credited, amount_drawn, fee_of, price_paid}
use Rattle.ledger_model.proofs.ListLaws.{sum_snoc, found_stays}
use Rattle.ledger_model.proofs.SerialLaws.{own_out_snoc}
use Rattle.audit_model.specs.declared.part.Part.{Part}
use Rattle.audit_model.specs.Parts.{part_of}
use Rattle.audit_sums.specs.declared.till.Till.{Till}
use Rattle.audit_model.specs.declared.sold.Sold.{Sold}
use Rattle.audit_model.specs.Sales.{sale_by}
use Rattle.audit_sums.specs.Learned.{Counts, ShowsMoney}

-- what holds after an Ok, by what held after it
pub after_ok : {A E P Q : Type 0} (r : Result A E) → (P → Q) → OnOk r P → OnOk r Q
after_ok (Ok x) so held = so held
after_ok (Err e) so held = held

-- ---- lists with one more element

one_option : {X : Type 0} (o : Option X) → option_to_list o ≡ cons_option o []
one_option None = refl
one_option (Some x) = refl

mapped_one : {A B : Type 0} (f : A → B) (o : Option A) → option_to_list (option_map f o) ≡ map f (option_to_list o)
mapped_one f None = refl
mapped_one f (Some x) = refl

-- rows of entries, with that of one more
pub rows_more : {X : Type 0} (f : Entry → Option X) (h : History) (e : Entry) (old new : List X) (r : Option X)
    → old ≡ filter_map f h → r ≡ f e → new ≡ old ++ option_to_list r → new ≡ filter_map f (h ++ e ∷ [])
rows_more {X = X} f h e old new r so_far here is =
    is ∙ ap₂ (λ (a : List X) (o : Option X). a ++ option_to_list o) so_far here
    ∙ ap (λ (l : List X). filter_map f h ++ l) (one_option (f e))
    ∙ sym (filter_map-append f h (e ∷ []))

-- lists of rows of entries, with those of one more
pub lists_more : {X : Type 0} (f : Entry → List X) (h : History) (e : Entry) (old new : List X)
    → old ≡ flat_map f h → new ≡ old ++ f e → new ≡ flat_map f (h ++ e ∷ [])
lists_more {X = X} f h e old new so_far is =
    is ∙ ap (λ (a : List X). a ++ f e) so_far
    ∙ ap (λ (l : List X). flat_map f h ++ l) (sym (append-nil (f e)))
    ∙ sym (flat_map-append f h (e ∷ []))

-- the sales, with that of one more entry
pub sales_more : (h : History) (e : Entry) (old new : List Sold) (r : Option Sold)
    → map sale_by old ≡ sales h → option_map sale_by r ≡ sale_of e → new ≡ old ++ option_to_list r → map sale_by new ≡ sales (h ++ e ∷ [])
sales_more h e old new r so_far here is =
    rows_more sale_of h e (map sale_by old) (map sale_by new) (option_map sale_by r) so_far here
    (ap (map sale_by) is ∙ map-append sale_by old (option_to_list r) ∙ ap (λ (l : List Sale). map sale_by old ++ l) (sym (mapped_one sale_by r)))

-- what was handed out, with that of one more entry
pub own_more : (h : History) (e : Entry) (old new : List Part) (r : Option Part)
    → old ≡ map part_of (own_out h) → r ≡ option_map part_of (handed_piece h e) → new ≡ old ++ option_to_list r → new ≡ map part_of (own_out (h ++ e ∷ []))
own_more h e old new r so_far here is =
    is ∙ ap₂ (λ (a : List Part) (o : Option Part). a ++ option_to_list o) so_far here
    ∙ ap (λ (l : List Part). map part_of (own_out h) ++ l) (mapped_one part_of (handed_piece h e))
    ∙ sym (map-append part_of (own_out h) (option_to_list (handed_piece h e)))
    ∙ ap (map part_of) (sym (own_out_snoc [] h e))

-- ---- the site

-- a history with a site begins with it
record IsFounded (h : History) : Type 0 where
  moment : ℕ
  kind : ℕ
  name : List ℕ
  of_house : Option House
  rest : History
  is : h ≡ Site moment kind name of_house ∷ rest

founded : (h : History) (k : ℕ) → site_kind h ≡ Some k → IsFounded h
founded (Site m kind name of_house ∷ es) k is = record { moment = m; kind = kind; name = name; of_house = of_house; rest = es; is = refl }
founded [] k is = absurd cc
founded _ k is = absurd cc

module _ (h : History) (e : Entry) (k : ℕ) (is : site_kind h ≡ Some k) where
  same : {X : Type 0} (f : History → X) → ((m n : ℕ) (name : List ℕ) (o : Option House) (es fs : History) → f (Site m n name o ∷ es) ≡ f (Site m n name o ∷ fs)) → f (h ++ e ∷ []) ≡ f h
  same f first =
      let x = founded h k is in
      ap (λ (g : History). f (g ++ e ∷ [])) x.is ∙ first x.moment x.kind x.name x.of_house (x.rest ++ e ∷ []) x.rest ∙ ap f (sym x.is)

  pub name_stays : site_name (h ++ e ∷ []) ≡ site_name h
  name_stays = same site_name (λ m n name o es fs. refl)

  pub kind_stays : site_kind (h ++ e ∷ []) ≡ site_kind h
  kind_stays = same site_kind (λ m n name o es fs. refl)

  pub fee_stays : fee (h ++ e ∷ []) ≡ fee h
  fee_stays = same fee (λ m n name o es fs. refl)

pub terms_stay : (h : History) (e : Entry) (t : Issuing) → terms_in h 0 ≡ Some t → terms_in (h ++ e ∷ []) 0 ≡ Some t
terms_stay h e t is =
    ap (λ (ts : List Issuing). find (λ x. eqb x.issuer 0) ts) (filter_map-append terms_of h (e ∷ []))
    ∙ found_stays (λ x. eqb x.issuer 0) (all_terms h) (filter_map terms_of (e ∷ [])) t is

pub time_more : (h : History) (e : Entry) → time (h ++ e ∷ []) ≡ max (time h) (moment_of e)
time_more [] e = omega arith
time_more (x ∷ xs) e = omega (arith, time_more xs e)

-- ---- money

pub money_more : (h : History) (e : Entry) (k n : ℕ) (old new : Till) → site_kind h ≡ Some k → fee h ≡ n → ShowsMoney old h → Counts old new n e → ShowsMoney new (h ++ e ∷ [])
money_more h e k n old new site cost shows counts = record {
  paid_in' = omega (arith, sum_snoc amount_in h e, shows.paid_in', counts.paid_in);
  paid_out' = omega (arith, sum_snoc amount_out h e, shows.paid_out', counts.paid_out);
  credited' = omega (arith, sum_snoc amount_credited h e, shows.credited', counts.credited);
  drawn' = omega (arith, sum_snoc amount_drawn h e, shows.drawn', counts.drawn);
  fees' =
      let so_far : sum_by (fee_of n) h ≡ old.fees = ap (λ (f : ℕ). sum_by (fee_of f) h) (sym cost) ∙ shows.fees' in
      ap (λ (f : ℕ). sum_by (fee_of f) (h ++ e ∷ [])) (fee_stays h e k site ∙ cost) ∙ omega (arith, sum_snoc (fee_of n) h e, so_far, counts.fees);
  takings' = omega (arith, sum_snoc price_paid h e, shows.takings', counts.takings);
}
