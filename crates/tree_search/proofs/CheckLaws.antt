-- What is found of one book is what its history says.
use Rattle.std.proofs.Common.{◌≡◌, ℕ, Bool, true, false, cond, List, [], ◌∷◌, ◌++◌, map, filter, filter_map, sum_by, Option, Some, None, option_map, Ok, Err, refl, sym, ap, ap₂, ◌∙◌, append-nil}
use Rattle.std.specs.Prelude.{option_and_then, option_to_list, is_some}
use Rattle.std.specs.Option.{option_or}
use Rattle.std.specs.List.{list_any, cons_option}
use Rattle.std.proofs.lemmas.List.{map-append}
use Rattle.scrip_form.specs.Scrip.{Scrip}
use Rattle.mc_requests.specs.declared.limits.Limits.{Limits}
use Rattle.mc_records.specs.Entry.{Accept}
use Rattle.ledger_model.specs.Histories.{History}
use Rattle.ledger_model.specs.Houses.{site_name, is_broker}
use Rattle.ledger_model.specs.Pieces.{piece_of, own_out, is_spent}
use Rattle.ledger_model.specs.Stock.{Sale, sale_of, sales}
use Rattle.ledger_model.specs.Sums.{values, outstanding, lapsed}
use Rattle.audit_model.specs.declared.part.Part.{Part}
use Rattle.audit_model.specs.Parts.{part_of}
use Rattle.audit_model.specs.Meets.{is_among}
use Rattle.audit_model.specs.Strangers.{stranger, first_of}
use Rattle.audit_model.specs.Brokers.{sold_by, again, handed_by}
use Rattle.audit_sums.specs.declared.rows.Acceptance.{Acceptance}
use Rattle.audit_sums.specs.declared.audit_sums.BookSums.{BookSums}
use Rattle.audit_sums.specs.Rows.{acceptance_of}
use Rattle.audit_sums.specs.Learned.{name_of, time_of, accepted_of, own_out_of}
use Rattle.audit_search.specs.declared.shops.Shops.{Shops}
use Rattle.audit_search.specs.declared.spent.Left.{Left}
use Rattle.audit_search.specs.declared.check.CheckFault.{CheckFault}
use Rattle.audit_search.specs.declared.check.CheckFault.TheVariants as faults
use Rattle.audit_search.specs.Known.{has_part, was_accepted}
use Rattle.audit_search.specs.Strange.{not_in, next_sale, later_sales, strange_of, first_in}
use Rattle.audit_search.specs.Checks.{left_at}
use Rattle.audit_search.specs.Audit.{IsLearned, has_book}
use Rattle.audit_search.proofs.Ties.{is_same, parts_are, accepted_is, out_is, gone_is}
use Rattle.audit_search.proofs.StrangeLaws.{first_append, tells}
use Rattle.audit_search.proofs.MarketLaws.{desk_is}
use Rattle.audit_search.proofs.AuditLaws.{first_alike}
use Rattle.relayed_books.specs.Tree.{Sold, sold_as, is_genuine, handed_at, sold_stranger, strangers_from}
use Rattle.tree_search.specs.declared.check.Checked.{Checked}
use Rattle.tree_search.specs.Desks.{AreDesks, sold_at_desks}
use Rattle.tree_search.specs.Handed.{fresh, stale, value_of, handed_parts, sold_again}
use Rattle.tree_search.specs.Verdicts.{verdicts}
use Rattle.tree_search.specs.Checks.{stranger_by, FindsIn, first_strange, IsSound, IsChecked}
use Rattle.tree_search.proofs.HandedLaws.{fresh_is, stale_is}
use Rattle.tree_search.proofs.DeskLaws as desks

-- ---- the entries of a book

module _ (genuine : Sold → Bool) (handed : History → List Scrip) (h : History) (has : ℕ → ℕ → Bool) (same : (p : Scrip) → has p.id p.value ≡ is_among (handed h) p) where
  abbrev told : Option ℕ → Option ℕ
  told o = o

  one : (o : Option Scrip) (x : Option ℕ) (ids rest : List ℕ) → x ≡ first_of ids
      → (y : Option ℕ) → y ≡ first_of rest
      → option_or (option_or (not_in has (option_map part_of o)) x) y ≡ first_of ((stranger (is_among (handed h)) o ++ ids) ++ rest)
  one o x ids rest e y f =
      ap₂ (λ (p q : Option ℕ). option_or p q) (ap₂ (λ (p q : Option ℕ). option_or p q) (tells has (is_among (handed h)) same o) e ∙ sym (first_append (stranger (is_among (handed h)) o) ids)) f
      ∙ sym (first_append (stranger (is_among (handed h)) o ++ ids) rest)

  pub first_is : (earlier : List Sold) (es : History)
      → first_in (not_in has) told (filter_map acceptance_of es) (verdicts genuine earlier h (sales es)) ≡ first_of (strangers_from genuine handed earlier h es)
  first_is earlier [] = refl
  first_is earlier (Accept m scrip target sign price change deed ∷ es) = go (sale_of (Accept m scrip target sign price change deed)) (λ x. first_is x es)
    where
      go : (o : Option Sale) → ((x : List Sold) → first_in (not_in has) told (filter_map acceptance_of es) (verdicts genuine x h (sales es)) ≡ first_of (strangers_from genuine handed x h es))
          → option_or (strange_of (not_in has) told (record { piece = option_map part_of (piece_of scrip); sale = is_some o }) (next_sale (is_some o) (verdicts genuine earlier h (cons_option o (sales es)))))
          (first_in (not_in has) told (filter_map acceptance_of es) (later_sales (is_some o) (verdicts genuine earlier h (cons_option o (sales es)))))
          ≡ first_of ((stranger (is_among (handed h)) (piece_of scrip) ++ sold_stranger genuine earlier (option_and_then (sold_as h) o))
          ++ strangers_from genuine handed (earlier ++ option_to_list (option_and_then (sold_as h) o)) h es)
      go None later =
          one (piece_of scrip) None [] (strangers_from genuine handed earlier h es) refl (first_in (not_in has) told (filter_map acceptance_of es) (verdicts genuine earlier h (sales es))) (later earlier)
          ∙ ap (λ (x : List Sold). first_of ((stranger (is_among (handed h)) (piece_of scrip) ++ []) ++ strangers_from genuine handed x h es)) (sym (append-nil earlier))
      go (Some s) later =
          one (piece_of scrip) (first_of (sold_stranger genuine earlier (sold_as h s))) (sold_stranger genuine earlier (sold_as h s))
          (strangers_from genuine handed (earlier ++ option_to_list (sold_as h s)) h es) refl
          (first_in (not_in has) told (filter_map acceptance_of es) (verdicts genuine (earlier ++ option_to_list (sold_as h s)) h (sales es))) (later (earlier ++ option_to_list (sold_as h s)))
  first_is earlier (e ∷ es) = first_is earlier es ∙ ap (λ (x : List Sold). first_of (strangers_from genuine handed x h es)) (sym (append-nil earlier))

-- ---- a book

module _ (limits : Limits) (hs vs : List History) (all : List (Option Shops)) (s : BookSums) (h : History) (is : IsLearned limits s h) (stand : AreDesks vs hs all) (any : is_broker h ≡ false → has_book vs (site_name h) ≡ true) where
  abbrev bs : List History
  bs = filter is_broker hs

  -- what was handed out of it
  pub handed_is : handed_parts all s ≡ map part_of (handed_at bs h)
  handed_is = ap (λ (b : Bool). cond b (own_out_of s) (fresh [] (sold_at_desks all (name_of s) ++ own_out_of s))) (desk_is limits s h is) ∙ go (is_broker h) refl
    where
      go : (b : Bool) → is_broker h ≡ b → cond b (own_out_of s) (fresh [] (sold_at_desks all (name_of s) ++ own_out_of s)) ≡ map part_of (cond b (own_out h) (handed_by bs h))
      go true e = is.sums.pieces'.own_out'
      go false e =
          ap₂ (λ (n : List ℕ) (own : List Part). fresh [] (sold_at_desks all n ++ own)) (sym is.sums.name') is.sums.pieces'.own_out'
          ∙ ap (λ (l : List Part). fresh [] (l ++ map part_of (own_out h))) (desks.sold_is vs hs all (site_name h) stand (any e))
          ∙ ap (fresh []) (sym (map-append part_of (sold_by bs (site_name h)) (own_out h)))
          ∙ fresh_is [] (sold_by bs (site_name h) ++ own_out h)

  pub again_is : sold_again all s ≡ cond (is_broker h) 0 (values (again (sold_by bs (site_name h))))
  again_is = ap (λ (b : Bool). cond b 0 (sum_by value_of (stale [] (sold_at_desks all (name_of s))))) (desk_is limits s h is) ∙ go (is_broker h) refl
    where
      go : (b : Bool) → is_broker h ≡ b → cond b 0 (sum_by value_of (stale [] (sold_at_desks all (name_of s)))) ≡ cond b 0 (values (again (sold_by bs (site_name h))))
      go true e = refl
      go false e =
          ap (λ (n : List ℕ). sum_by value_of (stale [] (sold_at_desks all n))) (sym is.sums.name')
          ∙ ap (λ (l : List Part). sum_by value_of (stale [] l)) (desks.sold_is vs hs all (site_name h) stand (any e))
          ∙ stale_is [] (sold_by bs (site_name h))

  spent : (id : ℕ) → was_accepted (accepted_of s) id ≡ is_spent h id
  spent id = ap (λ (l : List Acceptance). was_accepted l id) is.sums.pieces'.accepted' ∙ accepted_is id h

  -- its first stranger
  pub stranger_is : (earlier : List Sold) (told : List (Option ℕ)) → told ≡ verdicts (is_genuine bs vs) earlier h (sales h) → stranger_by (handed_parts all s) told s ≡ first_strange bs vs earlier h
  stranger_is earlier told is_told =
      first_alike (has_part (handed_parts all s)) (λ id value. list_any (is_same id value) (handed_at bs h)) (λ (o : Option ℕ). o)
      (λ id value. ap (λ (l : List Part). has_part l id value) handed_is ∙ parts_are id value (handed_at bs h)) (accepted_of s) told
      ∙ ap₂ (λ (l : List Acceptance) (x : List (Option ℕ)). first_in (not_in (λ id value. list_any (is_same id value) (handed_at bs h))) (λ (o : Option ℕ). o) l x) is.sums.pieces'.accepted' is_told
      ∙ first_is (is_genuine bs vs) (handed_at bs) h (λ id value. list_any (is_same id value) (handed_at bs h)) (λ p. refl) earlier h

  -- what a check of it answers
  pub sound : (earlier : List Sold) (told : List (Option ℕ)) (parts : List Part) (left : Left) (sum : ℕ) (c : Checked) → told ≡ verdicts (is_genuine bs vs) earlier h (sales h) → parts ≡ handed_parts all s
      → FindsIn parts told s (Ok left) → sum ≡ sold_again all s → c.left ≡ left → c.again ≡ sum → IsSound bs vs earlier h c
  sound earlier told parts left sum c is_told are found sums is_left is_again = record {
    none = sym (stranger_is earlier told is_told) ∙ ap (λ (l : List Part). stranger_by l told s) (sym are) ∙ found.0;
    outstanding' = ap (λ (l : Left). l.outstanding) (is_left ∙ found.1) ∙ ap (λ (l : List Part). (left_at l s).outstanding) (are ∙ handed_is)
        ∙ out_is h (was_accepted (accepted_of s)) (time_of s) spent is.sums.time' (handed_at bs h);
    lapsed' = ap (λ (l : Left). l.lapsed) (is_left ∙ found.1) ∙ ap (λ (l : List Part). (left_at l s).lapsed) (are ∙ handed_is)
        ∙ gone_is h (was_accepted (accepted_of s)) (time_of s) spent is.sums.time' (handed_at bs h);
    again' = is_again ∙ sums ∙ again_is;
  }

  pub strange : (earlier : List Sold) (told : List (Option ℕ)) (parts : List Part) (fault : CheckFault) → told ≡ verdicts (is_genuine bs vs) earlier h (sales h) → parts ≡ handed_parts all s
      → FindsIn parts told s (Err fault) → IsChecked bs vs earlier h (Err fault)
  strange earlier told parts (faults.Stranger id) is_told are found = sym (stranger_is earlier told is_told) ∙ ap (λ (l : List Part). stranger_by l told s) (sym are) ∙ found
  strange earlier told parts faults.NoMemory is_told are found = tt
