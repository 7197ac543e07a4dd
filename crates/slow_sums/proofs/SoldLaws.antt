-- The pieces that a broker sold of a vendor, from an entry on.
use Rattle.std.proofs.Common.{◌≡◌, ℕ, ◌+◌, ◌<◌, Bool, true, false, cond, List, ◌∷◌, ◌++◌, length, drop, map, filter, filter_map, Option, Some, None, option_map, option_and_then, option_to_list, slice_get, IfSome, refl, ap, ◌∙◌, append_assoc}
use Rattle.std.specs.List.{cons_option}
use Rattle.scrip_form.specs.Scrip.{Scrip}
use Rattle.mc_records.specs.Entry.{Entry}
use Rattle.ledger_model.specs.Histories.{History}
use Rattle.ledger_model.specs.Stock.{Sale, sale_of, sold_piece, is_of_vendor}
use Rattle.audit_model.specs.declared.part.Part.{Part}
use Rattle.audit_model.specs.Parts.{part_of}
use Rattle.slow_sums.specs.Parts.{sold_to}
use Rattle.slow_ledger.proofs.SlowLaws.{from_next}
use Rattle.slow_sums.proofs.Lists.{if_some}

-- the pieces of a vendor that some entries of a broker's book sold
abbrev pub sold_by : History → List ℕ → History → List Part
sold_by h vendor es = map part_of (filter_map (sold_piece h) (filter (is_of_vendor vendor) (filter_map sale_of es)))

sold_cons : (h : History) (vendor : List ℕ) (e : Entry) (es : History)
    → sold_by h vendor (e ∷ es) ≡ option_to_list (option_map part_of (option_and_then (sold_to h vendor) (sale_of e))) ++ sold_by h vendor es
sold_cons h vendor e es = go (sale_of e)
  where
    rest : List Sale
    rest = filter_map sale_of es

    pieces : List Sale → List Part
    pieces ss = map part_of (filter_map (sold_piece h) ss)

    on : (o : Option Scrip) → map part_of (cons_option o (filter_map (sold_piece h) (filter (is_of_vendor vendor) rest))) ≡ option_to_list (option_map part_of o) ++ pieces (filter (is_of_vendor vendor) rest)
    on None = refl
    on (Some p) = refl

    by : (s : Sale) (b : Bool) → pieces (cond b (s ∷ filter (is_of_vendor vendor) rest) (filter (is_of_vendor vendor) rest)) ≡ option_to_list (option_map part_of (cond b (sold_piece h s) None)) ++ pieces (filter (is_of_vendor vendor) rest)
    by s true = on (sold_piece h s)
    by s false = refl

    go : (o : Option Sale) → pieces (filter (is_of_vendor vendor) (cons_option o rest)) ≡ option_to_list (option_map part_of (option_and_then (sold_to h vendor) o)) ++ pieces (filter (is_of_vendor vendor) rest)
    go None = refl
    go (Some s) = by s (is_of_vendor vendor s)

abbrev pub sold_parts : List Part → History → List ℕ → ℕ → List Part
sold_parts parts h vendor n = parts ++ sold_by h vendor (drop n h)

pub sold_more : (h : History) (vendor : List ℕ) (n : ℕ) (parts new whole : List Part) (r : Option Part) → n < length h → sold_parts parts h vendor n ≡ whole
    → IfSome (slice_get h n) (λ e. r ≡ option_map part_of (option_and_then (sold_to h vendor) (sale_of e))) → new ≡ parts ++ option_to_list r
    → sold_parts new h vendor (n + 1) ≡ whole
sold_more h vendor n parts new whole r lt so_far said is_new =
    ap (λ (l : List Part). l ++ sold_by h vendor (drop (n + 1) h)) is_new
    ∙ append_assoc parts (option_to_list r) (sold_by h vendor (drop (n + 1) h))
    ∙ ap (λ (l : List Part). parts ++ l)
    (from_next (λ (a b : List Part). a ++ b) (λ e. option_to_list (here e)) (sold_by h vendor) (sold_cons h vendor) h n (option_to_list r) lt
    (if_some _ _ (slice_get h n) (λ e is. ap (λ (o : Option Part). option_to_list o) is) said))
    ∙ so_far
  where
    here : Entry → Option Part
    here e = option_map part_of (option_and_then (sold_to h vendor) (sale_of e))
