-- The pieces that a house handed out, from an entry on.
use Rattle.std.proofs.Common.{◌≡◌, ℕ, ◌+◌, ◌<◌, List, [], ◌∷◌, ◌++◌, length, take, drop, map, Option, option_map, option_to_list, slice_get, IfSome, sym, ap, ◌∙◌, subst, append_assoc}
use Rattle.scrip_form.specs.Scrip.{Scrip}
use Rattle.ledger_model.specs.Histories.{History}
use Rattle.ledger_model.specs.Pieces.{handed_piece, own_out_from}
use Rattle.audit_model.specs.declared.part.Part.{Part}
use Rattle.audit_model.specs.Parts.{part_of}
use Rattle.slow_ledger.proofs.SlowLaws.{next, of_next}
use Rattle.slow_sums.proofs.Lists.{map_append, mapped_option}

-- so many pieces are among the parts, and these are left
abbrev pub own_parts : List Part → History → ℕ → List Part
own_parts parts h n = parts ++ map part_of (own_out_from (take n h) (drop n h))

pub own_more : (h : History) (n : ℕ) (parts new whole : List Part) (r : Option Part) → n < length h → own_parts parts h n ≡ whole
    → IfSome (slice_get h n) (λ e. r ≡ option_map part_of (handed_piece (take n h) e)) → new ≡ parts ++ option_to_list r
    → own_parts new h (n + 1) ≡ whole
own_more h n parts new whole r lt so_far said is_new =
    let x = next h n lt in
    let es : History = drop (n + 1) h in
    let handed : List Scrip = option_to_list (handed_piece (take n h) x.entry) in
    let rest : List Scrip = own_out_from (take n h ++ x.entry ∷ []) es in
    let is : option_to_list r ≡ map part_of handed =
    ap (λ (o : Option Part). option_to_list o) (of_next (λ e. r ≡ option_map part_of (handed_piece (take n h) e)) h n x said) ∙ mapped_option part_of (handed_piece (take n h) x.entry) in
    let here : parts ++ map part_of (handed ++ rest) ≡ whole = subst (λ (t : History). parts ++ map part_of (own_out_from (take n h) t) ≡ whole) x.rest so_far in
    ap (λ (l : List Part). l ++ map part_of (own_out_from (take (n + 1) h) es)) is_new
    ∙ ap (λ (t : History). (parts ++ option_to_list r) ++ map part_of (own_out_from t es)) x.front
    ∙ ap (λ (l : List Part). (parts ++ l) ++ map part_of rest) is
    ∙ append_assoc parts (map part_of handed) (map part_of rest)
    ∙ ap (λ (l : List Part). parts ++ l) (sym (map_append part_of handed rest))
    ∙ here
