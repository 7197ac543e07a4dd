-- An item stays whatever follows, and there is one reading of a link.
use Rattle.std.proofs.Common.{◌≡◌, ℕ, ◌+◌, ◌-◌, ◌≤◌, true, false, List, [], ◌∷◌, ◌++◌, inl, inr, length, take, drop, refl, sym, ◌∙◌, ap, subst, arith, length-append}
use Rattle.std.specs.Prelude.{slice_range}
use Rattle.std.proofs.lemmas.Bool.{cases_lt}
use Rattle.std.proofs.lemmas.List.{append-nil, take-append-le, drop-append-le, drop_all, take_all, length-take}
use Rattle.std.proofs.Math.Seq.{take-append-add}
use Rattle.httparse.proofs.GrammarLemmas.{request_unique}
use Rattle.mc_requests.specs.declared.refusal.Refusal.TheVariants.{HeadTooLarge}
use Rattle.millicent_http.specs.HeadEnds.{line_ends, ends_at, HasNoEnd, IsFirstEnd}
use Rattle.millicent_http.specs.Items.{Item, refused, closes, ReadsItem, judged_head, max_head, IsWhole, IsTooLarge, NextItem, EndsNoItem, AreItems}
use Rattle.millicent_http.proofs.EndLemmas.{first_end_stays, first_end_unique, text_stays}

-- the first n bytes are those that were there, and some of what follows
pub take_more : (n : ℕ) (a b : List ℕ) → (more : List ℕ) × (take n (a ++ b) ≡ take n a ++ more)
take_more n a b = elim (cases_lt (length a) n) [
  | inl lt ↦ (
    take (n - length a) b,
    let e : n ≡ length a + (n - length a) = omega arith in
        let f : take n a ≡ a = take_all n a (omega arith) in
        let g : take (length a + (n - length a)) (a ++ b) ≡ a ++ take (n - length a) b = take-append-add a b (n - length a) in
        ap (λ (k : ℕ). take k (a ++ b)) e ∙ g ∙ ap (λ (z : List ℕ). z ++ take (n - length a) b) (sym f),
  )
  | inr ge ↦ ([], take-append-le n a b ge ∙ sym (append-nil (take n a)))
]

whole_stays : (a b : List ℕ) (end : ℕ) (item : Item) (rest : List ℕ) → IsWhole a end item rest → IsWhole (a ++ b) end item (rest ++ b)
whole_stays a b end item rest w =
    let m = take_more max_head a b in
    let front : List ℕ = take max_head a in
    let within : end ≤ length (take max_head a) = w.first.within in
    let first : IsFirstEnd (take max_head a ++ m.0) end = first_end_stays (take max_head a) m.0 end w.first in
    let text : slice_range (take max_head a ++ m.0) (line_ends (take max_head a ++ m.0)) end ≡ slice_range (take max_head a) (line_ends (take max_head a)) end = text_stays (take max_head a) m.0 end w.first.within w.first.ends in
    let reads : ReadsItem (slice_range (take max_head a ++ m.0) (line_ends (take max_head a ++ m.0)) end) item = subst (λ (t : List ℕ). ReadsItem t item) (sym text) w.reads in
    record {
      first = subst (λ (f : List ℕ). IsFirstEnd f end) (sym m.1) first;
      reads = subst (λ (f : List ℕ). ReadsItem (slice_range f (line_ends f) end) item) (sym m.1) reads;
      after = ap (λ (z : List ℕ). z ++ b) w.after ∙ sym (drop-append-le end a b (omega (arith, within, length-take max_head a)));
    }

large_stays : (a b : List ℕ) (item : Item) (rest : List ℕ) → IsTooLarge a item rest → IsTooLarge (a ++ b) item (rest ++ b)
large_stays a b item rest t = record {
  none = subst (λ (f : List ℕ). HasNoEnd f max_head) (sym (take-append-le max_head a b t.long)) t.none;
  long = omega (arith, t.long, length-append a b);
  is = t.is;
  after = ap (λ (z : List ℕ). z ++ b) t.after ∙ sym (drop-append-le max_head a b t.long);
}

-- an item stays, whatever follows
pub next_stays : (a b : List ℕ) (item : Item) (rest : List ℕ) → NextItem a item rest → NextItem (a ++ b) item (rest ++ b)
next_stays a b item rest n = elim n [
  | inl w ↦ inl (w.0, whole_stays a b w.0 item rest w.1)
  | inr t ↦ inr (large_stays a b item rest t)
]

pub reads_unique : (text : List ℕ) (x y : Item) → ReadsItem text x → ReadsItem text y → x ≡ y
reads_unique text x y p q = elim p [
  | inl h ↦ elim q [
    | inl k ↦ h.2 ∙ ap judged_head (request_unique text h.0 k.0 [] [] h.1.whole k.1.whole).0 ∙ sym k.2
    | inr none ↦ absurd (none.0 h.0 h.1)
  ]
  | inr none ↦ elim q [
    | inl k ↦ absurd (none.0 k.0 k.1)
    | inr other ↦ none.1 ∙ sym other.1
  ]
]

-- a first end rules out that there is none
whole_or_large : (bytes : List ℕ) (end : ℕ) (x y : Item) (r s : List ℕ) → IsWhole bytes end x r → IsTooLarge bytes y s → ⊥
whole_or_large bytes end x y r s w t =
    let a : ends_at (take max_head bytes) end ≡ true = w.first.ends in
    let b : ends_at (take max_head bytes) end ≡ false = t.none end (omega (arith, w.first.within, length-take max_head bytes)) in
    cc

pub next_unique : (bytes : List ℕ) (x y : Item) (r s : List ℕ) → NextItem bytes x r → NextItem bytes y s → (x ≡ y) × (r ≡ s)
next_unique bytes x y r s p q = elim p [
  | inl w ↦ elim q [
    | inl v ↦
        let e : w.0 ≡ v.0 = first_end_unique (take max_head bytes) w.0 v.0 w.1.first v.1.first in
        let f = take max_head bytes in (
          reads_unique (slice_range f (line_ends f) v.0) x y (subst (λ (n : ℕ). ReadsItem (slice_range f (line_ends f) n) x) e w.1.reads) v.1.reads,
          w.1.after ∙ ap (λ (n : ℕ). drop n bytes) e ∙ sym v.1.after,
        )
    | inr t ↦ absurd (whole_or_large bytes w.0 x y r s w.1 t)
  ]
  | inr t ↦ elim q [
    | inl v ↦ absurd (whole_or_large bytes v.0 y x s r v.1 t)
    | inr u ↦ (t.is ∙ sym u.is, t.after ∙ sym u.after)
  ]
]

-- what ends no item begins with none
pub no_next : (bytes : List ℕ) (x : Item) (r : List ℕ) → EndsNoItem bytes → NextItem bytes x r → ⊥
no_next bytes x r e n =
    let all : take max_head bytes ≡ bytes = take_all max_head bytes (omega (arith, e.short)) in
    elim n [
      | inl w ↦
          let a : ends_at (take max_head bytes) w.0 ≡ true = w.1.first.ends in
          let b : ends_at bytes w.0 ≡ false = e.none w.0 (omega (arith, w.1.first.within, ap length all)) in
          let c : ends_at (take max_head bytes) w.0 ≡ ends_at bytes w.0 = ap (λ (f : List ℕ). ends_at f w.0) all in
          cc
      | inr t ↦ omega (arith, t.long, e.short)
    ]

pub items_unique : (limit : ℕ) (bytes : List ℕ) (xs ys : List Item) → AreItems limit bytes xs → AreItems limit bytes ys → xs ≡ ys
items_unique limit bytes [] [] p q = refl
items_unique limit bytes [] (y ∷ ys) p q = elim p [ inl z ↦ absurd (omega (arith, z, q.0)) | inr e ↦ absurd (no_next bytes y q.1.0 e q.1.1) ]
items_unique limit bytes (x ∷ xs) [] p q = elim q [ inl z ↦ absurd (omega (arith, z, p.0)) | inr e ↦ absurd (no_next bytes x p.1.0 e p.1.1) ]
items_unique limit bytes (x ∷ xs) (y ∷ ys) p q =
    let n = next_unique bytes x y p.1.0 q.1.0 p.1.1 q.1.1 in
    let same : closes x ≡ closes y = ap closes n.0 in
    elim (closes x) as (λ c. closes x ≡ c → (x ∷ xs) ≡ (y ∷ ys)) [
      | true ↦ λ e.
          let a : xs ≡ [] = p.1.2 e in
          let b : ys ≡ [] = q.1.2 (sym same ∙ e) in
          let c : x ≡ y = n.0 in
          cc
      | false ↦ λ e.
          let a : xs ≡ ys = items_unique (limit - 1) q.1.0 xs ys (subst (λ (r : List ℕ). AreItems (limit - 1) r xs) n.1 (p.1.3 e)) (q.1.3 (sym same ∙ e)) in
          let c : x ≡ y = n.0 in
          cc
    ] refl

pub max_head_is : max_head ≡ 8192
unfolding max_head
max_head_is = refl

-- the item of a buffer that has its end
pub next_whole : (bytes text rest : List ℕ) (end : ℕ) (item : Item) → length bytes ≤ max_head → IsFirstEnd bytes end
    → text ≡ slice_range bytes (line_ends bytes) end → ReadsItem text item → rest ≡ drop end bytes → NextItem bytes item rest
next_whole bytes text rest end item fits first is reads after =
    let all : take max_head bytes ≡ bytes = take_all max_head bytes fits in
    inl (
      end,
      record {
        first = subst (λ (f : List ℕ). IsFirstEnd f end) (sym all) first;
        reads = subst (λ (f : List ℕ). ReadsItem (slice_range f (line_ends f) end) item) (sym all) (subst (λ (t : List ℕ). ReadsItem t item) is reads);
        after = after;
      },
    )

-- the item of a full buffer that has no end
pub next_large : (bytes rest : List ℕ) → length bytes ≡ max_head → HasNoEnd bytes max_head → rest ≡ [] → NextItem bytes (refused HeadTooLarge true) rest
next_large bytes rest full none empty =
    let all : take max_head bytes ≡ bytes = take_all max_head bytes (omega (arith, full)) in
    inr (record {
      none = subst (λ (f : List ℕ). HasNoEnd f max_head) (sym all) none;
      long = omega (arith, full);
      is = refl;
      after = empty ∙ sym (drop_all max_head bytes (omega (arith, full)));
    })
