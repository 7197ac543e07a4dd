-- The first item of a whole list of bytes.
use Rattle.std.proofs.Common.{◌≡◌, ◌↔◌, ℕ, ◌≤◌, ◌<◌, true, false, List, length, take, drop, min, refl, sym, ◌∙◌, ap, subst, arith, inl, inr}
use Rattle.std.specs.Prelude.{slice_range}
use Rattle.std.proofs.Math.Nat.{min_comm}
use Rattle.std.proofs.lemmas.Bool.{cases_lt, true≢false}
use Rattle.std.proofs.lemmas.List.{take_min, length-take, take_all}
use Rattle.mc_requests.specs.declared.refusal.Refusal.TheVariants.{HeadTooLarge}
use Rattle.millicent_http.specs.HeadEnds.{line_ends, HasNoEnd, IsFirstEnd}
use Rattle.millicent_http.specs.Items.{Item, refused, max_head, ReadsItem, NextItem, EndsNoItem}
use Rattle.millicent_http.proofs.EndLemmas.{no_end_front}
use Rattle.millicent_http.proofs.ItemLemmas.{max_head_is}

-- the bytes that a head may lie in
pub window_is : (bytes : List ℕ) (n : ℕ) → n ≡ min (length bytes) 8192 → take n bytes ≡ take max_head bytes
window_is bytes n e = rw (e, min_comm (length bytes) 8192, max_head_is) (take_min 8192 bytes)

-- a first end lies behind the line ends at the front
pub end_behind : (bytes : List ℕ) (end : ℕ) → IsFirstEnd bytes end → line_ends bytes ≤ end
end_behind bytes end f = elim (cases_lt end (line_ends bytes)) [
  | inl lt ↦ absurd (true≢false (sym f.ends ∙ no_end_front bytes end (omega arith)))
  | inr ge ↦ ge
]

pub whole_item : (bytes window rest : List ℕ) (skip end : ℕ) (item : Item) → window ≡ take max_head bytes → skip ≡ line_ends window → IsFirstEnd window end
    → ReadsItem (slice_range window skip end) item → rest ≡ drop end bytes → NextItem bytes item rest
whole_item bytes window rest skip end item is front first reads after =
    let text : ReadsItem (slice_range window (line_ends window) end) item = subst (λ (n : ℕ). ReadsItem (slice_range window n end) item) front reads in
    inl (
      end,
      record {
        first = subst (λ (w : List ℕ). IsFirstEnd w end) is first;
        reads = subst (λ (w : List ℕ). ReadsItem (slice_range w (line_ends w) end) item) is text;
        after = after;
      },
    )

pub whole_none : (bytes window : List ℕ) → window ≡ take max_head bytes → HasNoEnd window (length window) → length window < 8192 → EndsNoItem bytes
whole_none bytes window is none short =
    let len : length window ≡ min max_head (length bytes) = ap length is ∙ length-take max_head bytes in
    let few : length bytes < max_head = omega (arith, len, max_head_is) in
    let all : window ≡ bytes = is ∙ take_all max_head bytes (omega (arith, few)) in
    record { short = few; none = subst (λ (w : List ℕ). HasNoEnd w (length w)) all none }

pub whole_large : (bytes window rest : List ℕ) → window ≡ take max_head bytes → HasNoEnd window (length window) → 8192 ≤ length window → rest ≡ drop 8192 bytes
    → NextItem bytes (refused HeadTooLarge true) rest
whole_large bytes window rest is none long after =
    let len : length window ≡ min max_head (length bytes) = ap length is ∙ length-take max_head bytes in
    let full : length window ≡ max_head = omega (arith, len, max_head_is) in
    inr (record {
      none = subst (λ (w : List ℕ). HasNoEnd w max_head) is (subst (λ (n : ℕ). HasNoEnd window n) full none);
      long = omega (arith, len, full);
      is = refl;
      after = after ∙ ap (λ (n : ℕ). drop n bytes) (sym max_head_is);
    })

-- as many bytes as a head may have end an item
pub long_item : (bytes : List ℕ) → 8192 ≤ length bytes → (true ≡ false) ↔ EndsNoItem bytes
long_item bytes long = ((λ e. absurd (true≢false e)), (λ h. absurd (omega (arith, h.short, max_head_is, long))))

-- fewer bytes without an empty line end none
pub no_item : (bytes : List ℕ) → length bytes < 8192 → HasNoEnd bytes (length bytes) → (false ≡ false) ↔ EndsNoItem bytes
no_item bytes short none = ((λ _. record { short = omega (arith, max_head_is, short); none = none }), (λ _. refl))
