-- An item that is taken from the buffer.
use Rattle.std.proofs.Common.{◌≡◌, ◌⊎◌, ◌↔◌, inl, inr, ⊎_elim, Bool, true, ℕ, ◌+◌, ◌-◌, ◌≤◌, List, length, drop, ◌++◌, refl, sym, ◌∙◌, ap, subst, arith}
use Rattle.std.specs.Prelude.{slice_range}
use Rattle.mc_requests.specs.declared.refusal.Refusal.TheVariants.{HeadTooLarge}
use Rattle.millicent_http.specs.declared.reader.TheConstants.{MAX_ITEMS}
use Rattle.millicent_http.specs.HeadEnds.{line_ends, HasNoEnd, IsFirstEnd}
use Rattle.millicent_http.specs.Items.{Item, refused, max_head, ReadsItem, NextItem}
use Rattle.mc_outside.specs.LinkView.{LinkView, after_recv}
use Rattle.millicent_http.specs.Held.{Held, IsBuffer}
use Rattle.millicent_http.specs.declared.item.HeadOut.{HeadOut}
use Rattle.millicent_http.specs.declared.item.HeadOut.TheVariants.{Head, Refused, End, Fault}
use Rattle.millicent_http.specs.Takes.{Gave, LeadsTo, Took, WaitedFor, with_more}
use Rattle.millicent_http.proofs.ItemLemmas.{next_whole, next_large}
use Rattle.millicent_http.proofs.BufferLemmas.{held_len, part_of_part, behind_part, no_end_none}
use Rattle.millicent_http.proofs.EndLemmas.{line_ends-nil}

pub give_item : (buf bytes first second : List ℕ) (start stop front searched skip end : ℕ) (item : Item)
    → IsBuffer buf start stop front searched → slice_range buf start stop ≡ bytes → IsFirstEnd bytes end
    → first ≡ buf → second ≡ buf → skip ≡ line_ends (slice_range first start stop)
    → ReadsItem (slice_range second (start + skip) (start + end)) item
    → NextItem bytes item (slice_range buf (start + end) stop)
give_item buf bytes first second start stop front searched skip end item b is f e g s reads =
    let len : length bytes ≡ stop - start = held_len buf bytes start stop front searched b (sym is) in
    let skipped : skip ≡ line_ends bytes = s ∙ ap (λ (z : List ℕ). line_ends (slice_range z start stop)) e ∙ ap line_ends is in
    let text : slice_range second (start + skip) (start + end) ≡ slice_range bytes (line_ends bytes) end =
    ap (λ (z : List ℕ). slice_range z (start + skip) (start + end)) g
    ∙ sym (part_of_part buf start stop skip end (omega (arith, b.order)) (omega (arith, f.within, len)))
    ∙ ap (λ (z : List ℕ). slice_range z skip end) is
    ∙ ap (λ (k : ℕ). slice_range bytes k end) skipped in
    let rest : slice_range buf (start + end) stop ≡ drop end bytes =
    sym (behind_part buf start stop end (omega (arith, b.order)) (omega (arith, f.within, len))) ∙ ap (λ (z : List ℕ). drop end z) is in
    next_whole bytes (slice_range second (start + skip) (start + end)) (slice_range buf (start + end) stop) end item
    (omega (arith, len, b.within)) f text reads rest

pub large_item : (buf bytes : List ℕ) (stop : ℕ) → length bytes ≡ max_head → HasNoEnd bytes max_head → NextItem bytes (refused HeadTooLarge true) (slice_range buf stop stop)
large_item buf bytes stop full none =
    let e : stop - stop ≡ 0 = omega arith in
    next_large bytes (slice_range buf stop stop) full none (rw e refl)

-- the buffer behind an item
pub buffer_behind : (buf : List ℕ) (start stop front searched from : ℕ) → IsBuffer buf start stop front searched → from ≤ stop → IsBuffer buf from stop 0 0
buffer_behind buf start stop front searched from b le = record {
  size = b.size;
  order = omega (arith, le);
  within = b.within;
  skipped = omega arith;
  front = line_ends-nil;
  none = no_end_none (slice_range buf from stop);
}

-- what closes the link
pub ends_link : (P : Type 0) (close last : Bool) (given counted : ℕ) → P ↔ ((close ≡ true) ⊎ (last ≡ true)) → (last ≡ true) ↔ (counted ≡ MAX_ITEMS) → given ≡ counted
    → P ↔ ((close ≡ true) ⊎ (given ≡ MAX_ITEMS))
ends_link P close last given counted p l e = (
  (λ h. ⊎_elim (λ c. inl c) (λ n. inr (e ∙ l.0 n)) (p.0 h)),
  (λ h. p.1 (⊎_elim (λ c. inl c) (λ n. inr (l.1 (sym e ∙ n))) h)),
)

leads_on : (old : Held) (out : HeadOut) (new : Held) (before link : LinkView) → Gave old out new → link ≡ before → LeadsTo old out new before link
leads_on old (Head q a) new before link g e = (g, e)
leads_on old (Refused f a) new before link g e = (g, e)
leads_on old End new before link g e = absurd g
leads_on old Fault new before link g e = absurd g

-- bytes came, and then an item of the bytes held was given
pub took_item : (old mid : Held) (before link : LinkView) (out : HeadOut) (new : Held) (got : List ℕ) → mid.bytes ≡ old.bytes ++ got → mid.given ≡ old.given
    → length got ≤ max_head → WaitedFor old.bytes got → link ≡ after_recv got before → Gave mid out new → Took old before out new link
took_item old mid before link out new got bytes given few waited came gave =
    let same : mid ≡ with_more old got = λ i. record { bytes = bytes i; given = given i } in
    record {
      got = got;
      few = few;
      waited = waited;
      leads = leads_on (with_more old got) out new (after_recv got before) link (subst (λ (h : Held). Gave h out new) same gave) came;
    }
