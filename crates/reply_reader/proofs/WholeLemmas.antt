-- What bytes are that are all there.
use Rattle.std.proofs.Common.{◌≡◌, ℕ, ◌<◌, ◌≤◌, List, length, take, ◌∙◌, ap, subst, arith}
use Rattle.std.specs.Prelude.{slice_range}
use Rattle.std.proofs.lemmas.List.{length-take, take_all}
use Rattle.millicent_http.specs.HeadEnds.{line_ends, HasNoEnd, IsFirstEnd}
use Rattle.millicent_http.specs.Items.{max_head, EndsNoItem}
use Rattle.millicent_http.proofs.ItemLemmas.{max_head_is}
use Rattle.reply_reader.specs.Said.{HeadSaid, HeadSays, SaysNothing}
use Rattle.reply_reader.specs.Replies.{head_text, Says, HasBadHead, HasLongHead}

-- the text of a head is a part of the window
text_is : (bytes window : List ℕ) (skip end : ℕ) → window ≡ take max_head bytes → skip ≡ line_ends window → slice_range window skip end ≡ head_text bytes end
text_is bytes window skip end is front =
    ap (λ (n : ℕ). slice_range window n end) front ∙ ap (λ (w : List ℕ). slice_range w (line_ends w) end) is

pub window_says : (bytes window : List ℕ) (skip end : ℕ) (x : HeadSaid) → window ≡ take max_head bytes → skip ≡ line_ends window → IsFirstEnd window end
    → HeadSays (slice_range window skip end) x → Says bytes end x
window_says bytes window skip end x is front first says = record {
  first = subst (λ (w : List ℕ). IsFirstEnd w end) is first;
  says = subst (λ (t : List ℕ). HeadSays t x) (text_is bytes window skip end is front) says;
}

pub window_says_nothing : (bytes window : List ℕ) (skip end : ℕ) → window ≡ take max_head bytes → skip ≡ line_ends window → IsFirstEnd window end
    → SaysNothing (slice_range window skip end) → HasBadHead bytes
window_says_nothing bytes window skip end is front first none = record {
  end = end;
  first = subst (λ (w : List ℕ). IsFirstEnd w end) is first;
  none = subst SaysNothing (text_is bytes window skip end is front) none;
}

pub window_has_none : (bytes window : List ℕ) → window ≡ take max_head bytes → HasNoEnd window (length window) → length bytes < 8192 → EndsNoItem bytes
window_has_none bytes window is none short =
    let few : length bytes < max_head = omega (arith, short, max_head_is) in
    let all : window ≡ bytes = is ∙ take_all max_head bytes (omega (arith, few)) in
    record { short = few; none = subst (λ (w : List ℕ). HasNoEnd w (length w)) all none }

pub window_is_long : (bytes window : List ℕ) → window ≡ take max_head bytes → HasNoEnd window (length window) → 8192 ≤ length bytes → HasLongHead bytes
window_is_long bytes window is none long =
    let full : length window ≡ max_head = omega (arith, ap length is ∙ length-take max_head bytes, max_head_is, long) in
    record {
      long = omega (arith, max_head_is, long);
      none = subst (λ (w : List ℕ). HasNoEnd w max_head) is (subst (λ (n : ℕ). HasNoEnd window n) full none);
    }
