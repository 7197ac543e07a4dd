-- The reader's buffer.
use Rattle.std.proofs.Common.{◌≡◌, ℕ, ◌+◌, ◌-◌, ◌≤◌, List, ◌++◌, inl, inr, length, take, drop, max, refl, sym, ◌∙◌, ap, subst, arith, length-drop}
use Rattle.std.specs.Prelude.{slice_range}
use Rattle.std.proofs.lemmas.Bool.{cases_lt}
use Rattle.std.proofs.lemmas.List.{take-append-le, drop-take, drop-drop, take-take, length-take}
use Rattle.std.proofs.Math.Seq.{take-add}
use Rattle.millicent_http.specs.HeadEnds.{line_ends, HasNoEnd}
use Rattle.millicent_http.specs.Items.{max_head}
use Rattle.millicent_http.specs.Held.{IsBuffer}
use Rattle.millicent_http.proofs.EndLemmas.{line_ends-nil, line_ends-front, no_end_front, no_end_stays}

pub no_end_none : (a : List ℕ) → HasNoEnd a 0
no_end_none a m le = no_end_front a m (omega arith)

pub empty_buffer : (buf : List ℕ) → length buf ≡ max_head → IsBuffer buf 0 0 0 0
empty_buffer buf h = record {
  size = h;
  order = omega arith;
  within = omega arith;
  skipped = omega arith;
  front = line_ends-nil;
  none = no_end_none (slice_range buf 0 0);
}

-- what was searched, and the line ends at the front
pub no_end_max : (a : List ℕ) (n s m : ℕ) → HasNoEnd a n → s ≡ line_ends a → m ≤ max n s → HasNoEnd a m
no_end_max a n s m h e le k lt = elim (cases_lt s k) [
  | inl behind ↦ h k (omega arith)
  | inr front ↦ no_end_front a k (omega arith)
]

-- after a search
pub searched_buffer : (buf held : List ℕ) (start end skip searched s n : ℕ) → IsBuffer buf start end skip searched
    → held ≡ slice_range buf start end → s ≡ line_ends held → HasNoEnd held n → s ≤ n → start + n ≤ end
    → IsBuffer buf start end s n
searched_buffer buf held start end skip searched s n b is e none skipped order = record {
  size = b.size;
  order = order;
  within = b.within;
  skipped = skipped;
  front = rw (← is, e) (line_ends-front held);
  none = subst (λ (z : List ℕ). HasNoEnd z n) is none;
}

-- a buffer whose front is what was held, and then a piece
pub received_buffer : (old new : List ℕ) (start end skip searched n : ℕ) → IsBuffer old start end skip searched
    → length new ≡ length old → take (end - start) new ≡ slice_range old start end → (end - start) + n ≤ length new
    → (slice_range new 0 ((end - start) + n) ≡ slice_range old start end ++ slice_range new (end - start) ((end - start) + n)) × IsBuffer new 0 ((end - start) + n) skip searched
received_buffer old new start end skip searched n b len front within =
    let held : List ℕ = slice_range old start end in
    let d : ℕ = end - start in
    let long : length (slice_range old start end) ≡ end - start = omega (arith, b.size, b.order, b.within, length-take (end - start) (drop start old), length-drop start old) in
    let piece : List ℕ = slice_range new (end - start) ((end - start) + n) in
    let whole : ((end - start) + n) - 0 ≡ (end - start) + n = omega arith in
    let part : ((end - start) + n) - (end - start) ≡ n = omega arith in
    let bytes : slice_range new 0 ((end - start) + n) ≡ slice_range old start end ++ slice_range new (end - start) ((end - start) + n) =
    ap (λ (k : ℕ). take k new) whole ∙ take-add (end - start) n new
    ∙ ap (λ (z : List ℕ). z ++ take n (drop (end - start) new)) front
    ∙ ap (λ (k : ℕ). slice_range old start end ++ take k (drop (end - start) new)) (sym part) in (
      bytes,
      record {
        size = len ∙ b.size;
        order = omega (arith, b.order);
        within = omega (arith, within, len, b.size);
        skipped = b.skipped;
        front = rw (bytes, take-append-le skip (slice_range old start end) (slice_range new (end - start) ((end - start) + n)) (omega (arith, long, b.skipped, b.order))) b.front;
        none = subst (λ (z : List ℕ). HasNoEnd z searched) (sym bytes) (no_end_stays (slice_range old start end) (slice_range new (end - start) ((end - start) + n)) searched (omega (arith, long, b.order)) b.none);
      },
    )

pub held_len : (buf bytes : List ℕ) (start end skip searched : ℕ) → IsBuffer buf start end skip searched → bytes ≡ slice_range buf start end → length bytes ≡ end - start
held_len buf bytes start end skip searched b e = omega (arith, ap length e, b.size, b.order, b.within, length-take (end - start) (drop start buf), length-drop start buf)

-- a part of a part
pub part_of_part : (buf : List ℕ) (start end i n : ℕ) → start ≤ end → n ≤ end - start → slice_range (slice_range buf start end) i n ≡ slice_range buf (start + i) (start + n)
part_of_part buf start end i n order within = elim (cases_lt n i) [
  | inl lt ↦
      let a : n - i ≡ 0 = omega arith in
      let b : (start + n) - (start + i) ≡ 0 = omega arith in
      rw (a, b) refl
  | inr ge ↦
      let a : end - start ≡ i + ((end - start) - i) = omega arith in
      let b : (start + n) - (start + i) ≡ n - i = omega arith in
      ap (λ (k : ℕ). take (n - i) (drop i (take k (drop start buf)))) a
      ∙ ap (λ (z : List ℕ). take (n - i) z) (drop-take i ((end - start) - i) (drop start buf))
      ∙ take-take (n - i) ((end - start) - i) (drop i (drop start buf)) (omega arith)
      ∙ ap (λ (z : List ℕ). take (n - i) z) (drop-drop i start buf)
      ∙ ap (λ (k : ℕ). take k (drop (start + i) buf)) (sym b)
]

-- the part behind a part's front
pub behind_part : (buf : List ℕ) (start end n : ℕ) → start ≤ end → n ≤ end - start → drop n (slice_range buf start end) ≡ slice_range buf (start + n) end
behind_part buf start end n order within =
    let a : end - start ≡ n + ((end - start) - n) = omega arith in
    let b : end - (start + n) ≡ (end - start) - n = omega arith in
    ap (λ (k : ℕ). drop n (take k (drop start buf))) a
    ∙ drop-take n ((end - start) - n) (drop start buf)
    ∙ ap (λ (z : List ℕ). take ((end - start) - n) z) (drop-drop n start buf)
    ∙ ap (λ (k : ℕ). take k (drop (start + n) buf)) (sym b)
