-- Parts of a buffer.
use Rattle.std.proofs.Common.{◌≡◌, ℕ, suc, ◌+◌, ◌-◌, ◌≤◌, ◌<◌, List, [], ◌∷◌, ◌++◌, length, get_or, take, drop, refl, sym, ◌∙◌, ap, arith, append_assoc, append-nil, length-append, length-drop}
use Rattle.std.specs.Prelude.{slice_range}
use Rattle.std.proofs.lemmas.List.{drop_more, drop-take, drop-drop, take-take, drop_at, take-append-drop, length-take}
use Rattle.mc_outside.specs.Bytes.{BeginsWith}
use Rattle.std.proofs.Math.Seq.{take-add}

-- a part within a window of the buffer
pub within_window : (buf : List ℕ) (start end k n : ℕ) → start + k + n ≤ end → take n (drop k (slice_range buf start end)) ≡ slice_range buf (start + k) (start + k + n)
within_window buf start end k n fits =
    let whole : end - start ≡ k + (end - start - k) = omega (arith, fits) in
    let len : start + k + n - (start + k) ≡ n = omega arith in
    ap (λ (m : ℕ). take n (drop k (take m (drop start buf)))) whole
    ∙ ap (λ (l : List ℕ). take n l) (drop-take k (end - start - k) (drop start buf))
    ∙ take-take n (end - start - k) (drop k (drop start buf)) (omega (arith, fits))
    ∙ ap (λ (l : List ℕ). take n l) (drop-drop k start buf)
    ∙ ap (λ (m : ℕ). take m (drop (start + k) buf)) (sym len)

-- how many bytes a window has
pub window_long : (buf : List ℕ) (start end : ℕ) → end ≤ length buf → length (slice_range buf start end) ≡ end - start
window_long buf start end within = omega (arith, within, length-take (end - start) (drop start buf), length-drop start buf)

-- a piece read behind a window that was moved to the front
pub window_grows : (new : List ℕ) (held : List ℕ) (len n : ℕ) → take len new ≡ held → slice_range new 0 (len + n) ≡ held ++ slice_range new len (len + n)
window_grows new held len n front =
    let whole : len + n - 0 ≡ len + n = omega arith in
    let part : len + n - len ≡ n = omega arith in
    ap (λ (k : ℕ). take k new) whole
    ∙ take-add len n new
    ∙ ap (λ (z : List ℕ). z ++ take n (drop len new)) front
    ∙ ap (λ (k : ℕ). held ++ take k (drop len new)) (sym part)

-- a part of what is held
pub part_of_held : (buf held : List ℕ) (start end k n : ℕ) → slice_range buf start end ≡ held → end ≤ length buf → k + n ≤ length held → 1 ≤ k + n → take n (drop k held) ≡ slice_range buf (start + k) (start + k + n)
part_of_held buf held start end k n is within fits some =
    ap (λ (l : List ℕ). take n (drop k l)) (sym is)
    ∙ within_window buf start end k n (omega (arith, ap (λ (l : List ℕ). length l) is, window_long buf start end within, fits, some))

-- the back of a window
pub back_of_window : (buf : List ℕ) (start end k : ℕ) → start + k ≤ end → slice_range buf (start + k) end ≡ drop k (slice_range buf start end)
back_of_window buf start end k fits =
    let whole : end - start ≡ k + (end - (start + k)) = omega (arith, fits) in
    ap (λ (l : List ℕ). take (end - (start + k)) l) (sym (drop-drop k start buf))
    ∙ sym (drop-take k (end - (start + k)) (drop start buf))
    ∙ ap (λ (m : ℕ). drop k (take m (drop start buf))) (sym whole)

-- a piece of all bytes goes on where what is held ends
pub held_grows : (all held piece : List ℕ) (n : ℕ) → BeginsWith held all → piece ≡ take n (drop (length held) all) → BeginsWith (held ++ piece) all
held_grows all held piece n b is =
    let rest : drop (length held) all ≡ b.0 = ap (λ (l : List ℕ). drop (length held) l) b.1 ∙ drop_at held b.0 (length held) refl in
    let part : piece ++ drop n b.0 ≡ b.0 = ap (λ (l : List ℕ). l ++ drop n b.0) (is ∙ ap (λ (l : List ℕ). take n l) rest) ∙ take-append-drop n b.0 in
    (drop n b.0, b.1 ∙ ap (λ (l : List ℕ). held ++ l) (sym part) ∙ sym (append_assoc held piece (drop n b.0)))

-- what begins all bytes and is as long is all of them
pub held_all : (all held : List ℕ) → BeginsWith held all → length all ≤ length held → all ≡ held
held_all all held b few = go b.0 b.1 where
  go : (r : List ℕ) → all ≡ held ++ r → all ≡ held
  go [] is = is ∙ append-nil held
  go (x ∷ xs) is = absurd (omega (arith, few, ap (λ (l : List ℕ). length l) is, length-append held (x ∷ xs)))

-- the first byte of a window
pub first_of_window : (buf : List ℕ) (start end default : ℕ) → start < end → end ≤ length buf → BeginsWith (get_or buf start default ∷ []) (slice_range buf start end)
first_of_window buf start end default some within =
    let more : drop start buf ≡ get_or buf start default ∷ drop (start + 1) buf = drop_more buf start default (omega (arith, some, within)) in
    let one : end - start ≡ suc (end - start - 1) = omega (arith, some) in
    (take (end - start - 1) (drop (start + 1) buf), ap (λ (l : List ℕ). take (end - start) l) more ∙ ap (λ (k : ℕ). take k (get_or buf start default ∷ drop (start + 1) buf)) one)
