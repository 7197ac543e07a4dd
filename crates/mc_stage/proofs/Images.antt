-- The images that the choices of a crash leave.
use Rattle.std.proofs.Common.{◌≡◌, ℕ, ◌+◌, ◌-◌, ◌<◌, Bool, true, false, List, [], ◌∷◌, ◌++◌, length, take, drop, replicate, refl, sym, ◌∙◌, ap, subst, arith, append_assoc, length-append, length-take, length-drop, slice_index_or, zero, suc}
use Rattle.std.specs.Prelude.{if◌then◌else◌, ◌==◌, Result, Ok, Err, IfOk}
use Rattle.std.proofs.lemmas.List.{length-replicate}
use Rattle.std.proofs.Math.Seq.{take-suc}
use Rattle.mc_outside.specs.Bytes.{put}
use Rattle.mc_outside.specs.DiskView.{Torn, CutShort}
use Rattle.mc_stage.specs.Lists.{unsynced, torn_any, cut_done}
use Rattle.mc_stage.specs.Model.{Entry, Put, Cut, Sync, Take, Hear, End, Send, Model, start, step, run, Trace, model}
use Rattle.mc_stage.specs.Image.{fill, image_from, chosen}
use Rattle.mc_stage.specs.Trace.{images}

image-length : (n p : ℕ) (xs : List ℕ) (ms : List Bool) → length (image_from n p xs ms) ≡ length xs
image-length n p [] ms = refl
image-length n p (x ∷ xs) [] = omega (arith, image-length n (p + 1) xs [])
image-length n p (x ∷ xs) (m ∷ ms) = omega (arith, image-length n (p + 1) xs ms)

image-take : (n p k : ℕ) (xs : List ℕ) (ms : List Bool) → length ms ≡ length xs → image_from n p (take k xs) (take k ms) ≡ take k (image_from n p xs ms)
image-take n p zero xs ms len = refl
image-take n p (suc k) [] ms len = refl
image-take n p (suc k) (x ∷ xs) [] len = absurd (omega (arith, len))
image-take n p (suc k) (x ∷ xs) (m ∷ ms) len = ap (λ (l : List ℕ). (if m then x else fill n p) ∷ l) (image-take n (p + 1) k xs ms (omega (arith, len)))

image-drop : (n p q k : ℕ) (xs : List ℕ) (ms : List Bool) → length ms ≡ length xs → q ≡ p + k → image_from n q (drop k xs) (drop k ms) ≡ drop k (image_from n p xs ms)
image-drop n p q zero xs ms len is = ap (λ (z : ℕ). image_from n z xs ms) (omega (arith, is))
image-drop n p q (suc k) [] ms len is = refl
image-drop n p q (suc k) (x ∷ xs) [] len is = absurd (omega (arith, len))
image-drop n p q (suc k) (x ∷ xs) (m ∷ ms) len is = image-drop n (p + 1) q k xs ms (omega (arith, len)) (omega (arith, is))

image-append : (n p q : ℕ) (xs ys : List ℕ) (ms ns : List Bool) → length ms ≡ length xs → q ≡ p + length xs → image_from n p (xs ++ ys) (ms ++ ns) ≡ image_from n p xs ms ++ image_from n q ys ns
image-append n p q [] ys [] ns len is = ap (λ (z : ℕ). image_from n z ys ns) (omega (arith, is))
image-append n p q [] ys (m ∷ ms) ns len is = absurd (omega (arith, len))
image-append n p q (x ∷ xs) ys [] ns len is = absurd (omega (arith, len))
image-append n p q (x ∷ xs) ys (m ∷ ms) ns len is = ap (λ (l : List ℕ). (if m then x else fill n p) ∷ l) (image-append n (p + 1) q xs ys ms ns (omega (arith, len)) (omega (arith, is)))

take-more : {A : Type 0} (xs : List A) (i : ℕ) (d : A) → i < length xs → take (i + 1) xs ≡ take i xs ++ slice_index_or xs i d ∷ []
take-more xs i d lt = let next : i + 1 ≡ suc i = omega arith in ap (λ (k : ℕ). take k xs) next ∙ take-suc xs i d lt

-- one byte more
pub image-more : (n p i : ℕ) (xs : List ℕ) (ms : List Bool) (m : Bool) (x : ℕ) → length ms ≡ length xs → i < length xs → slice_index_or ms i false ≡ m → x ≡ (if m then slice_index_or xs i 0 else fill n (p + i))
    → image_from n p (take (i + 1) xs) (take (i + 1) ms) ≡ image_from n p (take i xs) (take i ms) ++ x ∷ []
image-more n p i xs ms m x len lt is e =
    let one : image_from n (p + i) (slice_index_or xs i 0 ∷ []) (slice_index_or ms i false ∷ []) ≡ x ∷ [] = ap (λ (b : Bool). (if b then slice_index_or xs i 0 else fill n (p + i)) ∷ []) is ∙ ap (λ (z : ℕ). z ∷ []) (sym e) in
    let front : length (take i ms) ≡ length (take i xs) = omega (arith, length-take i ms, length-take i xs, len) in
    let place : p + i ≡ p + length (take i xs) = omega (arith, length-take i xs, lt) in
    (λ j. image_from n p (take-more xs i 0 lt j) (take-more ms i false (omega (arith, lt, len)) j))
    ∙ image-append n p (p + i) (take i xs) (slice_index_or xs i 0 ∷ []) (take i ms) (slice_index_or ms i false ∷ []) front place
    ∙ ap (λ (l : List ℕ). image_from n p (take i xs) (take i ms) ++ l) one

pub sync_image : (n p : ℕ) (xs : List ℕ) → image_from n p xs (replicate (length xs) true) ≡ xs
sync_image n p [] = refl
sync_image n p (x ∷ xs) = ap (λ (l : List ℕ). x ∷ l) (sync_image n (p + 1) xs)

torn_image : (n place : ℕ) (bytes x : List ℕ) (ms : List Bool) → length ms ≡ length x
    → Torn place (length bytes) (image_from n 0 x ms) (image_from n 0 (put place bytes x) (unsynced place (length bytes) ms))
torn_image n place bytes x ms len =
    let size = length bytes in
    let y = image_from n 0 x ms in
    let gap : List ℕ = replicate (place - length x) 0 in
    let range : List Bool = replicate ((place + size) - length (take place ms)) false in
    let k = length (take place x) in
    let middle = image_from n k (gap ++ bytes) range in
    let long_gap : length gap ≡ place - length x = length-replicate {A = ℕ} (place - length x) 0 in
    let long_range : length range ≡ (place + size) - length (take place ms) = length-replicate {A = Bool} ((place + size) - length (take place ms)) false in
    let front : length (take place ms) ≡ length (take place x) = omega (arith, length-take place ms, length-take place x, len) in
    let wide : length range ≡ length (gap ++ bytes) = omega (arith, long_gap, long_range, length-append gap bytes, length-take place ms, len) in
    let both : length (take place ms ++ range) ≡ length (take place x ++ (gap ++ bytes)) = omega (arith, front, wide, length-append (take place ms) range, length-append (take place x) (gap ++ bytes)) in
    let at : place + size ≡ 0 + length (take place x ++ (gap ++ bytes)) = omega (arith, long_gap, length-append gap bytes, length-take place x, length-append (take place x) (gap ++ bytes)) in
    let whole : image_from n 0 (put place bytes x) (unsynced place size ms) ≡ take place y ++ middle ++ drop (place + size) y =
    ap (λ (l : List ℕ). image_from n 0 (l ++ drop (place + size) x) (unsynced place size ms)) (append_assoc (take place x) gap bytes)
    ∙ image-append n 0 (place + size) (take place x ++ (gap ++ bytes)) (drop (place + size) x) (take place ms ++ range) (drop (place + size) ms) both at
    ∙ ap (λ (l : List ℕ). l ++ image_from n (place + size) (drop (place + size) x) (drop (place + size) ms)) (image-append n 0 k (take place x) (gap ++ bytes) (take place ms) range front (omega arith))
    ∙ ap (λ (l : List ℕ). l ++ middle ++ image_from n (place + size) (drop (place + size) x) (drop (place + size) ms)) (image-take n 0 place x ms len)
    ∙ ap (λ (l : List ℕ). take place y ++ middle ++ l) (image-drop n 0 (place + size) (place + size) x ms len (omega arith)) in
    subst (Torn place size y) (sym whole)
    (torn_any place size middle y (omega (arith, image-length n k (gap ++ bytes) range, image-length n 0 x ms, long_gap, length-append gap bytes, length-take place y)))

cut_image : (n size : ℕ) (x : List ℕ) (ms : List Bool) → length ms ≡ length x → CutShort size (image_from n 0 x ms) (image_from n 0 (take size x) (take size ms))
cut_image n size x ms len = subst (CutShort size (image_from n 0 x ms)) (sym (image-take n 0 size x ms len)) (cut_done size (image_from n 0 x ms))

marks_put : (place : ℕ) (bytes x : List ℕ) (ms : List Bool) → length ms ≡ length x → length (unsynced place (length bytes) ms) ≡ length (put place bytes x)
marks_put place bytes x ms len =
    let gap : List ℕ = replicate (place - length x) 0 in
    let range : List Bool = replicate ((place + length bytes) - length (take place ms)) false in
    omega (
      arith,
      len,
      length-append (take place ms ++ range) (drop (place + length bytes) ms),
      length-append (take place ms) range,
      length-replicate {A = Bool} ((place + length bytes) - length (take place ms)) false,
      length-take place ms,
      length-drop (place + length bytes) ms,
      length-append ((take place x ++ gap) ++ bytes) (drop (place + length bytes) x),
      length-append (take place x ++ gap) bytes,
      length-append (take place x) gap,
      length-replicate {A = ℕ} (place - length x) 0,
      length-take place x,
      length-drop (place + length bytes) x,
    )

-- each byte has its mark
pub marks-length : (log : List Entry) (m : Model) → length m.marks ≡ length m.contents → length (run log m).marks ≡ length (run log m).contents
marks-length [] m len = len
marks-length (Put a b ∷ es) m len = marks-length es (step (Put a b) m) (marks_put a b m.contents m.marks len)
marks-length (Cut n ∷ es) m len = marks-length es (step (Cut n) m) (omega (arith, len, length-take n m.marks, length-take n m.contents))
marks-length (Sync ∷ es) m len = marks-length es (step Sync m) (length-replicate {A = Bool} (length m.contents) true)
marks-length (Take ∷ es) m len = marks-length es (step Take m) len
marks-length (Hear b ∷ es) m len = marks-length es (step (Hear b) m) len
marks-length (End ∷ es) m len = marks-length es (step End m) len
marks-length (Send b ∷ es) m len = marks-length es (step (Send b) m) len

-- the bytes that are synced, with filled ones in place of the others, are an image
pub filled_image : (n : ℕ) (log : List Entry) (m : Model) → length m.marks ≡ length m.contents → m.leaves (image_from n 0 m.contents m.marks) → (run log m).leaves (image_from n 0 (run log m).contents (run log m).marks)
filled_image n [] m len h = h
filled_image n (Put a b ∷ es) m len h = filled_image n es (step (Put a b) m) (marks_put a b m.contents m.marks len) (image_from n 0 m.contents m.marks, h, torn_image n a b m.contents m.marks len)
filled_image n (Cut k ∷ es) m len h = filled_image n es (step (Cut k) m) (omega (arith, len, length-take k m.marks, length-take k m.contents)) (image_from n 0 m.contents m.marks, h, cut_image n k m.contents m.marks len)
filled_image n (Sync ∷ es) m len h = filled_image n es (step Sync m) (length-replicate {A = Bool} (length m.contents) true) (sync_image n 0 m.contents)
filled_image n (Take ∷ es) m len h = filled_image n es (step Take m) len h
filled_image n (Hear b ∷ es) m len h = filled_image n es (step (Hear b) m) len h
filled_image n (End ∷ es) m len h = filled_image n es (step End m) len h
filled_image n (Send b ∷ es) m len h = filled_image n es (step (Send b) m) len h

pub start-marks : (base : List ℕ) → length (start base).marks ≡ length (start base).contents
start-marks base = length-replicate {A = Bool} (length base) true

either : (a b : Bool) (P : List ℕ → Type 0) (x y z : List ℕ) → P x → P y → P z → P (if a then x else if b then y else z)
either true b P x y z p q r = p
either false true P x y z p q r = q
either false false P x y z p q r = r

-- each choice is an image
pub chosen_image : (n : ℕ) (t : Trace) (v : List ℕ) → v ≡ chosen n (model t) → (model t).leaves v
chosen_image n t v e =
    let both = images t.log (start t.base) (refl, refl) in
    subst (model t).leaves (sym e)
    (either (n == 0) (n == 1) (model t).leaves (model t).contents (model t).synced (image_from n 0 (model t).contents (model t).marks) both.0 both.1 (filled_image n t.log (start t.base) (start-marks t.base) (sync_image n 0 t.base)))

pub if_ok_then : {T E : Type 0} (r : Result T E) (P Q : T → Type 0) → IfOk r P → ((x : T) → P x → Q x) → IfOk r Q
if_ok_then (Ok x) P Q p f = f x p
if_ok_then (Err e) P Q p f = tt
