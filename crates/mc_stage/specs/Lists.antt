-- What writes and cuts do to lists of bytes.
use Rattle.std.specs.Prelude.{◌≡◌, ℕ, ◌+◌, ◌-◌, List, [], ◌∷◌, ◌++◌, length, take, drop, replicate, Bool, false}
use Rattle.std.proofs.Common.{subst, sym, ◌∙◌, ap, arith, append_assoc, length-append, length-take, length-drop, take-append-drop}
use Rattle.std.proofs.lemmas.List.{take_all, drop_at, append-nil, length-replicate}
use Rattle.mc_outside.specs.Bytes.{put}
use Rattle.mc_outside.specs.DiskView.{Torn, CutShort}

pub torn_none : (place n : ℕ) (d : List ℕ) → Torn place n d d
torn_none place n d = record {
  before = (drop place d, sym (take-append-drop place d));
  behind = ([], sym (append-nil (drop (place + n) d)));
  no_shorter = omega arith;
  no_longer = omega arith;
}

pub cut_none : (n : ℕ) (d : List ℕ) → CutShort n d d
cut_none n d = record { front = (drop n d, sym (take-append-drop n d)); no_shorter = omega arith; no_longer = omega arith }

pub cut_done : (n : ℕ) (d : List ℕ) → CutShort n d (take n d)
cut_done n d = record {
  front = (drop n d, sym (take-append-drop n d) ∙ ap (λ (l : List ℕ). l ++ drop n d) (sym (take_all n (take n d) (omega (arith, length-take n d)))));
  no_shorter = omega (arith, length-take n d);
  no_longer = omega (arith, length-take n d);
}

-- the marks where n bytes from a place on, and the gap before them, are no longer synced
abbrev pub unsynced : ℕ → ℕ → List Bool → List Bool
unsynced place n marks = take place marks ++ replicate ((place + n) - length (take place marks)) false ++ drop (place + n) marks

-- the list with its last item changed
abbrev pub at_last : {A : Type 0} → (A → A) → List A → List A
at_last f [] = []
at_last f (x ∷ []) = f x ∷ []
at_last f (x ∷ y ∷ xs) = x ∷ at_last f (y ∷ xs)

-- any bytes in the gap and in the range, the same elsewhere
pub torn_any : (place n : ℕ) (middle d : List ℕ) → length middle ≡ (place + n) - length (take place d) → Torn place n d (take place d ++ middle ++ drop (place + n) d)
torn_any place n middle d size =
    let tail = drop (place + n) d in
    let front = take place d ++ middle in
    let long : length front ≡ place + n = omega (arith, length-append (take place d) middle, length-take place d, size) in
    let all : length (front ++ tail) ≡ place + n + (length d - (place + n)) = omega (arith, length-append front tail, long, length-drop (place + n) d) in
    record {
      before = (middle ++ tail, append_assoc (take place d) middle tail);
      behind = ([], drop_at front tail (place + n) long ∙ sym (append-nil tail));
      no_shorter = omega (arith, all);
      no_longer = omega (arith, all);
    }

pub torn_done : (place : ℕ) (bytes d : List ℕ) → Torn place (length bytes) d (put place bytes d)
torn_done place bytes d =
    let gap = replicate (place - length d) 0 in
    let tail = drop (place + length bytes) d in
    subst (Torn place (length bytes) d) (ap (λ (l : List ℕ). l ++ tail) (sym (append_assoc (take place d) gap bytes)))
    (torn_any place (length bytes) (gap ++ bytes) d (omega (arith, length-append gap bytes, length-take place d, length-replicate {A = ℕ} (place - length d) 0)))
