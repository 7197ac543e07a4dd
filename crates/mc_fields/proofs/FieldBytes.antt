-- Numbers as bytes and back, and what a reader takes from the front.
use Rattle.std.proofs.Common.{◌≡◌, ℕ, suc, ◌+◌, ◌<◌, Bool, true, false, cond, List, [], ◌∷◌, ◌++◌, length, get_or, take, drop, Result, Ok, Err, refl, sym, ap, ◌∙◌, append_assoc, arith, inl, inr, mod-eq_of_lt}
use Rattle.std.proofs.lemmas.Bool.{cases_lt}
use Rattle.std.proofs.lemmas.List.{length-take, get_or-drop, get_or-take, get_or_past}
use Rattle.std.proofs.lemmas.Nat.{be_bytes_2, be_bytes_4, be_bytes_8, from_be_bytes-to_be_bytes_2, from_be_bytes-to_be_bytes_4, from_be_bytes-to_be_bytes_8}
use Rattle.mc_fields.specs.Field.{Size, one, two, four, eight, limit, size, number_bytes, bytes_number}
use Rattle.mc_fields.specs.Reading.{◌>>=◌}

abbrev pub IsBytes : List ℕ → Type 0
IsBytes bytes = (i : ℕ) → get_or bytes i 0 < 256

pub IsBytes-drop : (n : ℕ) (bytes : List ℕ) → IsBytes bytes → IsBytes (drop n bytes)
IsBytes-drop n bytes h i = rw get_or-drop (h (n + i))

pub IsBytes-take : (n : ℕ) (bytes : List ℕ) → IsBytes bytes → IsBytes (take n bytes)
IsBytes-take n bytes h i =
    elim (cases_lt i n) [
      | inl lt ↦ rw (get_or-take n bytes i 0 lt) (h i)
      | inr le ↦ rw (get_or_past (take n bytes) i 0 (omega (arith, length-take n bytes))) (omega arith)
    ]

pub IsBytes-rest : (b : ℕ) (bytes : List ℕ) → IsBytes (b ∷ bytes) → IsBytes bytes
IsBytes-rest b bytes h i = h (suc i)

-- the value of a step that did not fail
pub bind_ok : {A B : Type 0} (r : Result A ℕ) (f : A → Result B ℕ) (y : B) → (r >>= f) ≡ Ok y → (x : A) × (r ≡ Ok x) × (f x ≡ Ok y)
bind_ok (Ok x) f y e = (x, refl, e)
bind_ok (Err d) f y e = absurd cc

-- a test that did not fail
pub guard_ok : {A : Type 0} (b : Bool) (d : ℕ) (r : Result A ℕ) (y : A) → cond b (Err d) r ≡ Ok y → (b ≡ false) × (r ≡ Ok y)
guard_ok true d r y e = absurd cc
guard_ok false d r y e = (refl, e)

pub guard_else : {A : Type 0} (b : Bool) (d : ℕ) (r : Result A ℕ) (y : A) → cond b r (Err d) ≡ Ok y → (b ≡ true) × (r ≡ Ok y)
guard_else true d r y e = (refl, e)
guard_else false d r y e = absurd cc

abbrev pub right : {A : Type 0} → A → Result A ℕ
right x = Ok x

pub ok_is : {A : Type 0} (x y : A) → right x ≡ right y → x ≡ y
ok_is x y e = cc

-- what a reader took from the front
pub record Takes (bytes text rest : List ℕ) : Type 0 where
  pub parts : bytes ≡ text ++ rest
  pub rest_fits : IsBytes rest

pub Takes-then : (a x b y c : List ℕ) → Takes a x b → Takes b y c → Takes a (x ++ y) c
Takes-then a x b y c p q = record { parts = p.parts ∙ ap (λ (t : List ℕ). x ++ t) q.parts ∙ sym (append_assoc x y c); rest_fits = q.rest_fits }

-- ---- numbers

pub length-number_bytes : (z : Size) (n : ℕ) → length (number_bytes z n) ≡ size z
length-number_bytes one n = refl
length-number_bytes two n = refl
length-number_bytes four n = refl
length-number_bytes eight n = refl

one_back : (bytes : List ℕ) → length bytes ≡ 1 → IsBytes bytes → number_bytes one (bytes_number one bytes) ≡ bytes
one_back [] len fits = absurd (omega (arith, len))
one_back (b ∷ []) len fits = let lt : b < 256 = fits 0 in ap (λ (x : ℕ). x ∷ []) (mod-eq_of_lt lt)
one_back (b ∷ c ∷ bs) len fits = absurd (omega (arith, len))

pub number_back : (z : Size) (bytes : List ℕ) → length bytes ≡ size z → IsBytes bytes → number_bytes z (bytes_number z bytes) ≡ bytes
number_back one bytes len fits = one_back bytes len fits
number_back two bytes len fits = be_bytes_2 bytes _ len fits refl
number_back four bytes len fits = be_bytes_4 bytes _ len fits refl
number_back eight bytes len fits = be_bytes_8 bytes _ len fits refl

pub number_again : (z : Size) (n : ℕ) → n < limit z → bytes_number z (number_bytes z n) ≡ n
number_again one n lt = mod-eq_of_lt lt
number_again two n lt = from_be_bytes-to_be_bytes_2 n lt
number_again four n lt = from_be_bytes-to_be_bytes_4 n lt
number_again eight n lt = from_be_bytes-to_be_bytes_8 n lt

pub number_below : (z : Size) (bytes : List ℕ) → IsBytes bytes → bytes_number z bytes < limit z
number_below one bytes fits = omega (arith, fits 0)
number_below two bytes fits = omega (arith, fits 0, fits 1)
number_below four bytes fits = omega (arith, fits 0, fits 1, fits 2, fits 3)
number_below eight bytes fits = omega (arith, fits 0, fits 1, fits 2, fits 3, fits 4, fits 5, fits 6, fits 7)
