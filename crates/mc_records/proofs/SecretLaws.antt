-- Secrets of 16 bytes that stand one after the other, as chunks of the bytes.
use Rattle.std.proofs.Common.{◌≡◌, ℕ, zero, suc, ◌*◌, ◌%◌, ◌<◌, ◌≤◌, Bool, true, false, nat_lt, List, [], ◌∷◌, length, take, drop, Result, Ok, Err, refl, sym, ap, ◌∙◌, arith, length-drop, drop-drop}
use Rattle.std.proofs.lemmas.Bool.{ltb-true, ltb-false}
use Rattle.std.specs.Simd.{first_chunks}
use Rattle.mc_fields.specs.Reading.{Read, ◌>>=◌}
use Rattle.mc_fields.specs.Form.{Form, plain, done, repeated, plain_at, run}
use Rattle.mc_fields.proofs.FormLaws.{one_more, plain_alone}

abbrev key : Form (List ℕ)
key = plain 16 done

-- the first of more chunks
pub first_of_chunks : {X : Type 0} (size few many : ℕ) (xs : List X) → few ≤ many → take few (first_chunks size many xs) ≡ first_chunks size few xs
first_of_chunks size zero many xs le = refl
first_of_chunks size (suc few) zero xs le = absurd (omega (arith, le))
first_of_chunks {X} size (suc few) (suc many) xs le = ap (λ (ks : List (List X)). take size xs ∷ ks) (first_of_chunks size few many (drop size xs) (omega arith))

-- what reading a secret and others behind it gives
abbrev then : ℕ → Read (List ℕ) → Read (List (List ℕ))
then n r = r >>= λ x. run (repeated n key) x.1 >>= λ s. Ok (x.0 ∷ s.0, s.1)

abbrev behind : List ℕ → Read (List (List ℕ)) → Read (List (List ℕ))
behind secret r = r >>= λ s. Ok (secret ∷ s.0, s.1)

first_there : (bytes : List ℕ) → 16 ≤ length bytes → run key bytes ≡ Ok (take 16 bytes, drop 16 bytes)
first_there bytes le = plain_alone 16 bytes ∙ whole
  where
    whole : plain_at 16 bytes ≡ Ok (take 16 bytes, drop 16 bytes)
    whole = grind (arith, le)

first_short : (bytes : List ℕ) → length bytes < 16 → run key bytes ≡ Err (length bytes)
first_short bytes lt = plain_alone 16 bytes ∙ cut
  where
    cut : plain_at 16 bytes ≡ Err (length bytes)
    cut = grind (arith, lt)

-- so many secrets, where so many are there
pub secrets_there : (n : ℕ) (bytes : List ℕ) → 16 * n ≤ length bytes → run (repeated n key) bytes ≡ Ok (first_chunks 16 n bytes, drop (16 * n) bytes)
secrets_there zero bytes le = refl
secrets_there (suc n) bytes le =
    let others = secrets_there n (drop 16 bytes) (omega (arith, length-drop 16 bytes)) in
    let rest : drop (16 * n) (drop 16 bytes) ≡ drop (16 * suc n) bytes = drop-drop (16 * n) 16 bytes ∙ ap (λ (k : ℕ). drop k bytes) (omega arith) in
    one_more key n bytes ∙ ap (then n) (first_there bytes (omega arith)) ∙ ap (behind (take 16 bytes)) others ∙ ap found rest
  where
    found : List ℕ → Read (List (List ℕ))
    found rest = Ok (first_chunks 16 (suc n) bytes, rest)

-- and where fewer are there, what is left behind them
pub secrets_short : (n : ℕ) (bytes : List ℕ) → length bytes < 16 * n → run (repeated n key) bytes ≡ Err (length bytes % 16)
secrets_short zero bytes lt = absurd (omega (arith, lt))
secrets_short (suc n) bytes lt = go (nat_lt (length bytes) 16) refl λ shorter. secrets_short n (drop 16 bytes) shorter
  where
    stuck : ℕ → Read (List (List ℕ))
    stuck left = Err left

    go : (b : Bool) → nat_lt (length bytes) 16 ≡ b → (length (drop 16 bytes) < 16 * n → run (repeated n key) (drop 16 bytes) ≡ Err (length (drop 16 bytes) % 16)) → run (repeated (suc n) key) bytes ≡ Err (length bytes % 16)
    go true e shorter =
        let few : length bytes < 16 = ltb-true (length bytes) 16 e in
        one_more key n bytes ∙ ap (then n) (first_short bytes few) ∙ ap stuck (omega arith)
    go false e shorter =
        let one : 16 ≤ length bytes = ltb-false (length bytes) 16 e in
        let left : length (drop 16 bytes) % 16 ≡ length bytes % 16 = omega (arith, length-drop 16 bytes) in
        one_more key n bytes ∙ ap (then n) (first_there bytes one) ∙ ap (behind (take 16 bytes)) (shorter (omega (arith, length-drop 16 bytes))) ∙ ap stuck left
