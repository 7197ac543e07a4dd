-- The words of secrets, one after another.
use Rattle.std.proofs.Common.{◌≡◌, ℕ, suc, ◌+◌, ◌<◌, List, [], ◌∷◌, ◌++◌, length, map, flat_map, take, drop, get_or, refl, sym, ap, ◌∙◌, append_assoc, arith}
use Rattle.std.proofs.lemmas.List.{length-take-le}
use Rattle.std.proofs.Math.Seq.{take-suc, drop-cons}
use Rattle.hex.specs.Hex.{encode_lower}
use Rattle.command_table.specs.Ranges.{joined}

-- a comma behind some secrets, nothing where there are none
abbrev pub comma : List (List ℕ) → List ℕ
comma [] = []
comma (x ∷ xs) = 44 ∷ []

pub joined-snoc : (xs : List (List ℕ)) (x : List ℕ) → joined (xs ++ x ∷ []) ≡ joined xs ++ (comma xs ++ encode_lower x)
joined-snoc [] x = refl
joined-snoc (y ∷ []) x = refl
joined-snoc (y ∷ z ∷ ys) x = ap (λ (l : List ℕ). encode_lower y ++ 44 ∷ l) (joined-snoc (z ∷ ys) x) ∙ sym (append_assoc (encode_lower y) (44 ∷ joined (z ∷ ys)) (44 ∷ encode_lower x))

comma_some : (xs : List (List ℕ)) → 0 < length xs → comma xs ≡ 44 ∷ []
comma_some [] some = absurd (omega (arith, some))
comma_some (x ∷ xs) some = refl

-- behind some of the secrets there is a comma
pub comma_taken : (secrets : List (List ℕ)) (i : ℕ) → 0 < i → i < length secrets → comma (take i secrets) ≡ 44 ∷ []
comma_taken secrets i some lt = comma_some (take i secrets) (omega (arith, length-take-le i secrets (omega (arith, lt)), some))

pub comma_first : (secrets : List (List ℕ)) (i : ℕ) → i ≡ 0 → comma (take i secrets) ≡ []
comma_first secrets i is = rw is refl

-- a line with one more secret
pub secrets_more : (front line more hex : List ℕ) (secrets : List (List ℕ)) (i : ℕ) → i < length secrets → line ≡ front ++ joined (take i secrets) → hex ≡ encode_lower (get_or secrets i [])
    → more ≡ line ++ (comma (take i secrets) ++ hex) → more ≡ front ++ joined (take (i + 1) secrets)
secrets_more front line more hex secrets i lt so_far is then =
    let one_more : i + 1 ≡ suc i = omega arith in
    let next : take (i + 1) secrets ≡ take i secrets ++ get_or secrets i [] ∷ [] = ap (λ (n : ℕ). take n secrets) one_more ∙ take-suc secrets i [] lt in
    then ∙ ap (λ (l : List ℕ). l ++ (comma (take i secrets) ++ hex)) so_far ∙ append_assoc front (joined (take i secrets)) (comma (take i secrets) ++ hex)
    ∙ ap (λ (l : List ℕ). front ++ (joined (take i secrets) ++ (comma (take i secrets) ++ l))) is
    ∙ ap (λ (l : List ℕ). front ++ l) (sym (ap joined next ∙ joined-snoc (take i secrets) (get_or secrets i [])))

-- lines that texts have one after another, of the texts from one on
pub lines_more : {X : Type 0} (f : List ℕ → List ℕ) (g : X → List ℕ) (xs : List X) (i : ℕ) (x : X) (old lines new : List ℕ) → i < length xs → x ≡ get_or xs i x → new ≡ lines ++ f (g x)
    → lines ++ flat_map f (map g (drop i xs)) ≡ old → new ++ flat_map f (map g (drop (i + 1) xs)) ≡ old
lines_more {X = X} f g xs i x old lines new lt is more stood =
    let next : suc i ≡ i + 1 = omega arith in
    let at : drop i xs ≡ x ∷ drop (i + 1) xs = drop-cons xs i x lt ∙ ap (λ (y : X). y ∷ drop (suc i) xs) (sym is) ∙ ap (λ (n : ℕ). x ∷ drop n xs) next in
    ap (λ (l : List ℕ). l ++ flat_map f (map g (drop (i + 1) xs))) more
    ∙ append_assoc lines (f (g x)) (flat_map f (map g (drop (i + 1) xs)))
    ∙ ap (λ (ys : List X). lines ++ flat_map f (map g ys)) (sym at)
    ∙ stood
