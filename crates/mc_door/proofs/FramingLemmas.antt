-- Where an operator's command ends: a line that ends is the same, whatever comes behind it.
use Rattle.std.proofs.Common.{◌≡◌, ◌⊎◌, inl, inr, ℕ, suc, ◌+◌, ◌<◌, ◌≤◌, Bool, true, false, eqb, List, [], ◌∷◌, ◌++◌, length, take, drop, Option, Some, None, option_map, refl, sym, ap, ap₂, ◌∙◌, subst, arith}
use Rattle.std.specs.Prelude.{◌==◌, if◌then◌else◌}
use Rattle.std.proofs.lemmas.Option.{same_Some}
use Rattle.std.proofs.lemmas.List.{append_assoc, take-append-drop, length-append, length-take-le}
use Rattle.mc_fields.specs.Cuts.{cut}
use Rattle.mc_fields.proofs.CutLaws.{cut_sound}
use Rattle.mc_door.specs.Framing.{TellsInput, HasLine, HasCommand, LacksInput}

abbrev found : List ℕ → List ℕ → Option (List ℕ × List ℕ)
found word rest = Some (word, rest)

-- ---- where a text is cut

-- it is cut at its first byte, or behind it
pub record CutHere (stop c : ℕ) (cs word rest : List ℕ) : Type 0 where
  pub stops : eqb c stop ≡ true
  pub word' : word ≡ []
  pub rest' : rest ≡ cs

pub record CutLater (stop c : ℕ) (cs word rest : List ℕ) : Type 0 where
  pub tail : List ℕ
  pub goes : eqb c stop ≡ false
  pub word' : word ≡ c ∷ tail
  pub later : cut stop cs ≡ found tail rest

cut_step : (stop c : ℕ) (cs word rest : List ℕ) → cut stop (c ∷ cs) ≡ found word rest → CutHere stop c cs word rest ⊎ CutLater stop c cs word rest
unfolding cut
cut_step stop c cs word rest is = go (eqb c stop) refl (cut stop cs) refl is
  where
    goes_on : Bool → Option (List ℕ × List ℕ) → Option (List ℕ × List ℕ)
    goes_on b o = if b then found [] cs else option_map (λ x. (c ∷ x.0, x.1)) o

    go : (b : Bool) → eqb c stop ≡ b → (o : Option (List ℕ × List ℕ)) → cut stop cs ≡ o → goes_on b o ≡ found word rest → CutHere stop c cs word rest ⊎ CutLater stop c cs word rest
    go true e o p q =
        let x = same_Some ([], cs) (word, rest) q in
        inl (record { stops = e; word' = sym (ap (λ (y : List ℕ × List ℕ). y.0) x); rest' = sym (ap (λ (y : List ℕ × List ℕ). y.1) x) })
    go false e None p q = absurd cc
    go false e (Some y) p q =
        let x = same_Some (c ∷ y.0, y.1) (word, rest) q in
        inr (record {
          tail = y.0;
          goes = e;
          word' = sym (ap (λ (z : List ℕ × List ℕ). z.0) x);
          later = p ∙ ap (λ (r : List ℕ). found y.0 r) (ap (λ (z : List ℕ × List ℕ). z.1) x);
        })

-- a text that is cut nowhere begins with a byte that cuts nothing
record CutNowhere (stop c : ℕ) (cs : List ℕ) : Type 0 where
  goes : eqb c stop ≡ false
  later : cut stop cs ≡ None

nowhere : (stop c : ℕ) (cs : List ℕ) → cut stop (c ∷ cs) ≡ None → CutNowhere stop c cs
unfolding cut
nowhere stop c cs is = go (eqb c stop) refl (cut stop cs) refl is
  where
    goes_on : Bool → Option (List ℕ × List ℕ) → Option (List ℕ × List ℕ)
    goes_on b o = if b then found [] cs else option_map (λ x. (c ∷ x.0, x.1)) o

    go : (b : Bool) → eqb c stop ≡ b → (o : Option (List ℕ × List ℕ)) → cut stop cs ≡ o → goes_on b o ≡ None → CutNowhere stop c cs
    go true e o p q = absurd cc
    go false e None p q = record { goes = e; later = p }
    go false e (Some y) p q = absurd cc

-- whatever comes behind
pub cut_more : (stop : ℕ) (bytes more word rest : List ℕ) → cut stop bytes ≡ found word rest → cut stop (bytes ++ more) ≡ found word (rest ++ more)
unfolding cut
cut_more stop [] more word rest is = absurd cc
cut_more stop (c ∷ cs) more word rest is = go (cut_step stop c cs word rest is) (λ w. cut_more stop cs more w rest)
  where
    go : CutHere stop c cs word rest ⊎ CutLater stop c cs word rest → ((w : List ℕ) → cut stop cs ≡ found w rest → cut stop (cs ++ more) ≡ found w (rest ++ more)) → cut stop ((c ∷ cs) ++ more) ≡ found word (rest ++ more)
    go (inl here) next = rw here.stops (ap₂ (λ (w r : List ℕ). found w (r ++ more)) (sym here.word') (sym here.rest'))
    go (inr later) next = rw (later.goes, next later.tail later.later) (ap (λ (w : List ℕ). found w (rest ++ more)) (sym later.word'))

-- and where it is cut in what comes behind, nothing of it cuts
cut_behind : (stop : ℕ) (bytes more word rest : List ℕ) → cut stop bytes ≡ None → cut stop (bytes ++ more) ≡ found word rest → length bytes ≤ length word
cut_behind stop [] more word rest none is = omega arith
cut_behind stop (c ∷ cs) more word rest none is = go (nowhere stop c cs none) (cut_step stop c (cs ++ more) word rest is) (λ w. cut_behind stop cs more w rest)
  where
    go : CutNowhere stop c cs → CutHere stop c (cs ++ more) word rest ⊎ CutLater stop c (cs ++ more) word rest → ((w : List ℕ) → cut stop cs ≡ None → cut stop (cs ++ more) ≡ found w rest → length cs ≤ length w) → suc (length cs) ≤ length word
    go none (inl here) next = let both : true ≡ false = sym here.stops ∙ none.goes in absurd cc
    go none (inr later) next = omega (arith, next later.tail none.later later.later, ap length later.word')

-- ---- the first line

-- It ends in the front.
pub line_there : (n : ℕ) (bytes line rest : List ℕ) → n ≤ 8192 → n ≤ length bytes → cut 10 (take n bytes) ≡ found line rest → HasLine bytes line (rest ++ drop n bytes)
line_there n bytes line rest most within is =
    let all : take n bytes ++ drop n bytes ≡ bytes = take-append-drop n bytes in
    let sound : take n bytes ≡ line ++ 10 ∷ rest = cut_sound 10 (take n bytes) line rest is in
    record {
      ends = subst (λ (l : List ℕ). cut 10 l ≡ found line (rest ++ drop n bytes)) all (cut_more 10 (take n bytes) (drop n bytes) line rest is);
      short = omega (arith, ap length sound, length-append line (10 ∷ rest), length-take-le n bytes within);
    }

-- It does not, and the front is as long as a first line may be.
pub no_line : (n : ℕ) (bytes more : List ℕ) (k : ℕ) → 8192 ≤ n → n ≤ length bytes → cut 10 (take n bytes) ≡ None → HasCommand (bytes ++ more) k → ⊥
no_line n bytes more k most within none has =
    let all : bytes ++ more ≡ take n bytes ++ (drop n bytes ++ more) = ap (λ (l : List ℕ). l ++ more) (sym (take-append-drop n bytes)) ∙ append_assoc (take n bytes) (drop n bytes) more in
    let ends : cut 10 (take n bytes ++ (drop n bytes ++ more)) ≡ found has.line has.behind = subst (λ (l : List ℕ). cut 10 l ≡ found has.line has.behind) all has.first.ends in
    omega (arith, cut_behind 10 (take n bytes) (drop n bytes ++ more) has.line has.behind none ends, length-take-le n bytes within, has.first.short)

-- It tells no length.
pub no_length : (bytes line behind more : List ℕ) (k : ℕ) → HasLine bytes line behind → ((n : ℕ) → TellsInput line n → ⊥) → HasCommand (bytes ++ more) k → ⊥
no_length bytes line behind more k first none has =
    let same = same_Some (has.line, has.behind) (line, behind ++ more) (sym has.first.ends ∙ cut_more 10 bytes more line behind first.ends) in
    none has.input (subst (λ (l : List ℕ). TellsInput l has.input) (ap (λ (x : List ℕ × List ℕ). x.0) same) has.tells)

-- how many bytes are behind it
behind_line : (bytes line behind : List ℕ) → HasLine bytes line behind → length bytes ≡ length line + 1 + length behind
behind_line bytes line behind first = omega (arith, ap length (cut_sound 10 bytes line behind first.ends), length-append line (10 ∷ behind))

-- ---- the command

pub whole_there : (bytes line behind : List ℕ) (input n : ℕ) → HasLine bytes line behind → TellsInput line input → length line + 1 + input ≤ length bytes → length line + 1 + input ≡ n → HasCommand bytes n
whole_there bytes line behind input n first tells within is = record {
  line = line;
  behind = behind;
  input = input;
  first = first;
  tells = tells;
  there = omega (arith, behind_line bytes line behind first);
  size = sym is;
}

pub lacks_input : (bytes line behind : List ℕ) (input : ℕ) → HasLine bytes line behind → TellsInput line input → length bytes < length line + 1 + input → LacksInput bytes
lacks_input bytes line behind input first tells lacks = record {
  line = line;
  behind = behind;
  input = input;
  first = first;
  tells = tells;
  lacks = omega (arith, behind_line bytes line behind first);
}
