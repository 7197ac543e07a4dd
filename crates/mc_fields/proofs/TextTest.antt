-- Whether some bytes are a text of a kind, byte by byte.
use Rattle.std.proofs.Common.{◌≡◌, ℕ, ◌-◌, ◌+◌, ◌≤◌, ◌<◌, Bool, true, false, List, [], ◌∷◌, length, get_or, refl, sym, take, arith, inl, inr, below_more}
use Rattle.std.specs.Prelude.{IsTrue, ◌↔◌, nat_lt, nat_le, if◌then◌else◌, ◌==◌}
use Rattle.std.proofs.lemmas.Bool.{eq-eqb, ne_eqb, cases_eq, and_parts, and_from, true≢false, ltb-true, lt-ltb, leb-true, le-leb}
use Rattle.std.proofs.lemmas.List.{length-take-le, get_or-take}
use Rattle.std.proofs.lemmas.List.Elements.{All-from_get_or, All-get_or}
use Rattle.std.proofs.lemmas.List.Sums.{AllPass-from_list_all, list_all-from_AllPass}
use Rattle.mc_fields.specs.Texts.{IsText, begins, is_text}
use Rattle.mc_fields.specs.Reading.{Read, may_follow}
use Rattle.mc_fields.proofs.FieldLoops.{IsAt}

-- each of the first n bytes may follow those before it
pub record AreTaken (first other : ℕ → Bool) (most : ℕ) (bytes : List ℕ) (n : ℕ) : Type 0 where
  pub each : (k : ℕ) → k < n → may_follow first other most k (get_or bytes k 0) ≡ true

pub none_taken : (first other : ℕ → Bool) (most : ℕ) (bytes : List ℕ) → AreTaken first other most bytes 0
none_taken first other most bytes = record { each = λ k h. absurd (omega arith) }

pub one_more_taken : (first other : ℕ → Bool) (most : ℕ) (bytes : List ℕ) (n : ℕ) → AreTaken first other most bytes n → may_follow first other most n (get_or bytes n 0) ≡ true → AreTaken first other most bytes (n + 1)
one_more_taken first other most bytes n taken here = record { each = below_more (λ k. may_follow first other most k (get_or bytes k 0) ≡ true) n taken.each here }

-- a byte that may follow passes the test of the others
follower_passes : (first other : ℕ → Bool) (most n c : ℕ) → ((b : ℕ) → first b ≡ true → other b ≡ true) → may_follow first other most n c ≡ true → other c ≡ true
follower_passes first other most n c fit e =
    let two = and_parts (nat_lt n most) (if n == 0 then first c else other c) e in
    elim (cases_eq n 0) [
      | inl is0 ↦ fit c (rw (eq-eqb n 0 is0) at two.1)
      | inr not0 ↦ rw (ne_eqb n 0 not0) at two.1
    ]

follower_is_within : (first other : ℕ → Bool) (most n c : ℕ) → may_follow first other most n c ≡ true → n < most
follower_is_within first other most n c e = ltb-true n most (and_parts (nat_lt n most) (if n == 0 then first c else other c) e).0

begins_as : (first other : ℕ → Bool) (most c : ℕ) → may_follow first other most 0 c ≡ true → first c ≡ true
begins_as first other most c e = (and_parts (nat_lt 0 most) (first c) e).1

taken_is_short : (first other : ℕ → Bool) (most : ℕ) (bytes : List ℕ) (n : ℕ) → length bytes ≡ n → AreTaken first other most bytes n → length bytes ≤ most
taken_is_short first other most bytes n e taken = elim (cases_eq n 0) [
  | inl is0 ↦ omega arith
  | inr not0 ↦
      let last : n - 1 < n = omega arith in
      omega (arith, follower_is_within first other most (n - 1) (get_or bytes (n - 1) 0) (taken.each (n - 1) last))
]

-- where every byte was taken, and there are enough
pub taken_is_text : (first other : ℕ → Bool) (least most : ℕ) (bytes : List ℕ) (n : ℕ) → ((b : ℕ) → first b ≡ true → other b ≡ true) → length bytes ≤ n → n ≤ length bytes → least ≤ length bytes
    → AreTaken first other most bytes n → IsText first other least most bytes
taken_is_text first other least most bytes n fit le ge some taken = record {
  some = some;
  short = taken_is_short first other most bytes n (omega arith) taken;
  begins = λ h. begins_as first other most (get_or bytes 0 0) (taken.each 0 (omega arith));
  all = All-from_get_or (λ b. other b ≡ true) bytes 0 (λ k h. follower_passes first other most k (get_or bytes k 0) fit (taken.each k (omega arith)));
}

-- each byte of a text may follow those before it
text_is_taken : (first other : ℕ → Bool) (least most : ℕ) (bytes : List ℕ) (k : ℕ) → IsText first other least most bytes → k < length bytes → may_follow first other most k (get_or bytes k 0) ≡ true
text_is_taken first other least most bytes k is lt = and_from (nat_lt k most) (if k == 0 then first (get_or bytes k 0) else other (get_or bytes k 0)) (lt-ltb k most (omega (arith, is.short))) (elim (cases_eq k 0) [
  | inl is0 ↦ rw (eq-eqb k 0 is0, is0) (is.begins (omega arith))
  | inr not0 ↦ rw (ne_eqb k 0 not0) (All-get_or (λ b. other b ≡ true) bytes k 0 lt is.all)
])

-- where a byte may not follow, the bytes are no text
pub no_text : (first other : ℕ → Bool) (least most : ℕ) (bytes : List ℕ) (n : ℕ) → n < length bytes → may_follow first other most n (get_or bytes n 0) ≡ false → IsText first other least most bytes → ⊥
no_text first other least most bytes n lt not is = true≢false (let k : true ≡ false = rw (text_is_taken first other least most bytes n is lt) at not in k)

-- the first bytes of a list, where each was taken
pub taken_front : (first other : ℕ → Bool) (least most : ℕ) (bytes : List ℕ) (n : ℕ) → ((b : ℕ) → first b ≡ true → other b ≡ true) → n ≤ length bytes → nat_le least n ≡ true
    → AreTaken first other most bytes n → IsText first other least most (take n bytes)
taken_front first other least most bytes n fit le enough taken =
    let len : length (take n bytes) ≡ n = length-take-le n bytes le in
    let some : least ≤ n = leb-true least n enough in
    taken_is_text first other least most (take n bytes) n fit (omega arith) (omega arith) (omega arith) (record {
      each = λ k lt. let at : get_or (take n bytes) k 0 ≡ get_or bytes k 0 = get_or-take n bytes k 0 lt in rw at (taken.each k lt);
    })

-- a text that is read, as a loop has come with it
pub record IsReadTo (first other : ℕ → Bool) (least most stop : ℕ) (bytes : List ℕ) (n : ℕ) (total : Read (List ℕ)) : Type 0 where
  pub at : IsAt first other least most stop bytes n total
  pub taken : AreTaken first other most bytes n

-- ---- the test decides

begins_first : (first : ℕ → Bool) (bytes : List ℕ) → begins first bytes ≡ true → 0 < length bytes → first (get_or bytes 0 0) ≡ true
begins_first first [] e some = absurd (omega arith)
begins_first first (c ∷ cs) e some = e

first_begins : (first : ℕ → Bool) (bytes : List ℕ) → (0 < length bytes → first (get_or bytes 0 0) ≡ true) → begins first bytes ≡ true
first_begins first [] h = refl
first_begins first (c ∷ cs) h = h (omega arith)

pub text_decides : (first other : ℕ → Bool) (least most : ℕ) (bytes : List ℕ) → (is_text first other least most bytes ≡ true) ↔ IsText first other least most bytes
unfolding is_text
text_decides first other least most bytes = (
  (λ e.
      let a = and_parts _ _ e in
      let b = and_parts _ _ a.1 in
      let c = and_parts _ _ b.1 in
      record {
        some = leb-true least (length bytes) a.0;
        short = leb-true (length bytes) most b.0;
        begins = begins_first first bytes c.0;
        all = AllPass-from_list_all other bytes c.1;
      }),
  (λ t.
      and_from _ _ (le-leb least (length bytes) t.some)
      (and_from _ _ (le-leb (length bytes) most t.short)
      (and_from _ _ (first_begins first bytes t.begins) (list_all-from_AllPass other bytes t.all)))),
)

same_test : (a b : Bool) → (a ≡ true → b ≡ true) → (b ≡ true → a ≡ true) → a ≡ b
same_test true b there back = sym (there refl)
same_test false true there back = back refl
same_test false false there back = refl

-- whatever decides it is the test
pub is_text_by : (first other : ℕ → Bool) (least most : ℕ) (bytes : List ℕ) (r : Bool) → (IsTrue r ↔ IsText first other least most bytes) → r ≡ is_text first other least most bytes
is_text_by first other least most bytes r h =
    let d = text_decides first other least most bytes in
    same_test r (is_text first other least most bytes) (λ t. d.1 (h.0 t)) (λ t. h.1 (d.0 t))
