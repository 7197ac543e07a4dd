-- The word of some secrets, told apart again.
use Rattle.std.proofs.Common.{◌≡◌, ℕ, ◌+◌, ◌<◌, List, [], ◌∷◌, ◌++◌, length, take, drop, set, refl, sym, ap, ◌∙◌, append_assoc, arith}
use Rattle.std.specs.Prelude.{◌≢◌}
use Rattle.std.specs.List.{AllByRecursion}
use Rattle.std.proofs.lemmas.List.{append-nil, nil_from_length, length-append, length-take-le, take_at, drop_at, take_more_set}
use Rattle.hex.specs.Hex.{encode_lower, lower_digits}
use Rattle.hex.proofs.HexLemmas.{length-encode_with}
use Rattle.scrip_form.specs.Scrip.{IsCert}
use Rattle.mc_fields.specs.Reading.{hex_at}
use Rattle.mc_fields.proofs.Formats.{done, failed, done_is, not_both}
use Rattle.mc_fields.proofs.HexField.{hex_reads}
use Rattle.command_table.specs.Ranges.{IsSecretList, joined}

abbrev pub AreCerts : List (List ℕ) → Type 0
AreCerts secrets = AllByRecursion IsCert secrets

-- ---- one secret

-- the bytes of some digits are one list
pub same_secret : (a b : List ℕ) → IsCert a → IsCert b → encode_lower a ≡ encode_lower b → a ≡ b
same_secret a b fa fb e =
    let reads = hex_reads 16 in
    ap (λ (y : List ℕ × List ℕ). y.0) (done_is (a, []) (b, []) (sym (reads.again a [] fa) ∙ ap (λ (l : List ℕ). hex_at 16 (l ++ [])) e ∙ reads.again b [] fb))

pub digits_are_32 : (x : List ℕ) → IsCert x → length (encode_lower x) ≡ 32
digits_are_32 x is = omega (arith, length-encode_with lower_digits x, is.0)

-- lists that go on alike behind fronts of one length have the same front, and go on the same
same_front : (n : ℕ) (a b x y : List ℕ) → length a ≡ n → length b ≡ n → a ++ x ≡ b ++ y → (a ≡ b) × (x ≡ y)
same_front n a b x y la lb e = (
  sym (take_at a x n la) ∙ ap (take n) e ∙ take_at b y n lb,
  sym (drop_at a x n la) ∙ ap (drop n) e ∙ drop_at b y n lb,
)

-- the first secret of a text, and what is behind it
pub same_first : (a b x y : List ℕ) → IsCert a → IsCert b → encode_lower a ++ x ≡ encode_lower b ++ y → (a ≡ b) × (x ≡ y)
same_first a b x y fa fb e =
    let p = same_front 32 (encode_lower a) (encode_lower b) x y (digits_are_32 a fa) (digits_are_32 b fb) e in
    (same_secret a b fa fb p.0, p.1)

-- ---- several

-- what is behind the first secret
abbrev pub behind : List (List ℕ) → List ℕ
behind [] = []
behind (x ∷ xs) = 44 ∷ joined (x ∷ xs)

pub joined-cons : (x : List ℕ) (xs : List (List ℕ)) → joined (x ∷ xs) ≡ encode_lower x ++ behind xs
joined-cons x [] = sym (append-nil (encode_lower x))
joined-cons x (y ∷ ys) = refl

same_behind : (a b : List (List ℕ)) → behind a ≡ behind b → (joined a ≡ joined b → a ≡ b) → a ≡ b
same_behind [] [] e same = refl
same_behind [] (y ∷ ys) e same = absurd cc
same_behind (x ∷ xs) [] e same = absurd cc
same_behind (x ∷ xs) (y ∷ ys) e same = same (let k : joined (x ∷ xs) ≡ joined (y ∷ ys) = cc in k)

some_digits : (x : List ℕ) (xs : List (List ℕ)) → IsCert x → joined (x ∷ xs) ≡ [] → ⊥
some_digits x xs is e = omega (arith, ap length (sym (joined-cons x xs) ∙ e), length-append (encode_lower x) (behind xs), digits_are_32 x is)

-- the secrets of a word are one list
pub same_secrets : (a b : List (List ℕ)) → AreCerts a → AreCerts b → joined a ≡ joined b → a ≡ b
same_secrets [] [] fa fb e = refl
same_secrets [] (y ∷ ys) fa fb e = absurd (some_digits y ys fb.0 (sym e))
same_secrets (x ∷ xs) [] fa fb e = absurd (some_digits x xs fa.0 e)
same_secrets (x ∷ xs) (y ∷ ys) fa fb e =
    let p = same_first x y (behind xs) (behind ys) fa.0 fb.0 (sym (joined-cons x xs) ∙ e ∙ joined-cons y ys) in
    let q = same_behind xs ys p.1 (same_secrets xs ys fa.1 fb.1) in
    λ i. p.0 i ∷ q i

-- ---- reading them one after the other

-- some secrets were read from the front of a word, and more must follow
pub record IsReadSoFar (word : List ℕ) (front : List (List ℕ)) (rest : List ℕ) : Type 0 where
  pub certs : AreCerts front
  pub onward : (x : List ℕ) (xs : List (List ℕ)) → rest ≡ joined (x ∷ xs) → word ≡ joined (front ++ x ∷ xs)
  pub back : (all : List (List ℕ)) → IsSecretList all → word ≡ joined all → (x : List ℕ) × (xs : List (List ℕ)) × (all ≡ front ++ x ∷ xs) × IsCert x × AreCerts xs × (rest ≡ joined (x ∷ xs))

pub none_read : (word : List ℕ) → IsReadSoFar word [] word
none_read word = record { certs = tt; onward = λ x xs e. e; back = back }
  where
    back : (all : List (List ℕ)) → IsSecretList all → word ≡ joined all → (x : List ℕ) × (xs : List (List ℕ)) × (all ≡ x ∷ xs) × IsCert x × AreCerts xs × (word ≡ joined (x ∷ xs))
    back [] is e = absurd (omega (arith, is.some))
    back (x ∷ xs) is e = (x, xs, refl, is.secrets'.0, is.secrets'.1, e)

-- a secret was read, and this is behind it
pub record IsRead (rest secret more : List ℕ) : Type 0 where
  pub cert : IsCert secret
  pub spelled : rest ≡ encode_lower secret ++ more

pub is_read : (rest secret more : List ℕ) → hex_at 16 rest ≡ done (secret, more) → IsRead rest secret more
is_read rest secret more e =
    let sound = (hex_reads 16).sound rest secret more e in
    record { cert = sound.1; spelled = sound.0 }

-- it is the next secret of the word
same_next : (rest secret more x : List ℕ) (xs : List (List ℕ)) → IsRead rest secret more → IsCert x → rest ≡ joined (x ∷ xs) → (x ≡ secret) × (behind xs ≡ more)
same_next rest secret more x xs read is e = same_first x secret (behind xs) more is read.cert (sym (joined-cons x xs) ∙ sym e ∙ read.spelled)

AreCerts-push : (xs : List (List ℕ)) (x : List ℕ) → AreCerts xs → IsCert x → AreCerts (xs ++ x ∷ [])
AreCerts-push [] x all is = (is, tt)
AreCerts-push (y ∷ ys) x all is = (all.0, AreCerts-push ys x all.1 is)

-- where the word goes on with a comma, one more secret was read
pub one_more : (word : List ℕ) (front : List (List ℕ)) (rest secret more : List ℕ) (c : ℕ) (tail : List ℕ) → IsReadSoFar word front rest → IsRead rest secret more → more ≡ c ∷ tail → c ≡ 44
    → IsReadSoFar word (front ++ secret ∷ []) tail
one_more word front rest secret more c tail so read e comma = record {
  certs = AreCerts-push front secret so.certs read.cert;
  onward = λ x xs at. so.onward secret (x ∷ xs) (read.spelled ∙ ap (λ (l : List ℕ). encode_lower secret ++ l) (goes_on ∙ ap (λ (l : List ℕ). 44 ∷ l) at)) ∙ ap joined (sym (append_assoc front (secret ∷ []) (x ∷ xs)));
  back = λ all many spelled.
      let p = so.back all many spelled in
      let q = same_next rest secret more p.0 p.1 read p.3 p.5 in
      back all p.0 p.1 p.2 q.0 p.4 (q.1 ∙ goes_on);
}
  where
    goes_on : more ≡ 44 ∷ tail
    goes_on = e ∙ ap (λ (n : ℕ). n ∷ tail) comma

    back : (all : List (List ℕ)) (y : List ℕ) (ys : List (List ℕ)) → all ≡ front ++ y ∷ ys → y ≡ secret → AreCerts ys → behind ys ≡ 44 ∷ tail
        → (x : List ℕ) × (xs : List (List ℕ)) × (all ≡ (front ++ secret ∷ []) ++ x ∷ xs) × IsCert x × AreCerts xs × (tail ≡ joined (x ∷ xs))
    back all y [] a same certs b = absurd cc
    back all y (x ∷ xs) a same certs b =
        (x, xs, a ∙ ap (λ (s : List ℕ). front ++ s ∷ x ∷ xs) same ∙ sym (append_assoc front (secret ∷ []) (x ∷ xs)), certs.0, certs.1, (let k : tail ≡ joined (x ∷ xs) = cc in k))

-- where it ends, all were read
pub all_read : (word : List ℕ) (list : List (List ℕ)) (i : ℕ) (rest secret more : List ℕ) → i < 16 → i < length list → IsReadSoFar word (take i list) rest → IsRead rest secret more → length more ≡ 0
    → IsSecretList (take (i + 1) (set list i secret)) × (word ≡ joined (take (i + 1) (set list i secret)))
all_read word list i rest secret more few room so read ends = rw (take_more_set list i secret room) (
  record {
    some = omega (arith, length-append (take i list) (secret ∷ []));
    few = omega (arith, length-append (take i list) (secret ∷ []), length-take-le i list (omega (arith, room)), few);
    secrets' = AreCerts-push (take i list) secret so.certs read.cert;
  },
  so.onward secret [] (read.spelled ∙ ap (λ (l : List ℕ). encode_lower secret ++ l) (nil_from_length more ends) ∙ append-nil (encode_lower secret)),
)

-- where no secret follows, the word is of no secrets
pub none_follows : (word : List ℕ) (front : List (List ℕ)) (rest : List ℕ) (left : ℕ) → IsReadSoFar word front rest → hex_at 16 rest ≡ failed left
    → (all : List (List ℕ)) → IsSecretList all → word ≡ joined all → ⊥
none_follows word front rest left so e all is spelled =
    let p = so.back all is spelled in
    not_both (p.0, behind p.1) left (sym ((hex_reads 16).again p.0 (behind p.1) p.3) ∙ ap (hex_at 16) (sym (joined-cons p.0 p.1) ∙ sym p.5) ∙ e)

-- nor where neither the end nor a comma is behind one
pub no_comma : (word : List ℕ) (front : List (List ℕ)) (rest secret more : List ℕ) (c : ℕ) (tail : List ℕ) → IsReadSoFar word front rest → IsRead rest secret more → more ≡ c ∷ tail → c ≢ 44
    → (all : List (List ℕ)) → IsSecretList all → word ≡ joined all → ⊥
no_comma word front rest secret more c tail so read e other all is spelled =
    let p = so.back all is spelled in
    let q = same_next rest secret more p.0 p.1 read p.3 p.5 in
    goes_on p.1 (q.1 ∙ e)
  where
    goes_on : (xs : List (List ℕ)) → behind xs ≡ c ∷ tail → ⊥
    goes_on [] k = absurd cc
    goes_on (x ∷ xs) k = other (let same : c ≡ 44 = cc in same)

-- ---- one alone

-- a word that begins with no secret spells none
pub begins_with_none : (word : List ℕ) (left : ℕ) → hex_at 16 word ≡ failed left → (secret : List ℕ) → IsCert secret → word ≡ encode_lower secret → ⊥
begins_with_none word left e secret is spelled = not_both (secret, []) left (sym ((hex_reads 16).again secret [] is) ∙ ap (hex_at 16) (append-nil (encode_lower secret) ∙ sym spelled) ∙ e)

-- nor does one that goes on behind it
pub goes_on_behind : (word secret more : List ℕ) → IsRead word secret more → 0 < length more → (other : List ℕ) → IsCert other → word ≡ encode_lower other → ⊥
goes_on_behind word secret more read some other is spelled =
    omega (arith, ap length read.spelled, length-append (encode_lower secret) more, digits_are_32 secret read.cert, some, ap length spelled, digits_are_32 other is)

-- one that doesn't is its digits
pub ends_behind : (word secret more : List ℕ) → IsRead word secret more → length more ≡ 0 → word ≡ encode_lower secret
ends_behind word secret more read none = read.spelled ∙ ap (λ (l : List ℕ). encode_lower secret ++ l) (nil_from_length more none) ∙ append-nil (encode_lower secret)
