-- The bytes of entries, one entry after the other.
use Rattle.std.proofs.Common.{◌≡◌, ◌⊎◌, inl, inr, ℕ, suc, ◌+◌, ◌≤◌, List, [], ◌∷◌, ◌++◌, length, take, refl, sym, ◌∙◌, ap, arith, append_assoc, length-append}
use Rattle.std.specs.List.{AllByRecursion}
use Rattle.std.specs.Int.{to_be_bytes, w32}
use Rattle.std.proofs.lemmas.List.{append-nil}
use Rattle.std.proofs.lemmas.Bool.{cases_eq}
use Rattle.mc_requests.specs.declared.limits.TheConstants.Limits.{MOST_JOURNAL}
use Rattle.mc_records.specs.Entry.{Entry, Fits, payload}
use Rattle.mc_records.specs.Sizes.{tail, entry_size, size_from, size}
use Rattle.scrip_journal.specs.Layout.{header, framed, gated, body, Encodes}

-- a front of a list, and some of what is behind it
pub take_front : (a b : List ℕ) (k : ℕ) → take (length a + k) (a ++ b) ≡ a ++ take k b
take_front [] b k = ap (λ (n : ℕ). take n b) (none_before k) where
  none_before : (m : ℕ) → 0 + m ≡ m
  none_before m = omega arith
take_front (x ∷ a) b k = ap (λ (n : ℕ). take n (x ∷ (a ++ b))) (shifted (length a) k) ∙ ap (λ (l : List ℕ). x ∷ l) (take_front a b k) where
  shifted : (n m : ℕ) → suc n + m ≡ suc (n + m)
  shifted n m = omega arith

pub header_long : length header ≡ 8
unfolding header
header_long = refl

pub framed_long : (before : List Entry) (e : Entry) → length (framed before e) + 1 ≡ entry_size before e
unfolding framed
framed_long before e = omega (arith, length-append (to_be_bytes w32 (length (payload e))) (payload e ++ tail before e), length-append (payload e) (tail before e))

-- a block is the framed entry and a closed gate
pub block_is : (h : List Entry) (e : Entry) (block end : List ℕ) → end ≡ tail h e → block ≡ to_be_bytes w32 (length (payload e)) ++ (payload e ++ (end ++ 0 ∷ [])) → block ≡ framed h e ++ 0 ∷ []
unfolding framed
block_is h e block end end_is is =
    is ∙ ap (λ (t : List ℕ). to_be_bytes w32 (length (payload e)) ++ (payload e ++ (t ++ 0 ∷ []))) end_is
    ∙ ap (λ (l : List ℕ). to_be_bytes w32 (length (payload e)) ++ l) (sym (append_assoc (payload e) (tail h e) (0 ∷ [])))
    ∙ sym (append_assoc (to_be_bytes w32 (length (payload e))) (payload e ++ tail h e) (0 ∷ []))

pub block_long : (h : List Entry) (e : Entry) (block : List ℕ) (n : ℕ) → block ≡ framed h e ++ 0 ∷ [] → n + 1 ≡ entry_size h e + 1 → length block ≡ n
block_long h e block n is n_is =
    omega (arith, ap (λ (l : List ℕ). length l) is, length-append (framed h e) (0 ∷ []), framed_long h e, n_is)

gated_long : (before h : List Entry) → length (gated before h) ≡ size_from before h
gated_long before [] = refl
gated_long before (e ∷ es) =
    omega (arith, length-append (framed before e) (gated (before ++ e ∷ []) es), framed_long before e, gated_long (before ++ e ∷ []) es)

-- the gate behind the entries is the last byte that counts
pub body_long : (h : List Entry) → length (body h) + 1 ≡ size h
body_long h = omega (arith, length-append header (gated [] h), header_long, gated_long [] h)

pub gated_more : (before h : List Entry) (e : Entry) → gated before (h ++ e ∷ []) ≡ gated before h ++ 1 ∷ framed (before ++ h) e
gated_more before [] e = append-nil (1 ∷ framed before e) ∙ ap (λ (b : List Entry). 1 ∷ framed b e) (sym (append-nil before))
gated_more before (x ∷ h) e =
    ap (λ (l : List ℕ). 1 ∷ (framed before x ++ l)) (gated_more (before ++ x ∷ []) h e ∙ ap (λ (b : List Entry). gated (before ++ x ∷ []) h ++ 1 ∷ framed b e) (append_assoc before (x ∷ []) h))
    ∙ sym (append_assoc (1 ∷ framed before x) (gated (before ++ x ∷ []) h) (1 ∷ framed (before ++ x ∷ h) e))

pub body_more : (h : List Entry) (e : Entry) → body (h ++ e ∷ []) ≡ body h ++ 1 ∷ framed h e
body_more h e = ap (λ (l : List ℕ). header ++ l) (gated_more [] h e) ∙ sym (append_assoc header (gated [] h) (1 ∷ framed h e))

pub size_more : (h : List Entry) (e : Entry) → size (h ++ e ∷ []) ≡ size h + entry_size h e
size_more h e =
    omega (arith, body_long h, body_long (h ++ e ∷ []), ap (λ (l : List ℕ). length l) (body_more h e), length-append (body h) (1 ∷ framed h e), framed_long h e)

pub fits_more : (h : List Entry) (e : Entry) → AllByRecursion Fits h → Fits e → AllByRecursion Fits (h ++ e ∷ [])
fits_more [] e all fits = (fits, tt)
fits_more (x ∷ h) e all fits = (all.0, fits_more h e all.1 fits)

-- an open gate, an entry and a closed gate behind the entries
pub stands_more : (h : List Entry) (e : Entry) (rest c : List ℕ) → AllByRecursion Fits h → Fits e → size (h ++ e ∷ []) ≤ MOST_JOURNAL → c ≡ body h ++ 1 ∷ (framed h e ++ 0 ∷ rest) → Encodes (h ++ e ∷ []) c
stands_more h e rest c all fits most is = record {
  fits = fits_more h e all fits;
  most = most;
  gate = 0;
  rest = rest;
  closed = λ zero_is. absurd (cc zero_is);
  shape = is ∙ sym (append_assoc (body h) (1 ∷ framed h e) (0 ∷ rest)) ∙ ap (λ (l : List ℕ). l ++ 0 ∷ rest) (sym (body_more h e));
}

-- an entry and a closed gate behind any gate: the entry counts or it doesn't
pub stands_either : (h : List Entry) (e : Entry) (rest c : List ℕ) (g : ℕ) → AllByRecursion Fits h → Fits e → size h ≤ MOST_JOURNAL → size (h ++ e ∷ []) ≤ MOST_JOURNAL
    → c ≡ body h ++ g ∷ (framed h e ++ 0 ∷ rest) → Encodes h c ⊎ Encodes (h ++ e ∷ []) c
stands_either h e rest c g all fits least most is = elim (cases_eq g 1) [
  | inl opened ↦ inr (stands_more h e rest c all fits most (is ∙ ap (λ (k : ℕ). body h ++ k ∷ (framed h e ++ 0 ∷ rest)) opened))
  | inr shut ↦ inl (record { fits = all; most = least; gate = g; rest = framed h e ++ 0 ∷ rest; closed = shut; shape = is })
]
