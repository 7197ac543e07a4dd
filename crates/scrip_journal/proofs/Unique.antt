-- Bytes are read in one way: they encode one list of entries at most, and what spoils them has one
-- place.
use Rattle.std.proofs.Common.{◌≡◌, ℕ, ◌+◌, ◌≤◌, List, [], ◌∷◌, ◌++◌, length, refl, sym, ◌∙◌, ap, subst, arith, append_assoc, append-nil, length-append}
use Rattle.std.specs.Int.{to_be_bytes, w32}
use Rattle.std.specs.List.{AllByRecursion}
use Rattle.std.proofs.lemmas.List.{take_at}
use Rattle.mc_requests.specs.declared.limits.TheConstants.Limits.{MOST_JOURNAL}
use Rattle.mc_records.specs.Entry.{Entry, Fits, payload}
use Rattle.mc_records.specs.Sizes.{tail, tail_size, entry_size, size_from, size}
use Rattle.mc_records.proofs.EntryLaws.{no_prefix}
use Rattle.mc_records.proofs.SizeLaws.{length-tail}
use Rattle.scrip_journal.specs.Layout.{header, framed, gated, body, Next, at_end, entered, spoiled, unchained, next_of, Encodes, Reads}
use Rattle.scrip_journal.proofs.Bodies.{body_long}
use Rattle.scrip_journal.proofs.Nexts.{tail_there, behind_payload, closed_there}

-- two lists with fronts of one length are split in one way
pub append_split : (a b r s : List ℕ) → length a ≡ length b → a ++ r ≡ b ++ s → (a ≡ b) × (r ≡ s)
append_split [] [] r s l e = (refl, e)
append_split [] (y ∷ b) r s l e = absurd (omega arith)
append_split (x ∷ a) [] r s l e = absurd (omega arith)
append_split (x ∷ a) (y ∷ b) r s l e =
    let back : a ++ r ≡ b ++ s = cc e in
    let front : x ≡ y = cc e in
    let more = append_split a b r s (omega arith) back in
    ((λ i. front i ∷ more.0 i), more.1)

-- the frame of an entry begins no other
framed_one : (before : List Entry) (e f : Entry) (r s : List ℕ) → Fits e → Fits f → framed before e ++ r ≡ framed before f ++ s → (e ≡ f) × (r ≡ s)
unfolding framed
framed_one before e f r s fits fits' same =
    let a = to_be_bytes w32 (length (payload e)) in
    let b = to_be_bytes w32 (length (payload f)) in
    let left : a ++ (payload e ++ (tail before e ++ r)) ≡ framed before e ++ r =
    sym (append_assoc a (payload e ++ tail before e) r ∙ ap (λ (l : List ℕ). a ++ l) (append_assoc (payload e) (tail before e) r)) in
    let right : framed before f ++ s ≡ b ++ (payload f ++ (tail before f ++ s)) =
    append_assoc b (payload f ++ tail before f) s ∙ ap (λ (l : List ℕ). b ++ l) (append_assoc (payload f) (tail before f) s) in
    let parts = append_split a b (payload e ++ (tail before e ++ r)) (payload f ++ (tail before f ++ s)) refl (left ∙ same ∙ right) in
    let one = no_prefix e f (tail before e ++ r) (tail before f ++ s) fits fits' parts.1 in
    (one.0, (append_split (tail before e) (tail before f) r s (ap (λ (x : Entry). length (tail before x)) one.0) one.1).1)

-- an entry that stands behind an open gate is what comes there
pub entered_there : (h : List Entry) (e : Entry) (rest : List ℕ) → Fits e → size h + entry_size h e ≤ MOST_JOURNAL → next_of h (1 ∷ (framed h e ++ rest)) ≡ entered e
unfolding framed
entered_there h e rest fits most =
    let n = length (payload e) in
    let bytes = to_be_bytes w32 n in
    let shape : framed h e ++ rest ≡ bytes ++ (payload e ++ (tail h e ++ rest)) = append_assoc bytes (payload e ++ tail h e) rest ∙ ap (λ (l : List ℕ). bytes ++ l) (append_assoc (payload e) (tail h e) rest) in
    let near : length (body h) + n + tail_size h + 6 ≤ MOST_JOURNAL = omega (arith, body_long h, most, length-tail h e) in
    ap (λ (l : List ℕ). next_of h (1 ∷ l)) shape ∙ behind_payload h (length (body h)) refl e (tail h e ++ rest) fits near
    ∙ tail_there h (length (body h) + 5 + n) e (tail h e ++ rest) (omega (arith, length-append (tail h e) rest, length-tail h e)) (take_at (tail h e) rest (tail_size h) (length-tail h e))

-- ---- one way

-- what comes is no entry
abbrev pub IsStop : Next → Type 0
IsStop at_end = Unit {0}
IsStop (entered e) = ⊥
IsStop (spoiled place) = Unit {0}
IsStop (unchained place stood computed) = Unit {0}

pub no_entry : (n : Next) (e : Entry) → n ≡ entered e → IsStop n → ⊥
no_entry n e is stop = subst IsStop is stop

size_grows : (before es : List Entry) (e : Entry) → size (before ++ e ∷ es) ≤ MOST_JOURNAL → size before + entry_size before e ≤ MOST_JOURNAL
size_grows before es e most = omega (arith, apart before es e, most) where
  sizes : (front before es : List Entry) → size_from front (before ++ es) ≡ size_from front before + size_from (front ++ before) es
  sizes front [] es = omega (arith, ap (λ (l : List Entry). size_from l es) (append-nil front))
  sizes front (x ∷ xs) es = omega (arith, sizes (front ++ x ∷ []) xs es, ap (λ (l : List Entry). size_from l es) (append_assoc front (x ∷ []) xs))

  apart : (before es : List Entry) (e : Entry) → size (before ++ e ∷ es) ≡ size before + entry_size before e + size_from (before ++ e ∷ []) es
  apart before es e = omega (arith, sizes [] before (e ∷ es))

one_way : (before h g : List Entry) (r s : List ℕ) → AllByRecursion Fits h → AllByRecursion Fits g → size (before ++ h) ≤ MOST_JOURNAL → size (before ++ g) ≤ MOST_JOURNAL
    → IsStop (next_of (before ++ h) r) → IsStop (next_of (before ++ g) s) → gated before h ++ r ≡ gated before g ++ s → (h ≡ g) × (r ≡ s)
one_way before [] [] r s a b m n x y same = (refl, same)
one_way before [] (f ∷ g) r s a b m n x y same =
    let shape : r ≡ 1 ∷ (framed before f ++ (gated (before ++ f ∷ []) g ++ s)) = same ∙ ap (λ (l : List ℕ). 1 ∷ l) (append_assoc (framed before f) (gated (before ++ f ∷ []) g) s) in
    let is : next_of (before ++ []) r ≡ entered f =
    ap (λ (b : List Entry). next_of b r) (append-nil before) ∙ ap (next_of before) shape ∙ entered_there before f (gated (before ++ f ∷ []) g ++ s) b.0 (size_grows before g f n) in
    absurd (no_entry _ f is x)
one_way before (e ∷ h) [] r s a b m n x y same =
    let shape : s ≡ 1 ∷ (framed before e ++ (gated (before ++ e ∷ []) h ++ r)) = sym same ∙ ap (λ (l : List ℕ). 1 ∷ l) (append_assoc (framed before e) (gated (before ++ e ∷ []) h) r) in
    let is : next_of (before ++ []) s ≡ entered e =
    ap (λ (b : List Entry). next_of b s) (append-nil before) ∙ ap (next_of before) shape ∙ entered_there before e (gated (before ++ e ∷ []) h ++ r) a.0 (size_grows before h e m) in
    absurd (no_entry _ e is y)
one_way before (e ∷ h) (f ∷ g) r s a b m n x y same =
    let back : (framed before e ++ gated (before ++ e ∷ []) h) ++ r ≡ (framed before f ++ gated (before ++ f ∷ []) g) ++ s = cc same in
    let first = framed_one before e f (gated (before ++ e ∷ []) h ++ r) (gated (before ++ f ∷ []) g ++ s) a.0 b.0
    (sym (append_assoc (framed before e) (gated (before ++ e ∷ []) h) r) ∙ back ∙ append_assoc (framed before f) (gated (before ++ f ∷ []) g) s) in
    let as_one : gated (before ++ e ∷ []) h ++ r ≡ gated (before ++ e ∷ []) g ++ s = first.1 ∙ ap (λ (z : Entry). gated (before ++ z ∷ []) g ++ s) (sym first.0) in
    let here : (k : List Entry) → (before ++ e ∷ []) ++ k ≡ before ++ e ∷ k = λ k. append_assoc before (e ∷ []) k in
    let there : before ++ f ∷ g ≡ (before ++ e ∷ []) ++ g = ap (λ (z : Entry). before ++ z ∷ g) (sym first.0) ∙ sym (here g) in
    let more = one_way (before ++ e ∷ []) h g r s a.1 b.1
    (subst (λ (l : List Entry). size l ≤ MOST_JOURNAL) (sym (here h)) m) (subst (λ (l : List Entry). size l ≤ MOST_JOURNAL) there n)
    (subst (λ (l : List Entry). IsStop (next_of l r)) (sym (here h)) x) (subst (λ (l : List Entry). IsStop (next_of l s)) there y) as_one in
    ((λ i. first.0 i ∷ more.0 i), more.1)

-- what is read behind some entries, and is no entry
pub reads_one : (h g : List Entry) (bytes : List ℕ) (m n : Next) → Reads h bytes m → Reads g bytes n → IsStop m → IsStop n → (h ≡ g) × (m ≡ n)
reads_one h g bytes m n a b x y =
    let whole : header ++ (gated [] h ++ a.rest) ≡ header ++ (gated [] g ++ b.rest) =
    sym (append_assoc header (gated [] h) a.rest) ∙ sym a.shape ∙ b.shape ∙ append_assoc header (gated [] g) b.rest in
    let one = one_way [] h g a.rest b.rest a.fits b.fits a.most b.most (subst IsStop (sym a.next_is) x) (subst IsStop (sym b.next_is) y)
    (append_split header header (gated [] h ++ a.rest) (gated [] g ++ b.rest) refl whole).1 in
    (one.0, sym a.next_is ∙ ap (λ (l : List Entry). next_of l a.rest) one.0 ∙ ap (next_of g) one.1 ∙ b.next_is)

-- ---- the laws

pub stands_read : (h : List Entry) (bytes : List ℕ) → Encodes h bytes → Reads h bytes at_end
stands_read h bytes s = record { fits = s.fits; most = s.most; rest = s.gate ∷ s.rest; shape = s.shape; next_is = closed_there h (length (body h)) refl s.gate s.rest s.closed }

pub one_history : (h g : List Entry) (bytes : List ℕ) → Encodes h bytes → Encodes g bytes → h ≡ g
one_history h g bytes s t = (reads_one h g bytes at_end at_end (stands_read h bytes s) (stands_read g bytes t) tt tt).0

pub one_place : (h g : List Entry) (bytes : List ℕ) (p q : ℕ) → Reads h bytes (spoiled p) → Reads g bytes (spoiled q) → (h ≡ g) × (p ≡ q)
one_place h g bytes p q s t = let one = reads_one h g bytes (spoiled p) (spoiled q) s t tt tt in (one.0, cc one.1)

pub not_both : (h g : List Entry) (bytes : List ℕ) (p : ℕ) → Reads h bytes (spoiled p) → Encodes g bytes → ⊥
not_both h g bytes p s t = cc (reads_one h g bytes (spoiled p) at_end s (stands_read g bytes t) tt tt).1

-- ---- chains

pub one_chain : (h g : List Entry) (bytes : List ℕ) (p q : ℕ) (stood computed other sum : List ℕ) → Reads h bytes (unchained p stood computed) → Reads g bytes (unchained q other sum)
    → (h ≡ g) × (p ≡ q) × (stood ≡ other) × (computed ≡ sum)
one_chain h g bytes p q stood computed other sum s t =
    let one = reads_one h g bytes (unchained p stood computed) (unchained q other sum) s t tt tt in (one.0, cc one.1, cc one.1, cc one.1)

pub chain_or_history : (h g : List Entry) (bytes : List ℕ) (p : ℕ) (stood computed : List ℕ) → Reads h bytes (unchained p stood computed) → Encodes g bytes → ⊥
chain_or_history h g bytes p stood computed s t = cc (reads_one h g bytes (unchained p stood computed) at_end s (stands_read g bytes t) tt tt).1

pub chain_or_place : (h g : List Entry) (bytes : List ℕ) (p q : ℕ) (stood computed : List ℕ) → Reads h bytes (unchained p stood computed) → Reads g bytes (spoiled q) → ⊥
chain_or_place h g bytes p q stood computed s t = cc (reads_one h g bytes (unchained p stood computed) (spoiled q) s t tt tt).1
