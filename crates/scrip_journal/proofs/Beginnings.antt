-- What the bytes of a book begin with.
use Rattle.std.proofs.Common.{◌≡◌, ℕ, ◌+◌, ◌≤◌, List, [], ◌∷◌, ◌++◌, refl, sym, ap, ◌∙◌, subst, arith, append-nil, append_assoc}
use Rattle.std.proofs.lemmas.List.{append_cancel_left}
use Rattle.std.specs.List.{AllByRecursion}
use Rattle.mc_outside.specs.Bytes.{BeginsWith}
use Rattle.mc_requests.specs.declared.limits.TheConstants.Limits.{MOST_JOURNAL}
use Rattle.mc_records.specs.Entry.{Entry, Fits, Site}
use Rattle.mc_records.specs.Sizes.{size, size_from, entry_size}
use Rattle.scrip_journal.specs.Layout.{header, framed, gated, Encodes, Next, at_end, spoiled, unchained, next_of, entered, Reads}
use Rattle.scrip_journal.proofs.Unique.{IsStop, no_entry, entered_there, stands_read}
use Rattle.scrip_journal.specs.Causes.{BeginsWithEntries, ComesTo, SpoilsAt, UnchainsAt, FoundsSite, IsOfKind, IsOfOther, IsOfOtherKind}

-- the size up to an entry and with it
pub size_apart : (front before es : List Entry) → size_from front (before ++ es) ≡ size_from front before + size_from (front ++ before) es
size_apart front [] es = omega (arith, ap (λ (l : List Entry). size_from l es) (append-nil front))
size_apart front (x ∷ xs) es = omega (arith, size_apart (front ++ x ∷ []) xs es, ap (λ (l : List Entry). size_from l es) (append_assoc front (x ∷ []) xs))

pub size_grows : (before es : List Entry) (e : Entry) → size (before ++ e ∷ es) ≤ MOST_JOURNAL → size before + entry_size before e ≤ MOST_JOURNAL
size_grows before es e most = omega (arith, size_apart [] before (e ∷ es), most)

-- entries behind the same bytes: those that the bytes begin with are the first of those that they encode
first_of : (before h g : List Entry) (r s : List ℕ) → AllByRecursion Fits h → AllByRecursion Fits g → size (before ++ h) ≤ MOST_JOURNAL → size (before ++ g) ≤ MOST_JOURNAL → IsStop (next_of (before ++ h) r)
    → gated before h ++ r ≡ gated before g ++ s → (k : List Entry) × (h ≡ g ++ k)
first_of before h [] r s a b m n x same = (h, refl)
first_of before [] (f ∷ g) r s a b m n x same =
    let shape : r ≡ 1 ∷ (framed before f ++ (gated (before ++ f ∷ []) g ++ s)) = same ∙ ap (λ (l : List ℕ). 1 ∷ l) (append_assoc (framed before f) (gated (before ++ f ∷ []) g) s) in
    let is : next_of (before ++ []) r ≡ entered f =
    ap (λ (b : List Entry). next_of b r) (append-nil before) ∙ ap (next_of before) shape ∙ entered_there before f (gated (before ++ f ∷ []) g ++ s) b.0 (size_grows before g f n) in
    absurd (subst IsStop is x)
first_of before (e ∷ h) (f ∷ g) r s a b m n x same =
    let left : List ℕ = gated (before ++ e ∷ []) h ++ r in
    let right : List ℕ = gated (before ++ f ∷ []) g ++ s in
    let shape_e : gated before (e ∷ h) ++ r ≡ 1 ∷ (framed before e ++ left) = ap (λ (l : List ℕ). 1 ∷ l) (append_assoc (framed before e) (gated (before ++ e ∷ []) h) r) in
    let shape_f : gated before (f ∷ g) ++ s ≡ 1 ∷ (framed before f ++ right) = ap (λ (l : List ℕ). 1 ∷ l) (append_assoc (framed before f) (gated (before ++ f ∷ []) g) s) in
    let bytes : 1 ∷ (framed before e ++ left) ≡ 1 ∷ (framed before f ++ right) = sym shape_e ∙ same ∙ shape_f in
    let both : entered e ≡ entered f = sym (entered_there before e left a.0 (size_grows before h e m)) ∙ ap (next_of before) bytes ∙ entered_there before f right b.0 (size_grows before g f n) in
    let one : e ≡ f = cc both in
    let behind : framed before e ++ left ≡ framed before e ++ right = cc bytes ∙ ap (λ (z : Entry). framed before z ++ right) (sym one) in
    let rest : left ≡ gated (before ++ e ∷ []) g ++ s = append_cancel_left (framed before e) left right behind ∙ ap (λ (z : Entry). gated (before ++ z ∷ []) g ++ s) (sym one) in
    let here : (k : List Entry) → (before ++ e ∷ []) ++ k ≡ before ++ e ∷ k = λ k. append_assoc before (e ∷ []) k in
    let there : before ++ f ∷ g ≡ (before ++ e ∷ []) ++ g = ap (λ (z : Entry). before ++ z ∷ g) (sym one) ∙ sym (here g) in
    let more = first_of (before ++ e ∷ []) h g r s a.1 b.1
    (subst (λ (l : List Entry). size l ≤ MOST_JOURNAL) (sym (here h)) m) (subst (λ (l : List Entry). size l ≤ MOST_JOURNAL) there n)
    (subst (λ (l : List Entry). IsStop (next_of l r)) (sym (here h)) x) rest in
    (more.0, ap (λ (l : List Entry). e ∷ l) more.1 ∙ ap (λ (z : Entry). z ∷ (g ++ more.0)) one)

-- the entries that the bytes begin with are the first of the history that they encode
pub begins_history : (h g : List Entry) (bytes : List ℕ) → Encodes h bytes → BeginsWithEntries g bytes → (k : List Entry) × (h ≡ g ++ k)
begins_history h g bytes st begins =
    let read = stands_read h bytes st in
    let whole : header ++ (gated [] h ++ read.rest) ≡ header ++ (gated [] g ++ begins.begins.0) =
    sym (append_assoc header (gated [] h) read.rest) ∙ sym read.shape ∙ begins.begins.1 ∙ append_assoc header (gated [] g) begins.begins.0 in
    first_of [] h g read.rest begins.begins.0 read.fits begins.fits read.most begins.most (subst IsStop (sym read.next_is) tt)
    (append_cancel_left header (gated [] h ++ read.rest) (gated [] g ++ begins.begins.0) whole)

-- ---- the first entry

-- what comes at the first gate of a book is one thing
one_next : (bytes r s : List ℕ) (m n : Next) → bytes ≡ header ++ r → bytes ≡ header ++ s → next_of [] r ≡ m → next_of [] s ≡ n → m ≡ n
one_next bytes r s m n x y p q = sym p ∙ ap (next_of []) (append_cancel_left header r s (sym x ∙ y)) ∙ q

-- the first of the entries that the bytes begin with comes there
first_there : (f : Entry) (g : List Entry) (bytes : List ℕ) → BeginsWithEntries (f ∷ g) bytes → (rest : List ℕ) × (bytes ≡ header ++ rest) × (next_of [] rest ≡ entered f)
first_there f g bytes b =
    let left : List ℕ = gated (f ∷ []) g ++ b.begins.0 in
    let shape : gated [] (f ∷ g) ++ b.begins.0 ≡ 1 ∷ (framed [] f ++ left) = ap (λ (l : List ℕ). 1 ∷ l) (append_assoc (framed [] f) (gated (f ∷ []) g) b.begins.0) in (
      1 ∷ (framed [] f ++ left),
      b.begins.1 ∙ append_assoc header (gated [] (f ∷ g)) b.begins.0 ∙ ap (λ (l : List ℕ). header ++ l) shape,
      entered_there [] f left b.fits.0 (size_grows [] g f b.most),
    )

one_first : (e f : Entry) (h g : List Entry) (bytes : List ℕ) → BeginsWithEntries (e ∷ h) bytes → BeginsWithEntries (f ∷ g) bytes → e ≡ f
one_first e f h g bytes a b =
    let x = first_there e h bytes a in
    let y = first_there f g bytes b in
    let same : entered e ≡ entered f = one_next bytes x.0 y.0 (entered e) (entered f) x.1 y.1 x.2 y.2 in
    cc same

-- ---- books of another kind

module _ (kinds : ℕ → Type 0) where
  kind_is_one : (e : Entry) → FoundsSite kinds e → IsOfOtherKind kinds e → ⊥
  kind_is_one (Site m k name house) is other = other is
  kind_is_one e is other = absurd is

  -- a book whose first entry is none of another kind is of no other kind
  pub first_tells : (e : Entry) (es : List Entry) (bytes : List ℕ) → BeginsWithEntries (e ∷ es) bytes → (IsOfOtherKind kinds e → ⊥) → IsOfOther kinds bytes → ⊥
  first_tells e es bytes begins not other =
      not (subst (λ (f : Entry). IsOfOtherKind kinds f) (sym (one_first e other.first es [] bytes begins other.begins)) other.other)

  -- nor is one whose first entry is of one of these kinds
  pub kind_tells : (e : Entry) (es : List Entry) (bytes : List ℕ) → FoundsSite kinds e → BeginsWithEntries (e ∷ es) bytes → IsOfOther kinds bytes → ⊥
  kind_tells e es bytes is begins other = first_tells e es bytes begins (kind_is_one e is) other

  -- nor one without entries
  pub empty_tells : (bytes : List ℕ) → Encodes [] bytes → IsOfOther kinds bytes → ⊥
  empty_tells bytes st other =
      let read = stands_read [] bytes st in
      let first = first_there other.first [] bytes other.begins in
      let same : at_end ≡ entered other.first = one_next bytes read.rest first.0 at_end (entered other.first) (read.shape ∙ append_assoc header [] read.rest) first.1 read.next_is first.2 in
      absurd (cc same)

  -- a book of another kind begins with the header
  pub other_begins : (bytes : List ℕ) → IsOfOther kinds bytes → BeginsWith header bytes
  other_begins bytes other = let first = first_there other.first [] bytes other.begins in (first.0, first.1)

  -- and does not come to a stop behind entries of one of these kinds
  stops_not : (may : List Entry → Entry → Type 0) (bytes : List ℕ) (next : Next) → IsStop next → IsOfOther kinds bytes → ComesTo may kinds bytes next → ⊥
  stops_not may bytes next stop other comes = go comes.before comes.of_kind comes.reads
    where
      go : (h : List Entry) → IsOfKind kinds h → Reads h bytes next → ⊥
      go [] is reads =
          let first = first_there other.first [] bytes other.begins in
          let same : next ≡ entered other.first = one_next bytes reads.rest first.0 next (entered other.first) (reads.shape ∙ append_assoc header [] reads.rest) first.1 reads.next_is first.2 in
          no_entry next other.first same stop
      go (e ∷ es) is reads = kind_tells e es bytes is (record { fits = reads.fits; most = reads.most; begins = (reads.rest, reads.shape) }) other

  pub other_is_whole : (may : List Entry → Entry → Type 0) (bytes : List ℕ) (place : ℕ) → IsOfOther kinds bytes → SpoilsAt may kinds bytes place → ⊥
  other_is_whole may bytes place other spoils = stops_not may bytes (spoiled place) tt other spoils

  pub other_is_chained : (may : List Entry → Entry → Type 0) (bytes : List ℕ) (place : ℕ) (stood computed : List ℕ) → IsOfOther kinds bytes → UnchainsAt may kinds bytes place stood computed → ⊥
  other_is_chained may bytes place stood computed other unchains = stops_not may bytes (unchained place stood computed) tt other unchains
