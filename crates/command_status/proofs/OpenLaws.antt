-- What encodes a history that laws allow has no fault of a book.
use Rattle.std.proofs.Common.{◌≡◌, inl, inr, List, [], ◌∷◌, ◌++◌, ℕ, sym, ◌∙◌, subst, append-nil, append_assoc}
use Rattle.mc_outside.specs.Bytes.{BeginsWith, Rose}
use Rattle.mc_outside.specs.DiskView.{DiskView}
use Rattle.mc_outside.specs.LinkView.{LinkView}
use Rattle.mc_records.specs.Entry.{Entry}
use Rattle.mc_records.specs.Following.{AllFollowBy}
use Rattle.scrip_journal.specs.Layout.{header, gated, Encodes}
use Rattle.scrip_journal.specs.Causes.{SpoilsAt, UnchainsAt, IsUnlawfulAt}
use Rattle.scrip_journal.proofs.Unique.{one_history, not_both, chain_or_history}
use Rattle.scrip_journal.proofs.Beginnings.{begins_history}

-- no call of the disk or of the links failed
pub record Calm {O : Type 0} (link : O → LinkView) (disk : O → DiskView) (a b : O) : Type 0 where
  pub disk' : Rose (disk a).faults (disk b).faults → ⊥
  pub link' : Rose (link a).faults (link b).faults → ⊥

-- it begins with the header
pub begins_with_header : (h : List Entry) (bytes : List ℕ) → Encodes h bytes → BeginsWith header bytes
begins_with_header h bytes st = (gated [] h ++ st.gate ∷ st.rest, st.shape ∙ append_assoc header (gated [] h) (st.gate ∷ st.rest))

-- no bytes of it can't stand
pub not_spoiled : (may : List Entry → Entry → Type 0) (kinds : ℕ → Type 0) (h : List Entry) (bytes : List ℕ) (place : ℕ) → Encodes h bytes → SpoilsAt may kinds bytes place → ⊥
not_spoiled may kinds h bytes place st spoils = not_both spoils.before h bytes place spoils.reads st

-- each chain in it is the one computed
pub not_unchained : (may : List Entry → Entry → Type 0) (kinds : ℕ → Type 0) (h : List Entry) (bytes : List ℕ) (place : ℕ) (stood computed : List ℕ) → Encodes h bytes → UnchainsAt may kinds bytes place stood computed → ⊥
not_unchained may kinds h bytes place stood computed st unchains = chain_or_history unchains.before h bytes place stood computed unchains.reads st

-- an entry may follow those before it
pub follow_here : (may : List Entry → Entry → Type 0) (before xs : List Entry) (e : Entry) (ys : List Entry) → AllFollowBy may before (xs ++ e ∷ ys) → may (before ++ xs) e
follow_here may before [] e ys all = subst (λ (h : List Entry). may h e) (sym (append-nil before)) all.0
follow_here may before (x ∷ xs) e ys all = subst (λ (h : List Entry). may h e) (append_assoc before (x ∷ []) xs) (follow_here may (before ++ x ∷ []) xs e ys all.1)

-- no entry of it breaks
pub not_unlawful : (may : List Entry → Entry → Type 0) (kinds : ℕ → Type 0) (h : List Entry) (bytes : List ℕ) (place : ℕ) → Encodes h bytes → (h ≡ [] → ⊥) → AllFollowBy may [] h → IsUnlawfulAt may kinds bytes place → ⊥
not_unlawful may kinds h bytes place st some all (other, inl empty) = some (one_history h [] bytes st empty.0)
not_unlawful may kinds h bytes place st some all (other, inr breaks) =
    let more = begins_history h (breaks.before ++ breaks.next ∷ []) bytes st breaks.begins in
    let is : h ≡ breaks.before ++ breaks.next ∷ more.0 = more.1 ∙ append_assoc breaks.before (breaks.next ∷ []) more.0 in
    breaks.breaks (follow_here may [] breaks.before breaks.next more.0 (subst (λ (g : List Entry). AllFollowBy may [] g) is all))
