-- What is known of an entry that stands in a book of a site.
use Rattle.std.proofs.Common.{◌≡◌, ℕ, ◌+◌, ◌≤◌, Bool, true, false, List, [], ◌∷◌, ◌++◌, length, Result, Ok, refl, sym, ap, subst, ◌∙◌, append-nil, append_assoc, arith, ltb}
use Rattle.std.specs.List.{AllByRecursion}
use Rattle.std.proofs.lemmas.Bool.{le-ltb}
use Rattle.mc_requests.specs.declared.limits.Limits.{Limits}
use Rattle.mc_requests.specs.declared.limits.TheConstants.Limits.{MOST_JOURNAL}
use Rattle.mc_requests.specs.declared.refusal.Refusal.TheVariants.{JournalFull}
use Rattle.mc_records.specs.Entry.{Entry, Fits, payload}
use Rattle.mc_records.specs.Sizes.{size, size_from, entry_size}
use Rattle.ledger_model.specs.Histories.{History}
use Rattle.ledger_model.specs.Lines.{Stop, ◌>>=◌, refused_if}
use Rattle.ledger_model.specs.Answer.{fitted}
use Rattle.ledger_model.specs.Lawful.{MayFollow, AllFollow, IsLawful}
use Rattle.ledger_model.proofs.FollowLaws.{size_snoc, prefix_lawful}
use Rattle.scrip_journal.specs.Layout.{Encodes}
use Rattle.operator_command.specs.Operations.{full}
use Rattle.world_laws.specs.Doors.{StandsInBook}

-- ---- what a lawful history of a journal's size says of an entry in it

follows_in : (limits : Limits) (before es : History) (e : Entry) (rest : History) → AllFollow limits before ((es ++ e ∷ []) ++ rest) → MayFollow limits (before ++ es) e
follows_in limits before [] e rest all = subst (λ (h : History). MayFollow limits h e) (sym (append-nil before)) all.0
follows_in limits before (x ∷ es) e rest all = subst (λ (h : History). MayFollow limits h e) (append_assoc before (x ∷ []) es) (follows_in limits (before ++ x ∷ []) es e rest all.1)

may_in : (limits : Limits) (h : History) (e : Entry) (rest : History) → IsLawful limits ((h ++ e ∷ []) ++ rest) → MayFollow limits h e
may_in limits [] e rest lawful = follows_in limits [] [] e rest lawful
may_in limits (x ∷ h) e rest lawful = follows_in limits [] (x ∷ h) e rest lawful

fits_in : (h : History) (e : Entry) (rest : History) → AllByRecursion Fits ((h ++ e ∷ []) ++ rest) → Fits e
fits_in [] e rest all = all.0
fits_in (x ∷ h) e rest all = fits_in h e rest all.1

size_front : (before xs ys : History) → size_from before xs ≤ size_from before (xs ++ ys)
size_front before [] ys = omega arith
size_front before (x ∷ xs) ys = let ih = size_front (before ++ x ∷ []) xs ys in omega (arith, ih)

fits_journal : (h : History) (limits : Limits) (e : Entry) → size h + entry_size h e ≤ limits.journal → fitted h limits e ≡ Ok e
fits_journal h limits e room = go (ltb limits.journal (size h + entry_size h e)) (le-ltb limits.journal (size h + entry_size h e) room)
  where
    is_ok : Entry → Result Entry Stop
    is_ok y = Ok y

    go : (b : Bool) → b ≡ false → (refused_if b (JournalFull (size h) (length (payload e))) >>= λ _. Ok e) ≡ is_ok e
    go true p = absurd cc
    go false p = refl

room_in : (limits : Limits) (h : History) (e : Entry) (rest : History) → size ((h ++ e ∷ []) ++ rest) ≤ limits.journal → fitted h limits e ≡ Ok e
room_in limits h e rest most =
    let front = size_front [] (h ++ e ∷ []) rest in
    let more = size_snoc h e in
    fits_journal h limits e (omega (arith, most, front, more))

-- ---- books

pub record HasRoom (h : History) (e : Entry) : Type 0 where
  pub fits : Fits e
  pub follows : MayFollow full h e
  pub room : fitted h full e ≡ Ok e

pub entry_of_book : (h g : History) (e : Entry) → g ≡ h ++ e ∷ [] → StandsInBook g → HasRoom h e
entry_of_book h g e is b =
    let same : g ++ b.more ≡ (h ++ e ∷ []) ++ b.more = ap (λ (x : History). x ++ b.more) is in record {
      fits = fits_in h e b.more (subst (AllByRecursion Fits) same b.stands.fits);
      follows = may_in full h e b.more (subst (IsLawful full) same b.lawful);
      room = room_in full h e b.more (subst (λ (x : History). size x ≤ MOST_JOURNAL) same b.stands.most);
    }

-- a first part of a history of a book is one
pub front_of_book : (h g more : History) → g ≡ h ++ more → StandsInBook g → StandsInBook h
front_of_book h g more is b =
    let same : g ++ b.more ≡ h ++ (more ++ b.more) = ap (λ (x : History). x ++ b.more) is ∙ append_assoc h more b.more in record {
      more = more ++ b.more;
      bytes = b.bytes;
      stands = subst (λ (x : History). Encodes x b.bytes) same b.stands;
      lawful = subst (IsLawful full) same b.lawful;
    }

pub whole_book : (h : History) (bytes : List ℕ) → Encodes h bytes → IsLawful full h → StandsInBook h
whole_book h bytes stands lawful = record {
  more = [];
  bytes = bytes;
  stands = subst (λ (x : History). Encodes x bytes) (sym (append-nil h)) stands;
  lawful = subst (IsLawful full) (sym (append-nil h)) lawful;
}

-- what stands before some entries of a lawful history is lawful, where it has a first entry
pub lawful_before : (h more : History) → (h ≡ [] → ⊥) → IsLawful full (h ++ more) → IsLawful full h
lawful_before [] more some lawful = absurd (some refl)
lawful_before (x ∷ h) more some lawful = prefix_lawful full x h more lawful
