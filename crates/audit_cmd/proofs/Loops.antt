-- Reading one book after another.
use Rattle.std.proofs.Common.{◌≡◌, ℕ, ◌+◌, ◌≤◌, List, [], ◌∷◌, ◌++◌, length, take, Some, Ok, Err, refl, sym, ap, ◌∙◌, subst, arith, append-nil, append_assoc, Result}
use Rattle.std.proofs.lemmas.List.{length-append}
use Rattle.std.specs.Prelude.{slice_get, slice_set, map}
use Rattle.std.specs.List.{AllZip}
use Rattle.mc_outside.specs.Bytes.{BeginsWith, Rose}
use Rattle.mc_outside.specs.DiskView.{DiskView, OnlyRead}
use Rattle.scrip_journal.specs.Layout.{header}
use Rattle.audit_cmd.specs.declared.fault.AuditFault.{AuditFault}
use Rattle.audit_cmd.specs.declared.fault.AuditFault.TheVariants as faults
use Rattle.audit_cmd.specs.Books.{AreTold, counts, EachRead, IsFirst, FaultOfFirst, RoseAt, CountsBy}
use Rattle.audit_cmd.specs.OneBook.{Causes}
use Rattle.audit_cmd.specs.Places.{ReadsAt}
use Rattle.audit_cmd.specs.Loops.{IsCalm, AreReadTo, HaveRead}
use Rattle.audit_cmd.proofs.Zips.{zip_append, zip_more, zip_weaker, zip_long, zip_parted, zip_same, zip_none, zip_maps, map_append, length_map, Comes, comes_at, get_at, set_at, take_at, none_left, all_more}

-- ---- the disks

module _ {D X : Type 0} (view : D → DiskView) (moved : D → D → Type 0) (still : (d : D) → OnlyRead (view d) (view d)) (stays : (d : D) → moved d d) (causes : Causes) (keeps : List ℕ → X → Type 0) where
  calm : (d : D) → IsCalm view moved d d
  calm d = record { read = still d; moves = stays d; same = refl }

  -- ---- what comes next

  module _ (place : ℕ) (olds news afters : List D) (result : Result X AuditFault) (to : AreReadTo view moved place olds news) (at : ReadsAt view moved causes keeps place news afters result) where
    done_long : length to.done ≡ place
    done_long = zip_long (IsCalm view moved) to.before to.done to.each ∙ to.long

    pub next_at : Comes to.rest at.old
    next_at = comes_at to.done to.rest at.old (subst (λ (k : ℕ). slice_get (to.done ++ to.rest) k ≡ Some at.old) (sym done_long) (subst (λ (l : List D). slice_get l place ≡ Some at.old) to.news_are at.there))

    pub old_parts : olds ≡ to.before ++ at.old ∷ next_at.behind
    old_parts = to.olds_are ∙ ap (λ (l : List D). to.before ++ l) next_at.is

    pub new_parts : afters ≡ to.done ++ at.new ∷ next_at.behind
    new_parts =
        at.put ∙ ap (λ (l : List D). slice_set l place at.new) (to.news_are ∙ ap (λ (l : List D). to.done ++ l) next_at.is) ∙ ap (λ (k : ℕ). slice_set (to.done ++ at.old ∷ next_at.behind) k at.new) (sym done_long)
        ∙ set_at to.done next_at.behind at.old at.new

    -- whether it failed or not
    zipped : (R : D → D → Type 0) → ((a b : D) → IsCalm view moved a b → R a b) → R at.old at.new → AllZip R olds afters
    zipped R f here =
        subst (λ (l : List D). AllZip R l afters) (sym old_parts) (subst (λ (l : List D). AllZip R (to.before ++ at.old ∷ next_at.behind) l) (sym new_parts)
        (zip_append R to.before (at.old ∷ next_at.behind) to.done (at.new ∷ next_at.behind) (zip_weaker (IsCalm view moved) R f to.before to.done to.each) (here, zip_same R (λ d. f d d (calm d)) next_at.behind)))

    pub halted_read : AllZip (λ a b. OnlyRead (view a) (view b)) olds afters
    halted_read = zipped (λ a b. OnlyRead (view a) (view b)) (λ a b c. c.read) at.read

    pub halted_moved : AllZip moved olds afters
    halted_moved = zipped moved (λ a b c. c.moves) at.moves

    abbrev count : D → ℕ
    count d = (view d).faults

    fronts_same : map count to.done ≡ map count to.before
    fronts_same = zip_maps count to.before to.done (zip_weaker (IsCalm view moved) (λ a b. count b ≡ count a) (λ a b c. c.same) to.before to.done to.each)

    counts_old : counts view olds ≡ map count to.before ++ count at.old ∷ map count next_at.behind
    counts_old = ap (map count) old_parts ∙ map_append count to.before (at.old ∷ next_at.behind)

    counts_new : counts view afters ≡ map count to.before ++ count at.new ∷ map count next_at.behind
    counts_new = ap (map count) new_parts ∙ map_append count to.done (at.new ∷ next_at.behind) ∙ ap (λ (l : List ℕ). l ++ count at.new ∷ map count next_at.behind) fronts_same

    pub counts_stay : count at.new ≡ count at.old → counts view afters ≡ counts view olds
    counts_stay same = counts_new ∙ ap (λ (k : ℕ). map count to.before ++ k ∷ map count next_at.behind) same ∙ sym counts_old

    place_is : length (map count to.before) ≡ place
    place_is = length_map count to.before ∙ to.long

    pub count_rose : (book : ℕ) → book ≡ place → Rose (count at.old) (count at.new) → RoseAt book (counts view olds) (counts view afters)
    count_rose book is rose = record {
      old = count at.old;
      new = count at.new;
      there = subst (λ (l : List ℕ). slice_get l book ≡ Some (count at.old)) (sym counts_old) (subst (λ (k : ℕ). slice_get (map count to.before ++ count at.old ∷ map count next_at.behind) k ≡ Some (count at.old)) (place_is ∙ sym is) (get_at (map count to.before) (map count next_at.behind) (count at.old)));
      rose = rose;
      others = counts_new ∙ sym (set_at (map count to.before) (map count next_at.behind) (count at.old) (count at.new)) ∙ ap (λ (k : ℕ). slice_set (map count to.before ++ count at.old ∷ map count next_at.behind) k (count at.new)) (place_is ∙ sym is) ∙ ap (λ (l : List ℕ). slice_set l book (count at.new)) (sym counts_old);
    }

    -- the books before the next one
    up_to : (book : ℕ) → book ≡ place → take book olds ≡ to.before
    up_to book is = ap (take book) to.olds_are ∙ ap (λ (k : ℕ). take k (to.before ++ to.rest)) (is ∙ sym to.long) ∙ take_at to.before to.rest

    -- those before it are read
    pub read_before : (IsRead : List ℕ → Type 0) (book : ℕ) → book ≡ place → EachRead view IsRead to.before → EachRead view IsRead (take book olds)
    read_before IsRead book is each = subst (λ (l : List D). EachRead view IsRead l) (sym (up_to book is)) each

    -- and it has its own cause
    pub first_here : (IsRead : List ℕ → Type 0) (book : ℕ) (Cause : List ℕ → Type 0) → book ≡ place → EachRead view IsRead to.before
        → ((x : List ℕ) → (view at.old).contents ≡ Some x → (book ≡ place) × Cause x) → IsFirst view IsRead olds book Cause
    first_here IsRead book Cause is each here = record {
      disk = at.old;
      there = subst (λ (l : List D). slice_get l book ≡ Some at.old) (sym old_parts) (subst (λ (k : ℕ). slice_get (to.before ++ at.old ∷ next_at.behind) k ≡ Some at.old) (to.long ∙ sym is) (get_at to.before next_at.behind at.old));
      before = read_before IsRead book is each;
      cause = λ x told. (here x told).1;
    }

-- ---- when all were read

module _ {D : Type 0} (view : D → DiskView) (moved : D → D → Type 0) where
  module _ (olds news : List D) (place : ℕ) (to : AreReadTo view moved place olds news) (all : length olds ≤ place) where
    rest_none : to.rest ≡ []
    rest_none = none_left to.rest (omega (arith, all, to.long, ap length to.olds_are, length-append to.before to.rest))

    olds_read : olds ≡ to.before
    olds_read = to.olds_are ∙ ap (λ (l : List D). to.before ++ l) rest_none ∙ append-nil to.before

    news_read : news ≡ to.done
    news_read = to.news_are ∙ ap (λ (l : List D). to.done ++ l) rest_none ∙ append-nil to.done

    all_zipped : (R : D → D → Type 0) → ((a b : D) → IsCalm view moved a b → R a b) → AllZip R olds news
    all_zipped R f = subst (λ (l : List D). AllZip R l news) (sym olds_read) (subst (λ (l : List D). AllZip R to.before l) (sym news_read) (zip_weaker (IsCalm view moved) R f to.before to.done to.each))

    pub whole_read : AllZip (λ a b. OnlyRead (view a) (view b)) olds news
    whole_read = all_zipped (λ a b. OnlyRead (view a) (view b)) (λ a b c. c.read)

    pub whole_moved : AllZip moved olds news
    whole_moved = all_zipped moved (λ a b c. c.moves)

    pub whole_counts : counts view news ≡ counts view olds
    whole_counts = zip_maps (λ d. (view d).faults) olds news (all_zipped (λ a b. (view b).faults ≡ (view a).faults) (λ a b c. c.same))

    pub whole_told : (xs : List (List ℕ)) → AreTold view olds xs → AreTold view to.before xs
    whole_told xs told = subst (λ (l : List D). AreTold view l xs) olds_read told

    pub whole_books : (IsRead : List ℕ → Type 0) → EachRead view IsRead to.before → EachRead view IsRead olds
    whole_books IsRead each = subst (λ (l : List D). EachRead view IsRead l) (sym olds_read) each

-- one book more
module _ {D X K : Type 0} (view : D → DiskView) (keeps : List ℕ → X → Type 0) (keeps_all : List (List ℕ) → K → Type 0) where
  told_more : (before : List D) (d : D) (kept kept' : K) (read : X) → ((xs : List (List ℕ)) → AreTold view before xs → keeps_all xs kept)
      → ((xs : List (List ℕ)) (x : List ℕ) → keeps_all xs kept → keeps x read → keeps_all (xs ++ x ∷ []) kept') → ((x : List ℕ) → (view d).contents ≡ Some x → keeps x read)
      → (xs : List (List ℕ)) → AreTold view (before ++ d ∷ []) xs → keeps_all xs kept'
  told_more before d kept kept' read all more here xs told =
      let R : D → List ℕ → Type 0 = λ d x. (view d).contents ≡ Some x in
      let p = zip_parted R before [] d xs told in
      subst (λ (l : List (List ℕ)). keeps_all l kept') (sym (p.is ∙ ap (λ (l : List (List ℕ)). p.front ++ p.there ∷ l) (zip_none R p.back p.backs))) (more p.front p.there (all p.front p.fronts) (here p.there p.here))

-- what was kept goes on
module _ {D X K : Type 0} (view : D → DiskView) (moved : D → D → Type 0) (still : (d : D) → OnlyRead (view d) (view d)) (stays : (d : D) → moved d d) (causes : Causes) (keeps : List ℕ → X → Type 0) (IsRead : List ℕ → Type 0) (keeps_all : List (List ℕ) → K → Type 0) where
  pub goes_on : (place : ℕ) (olds news afters : List D) (kept kept' : K) (read : X) (has : HaveRead view moved IsRead keeps_all place olds news kept) (at : ReadsAt view moved causes keeps place news afters (Ok read))
      → ((x : List ℕ) → keeps x read → IsRead x) → ((xs : List (List ℕ)) (x : List ℕ) → keeps_all xs kept → keeps x read → keeps_all (xs ++ x ∷ []) kept') → HaveRead view moved IsRead keeps_all (place + 1) olds afters kept'
  goes_on place olds news afters kept kept' read has at so more =
      let next = next_at view moved still stays causes keeps place olds news afters (Ok read) has.to at in
      record {
        to = record {
          before = has.to.before ++ at.old ∷ [];
          done = has.to.done ++ at.new ∷ [];
          rest = next.behind;
          olds_are = old_parts view moved still stays causes keeps place olds news afters (Ok read) has.to at ∙ sym (append_assoc has.to.before (at.old ∷ []) next.behind);
          news_are = new_parts view moved still stays causes keeps place olds news afters (Ok read) has.to at ∙ sym (append_assoc has.to.done (at.new ∷ []) next.behind);
          long = length-append has.to.before (at.old ∷ []) ∙ ap (λ (k : ℕ). k + 1) has.to.long;
          each = zip_more (IsCalm view moved) has.to.before has.to.done at.old at.new has.to.each (record { read = at.read; moves = at.moves; same = at.count });
        };
        books = all_more (λ d. (x : List ℕ) → (view d).contents ≡ Some x → IsRead x) has.to.before at.old has.books (λ x told. so x (at.told x told));
        told = told_more view keeps keeps_all has.to.before at.old kept kept' read has.told more at.told;
      }

-- why the first book that is not read is not
module _ {D X : Type 0} (view : D → DiskView) (moved : D → D → Type 0) (still : (d : D) → OnlyRead (view d) (view d)) (stays : (d : D) → moved d d) (causes : Causes) (keeps : List ℕ → X → Type 0) where
  pub halts : (IsRead : List ℕ → Type 0) (place : ℕ) (olds news afters : List D) (fault : AuditFault) (to : AreReadTo view moved place olds news) → ReadsAt view moved causes keeps place news afters (Err fault)
      → EachRead view IsRead to.before → FaultOfFirst view causes IsRead olds fault
  halts IsRead place olds news afters (faults.NotJournal book) to at each = first_here view moved still stays causes keeps place olds news afters (Err (faults.NotJournal book)) to at IsRead book (λ x. BeginsWith header x → ⊥) at.at each at.told
  halts IsRead place olds news afters (faults.BadRecord book p) to at each = first_here view moved still stays causes keeps place olds news afters (Err (faults.BadRecord book p)) to at IsRead book (λ x. causes.spoiled x p) at.at each at.told
  halts IsRead place olds news afters (faults.BadChain book p stood computed) to at each = first_here view moved still stays causes keeps place olds news afters (Err (faults.BadChain book p stood computed)) to at IsRead book (λ x. causes.unchained x p stood computed) at.at each at.told
  halts IsRead place olds news afters (faults.Unlawful book p) to at each = first_here view moved still stays causes keeps place olds news afters (Err (faults.Unlawful book p)) to at IsRead book (λ x. causes.unlawful x p) at.at each at.told
  halts IsRead place olds news afters (faults.Disk book) to at each = read_before view moved still stays causes keeps place olds news afters (Err (faults.Disk book)) to at IsRead book at.at each
  halts IsRead place olds news afters faults.NoMemory to at each = tt
  halts IsRead place olds news afters faults.BadBooks to at each = absurd at.at
  halts IsRead place olds news afters (faults.MissingBook name) to at each = absurd at.at
  halts IsRead place olds news afters (faults.Stranger book name id) to at each = absurd at.at

  pub halt_counts : (K : Type 0) (place : ℕ) (olds news afters : List D) (fault : AuditFault) (to : AreReadTo view moved place olds news) (at : ReadsAt view moved causes keeps place news afters (Err fault)) → CountsBy {A = K} (Err fault) (counts view olds) (counts view afters)
  halt_counts K place olds news afters (faults.NotJournal book) to at = counts_stay view moved still stays causes keeps place olds news afters (Err (faults.NotJournal book)) to at at.count
  halt_counts K place olds news afters (faults.BadRecord book p) to at = counts_stay view moved still stays causes keeps place olds news afters (Err (faults.BadRecord book p)) to at at.count
  halt_counts K place olds news afters (faults.BadChain book p stood computed) to at = counts_stay view moved still stays causes keeps place olds news afters (Err (faults.BadChain book p stood computed)) to at at.count
  halt_counts K place olds news afters (faults.Unlawful book p) to at = counts_stay view moved still stays causes keeps place olds news afters (Err (faults.Unlawful book p)) to at at.count
  halt_counts K place olds news afters (faults.Disk book) to at = count_rose view moved still stays causes keeps place olds news afters (Err (faults.Disk book)) to at book at.count.0 at.count.1
  halt_counts K place olds news afters faults.BadBooks to at = counts_stay view moved still stays causes keeps place olds news afters (Err faults.BadBooks) to at at.count
  halt_counts K place olds news afters (faults.MissingBook name) to at = counts_stay view moved still stays causes keeps place olds news afters (Err (faults.MissingBook name)) to at at.count
  halt_counts K place olds news afters (faults.Stranger book name id) to at = counts_stay view moved still stays causes keeps place olds news afters (Err (faults.Stranger book name id)) to at at.count
  halt_counts K place olds news afters faults.NoMemory to at = counts_stay view moved still stays causes keeps place olds news afters (Err faults.NoMemory) to at at.count
