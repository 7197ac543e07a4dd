-- How a request is entered, or chosen, at a reading of the clock.
use Rattle.std.proofs.Common.{◌≡◌, ◌∙◌, inl, inr, ⊎_elim, ℕ, true, List, [], ◌∷◌, ◌++◌, max, refl, sym, ap, subst, Option, Some, None, Result, Ok, Err}
use Rattle.std.specs.Prelude.{IsSome, is_some, option_map}
use Rattle.mc_outside.specs.DiskView.{DiskView, IsDisk, LinkKeeps, Ran}
use Rattle.mc_outside.specs.LinkView.{LinkView}
use Rattle.mc_outside.proofs.Runs.{ran_then, ran_weaker, ran_now}
use Rattle.mc_requests.specs.declared.limits.Limits.{Limits}
use Rattle.mc_requests.specs.declared.limits.TheConstants.Limits.{FULL}
use Rattle.mc_requests.specs.declared.refusal.Refusal.{Refusal}
use Rattle.mc_requests.specs.declared.refusal.Refusal.TheVariants as refusals
use Rattle.mc_requests.specs.Errands as errands
use Rattle.mc_requests.specs.Errands.{errand_text}
use Rattle.mc_records.specs.Entry.{Entry, Pend}
use Rattle.ledger_model.specs.Histories.{History}
use Rattle.ledger_model.specs.Lines as lines
use Rattle.ledger_model.specs.Answer.{fitted}
use Rattle.scrip_journal.specs.States.{AtRest}
use Rattle.scrip_journal.specs.Exits.{EncodesNoOutput}
use Rattle.millicent_http.specs.declared.clock.Clock.TheVariants.{OfLinks}
use Rattle.millicent_http.specs.Courses.{AreRead, with_readings}
use Rattle.command_status.specs.declared.status.Status.{Status}
use Rattle.command_status.specs.declared.status.Status.TheVariants as ends
use Rattle.wallet_model.specs.Requests.{Pending, pending_of, oldest_kept}
use Rattle.wallet_model.specs.Asks.{Asking, get, buy, draw, Offered, chosen, due, paid_with, pend_entry, or_none_due, due_entry}
use Rattle.wallet_model.proofs.BookLaws.{book_grows}
use Rattle.wallet_book.specs.Kept.{kept_in, Retries}
use Rattle.wallet_core.specs.declared.ask.Ask.{Ask}
use Rattle.wallet_core.specs.declared.ask.Ask.TheVariants as what_is
use Rattle.wallet_core.specs.Asks.{asking_of, pend_with_entry}
use Rattle.wallet_core.proofs.AskLaws.{due_pays}
use Rattle.wallet_core.specs.WalletView.{WalletView}
use Rattle.wallet_core.specs.declared.outcome.WalletOut.{WalletOut}
use Rattle.wallet_core.specs.declared.outcome.WalletOut.TheVariants as outs
use Rattle.wallet_core.specs.Wallet.{WalletStands}
use Rattle.wallet_core.specs.Answers.{TellsNumber}
use Rattle.wallet_core.specs.Outcomes.{outcome_disk, Adds, LeavesBy, Performs}
use Rattle.wallet_commands.specs.declared.saying.Saying.{Saying}
use Rattle.wallet_commands.specs.declared.saying.Saying.TheVariants as sayings
use Rattle.wallet_commands.specs.Books.{EncodesEither, IsKnown, Opened, OldPair, EntryPair}
use Rattle.wallet_commands.specs.Paying.{UsesLink, UsesLinkAs, NotAsked, PaysAs, Clocked, RetriesBy}
use Rattle.millicent_http.proofs.AsideLemmas.{TellsAside, no_more_still, aside_still}
use Rattle.wallet_commands.proofs.BookLemmas.{one_book, tells_on, old_pairs}
use Rattle.wallet_core.proofs.DiskLemmas.{on_disk}
use Rattle.wallet_commands.proofs.KeptLemmas.{entered_is_kept, oldest_is_kept}

-- ---- what is entered

asked_with : (t ask : ℕ) (peer target : List ℕ) (o : Result Offered Refusal) (e : Entry) → paid_with t ask peer target o ≡ Ok e → (p : Pending) × (pending_of e ≡ Some p)
asked_with t ask peer target (Ok o) e is = (record { ask = ask; peer = peer; target = target; scrip = Some o.holding.text; secret = o.holding.secret }, sym (ap pending_of (let same : Pend t ask peer target (Some o.holding.text) o.holding.secret ≡ e = cc in same)))
asked_with t ask peer target (Err f) e is = absurd (cc is)

-- the entry of what is asked is a request
pub asks : (h : History) (t : ℕ) (asking : Asking) (e : Entry) → pend_entry h t asking ≡ Ok e → (p : Pending) × (pending_of e ≡ Some p)
asks h t (get vendor target limit) e is = asked_with t 0 vendor target (chosen h t vendor limit) e is
asks h t (buy broker vendor amount limit) e is = asked_with t 1 broker (errand_text (errands.buy vendor amount)) (chosen h t broker limit) e is
asks h t (draw broker account key order amount) e is = (record { ask = 2; peer = broker; target = errand_text (errands.draw account order amount); scrip = None; secret = key }, sym (ap pending_of (let same : Pend t 2 broker (errand_text (errands.draw account order amount)) None key ≡ e = cc in same)))

-- and so is that of a renewal
pub due_asks : (h : History) (t : ℕ) (vendor target : List ℕ) (before : ℕ) (e : Entry) → due_entry h t vendor target before ≡ Ok e → (p : Pending) × (pending_of e ≡ Some p)
due_asks h t vendor target before e is = asked_with t 0 vendor target (or_none_due (due h t vendor before)) e is

-- what a wallet does with the piece of the place that is due it does for the renewal
pub due_performs : {O A : Type 0} (disk : O → DiskView) (y : WalletView O) (h : History) (vendor target : List ℕ) (before limit place : ℕ) (ask : Ask) (T : Entry → A → Type 0) (out : WalletOut O A) → ask ≡ what_is.Get vendor target limit
    → Some place ≡ option_map (λ o. o.place) (due h y.book.time vendor before) → (e : Entry) × (pend_with_entry h y.book.time place (asking_of ask) ≡ Some e) × Performs disk y h (Ok e) T out
    → Performs disk y h (due_entry h y.book.time vendor target before) T out
due_performs disk y h vendor target before limit place ask T out what at done =
    let pays : pend_with_entry h y.book.time place (get vendor target limit) ≡ Some done.0 = ap (λ (a : Ask). pend_with_entry h y.book.time place (asking_of a)) (sym what) ∙ done.1 in
    subst (λ (todo : Result Entry Refusal). Performs disk y h todo T out) (sym (due_pays h y.book.time vendor target before limit place done.0 at pays)) done.2

told_before : {A : Type 0} (o q : Option A) (x : A) → is_some q ≡ is_some o → q ≡ Some x → (y : A) × (o ≡ Some y)
told_before None q x same is = let b : is_some q ≡ true = ap is_some is in absurd (cc (same, b))
told_before (Some y) q x same is = (y, refl)

-- what a wallet is known by stays while the clock is read
pub known_on : {O : Type 0} (disk : O → DiskView) (x y : WalletView O) → LinkKeeps (disk x.journal.disk) (disk y.journal.disk) → ((h : History) → WalletStands disk x h → WalletStands disk y h) → IsKnown disk x → IsKnown disk y
known_on disk x y keeps stands known bytes told = let at = known bytes (sym keeps.contents ∙ told) in (at.0, stands at.0 at.1)

-- the request that was just entered is kept, whatever history the wallet stands for
pub pend_keeps : {O : Type 0} (disk : O → DiskView) (y z : WalletView O) (todo : History → Result Entry Refusal) (number : ℕ) → ((h : History) (e : Entry) → todo h ≡ Ok e → (p : Pending) × (pending_of e ≡ Some p)) → IsKnown disk y
    → is_some (disk z.journal.disk).contents ≡ is_some (disk y.journal.disk).contents
    → ((h : History) → WalletStands disk y h → Adds disk y h (todo h) (TellsNumber h) (outs.Done z number)) → (g : History) → WalletStands disk z g → (p : Pending) × (kept_in g number ≡ Some p)
pend_keeps disk y z todo number asks_it known tells adds g st =
    let before = told_before (disk y.journal.disk).contents (disk z.journal.disk).contents st.journal.bytes tells st.journal.told in
    let stood = known before.0 before.1 in
    by_todo stood.0 stood.1 (todo stood.0) refl (adds stood.0 stood.1)
  where
    by_todo : (h : History) → WalletStands disk y h → (r : Result Entry Refusal) → todo h ≡ r → Adds disk y h r (TellsNumber h) (outs.Done z number) → (p : Pending) × (kept_in g number ≡ Some p)
    by_todo h at (Err f) is added = absurd added
    by_todo h at (Ok e) is added =
        let p = asks_it h e is in
        (p.0, ap (λ (i : History). kept_in i number) (one_book disk z g (h ++ e ∷ []) st added.0.stands) ∙ ap (kept_in (h ++ e ∷ [])) added.1 ∙ entered_is_kept h e p.0 at.book.lawful p.1)

-- ---- while an entry is written

-- with it or without it
pub entry_pairs : {O A : Type 0} (disk : O → DiskView) (tells : Type 0) (before : DiskView) (h : History) (y : WalletView O) (e : Entry) (out : WalletOut O A) → Ran before (disk y.journal.disk) (OldPair tells before h)
    → (tells → (disk y.journal.disk).aside ≡ before.aside) → Ran (disk y.journal.disk) (disk (outcome_disk out)) (LeavesBy (Ok e) out h (disk y.journal.disk).aside) → Ran before (disk (outcome_disk out)) (EntryPair tells before h e)
entry_pairs {O} {A} disk tells before h y e out old same ran =
    ran_then before (disk y.journal.disk) (disk (outcome_disk out)) (EntryPair tells before h e)
    (ran_weaker before (disk y.journal.disk) _ _ old (λ c s p. (⊎_elim (λ l. inl l) (λ l. inr (inl l)) p.0, p.1)))
    (ran_weaker (disk y.journal.disk) (disk (outcome_disk out)) _ _ ran (λ c s l. by_out out c s l))
  where
    by_out : (o : WalletOut O A) (c s : List ℕ) → LeavesBy (Ok e) o h (disk y.journal.disk).aside c s → EntryPair tells before h e c s
    by_out (outs.Done w n) c s l = (inr l.0, λ told. l.1 ∙ same told)
    by_out (outs.Refused w f) c s l = (inr (inl l.0), λ told. l.1 ∙ same told)
    by_out (outs.NoMemory w) c s l = (inr (inl l.0), λ told. l.1 ∙ same told)
    by_out (outs.Halted d) c s l = (inr l.0, λ told. l.1 ∙ same told)

-- or it was not
pub unwritten : {O : Type 0} (disk : O → DiskView) (tells : Type 0) (before : DiskView) (h : History) (y z : O) → Ran before (disk y) (OldPair tells before h) → (tells → (disk y).aside ≡ before.aside)
    → Ran (disk y) (disk z) (EncodesNoOutput h (disk y).aside) → Ran before (disk z) (OldPair tells before h)
unwritten disk tells before h y z old same ran =
    ran_then before (disk y) (disk z) (OldPair tells before h) old (ran_weaker (disk y) (disk z) _ _ ran (λ c s l. (inr l.0, λ told. l.1 ∙ same told)))

-- it is in doubt
pub doubted : {O A : Type 0} (disk : O → DiskView) (h : History) (y : WalletView O) (e : Entry) (d : O) (T : Entry → A → Type 0) → IsDisk (disk d) → WalletStands disk y h → Adds {D = O} {A = A} disk y h (Ok e) T (outs.Halted d)
    → Ran (disk y.journal.disk) (disk d) (LeavesBy {D = O} {A = A} (Ok e) (outs.Halted d) h (disk y.journal.disk).aside) → EncodesEither (disk d) h e
doubted disk h y e d T is_disk st adds ran = record {
  leaves = λ image l. (ran_now (disk y.journal.disk) (disk d) _ is_disk ran image l).0;
  lawful = book_grows h e st.book.lawful adds.follows;
}

-- ---- at the clock

-- The clock was read once for a wallet of a book that was opened.
pub record AtClock {O : Type 0} (link : O → LinkView) (disk : O → DiskView) (bytes : List ℕ) (a : O) (x y : WalletView O) (moment : ℕ) : Type 0 where
  pub opened : Opened link disk bytes a x
  pub keeps : LinkKeeps (disk x.journal.disk) (disk y.journal.disk)
  pub stands : WalletStands disk y opened.opened.history
  pub time' : y.book.time ≡ max x.book.time moment
  pub rest : link y.journal.disk ≡ with_readings (link y.journal.disk).readings (link x.journal.disk)
  pub read : AreRead OfLinks (moment ∷ []) (link x.journal.disk).readings (link y.journal.disk).readings

module _ {O : Type 0} (link : O → LinkView) (disk : O → DiskView) (bytes : List ℕ) (a : O) (x y : WalletView O) (moment : ℕ) (all : TellsAside link (λ o. (disk o).aside)) (at : AtClock link disk bytes a x y moment) where
  pub clocked_by : (Does : History → ℕ → LinkView → Type 0) → Does at.opened.opened.history y.book.time (link y.journal.disk) → Clocked link Does bytes a
  clocked_by Does does = record {
    history = at.opened.opened.history;
    stands = at.opened.opened.of_bytes;
    moment = moment;
    clocked = link y.journal.disk;
    read = subst (λ (v : LinkView). AreRead OfLinks (moment ∷ []) v.readings (link y.journal.disk).readings) at.opened.untouched.link' at.read;
    rest = subst (λ (v : LinkView). link y.journal.disk ≡ with_readings (link y.journal.disk).readings v) at.opened.untouched.link' at.rest;
    does = subst (λ (t : ℕ). Does at.opened.opened.history t (link y.journal.disk)) (at.time' ∙ ap (λ (t : ℕ). max t moment) at.opened.opened.time') does;
  }

  pub old : Ran (disk a) (disk y.journal.disk) (OldPair (IsSome (link a).sessions) (disk a) at.opened.opened.history)
  old = old_pairs link disk at.opened.opened.history a x.journal.disk y.journal.disk all at.opened.untouched at.keeps (no_more_still (link x.journal.disk) (link y.journal.disk) (ap (λ (v : LinkView). v.sessions) at.rest))

  pub aside_at : IsSome (link a).sessions → (disk y.journal.disk).aside ≡ (disk a).aside
  aside_at told =
      aside_still link (λ o. (disk o).aside) x.journal.disk y.journal.disk all (tells_on link a x.journal.disk at.opened.untouched.link' told) (no_more_still (link x.journal.disk) (link y.journal.disk) (ap (λ (v : LinkView). v.sessions) at.rest))
      ∙ at.opened.untouched.read.aside

  -- nothing was entered
  pub not_asked : (z : WalletView O) → WalletStands disk z at.opened.opened.history → z.journal ≡ y.journal → NotAsked link disk at.opened.opened.history a (link y.journal.disk) z.journal.disk
  not_asked z st same = record {
    left = on_disk disk z at.opened.opened.history st;
    link' = ap (λ (j : AtRest O). link j.disk) same;
    pairs = subst (λ (j : AtRest O). Ran (disk a) (disk j.disk) (OldPair (IsSome (link a).sessions) (disk a) at.opened.opened.history)) (sym same) old;
  }

  entered_pairs : {A : Type 0} (e : Entry) (out : WalletOut O A) → Ran (disk y.journal.disk) (disk (outcome_disk out)) (LeavesBy (Ok e) out at.opened.opened.history (disk y.journal.disk).aside)
      → Ran (disk a) (disk (outcome_disk out)) (EntryPair (IsSome (link a).sessions) (disk a) at.opened.opened.history e)
  entered_pairs e out ran = entry_pairs disk (IsSome (link a).sessions) (disk a) at.opened.opened.history y e out old aside_at ran

  -- ---- paying

  -- it was refused
  pub pay_refused : (k : Saying) (todo : Result Entry Refusal) (z : WalletView O) (f : Refusal) (T : Entry → ℕ → Type 0) → y.book.limits ≡ FULL → Adds disk y at.opened.opened.history todo T (outs.Refused z f)
      → PaysAs k link disk at.opened.opened.history y.book.time todo a (link y.journal.disk) (ends.Refused f) z.journal.disk
  pay_refused k (Ok e) z f T limits adds = inl (inr (f, refl, subst (λ (l : Limits). fitted at.opened.opened.history l e ≡ Err (lines.Refuse f)) limits adds.0), not_asked z adds.1.stands adds.1.journal')
  pay_refused k (Err g) z f T limits adds = (ap (λ (r : Refusal). ends.Refused r) adds.0, not_asked z adds.1.stands adds.1.journal')

  -- nothing is due
  pub not_due : (vendor target : List ℕ) (before : ℕ) → due_entry at.opened.opened.history y.book.time vendor target before ≡ Err refusals.NothingDue
      → PaysAs (sayings.Renewal vendor) link disk at.opened.opened.history y.book.time (due_entry at.opened.opened.history y.book.time vendor target before) a (link y.journal.disk) (ends.Refused refusals.NothingDue) y.journal.disk
  not_due vendor target before none =
      subst (λ (todo : Result Entry Refusal). PaysAs (sayings.Renewal vendor) link disk at.opened.opened.history y.book.time todo a (link y.journal.disk) (ends.Refused refusals.NothingDue) y.journal.disk) (sym none)
      (refl, not_asked y at.stands refl)

  -- memory was refused
  pub pay_wants : (k : Saying) (todo : Result Entry Refusal) (z : WalletView O) (T : Entry → ℕ → Type 0) → y.book.limits ≡ FULL → Adds disk y at.opened.opened.history todo T (outs.NoMemory z)
      → PaysAs k link disk at.opened.opened.history y.book.time todo a (link y.journal.disk) ends.NoMemory z.journal.disk
  pay_wants k (Ok e) z T limits adds = inl (inl (refl, subst (λ (l : Limits). fitted at.opened.opened.history l e ≡ Ok e) limits adds.0), not_asked z adds.1.stands adds.1.journal')
  pay_wants k (Err g) z T limits adds = absurd adds

  -- the disk failed
  pub pay_doubted : (k : Saying) (todo : Result Entry Refusal) (d : O) (T : Entry → ℕ → Type 0) → IsDisk (disk d) → link d ≡ link y.journal.disk → Adds disk y at.opened.opened.history todo T (outs.Halted d)
      → Ran (disk y.journal.disk) (disk d) (LeavesBy {A = ℕ} todo (outs.Halted d) at.opened.opened.history (disk y.journal.disk).aside) → PaysAs k link disk at.opened.opened.history y.book.time todo a (link y.journal.disk) ends.DiskFault d
  pay_doubted k (Ok e) d T is_disk same adds ran = inr (inl (refl, record { left = doubted disk at.opened.opened.history y e d T is_disk at.stands adds ran; link' = same; pairs = entered_pairs {A = ℕ} e (outs.Halted d) ran }))
  pay_doubted k (Err g) d T is_disk same adds ran = absurd adds

  -- the request was entered, and a link used for it
  pub pay_asked : (k : Saying) (todo : Result Entry Refusal) (z : WalletView O) (number : ℕ) (status : Status) (b : O) → ((e : Entry) → todo ≡ Ok e → (p : Pending) × (pending_of e ≡ Some p)) → link z.journal.disk ≡ link y.journal.disk
      → Adds disk y at.opened.opened.history todo (TellsNumber at.opened.opened.history) (outs.Done z number)
      → Ran (disk y.journal.disk) (disk z.journal.disk) (LeavesBy todo (outs.Done z number) at.opened.opened.history (disk y.journal.disk).aside)
      → ((g : History) (p : Pending) → WalletStands disk z g → kept_in g number ≡ Some p → UsesLinkAs k link disk g z.book.time number p z.journal.disk status b)
      → PaysAs k link disk at.opened.opened.history y.book.time todo a (link y.journal.disk) status b
  pay_asked k (Err f) z number status b asks_it same adds ran used = absurd adds
  pay_asked k (Ok e) z number status b asks_it same adds ran used =
      let h : History = at.opened.opened.history in
      let asked = asks_it e refl in
      let kept : kept_in (h ++ e ∷ []) number ≡ Some asked.0 = ap (kept_in (h ++ e ∷ [])) adds.1 ∙ entered_is_kept h e asked.0 at.stands.book.lawful asked.1 in
      inr (inr (record {
        p = asked.0;
        request = asked.1;
        entered = z.journal.disk;
        stands = on_disk disk z (h ++ e ∷ []) adds.0.stands;
        link' = same;
        until = entered_pairs e (outs.Done z number) ran;
        since = subst (λ (n : ℕ). UsesLinkAs k link disk (h ++ e ∷ []) y.book.time n asked.0 z.journal.disk status b) adds.1
            (subst (λ (t : ℕ). UsesLinkAs k link disk (h ++ e ∷ []) t number asked.0 z.journal.disk status b) adds.0.time' (used (h ++ e ∷ []) asked.0 adds.0.stands kept));
      }))

  -- ---- trying again

  -- there is none
  pub try_none : (o : Option (ℕ × Pending)) (f : Refusal) → Retries o (Err f) → RetriesBy link disk at.opened.opened.history y.book.time o a (link y.journal.disk) (ends.Refused f) y.journal.disk
  try_none None f is = (let same : f ≡ refusals.Nothing = cc in ap (λ (r : Refusal). ends.Refused r) same, not_asked y at.stands refl)
  try_none (Some k) f is = absurd (cc is)

  -- a link was used for the oldest one
  pub try_oldest : (peer : List ℕ) (o : Option (ℕ × Pending)) (number : ℕ) (status : Status) (b : O) → oldest_kept at.opened.opened.history peer ≡ o → Retries o (Ok number)
      → ((g : History) (p : Pending) → WalletStands disk y g → kept_in g number ≡ Some p → UsesLink link disk g y.book.time number p y.journal.disk status b)
      → RetriesBy link disk at.opened.opened.history y.book.time o a (link y.journal.disk) status b
  try_oldest peer None number status b oldest is used = absurd (cc is)
  try_oldest peer (Some k) number status b oldest is used =
      let same : number ≡ k.0 = cc in
      let kept : kept_in at.opened.opened.history number ≡ Some k.1 = ap (kept_in at.opened.opened.history) same ∙ oldest_is_kept at.opened.opened.history peer k oldest in
      record {
        kept = y.journal.disk;
        stands = on_disk disk y at.opened.opened.history at.stands;
        link' = refl;
        until = old;
        since = subst (λ (n : ℕ). UsesLink link disk at.opened.opened.history y.book.time n k.1 y.journal.disk status b) same (used at.opened.opened.history k.1 at.stands kept);
      }

-- the oldest request of a peer is kept, whatever history the wallet stands for
pub oldest_keeps : (h : History) (peer : List ℕ) (number : ℕ) → Retries (oldest_kept h peer) (Ok number) → (p : Pending) × (kept_in h number ≡ Some p)
oldest_keeps h peer number is = by_oldest (oldest_kept h peer) refl is
  where
    by_oldest : (o : Option (ℕ × Pending)) → oldest_kept h peer ≡ o → Retries o (Ok number) → (p : Pending) × (kept_in h number ≡ Some p)
    by_oldest None oldest none = absurd (cc none)
    by_oldest (Some k) oldest here = let same : number ≡ k.0 = cc in (k.1, ap (kept_in h) same ∙ oldest_is_kept h peer k oldest)
