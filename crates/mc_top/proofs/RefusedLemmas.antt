-- A refusal that is told of a book that stands has its reason.
use Rattle.std.proofs.Common.{◌≡◌, ◌⊎◌, ◌∙◌, inl, inr, ℕ, max, Bool, true, false, List, [], ◌∷◌, ◌++◌, length, refl, sym, ap, subst, Option, Some, None, Result, Ok, Err}
use Rattle.std.specs.Prelude.{◌==◌, if◌then◌else◌, unwrap_or, option_map}
use Rattle.mc_outside.specs.DiskView.{DiskView}
use Rattle.mc_outside.specs.LinkView.{LinkView}
use Rattle.mc_requests.specs.declared.limits.TheConstants.Limits.{FULL}
use Rattle.mc_requests.specs.declared.refusal.Refusal.{Refusal}
use Rattle.mc_requests.specs.declared.refusal.Refusal.TheVariants as refusals
use Rattle.mc_records.specs.Entry.{Entry}
use Rattle.ledger_model.specs.Histories.{History, time}
use Rattle.ledger_model.specs.Lines as lines
use Rattle.ledger_model.specs.Answer.{fitted}
use Rattle.scrip_journal.specs.Founds.{IsTaken}
use Rattle.millicent_http.specs.declared.clock.Clock.TheVariants.{OfLinks}
use Rattle.millicent_http.specs.Courses.{AreRead}
use Rattle.millicent_http.specs.Received.{Received}
use Rattle.house_state.specs.Learning.{Test}
use Rattle.operator_command.specs.Operations.{OperationView}
use Rattle.millicent_http.specs.Inputs.{LosesInput, LostInput}
use Rattle.command_status.specs.declared.status.Status.{Status}
use Rattle.command_status.specs.declared.status.Status.TheVariants as ends
use Rattle.command_status.specs.Statuses.{number_of}
use Rattle.audit_search.specs.declared.fault.BooksFault.{BooksFault}
use Rattle.audit_cmd.specs.Reports.{ReportsBy, EndsReport}
use Rattle.site_commands.specs.Serving.{HasSite}
use Rattle.site_commands.specs.Init as sites
use Rattle.site_words.specs.Words.{Founder}
use Rattle.site_commands.specs.Operator.{OperatesBook}
use Rattle.site_commands.proofs.OpenLaws as sites_open
use Rattle.wallet_model.specs.Requests.{Pending, oldest_kept}
use Rattle.wallet_model.specs.Asks.{Asking, pend_entry, due_entry}
use Rattle.wallet_model.specs.Settling.{settlement, refusal_number}
use Rattle.wallet_core.specs.Taking.{take_entry}
use Rattle.wallet_core.specs.OnDisk.{HasWallet, EncodesWallet}
use Rattle.wallet_commands.specs.Founding as wallets
use Rattle.wallet_commands.specs.Payments.{Learned, Settles, Stays, Breaks, Learns, StaysKept}
use Rattle.wallet_commands.specs.declared.saying.Saying.{Saying}
use Rattle.wallet_commands.specs.declared.saying.Saying.TheVariants as sayings
use Rattle.wallet_core.specs.Settled.{bought}
use Rattle.wallet_commands.specs.Lines.{got_line, renewed_line}
use Rattle.wallet_commands.specs.Paying.{ended_by, ended_as, first_brought, EndsAs, UsesLinkAs, PaysAs, PaysBy, PaysBook, RenewsBook, NotAsked, Clocked, RetriesBy, RetriesBook}
use Rattle.wallet_commands.specs.Listing.{ListsHeld, SaysHeld}
use Rattle.held_lines.specs.Resold.{resold_for}
use Rattle.wallet_commands.specs.Taking.{TookBy, TakesBook}
use Rattle.wallet_commands.specs.Chaining.{switch_entry, ChainedBy, HasChained, ChainsBook}
use Rattle.wallet_core.proofs.DiskLemmas.{not_of_other}
use Rattle.mc_top.specs.Refusals.{RefusesFounder, RefusesOperator, RefusesEntry, RefusesPieces, RefusesRequest, RefusesAsking, RefusesAgain, RefusesSwitch, IsAtTime, RefusesPayment, RefusesRenewal, RefusesLines}
use Rattle.mc_top.specs.Programs.{IsDoneOrRefused, HaveBooks, IsDoneOrStrange}

-- ---- statuses by their numbers

told_refusal : (status : Status) → number_of status ≡ 7 → (f : Refusal) × (status ≡ ends.Refused f)
told_refusal (ends.Refused f) is = (f, refl)
told_refusal ends.Done is = absurd (cc is)
told_refusal (ends.Served n) is = absurd (cc is)
told_refusal (ends.Founded name) is = absurd (cc is)
told_refusal (ends.Proxied n paid) is = absurd (cc is)
told_refusal (ends.Did line) is = absurd (cc is)
told_refusal ends.BadWords is = absurd (cc is)
told_refusal ends.NotJournal is = absurd (cc is)
told_refusal (ends.BadEntry place) is = absurd (cc is)
told_refusal (ends.BadChain place) is = absurd (cc is)
told_refusal (ends.UnlawfulEntry place) is = absurd (cc is)
told_refusal ends.DiskFault is = absurd (cc is)
told_refusal ends.NoMemory is = absurd (cc is)
told_refusal ends.LinkFault is = absurd (cc is)
told_refusal (ends.Stranger name id) is = absurd (cc is)

told_stranger : (status : Status) → number_of status ≡ 8 → (name : List ℕ) × (id : ℕ) × (status ≡ ends.Stranger name id)
told_stranger (ends.Stranger name id) is = (name, id, refl)
told_stranger ends.Done is = absurd (cc is)
told_stranger (ends.Served n) is = absurd (cc is)
told_stranger (ends.Founded name) is = absurd (cc is)
told_stranger (ends.Proxied n paid) is = absurd (cc is)
told_stranger (ends.Did line) is = absurd (cc is)
told_stranger ends.BadWords is = absurd (cc is)
told_stranger ends.NotJournal is = absurd (cc is)
told_stranger (ends.BadEntry place) is = absurd (cc is)
told_stranger (ends.BadChain place) is = absurd (cc is)
told_stranger (ends.UnlawfulEntry place) is = absurd (cc is)
told_stranger ends.DiskFault is = absurd (cc is)
told_stranger ends.NoMemory is = absurd (cc is)
told_stranger ends.LinkFault is = absurd (cc is)
told_stranger (ends.Refused f) is = absurd (cc is)

-- where each refusal that may be told has its reason
pub with_reason : (Reason : Refusal → Type 0) (status : Status) → (number_of status ≡ 0) ⊎ ((number_of status ≡ 5) ⊎ (number_of status ≡ 7)) → ((f : Refusal) → status ≡ ends.Refused f → Reason f) → IsDoneOrRefused Reason (number_of status)
with_reason Reason status (inl done) reason = inl done
with_reason Reason status (inr (inl short)) reason = inr (inl short)
with_reason Reason status (inr (inr is)) reason = let told = told_refusal status is in inr (inr (is, told.0, reason told.0 told.1))

-- ---- auditors

pub strange_reason : {D R : Type 0} (book : D → DiskView) (Audits : List History → Result R BooksFault → Type 0) (said : R → List ℕ) (xs : List D) (status : Status) → HaveBooks book xs → ReportsBy book Audits said xs status → EndsReport (number_of status)
    → IsDoneOrStrange book Audits xs (number_of status)
strange_reason book Audits said xs status has reports (inl done) = inl done
strange_reason book Audits said xs status has reports (inr (inl short)) = inr (inl short)
strange_reason book Audits said xs status has reports (inr (inr (inl is))) =
    let told = told_refusal status is in
    let why = subst (ReportsBy book Audits said xs) told.1 reports in
    inr (inr (inl (is, told.0, (has.contents, has.told, why.1.holds has.contents has.told))))
strange_reason book Audits said xs status has reports (inr (inr (inr is))) =
    let told = told_stranger status is in
    let why = subst (ReportsBy book Audits said xs) told.2 reports in
    inr (inr (inr (is, why.0, told.0, told.1, (has.contents, has.told, why.2.holds has.contents has.told))))

-- ---- founders

module _ {O : Type 0} (link : O → LinkView) (disk : O → DiskView) (a b : O) where
  taken_so : (f : Refusal) (size : ℕ) → f ≡ refusals.NotEmpty size → (bytes : List ℕ) → (count : ℕ) × (f ≡ refusals.NotEmpty count) × IsTaken bytes count → IsTaken bytes size
  taken_so f size is bytes (count, other, taken) = let same : count ≡ size = cc (is, other) in subst (IsTaken bytes) same taken

  pub site_reason : (kind : ℕ) (founder : Founder) (f : Refusal) → sites.InitCauses link disk a (ends.Refused f) b → ((bytes : List ℕ) → (disk a).contents ≡ Some bytes → sites.FoundsBook link disk kind founder bytes a (ends.Refused f) b)
      → RefusesFounder (disk a) f
  site_reason kind founder f causes founds = record {
    size = causes.0.0.0;
    is = causes.0.0.1;
    taken = λ bytes told. let by = (founds bytes told).2 in taken_so f causes.0.0.0 causes.0.0.1 bytes (by.0, by.1, by.2);
  }

  pub wallet_reason : (name : List ℕ) (f : Refusal) → wallets.Inits link disk name a (ends.Refused f) b → RefusesFounder (disk a) f
  wallet_reason name f inits = record {
    size = inits.0.0.0;
    is = inits.0.0.1;
    taken = λ bytes told. let by = (inits.1 bytes told).2 in taken_so f inits.0.0.0 inits.0.0.1 bytes (by.0, by.1, by.2);
  }

-- ---- operators

module _ {O : Type 0} (link : O → LinkView) (disk : O → DiskView) (a b c : O) (read : (link c).readings ≡ (link b).readings) (f : Refusal) where
  pub operator_reason : (passes : Test) (kind : ℕ) (operation : OperationView) (has : HasSite kind (disk a)) → OperatesBook link disk passes kind operation has.bytes a (ends.Refused f) b → RefusesOperator operation (disk a) (link a) (link c) f
  operator_reason passes kind operation has (inl not) = absurd (sites_open.not_of_other kind has.history has.bytes has.stands has.of_kind not.1)
  operator_reason passes kind operation has (inr (inl unread)) = absurd (unlost unread.lost)
    where
      unlost : ((ends.Refused f ≡ ends.LinkFault) × LosesInput operation.input (link a) (link b)) ⊎ ((ends.Refused f ≡ ends.NoMemory) × (link b ≡ link a)) → ⊥
      unlost (inl (is, lost)) = cc is
      unlost (inr (is, same)) = cc is
  operator_reason passes kind operation has (inr (inr kept)) = record {
    bytes = has.bytes;
    told = has.told;
    history = kept.history;
    stands = kept.stands;
    input = kept.input;
    taken = kept.taken;
    takes = kept.takes;
    moment = kept.moment;
    read = subst (λ (rs : Option (List ℕ)). AreRead OfLinks (kept.moment ∷ []) kept.taken.readings rs) (sym read) kept.read;
    task = kept.task;
    asks = kept.asks;
    refused = kept.did.0;
  }

-- ---- customers

module _ {O : Type 0} (link : O → LinkView) (disk : O → DiskView) (a b : O) (f : Refusal) where
  entry_reason : (d : DiskView) (h : History) (todo : Result Entry Refusal) → TookBy d h todo (ends.Refused f) → RefusesEntry h todo f
  entry_reason d h (Ok e) took = took.0
  entry_reason d h (Err g) took = took.0

  -- a renewal is refused where the reply is a refusal, as a get is
  refused_so : (b : Bool) (done : Status) (line : List ℕ) (n : ℕ) → ends.Refused f ≡ (if b then ends.Did line else ends.Refused (refusals.SiteRefused n)) → (if b then done else ends.Refused (refusals.SiteRefused n)) ≡ ends.Refused f
  refused_so true done line n is = absurd (cc is)
  refused_so false done line n is = sym is

  refused_as : (k : Saying) (h : History) (e : Entry) (p : Pending) (r : Received) → ends.Refused f ≡ ended_as k h e p r → ended_by p r ≡ ends.Refused f
  refused_as sayings.Contents h e p r is = sym is
  refused_as (sayings.Renewal vendor) h e p r is = refused_so (r.status == 200) (unwrap_or (option_map (λ x. ends.Did (got_line x)) (bought p.ask r.contents)) ends.Done) (renewed_line vendor (first_brought h e)) (refusal_number r.refusal) is

  settled_reason : (k : Saying) (h : History) (t n : ℕ) (p : Pending) (r : Received) (d : DiskView)
      → ((ends.Refused f ≡ ended_as k h (settlement h t n p r) p r) × EncodesWallet d (h ++ settlement h t n p r ∷ [])) ⊎ ((g : Refusal) × (ends.Refused f ≡ ends.Refused g) × (fitted h FULL (settlement h t n p r) ≡ Err (lines.Refuse g)) × EncodesWallet d h)
      → (ended_by p r ≡ ends.Refused f) ⊎ (fitted h FULL (settlement h t n p r) ≡ Err (lines.Refuse f))
  settled_reason k h t n p r d (inl done) = inl (refused_as k h (settlement h t n p r) p r done.0)
  settled_reason k h t n p r d (inr (g, is, full, left)) = let same : f ≡ g = cc is in inr (full ∙ ap (λ (x : Refusal). Err (lines.Refuse x)) (sym same))

  learned_reason : (k : Saying) (h : History) (t n : ℕ) (p : Pending) (learned : Learned) (before middle after : LinkView) (d : DiskView) → Learns p learned before middle → EndsAs k h t n p learned middle (ends.Refused f) d after → RefusesRequest h t n p before f
  learned_reason k h t n p (Stays g) before middle after d learns by = let same : f ≡ g = cc by.0 in (middle, inl (subst (λ (x : Refusal). StaysKept p x before middle) (sym same) learns))
  learned_reason k h t n p Breaks before middle after d learns by = absurd (cc by.0)
  learned_reason k h t n p (Settles r) before middle after d learns by = (middle, inr (r, learns, settled_reason k h t n p r d by.1))

  request_reason : (k : Saying) (h : History) (t n : ℕ) (p : Pending) (x : O) → UsesLinkAs k link disk h t n p x (ends.Refused f) b → RefusesRequest h t n p (link x) f
  request_reason k h t n p x used = learned_reason k h t n p used.learned (link x) used.middle (link b) (disk b) used.learns used.ends'

  -- what became of the history at the time of the clock has this reason
  at_time : (Does Is : History → ℕ → LinkView → Type 0) → ((h : History) (t : ℕ) (clocked : LinkView) → Does h t clocked → Is h t clocked) → (has : HasWallet (disk a)) → Clocked link Does has.bytes a → IsAtTime link disk Is a
  at_time Does Is so has at = (
    has.bytes,
    has.told,
    record {
      history = at.history;
      stands = at.stands;
      moment = at.moment;
      clocked = at.clocked;
      read = at.read;
      rest = at.rest;
      does = so at.history (max (time at.history) at.moment) at.clocked at.does;
    },
  )

  asking_reason : (k : Saying) (h : History) (t : ℕ) (todo : Result Entry Refusal) (clocked : LinkView) → PaysAs k link disk h t todo a clocked (ends.Refused f) b → RefusesAsking h t todo clocked f
  asking_reason k h t (Err g) clocked (is, not) = cc is
  asking_reason k h t (Ok e) clocked (inl (inl wants, not)) = absurd (cc wants.0)
  asking_reason k h t (Ok e) clocked (inl (inr (g, is, full), not)) = let same : f ≡ g = cc is in inl (full ∙ ap (λ (x : Refusal). Err (lines.Refuse x)) (sym same))
  asking_reason k h t (Ok e) clocked (inr (inl doubt)) = absurd (cc doubt.0)
  asking_reason k h t (Ok e) clocked (inr (inr asked)) =
      inr (asked.p, asked.request, subst (λ (v : LinkView). RefusesRequest (h ++ e ∷ []) t (length h) asked.p v f) asked.link' (request_reason k (h ++ e ∷ []) t (length h) asked.p asked.entered asked.since))

  pub payment_reason : (asking : Asking) (has : HasWallet (disk a)) → PaysBook link disk asking has.bytes a (ends.Refused f) b → RefusesPayment link disk asking a f
  payment_reason asking has (inl not) = absurd (not_of_other has.history has.bytes has.stands has.lawful not.1)
  payment_reason asking has (inr (inl wanted)) = absurd (cc wanted.memory)
  payment_reason asking has (inr (inr at)) =
      at_time (λ h t clocked. PaysBy link disk h t (pend_entry h t asking) a clocked (ends.Refused f) b) (λ h t clocked. RefusesAsking h t (pend_entry h t asking) clocked f)
      (λ h t clocked by. asking_reason sayings.Contents h t (pend_entry h t asking) clocked by) has at

  pub renewal_reason : (vendor target : List ℕ) (before : ℕ) (has : HasWallet (disk a)) → RenewsBook link disk vendor target before has.bytes a (ends.Refused f) b → RefusesRenewal link disk vendor target before a f
  renewal_reason vendor target before has (inl not) = absurd (not_of_other has.history has.bytes has.stands has.lawful not.1)
  renewal_reason vendor target before has (inr (inl wanted)) = absurd (cc wanted.memory)
  renewal_reason vendor target before has (inr (inr at)) =
      at_time (λ h t clocked. PaysAs (sayings.Renewal vendor) link disk h t (due_entry h t vendor target before) a clocked (ends.Refused f) b) (λ h t clocked. RefusesAsking h t (due_entry h t vendor target before) clocked f)
      (λ h t clocked by. asking_reason (sayings.Renewal vendor) h t (due_entry h t vendor target before) clocked by) has at

  pub lines_reason : (vendor : List ℕ) (has : HasWallet (disk a)) → ListsHeld link disk vendor has.bytes a (ends.Refused f) b → RefusesLines link disk vendor a f
  lines_reason vendor has (inl not) = absurd (not_of_other has.history has.bytes has.stands has.lawful not.1)
  lines_reason vendor has (inr at) =
      at_time (λ h t clocked. SaysHeld (resold_for h t vendor) (ends.Refused f) × NotAsked link disk h a clocked b) (λ h t clocked. (f ≡ refusals.NoFunds 0) × (resold_for h t vendor ≡ [])) (λ h t clocked by. by.0) has at

  again_reason : (h : History) (t : ℕ) (kept : Option (ℕ × Pending)) (clocked : LinkView) → RetriesBy link disk h t kept a clocked (ends.Refused f) b → RefusesAgain h t kept clocked f
  again_reason h t None clocked by = cc by.0
  again_reason h t (Some x) clocked by = subst (λ (v : LinkView). RefusesRequest h t x.0 x.1 v f) by.link' (request_reason sayings.Contents h t x.0 x.1 by.kept by.since)

  pub retry_reason : (peer : List ℕ) (has : HasWallet (disk a)) → RetriesBook link disk peer has.bytes a (ends.Refused f) b
      → IsAtTime link disk (λ h t clocked. RefusesAgain h t (oldest_kept h peer) clocked f) a
  retry_reason peer has (inl not) = absurd (not_of_other has.history has.bytes has.stands has.lawful not.1)
  retry_reason peer has (inr (inl wanted)) = absurd (cc wanted.memory)
  retry_reason peer has (inr (inr at)) =
      at_time (λ h t clocked. RetriesBy link disk h t (oldest_kept h peer) a clocked (ends.Refused f) b) (λ h t clocked. RefusesAgain h t (oldest_kept h peer) clocked f) (λ h t clocked by. again_reason h t (oldest_kept h peer) clocked by) has at

  pub pieces_reason : (after : LinkView) → after.readings ≡ (link b).readings → (has : HasWallet (disk a)) → TakesBook link disk has.bytes a (ends.Refused f) b → RefusesPieces (disk a) (link a) after f
  pieces_reason after read has (inl not) = absurd (not_of_other has.history has.bytes has.stands has.lawful not.1)
  pieces_reason after read has (inr (inl unread)) = absurd (unlost unread.lost)
    where
      unlost : ((ends.Refused f ≡ ends.LinkFault) × LostInput (link a) (link b)) ⊎ ((ends.Refused f ≡ ends.NoMemory) × (link b ≡ link a)) → ⊥
      unlost (inl (is, lost)) = cc is
      unlost (inr (is, same)) = cc is
  pieces_reason after read has (inr (inr took)) = record {
    bytes = has.bytes;
    told = has.told;
    history = took.history;
    stands = took.stands;
    input = took.input;
    taken = took.taken;
    takes = took.takes;
    moment = took.moment;
    read = subst (λ (rs : Option (List ℕ)). AreRead OfLinks (took.moment ∷ []) took.taken.readings rs) (sym read) took.read;
    refused = entry_reason (disk b) took.history (take_entry took.history (max (time took.history) took.moment) took.input) took.took;
  }

  switch_reason : (d : DiskView) (h : History) (todo : Option Entry) → ChainedBy d h todo (ends.Refused f) → RefusesSwitch h todo f
  switch_reason d h None did = did
  switch_reason d h (Some e) did = did.0

  pub chain_reason : (has : HasWallet (disk a)) → ChainsBook link disk has.bytes a (ends.Refused f) b → IsAtTime link disk (λ h t clocked. RefusesSwitch h (switch_entry h t) f) a
  chain_reason has (inl not) = absurd (not_of_other has.history has.bytes has.stands has.lawful not.1)
  chain_reason has (inr (inl wanted)) = absurd (cc wanted.memory)
  chain_reason has (inr (inr at)) =
      at_time (λ h t clocked. HasChained link disk h (switch_entry h t) a clocked (ends.Refused f) b) (λ h t clocked. RefusesSwitch h (switch_entry h t) f) (λ h t clocked by. switch_reason (disk b) h (switch_entry h t) by.did) has at
