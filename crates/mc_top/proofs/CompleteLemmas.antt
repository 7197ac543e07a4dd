-- A command whose book encodes a lawful history, where no call failed, does what it says, or wants memory, or tells a
-- refusal that has its reason.
use Rattle.std.proofs.Common.{◌≡◌, ◌∙◌, ◌≤◌, ◌⊎◌, inl, inr, ℕ, List, Bool, true, false, refl, sym, ap, subst, arith}
use Rattle.mc_outside.specs.Bytes.{Rose}
use Rattle.mc_outside.specs.DiskView.{DiskView}
use Rattle.mc_outside.specs.LinkView.{LinkView}
use Rattle.house_state.specs.declared.offer.SiteKind.{SiteKind}
use Rattle.house_state.specs.declared.offer.SiteKind.TheVariants.{Vendor, Broker}
use Rattle.house_state.specs.Views.{kind_number}
use Rattle.house_state.specs.Learning.{Test, AllPass, untested}
use Rattle.house_state.proofs.PartLaws.{all_pass}
use Rattle.mc_words.specs.declared.command.Command.{Command}
use Rattle.mc_words.specs.declared.command.Command.TheVariants as commands
use Rattle.command_status.specs.declared.status.Status.{Status}
use Rattle.command_status.specs.declared.status.Status.TheVariants as ends
use Rattle.site_words.specs.Words.{Shop, Founder, broker_founder, vendor_founder}
use Rattle.wallet_words.specs.declared.wallet_operation.WalletOperation.{WalletOperation}
use Rattle.wallet_words.specs.declared.wallet_operation.WalletOperation.TheVariants as wallets
use Rattle.mc_top.specs.Saying.{Says}
use Rattle.command_status.specs.Statuses.{number_of, line_of}
use Rattle.vendor_commands.specs.Operations.{operation_view}
use Rattle.broker_commands.specs.Operations as brokers
use Rattle.mc_top.specs.Wallets.{WorksOn, drawn, bought, got}
use Rattle.mc_top.specs.Refusals.{RefusesFounder, RefusesOperator, RefusesPieces, RefusesPayment, RefusesCustomer}
use Rattle.mc_top.specs.Programs.{ServesOnce, TellsPlay, Founds, Operates, ordered, statement, settlement, Works, Reads, Ends, RunsAs, HasBook, IsDoneOrRefused, EndsWell, answered}
use Rattle.mc_top.proofs.SayLemmas.{said_in_part}
use Rattle.mc_top.proofs.RefusedLemmas.{with_reason, strange_reason, site_reason, wallet_reason, operator_reason, payment_reason, renewal_reason, lines_reason, retry_reason, pieces_reason, chain_reason}
use Rattle.site_commands.proofs.EndLemmas.{Calm, operated_grew, init_well, operated_well}
use Rattle.door_commands.specs.Told.{EndsBy, DoubtsBy, BrokerObeys, BrokerDoubts, VendorObeys, VendorDoubts}
use Rattle.mc_top.proofs.DoorLemmas.{serving_grew, serving_well}
use Rattle.operator_command.specs.Operations.{OperationView}
use Rattle.site_commands.specs.Serving.{HasSite}
use Rattle.wallet_model.specs.Asks.{Asking}
use Rattle.wallet_core.specs.OnDisk.{HasWallet}
use Rattle.wallet_commands.specs.Founding.{Inits}
use Rattle.wallet_commands.specs.Taking.{Takes}
use Rattle.wallet_commands.specs.Listing.{ListsLines}
use Rattle.wallet_commands.specs.Paying.{Pays, Renews, Retries}
use Rattle.wallet_commands.specs.Chaining.{Chains}
use Rattle.wallet_commands.proofs.EndLemmas as wallet_ends
use Rattle.audit_cmd.specs.Reports.{AreCalm, report_lines}
use Rattle.mc_requests.specs.declared.limits.TheConstants.Limits.{FULL}
use Rattle.audit_search.specs.Audit.{Audited}
use Rattle.relay_core.specs.Text.{tree_text}
use Rattle.tree_search.specs.Audit.{TreeAudited}

-- a call that failed is seen at the end
rose_at_end : (a b c : ℕ) (line : List ℕ) (v w : LinkView) (whole : Bool) → b ≡ v.faults → c ≡ w.faults → Says line whole v w → Rose a b → Rose a c
rose_at_end a b c line v w true is_b is_c said rose = let same : w.faults ≡ v.faults = ap (λ (u : LinkView). u.faults) said in omega (arith, rose, is_b, is_c, same)
rose_at_end a b c line v w false is_b is_c said rose = omega (arith, rose, is_b, is_c, (said_in_part line v w said).rose)

-- where no call failed, the line was said, and the number is the status's
pub number_stays : (line : List ℕ) (v w : LinkView) (whole : Bool) (n : ℕ) → (Rose v.faults w.faults → ⊥) → Says line whole v w → answered whole n ≡ n
number_stays line v w true n calm said = refl
number_stays line v w false n calm said = absurd (calm (said_in_part line v w said).rose)

-- no clock is read while a line is said
readings_stay : (line : List ℕ) (v w : LinkView) (whole : Bool) → Says line whole v w → w.readings ≡ v.readings
readings_stay line v w true said = ap (λ (u : LinkView). u.readings) said
readings_stay line v w false said = ap (λ (u : LinkView). u.readings) (said_in_part line v w said).same

pub is_calm : {O : Type 0} (link : O → LinkView) (disk : O → DiskView) (a b c : O) (status : Status) (number : ℕ) → Ends link disk status b c number
    → (Rose (disk a).faults (disk c).faults → ⊥) → (Rose (link a).faults (link c).faults → ⊥) → Calm link disk a b
is_calm link disk a b c status number ends no_disk no_link = record {
  disk' = λ rose. no_disk (subst (λ (n : ℕ). Rose (disk a).faults n) (sym ends.keeps.faults) rose);
  link' = λ rose. no_link (rose_at_end (link a).faults (link b).faults (link c).faults _ (link b) (link c) ends.whole refl refl ends.said rose);
}

-- what did not come of a book that stands, in the words of wallets
at_rest : {O : Type 0} (link : O → LinkView) (disk : O → DiskView) (a b : O) → Calm link disk a b → wallet_ends.Calm link disk a b
at_rest link disk a b calm = record { disk' = calm.disk'; link' = calm.link' }

-- what is done with the book of a wallet
worked_grew : {O : Type 0} (link : O → LinkView) (disk : O → DiskView) (operation : WalletOperation) (a b : O) (status : Status) → wallet_ends.Calm link disk a b → WorksOn link disk operation a status b → (link a).faults ≤ (link b).faults
worked_grew link disk (wallets.Take wallet) a b status calm works = wallet_ends.grew_by link disk a b status calm works.0
worked_grew link disk (wallets.Draw drawing) a b status calm works = wallet_ends.grew_by link disk a b status calm works.0
worked_grew link disk (wallets.Buy buying) a b status calm works = wallet_ends.grew_by link disk a b status calm works.0
worked_grew link disk (wallets.Get getting) a b status calm works = wallet_ends.grew_by link disk a b status calm works.0
worked_grew link disk (wallets.Retry retrying) a b status calm works = wallet_ends.grew_by link disk a b status calm works.0
worked_grew link disk (wallets.List wallet) a b status calm works = wallet_ends.grew_by link disk a b status calm works.0
worked_grew link disk (wallets.Lines relaying) a b status calm works = wallet_ends.grew_by link disk a b status calm works.0
worked_grew link disk (wallets.Chain wallet) a b status calm works = wallet_ends.switch_grew link disk a b status calm works.0
worked_grew link disk (wallets.Renew renewing) a b status calm works = wallet_ends.grew_by link disk a b status calm works.0

-- whatever the command is, where its book is there
grew : {O : Type 0} (link : O → LinkView) (disk : O → DiskView) {D : Type 0} (book : D → DiskView) (xs : List D) (command : Command) (a b : O) (status : Status) → HasBook (disk a) book xs command → Calm link disk a b → Works link disk command a status b
    → (link a).faults ≤ (link b).faults
grew link disk book xs (commands.Once shop) a b status has calm obeys = obeys.2
grew link disk book xs (commands.Init founder) a b status has calm obeys = omega (arith, obeys.0.1)
grew link disk book xs (commands.Serve server) a b status has calm obeys = serving_grew link disk Vendor (EndsBy VendorObeys) (DoubtsBy VendorDoubts) server.door server.links a b status has calm obeys
grew {O = O} link disk book xs (commands.Play playing) a b status has calm obeys = omega (arith, ap (λ (o : O). (link o).faults) obeys.0)
grew link disk book xs (commands.Operate operation) a b status has calm obeys = operated_grew link disk untested (kind_number Vendor) (operation_view operation) has.bytes a b status calm obeys.0 (obeys.1 has.bytes has.told)
grew link disk book xs (commands.State stating) a b status has calm obeys = operated_grew link disk ordered (kind_number Vendor) (statement stating) has.site.bytes a b status calm obeys.0 (obeys.1 has.site.bytes has.site.told)
grew link disk book xs (commands.BrokerInit founder) a b status has calm obeys = omega (arith, obeys.0.1)
grew link disk book xs (commands.BrokerServe server) a b status has calm obeys = serving_grew link disk Broker (EndsBy BrokerObeys) (DoubtsBy BrokerDoubts) server.door server.links a b status has calm obeys
grew link disk book xs (commands.BrokerOperate operation) a b status has calm obeys = operated_grew link disk untested (kind_number Broker) (brokers.operation_view operation) has.bytes a b status calm obeys.0 (obeys.1 has.bytes has.told)
grew link disk book xs (commands.Settle paying) a b status has calm obeys = operated_grew link disk ordered (kind_number Broker) settlement has.site.bytes a b status calm obeys.0 (obeys.1 has.site.bytes has.site.told)
grew link disk book xs (commands.WalletInit founder) a b status has calm obeys = wallet_ends.init_grew link disk a b status (at_rest link disk a b calm) obeys.0
grew link disk book xs (commands.WalletOperate operation) a b status has calm obeys = worked_grew link disk operation a b status (at_rest link disk a b calm) obeys
grew {O = O} link disk book xs (commands.Report reporting) a b status has calm obeys = omega (arith, ap (λ (o : O). (link o).faults) obeys)
grew {O = O} link disk book xs (commands.Chains chained) a b status has calm obeys = omega (arith, ap (λ (o : O). (link o).faults) obeys)
grew {O = O} link disk book xs (commands.Tree tree) a b status has calm obeys = omega (arith, ap (λ (o : O). (link o).faults) obeys)

-- ---- how it ends

once_well : (shop : Shop) (v w : LinkView) (status : Status) → (Rose v.faults w.faults → ⊥) → ServesOnce shop v status w → (number_of status ≡ 0) ⊎ (number_of status ≡ 5)
once_well shop v w ends.Done calm served = inl refl
once_well shop v w (ends.Served n) calm served = inl refl
once_well shop v w (ends.Founded name) calm served = inl refl
once_well shop v w (ends.Proxied n paid) calm served = inl refl
once_well shop v w (ends.Did line) calm served = inl refl
once_well shop v w ends.NoMemory calm served = inr refl
once_well shop v w ends.LinkFault calm served = absurd (calm served.rose)
once_well shop v w ends.BadWords calm served = absurd served
once_well shop v w (ends.Stranger name id) calm served = absurd served
once_well shop v w ends.NotJournal calm served = absurd served
once_well shop v w (ends.BadEntry place) calm served = absurd served
once_well shop v w (ends.BadChain place) calm served = absurd served
once_well shop v w (ends.UnlawfulEntry place) calm served = absurd served
once_well shop v w ends.DiskFault calm served = absurd served
once_well shop v w (ends.Refused f) calm served = absurd served

play_well : (count : ℕ) (status : Status) → TellsPlay count status → (number_of status ≡ 0) ⊎ (number_of status ≡ 5)
play_well count (ends.Did lines) told = inl refl
play_well count ends.NoMemory told = inr refl
play_well count ends.Done told = absurd told
play_well count (ends.Served n) told = absurd told
play_well count (ends.Founded name) told = absurd told
play_well count (ends.Proxied n paid) told = absurd told
play_well count ends.LinkFault told = absurd told
play_well count ends.BadWords told = absurd told
play_well count (ends.Stranger name id) told = absurd told
play_well count ends.NotJournal told = absurd told
play_well count (ends.BadEntry place) told = absurd told
play_well count (ends.BadChain place) told = absurd told
play_well count (ends.UnlawfulEntry place) told = absurd told
play_well count ends.DiskFault told = absurd told
play_well count (ends.Refused f) told = absurd told

-- where memory was refused
without_memory : {O D : Type 0} (link : O → LinkView) (disk : O → DiskView) (book : D → DiskView) (command : Command) (a c : O) (xs : List D) (number : ℕ) → number ≡ 5 → EndsWell link disk book command a xs number c
without_memory link disk book (commands.Once shop) a c xs number is = inr is
without_memory link disk book (commands.Init founder) a c xs number is = inr (inl is)
without_memory link disk book (commands.Serve server) a c xs number is = inr is
without_memory link disk book (commands.Play playing) a c xs number is = inr is
without_memory link disk book (commands.Operate operation) a c xs number is = inr (inl is)
without_memory link disk book (commands.State stating) a c xs number is = inr (inl is)
without_memory link disk book (commands.BrokerInit founder) a c xs number is = inr (inl is)
without_memory link disk book (commands.BrokerServe server) a c xs number is = inr is
without_memory link disk book (commands.BrokerOperate operation) a c xs number is = inr (inl is)
without_memory link disk book (commands.Settle paying) a c xs number is = inr (inl is)
without_memory link disk book (commands.WalletInit founder) a c xs number is = inr (inl is)
without_memory link disk book (commands.WalletOperate operation) a c xs number is = inr (inl is)
without_memory link disk book (commands.Report reporting) a c xs number is = inr (inl is)
without_memory link disk book (commands.Chains chained) a c xs number is = inr is
without_memory link disk book (commands.Tree tree) a c xs number is = inr (inl is)

-- want of memory stays want of memory where the line can't be said
pub memory_stays : (whole : Bool) → answered whole 5 ≡ 5
memory_stays true = refl
memory_stays false = refl

or_refused : {A B C : Type 0} → A ⊎ B → A ⊎ (B ⊎ C)
or_refused (inl a) = inl a
or_refused (inr b) = inr (inl b)

-- what was done with the book of a wallet
module _ {O : Type 0} (link : O → LinkView) (disk : O → DiskView) (a b c : O) (read : (link c).readings ≡ (link b).readings) (status : Status) (has : HasWallet (disk a)) (calm : wallet_ends.Calm link disk a b) where
  paid_well : (asking : Asking) → Pays link disk asking a status b → IsDoneOrRefused (RefusesPayment link disk asking a) (number_of status)
  paid_well asking works =
      with_reason (RefusesPayment link disk asking a) status (wallet_ends.paid_well link disk asking a b status has calm works.0 (works.1 has.bytes has.told))
      (λ f is. let told : Pays link disk asking a (ends.Refused f) b = subst (λ (s : Status). Pays link disk asking a s b) is works in payment_reason link disk a b f asking has (told.1 has.bytes has.told))

  worked_well : (operation : WalletOperation) → WorksOn link disk operation a status b → IsDoneOrRefused (RefusesCustomer link disk operation a (link c)) (number_of status)
  worked_well (wallets.Take wallet) works =
      with_reason (RefusesPieces (disk a) (link a) (link c)) status (wallet_ends.took_well link disk a b status has calm works.0 (works.1 has.bytes has.told))
      (λ f is. let told : Takes link disk a (ends.Refused f) b = subst (λ (s : Status). Takes link disk a s b) is works in pieces_reason link disk a b f (link c) read has (told.1 has.bytes has.told))
  worked_well (wallets.Draw drawing) works = paid_well (drawn drawing) works
  worked_well (wallets.Buy buying) works = paid_well (bought buying) works
  worked_well (wallets.Get getting) works = paid_well (got getting) works
  worked_well (wallets.Retry retrying) works =
      with_reason (RefusesCustomer link disk (wallets.Retry retrying) a (link c)) status (wallet_ends.tried_well link disk retrying.peer a b status has calm works.0 (works.1 has.bytes has.told))
      (λ f is. let told : Retries link disk retrying.peer a (ends.Refused f) b = subst (λ (s : Status). Retries link disk retrying.peer a s b) is works in retry_reason link disk a b f retrying.peer has (told.1 has.bytes has.told))
  worked_well (wallets.Chain wallet) works =
      with_reason (RefusesCustomer link disk (wallets.Chain wallet) a (link c)) status (wallet_ends.chained_well link disk a b status has calm works.0 (works.1 has.bytes has.told))
      (λ f is. let told : Chains link disk a (ends.Refused f) b = subst (λ (s : Status). Chains link disk a s b) is works in chain_reason link disk a b f has (told.1 has.bytes has.told))
  worked_well (wallets.Lines relaying) works =
      with_reason (RefusesCustomer link disk (wallets.Lines relaying) a (link c)) status (wallet_ends.told_well link disk relaying.vendor a b status has calm works.0 (works.1 has.bytes has.told))
      (λ f is. let told : ListsLines link disk relaying.vendor a (ends.Refused f) b = subst (λ (s : Status). ListsLines link disk relaying.vendor a s b) is works in lines_reason link disk a b f relaying.vendor has (told.1 has.bytes has.told))
  worked_well (wallets.Renew renewing) works =
      with_reason (RefusesCustomer link disk (wallets.Renew renewing) a (link c)) status (wallet_ends.renewed_well link disk renewing.vendor renewing.target renewing.before a b status has calm works.0 (works.1 has.bytes has.told))
      (λ f is. let told : Renews link disk renewing.vendor renewing.target renewing.before a (ends.Refused f) b = subst (λ (s : Status). Renews link disk renewing.vendor renewing.target renewing.before a s b) is works in renewal_reason link disk a b f renewing.vendor renewing.target renewing.before has (told.1 has.bytes has.told))
  worked_well (wallets.List wallet) works = or_refused (wallet_ends.listed_well link disk a b status has calm works.0 (works.1 has.bytes has.told))

-- what was done with the book of a site
module _ {O : Type 0} (link : O → LinkView) (disk : O → DiskView) (a b : O) (status : Status) (calm : Calm link disk a b) where
  did_well : (c : O) → (link c).readings ≡ (link b).readings → (passes : Test) (kind : SiteKind) (operation : OperationView) (has : HasSite (kind_number kind) (disk a)) → AllPass passes has.history → Operates link disk passes kind operation a status b
      → IsDoneOrRefused (RefusesOperator operation (disk a) (link a) (link c)) (number_of status)
  did_well c read passes kind operation has pass works =
      with_reason (RefusesOperator operation (disk a) (link a) (link c)) status (operated_well link disk passes (kind_number kind) operation a b status has pass calm works.0 (works.1 has.bytes has.told))
      (λ f is. let told : Operates link disk passes kind operation a (ends.Refused f) b = subst (λ (s : Status). Operates link disk passes kind operation a s b) is works in operator_reason link disk a b c read f passes (kind_number kind) operation has (told.1 has.bytes has.told))

  founded_well : (kind : SiteKind) (founder : Founder) → Founds link disk kind founder a status b → IsDoneOrRefused (RefusesFounder (disk a)) (number_of status)
  founded_well kind founder founds =
      with_reason (RefusesFounder (disk a)) status (init_well link disk a b status calm founds.0.0)
      (λ f is. let told : Founds link disk kind founder a (ends.Refused f) b = subst (λ (s : Status). Founds link disk kind founder a s b) is founds in site_reason link disk a b (kind_number kind) founder f told.0 told.1)

  wallet_founded_well : (name : List ℕ) → Inits link disk name a status b → IsDoneOrRefused (RefusesFounder (disk a)) (number_of status)
  wallet_founded_well name inits =
      with_reason (RefusesFounder (disk a)) status (wallet_ends.init_well link disk a b status (at_rest link disk a b calm) inits.0)
      (λ f is. wallet_reason link disk a b name f (subst (λ (s : Status). Inits link disk name a s b) is inits))

-- what the program ended with, where the command's book is there
pub ends_well : {O D : Type 0} (link : O → LinkView) (disk : O → DiskView) (book : D → DiskView) (command : Command) (a c : O) (xs ys : List D) (number : ℕ) → HasBook (disk a) book xs command
    → (Rose (disk a).faults (disk c).faults → ⊥) → (Rose (link a).faults (link c).faults → ⊥) → AreCalm book xs ys → RunsAs link disk book command a xs number c ys → EndsWell link disk book command a xs number c
ends_well link disk book command a c xs ys number has no_disk no_link no_book (inl unread) = without_memory link disk book command a c xs number (unread.0.number' ∙ memory_stays unread.0.whole)
ends_well {O = O} link disk book command a c xs ys number has no_disk no_link no_book (inr (b, status, obeys, ends)) =
    subst (λ (n : ℕ). EndsWell link disk book command a xs n c) (sym (ends.number' ∙ number_stays (line_of status) (link b) (link c) ends.whole (number_of status) no_more ends.said)) (by_command command has obeys.0 obeys.1 calm)
  where
    calm : Calm link disk a b
    calm = is_calm link disk a b c status number ends no_disk no_link

    no_more : Rose (link b).faults (link c).faults → ⊥
    no_more rose = let grown : (link a).faults ≤ (link b).faults = grew link disk book xs command a b status has calm obeys.0 in no_link (omega (arith, grown, rose))

    read : (link c).readings ≡ (link b).readings
    read = readings_stay (line_of status) (link b) (link c) ends.whole ends.said

    by_command : (command : Command) → HasBook (disk a) book xs command → Works link disk command a status b → Reads book command xs status ys → Calm link disk a b → EndsWell link disk book command a xs (number_of status) c
    by_command (commands.Once shop) has obeys reads calm = once_well shop (link a) (link b) status calm.link' obeys.0
    by_command (commands.Init founder) has obeys reads calm = founded_well link disk a b status calm Vendor (vendor_founder founder) obeys
    by_command (commands.Serve server) has obeys reads calm = serving_well link disk Vendor (EndsBy VendorObeys) (DoubtsBy VendorDoubts) server.door server.links a b status has calm obeys
    by_command (commands.Play playing) has obeys reads calm = play_well playing.count status obeys.1
    by_command (commands.Operate operation) has obeys reads calm = did_well link disk a b status calm c read untested Vendor (operation_view operation) has (all_pass has.history) obeys
    by_command (commands.State stating) has obeys reads calm = did_well link disk a b status calm c read ordered Vendor (statement stating) has.site has.in_order obeys
    by_command (commands.BrokerInit founder) has obeys reads calm = founded_well link disk a b status calm Broker (broker_founder founder) obeys
    by_command (commands.BrokerServe server) has obeys reads calm = serving_well link disk Broker (EndsBy BrokerObeys) (DoubtsBy BrokerDoubts) server.door server.links a b status has calm obeys
    by_command (commands.BrokerOperate operation) has obeys reads calm = did_well link disk a b status calm c read untested Broker (brokers.operation_view operation) has (all_pass has.history) obeys
    by_command (commands.Settle paying) has obeys reads calm = did_well link disk a b status calm c read ordered Broker settlement has.site has.in_order obeys
    by_command (commands.WalletInit founder) has obeys reads calm = wallet_founded_well link disk a b status calm founder.name obeys
    by_command (commands.WalletOperate operation) has obeys reads calm = worked_well link disk a b c read status has (at_rest link disk a b calm) operation obeys
    by_command (commands.Report reporting) has obeys reads calm = strange_reason book (Audited FULL) (report_lines reporting.json) xs status has reads.reports (reads.well has no_book)
    by_command (commands.Tree tree) has obeys reads calm = strange_reason book (TreeAudited FULL) tree_text xs status has reads.reports (reads.well has no_book)
    by_command (commands.Chains chained) has obeys reads calm = reads.well has no_book
