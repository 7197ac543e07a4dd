-- How founding the book of a wallet ends.
use Rattle.std.proofs.Common.{◌≡◌, ◌∙◌, inl, inr, ℕ, ◌+◌, ◌<◌, ◌≤◌, ◌^◌, List, [], Some, Err, refl, ap, arith}
use Rattle.std.specs.Prelude.{IsSome}
use Rattle.mc_outside.specs.DiskView.{DiskView, LinkKeeps, OnlyRead, Ran}
use Rattle.mc_outside.specs.LinkView.{LinkView}
use Rattle.mc_outside.proofs.Runs.{ran_then, ran_weaker}
use Rattle.scrip_form.specs.Texts.{IsName}
use Rattle.mc_requests.specs.declared.limits.TheConstants.Limits.{FULL}
use Rattle.mc_records.specs.Entry.{Entry, Fits}
use Rattle.mc_records.specs.Sizes.{empty_size, entry_size}
use Rattle.mc_records.proofs.SizeLaws.{tail_is_short}
use Rattle.mc_records.proofs.PayloadSizes.{payload_is_short}
use Rattle.scrip_journal.specs.declared.fault.HouseFault.{HouseFault}
use Rattle.scrip_journal.specs.declared.fault.HouseFault.TheVariants as faults
use Rattle.scrip_journal.proofs.FoundLemmas.{found_before}
use Rattle.scrip_journal.specs.Founds.{fault_disk, FoundNoOutput, FoundImage, ReadsOnly}
use Rattle.millicent_http.specs.Courses.{with_readings}
use Rattle.command_status.specs.Faults.{fault_status}
use Rattle.wallet_core.specs.WalletView.{WalletView}
use Rattle.wallet_core.specs.Opening.{FoundsWalletBy}
use Rattle.command_status.specs.Founding.{FoundingImage}
use Rattle.wallet_commands.specs.Founding.{site_of, FoundsBy}
use Rattle.millicent_http.proofs.AsideLemmas.{TellsAside, no_more_still, aside_still, quiet_link}

site_fits : (name : List ℕ) (moment : ℕ) → IsName name → moment < 2 ^ 35 → Fits (site_of name moment)
site_fits name moment is last = record { moment = last; name = is; house = tt }

-- the first entry has room
pub first_has_room : (name : List ℕ) (moment : ℕ) → IsName name → moment < 2 ^ 35 → empty_size + entry_size [] (site_of name moment) ≤ 2 ^ 40
first_has_room name moment is last = omega (arith, payload_is_short (site_of name moment) (site_fits name moment is last), tail_is_short [] (site_of name moment))

-- the clock was read, and then the book was founded
pub found_pairs : {O : Type 0} (link : O → LinkView) (disk : O → DiskView) (a m b : O) (e : Entry) → TellsAside link (λ o. (disk o).aside) → LinkKeeps (disk a) (disk m) → link m ≡ with_readings (link m).readings (link a)
    → Ran (disk m) (disk b) (FoundNoOutput (disk m) e) → Ran (disk a) (disk b) (λ image sent. FoundImage (disk a) e image × (IsSome (link a).sessions → sent ≡ (disk a).aside))
found_pairs link disk a m b e all keeps rest ran =
    let quiet = no_more_still (link a) (link m) (ap (λ (v : LinkView). v.sessions) rest) in
    ran_then (disk a) (disk m) (disk b) _
    (quiet_link link disk (IsSome (link a).sessions) (FoundImage (disk a) e) (disk a).aside a m all keeps (λ t. t) quiet (λ t. refl) (λ c l. inl (inr l)))
    (ran_weaker (disk m) (disk b) _ _ ran (λ c s p. (
      found_before (disk a) (disk m) e c keeps p.0,
      λ told. p.1 ∙ aside_still link (λ o. (disk o).aside) a m all told quiet,
    )))

-- or it was only read
pub read_pairs : {O : Type 0} (link : O → LinkView) (disk : O → DiskView) (a m b : O) → TellsAside link (λ o. (disk o).aside) → LinkKeeps (disk a) (disk m) → link m ≡ with_readings (link m).readings (link a)
    → OnlyRead (disk m) (disk b) → Ran (disk a) (disk b) (λ image sent. (disk a).leaves image × (IsSome (link a).sessions → sent ≡ (disk a).aside))
read_pairs link disk a m b all keeps rest read =
    let quiet = no_more_still (link a) (link m) (ap (λ (v : LinkView). v.sessions) rest) in
    ran_then (disk a) (disk m) (disk b) _
    (quiet_link link disk (IsSome (link a).sessions) (disk a).leaves (disk a).aside a m all keeps (λ t. t) quiet (λ t. refl) (λ c l. l))
    (ran_weaker (disk m) (disk b) _ _ read.ran (λ c s p. ((keeps.leaves c).0 p.0, λ told. p.1 ∙ aside_still link (λ o. (disk o).aside) a m all told quiet)))

-- by why nothing was founded
pub unfounded_pairs : {O : Type 0} (link : O → LinkView) (disk : O → DiskView) (name : List ℕ) (moment : ℕ) (bytes : List ℕ) (a m : O) (fault : HouseFault O) → TellsAside link (λ o. (disk o).aside) → LinkKeeps (disk a) (disk m)
    → link m ≡ with_readings (link m).readings (link a) → FoundsWalletBy {D = O} disk FULL (site_of name moment) bytes (Err fault) → ReadsOnly {D = O} {A = WalletView O} disk m (Err fault)
    → Ran (disk m) (disk (fault_disk fault)) (FoundNoOutput (disk m) (site_of name moment))
    → Ran (disk a) (disk (fault_disk fault)) (λ image sent. FoundingImage (disk a) (site_of name moment) (fault_status fault) image × (IsSome (link a).sessions → sent ≡ (disk a).aside))
unfounded_pairs link disk name moment bytes a m (faults.NotEmpty d size) all keeps rest by read ran = read_pairs link disk a m d all keeps rest read
unfounded_pairs link disk name moment bytes a m (faults.NoMemory d) all keeps rest by read ran = read_pairs link disk a m d all keeps rest read
unfounded_pairs link disk name moment bytes a m (faults.Disk d) all keeps rest by read ran = found_pairs link disk a m d (site_of name moment) all keeps rest ran
unfounded_pairs link disk name moment bytes a m (faults.NotJournal d) all keeps rest by read ran = absurd by
unfounded_pairs link disk name moment bytes a m (faults.BadRecord d place) all keeps rest by read ran = absurd by
unfounded_pairs link disk name moment bytes a m (faults.BadChain d place stood computed) all keeps rest by read ran = absurd by
unfounded_pairs link disk name moment bytes a m (faults.Unlawful d place) all keeps rest by read ran = absurd by
unfounded_pairs link disk name moment bytes a m (faults.WrongKind d) all keeps rest by read ran = absurd by

-- nothing was founded
pub not_founded : {O : Type 0} (disk : O → DiskView) (name : List ℕ) (moment : ℕ) (bytes : List ℕ) (a m : O) (fault : HouseFault O) → (disk a).contents ≡ Some bytes → LinkKeeps (disk a) (disk m) → FoundsWalletBy {D = O} disk FULL (site_of name moment) bytes (Err fault)
    → ReadsOnly {D = O} {A = WalletView O} disk m (Err fault) → FoundsBy (disk a) name bytes moment (fault_status fault) (disk (fault_disk fault))
not_founded disk name moment bytes a m (faults.NotEmpty d size) told keeps by read = (size, refl, by, read.contents ∙ keeps.contents)
not_founded disk name moment bytes a m (faults.NoMemory d) told keeps by read = read.contents ∙ keeps.contents
not_founded disk name moment bytes a m (faults.Disk d) told keeps by read = λ taken. (read bytes (keeps.contents ∙ told) taken).contents ∙ keeps.contents
not_founded disk name moment bytes a m (faults.NotJournal d) told keeps by read = absurd by
not_founded disk name moment bytes a m (faults.BadRecord d place) told keeps by read = absurd by
not_founded disk name moment bytes a m (faults.BadChain d place stood computed) told keeps by read = absurd by
not_founded disk name moment bytes a m (faults.Unlawful d place) told keeps by read = absurd by
not_founded disk name moment bytes a m (faults.WrongKind d) told keeps by read = absurd by
