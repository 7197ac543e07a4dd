-- How founding a site in a book ends.
use Rattle.std.proofs.Common.{◌≡◌, inl, inr, ℕ, ◌+◌, ◌≤◌, ◌^◌, List, [], ◌∷◌, refl, ap, ◌∙◌, subst, arith, Some, Err}
use Rattle.std.specs.Prelude.{IsSome}
use Rattle.mc_outside.specs.DiskView.{DiskView, LinkKeeps, OnlyRead, Ran}
use Rattle.mc_outside.specs.LinkView.{LinkView}
use Rattle.mc_outside.proofs.Runs.{ran_then, ran_weaker}
use Rattle.mc_records.specs.Entry.{Entry, Fits}
use Rattle.mc_records.specs.Sizes.{empty_size, entry_size}
use Rattle.mc_records.proofs.SizeLaws.{tail_is_short}
use Rattle.mc_records.proofs.PayloadSizes.{payload_is_short}
use Rattle.mc_requests.specs.declared.limits.Limits.{Limits}
use Rattle.ledger_model.specs.Lawful.{IsLawful}
use Rattle.scrip_journal.specs.declared.fault.HouseFault.{HouseFault}
use Rattle.scrip_journal.specs.declared.fault.HouseFault.TheVariants as faults
use Rattle.millicent_http.specs.Courses.{with_readings}
use Rattle.house_core.specs.HouseView.{HouseView}
use Rattle.scrip_journal.specs.Founds.{fault_disk, FoundImage, FoundNoOutput, CountsBy, ReadsOnly}
use Rattle.scrip_journal.proofs.FoundLemmas.{found_before}
use Rattle.house_opening.specs.Found.{FoundedFor, FoundsHouseBy}
use Rattle.millicent_http.proofs.AsideLemmas.{TellsAside, no_more_still, aside_still, quiet_link}
use Rattle.operator_command.specs.Operations.{full}
use Rattle.site_words.specs.Words.{Founder}
use Rattle.site_commands.specs.Founding.{site_of}
use Rattle.command_status.specs.Faults.{fault_status}
use Rattle.command_status.specs.Founding.{FoundPair}
use Rattle.site_commands.specs.Init.{FoundsBy, FoundCauses}
use Rattle.site_commands.specs.Serving.{EncodesLawful}
use Rattle.site_commands.proofs.ServedLemmas.{stands_lawful}
use Rattle.house_state.specs.Trade.{TradeView}

-- any entry that fits has room as the first
pub first_has_room : (e : Entry) → Fits e → empty_size + entry_size [] e ≤ 2 ^ 40
first_has_room e fits = omega (arith, payload_is_short e fits, tail_is_short [] e)

-- The clock was read, and then nothing but the disk was used: what its images have, those from the clock on have.
clocked_pairs : {O : Type 0} (link : O → LinkView) (disk : O → DiskView) (a m b : O) (Q : List ℕ → Type 0) → TellsAside link (λ o. (disk o).aside) → LinkKeeps (disk a) (disk m) → link m ≡ with_readings (link m).readings (link a)
    → ((image : List ℕ) → (disk a).leaves image → Q image) → Ran (disk m) (disk b) (λ image sent. Q image × (sent ≡ (disk m).aside)) → Ran (disk a) (disk b) (λ image sent. Q image × (IsSome (link a).sessions → sent ≡ (disk a).aside))
clocked_pairs link disk a m b Q tells keeps rest before ran =
    let quiet = no_more_still (link a) (link m) (ap (λ (v : LinkView). v.sessions) rest) in
    ran_then (disk a) (disk m) (disk b) _
    (quiet_link link disk (IsSome (link a).sessions) Q (disk a).aside a m tells keeps (λ t. t) quiet (λ t. refl) before)
    (ran_weaker (disk m) (disk b) _ _ ran (λ i x p. (p.0, λ told'. p.1 ∙ aside_still link (λ o. (disk o).aside) a m tells told' quiet)))

-- the book was founded, or the disk failed
pub found_pairs : {O : Type 0} (link : O → LinkView) (disk : O → DiskView) (a m b : O) (e : Entry) → TellsAside link (λ o. (disk o).aside) → LinkKeeps (disk a) (disk m) → link m ≡ with_readings (link m).readings (link a)
    → Ran (disk m) (disk b) (FoundNoOutput (disk m) e) → Ran (disk a) (disk b) (λ image sent. FoundImage (disk a) e image × (IsSome (link a).sessions → sent ≡ (disk a).aside))
found_pairs link disk a m b e tells keeps rest ran =
    clocked_pairs link disk a m b (FoundImage (disk a) e) tells keeps rest (λ i l. inl (inr l)) (ran_weaker (disk m) (disk b) _ _ ran (λ i x p. (found_before (disk a) (disk m) e i keeps p.0, p.1)))

-- it was only read
read_pairs : {O : Type 0} (link : O → LinkView) (disk : O → DiskView) (a m b : O) → TellsAside link (λ o. (disk o).aside) → LinkKeeps (disk a) (disk m) → link m ≡ with_readings (link m).readings (link a)
    → OnlyRead (disk m) (disk b) → Ran (disk a) (disk b) (λ image sent. (disk a).leaves image × (IsSome (link a).sessions → sent ≡ (disk a).aside))
read_pairs link disk a m b tells keeps rest read =
    clocked_pairs link disk a m b (disk a).leaves tells keeps rest (λ i l. l) (ran_weaker (disk m) (disk b) _ _ read.ran (λ i x p. ((keeps.leaves i).0 p.0, p.1)))

-- by why it was not founded
pub unfounded_pairs : {O T : Type 0} (link : O → LinkView) (disk : O → DiskView) (trade : T → TradeView) (e : Entry) (bytes : List ℕ) (a m : O) (fault : HouseFault O) → TellsAside link (λ o. (disk o).aside) → LinkKeeps (disk a) (disk m)
    → link m ≡ with_readings (link m).readings (link a) → FoundsHouseBy {D = O} {T = T} disk trade full e bytes (Err fault) → ReadsOnly {D = O} {A = HouseView O T} disk m (Err fault)
    → Ran (disk m) (disk (fault_disk fault)) (FoundNoOutput (disk m) e) → Ran (disk a) (disk (fault_disk fault)) (FoundPair (IsSome (link a).sessions) (disk a) e (fault_status fault))
unfounded_pairs link disk trade e bytes a m (faults.NotEmpty d size) tells keeps rest by read ran = read_pairs link disk a m d tells keeps rest read
unfounded_pairs link disk trade e bytes a m (faults.NoMemory d) tells keeps rest by read ran = read_pairs link disk a m d tells keeps rest read
unfounded_pairs link disk trade e bytes a m (faults.Disk d) tells keeps rest by read ran = found_pairs link disk a m d e tells keeps rest ran
unfounded_pairs link disk trade e bytes a m (faults.NotJournal d) tells keeps rest by read ran = absurd by
unfounded_pairs link disk trade e bytes a m (faults.BadRecord d place) tells keeps rest by read ran = absurd by
unfounded_pairs link disk trade e bytes a m (faults.BadChain d place stood computed) tells keeps rest by read ran = absurd by
unfounded_pairs link disk trade e bytes a m (faults.Unlawful d place) tells keeps rest by read ran = absurd by
unfounded_pairs link disk trade e bytes a m (faults.WrongKind d) tells keeps rest by read ran = absurd by

-- why it was not founded
pub fault_causes : {O : Type 0} (A : Type 0) (disk : O → DiskView) (before : DiskView) (fault : HouseFault O) → CountsBy {D = O} {A = A} (Err fault) before.faults (disk (fault_disk fault)).faults → FoundCauses before (fault_status fault) (disk (fault_disk fault))
fault_causes A disk before (faults.NotEmpty d size) counts = ((size, refl), counts)
fault_causes A disk before (faults.NoMemory d) counts = counts
fault_causes A disk before (faults.Disk d) counts = counts
fault_causes A disk before (faults.NotJournal d) counts = absurd counts
fault_causes A disk before (faults.BadRecord d place) counts = absurd counts
fault_causes A disk before (faults.BadChain d place stood computed) counts = absurd counts
fault_causes A disk before (faults.Unlawful d place) counts = absurd counts
fault_causes A disk before (faults.WrongKind d) counts = absurd counts

-- the disk encodes the Site entry
pub founded_for : {O T : Type 0} (disk : O → DiskView) (trade : T → TradeView) (e : Entry) (bytes : List ℕ) (x : HouseView O T) → FoundedFor disk trade full e bytes x
    → EncodesLawful (disk x.journal.disk) (e ∷ [])
founded_for disk trade e bytes x at =
    stands_lawful disk trade x (e ∷ []) at.house (subst (λ (l : Limits). IsLawful l (e ∷ [])) at.limits' at.house.house.represents.state.lawful)

-- nothing was founded
pub not_founded : {O T : Type 0} (disk : O → DiskView) (trade : T → TradeView) (kind : ℕ) (founder : Founder) (moment : ℕ) (bytes : List ℕ) (a m : O) (fault : HouseFault O) → (disk a).contents ≡ Some bytes → LinkKeeps (disk a) (disk m)
    → FoundsHouseBy {D = O} {T = T} disk trade full (site_of kind founder moment) bytes (Err fault) → ReadsOnly {D = O} {A = HouseView O T} disk m (Err fault) → FoundsBy (disk a) kind founder bytes moment (fault_status fault) (disk (fault_disk fault))
not_founded disk trade kind founder moment bytes a m (faults.NotEmpty d size) told keeps by read = (size, refl, by, read.contents ∙ keeps.contents)
not_founded disk trade kind founder moment bytes a m (faults.NoMemory d) told keeps by read = read.contents ∙ keeps.contents
not_founded disk trade kind founder moment bytes a m (faults.Disk d) told keeps by read = λ taken. (read bytes (keeps.contents ∙ told) taken).contents ∙ keeps.contents
not_founded disk trade kind founder moment bytes a m (faults.NotJournal d) told keeps by read = absurd by
not_founded disk trade kind founder moment bytes a m (faults.BadRecord d place) told keeps by read = absurd by
not_founded disk trade kind founder moment bytes a m (faults.BadChain d place stood computed) told keeps by read = absurd by
not_founded disk trade kind founder moment bytes a m (faults.Unlawful d place) told keeps by read = absurd by
not_founded disk trade kind founder moment bytes a m (faults.WrongKind d) told keeps by read = absurd by
