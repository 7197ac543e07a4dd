-- What an outside means that tells nothing of its bytes, by its counts and flags alone.
use Rattle.std.specs.Prelude.{◌≡◌, ℕ, ◌-◌, ◌^◌, ◌≤◌, min, List, [], Some, None, Bool, IsTrue, refl}
use Rattle.std.proofs.Common.{⊎_elim, arith}
use Rattle.mc_outside.specs.DiskView.{DiskView, IsDisk, Goes, DiskGoes, LinkKeeps}
use Rattle.mc_outside.specs.LinkView.{LinkView, IsLink, LinkGoes, Session, all_sent}

pub record Silent : Type 0 where
  pub disk_faults : ℕ
  pub link_faults : ℕ
  pub stands : Bool
  pub at_end : Bool
  pub over : Bool

abbrev pub silent_disk : Silent → DiskView
silent_disk m = record { contents = None; moment = 0; leaves = λ _. ⊥; pairs = λ _ _ _. ⊥; faults = min m.disk_faults (2 ^ 64 - 1); aside = [] }

abbrev pub silent_link : Silent → LinkView
silent_link m = record { sessions = None; said = None; readings = None; stands = m.stands; at_end = m.at_end; over = m.over; faults = min m.link_faults (2 ^ 64 - 1); doors = None }

pub record SilentDiskMoved (a b : Silent) : Type 0 where
  pub faults : a.disk_faults ≤ b.disk_faults
  pub links : silent_link b ≡ silent_link a

pub record SilentLinkMoved (a b : Silent) : Type 0 where
  pub faults : a.link_faults ≤ b.link_faults
  pub over : IsTrue a.over → IsTrue b.over
  pub disk : b.disk_faults ≡ a.disk_faults

pub silent_is_disk : (m : Silent) → IsDisk (silent_disk m)
silent_is_disk m = record { possible = λ x e. absurd (cc e); counts = λ t c le l. absurd l; now = λ c s p. absurd p; below = omega arith }

goes : (a b : Silent) → min a.disk_faults (2 ^ 64 - 1) ≤ min b.disk_faults (2 ^ 64 - 1) → Goes (silent_disk a) (silent_disk b)
goes a b le = record { later = omega arith; faults = le; tells = refl; joins = λ t c s le. (λ p. absurd p, λ q. ⊎_elim (λ p. p) (λ p. p) q) }

pub silent_disk_goes : (a b : Silent) → SilentDiskMoved a b → DiskGoes (silent_disk a) (silent_disk b)
silent_disk_goes a b m = record { goes = goes a b (omega (arith, m.faults)); aside = refl }

pub silent_link_keeps : (a b : Silent) → SilentLinkMoved a b → LinkKeeps (silent_disk a) (silent_disk b)
silent_link_keeps a b m = record { goes = goes a b (omega (arith, m.disk)); contents = refl; faults = omega (arith, m.disk); leaves = λ c. (λ l. l, λ l. l); sent = ([], refl); pairs = λ c s p. absurd p }

pub silent_is_link : (m : Silent) → IsLink (silent_link m)
silent_is_link m = record { taken = λ s e. cc e; last_end = λ ss s t e. absurd (cc e); below = omega arith }

pub silent_link_goes : (a b : Silent) → SilentLinkMoved a b → LinkGoes (silent_link a) (silent_link b)
silent_link_goes a b m = record { faults = omega (arith, m.faults); over = m.over; tells = refl; tells_said = refl; tells_readings = λ o. o }

pub silent_link_none : (a : Silent) → SilentLinkMoved a a
silent_link_none a = record { faults = omega arith; over = λ o. o; disk = refl }

pub silent_link_then : (a b c : Silent) → SilentLinkMoved a b → SilentLinkMoved b c → SilentLinkMoved a c
silent_link_then a b c m n = record { faults = omega (arith, m.faults, n.faults); over = λ o. n.over (m.over o); disk = omega (arith, m.disk, n.disk) }

pub silent_disk_none : (a : Silent) → SilentDiskMoved a a
silent_disk_none a = record { faults = omega arith; links = refl }

pub silent_disk_then : (a b c : Silent) → SilentDiskMoved a b → SilentDiskMoved b c → SilentDiskMoved a c
silent_disk_then a b c m n = record { faults = omega (arith, m.faults, n.faults); links = cc (m.links, n.links) }

pub silent_sent : (a : Silent) (ss : List Session) → (silent_link a).sessions ≡ Some ss → (silent_disk a).aside ≡ all_sent ss
silent_sent a ss e = absurd (cc e)
