-- The state of a house that was just founded.
use Rattle.std.specs.Prelude.{◌≡◌, ℕ, ◌+◌, false, List, [], ◌∷◌, length, Some}
use Rattle.mc_requests.specs.declared.limits.Limits.{Limits}
use Rattle.mc_records.specs.Entry.{House, Entry, Site, Fits, payload}
use Rattle.mc_records.specs.Sizes.{empty_size, framed_size, tail_bytes}
use Rattle.change_issue.specs.Registers.{count_in, issued_in, redeemed_in}
use Rattle.house_state.specs.HouseState.{HouseStateView}

-- the state holds nothing but what a Site entry of this moment, name and house, with a payload of so many
-- bytes, founds
pub record IsFounded (b : HouseStateView) (m : ℕ) (site : List ℕ) (h : House) (l : Limits) (len : ℕ) : Type 0 where
  pub name : b.name ≡ site
  pub clear : b.clear ≡ h.clear
  pub terms : b.terms ≡ h.terms ∷ []
  pub upgrades : b.upgrades ≡ []
  pub time : b.time ≡ m
  pub spent : b.spent ≡ []
  pub keep : b.kept.keep ≡ h.keep
  pub replies : b.kept.replies ≡ []
  pub issuer : b.own.terms ≡ h.terms
  pub most : b.own.most ≡ l.series
  pub issued : (s : ℕ) → count_in b.own s ≡ 0
  pub worth : (s : ℕ) → issued_in b.own s ≡ 0
  pub redeemed : (s : ℕ) → redeemed_in b.own s ≡ 0
  pub takings : b.takings ≡ 0
  pub counted : b.count ≡ 1
  pub sized : b.size ≡ empty_size + framed_size len (tail_bytes false)
  pub switched : b.switched ≡ false
  pub limits : b.limits ≡ l

-- the state is the one that an entry founds
abbrev pub IsStateOf : HouseStateView → Limits → Entry → Type 0
IsStateOf b limits (Site m kind name (Some h)) = IsFounded b m name h limits (length (payload (Site m kind name (Some h))))
IsStateOf b limits _ = ⊥

-- a Site entry of a house, with a payload
abbrev pub FoundsHouse : Entry → Type 0
FoundsHouse (Site m kind name (Some h)) = Fits (Site m kind name (Some h))
FoundsHouse _ = ⊥
