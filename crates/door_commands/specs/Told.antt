-- What a site makes of what is told at its door.
use Rattle.std.specs.Prelude.{◌≡◌, ◌⊎◌, ℕ, List}
use Rattle.door_wire.specs.Wire.{IsTold, TellsNoWords}
use Rattle.mc_requests.specs.declared.refusal.Refusal.TheVariants as refusals
use Rattle.mc_records.specs.Entry.{Entry}
use Rattle.ledger_model.specs.Histories.{History}
use Rattle.command_status.specs.declared.status.Status.{Status}
use Rattle.command_status.specs.declared.status.Status.TheVariants as ends
use Rattle.mc_words.specs.declared.command.Command.{Command}
use Rattle.mc_words.specs.declared.command.Command.TheVariants as commands
use Rattle.mc_words.specs.Commands.{AreOfNoRow, AreWords}
use Rattle.broker_commands.specs.Operations as brokers
use Rattle.vendor_commands.specs.Operations as vendors
use Rattle.house_doors.specs.Performing.{EndsAs, DoubtsAs}

-- ---- a command

-- the bytes tell a command with an input
abbrev pub Tells : List ℕ → Command → List ℕ → Type 0
Tells told command input = (words : List (List ℕ)) × IsTold told words input × AreWords words command

-- they tell no words, or words of no row
abbrev pub TellsNone : List ℕ → Type 0
TellsNone told =
    TellsNoWords told
    ⊎ ((words : List (List ℕ)) × (input : List ℕ) × IsTold told words input × AreOfNoRow words)

-- ---- what a broker makes of a command

-- One of its operator's is done as over its closed book. A vendor's is told that the book is of another kind (52), as there. Any
-- other is none for a door.
abbrev pub BrokerObeys : Command → List ℕ → History → ℕ → Status → History → Type 0
BrokerObeys (commands.BrokerOperate o) input h t status g = EndsAs (brokers.operation_view o) input h t status g
BrokerObeys (commands.Operate o) input h t status g = (status ≡ ends.Refused refusals.WrongKind) × (g ≡ h)
BrokerObeys _ input h t status g = (status ≡ ends.BadWords) × (g ≡ h)

abbrev pub BrokerDoubts : Command → List ℕ → History → ℕ → Entry → Type 0
BrokerDoubts (commands.BrokerOperate o) input h t e = DoubtsAs (brokers.operation_view o) input h t e
BrokerDoubts _ input h t e = ⊥

-- ---- and a vendor

abbrev pub VendorObeys : Command → List ℕ → History → ℕ → Status → History → Type 0
VendorObeys (commands.Operate o) input h t status g = EndsAs (vendors.operation_view o) input h t status g
VendorObeys (commands.BrokerOperate o) input h t status g = (status ≡ ends.Refused refusals.WrongKind) × (g ≡ h)
VendorObeys _ input h t status g = (status ≡ ends.BadWords) × (g ≡ h)

abbrev pub VendorDoubts : Command → List ℕ → History → ℕ → Entry → Type 0
VendorDoubts (commands.Operate o) input h t e = DoubtsAs (vendors.operation_view o) input h t e
VendorDoubts _ input h t e = ⊥

-- ---- of any bytes

-- how what is told ends: memory was refused to read it; or it tells no command; or its command is obeyed
abbrev pub EndsBy : (Command → List ℕ → History → ℕ → Status → History → Type 0) → List ℕ → History → ℕ → Status → History → Type 0
EndsBy Obeys told h t status g =
    ((status ≡ ends.NoMemory) × (g ≡ h))
    ⊎ (((status ≡ ends.BadWords) × (g ≡ h) × TellsNone told)
    ⊎ ((c : Command) × (input : List ℕ) × Tells told c input × Obeys c input h t status g))

abbrev pub DoubtsBy : (Command → List ℕ → History → ℕ → Entry → Type 0) → List ℕ → History → ℕ → Entry → Type 0
DoubtsBy Doubts told h t e = (c : Command) × (input : List ℕ) × Tells told c input × Doubts c input h t e
