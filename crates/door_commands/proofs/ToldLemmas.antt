-- What is told, and what comes of it.
use Rattle.std.proofs.Common.{◌≡◌, inl, inr, ℕ, List, refl, sym, subst, Ok, Err, Result}
use Rattle.std.specs.Prelude.{IsTrue}
use Rattle.mc_outside.specs.DiskView.{DiskView}
use Rattle.mc_records.specs.Entry.{Entry}
use Rattle.ledger_model.specs.Histories.{History}
use Rattle.house_state.specs.Trade.{TradeView}
use Rattle.house_core.specs.HouseView.{HouseView}
use Rattle.house_core.specs.House.{HouseRepresents, KeepsTime}
use Rattle.command_status.specs.declared.status.Status.{Status}
use Rattle.command_status.specs.declared.status.Status.TheVariants as ends
use Rattle.mc_words.specs.declared.command.Command.{Command}
use Rattle.mc_words.specs.declared.command.Command.TheVariants as commands
use Rattle.site_words.specs.declared.operation.Operation.{Operation}
use Rattle.site_words.specs.declared.broker_operation.BrokerOperation.{BrokerOperation}
use Rattle.mc_requests.specs.declared.refusal.Refusal.TheVariants as refusals
use Rattle.command_status.specs.Statuses.{number_of, line_of}
use Rattle.operator_command.specs.Operations.{OperationView}
use Rattle.broker_commands.specs.Operations as brokers
use Rattle.vendor_commands.specs.Operations as vendors
use Rattle.door_wire.specs.Wire.{is_doors, IsAnswer}
use Rattle.house_doors.specs.Commands.{KeepsOn, ActsOn, answer_of}
use Rattle.house_doors.specs.Performing.{EndsAs}
use Rattle.door_commands.specs.Told.{BrokerObeys, VendorObeys, EndsBy}

-- nothing was done
pub kept_still : {D T : Type 0} (view : D → DiskView) (moved : D → D → Type 0) (house : HouseView D T) (status : Status) → moved house.journal.disk house.journal.disk → KeepsOn {D = D} {T = T} view moved house (Ok (house, status))
kept_still view moved house status none = (none, record { time = refl; limits = refl }, refl)

pub acts_still : {D T : Type 0} (view : D → DiskView) (trade : T → TradeView) (ends : Status → History → Type 0) (doubts : Entry → Type 0) (house : HouseView D T) (h : History) (status : Status)
    → HouseRepresents view trade house h → ends status h → ActsOn {D = D} {T = T} view trade ends doubts house.journal.disk h (Ok (house, status))
acts_still view trade ends doubts house h status st is = (h, is, st, inl (refl, refl))

-- what was done is so by another name
pub acts_so : {D T : Type 0} (view : D → DiskView) (trade : T → TradeView) (ends others : Status → History → Type 0) (doubts doubts' : Entry → Type 0) (disk : D) (h : History) (r : Result (HouseView D T × Status) D)
    → ((status : Status) (g : History) → ends status g → others status g) → ((e : Entry) → doubts e → doubts' e)
    → ActsOn {D = D} {T = T} view trade ends doubts disk h r → ActsOn {D = D} {T = T} view trade others doubts' disk h r
acts_so view trade ends others doubts doubts' disk h (Ok x) so so' acts = (acts.0, so x.1 acts.0 acts.1, acts.2, acts.3)
acts_so view trade ends others doubts doubts' disk h (Err d) so so' acts = (acts.0, so' acts.0 acts.1, acts.2, acts.3)

-- a command that is none for a broker's door
pub other_obeys : (c : Command) (input : List ℕ) (h : History) (t : ℕ) → ((o : Operation) → c ≡ commands.Operate o → ⊥) → ((o : BrokerOperation) → c ≡ commands.BrokerOperate o → ⊥) → BrokerObeys c input h t ends.BadWords h
other_obeys (commands.Once x) input h t not none = (refl, refl)
other_obeys (commands.Init x) input h t not none = (refl, refl)
other_obeys (commands.Serve x) input h t not none = (refl, refl)
other_obeys (commands.Play x) input h t not none = (refl, refl)
other_obeys (commands.Operate x) input h t not none = absurd (not x refl)
other_obeys (commands.State x) input h t not none = (refl, refl)
other_obeys (commands.BrokerInit x) input h t not none = (refl, refl)
other_obeys (commands.BrokerServe x) input h t not none = (refl, refl)
other_obeys (commands.BrokerOperate x) input h t not none = absurd (none x refl)
other_obeys (commands.Settle x) input h t not none = (refl, refl)
other_obeys (commands.WalletInit x) input h t not none = (refl, refl)
other_obeys (commands.WalletOperate x) input h t not none = (refl, refl)
other_obeys (commands.Report x) input h t not none = (refl, refl)
other_obeys (commands.Chains x) input h t not none = (refl, refl)
other_obeys (commands.Tree x) input h t not none = (refl, refl)

-- a command that is none for a vendor's door
pub vendor_other : (c : Command) (input : List ℕ) (h : History) (t : ℕ) → ((o : Operation) → c ≡ commands.Operate o → ⊥) → ((o : BrokerOperation) → c ≡ commands.BrokerOperate o → ⊥) → VendorObeys c input h t ends.BadWords h
vendor_other (commands.Once x) input h t not none = (refl, refl)
vendor_other (commands.Init x) input h t not none = (refl, refl)
vendor_other (commands.Serve x) input h t not none = (refl, refl)
vendor_other (commands.Play x) input h t not none = (refl, refl)
vendor_other (commands.Operate x) input h t not none = absurd (not x refl)
vendor_other (commands.State x) input h t not none = (refl, refl)
vendor_other (commands.BrokerInit x) input h t not none = (refl, refl)
vendor_other (commands.BrokerServe x) input h t not none = (refl, refl)
vendor_other (commands.BrokerOperate x) input h t not none = absurd (none x refl)
vendor_other (commands.Settle x) input h t not none = (refl, refl)
vendor_other (commands.WalletInit x) input h t not none = (refl, refl)
vendor_other (commands.WalletOperate x) input h t not none = (refl, refl)
vendor_other (commands.Report x) input h t not none = (refl, refl)
vendor_other (commands.Chains x) input h t not none = (refl, refl)
vendor_other (commands.Tree x) input h t not none = (refl, refl)

-- ---- which statuses a door answers

ends_door : (operation : OperationView) (input : List ℕ) (h : History) (t : ℕ) (status : Status) (g : History) → EndsAs operation input h t status g → IsTrue (is_doors (number_of status))
ends_door operation input h t (ends.Did line) g is = refl
ends_door operation input h t (ends.Refused f) g is = refl
ends_door operation input h t ends.NoMemory g is = refl
ends_door operation input h t _ g is = absurd is

said_door : (status other : Status) → status ≡ other → IsTrue (is_doors (number_of other)) → IsTrue (is_doors (number_of status))
said_door status other same is = subst (λ (s : Status). IsTrue (is_doors (number_of s))) (sym same) is

pub broker_door : (c : Command) (input : List ℕ) (h : History) (t : ℕ) (status : Status) (g : History) → BrokerObeys c input h t status g → IsTrue (is_doors (number_of status))
broker_door (commands.BrokerOperate o) input h t status g is = ends_door (brokers.operation_view o) input h t status g is
broker_door (commands.Operate o) input h t status g is = said_door status (ends.Refused refusals.WrongKind) is.0 refl
broker_door _ input h t status g is = said_door status ends.BadWords is.0 refl

pub vendor_door : (c : Command) (input : List ℕ) (h : History) (t : ℕ) (status : Status) (g : History) → VendorObeys c input h t status g → IsTrue (is_doors (number_of status))
vendor_door (commands.Operate o) input h t status g is = ends_door (vendors.operation_view o) input h t status g is
vendor_door (commands.BrokerOperate o) input h t status g is = said_door status (ends.Refused refusals.WrongKind) is.0 refl
vendor_door _ input h t status g is = said_door status ends.BadWords is.0 refl

pub door_answer : (Obeys : Command → List ℕ → History → ℕ → Status → History → Type 0) (told : List ℕ) (h : History) (t : ℕ) (status : Status) (g : History)
    → ((c : Command) (input : List ℕ) → Obeys c input h t status g → IsTrue (is_doors (number_of status)))
    → EndsBy Obeys told h t status g → IsAnswer (answer_of status) (number_of status) (line_of status)
door_answer Obeys told h t status g obeys (inl none) = record { of_door = said_door status ends.NoMemory none.0 refl; is = refl }
door_answer Obeys told h t status g obeys (inr (inl bad)) = record { of_door = said_door status ends.BadWords bad.0 refl; is = refl }
door_answer Obeys told h t status g obeys (inr (inr is)) = record { of_door = obeys is.0 is.1 is.3; is = refl }
