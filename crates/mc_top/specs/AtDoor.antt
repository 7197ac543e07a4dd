-- What the program does by the words of an operator's command, which it tells at the door of the site that is served.
use Rattle.std.specs.Prelude.{◌≡◌, ◌⊎◌, ℕ, ◌<◌, Bool, false, IsTrue, List, length, take, slice_get, Option, Some, None}
use Rattle.mc_outside.specs.DiskView.{DiskView, LinkKeeps}
use Rattle.mc_outside.specs.LinkView.{LinkView, next_taken, none_left, after_send, after_recv, Failed}
use Rattle.millicent_http.specs.Courses.{NoLink}
use Rattle.millicent_http.specs.Inputs.{TakesInput, LosesInput, Receives}
use Rattle.command_status.specs.Statuses.{line_of}
use Rattle.command_status.specs.declared.status.Status.TheVariants as ends
use Rattle.mc_words.specs.declared.command.Command.{Command}
use Rattle.mc_words.specs.declared.command.Command.TheVariants as commands
use Rattle.mc_words.specs.Commands.{AreWords}
use Rattle.site_words.specs.Commands.{book_of, broker_book_of}
use Rattle.vendor_commands.specs.Operations.{operation_view}
use Rattle.broker_commands.specs.Operations as brokers
use Rattle.door_wire.specs.Wire.{IsAnswer, are_plain, told_of, with_dash}
use Rattle.mc_top.specs.Saying.{Says}
use Rattle.mc_top.specs.Programs.{answered}
use Rattle.mc_top.specs.declared.at_door.TheConstants.{MOST_ANSWER}

-- where a command for a door is told, and the most bytes of its input; None of every other command
abbrev pub place_of : Command → Option (List ℕ)
place_of (commands.Operate operation) = Some (book_of operation)
place_of (commands.BrokerOperate operation) = Some (broker_book_of operation)
place_of _ = None

abbrev pub limit_of : Command → Option (Option ℕ)
limit_of (commands.Operate operation) = Some (operation_view operation).input
limit_of (commands.BrokerOperate operation) = Some (brokers.operation_view operation).input
limit_of _ = None

-- The words of this command can be told: it is one for a door, which reads so much, the third word names the door, and none of the
-- others has a space or an end of a line.
pub record CanBeTold (words : List (List ℕ)) (command : Command) (most : Option ℕ) : Type 0 where
  pub limit : limit_of command ≡ Some most
  pub place : slice_get words 2 ≡ place_of command
  pub plain : IsTrue (are_plain words)

-- the words are of a command that can be told
abbrev pub AreForDoor : List (List ℕ) → Option ℕ → Type 0
AreForDoor words most = (command : Command) × AreWords words command × CanBeTold words command most

-- they are of none
abbrev pub AreForNoDoor : List (List ℕ) → Type 0
AreForNoDoor words = (most : Option ℕ) → AreForDoor words most → ⊥

-- the site's answer was received, up to the link's end or to so many bytes: these bytes
pub record IsHeard (told answer : List ℕ) (up now_up : LinkView) : Type 0 where
  pub n : ℕ
  pub read : LinkView
  pub heard : Receives MOST_ANSWER (after_send told (next_taken up)) n answer read
  pub ended : now_up ≡ record read { stands = false }

-- sending failed on this link, or receiving
abbrev pub IsLost : List ℕ → LinkView → LinkView → Type 0
IsLost told before after =
    ((n : ℕ) × (n < length told) × Failed (after_send (take n told) before) after) ⊎ ((got : List ℕ) × Failed (after_recv got (after_send told before)) after)

-- no link came, or none could be taken; or it was lost; or what came on it is no answer
abbrev pub IsUnanswered : List ℕ → LinkView → LinkView → Type 0
IsUnanswered told up now_up =
    (now_up ≡ none_left up)
    ⊎ (NoLink up now_up
    ⊎ (((lost : LinkView) × (now_up ≡ record lost { stands = false }) × IsLost told (next_taken up) lost)
    ⊎ ((answer : List ℕ) × IsHeard told answer up now_up × ((number : ℕ) (line : List ℕ) → IsAnswer answer number line → ⊥))))

-- What came of a command that was told: its answer has this number and this line; or there is none, and what was told may have been
-- done or not (6).
abbrev pub AsksDoor : List ℕ → LinkView → LinkView → ℕ → List ℕ → Type 0
AsksDoor told up now_up number line =
    ((answer : List ℕ) × IsHeard told answer up now_up × IsAnswer answer number line) ⊎ ((number ≡ 6) × (line ≡ line_of ends.LinkFault) × IsUnanswered told up now_up)

-- The input was lost (6), or memory was refused (5), and the door was left alone; or the command was told with its input.
abbrev pub TellsDoor : {O : Type 0} → (O → LinkView) → (O → DiskView) → List (List ℕ) → Option ℕ → O → LinkView → ℕ → List ℕ → O → LinkView → Type 0
TellsDoor link disk words most a up number line b now_up =
    LinkKeeps (disk a) (disk b)
    × (((number ≡ 6) × (line ≡ line_of ends.LinkFault) × LosesInput most (link a) (link b) × (now_up ≡ up))
    ⊎ (((number ≡ 5) × (line ≡ line_of ends.NoMemory) × (now_up ≡ up))
    ⊎ ((input : List ℕ) × TakesInput most (link a) input (link b) × AsksDoor (told_of (with_dash words) input) up now_up number line)))

-- Then the line was said, or saying it failed, and the number tells which.
pub record EndsAtDoor {O : Type 0} (link : O → LinkView) (disk : O → DiskView) (words : List (List ℕ)) (most : Option ℕ) (a : O) (up : LinkView) (status : ℕ) (c : O) (now_up : LinkView) : Type 0 where
  pub number : ℕ
  pub line : List ℕ
  pub b : O
  pub told : TellsDoor link disk words most a up number line b now_up
  pub whole : Bool
  pub said : Says line whole (link b) (link c)
  pub keeps : LinkKeeps (disk b) (disk c)
  pub status' : status ≡ answered whole number
