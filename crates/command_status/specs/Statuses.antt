-- The statuses that the program ends with, and the line that is said with each.
use Rattle.std.specs.Prelude.{ℕ, List, [], ◌++◌, codes, decimal}
use Rattle.scrip_form.specs.Scrip.{id_digits}
use Rattle.mc_requests.specs.Refusals.{refusal_text}
use Rattle.command_status.specs.declared.status.Status.{Status}
use Rattle.command_status.specs.declared.status.Status.TheVariants.{Done, Served, Proxied, Founded, Did, BadWords, NotJournal, BadEntry, BadChain, UnlawfulEntry, DiskFault, NoMemory, LinkFault, Refused, Stranger}

abbrev pub number_of : Status → ℕ
number_of Done = 0
number_of (Served links) = 0
number_of (Proxied links paid) = 0
number_of (Founded name) = 0
number_of (Did line) = 0
number_of BadWords = 2
number_of NotJournal = 3
number_of (BadEntry place) = 3
number_of (BadChain place) = 3
number_of (UnlawfulEntry place) = 3
number_of DiskFault = 4
number_of NoMemory = 5
number_of LinkFault = 6
number_of (Refused refusal) = 7
number_of (Stranger name id) = 8

abbrev pub line_of : Status → List ℕ
line_of Done = []
line_of (Served links) = codes "served " ++ decimal links ++ codes "\n"
line_of (Proxied links paid) = codes "proxied " ++ decimal links ++ codes " " ++ decimal paid ++ codes "\n"
line_of (Founded name) = codes "founded " ++ name ++ codes "\n"
line_of (Did line) = line
line_of BadWords = codes "bad words\n"
line_of NotJournal = codes "not a journal\n"
line_of (BadEntry place) = codes "bad entry at " ++ decimal place ++ codes "\n"
line_of (BadChain place) = codes "bad chain at " ++ decimal place ++ codes "\n"
line_of (UnlawfulEntry place) = codes "unlawful entry at " ++ decimal place ++ codes "\n"
line_of DiskFault = codes "disk fault\n"
line_of NoMemory = codes "no memory\n"
line_of LinkFault = codes "link fault\n"
line_of (Refused refusal) = codes "refused " ++ refusal_text refusal ++ codes "\n"
line_of (Stranger name id) = codes "stranger " ++ name ++ codes " " ++ id_digits id ++ codes "\n"

-- the line of a status is made of it, where it brings none
abbrev pub IsMade : Status → Type 0
IsMade (Did line) = ⊥
IsMade _ = Unit {0}
