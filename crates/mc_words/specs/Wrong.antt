-- The word of bad words that is wrong.
use Rattle.std.specs.Prelude.{◌≡◌, ℕ, ◌+◌, ◌<◌, ◌≤◌, List, length, take, Option, Some, None, slice_get}
use Rattle.clap.specs.Walk.{Text}
use Rattle.command_table.specs.declared.table.CommandName.{CommandName}
use Rattle.mc_words.specs.declared.wrong.WrongWord.{WrongWord}
use Rattle.mc_words.specs.declared.wrong.WrongWord.TheVariants.{Word, Place}
use Rattle.command_table.specs.Beginning.{MayBegin}
use Rattle.command_table.specs.Secrets.{ReadSecrets}

-- The words of a command may begin with these.
abbrev pub GoOn : List Text → Type 0
GoOn words = (name : CommandName) × MayBegin name words

-- The first word that no command could have there, given the words before; or each could be there.
abbrev pub IsFirstWrong : List Text → Option ℕ → Type 0
IsFirstWrong words (Some n) = (n < length words) × (GoOn (take (n + 1) words) → ⊥) × ((m : ℕ) → m < n → GoOn (take (m + 1) words))
IsFirstWrong words None = (m : ℕ) → m < length words → GoOn (take (m + 1) words)

-- Of the wrong word at this place its text is shown; but behind the name of a command that reads secrets, one of which may
-- stand anywhere by mistake, its place is told, counted from 1.
abbrev pub IsShown : List Text → ℕ → WrongWord → Type 0
IsShown words n (Word word) = (2 ≤ n → ReadSecrets words → ⊥) × (slice_get words n ≡ Some word.now)
IsShown words n (Place place) = (2 ≤ n) × ReadSecrets words × (place ≡ n + 1)

-- what is told of words: which is the first that is wrong, where one is
abbrev pub IsToldOf : List Text → Option WrongWord → Type 0
IsToldOf words None = IsFirstWrong words None
IsToldOf words (Some shown) = (n : ℕ) × IsFirstWrong words (Some n) × IsShown words n shown
