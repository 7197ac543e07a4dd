-- An operator's command as bytes, and where it ends.
use Rattle.std.specs.Prelude.{◌≡◌, ◌⊎◌, ℕ, ◌+◌, ◌<◌, ◌≤◌, List, length, Option, Some, None, decimal}
use Rattle.mc_fields.specs.Cuts.{cut}

-- A first line without its end: the decimal of how many bytes the input has, a space, and the words.
pub record TellsInput (line : List ℕ) (input : ℕ) : Type 0 where
  pub words : List ℕ
  pub parts : cut 32 line ≡ Some (decimal input, words)
  pub few : input ≤ 131073

-- The bytes begin with a first line and its end, and behind it are these.
pub record HasLine (bytes line behind : List ℕ) : Type 0 where
  pub ends : cut 10 bytes ≡ Some (line, behind)
  pub short : length line < 8192

-- The first n bytes are a command whole: the first line, its end, and the input.
pub record HasCommand (bytes : List ℕ) (n : ℕ) : Type 0 where
  pub line : List ℕ
  pub behind : List ℕ
  pub input : ℕ
  pub first : HasLine bytes line behind
  pub tells : TellsInput line input
  pub there : input ≤ length behind
  pub size : n ≡ length line + 1 + input

-- The first line is there, and not all of the input.
pub record LacksInput (bytes : List ℕ) : Type 0 where
  pub line : List ℕ
  pub behind : List ℕ
  pub input : ℕ
  pub first : HasLine bytes line behind
  pub tells : TellsInput line input
  pub lacks : length behind < input

-- The first line has no end yet, and may have one.
pub record LacksLine (bytes : List ℕ) : Type 0 where
  pub none : cut 10 bytes ≡ None
  pub short : length bytes < 8192

-- No command is whole yet.
abbrev pub IsPart : List ℕ → Type 0
IsPart bytes = LacksLine bytes ⊎ LacksInput bytes
