-- The bytes of a command that is told at a door, and of its answer.
use Rattle.std.specs.Prelude.{◌≡◌, ◌⊎◌, ℕ, ◌==◌, ◌&&◌, ◌||◌, Bool, true, false, not, nat_le, IsTrue, List, [], ◌∷◌, ◌++◌, length, take, drop, flat_map, Option, Some, None, codes, decimal, bytes_eq, if◌then◌else◌}
use Rattle.std.specs.List.{list_all, slice_split}
use Rattle.std.specs.Str.{IsUtf8}
use Rattle.mc_fields.specs.Cuts.{cut, then_cut}

-- ---- what is told

-- The line of the words and the input: what stands before the first end of a line, behind its first space, and what stands behind
-- it; where the number of the bytes behind it stands before that space.
abbrev pub told_parts : List ℕ → Option (List ℕ × List ℕ)
told_parts told =
    then_cut (cut 10 told) λ head input.
    then_cut (cut 32 head) λ number line.
    if bytes_eq (decimal (length input)) number then Some (line, input) else None

-- the words of a line, which is cut at each space
abbrev pub words_of : List ℕ → List (List ℕ)
words_of line = slice_split (λ byte. byte == 32) line

-- the bytes tell these words and this input
pub record IsTold (told : List ℕ) (words : List (List ℕ)) (input : List ℕ) : Type 0 where
  pub line : List ℕ
  pub parts : told_parts told ≡ Some (line, input)
  pub words' : words ≡ words_of line

-- one of the words is no text
pub record HasNoText (words : List (List ℕ)) : Type 0 where
  pub front : List (List ℕ)
  pub word : List ℕ
  pub back : List (List ℕ)
  pub stands : words ≡ front ++ word ∷ back
  pub none : IsUtf8 word → ⊥

-- a word was appended, where it is a text
abbrev pub Pushes : Bool → List ℕ → List (List ℕ) → List (List ℕ) → Type 0
Pushes true word before after = after ≡ before ++ word ∷ []
Pushes false word before after = IsUtf8 word → ⊥

-- they tell no words
abbrev pub TellsNoWords : List ℕ → Type 0
TellsNoWords told = (told_parts told ≡ None) ⊎ ((words : List (List ℕ)) × (input : List ℕ) × IsTold told words input × HasNoText words)

-- ---- what a client tells

-- the third word, which names the book or the door, is told as a hyphen
abbrev pub with_dash : List (List ℕ) → List (List ℕ)
with_dash words = take 2 words ++ codes "-" ∷ drop 3 words

-- a word has no space and no end of a line
abbrev pub is_plain : List ℕ → Bool
is_plain word = list_all (λ c. not (c == 32) && not (c == 10)) word

-- there are three words or more, and each but the third is so
abbrev pub are_plain : List (List ℕ) → Bool
are_plain words = nat_le 3 (length words) && (list_all is_plain (take 2 words) && list_all is_plain (drop 3 words))

-- each word behind a space
abbrev pub spaced : List (List ℕ) → List ℕ
spaced words = flat_map (λ word. 32 ∷ word) words

-- how many bytes the input has, the words, and the input behind the end of their line
abbrev pub told_of : List (List ℕ) → List ℕ → List ℕ
told_of words input = decimal (length input) ++ spaced words ++ codes "\n" ++ input

-- ---- what is answered

-- the number of a status, how many bytes its line has, and the line
abbrev pub answer_text : ℕ → List ℕ → List ℕ
answer_text number line = decimal number ++ codes " " ++ decimal (length line) ++ codes "\n" ++ line

-- the status of a command that was done at a door, of no command, of a fault of the disk, of want of memory, and of a refusal
abbrev pub is_doors : ℕ → Bool
is_doors number = number == 0 || (number == 2 || (number == 4 || (number == 5 || number == 7)))

-- the number and the line of an answer, where the number of the bytes of its line stands before it
abbrev pub answer_parts : List ℕ → Option (List ℕ × List ℕ)
answer_parts bytes =
    then_cut (cut 10 bytes) λ head line.
    then_cut (cut 32 head) λ number len.
    if bytes_eq (decimal (length line)) len then Some (number, line) else None

-- the bytes are the answer of such a status, with this line
pub record IsAnswer (bytes : List ℕ) (number : ℕ) (line : List ℕ) : Type 0 where
  pub of_door : IsTrue (is_doors number)
  pub is : bytes ≡ answer_text number line
