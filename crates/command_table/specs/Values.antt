-- The values of parameters, their ranges, and what `clap` finds of them.
use Rattle.std.specs.Prelude.{◌≡◌, ℕ, ◌<◌, ◌≤◌, Bool, List, [], ◌∷◌, length, map, Option, Some, IfSome, option_map, decimal}
use Rattle.std.specs.List.{AllByRecursion}
use Rattle.hex.specs.Hex.{encode_lower}
use Rattle.clap.specs.Walk.{Row, Rule, Text}
use Rattle.mc_records.specs.declared.ranges.TheConstants.{MOST_CONTENTS}
use Rattle.scrip_form.specs.Scrip.{IsCert}
use Rattle.scrip_form.specs.Texts.{IsName, IsTarget}
use Rattle.command_words.specs.Arguments.{has_flag, value_of, values_of}
use Rattle.command_table.specs.declared.parameter.Parameter.{Parameter}
use Rattle.command_table.specs.declared.parameter.Shape.{Shape}
use Rattle.command_table.specs.declared.parameter.Shape.TheVariants.{One, Places, Setting, Flag}
use Rattle.command_table.specs.declared.parameter.Sort.{Sort}
use Rattle.command_table.specs.declared.parameter.Sort.TheVariants as sorts
use Rattle.command_table.specs.Parameters.{name_of, rule_of, shape_of}
use Rattle.command_table.specs.Ranges.{IsConnect, IsListen, IsPathOrAddress, IsSecretList, IsSocket, IsWithin, joined}

-- ---- one word

-- the values that words of a sort spell
abbrev pub Spells : Sort → Type 0
Spells sorts.Place = List ℕ
Spells sorts.Listen = List ℕ
Spells sorts.Connect = List ℕ
Spells sorts.Socket = List ℕ
Spells sorts.Name = List ℕ
Spells sorts.Target = List ℕ
Spells sorts.Contents = List ℕ
Spells sorts.Secret = List ℕ
Spells sorts.Secrets = List (List ℕ)
Spells (sorts.Number least most) = ℕ

-- their ranges
abbrev pub IsOf : (sort : Sort) → Spells sort → Type 0
IsOf sorts.Place word = IsPathOrAddress word
IsOf sorts.Listen word = IsListen word
IsOf sorts.Connect word = IsConnect word
IsOf sorts.Socket word = IsSocket word
IsOf sorts.Name word = IsName word
IsOf sorts.Target word = IsTarget word
IsOf sorts.Contents word = length word ≤ MOST_CONTENTS
IsOf sorts.Secret secret = IsCert secret
IsOf sorts.Secrets secrets = IsSecretList secrets
IsOf (sorts.Number least most) n = IsWithin least most n

-- their words
abbrev pub spelled : (sort : Sort) → Spells sort → Text
spelled sorts.Place word = word
spelled sorts.Listen word = word
spelled sorts.Connect word = word
spelled sorts.Socket word = word
spelled sorts.Name word = word
spelled sorts.Target word = word
spelled sorts.Contents word = word
spelled sorts.Secret secret = encode_lower secret
spelled sorts.Secrets secrets = joined secrets
spelled (sorts.Number least most) n = decimal n

-- ---- one parameter

-- a word's value, several books, the value of an option that may lack, or whether one is there
abbrev pub ValueOf : Shape → Type 0
ValueOf (One sort) = Spells sort
ValueOf Places = List Text
ValueOf (Setting sort) = Option (Spells sort)
ValueOf Flag = Bool

-- this is its value
abbrev pub IsFound : List Row → Text → (shape : Shape) → ValueOf shape → Type 0
IsFound rows name (One sort) value = IsOf sort value × (value_of rows name ≡ Some (spelled sort value))
IsFound rows name Places books = (0 < length books) × AllByRecursion IsPathOrAddress books × (values_of rows name ≡ Some books)
IsFound rows name (Setting sort) value = IfSome value (IsOf sort) × (value_of rows name ≡ option_map (spelled sort) value)
IsFound rows name Flag flag = has_flag rows name ≡ flag

-- ---- the parameters of a command

-- a value for each, in their order
abbrev pub ValuesOf : List Parameter → Type 0
ValuesOf [] = Unit {0}
ValuesOf (parameter ∷ parameters) = ValueOf (shape_of parameter) × ValuesOf parameters

-- these are their values
abbrev pub AreFound : List Row → (parameters : List Parameter) → ValuesOf parameters → Type 0
AreFound rows [] values = Unit {0}
AreFound rows (parameter ∷ parameters) values = IsFound rows (name_of parameter) (shape_of parameter) values.0 × AreFound rows parameters values.1

-- these rows have values of the parameters
abbrev pub HaveValues : List Parameter → List Row → Type 0
HaveValues parameters rows = (values : ValuesOf parameters) × AreFound rows parameters values

-- the rules of the parameters
abbrev pub rules_of : List Parameter → List Rule
rules_of = map rule_of

-- ---- words of which some lack

-- the word of a parameter spells a value in its range, or is not there
abbrev pub MaySpell : {X : Type 0} → Option Text → (X → Type 0) → (X → Text) → Type 0
MaySpell {X} word Is spelled = (value : Option X) × IfSome value Is × (word ≡ option_map spelled value)

-- what was found of a parameter may still become a value
abbrev pub MayBe : List Row → Text → Shape → Type 0
MayBe rows name (One sort) = MaySpell (value_of rows name) (IsOf sort) (spelled sort)
MayBe rows name Places = IfSome (values_of rows name) (AllByRecursion IsPathOrAddress)
MayBe rows name (Setting sort) = MaySpell (value_of rows name) (IsOf sort) (spelled sort)
MayBe rows name Flag = Unit {0}

-- and of each
abbrev pub EachMayBe : List Row → List Parameter → Type 0
EachMayBe rows [] = Unit {0}
EachMayBe rows (parameter ∷ parameters) = MayBe rows (name_of parameter) (shape_of parameter) × EachMayBe rows parameters
