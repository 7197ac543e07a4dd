-- The words of a command spell one value of each parameter.
use Rattle.std.proofs.Common.{◌≡◌, ◌∙◌, ℕ, ◌≤◌, ◌&&◌, true, List, [], ◌∷◌, Option, Some, None, refl, sym, ap, arith}
use Rattle.std.specs.Prelude.{IfSome, nat_le, option_map}
use Rattle.std.proofs.lemmas.Bool.{leb-true}
use Rattle.std.proofs.lemmas.Fmt.{decimal_injective}
use Rattle.clap.specs.Walk.{Row, Text}
use Rattle.clap.proofs.WalkLemmas.{both}
use Rattle.command_table.specs.declared.parameter.Parameter.{Parameter}
use Rattle.command_table.specs.declared.parameter.Parameter.TheVariants as parameters
use Rattle.command_table.specs.declared.parameter.Shape.{Shape}
use Rattle.command_table.specs.declared.parameter.Shape.TheVariants.{One, Places, Setting, Flag}
use Rattle.command_table.specs.declared.parameter.Sort.{Sort}
use Rattle.command_table.specs.declared.parameter.Sort.TheVariants as sorts
use Rattle.command_table.specs.declared.table.CommandName.{CommandName}
use Rattle.command_table.specs.declared.value.TheConstants.{MOST_NUMBER}
use Rattle.command_table.specs.Parameters.{is_range, name_of, shape_of}
use Rattle.command_table.specs.Table.{AreOf, form_of}
use Rattle.command_table.specs.Values.{AreFound, IsFound, IsOf, Spells, ValueOf, ValuesOf, spelled}
use Rattle.command_table.proofs.SecretLemmas.{same_secret, same_secrets}
use Rattle.command_table.proofs.SpellLemmas.{one_range}
use Rattle.command_table.proofs.TableLemmas.{one_value, read_once}

-- the ranges of numbers hold one at least, and are those of words
pub all_ranges : (parameter : Parameter) → is_range (shape_of parameter) ≡ true
all_ranges parameters.Book = refl
all_ranges _ = refl

pub range_of : (least most : ℕ) → nat_le least most && nat_le most MOST_NUMBER ≡ true → (least ≤ most) × (most ≤ MOST_NUMBER)
range_of least most is = let each = both (nat_le least most) (nat_le most MOST_NUMBER) is in (leb-true least most each.0, leb-true most MOST_NUMBER each.1)

-- ---- one word

one_spelled : (sort : Sort) → is_range (One sort) ≡ true → (a b : Spells sort) → IsOf sort a → IsOf sort b → spelled sort a ≡ spelled sort b → a ≡ b
one_spelled sorts.Place range a b is_a is_b e = e
one_spelled sorts.Listen range a b is_a is_b e = e
one_spelled sorts.Connect range a b is_a is_b e = e
one_spelled sorts.Socket range a b is_a is_b e = e
one_spelled sorts.Name range a b is_a is_b e = e
one_spelled sorts.Target range a b is_a is_b e = e
one_spelled sorts.Contents range a b is_a is_b e = e
one_spelled sorts.Secret range a b is_a is_b e = same_secret a b is_a is_b e
one_spelled sorts.Secrets range a b is_a is_b e = same_secrets a b is_a.secrets' is_b.secrets' e
one_spelled (sorts.Number least most) range a b is_a is_b e =
    let small = (range_of least most range).1 in
    decimal_injective a b (omega (arith, is_a.most', small)) (omega (arith, is_b.most', small)) e

one_setting : (sort : Sort) → is_range (One sort) ≡ true → (found : Option Text) (a b : Option (Spells sort)) → IfSome a (IsOf sort) → IfSome b (IsOf sort)
    → found ≡ option_map (spelled sort) a → found ≡ option_map (spelled sort) b → a ≡ b
one_setting sort range found None None is_a is_b fa fb = refl
one_setting sort range found None (Some b) is_a is_b fa fb = absurd (let none : None ≡ Some (spelled sort b) = sym fa ∙ fb in cc)
one_setting sort range found (Some a) None is_a is_b fa fb = absurd (let none : None ≡ Some (spelled sort a) = sym fb ∙ fa in cc)
one_setting sort range found (Some a) (Some b) is_a is_b fa fb = ap Some (one_spelled sort range a b is_a is_b (one_value fa fb))

-- ---- the parameters of a command

one_found : (rows : List Row) (name : Text) (shape : Shape) → is_range shape ≡ true → (a b : ValueOf shape) → IsFound rows name shape a → IsFound rows name shape b → a ≡ b
one_found rows name (One sort) range a b fa fb = one_spelled sort range a b fa.0 fb.0 (one_value fa.1 fb.1)
one_found rows name Places range a b fa fb = one_value fa.2 fb.2
one_found rows name (Setting sort) range a b fa fb = one_setting sort (one_range sort range) _ a b fa.0 fb.0 fa.1 fb.1
one_found rows name Flag range a b fa fb = sym fa ∙ fb

-- one list of rows gives one value of each parameter
pub all_found_once : (rows : List Row) (parameters : List Parameter) (a b : ValuesOf parameters) → AreFound rows parameters a → AreFound rows parameters b → a ≡ b
all_found_once rows [] a b fa fb = refl
all_found_once rows (parameter ∷ parameters) a b fa fb =
    let first = one_found rows (name_of parameter) (shape_of parameter) (all_ranges parameter) a.0 b.0 fa.0 fb.0 in
    let others = all_found_once rows parameters a.1 b.1 fa.1 fb.1 in
    λ i. (first i, others i)

-- the words of a command spell one value of each
pub all_spelled_once : (name : CommandName) (words : List Text) (a b : ValuesOf (form_of name).parameters) → AreOf name words a → AreOf name words b → a ≡ b
all_spelled_once name words a b fa fb =
    all_found_once fa.rows (form_of name).parameters a b fa.found' (rw (read_once name words fa.rows fb.rows fa.read fb.read) at fb.found')
