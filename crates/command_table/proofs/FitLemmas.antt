-- What is found of some words of a command may become values of its parameters exactly where each word spells one.
use Rattle.std.proofs.Common.{◌≡◌, ◌∙◌, ◌<◌, not, Bool, true, false, List, [], ◌∷◌, ◌++◌, length, Option, Some, None, refl, sym, subst, ap, arith, codes, option_map}
use Rattle.std.specs.Prelude.{IfSome, IsTrue, ◌↔◌, slice_get}
use Rattle.std.specs.List.{AllByRecursion, list_all}
use Rattle.std.specs.Option.{option_map_or}
use Rattle.std.specs.Str.{bytes_eq}
use Rattle.std.proofs.lemmas.Slice.Eq.{bytes_eq-Decides}
use Rattle.std.proofs.lemmas.List.{length-append}
use Rattle.clap.specs.Walk.{Row, Rule, Text}
use Rattle.clap.proofs.WalkLemmas.{both}
use Rattle.command_words.specs.Arguments.{has_flag, value_of, values_of}
use Rattle.command_table.specs.declared.parameter.Parameter.{Parameter}
use Rattle.command_table.specs.declared.parameter.Shape.{Shape}
use Rattle.command_table.specs.declared.parameter.Shape.TheVariants.{One, Places, Setting, Flag}
use Rattle.command_table.specs.declared.parameter.Sort.{Sort}
use Rattle.command_table.specs.declared.parameter.Sort.TheVariants as sorts
use Rattle.command_table.specs.declared.table.CommandName.{CommandName}
use Rattle.command_table.specs.Beginning.{IsKept, MayBecome}
use Rattle.command_table.specs.Parameters.{is_range, name_of, rule_for, shape_of}
use Rattle.command_table.specs.Ranges.{IsPathOrAddress}
use Rattle.command_table.specs.Table.{form_of, rules}
use Rattle.command_table.specs.Values.{AreFound, EachMayBe, HaveValues, IsFound, IsOf, MayBe, Spells, ValueOf, ValuesOf, rules_of, spelled}
use Rattle.command_table.proofs.OneLemmas.{all_ranges, range_of}
use Rattle.command_table.proofs.Samples.{a_connect, a_listen, a_name, a_place, a_secret, a_socket, a_target, are_secrets, is_secret, kept_at, kept_word, row_of, same_kept, word_at, words_of}
use Rattle.command_table.proofs.SpellLemmas.{filled, option_in, spelled_in}
use Rattle.command_table.proofs.TableLemmas.{all_distinct, are_distinct}

-- ---- rows by their names

-- the row of a name is found by it
here_value : (name : Text) (words : List Text) (others : List Row) → value_of (row_of name words ∷ others) name ≡ slice_get words 0
here_value name words others = rw ((bytes_eq-Decides name name).1 refl) refl

here_values : (name : Text) (words : List Text) (others : List Row) → values_of (row_of name words ∷ others) name ≡ Some words
here_values name words others = rw ((bytes_eq-Decides name name).1 refl) refl

-- and by no other
other_value : (row : Row) (rows : List Row) (name : Text) → bytes_eq row.id name ≡ false → value_of (row ∷ rows) name ≡ value_of rows name
other_value row rows name other = rw other refl

other_values : (row : Row) (rows : List Row) (name : Text) → bytes_eq row.id name ≡ false → values_of (row ∷ rows) name ≡ values_of rows name
other_values row rows name other = rw other refl

-- ---- a value of one parameter

sample : (sort : Sort) → is_range (One sort) ≡ true → (value : Spells sort) × IsOf sort value
sample sorts.Place range = (codes "a", a_place)
sample sorts.Listen range = (codes "a:1", a_listen)
sample sorts.Connect range = (codes "a:1", a_connect)
sample sorts.Socket range = (codes "/a", a_socket)
sample sorts.Name range = (codes "a", a_name)
sample sorts.Target range = (codes "/", a_target)
sample sorts.Contents range = ([], omega arith)
sample sorts.Secret range = (a_secret, is_secret)
sample sorts.Secrets range = (a_secret ∷ [], are_secrets)
sample (sorts.Number least most) range = (least, record { least' = omega arith; most' = (range_of least most range).0 })

-- words of books with one behind them
places_filled : (found : Option (List Text)) → IfSome found (AllByRecursion IsPathOrAddress)
    → (books : List Text) × (0 < length books) × AllByRecursion IsPathOrAddress books × IfSome found (λ some. (more : List Text) × (Some books ≡ Some (some ++ more)))
places_filled None are = (codes "a" ∷ [], omega arith, (a_place, tt), tt)
places_filled (Some books) are = (books ++ codes "a" ∷ [], omega (arith, length-append books (codes "a" ∷ [])), all_both books (codes "a" ∷ []) are (a_place, tt), (codes "a" ∷ [], refl))
  where
    all_both : (xs ys : List Text) → AllByRecursion IsPathOrAddress xs → AllByRecursion IsPathOrAddress ys → AllByRecursion IsPathOrAddress (xs ++ ys)
    all_both [] ys a b = b
    all_both (x ∷ xs) ys a b = (a.0, all_both xs ys a.1 b)

-- words that stand first in those of books
places_kept : (found whole : Option (List Text)) (books : List Text) → whole ≡ Some books → AllByRecursion IsPathOrAddress books → IfSome found (λ some. (more : List Text) × (whole ≡ Some (some ++ more)))
    → IfSome found (AllByRecursion IsPathOrAddress)
places_kept None whole books e are kept = tt
places_kept (Some some) whole books e are kept = all_first some kept.0 (subst (AllByRecursion IsPathOrAddress) (let both : Some books ≡ Some (some ++ kept.0) = sym e ∙ kept.1 in cc) are)
  where
    all_first : (xs ys : List Text) → AllByRecursion IsPathOrAddress (xs ++ ys) → AllByRecursion IsPathOrAddress xs
    all_first [] ys a = tt
    all_first (x ∷ xs) ys a = (a.0, all_first xs ys a.1)

same_first : (found whole other : Option (List Text)) → whole ≡ other → IfSome found (λ some. (more : List Text) × (whole ≡ Some (some ++ more))) → IfSome found (λ some. (more : List Text) × (other ≡ Some (some ++ more)))
same_first found whole other e = subst (λ (o : Option (List Text)). IfSome found (λ some. (more : List Text) × (o ≡ Some (some ++ more)))) e

-- the words of a parameter with those that are there, and their value
record Filled (rows : List Row) (name : Text) (shape : Shape) : Type 0 where
  words : List Text
  value : ValueOf shape
  found' : (others : List Row) → IsFound (row_of name words ∷ others) name shape value
  kept : (others : List Row) → IsKept (rule_for name shape).action (rule_for name shape).id rows (row_of name words ∷ others)

fill : (rows : List Row) (name : Text) (shape : Shape) → is_range shape ≡ true → MayBe rows name shape → Filled rows name shape
fill rows name (One sort) range may =
    let it = filled (value_of rows name) (IsOf sort) (spelled sort) (sample sort range).0 (sample sort range).1 may in
    let words : List Text = spelled sort it.0 ∷ [] in
    record {
      words = words;
      value = it.0;
      found' = λ others. (it.1, here_value name words others);
      kept = λ others. same_kept (value_of rows name) (Some (spelled sort it.0)) _ (sym (here_value name words others)) it.2;
    }
fill rows name Places range may =
    let it = places_filled (values_of rows name) may in
    record {
      words = it.0;
      value = it.0;
      found' = λ others. (it.1, it.2, here_values name it.0 others);
      kept = λ others. same_first (values_of rows name) (Some it.0) _ (sym (here_values name it.0 others)) it.3;
    }
fill rows name (Setting sort) range may =
    let words = words_of (option_map (spelled sort) may.0) in
    record {
      words = words;
      value = may.0;
      found' = λ others. (may.1, here_value name words others ∙ word_at (option_map (spelled sort) may.0));
      kept = λ others. same_kept (value_of rows name) (slice_get words 0) _ (sym (here_value name words others)) (kept_at (value_of rows name) (IsOf sort) (spelled sort) may);
    }
fill rows name Flag range may =
    let words = words_of (value_of rows name) in
    record {
      words = words;
      value = has_flag rows name;
      found' = λ others. ap (λ (word : Option Text). option_map_or (λ text. bytes_eq text (codes "true")) word false) (here_value name words others ∙ word_at (value_of rows name));
      kept = λ others. same_kept (value_of rows name) (slice_get words 0) _ (sym (here_value name words others)) (kept_word (value_of rows name));
    }

-- ---- with the row of another parameter

found_behind : (row : Row) (rows : List Row) (name : Text) (shape : Shape) (value : ValueOf shape) → bytes_eq row.id name ≡ false → IsFound rows name shape value → IsFound (row ∷ rows) name shape value
found_behind row rows name (One sort) value other is = (is.0, other_value row rows name other ∙ is.1)
found_behind row rows name Places value other is = (is.0, is.1, other_values row rows name other ∙ is.2)
found_behind row rows name (Setting sort) value other is = (is.0, other_value row rows name other ∙ is.1)
found_behind row rows name Flag value other is = ap (λ (word : Option Text). option_map_or (λ text. bytes_eq text (codes "true")) word false) (other_value row rows name other) ∙ is

kept_behind : (rows : List Row) (row : Row) (whole : List Row) (name : Text) (shape : Shape) → bytes_eq row.id name ≡ false
    → IsKept (rule_for name shape).action (rule_for name shape).id rows whole → IsKept (rule_for name shape).action (rule_for name shape).id rows (row ∷ whole)
kept_behind rows row whole name (One sort) other kept = same_kept (value_of rows name) _ _ (sym (other_value row whole name other)) kept
kept_behind rows row whole name Places other kept = same_first (values_of rows name) _ _ (sym (other_values row whole name other)) kept
kept_behind rows row whole name (Setting sort) other kept = same_kept (value_of rows name) _ _ (sym (other_value row whole name other)) kept
kept_behind rows row whole name Flag other kept = same_kept (value_of rows name) _ _ (sym (other_value row whole name other)) kept

-- another name than those of some parameters
abbrev IsOther : Text → List Parameter → Bool
IsOther name parameters = list_all (λ other. not (bytes_eq name (name_of other))) parameters

not_same : (b : Bool) → not b ≡ true → b ≡ false
not_same true e = absurd (cc e)
not_same false e = refl

abbrev AreKept : List Row → List Row → List Parameter → Type 0
AreKept rows whole parameters = AllByRecursion (λ (rule : Rule). IsKept rule.action rule.id rows whole) (rules_of parameters)

all_found_behind : (row : Row) (rows : List Row) (parameters : List Parameter) (values : ValuesOf parameters) → IsOther row.id parameters ≡ true → AreFound rows parameters values
    → AreFound (row ∷ rows) parameters values
all_found_behind row rows [] values other are = tt
all_found_behind row rows (parameter ∷ parameters) values other are =
    let each = both (not (bytes_eq row.id (name_of parameter))) (IsOther row.id parameters) other in (
      found_behind row rows (name_of parameter) (shape_of parameter) values.0 (not_same _ each.0) are.0,
      all_found_behind row rows parameters values.1 each.1 are.1,
    )

all_kept_behind : (rows : List Row) (row : Row) (whole : List Row) (parameters : List Parameter) → IsOther row.id parameters ≡ true → AreKept rows whole parameters → AreKept rows (row ∷ whole) parameters
all_kept_behind rows row whole [] other are = tt
all_kept_behind rows row whole (parameter ∷ parameters) other are =
    let each = both (not (bytes_eq row.id (name_of parameter))) (IsOther row.id parameters) other in (
      kept_behind rows row whole (name_of parameter) (shape_of parameter) (not_same _ each.0) are.0,
      all_kept_behind rows row whole parameters each.1 are.1,
    )

-- ---- all parameters

fill_all : (rows : List Row) (parameters : List Parameter) → are_distinct parameters ≡ true → EachMayBe rows parameters → MayBecome (rules_of parameters) (HaveValues parameters) rows
fill_all rows [] distinct may = record { whole = []; finds = (tt, tt); kept = tt }
fill_all rows (parameter ∷ parameters) distinct may =
    let each = both (IsOther (name_of parameter) parameters) (are_distinct parameters) distinct in
    let first = fill rows (name_of parameter) (shape_of parameter) (all_ranges parameter) may.0 in
    let others = fill_all rows parameters each.1 may.1 in
    let row = row_of (name_of parameter) first.words in
    record {
      whole = row ∷ others.whole;
      finds = ((first.value, others.finds.0), (first.found' others.whole, all_found_behind row others.whole parameters others.finds.0 each.0 others.finds.1));
      kept = (first.kept others.whole, all_kept_behind rows row others.whole parameters each.0 others.kept);
    }

spells : (rows whole : List Row) (name : Text) (shape : Shape) (value : ValueOf shape) → IsFound whole name shape value → IsKept (rule_for name shape).action (rule_for name shape).id rows whole → MayBe rows name shape
spells rows whole name (One sort) value is kept = spelled_in (value_of rows name) (value_of whole name) (IsOf sort) (spelled sort) value is.0 is.1 kept
spells rows whole name Places value is kept = places_kept (values_of rows name) (values_of whole name) value is.2 is.1 kept
spells rows whole name (Setting sort) value is kept = option_in (value_of rows name) (value_of whole name) (IsOf sort) (spelled sort) value is.0 is.1 kept
spells rows whole name Flag value is kept = tt

all_spell : (rows whole : List Row) (parameters : List Parameter) (values : ValuesOf parameters) → AreFound whole parameters values → AreKept rows whole parameters → EachMayBe rows parameters
all_spell rows whole [] values are kept = tt
all_spell rows whole (parameter ∷ parameters) values are kept =
    (spells rows whole (name_of parameter) (shape_of parameter) values.0 are.0 kept.0, all_spell rows whole parameters values.1 are.1 kept.1)

-- what was found may become values of a command exactly where each word spells one
pub fits_iff : (name : CommandName) (rows : List Row) (b : Bool) → (IsTrue b ↔ EachMayBe rows (form_of name).parameters)
    → IsTrue b ↔ MayBecome (rules (form_of name)) (HaveValues (form_of name).parameters) rows
fits_iff name rows b each = (
  λ t. fill_all rows (form_of name).parameters (all_distinct name) (each.0 t),
  λ may. each.1 (all_spell rows may.whole (form_of name).parameters may.finds.0 may.finds.1 may.kept),
)
