-- How the words of a command may begin.
use Rattle.std.proofs.Common.{◌≡◌, ◌⊎◌, ◌&&◌, Bool, Bor, not, is_some, drop, option_map, ap₂, true, false, List, [], ◌∷◌, ◌++◌, map, Option, Some, None, refl, sym, subst, ap, ◌∙◌}
use Rattle.std.specs.Prelude.{IsTrue, ◌↔◌, codes}
use Rattle.std.specs.List.{list_any}
use Rattle.std.specs.Str.{bytes_eq}
use Rattle.std.proofs.lemmas.List.{map-append, same_from_push}
use Rattle.clap.specs.Walk.{Row, Rule, Text}
use Rattle.command_words.specs.Arguments.{found, optional, value_of}
use Rattle.command_table.specs.declared.table.CommandName.{CommandName}
use Rattle.command_table.specs.Table.{form_of, rules}
use Rattle.command_table.specs.Values.{HaveValues}
use Rattle.command_table.specs.Beginning.{AreTaken, EndInOption, LackValue, MayBecome, MayBegin, is_option}
use Rattle.command_table.proofs.SpellLemmas.{and_iff}

-- ---- words behind the name of a command

-- words are taken in one way
pub taken_once : (rules : List Rule) (Finds : List Row → Type 0) (words : List Text) (rows : List Row) → Some rows ≡ found (map optional rules) words → (taken : AreTaken rules Finds words) → taken.rows ≡ rows
taken_once rules Finds words rows e taken = let same : Some taken.rows ≡ Some rows = sym taken.found' ∙ sym e in cc

pub taken_by : (rules : List Rule) (Finds : List Row → Type 0) (words : List Text) (rows : List Row) (b : Bool) → Some rows ≡ found (map optional rules) words → (IsTrue b ↔ MayBecome rules Finds rows) → IsTrue b ↔ AreTaken rules Finds words
taken_by rules Finds words rows b e fits = (
  λ t. record { rows = rows; found' = sym e; may = fits.0 t },
  λ taken. fits.1 (subst (MayBecome rules Finds) (taken_once rules Finds words rows e taken) taken.may),
)

-- ---- an option at the end

-- the words before the last one, and the last one
pub last_is : {A : Type 0} (f : A → Text) (words front : List A) (last : A) → words ≡ front ++ last ∷ [] → map f words ≡ map f front ++ f last ∷ []
last_is f words front last e = ap (map f) e ∙ map-append f front (last ∷ [])

-- they are in one way
pub end_once : (rules : List Rule) (words front other : List Text) (last name : Text) → words ≡ front ++ last ∷ [] → EndInOption rules words other name → (other ≡ front) × (codes "--" ++ name ≡ last)
end_once rules words front other last name e end = same_from_push other front (codes "--" ++ name) last (sym end.words' ∙ e)

pub name_once : (name other : Text) → codes "--" ++ other ≡ codes "--" ++ name → other ≡ name
name_once name other e = ap (drop 2) e

pub ended : (rules : List Rule) (words front : List Text) (last name option : Text) → words ≡ front ++ last ∷ [] → last ≡ codes "--" ++ name → option ≡ name → list_any (is_option name) rules ≡ true
    → list_any (λ word. bytes_eq word (codes "--")) front ≡ false → EndInOption rules words front option
ended rules words front last name option e is same named without = record {
  words' = e ∙ ap (λ (w : Text). front ++ w ∷ []) (is ∙ ap (λ (n : Text). codes "--" ++ n) (sym same));
  option = rw same named;
  open' = without;
}

pub no_end_hyphens : (rules : List Rule) (words front : List Text) (last : Text) → words ≡ front ++ last ∷ [] → list_any (λ word. bytes_eq word (codes "--")) front ≡ true
    → (other : List Text) (name : Text) → EndInOption rules words other name → ⊥
no_end_hyphens rules words front last e has other name end =
    let same = end_once rules words front other last name e end in
    let without : list_any (λ word. bytes_eq word (codes "--")) front ≡ false = subst (λ (f : List Text). list_any (λ word. bytes_eq word (codes "--")) f ≡ false) same.0 end.open' in
    let both : true ≡ false = sym has ∙ without in
    cc

pub none_iff : (r : Option (Bor Text)) (word : Option Text) (b : Bool) → option_map (λ (s : Bor Text). s.now) r ≡ word → is_some r ≡ not b → IsTrue b ↔ (word ≡ None)
none_iff None word true e is = (λ t. sym e, λ none. refl)
none_iff None word false e is = absurd (cc is)
none_iff (Some x) word true e is = absurd (cc is)
none_iff (Some x) word false e is = (λ t. absurd (cc t), λ none. absurd (let both : Some x.now ≡ None = e ∙ none in cc))

-- the option's value lacks
pub lack_by : (given rules : List Rule) (Finds : List Row → Type 0) (words front : List Text) (name : Text) (rows : List Row) (fits absent : Bool) (r : Option (Bor Text)) → given ≡ rules
    → EndInOption given words front name → Some rows ≡ found (map optional rules) front → (IsTrue fits ↔ MayBecome rules Finds rows)
    → option_map (λ (s : Bor Text). s.now) r ≡ value_of rows name → is_some r ≡ not absent → IsTrue (fits && absent) ↔ LackValue rules Finds words
lack_by given rules Finds words front name rows fits absent r same end taken is_fit value is = (
  λ t. let p = each.0 t in record {
    front = front;
    name = name;
    end' = subst (λ (x : List Rule). EndInOption x words front name) same end;
    taken = record { rows = rows; found' = sym taken; may = p.0 };
    once = p.1;
  },
  λ lack. let one = end_once rules words front lack.front (codes "--" ++ name) lack.name end.words' lack.end' in
      back lack.front lack.name one.0 (name_once name lack.name one.1) lack.taken lack.once,
)
  where
    each : IsTrue (fits && absent) ↔ (MayBecome rules Finds rows × (value_of rows name ≡ None))
    each = and_iff fits absent is_fit (none_iff r (value_of rows name) absent value is)

    back : (other : List Text) (option : Text) → other ≡ front → option ≡ name → (may : AreTaken rules Finds other) → value_of may.rows option ≡ None → IsTrue (fits && absent)
    back other option is_front is_name may once =
        let e : Some rows ≡ found (map optional rules) other = taken ∙ ap (λ (f : List Text). found (map optional rules) f) (sym is_front) in
        let one : may.rows ≡ rows = taken_once rules Finds other rows e may in
        let none : value_of rows name ≡ None = sym (ap₂ (λ (x : List Row) (n : Text). value_of x n) one is_name) ∙ once in
        each.1 (subst (MayBecome rules Finds) one may.may, none)

-- ---- the role and the name

pub name_begins : (name : CommandName) (words behind : List Text) (role command : Text) (b : Bool) → words ≡ role ∷ command ∷ behind → role ≡ (form_of name).role → command ≡ (form_of name).name
    → (IsTrue b ↔ (AreTaken (rules (form_of name)) (HaveValues (form_of name).parameters) behind ⊎ LackValue (rules (form_of name)) (HaveValues (form_of name).parameters) behind)) → IsTrue b ↔ MayBegin name words
name_begins name words behind role command b e is_role is_name may = (
  λ t. subst (MayBegin name) (sym e) (is_role, is_name, may.0 t),
  λ begins. may.1 (subst (MayBegin name) e begins).2,
)
