-- The words that ask for help are no command's.
use Rattle.std.proofs.Common.{◌≡◌, ◌∙◌, ◌<◌, ◌≤◌, Bool, true, false, refl, sym, ap, ap₂, arith, codes, get_or, length, map, List, [], ◌∷◌, Option, Some, None, IfSome}
use Rattle.std.specs.Str.{bytes_eq}
use Rattle.std.proofs.lemmas.Slice.Eq.{bytes_eq-Decides}
use Rattle.clap.specs.Walk.{Text}
use Rattle.clap.proofs.OnLiterals.{clap_on_literals}
use Rattle.command_words.specs.Arguments.{command, found}
use Rattle.command_table.specs.declared.table.CommandName.{CommandName}
use Rattle.command_table.specs.declared.table.CommandName.TheVariants as names
use Rattle.command_table.specs.Table.{form_of, rules}
use Rattle.command_help.specs.Asking.{AreOfNone}

-- ---- each row

-- none has the role `help`
pub no_role : (name : CommandName) → bytes_eq (form_of name).role (codes "help") ≡ false
unfolding form_of
no_role names.VendorInit = refl
no_role _ = refl

-- none is called `help`, `--help` or `-h`
pub no_name : (name : CommandName) → bytes_eq (form_of name).name (codes "help") ≡ false
unfolding form_of
no_name names.VendorInit = refl
no_name _ = refl

pub no_long_name : (name : CommandName) → bytes_eq (form_of name).name (codes "--help") ≡ false
unfolding form_of
no_long_name names.VendorInit = refl
no_long_name _ = refl

pub no_short_name : (name : CommandName) → bytes_eq (form_of name).name (codes "-h") ≡ false
unfolding form_of
no_short_name names.VendorInit = refl
no_short_name _ = refl

-- behind the name of none `clap` takes the one word `--help`, or `-h`
pub long_refused : (name : CommandName) → found (rules (form_of name)) (codes "--help" ∷ []) ≡ None
unfolding clap_on_literals found command form_of
long_refused names.VendorInit = refl
long_refused _ = refl

pub short_refused : (name : CommandName) → found (rules (form_of name)) (codes "-h" ∷ []) ≡ None
unfolding clap_on_literals found command form_of
short_refused names.VendorInit = refl
short_refused _ = refl

-- ---- words

-- the first is a role
pub first_help : (first : Text) (rest : List Text) → first ≡ codes "help" → AreOfNone (first ∷ rest)
first_help first rest is = λ name rows read.
    let e = read.words' in
    let role : (form_of name).role ≡ codes "help" = cc (e, is) in
    let yes = (bytes_eq-Decides (form_of name).role (codes "help")).1 role in
    let no = no_role name in
    absurd cc

-- the second is its name
pub second_is : (word first second : Text) (rest : List Text) → ((name : CommandName) → bytes_eq (form_of name).name word ≡ false) → second ≡ word → AreOfNone (first ∷ second ∷ rest)
second_is word first second rest none is = λ name rows read.
    let e = read.words' in
    let same : (form_of name).name ≡ word = cc (e, is) in
    let yes = (bytes_eq-Decides (form_of name).name word).1 same in
    let no = none name in
    absurd cc

pub second_help : (first second : Text) (rest : List Text) → second ≡ codes "help" → AreOfNone (first ∷ second ∷ rest)
second_help first second rest is = second_is (codes "help") first second rest no_name is

pub second_long : (first second : Text) (rest : List Text) → second ≡ codes "--help" → AreOfNone (first ∷ second ∷ rest)
second_long first second rest is = second_is (codes "--help") first second rest no_long_name is

pub second_short : (first second : Text) (rest : List Text) → second ≡ codes "-h" → AreOfNone (first ∷ second ∷ rest)
second_short first second rest is = second_is (codes "-h") first second rest no_short_name is

-- the third is one that `clap` takes
pub third_is : (word first second third : Text) → ((name : CommandName) → found (rules (form_of name)) (word ∷ []) ≡ None) → third ≡ word → AreOfNone (first ∷ second ∷ third ∷ [])
third_is word first second third none is = λ name rows read.
    let e = read.words' in
    let behind : word ∷ [] ≡ read.behind = cc (e, is) in
    let no : None ≡ Some rows = sym (none name) ∙ ap (found (rules (form_of name))) behind ∙ read.rows' in
    absurd cc

pub third_long : (first second third : Text) → third ≡ codes "--help" → AreOfNone (first ∷ second ∷ third ∷ [])
third_long first second third is = third_is (codes "--help") first second third long_refused is

pub third_short : (first second third : Text) → third ≡ codes "-h" → AreOfNone (first ∷ second ∷ third ∷ [])
third_short first second third is = third_is (codes "-h") first second third short_refused is

-- ---- what the code finds

-- a word is one with which it compares alike
pub is_word : (word other : Text) (b : Bool) → b ≡ bytes_eq word other → b ≡ true → word ≡ other
is_word word other b is t = (bytes_eq-Decides word other).0 (sym is ∙ t)

-- what holds anyway holds where there is a page
pub anyway : {A : Type 0} {X : Type 0} (page : Option A) → X → IfSome page (λ a. X)
anyway None x = tt
anyway (Some a) x = x

-- ---- two or three words of a list

pub two_words : {A : Type 0} (f : A → Text) (words : List A) (a b : A) → a ≡ get_or words 0 a → b ≡ get_or words 1 b → 2 ≤ length words → length words < 3 → map f words ≡ f a ∷ f b ∷ []
two_words f [] a b first second least most = absurd (omega (arith, least))
two_words f (x ∷ []) a b first second least most = absurd (omega (arith, least))
two_words f (x ∷ y ∷ []) a b first second least most =
    let one : a ≡ x = first in
    let two : b ≡ y = second in
    ap₂ (λ (u v : Text). u ∷ v ∷ []) (ap f (sym one)) (ap f (sym two))
two_words f (x ∷ y ∷ z ∷ words) a b first second least most = absurd (omega (arith, most))

pub three_words : {A : Type 0} (f : A → Text) (words : List A) (a b c : A) → a ≡ get_or words 0 a → b ≡ get_or words 1 b → c ≡ get_or words 2 c → 3 ≤ length words → length words < 4 → map f words ≡ f a ∷ f b ∷ f c ∷ []
three_words f [] a b c first second third least most = absurd (omega (arith, least))
three_words f (x ∷ []) a b c first second third least most = absurd (omega (arith, least))
three_words f (x ∷ y ∷ []) a b c first second third least most = absurd (omega (arith, least))
three_words f (x ∷ y ∷ z ∷ []) a b c first second third least most =
    let one : a ≡ x = first in
    let two : b ≡ y = second in
    let three : c ≡ z = third in
    ap₂ (λ (u : Text) (v : List Text). u ∷ v) (ap f (sym one)) (ap₂ (λ (u v : Text). u ∷ v ∷ []) (ap f (sym two)) (ap f (sym three)))
three_words f (x ∷ y ∷ z ∷ w ∷ words) a b c first second third least most = absurd (omega (arith, most))
