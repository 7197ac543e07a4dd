-- Lists of words of which it is computed whether `clap` takes them, and what it finds in them.
use Rattle.std.proofs.Common.{◌≡◌, Bool, true, false, refl, codes, List, [], ◌∷◌, Option, Some, None, option_map}
use Rattle.clap.specs.Walk.{Rule, Text}
use Rattle.clap.proofs.OnLiterals.{clap_on_literals}
use Rattle.command_words.specs.Arguments.{command, flag, found, has_flag, is_exact, positional, positionals, value, value_of, values_of}

-- a command `BOOK NAME [--keep SECONDS] [--clear]`
abbrev init_rules : List Rule
init_rules = positional (codes "BOOK") ∷ positional (codes "NAME") ∷ value (codes "keep") ∷ flag (codes "clear") ∷ []

-- its book, its name, its keeping time, and whether it is clear
abbrev Init : Type 0
Init = Option Text × (Option Text × (Option Text × Bool))

abbrev init : List Text → Option Init
init words = option_map (λ rows. (value_of rows (codes "BOOK"), (value_of rows (codes "NAME"), (value_of rows (codes "keep"), has_flag rows (codes "clear"))))) (found init_rules words)

abbrev given : Text → Text → Option Text → Bool → Option Init
given book name keep clear = Some (Some book, (Some name, (keep, clear)))

-- a command `BOOK.. [--json]`
abbrev report_rules : List Rule
report_rules = positionals (codes "BOOK") ∷ flag (codes "json") ∷ []

-- its books, and whether it is JSON
abbrev report : List Text → Option (Option (List Text) × Bool)
report words = option_map (λ rows. (values_of rows (codes "BOOK"), has_flag rows (codes "json"))) (found report_rules words)

-- ---- of which commands the promise is exact

init_exact : is_exact init_rules ≡ true
unfolding clap_on_literals found command is_exact
init_exact = refl

report_exact : is_exact report_rules ≡ true
unfolding clap_on_literals found command is_exact
report_exact = refl

several_before_one : is_exact (positionals (codes "BOOK") ∷ positional (codes "NAME") ∷ []) ≡ false
unfolding clap_on_literals found command is_exact
several_before_one = refl

-- ---- positional words

plain : init (codes "b" ∷ codes "n" ∷ []) ≡ given (codes "b") (codes "n") None false
unfolding clap_on_literals found command is_exact
plain = refl

too_many : init (codes "b" ∷ codes "n" ∷ codes "x" ∷ []) ≡ None
unfolding clap_on_literals found command is_exact
too_many = refl

too_few : init (codes "b" ∷ []) ≡ None
unfolding clap_on_literals found command is_exact
too_few = refl

none_at_all : init [] ≡ None
unfolding clap_on_literals found command is_exact
none_at_all = refl

empty_words : init (codes "" ∷ codes "" ∷ []) ≡ given (codes "") (codes "") None false
unfolding clap_on_literals found command is_exact
empty_words = refl

empty_word_too_many : init (codes "b" ∷ codes "n" ∷ codes "" ∷ []) ≡ None
unfolding clap_on_literals found command is_exact
empty_word_too_many = refl

the_word_help : init (codes "help" ∷ codes "n" ∷ []) ≡ given (codes "help") (codes "n") None false
unfolding clap_on_literals found command is_exact
the_word_help = refl

one_hyphen : init (codes "-" ∷ codes "n" ∷ []) ≡ given (codes "-") (codes "n") None false
unfolding clap_on_literals found command is_exact
one_hyphen = refl

word_with_hyphen : init (codes "-x" ∷ codes "n" ∷ []) ≡ None
unfolding clap_on_literals found command is_exact
word_with_hyphen = refl

negative_number : init (codes "b" ∷ codes "-5" ∷ []) ≡ None
unfolding clap_on_literals found command is_exact
negative_number = refl

positional_as_option : init (codes "--BOOK" ∷ codes "b" ∷ codes "n" ∷ []) ≡ None
unfolding clap_on_literals found command is_exact
positional_as_option = refl

-- ---- an option with a value

keep_last : init (codes "b" ∷ codes "n" ∷ codes "--keep" ∷ codes "60" ∷ []) ≡ given (codes "b") (codes "n") (Some (codes "60")) false
unfolding clap_on_literals found command is_exact
keep_last = refl

keep_first : init (codes "--keep" ∷ codes "60" ∷ codes "b" ∷ codes "n" ∷ []) ≡ given (codes "b") (codes "n") (Some (codes "60")) false
unfolding clap_on_literals found command is_exact
keep_first = refl

keep_between : init (codes "b" ∷ codes "--keep" ∷ codes "60" ∷ codes "n" ∷ []) ≡ given (codes "b") (codes "n") (Some (codes "60")) false
unfolding clap_on_literals found command is_exact
keep_between = refl

keep_attached : init (codes "b" ∷ codes "n" ∷ codes "--keep=60" ∷ []) ≡ given (codes "b") (codes "n") (Some (codes "60")) false
unfolding clap_on_literals found command is_exact
keep_attached = refl

keep_both_ways : found init_rules (codes "b" ∷ codes "n" ∷ codes "--keep=60" ∷ []) ≡ found init_rules (codes "b" ∷ codes "n" ∷ codes "--keep" ∷ codes "60" ∷ [])
unfolding clap_on_literals found command is_exact
keep_both_ways = refl

keep_twice : init (codes "b" ∷ codes "n" ∷ codes "--keep" ∷ codes "60" ∷ codes "--keep" ∷ codes "60" ∷ []) ≡ None
unfolding clap_on_literals found command is_exact
keep_twice = refl

keep_twice_attached : init (codes "b" ∷ codes "n" ∷ codes "--keep=60" ∷ codes "--keep=61" ∷ []) ≡ None
unfolding clap_on_literals found command is_exact
keep_twice_attached = refl

keep_twice_apart : init (codes "--keep" ∷ codes "60" ∷ codes "b" ∷ codes "n" ∷ codes "--keep=60" ∷ []) ≡ None
unfolding clap_on_literals found command is_exact
keep_twice_apart = refl

keep_of_nothing : init (codes "b" ∷ codes "n" ∷ codes "--keep" ∷ []) ≡ None
unfolding clap_on_literals found command is_exact
keep_of_nothing = refl

keep_before_flag : init (codes "b" ∷ codes "n" ∷ codes "--keep" ∷ codes "--clear" ∷ []) ≡ None
unfolding clap_on_literals found command is_exact
keep_before_flag = refl

keep_before_hyphens : init (codes "b" ∷ codes "n" ∷ codes "--keep" ∷ codes "--" ∷ []) ≡ None
unfolding clap_on_literals found command is_exact
keep_before_hyphens = refl

keep_empty : init (codes "b" ∷ codes "n" ∷ codes "--keep=" ∷ []) ≡ given (codes "b") (codes "n") (Some (codes "")) false
unfolding clap_on_literals found command is_exact
keep_empty = refl

keep_empty_word : init (codes "b" ∷ codes "n" ∷ codes "--keep" ∷ codes "" ∷ []) ≡ given (codes "b") (codes "n") (Some (codes "")) false
unfolding clap_on_literals found command is_exact
keep_empty_word = refl

keep_negative : init (codes "b" ∷ codes "n" ∷ codes "--keep" ∷ codes "-5" ∷ []) ≡ None
unfolding clap_on_literals found command is_exact
keep_negative = refl

keep_negative_attached : init (codes "b" ∷ codes "n" ∷ codes "--keep=-5" ∷ []) ≡ given (codes "b") (codes "n") (Some (codes "-5")) false
unfolding clap_on_literals found command is_exact
keep_negative_attached = refl

keep_one_hyphen : init (codes "b" ∷ codes "n" ∷ codes "--keep" ∷ codes "-" ∷ []) ≡ given (codes "b") (codes "n") (Some (codes "-")) false
unfolding clap_on_literals found command is_exact
keep_one_hyphen = refl

keep_of_a_flag_attached : init (codes "b" ∷ codes "n" ∷ codes "--keep=--clear" ∷ []) ≡ given (codes "b") (codes "n") (Some (codes "--clear")) false
unfolding clap_on_literals found command is_exact
keep_of_a_flag_attached = refl

keep_attached_twice : init (codes "b" ∷ codes "n" ∷ codes "--keep==60" ∷ []) ≡ given (codes "b") (codes "n") (Some (codes "=60")) false
unfolding clap_on_literals found command is_exact
keep_attached_twice = refl

keep_takes_the_name : init (codes "b" ∷ codes "--keep" ∷ codes "n" ∷ []) ≡ None
unfolding clap_on_literals found command is_exact
keep_takes_the_name = refl

-- ---- a flag

clear_first : init (codes "--clear" ∷ codes "b" ∷ codes "n" ∷ []) ≡ given (codes "b") (codes "n") None true
unfolding clap_on_literals found command is_exact
clear_first = refl

clear_between : init (codes "b" ∷ codes "--clear" ∷ codes "n" ∷ []) ≡ given (codes "b") (codes "n") None true
unfolding clap_on_literals found command is_exact
clear_between = refl

clear_last : init (codes "b" ∷ codes "n" ∷ codes "--clear" ∷ []) ≡ given (codes "b") (codes "n") None true
unfolding clap_on_literals found command is_exact
clear_last = refl

clear_and_keep : init (codes "--clear" ∷ codes "b" ∷ codes "--keep" ∷ codes "60" ∷ codes "n" ∷ []) ≡ given (codes "b") (codes "n") (Some (codes "60")) true
unfolding clap_on_literals found command is_exact
clear_and_keep = refl

clear_twice : init (codes "b" ∷ codes "n" ∷ codes "--clear" ∷ codes "--clear" ∷ []) ≡ None
unfolding clap_on_literals found command is_exact
clear_twice = refl

clear_with_value : init (codes "b" ∷ codes "n" ∷ codes "--clear=true" ∷ []) ≡ None
unfolding clap_on_literals found command is_exact
clear_with_value = refl

clear_with_empty_value : init (codes "b" ∷ codes "n" ∷ codes "--clear=" ∷ []) ≡ None
unfolding clap_on_literals found command is_exact
clear_with_empty_value = refl

-- ---- two hyphens alone

hyphens_first : init (codes "--" ∷ codes "b" ∷ codes "n" ∷ []) ≡ given (codes "b") (codes "n") None false
unfolding clap_on_literals found command is_exact
hyphens_first = refl

hyphens_last : init (codes "b" ∷ codes "n" ∷ codes "--" ∷ []) ≡ given (codes "b") (codes "n") None false
unfolding clap_on_literals found command is_exact
hyphens_last = refl

hyphens_twice : init (codes "--" ∷ codes "--" ∷ codes "b" ∷ codes "n" ∷ []) ≡ None
unfolding clap_on_literals found command is_exact
hyphens_twice = refl

hyphens_as_word : init (codes "--" ∷ codes "--" ∷ codes "n" ∷ []) ≡ given (codes "--") (codes "n") None false
unfolding clap_on_literals found command is_exact
hyphens_as_word = refl

word_with_hyphen_behind : init (codes "--" ∷ codes "-x" ∷ codes "n" ∷ []) ≡ given (codes "-x") (codes "n") None false
unfolding clap_on_literals found command is_exact
word_with_hyphen_behind = refl

flag_behind : init (codes "b" ∷ codes "n" ∷ codes "--" ∷ codes "--clear" ∷ []) ≡ None
unfolding clap_on_literals found command is_exact
flag_behind = refl

option_behind : init (codes "b" ∷ codes "--" ∷ codes "--keep" ∷ []) ≡ given (codes "b") (codes "--keep") None false
unfolding clap_on_literals found command is_exact
option_behind = refl

-- ---- any other word

help : init (codes "--help" ∷ []) ≡ None
unfolding clap_on_literals found command is_exact
help = refl

help_behind : init (codes "b" ∷ codes "n" ∷ codes "--help" ∷ []) ≡ None
unfolding clap_on_literals found command is_exact
help_behind = refl

short_help : init (codes "b" ∷ codes "n" ∷ codes "-h" ∷ []) ≡ None
unfolding clap_on_literals found command is_exact
short_help = refl

version : init (codes "b" ∷ codes "n" ∷ codes "--version" ∷ []) ≡ None
unfolding clap_on_literals found command is_exact
version = refl

short_version : init (codes "b" ∷ codes "n" ∷ codes "-V" ∷ []) ≡ None
unfolding clap_on_literals found command is_exact
short_version = refl

keep_cut : init (codes "b" ∷ codes "n" ∷ codes "--kee" ∷ codes "60" ∷ []) ≡ None
unfolding clap_on_literals found command is_exact
keep_cut = refl

keep_in_capitals : init (codes "b" ∷ codes "n" ∷ codes "--KEEP" ∷ codes "60" ∷ []) ≡ None
unfolding clap_on_literals found command is_exact
keep_in_capitals = refl

no_name : init (codes "b" ∷ codes "n" ∷ codes "--=60" ∷ []) ≡ None
unfolding clap_on_literals found command is_exact
no_name = refl

three_hyphens : init (codes "b" ∷ codes "n" ∷ codes "---keep=60" ∷ []) ≡ None
unfolding clap_on_literals found command is_exact
three_hyphens = refl

keep_with_one_hyphen : init (codes "b" ∷ codes "n" ∷ codes "-keep" ∷ codes "60" ∷ []) ≡ None
unfolding clap_on_literals found command is_exact
keep_with_one_hyphen = refl

-- ---- several words

json_last : report (codes "a" ∷ codes "b" ∷ codes "--json" ∷ []) ≡ Some (Some (codes "a" ∷ codes "b" ∷ []), true)
unfolding clap_on_literals found command is_exact
json_last = refl

json_first : report (codes "--json" ∷ codes "a" ∷ codes "b" ∷ []) ≡ Some (Some (codes "a" ∷ codes "b" ∷ []), true)
unfolding clap_on_literals found command is_exact
json_first = refl

json_between : report (codes "a" ∷ codes "--json" ∷ codes "b" ∷ []) ≡ Some (Some (codes "a" ∷ codes "b" ∷ []), true)
unfolding clap_on_literals found command is_exact
json_between = refl

no_json : report (codes "b" ∷ codes "a" ∷ []) ≡ Some (Some (codes "b" ∷ codes "a" ∷ []), false)
unfolding clap_on_literals found command is_exact
no_json = refl

json_behind : report (codes "a" ∷ codes "--" ∷ codes "--json" ∷ []) ≡ Some (Some (codes "a" ∷ codes "--json" ∷ []), false)
unfolding clap_on_literals found command is_exact
json_behind = refl

json_twice : report (codes "a" ∷ codes "--json" ∷ codes "--json" ∷ []) ≡ None
unfolding clap_on_literals found command is_exact
json_twice = refl

no_book : report (codes "--json" ∷ []) ≡ None
unfolding clap_on_literals found command is_exact
no_book = refl

empty_books : report (codes "" ∷ codes "" ∷ []) ≡ Some (Some (codes "" ∷ codes "" ∷ []), false)
unfolding clap_on_literals found command is_exact
empty_books = refl
