-- Lists of words of which it is computed whether they are read as a command's, and what is found.
use Rattle.std.proofs.Common.{◌≡◌, Bool, true, false, refl, codes, List, [], ◌∷◌, Option, Some, None, is_some, option_map}
use Rattle.clap.specs.Walk.{Text}
use Rattle.clap.proofs.OnLiterals.{clap_on_literals}
use Rattle.command_words.specs.Arguments.{command, found, has_flag, value_of, values_of}
use Rattle.command_table.specs.Table.{form_of, rules}
use Rattle.command_table.specs.declared.table.CommandName.{CommandName}
use Rattle.command_table.specs.declared.table.CommandName.TheVariants as names

-- of the words behind `vendor init`: the book, the name, the customers' secrets, the keeping time, and whether it
-- is clear
abbrev Init : Type 0
Init = Option Text × (Option Text × (Option Text × (Option Text × Bool)))

abbrev init : List Text → Option Init
init words = option_map (λ rows. (value_of rows (codes "BOOK"), (value_of rows (codes "NAME"), (value_of rows (codes "CUSTOMER"), (value_of rows (codes "keep"), has_flag rows (codes "clear"))))))
    (found (rules (form_of names.VendorInit)) words)

abbrev given : Text → Option Text → Bool → Option Init
given book keep clear = Some (Some book, (Some (codes "n"), (Some (codes "c"), (keep, clear))))

-- of those behind `audit report`: the books, and whether it is JSON
abbrev report : List Text → Option (Option (List Text) × Bool)
report words = option_map (λ rows. (values_of rows (codes "BOOK"), has_flag rows (codes "json"))) (found (rules (form_of names.AuditReport)) words)

-- whether words are taken for the arguments of a command
abbrev taken : CommandName → List Text → Bool
taken name words = is_some (found (rules (form_of name)) words)

-- ---- `vendor init`

plain : init (codes "b" ∷ codes "n" ∷ codes "4096" ∷ codes "0" ∷ codes "s" ∷ codes "c" ∷ []) ≡ given (codes "b") None false
unfolding clap_on_literals found command form_of
plain = refl

keep_last : init (codes "b" ∷ codes "n" ∷ codes "4096" ∷ codes "0" ∷ codes "s" ∷ codes "c" ∷ codes "--keep" ∷ codes "60" ∷ []) ≡ given (codes "b") (Some (codes "60")) false
unfolding clap_on_literals found command form_of
keep_last = refl

keep_attached : init (codes "b" ∷ codes "n" ∷ codes "4096" ∷ codes "0" ∷ codes "s" ∷ codes "c" ∷ codes "--keep=60" ∷ []) ≡ given (codes "b") (Some (codes "60")) false
unfolding clap_on_literals found command form_of
keep_attached = refl

keep_first : init (codes "--keep" ∷ codes "60" ∷ codes "b" ∷ codes "n" ∷ codes "4096" ∷ codes "0" ∷ codes "s" ∷ codes "c" ∷ []) ≡ given (codes "b") (Some (codes "60")) false
unfolding clap_on_literals found command form_of
keep_first = refl

options_between : init (codes "b" ∷ codes "n" ∷ codes "--keep" ∷ codes "60" ∷ codes "4096" ∷ codes "0" ∷ codes "--clear" ∷ codes "s" ∷ codes "c" ∷ []) ≡ given (codes "b") (Some (codes "60")) true
unfolding clap_on_literals found command form_of
options_between = refl

clear_first : init (codes "--clear" ∷ codes "b" ∷ codes "n" ∷ codes "4096" ∷ codes "0" ∷ codes "s" ∷ codes "c" ∷ []) ≡ given (codes "b") None true
unfolding clap_on_literals found command form_of
clear_first = refl

keep_twice : init (codes "b" ∷ codes "n" ∷ codes "4096" ∷ codes "0" ∷ codes "s" ∷ codes "c" ∷ codes "--keep" ∷ codes "60" ∷ codes "--keep" ∷ codes "60" ∷ []) ≡ None
unfolding clap_on_literals found command form_of
keep_twice = refl

keep_twice_attached : init (codes "b" ∷ codes "n" ∷ codes "4096" ∷ codes "0" ∷ codes "s" ∷ codes "c" ∷ codes "--keep=60" ∷ codes "--keep=61" ∷ []) ≡ None
unfolding clap_on_literals found command form_of
keep_twice_attached = refl

clear_twice : init (codes "b" ∷ codes "n" ∷ codes "4096" ∷ codes "0" ∷ codes "s" ∷ codes "c" ∷ codes "--clear" ∷ codes "--clear" ∷ []) ≡ None
unfolding clap_on_literals found command form_of
clear_twice = refl

keep_of_nothing : init (codes "b" ∷ codes "n" ∷ codes "4096" ∷ codes "0" ∷ codes "s" ∷ codes "c" ∷ codes "--keep" ∷ []) ≡ None
unfolding clap_on_literals found command form_of
keep_of_nothing = refl

keep_before_flag : init (codes "b" ∷ codes "n" ∷ codes "4096" ∷ codes "0" ∷ codes "s" ∷ codes "c" ∷ codes "--keep" ∷ codes "--clear" ∷ []) ≡ None
unfolding clap_on_literals found command form_of
keep_before_flag = refl

keep_before_hyphens : init (codes "b" ∷ codes "n" ∷ codes "4096" ∷ codes "0" ∷ codes "s" ∷ codes "c" ∷ codes "--keep" ∷ codes "--" ∷ []) ≡ None
unfolding clap_on_literals found command form_of
keep_before_hyphens = refl

keep_empty : init (codes "b" ∷ codes "n" ∷ codes "4096" ∷ codes "0" ∷ codes "s" ∷ codes "c" ∷ codes "--keep=" ∷ []) ≡ given (codes "b") (Some (codes "")) false
unfolding clap_on_literals found command form_of
keep_empty = refl

keep_empty_word : init (codes "b" ∷ codes "n" ∷ codes "4096" ∷ codes "0" ∷ codes "s" ∷ codes "c" ∷ codes "--keep" ∷ codes "" ∷ []) ≡ given (codes "b") (Some (codes "")) false
unfolding clap_on_literals found command form_of
keep_empty_word = refl

keep_negative : init (codes "b" ∷ codes "n" ∷ codes "4096" ∷ codes "0" ∷ codes "s" ∷ codes "c" ∷ codes "--keep" ∷ codes "-5" ∷ []) ≡ None
unfolding clap_on_literals found command form_of
keep_negative = refl

keep_negative_attached : init (codes "b" ∷ codes "n" ∷ codes "4096" ∷ codes "0" ∷ codes "s" ∷ codes "c" ∷ codes "--keep=-5" ∷ []) ≡ given (codes "b") (Some (codes "-5")) false
unfolding clap_on_literals found command form_of
keep_negative_attached = refl

clear_with_value : init (codes "b" ∷ codes "n" ∷ codes "4096" ∷ codes "0" ∷ codes "s" ∷ codes "c" ∷ codes "--clear=true" ∷ []) ≡ None
unfolding clap_on_literals found command form_of
clear_with_value = refl

clear_with_empty_value : init (codes "b" ∷ codes "n" ∷ codes "4096" ∷ codes "0" ∷ codes "s" ∷ codes "c" ∷ codes "--clear=" ∷ []) ≡ None
unfolding clap_on_literals found command form_of
clear_with_empty_value = refl

keep_cut : init (codes "b" ∷ codes "n" ∷ codes "4096" ∷ codes "0" ∷ codes "s" ∷ codes "c" ∷ codes "--kee" ∷ codes "60" ∷ []) ≡ None
unfolding clap_on_literals found command form_of
keep_cut = refl

keep_in_capitals : init (codes "b" ∷ codes "n" ∷ codes "4096" ∷ codes "0" ∷ codes "s" ∷ codes "c" ∷ codes "--KEEP" ∷ codes "60" ∷ []) ≡ None
unfolding clap_on_literals found command form_of
keep_in_capitals = refl

keep_with_one_hyphen : init (codes "b" ∷ codes "n" ∷ codes "4096" ∷ codes "0" ∷ codes "s" ∷ codes "c" ∷ codes "-keep" ∷ codes "60" ∷ []) ≡ None
unfolding clap_on_literals found command form_of
keep_with_one_hyphen = refl

book_as_option : init (codes "--BOOK" ∷ codes "b" ∷ codes "n" ∷ codes "4096" ∷ codes "0" ∷ codes "s" ∷ codes "c" ∷ []) ≡ None
unfolding clap_on_literals found command form_of
book_as_option = refl

help_alone : init (codes "--help" ∷ []) ≡ None
unfolding clap_on_literals found command form_of
help_alone = refl

help_behind : init (codes "b" ∷ codes "n" ∷ codes "4096" ∷ codes "0" ∷ codes "s" ∷ codes "c" ∷ codes "--help" ∷ []) ≡ None
unfolding clap_on_literals found command form_of
help_behind = refl

short_help : init (codes "b" ∷ codes "n" ∷ codes "4096" ∷ codes "0" ∷ codes "s" ∷ codes "c" ∷ codes "-h" ∷ []) ≡ None
unfolding clap_on_literals found command form_of
short_help = refl

version_behind : init (codes "b" ∷ codes "n" ∷ codes "4096" ∷ codes "0" ∷ codes "s" ∷ codes "c" ∷ codes "--version" ∷ []) ≡ None
unfolding clap_on_literals found command form_of
version_behind = refl

help_as_book : init (codes "help" ∷ codes "n" ∷ codes "4096" ∷ codes "0" ∷ codes "s" ∷ codes "c" ∷ []) ≡ given (codes "help") None false
unfolding clap_on_literals found command form_of
help_as_book = refl

book_with_hyphen : init (codes "-x" ∷ codes "n" ∷ codes "4096" ∷ codes "0" ∷ codes "s" ∷ codes "c" ∷ []) ≡ None
unfolding clap_on_literals found command form_of
book_with_hyphen = refl

book_with_hyphen_behind : init (codes "--" ∷ codes "-x" ∷ codes "n" ∷ codes "4096" ∷ codes "0" ∷ codes "s" ∷ codes "c" ∷ []) ≡ given (codes "-x") None false
unfolding clap_on_literals found command form_of
book_with_hyphen_behind = refl

one_hyphen_as_book : init (codes "-" ∷ codes "n" ∷ codes "4096" ∷ codes "0" ∷ codes "s" ∷ codes "c" ∷ []) ≡ given (codes "-") None false
unfolding clap_on_literals found command form_of
one_hyphen_as_book = refl

hyphens_first : init (codes "--" ∷ codes "b" ∷ codes "n" ∷ codes "4096" ∷ codes "0" ∷ codes "s" ∷ codes "c" ∷ []) ≡ given (codes "b") None false
unfolding clap_on_literals found command form_of
hyphens_first = refl

hyphens_last : init (codes "b" ∷ codes "n" ∷ codes "4096" ∷ codes "0" ∷ codes "s" ∷ codes "c" ∷ codes "--" ∷ []) ≡ given (codes "b") None false
unfolding clap_on_literals found command form_of
hyphens_last = refl

hyphens_twice : init (codes "--" ∷ codes "--" ∷ codes "b" ∷ codes "n" ∷ codes "4096" ∷ codes "0" ∷ codes "s" ∷ codes "c" ∷ []) ≡ None
unfolding clap_on_literals found command form_of
hyphens_twice = refl

clear_behind_hyphens : init (codes "b" ∷ codes "n" ∷ codes "4096" ∷ codes "0" ∷ codes "s" ∷ codes "c" ∷ codes "--" ∷ codes "--clear" ∷ []) ≡ None
unfolding clap_on_literals found command form_of
clear_behind_hyphens = refl

empty_book : init (codes "" ∷ codes "n" ∷ codes "4096" ∷ codes "0" ∷ codes "s" ∷ codes "c" ∷ []) ≡ given (codes "") None false
unfolding clap_on_literals found command form_of
empty_book = refl

negative_period : init (codes "b" ∷ codes "n" ∷ codes "-5" ∷ codes "0" ∷ codes "s" ∷ codes "c" ∷ []) ≡ None
unfolding clap_on_literals found command form_of
negative_period = refl

too_few : init (codes "b" ∷ codes "n" ∷ codes "4096" ∷ codes "0" ∷ codes "s" ∷ []) ≡ None
unfolding clap_on_literals found command form_of
too_few = refl

too_many : init (codes "b" ∷ codes "n" ∷ codes "4096" ∷ codes "0" ∷ codes "s" ∷ codes "c" ∷ codes "x" ∷ []) ≡ None
unfolding clap_on_literals found command form_of
too_many = refl

no_words : init ([]) ≡ None
unfolding clap_on_literals found command form_of
no_words = refl

-- ---- `audit report`

json_last : report (codes "a" ∷ codes "b" ∷ codes "--json" ∷ []) ≡ Some (Some (codes "a" ∷ codes "b" ∷ []), true)
unfolding clap_on_literals found command form_of
json_last = refl

json_first : report (codes "--json" ∷ codes "a" ∷ codes "b" ∷ []) ≡ Some (Some (codes "a" ∷ codes "b" ∷ []), true)
unfolding clap_on_literals found command form_of
json_first = refl

json_between : report (codes "a" ∷ codes "--json" ∷ codes "b" ∷ []) ≡ Some (Some (codes "a" ∷ codes "b" ∷ []), true)
unfolding clap_on_literals found command form_of
json_between = refl

json_behind : report (codes "a" ∷ codes "--" ∷ codes "--json" ∷ []) ≡ Some (Some (codes "a" ∷ codes "--json" ∷ []), false)
unfolding clap_on_literals found command form_of
json_behind = refl

json_twice : report (codes "a" ∷ codes "--json" ∷ codes "--json" ∷ []) ≡ None
unfolding clap_on_literals found command form_of
json_twice = refl

json_alone : report (codes "--json" ∷ []) ≡ None
unfolding clap_on_literals found command form_of
json_alone = refl

-- ---- commands have their own options, and their own numbers of words

goods_kind : taken names.VendorGoods (codes "b" ∷ codes "/a" ∷ codes "25" ∷ codes "--kind=2" ∷ []) ≡ true
unfolding clap_on_literals found command form_of
goods_kind = refl

price_kind : taken names.VendorPrice (codes "b" ∷ codes "/a" ∷ codes "25" ∷ codes "--kind" ∷ codes "2" ∷ []) ≡ false
unfolding clap_on_literals found command form_of
price_kind = refl

price_plain : taken names.VendorPrice (codes "b" ∷ codes "/a" ∷ codes "25" ∷ []) ≡ true
unfolding clap_on_literals found command form_of
price_plain = refl

licence_keep : taken names.VendorLicence (codes "b" ∷ codes "1" ∷ codes "4096" ∷ codes "0" ∷ codes "s" ∷ codes "c" ∷ codes "--keep" ∷ codes "60" ∷ []) ≡ false
unfolding clap_on_literals found command form_of
licence_keep = refl

mint_three : taken names.VendorMint (codes "b" ∷ codes "2" ∷ codes "50" ∷ []) ≡ false
unfolding clap_on_literals found command form_of
mint_three = refl

once_four : taken names.VendorOnce (codes "n" ∷ codes "/a" ∷ codes "25" ∷ codes "s" ∷ []) ≡ false
unfolding clap_on_literals found command form_of
once_four = refl

play_plain : taken names.VendorPlay (codes "1000" ∷ []) ≡ true
unfolding clap_on_literals found command form_of
play_plain = refl

broker_init_plain : taken names.BrokerInit (codes "b" ∷ codes "n" ∷ codes "4096" ∷ codes "0" ∷ codes "s" ∷ codes "c" ∷ codes "1" ∷ codes "--clear" ∷ []) ≡ true
unfolding clap_on_literals found command form_of
broker_init_plain = refl

broker_init_no_fee : taken names.BrokerInit (codes "b" ∷ codes "n" ∷ codes "4096" ∷ codes "0" ∷ codes "s" ∷ codes "c" ∷ codes "--clear" ∷ []) ≡ false
unfolding clap_on_literals found command form_of
broker_init_no_fee = refl

-- the life and the fee, of the words behind `broker init`
abbrev broker_init : List Text → Option (Option Text × Option Text)
broker_init words = option_map (λ rows. (value_of rows (codes "LIFE"), value_of rows (codes "FEE"))) (found (rules (form_of names.BrokerInit)) words)

broker_init_fee : broker_init (codes "b" ∷ codes "n" ∷ codes "4096" ∷ codes "0" ∷ codes "s" ∷ codes "c" ∷ codes "1" ∷ []) ≡ Some (Some (codes "0"), Some (codes "1"))
unfolding clap_on_literals found command form_of
broker_init_fee = refl

account_two : taken names.BrokerAccount (codes "b" ∷ codes "a" ∷ []) ≡ false
unfolding clap_on_literals found command form_of
account_two = refl

deposit_plain : taken names.BrokerDeposit (codes "b" ∷ codes "a" ∷ codes "5" ∷ codes "r" ∷ []) ≡ true
unfolding clap_on_literals found command form_of
deposit_plain = refl

withdraw_three : taken names.BrokerWithdraw (codes "b" ∷ codes "a" ∷ codes "5" ∷ []) ≡ false
unfolding clap_on_literals found command form_of
withdraw_three = refl

balance_keep : taken names.BrokerBalance (codes "b" ∷ codes "a" ∷ codes "--keep=60" ∷ []) ≡ false
unfolding clap_on_literals found command form_of
balance_keep = refl

broker_licence_two : taken names.BrokerLicence (codes "b" ∷ codes "v" ∷ []) ≡ false
unfolding clap_on_literals found command form_of
broker_licence_two = refl

stock_plain : taken names.BrokerStock (codes "b" ∷ codes "v" ∷ []) ≡ true
unfolding clap_on_literals found command form_of
stock_plain = refl

broker_serve_plain : taken names.BrokerServe (codes "b" ∷ codes "127.0.0.1:0" ∷ codes "1" ∷ []) ≡ true
unfolding clap_on_literals found command form_of
broker_serve_plain = refl
