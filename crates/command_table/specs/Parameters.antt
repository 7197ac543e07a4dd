-- The parameters of commands: how each is called, how it is written, and what its words spell.
use Rattle.std.specs.Prelude.{◌&&◌, nat_le, Bool, true, false, codes}
use Rattle.clap.specs.Walk.{Rule, Text}
use Rattle.command_words.specs.Arguments.{flag, positional, positionals, value}
use Rattle.mc_base.specs.declared.amount.TheConstants.Amount.{MOST}
use Rattle.mc_base.specs.declared.moment.TheConstants.Moment.{LAST}
use Rattle.command_table.specs.declared.parameter.TheConstants.{LEAST_KEPT, LEAST_PERIOD, MOST_EPOCH, MOST_HEADS, MOST_ISSUER, MOST_KEPT, MOST_KIND, MOST_LINKS, MOST_MINTED, MOST_SECONDS}
use Rattle.command_table.specs.declared.parameter.Sort.TheVariants as sorts
use Rattle.command_table.specs.declared.parameter.Sort.TheVariants.{Number}
use Rattle.command_table.specs.declared.parameter.Shape.{Shape}
use Rattle.command_table.specs.declared.parameter.Shape.TheVariants.{One, Places, Setting, Flag}
use Rattle.command_table.specs.declared.parameter.Parameter.{Parameter}
use Rattle.command_table.specs.declared.parameter.Parameter.TheVariants as parameters
use Rattle.command_table.specs.declared.value.TheConstants.{MOST_NUMBER}

-- how a parameter is called: in capitals one that is a word, in small letters an option
abbrev pub name_of : Parameter → Text
name_of parameters.Book = codes "BOOK"
name_of parameters.Books = codes "BOOK"
name_of parameters.Name = codes "NAME"
name_of parameters.Period = codes "PERIOD"
name_of parameters.Life = codes "LIFE"
name_of parameters.Scrip = codes "SCRIP"
name_of parameters.Customer = codes "CUSTOMER"
name_of parameters.Fee = codes "FEE"
name_of parameters.Keep = codes "keep"
name_of parameters.Clear = codes "clear"
name_of parameters.Target = codes "TARGET"
name_of parameters.Price = codes "PRICE"
name_of parameters.Kind = codes "kind"
name_of parameters.Issuer = codes "ISSUER"
name_of parameters.AnyIssuer = codes "ISSUER"
name_of parameters.Epoch = codes "EPOCH"
name_of parameters.Pieces = codes "COUNT"
name_of parameters.Value = codes "VALUE"
name_of parameters.Reference = codes "REFERENCE"
name_of parameters.Listen = codes "LISTEN"
name_of parameters.Links = codes "LINKS"
name_of parameters.Door = codes "door"
name_of parameters.Secret = codes "SECRET"
name_of parameters.Contents = codes "CONTENTS"
name_of parameters.Heads = codes "COUNT"
name_of parameters.Account = codes "ACCOUNT"
name_of parameters.Key = codes "KEY"
name_of parameters.Amount = codes "AMOUNT"
name_of parameters.Vendor = codes "VENDOR"
name_of parameters.Broker = codes "BROKER"
name_of parameters.Peer = codes "PEER"
name_of parameters.Order = codes "ORDER"
name_of parameters.Connect = codes "CONNECT"
name_of parameters.Limit = codes "LIMIT"
name_of parameters.Budget = codes "BUDGET"
name_of parameters.Before = codes "BEFORE"
name_of parameters.Json = codes "json"

-- how the value of an option is called
abbrev pub value_name_of : Parameter → Text
value_name_of parameters.Keep = codes "S"
value_name_of parameters.Kind = codes "K"
value_name_of parameters.Door = codes "PATH"
value_name_of _ = codes "VALUE"

-- how it is written, and what its words spell
abbrev pub shape_of : Parameter → Shape
shape_of parameters.Book = One sorts.Place
shape_of parameters.Books = Places
shape_of parameters.Name = One sorts.Name
shape_of parameters.Period = One (Number LEAST_PERIOD MOST_SECONDS)
shape_of parameters.Life = One (Number 0 MOST_SECONDS)
shape_of parameters.Scrip = One sorts.Secrets
shape_of parameters.Customer = One sorts.Secrets
shape_of parameters.Fee = One (Number 0 MOST)
shape_of parameters.Keep = Setting (Number LEAST_KEPT MOST_KEPT)
shape_of parameters.Clear = Flag
shape_of parameters.Target = One sorts.Target
shape_of parameters.Price = One (Number 1 MOST)
shape_of parameters.Kind = Setting (Number 0 MOST_KIND)
shape_of parameters.Issuer = One (Number 1 MOST_ISSUER)
shape_of parameters.AnyIssuer = One (Number 0 MOST_ISSUER)
shape_of parameters.Epoch = One (Number 0 MOST_EPOCH)
shape_of parameters.Pieces = One (Number 1 MOST_MINTED)
shape_of parameters.Value = One (Number 1 MOST)
shape_of parameters.Reference = One sorts.Name
shape_of parameters.Listen = One sorts.Listen
shape_of parameters.Links = One (Number 1 MOST_LINKS)
shape_of parameters.Door = Setting sorts.Socket
shape_of parameters.Secret = One sorts.Secret
shape_of parameters.Contents = One sorts.Contents
shape_of parameters.Heads = One (Number 1 MOST_HEADS)
shape_of parameters.Account = One sorts.Name
shape_of parameters.Key = One sorts.Secret
shape_of parameters.Amount = One (Number 1 MOST)
shape_of parameters.Vendor = One sorts.Name
shape_of parameters.Broker = One sorts.Name
shape_of parameters.Peer = One sorts.Name
shape_of parameters.Order = One (Number 1 MOST)
shape_of parameters.Connect = One sorts.Connect
shape_of parameters.Limit = One (Number 1 MOST)
shape_of parameters.Budget = One (Number 1 MOST)
shape_of parameters.Before = One (Number 0 LAST)
shape_of parameters.Json = Flag

-- its argument
abbrev pub rule_for : Text → Shape → Rule
rule_for name (One sort) = positional name
rule_for name Places = positionals name
rule_for name (Setting sort) = value name
rule_for name Flag = flag name

abbrev pub rule_of : Parameter → Rule
rule_of parameter = rule_for (name_of parameter) (shape_of parameter)

-- its words are secrets
abbrev pub are_secrets : Shape → Bool
are_secrets (One sorts.Secret) = true
are_secrets (One sorts.Secrets) = true
are_secrets _ = false

abbrev pub is_secret : Parameter → Bool
is_secret parameter = are_secrets (shape_of parameter)

-- the numbers that it spells are some, and no greater than words spell any; a test
abbrev pub is_range : Shape → Bool
is_range (One (Number least most)) = nat_le least most && nat_le most MOST_NUMBER
is_range (Setting (Number least most)) = nat_le least most && nat_le most MOST_NUMBER
is_range _ = true
