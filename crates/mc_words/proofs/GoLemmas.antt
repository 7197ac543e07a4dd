-- Each command stands in the list of all.
use Rattle.std.proofs.Common.{◌≡◌, ℕ, suc, ◌<◌, Bool, true, false, List, [], ◌∷◌, Option, Some, length, get_or, cond, arith}
use Rattle.clap.specs.Walk.{Text}
use Rattle.command_table.specs.declared.table.CommandName.{CommandName}
use Rattle.command_table.specs.declared.table.TheConstants.{COMMANDS}
use Rattle.command_table.specs.Naming.{is_called, named_among}
use Rattle.command_table.specs.Table.{form_of}
use Rattle.command_table.proofs.TableLemmas.{named_first}

abbrev StandsIn : List CommandName → CommandName → CommandName → Type 0
StandsIn cs d c = (k : ℕ) × (k < length cs) × (get_or cs k d ≡ c)

stands_next : (x c d : CommandName) (xs : List CommandName) (others : Option CommandName) (b : Bool) → cond b (Some x) others ≡ Some c → (others ≡ Some c → StandsIn xs d c) → StandsIn (x ∷ xs) d c
stands_next x c d xs others true e then = (0, omega arith, cc e)
stands_next x c d xs others false e then = let at = then e in (suc at.0, omega (arith, at.1), at.2)

stands : (cs : List CommandName) (role name : Text) (c d : CommandName) → named_among cs role name ≡ Some c → StandsIn cs d c
unfolding named_among
stands [] role name c d e = absurd (cc e)
stands (x ∷ xs) role name c d e = stands_next x c d xs (named_among xs role name) (is_called role name (form_of x)) e (stands xs role name c d)

pub stands_at : (name : CommandName) → (k : ℕ) × (k < 40) × (get_or COMMANDS k name ≡ name)
stands_at name = stands COMMANDS (form_of name).role (form_of name).name name name (named_first name)
