-- The words of a wallet that pays for what a browser asks.
use Rattle.std.proofs.Common.{◌≡◌, true, false, List, Option, Some, None, sym, subst}
use Rattle.std.specs.Prelude.{IfSome, IsNone}
use Rattle.clap.specs.Walk.{Row, Text}
use Rattle.command_table.specs.Table.{AreOf, Gives, IsRead, Reads, form_of}
use Rattle.command_table.specs.Values.{AreFound, ValuesOf}
use Rattle.command_table.specs.declared.table.CommandName.{CommandName}
use Rattle.command_table.specs.declared.table.CommandName.TheVariants as names
use Rattle.command_table.proofs.OneLemmas.{all_found_once}
use Rattle.command_table.proofs.TableLemmas.{one_name, read_once}
use Rattle.wallet_words.specs.declared.proxying.Proxying.{Proxying}
use Rattle.wallet_words.specs.Words.{proxying_values}
use Rattle.wallet_words.specs.Proxying.{AreNoProxyWords, AreProxyWords}

pub proxy_words : (words : List Text) (read : Option (List Row)) (rows : List Row) (r : Option Proxying) → read ≡ Some rows → Reads names.WalletProxy words read → Gives names.WalletProxy proxying_values rows r
    → IfSome r (λ p. AreProxyWords words p)
proxy_words words read rows None is reads gives = tt
proxy_words words read rows (Some p) is reads gives = record { rows = rows; read = subst (Reads names.WalletProxy words) is reads; found' = gives }

pub no_values : (words : List Text) (read : Option (List Row)) (rows : List Row) (r : Option Proxying) → IsNone r → read ≡ Some rows → Reads names.WalletProxy words read → Gives names.WalletProxy proxying_values rows r → AreNoProxyWords words
no_values words read rows (Some p) none is reads gives = absurd (cc none)
no_values words read rows None none is reads gives = λ p are.
    let mine : IsRead names.WalletProxy words rows = subst (Reads names.WalletProxy words) is reads in
    gives (proxying_values p) (subst (λ (xs : List Row). AreFound xs (form_of names.WalletProxy).parameters (proxying_values p)) (read_once names.WalletProxy words rows are.rows mine are.read) are.found')

pub no_proxy_words : (words : List Text) (read : Option (List Row)) → read ≡ None → Reads names.WalletProxy words read → AreNoProxyWords words
no_proxy_words words read is reads = λ p are. subst (Reads names.WalletProxy words) is reads are.rows are.read

-- ---- they are words of one, and of no other command

same_values : (a b : Proxying) → proxying_values a ≡ proxying_values b → a ≡ b
unfolding form_of proxying_values
same_values a b is = λ i. record {
  book = (is i).0;
  vendor = (is i).1.0;
  limit = (is i).1.1.0;
  budget = (is i).1.1.1.0;
  listen = (is i).1.1.1.1.0;
  connect = (is i).1.1.1.1.1.0;
  links = (is i).1.1.1.1.1.1.0;
}

pub one_proxy : (words : List Text) (a b : Proxying) → AreProxyWords words a → AreProxyWords words b → a ≡ b
one_proxy words a b fa fb =
    same_values a b (all_found_once fa.rows (form_of names.WalletProxy).parameters (proxying_values a) (proxying_values b) fa.found'
    (subst (λ (rows : List Row). AreFound rows (form_of names.WalletProxy).parameters (proxying_values b)) (read_once names.WalletProxy words fa.rows fb.rows fa.read fb.read) fb.found'))

not_one_sided : (name : CommandName) → names.WalletProxy ≡ name → (form_of name).one_sided ≡ true → ⊥
unfolding form_of
not_one_sided name is carried =
    let never : false ≡ true = subst (λ (n : CommandName). (form_of n).one_sided ≡ true) (sym is) carried in
    absurd (cc never)

-- of none that has one outside
pub of_no_row : (words : List Text) (p : Proxying) → AreProxyWords words p → (name : CommandName) (values : ValuesOf (form_of name).parameters) → AreOf name words values → ⊥
of_no_row words p are name values others = not_one_sided name (one_name words are.rows others.rows names.WalletProxy name are.read others.read) others.one_sided
