-- The terms of an issuer, and the words of a shop.
use Rattle.std.proofs.Common.{◌≡◌, ℕ, List, Option, Some, None, refl, sym, subst}
use Rattle.std.specs.Prelude.{IfSome}
use Rattle.clap.specs.Walk.{Row, Text}
use Rattle.scrip_form.specs.Issuing.{Issuing}
use Rattle.command_table.specs.Ranges.{AreTerms, IsSecretList, IsWithin}
use Rattle.command_table.specs.Table.{Gives, Reads, form_of}
use Rattle.command_table.specs.declared.parameter.TheConstants.{LEAST_PERIOD, MOST_SECONDS}
use Rattle.command_table.specs.declared.table.CommandName.TheVariants as names
use Rattle.site_words.specs.Commands.{AreNoOnceWords, AreOnceWords}
use Rattle.site_words.specs.Words.{Shop, shop_values}

pub are_terms : (issuer period life : ℕ) (scrip customer : List (List ℕ)) (t : Issuing) → t ≡ record { issuer = issuer; period = period; life = life; scrip = scrip; customer = customer }
    → IsWithin LEAST_PERIOD MOST_SECONDS period → IsWithin 0 MOST_SECONDS life → IsSecretList scrip → IsSecretList customer → AreTerms t
are_terms issuer period life scrip customer t e in_period in_life in_scrip in_customer = subst AreTerms (sym e) (record {
  period = record { least = in_period.least'; most = in_period.most'; short = in_life.most' };
  scrip = in_scrip;
  customer = in_customer;
})

pub shop_words : (words : List Text) (read : Option (List Row)) (rows : List Row) (r : Option Shop) → read ≡ Some rows → Reads names.VendorOnce words read → Gives names.VendorOnce shop_values rows r
    → IfSome r (λ shop. AreOnceWords words shop)
unfolding form_of
shop_words words read rows None is reads gives = tt
shop_words words read rows (Some shop) is reads gives = record { one_sided = refl; rows = rows; read = subst (Reads names.VendorOnce words) is reads; found' = gives }

pub no_shop_words : (words : List Text) (read : Option (List Row)) → read ≡ None → Reads names.VendorOnce words read → AreNoOnceWords words
no_shop_words words read is reads = λ shop are. subst (Reads names.VendorOnce words) is reads are.rows are.read
