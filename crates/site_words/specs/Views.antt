-- What contracts see of a founder and of a shop.
use Rattle.site_words.specs.Words as words
use Rattle.site_words.specs.declared.shop.Shop.TheInside as shop
use Rattle.site_words.specs.declared.founder.Founder.TheInside as founder

abbrev pub shop_view : shop.Inside → words.Shop
shop_view s = record { name = s.name; target = s.target; price = s.price; secret = s.secret; contents = s.contents }

abbrev pub founder_view : founder.Inside → words.Founder
founder_view f = record {
  name = f.name;
  period = f.terms.period;
  life = f.terms.life;
  scrip = f.terms.scrip;
  customer = f.terms.customer;
  fee = f.fee;
  keep = f.keep;
  clear = f.clear;
}
