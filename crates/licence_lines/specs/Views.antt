-- The words of a line, without where they lie in memory.
use Rattle.licence_lines.specs.Fields.{Fields}
use Rattle.licence_lines.specs.declared.fields.Words.{Words}

abbrev pub fields : Words → Fields
fields w = record {
  vendor = w.vendor.now;
  issuer = w.issuer.now;
  period = w.period.now;
  life = w.life.now;
  scrip = w.scrip.now;
  customer = w.customer.now;
}
