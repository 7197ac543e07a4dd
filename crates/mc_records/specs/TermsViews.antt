-- What a caller sees of the terms of an entry.
use Rattle.scrip_form.specs.Issuing.{Issuing}
use Rattle.mc_records.specs.declared.terms.RecordTerms.{RecordTerms}

abbrev pub issuing_of : RecordTerms → Issuing
issuing_of t = record { issuer = t.issuer; period = t.period; life = t.life; scrip = t.scrip.now; customer = t.customer.now }
