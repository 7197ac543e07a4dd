use Rattle.vendor_core.proofs.operator.terms_record.Goals as goal

pub returns-clause-fits : goal.returns-clause-fits
returns-clause-fits c = record { moment = c.seconds-moment.ensures.last; terms = rw (c.of.ensures) c.terms_fit.ensures }
