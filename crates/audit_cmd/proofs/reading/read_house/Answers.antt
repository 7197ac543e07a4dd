use Rattle.std.proofs.Common.{sym, subst}
use Rattle.mc_requests.specs.declared.limits.TheConstants.Limits.{FULL}
use Rattle.audit_sums.specs.declared.audit_sums.BookSums.{BookSums}
use Rattle.audit_search.specs.Audit.{IsLearned}
use Rattle.audit_cmd.proofs.ReadLaws.{kept_learned}
use Rattle.audit_cmd.proofs.reading.read_house.Goals as goal

pub returns-in-Ok-clause-exact : goal.returns-in-Ok-clause-exact
returns-in-Ok-clause-exact g c x told =
    let opened = c.in-Ok.ensures.exact x told in
    record {
      history = opened.history;
      of_bytes = opened.of_bytes;
      learned = subst (λ (s : BookSums). IsLearned FULL s opened.history) (sym c.into_sums.ensures) (kept_learned c.in-Ok.reader opened.history opened.learned opened.of_bytes.fits);
    }
