use Rattle.std.proofs.Common.{sym, ◌∙◌}
use Rattle.scrip_journal.proofs.SwitchLaws.{chain_found}
use Rattle.audit_cmd.proofs.ChainLaws.{chain_fault}
use Rattle.audit_cmd.proofs.chain_reading.read_chain.Goals as goal

pub returns-clause-exact : goal.returns-clause-exact
returns-clause-exact g c x told =
    let opened = c.in-Ok.ensures.exact x told in
    let found = c.in-Ok-find_chain.ensures in
    let journal = found.stands opened.history opened.journal in
    record {
      history = opened.history;
      of_bytes = opened.of_bytes;
      site = opened.learned.holds'.site;
      name = opened.learned.holds'.is;
      entries = sym (c.entries.ensures ∙ journal.entries_is);
      chain' = sym (chain_found g.D.Disk.disk c.in-Ok-find_chain.found.0 opened.history c.in-Ok-find_chain.found.1 journal found.known);
    }

pub returns-in-Err-clause-exact : goal.returns-in-Err-clause-exact
returns-in-Err-clause-exact g c x told = chain_fault g.D.Disk.disk x c.in-Err.fault (c.in-Err.ensures.exact x told)
