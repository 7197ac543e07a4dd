use Rattle.house_core.proofs.RefusingLemmas.{series_among}
use Rattle.house_core.proofs.RunLaws.{run_stands}
use Rattle.house_core.proofs.house.House.next_run.Goals as goal

pub returns-clause-exact : goal.returns-clause-exact
returns-clause-exact g c = rw (← c.self.view_is, ← c.self-inside.view_is) (λ h st.
    run_stands st.house.represents.state c.args.count c.next_run.result c.next_run.ensures)

pub returns-clause-refusals : goal.returns-clause-refusals
returns-clause-refusals g c = series_among c.next_run.result _ _ _ c.next_run.ensures
