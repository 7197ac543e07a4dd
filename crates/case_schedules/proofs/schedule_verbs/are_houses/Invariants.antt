use Rattle.std.proofs.Common.{◌≤◌, ◌^◌, take}
use Rattle.std.specs.List.{AllByRecursion}
use Rattle.mc_records.specs.Sizes.{size}
use Rattle.ledger_model.specs.Lawful.{IsLawful}
use Rattle.case_schedules.proofs.schedule_verbs.are_houses.Given as goal

abbrev pub invariant-loop-history : goal.invariant-loop-history
invariant-loop-history l = AllByRecursion (λ h. IsLawful l.limits h × (size h ≤ 2 ^ 40)) (take l.history-index l.histories)
