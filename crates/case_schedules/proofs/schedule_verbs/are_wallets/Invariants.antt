use Rattle.std.proofs.Common.{◌≤◌, ◌^◌, take}
use Rattle.std.specs.List.{AllByRecursion}
use Rattle.mc_records.specs.Sizes.{size}
use Rattle.wallet_model.specs.Follows.{IsWalletBook}
use Rattle.case_schedules.proofs.schedule_verbs.are_wallets.Given as goal

abbrev pub invariant-loop-history : goal.invariant-loop-history
invariant-loop-history l = AllByRecursion (λ h. IsWalletBook h × (size h ≤ 2 ^ 40)) (take l.history-index l.histories)
