-- What a vendor's operator mints, by the numbers of the words.
use Rattle.std.proofs.Common.{◌≡◌, ◌∙◌, ℕ, List}
use Rattle.mc_requests.specs.declared.limits.Limits.{Limits}
use Rattle.ledger_model.specs.Histories.{History}
use Rattle.house_core.specs.Tasks.{Task}
use Rattle.vendor_core.specs.Tasks.{IsMintTask, IsMintAt, mint_lines}
use Rattle.operator_command.specs.Operations.{full}

-- the task of a mint, and its lines, by the numbers of the words
pub mint_task_at : (h : History) (t : ℕ) (limits : Limits) (reference named : List ℕ) (count so_many value worth : ℕ) (task : Task) → limits ≡ full → reference ≡ named → count ≡ so_many → value ≡ worth
    → IsMintTask h t limits reference count value task → IsMintTask h t full named so_many worth task
mint_task_at h t limits reference named count so_many value worth task is_full is_named is_many is_worth is = rw (← is_full, ← is_named, ← is_many, ← is_worth) is

pub mint_line_at : (g : History) (reference named : List ℕ) (count so_many value worth number : ℕ) (out line : List ℕ) → reference ≡ named → count ≡ so_many → value ≡ worth → line ≡ out
    → IsMintAt g reference count value number × (out ≡ mint_lines g number) → (n : ℕ) × IsMintAt g named so_many worth n × (line ≡ mint_lines g n)
mint_line_at g reference named count so_many value worth number out line is_named is_many is_worth same tells =
    (number, rw (← is_named, ← is_many, ← is_worth) tells.0, same ∙ tells.1)
