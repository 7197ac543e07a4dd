use Rattle.std.proofs.Common.{◌≡◌, ◌*◌, ◌/◌, ◌%◌, ◌≤◌, ◌<◌, ℕ, List, length, take, Ok, Err, ap, ap₂, sym, ◌∙◌, arith}
use Rattle.std.specs.Simd.{first_chunks}
use Rattle.mc_fields.specs.Reading.{Read}
use Rattle.mc_records.proofs.SecretLaws.{first_of_chunks, secrets_there, secrets_short}
use Rattle.mc_records.proofs.parts.secrets_list.Goals as goal

pub returns-then-secrets-count-clause-read : goal.returns-then-secrets-count-clause-read
returns-then-secrets-count-clause-read c =
    secrets_short c.args.count c.args.bytes.now (omega (arith, c.if-secrets-count.true, c.as_chunks.ensures.front_len)) ∙ ap stuck (sym c.as_chunks.ensures.back_len)
  where
    stuck : ℕ → Read (List (List ℕ))
    stuck left = Err left

pub returns-clause-read : goal.returns-clause-read
returns-clause-read c =
    let are : take c.args.count c.as_chunks.result.0.now ≡ first_chunks 16 c.args.count c.args.bytes.now =
    ap (take c.args.count) c.as_chunks.ensures.front ∙ first_of_chunks 16 c.args.count (length c.args.bytes.now / 16) c.args.bytes.now (omega (arith, c.if-secrets-count.false, c.as_chunks.ensures.front_len)) in
    secrets_there c.args.count c.args.bytes.now (omega (arith, c.if-secrets-count.false, c.as_chunks.ensures.front_len)) ∙ ap₂ found (sym are) (sym c.split_at.ensures.back)
  where
    found : List (List ℕ) → List ℕ → Read (List (List ℕ))
    found secrets rest = Ok (secrets, rest)
