use Rattle.std.proofs.Common.{◌≡◌, ◌≤◌, take}
use Rattle.kept_replies.specs.Parts.{number_in}
use Rattle.kept_replies.proofs.digits.put_number.Given as goal

-- the bytes up to the length are those of the number
abbrev pub invariant-loop-len : goal.invariant-loop-len
invariant-loop-len l = record {
  within : l.len ≤ 8;
  number : number_in (take l.len l.bytes) ≡ l.number;
}

abbrev pub decreases-loop-len : goal.decreases-loop-len
decreases-loop-len l = l.len
