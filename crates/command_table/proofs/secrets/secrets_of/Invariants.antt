use Rattle.std.proofs.Common.{◌≡◌, length, take}
use Rattle.command_table.proofs.SecretLemmas.{IsReadSoFar}
use Rattle.command_table.proofs.secrets.secrets_of.Given as goal

abbrev pub invariant-loop-i : goal.invariant-loop-i
invariant-loop-i l = record {
  so_far : IsReadSoFar l.word (take l.i l.list) l.rest;
  room : length l.list ≡ 16;
}
