use Rattle.std.proofs.Common.{rules}
use Rattle.change_issue.specs.Registers.{has_room, count_in, issued_in, redeemed_in}
use Rattle.change_issue.proofs.issuer.Issuer.new.Goals as goal

pub returns : goal.returns
unfolding has_room count_in issued_in redeemed_in
returns c = search rules
