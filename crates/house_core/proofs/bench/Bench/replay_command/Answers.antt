use Rattle.std.proofs.Common.{ap, arith}
use Rattle.mc_records.specs.Views.{entry}
use Rattle.mc_records.proofs.SizeLaws.{length-tail, tail_size-by}
use Rattle.mc_records.specs.Sizes.{tail_bytes}
use Rattle.house_core.specs.Bench.{limits_of}
use Rattle.house_core.proofs.Replayed.{follow_fails}
use Rattle.house_core.proofs.bench.Bench.replay_command.Goals as goal

pub returns-in-Err-follow-clause-exact : goal.returns-in-Err-follow-clause-exact
returns-in-Err-follow-clause-exact g c h st tells room =
    follow_fails g.T.Trade.trade g.T.Trade.passes c.follow.new.self (limits_of c.args.self.now) h (entry c.args.r.now) c.in-Err-follow.end (c.in-Err-follow.ensures.exact h st tells)

-- the entry fits the greatest journal
pub returns-in-Err-clause-exact : goal.returns-in-Err-clause-exact
returns-in-Err-clause-exact g c = rw (← c.self.view_is) (λ h st tells room may.
    absurd (omega (arith, c.in-Err.ensures.full, room, length-tail h (entry c.args.r.now), tail_size-by h, ap tail_bytes st.state.switched, st.state.sized, c.payload_len-bytes.ensures)))
