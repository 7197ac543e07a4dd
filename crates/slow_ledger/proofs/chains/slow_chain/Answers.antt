use Rattle.std.proofs.Common.{arith, sym}
use Rattle.mc_records.proofs.ChainLaws.{chain-none}
use Rattle.slow_ledger.proofs.CountLaws.{chain_more}
use Rattle.slow_ledger.proofs.chains.slow_chain.Goals as goal

pub loop-n-init : goal.loop-n-init
loop-n-init c = sym chain-none

pub loop-n-preserved : goal.loop-n-preserved
loop-n-preserved c = chain_more c.args.h.now c.payload.result.now c.loop-n.chain c.chain_after-chain.result c.loop-n.n (omega arith) c.loop-n.invariant c.payload.ensures c.chain_after-chain.ensures
