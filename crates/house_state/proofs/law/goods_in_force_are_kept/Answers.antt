use Rattle.house_state.proofs.KeptLaws.{goods_kept}
use Rattle.house_state.proofs.law.goods_in_force_are_kept.Goals as goal

pub returns : goal.returns
returns c h more e from n force other le = goods_kept h more e from n force other le
