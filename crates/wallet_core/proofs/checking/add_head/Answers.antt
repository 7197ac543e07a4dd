use Rattle.std.proofs.Common.{◌≡◌, List, ℕ, ◌++◌, append_assoc, subst, codes}
use Rattle.std.specs.Prelude.{decimal}
use Rattle.scrip_certs.specs.Hashing.{Hashes}
use Rattle.mc_requests.specs.Replies.{or_dash}
use Rattle.mc_requests.specs.Requests.{seen}
use Rattle.wallet_core.proofs.checking.add_head.Goals as goal

joined : (m a b c d e f g k : List ℕ) → (((((((m ++ a) ++ b) ++ c) ++ d) ++ e) ++ f) ++ g) ++ k ≡ m ++ (((((((a ++ b) ++ c) ++ d) ++ e) ++ f) ++ g) ++ k)
joined m a b c d e f g k = simp append_assoc

pub returns : goal.returns
returns c = λ v m holds.
    let status : c.as_bytes.result.now ≡ decimal c.args.r.now.status = cc in
    let dash : c.or_dash.result.now ≡ or_dash (seen c.args.r.now.refusal) = c.or_dash.ensures in
    let first = rw status at c.update.ensures v m holds in
    let third = rw dash at c.update-3.ensures v (m ++ decimal c.args.r.now.status ++ codes " ") (c.update-2.ensures v (m ++ decimal c.args.r.now.status) first) in
    let last = c.update-8.ensures v _ (c.update-7.ensures v _ (c.update-6.ensures v _ (c.update-5.ensures v _ (c.update-4.ensures v _ third)))) in
    subst (Hashes c.update-8.new.self v) (joined m _ _ _ _ _ _ _ _) last
