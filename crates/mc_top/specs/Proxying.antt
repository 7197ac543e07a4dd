-- What the program does by the words of a wallet that pays for what a browser asks.
use Rattle.std.specs.Prelude.{◌≡◌, ◌⊎◌, ℕ, List, Some}
use Rattle.mc_outside.specs.DiskView.{DiskView}
use Rattle.mc_outside.specs.LinkView.{LinkView}
use Rattle.mc_requests.specs.declared.limits.TheConstants.Limits.{FULL}
use Rattle.command_status.specs.declared.status.Status.{Status}
use Rattle.command_status.specs.declared.status.Status.TheVariants as ends
use Rattle.wallet_words.specs.declared.proxying.Proxying.{Proxying}
use Rattle.wallet_proxy.specs.Proxy.{Bounds}
use Rattle.wallet_proxy.specs.Proxying.{ProxiesBook, ProxyCauses}
use Rattle.mc_top.specs.Programs.{Ends, Unread}

-- what the words say that may be paid, to whom, out of a journal of this program's limits
abbrev pub bounds_of : Proxying → Bounds
bounds_of p = record { vendor = p.vendor; limit = p.limit; budget = p.budget; limits = FULL }

-- What it does to the outside and to the links to the vendor, up to the line that is said. Of the book it is said where the disk
-- tells its bytes; the causes of faults hold of every outside.
abbrev pub Proxies : {O : Type 0} → (O → LinkView) → (O → DiskView) → Proxying → O → LinkView → Status → LinkView → O → Type 0
Proxies link disk p a up status now_up b =
    ProxyCauses link disk p.links a up status now_up b
    × ((bytes : List ℕ) → (disk a).contents ≡ Some bytes → ProxiesBook link disk (bounds_of p) p.links bytes a up status now_up b)

-- What the program does: memory was refused to read the words; or this, and then the line of its status was said, or saying it
-- failed.
abbrev pub RunsProxy : {O : Type 0} → (O → LinkView) → (O → DiskView) → Proxying → O → LinkView → ℕ → LinkView → O → Type 0
RunsProxy {O} link disk p a up number now_up c =
    (Unread link disk a number c × (now_up ≡ up))
    ⊎ ((b : O) × (status : Status) × Proxies link disk p a up status now_up b × Ends link disk status b c number)

-- what it does by other words: it says so, or that memory was refused to read them, and no link to the vendor is touched
abbrev pub RefusesWords : {O : Type 0} → (O → LinkView) → (O → DiskView) → O → LinkView → ℕ → LinkView → O → Type 0
RefusesWords link disk a up number now_up c = (Ends link disk ends.BadWords a c number ⊎ Unread link disk a number c) × (now_up ≡ up)
