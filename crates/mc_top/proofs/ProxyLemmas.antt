-- The places of the words of a wallet that pays for what a browser asks, and how the program ends by them.
use Rattle.std.proofs.Common.{◌∙◌, ◌≤◌, inl, inr, ℕ, sym, subst, arith}
use Rattle.std.specs.Prelude.{List, Result, Ok, Err, IfOk}
use Rattle.mc_outside.specs.Bytes.{Rose}
use Rattle.mc_outside.specs.DiskView.{DiskView}
use Rattle.mc_outside.specs.LinkView.{LinkView}
use Rattle.command_status.specs.Statuses.{number_of, line_of}
use Rattle.command_status.proofs.OpenLaws.{Calm}
use Rattle.wallet_words.specs.declared.proxying.Proxying.{Proxying}
use Rattle.mc_words.specs.Commands.{AreOfNoRow}
use Rattle.wallet_core.specs.OnDisk.{HasWallet}
use Rattle.wallet_proxy.proofs.EndLemmas.{proxied_well, proxied_grew}
use Rattle.mc_top.specs.declared.named.Places.{Places}
use Rattle.mc_top.specs.Places.{ArePlaces, AreProxyPlaces}
use Rattle.mc_top.specs.Programs.{IsDoneOrShort}
use Rattle.mc_top.specs.Proxying.{bounds_of, RunsProxy}
use Rattle.mc_top.proofs.CompleteLemmas.{number_stays, is_calm, memory_stays}

-- words of no command that is carried out over one outside name what a wallet that pays has, or nothing
pub places_beside : {E : Type 0} (words : List (List ℕ)) (r : Result Places E) → AreOfNoRow words → IfOk r (AreProxyPlaces words) → IfOk r (ArePlaces words)
places_beside words (Ok places) none are = inr (none, are)
places_beside words (Err e) none are = tt

-- where its book is there, and no call failed
pub proxy_well : {O : Type 0} (link : O → LinkView) (disk : O → DiskView) (p : Proxying) (a c : O) (up now_up : LinkView) (number : ℕ) → HasWallet (disk a) → (Rose (disk a).faults (disk c).faults → ⊥) → (Rose (link a).faults (link c).faults → ⊥)
    → RunsProxy link disk p a up number now_up c → IsDoneOrShort number
proxy_well link disk p a c up now_up number has no_disk no_link (inl unread) = inr (unread.0.number' ∙ memory_stays unread.0.whole)
proxy_well {O = O} link disk p a c up now_up number has no_disk no_link (inr (b, status, proxies, ends)) =
    subst IsDoneOrShort (sym (ends.number' ∙ number_stays (line_of status) (link b) (link c) ends.whole (number_of status) no_more ends.said))
    (proxied_well link disk (bounds_of p) p.links a b up now_up status has calm proxies.0 (proxies.1 has.bytes has.told))
  where
    calm : Calm link disk a b
    calm = is_calm link disk a b c status number ends no_disk no_link

    no_more : Rose (link b).faults (link c).faults → ⊥
    no_more rose = let grown : (link a).faults ≤ (link b).faults = proxied_grew link disk p.links a b up now_up status calm proxies.0 in no_link (omega (arith, grown, rose))
