-- How serving links by the wallet of a book ends.
use Rattle.std.proofs.Common.{◌≤◌, ◌≡◌, ◌⊎◌, inl, inr, ℕ, ◌+◌, List, [], ◌∷◌, ◌++◌, length, refl, sym, ap, ◌∙◌, subst, arith, Err}
use Rattle.std.specs.Prelude.{Bool, IsTrue, IsSome, is_some}
use Rattle.mc_outside.specs.Bytes.{Rose}
use Rattle.mc_outside.specs.DiskView.{DiskView, OnlyRead, Ran}
use Rattle.mc_outside.specs.LinkView.{LinkView}
use Rattle.mc_outside.proofs.Runs.{ran_then, ran_weaker}
use Rattle.mc_requests.specs.declared.limits.Limits.{Limits}
use Rattle.mc_requests.specs.declared.limits.TheConstants.Limits.{FULL}
use Rattle.ledger_model.specs.Histories.{History}
use Rattle.scrip_journal.specs.declared.fault.HouseFault.{HouseFault}
use Rattle.scrip_journal.specs.declared.fault.HouseFault.TheVariants as faults
use Rattle.scrip_journal.specs.Founds.{fault_disk}
use Rattle.book_opening.specs.Opening.{CountedBy}
use Rattle.millicent_http.specs.declared.clock.Clock.TheVariants.{OfLinks}
use Rattle.millicent_http.specs.Steps.{Did, sent_of, state_after}
use Rattle.millicent_http.specs.Courses.{ServedAll, ServedSome}
use Rattle.command_status.specs.Faults.{fault_status}
use Rattle.wallet_core.specs.WalletView.{WalletView}
use Rattle.wallet_core.specs.Wallet.{WalletStands}
use Rattle.wallet_core.specs.Opening.{OpenedFor}
use Rattle.wallet_core.specs.OnDisk.{Untouched}
use Rattle.wallet_core.proofs.DiskLemmas.{on_disk}
use Rattle.link_turns.specs.Orders.{InOrder, MovedBy, InDoubt}
use Rattle.wallet_proxy.specs.declared.links.ProxyOut.{ProxyOut}
use Rattle.wallet_proxy.specs.declared.links.ProxyOut.TheVariants as outs
use Rattle.wallet_proxy.specs.Proxy.{ProxyState, history_of, Bounds, ProxyStep}
use Rattle.wallet_proxy.specs.Links.{now, state_at, Went, InDoubtLinks, ServesLinks, ServedEnough, LeftAlone, HaveCauses, proxied_outside}
use Rattle.wallet_proxy.specs.Laws.{IsSound}
use Rattle.wallet_proxy.proofs.RunLaws.{Goes, all_goes, links_goes, Doubted, links_doubt}
use Rattle.wallet_proxy.specs.Proxying.{proxied_status, EncodesState, ProxyPair, ProxiedFrom, ProxiesLinksOf, ProxyCauses}

-- ---- causes

-- of a book that was not opened
pub unopened_causes : {O : Type 0} (A : Type 0) (link : O → LinkView) (disk : O → DiskView) (links : ℕ) (a : O) (up : LinkView) (fault : HouseFault O)
    → CountedBy {D = O} {A = A} (Err fault) (disk a).faults (disk (fault_disk fault)).faults → link (fault_disk fault) ≡ link a → ProxyCauses link disk links a up (fault_status fault) up (fault_disk fault)
unopened_causes A link disk links a up (faults.NotJournal d) counts same = record { disk' = counts; link' = same; up' = refl }
unopened_causes A link disk links a up (faults.BadRecord d place) counts same = record { disk' = counts; link' = same; up' = refl }
unopened_causes A link disk links a up (faults.BadChain d place stood computed) counts same = record { disk' = counts; link' = same; up' = refl }
unopened_causes A link disk links a up (faults.Unlawful d place) counts same = record { disk' = counts; link' = same; up' = refl }
unopened_causes A link disk links a up (faults.WrongKind d) counts same = (refl, record { disk' = counts; link' = same; up' = refl })
unopened_causes A link disk links a up (faults.NotEmpty d size) counts same = absurd counts
unopened_causes A link disk links a up (faults.Disk d) counts same = counts
unopened_causes A link disk links a up (faults.NoMemory d) counts same = record { disk' = counts; link' = same; up' = refl }

pub proxy_causes : {O : Type 0} (link : O → LinkView) (disk : O → DiskView) (wanted : ℕ) (a b : O) (up now_up : LinkView) (out : ProxyOut O) → (disk b).faults ≡ (disk a).faults → link b ≡ link a → HaveCauses link disk b out → ServedEnough link wanted out
    → LeftAlone up now_up out → ProxyCauses link disk wanted a up (proxied_status out) now_up (proxied_outside out)
proxy_causes link disk wanted a b up now_up (outs.Done x n paid) same links kept enough alone =
    (kept.disk' ∙ same, subst (λ (v : LinkView). v.faults ≤ (link x.journal.disk).faults) links kept.link', enough)
proxy_causes link disk wanted a b up now_up (outs.Link x) same links kept enough alone =
    let grown : (link a).faults ≤ (link kept.before).faults = subst (λ (v : LinkView). v.faults ≤ (link kept.before).faults) links kept.counts.link' in (
      kept.keeps.faults ∙ kept.counts.disk' ∙ same,
      omega (arith, grown, kept.fault.rose),
      record { before = kept.before; counts = record { disk' = kept.counts.disk' ∙ same; link' = grown }; keeps = kept.keeps; fault = kept.fault },
    )
proxy_causes link disk wanted a b up now_up (outs.NoMemory x) same links kept enough alone =
    record { disk' = ap (λ d. (disk d).faults) kept ∙ same; link' = ap link kept ∙ links; up' = alone }
proxy_causes link disk wanted a b up now_up (outs.Halted d) same links kept enough alone = subst (λ (n : ℕ). Rose n (disk d).faults) same kept

-- ---- from the opened wallet on

-- the book was only read, and then the wallet went by these steps
read_then_moved : (tells : Type 0) (a b c : DiskView) (s : ProxyState) (steps : List (Did ProxyState)) → OnlyRead a b → MovedBy history_of tells b c s steps → Ran a c (ProxyPair tells a s steps)
read_then_moved tells a b c s steps read moved =
    ran_then a b c (ProxyPair tells a s steps) (ran_weaker a b _ _ read.ran (λ i x p. inl p))
    (subst (λ (l : List ℕ). Ran b c (λ i x. (a.leaves i × (x ≡ a.aside)) ⊎ InOrder history_of tells s l steps i x)) read.aside (ran_weaker b c _ _ moved.ran (λ i x o. inr o)))

-- the state of the wallet that was opened is sound
opened_sound : {O : Type 0} (disk : O → DiskView) (bounds : Bounds) (bytes : List ℕ) (x : WalletView O) (up : LinkView) (at : OpenedFor disk FULL bytes x) → IsSound bounds (state_at at.history (now x 0 up))
opened_sound disk bounds bytes x up at = record { lawful = at.wallet.book.lawful; in_time = at.wallet.book.in_time; within = omega arith }

-- the state of the wallet that was opened
encodes_state : {O : Type 0} (disk : O → DiskView) (bytes : List ℕ) (x : WalletView O) (up : LinkView) (at : OpenedFor disk FULL bytes x) → EncodesState bytes up (state_at at.history (now x 0 up))
encodes_state disk bytes x up at = record { stands = at.of_bytes; lawful = at.wallet.book.lawful; time' = at.time'; nothing = refl; up' = refl }

proxied_from : {O : Type 0} (link : O → LinkView) (disk : O → DiskView) (bounds : Bounds) (bytes : List ℕ) (a : O) (x y : WalletView O) (paid : ℕ) (up now_up : LinkView) (steps : List (Did ProxyState)) (at : OpenedFor disk FULL bytes x)
    → OnlyRead (disk a) (disk x.journal.disk) → link x.journal.disk ≡ link a → Went link disk bounds.budget x.journal.disk (state_at at.history (now x 0 up)) steps (now y paid now_up)
    → Goes bounds (length steps) (state_at at.history (now x 0 up)) (state_after (state_at at.history (now x 0 up)) steps)
    → ProxiedFrom link disk bounds bytes a y.journal.disk up now_up (state_at at.history (now x 0 up)) steps
proxied_from link disk bounds bytes a x y paid up now_up steps at read same went goes =
    let s : ProxyState = state_at at.history (now x 0 up) in
    record {
      encoded = encodes_state disk bytes x up at;
      left = on_disk disk y (state_after s steps).history went.stands.book;
      within = went.stands.within;
      up' = went.stands.up';
      asks = goes.asks;
      pairs = read_then_moved (IsSome (link a).sessions) (disk a) (disk x.journal.disk) (disk y.journal.disk) s steps read
          (subst (λ (v : LinkView). MovedBy history_of (IsSome v.sessions) (disk x.journal.disk) (disk y.journal.disk) s steps) same went.moved);
    }

-- the book of the wallet that was opened is served
pub proxies_book : {O : Type 0} (link : O → LinkView) (disk : O → DiskView) (vendor : List ℕ) (limit budget links : ℕ) (bytes : List ℕ) (a : O) (x : WalletView O) (up now_up : LinkView) (out : ProxyOut O)
    (at : OpenedFor disk FULL bytes x) → OnlyRead (disk a) (disk x.journal.disk) → (disk x.journal.disk).faults ≡ (disk a).faults → link x.journal.disk ≡ link a
    → ((h : History) → WalletStands disk x h → ServesLinks link disk (record { vendor = vendor; limit = limit; budget = budget; limits = x.book.limits }) links x.journal.disk (state_at h (now x 0 up)) now_up out)
    → ProxiesLinksOf link disk (record { vendor = vendor; limit = limit; budget = budget; limits = FULL }) links bytes a up (proxied_status out) now_up (proxied_outside out)
proxies_book {O = O} link disk vendor limit budget links bytes a x up now_up out at read calm same served =
    go out (subst (λ (l : Limits). ServesLinks link disk (record { vendor = vendor; limit = limit; budget = budget; limits = l }) links x.journal.disk (state_at at.history (now x 0 up)) now_up out) at.limits' (served at.history at.wallet))
  where
    bounds : Bounds
    bounds = record { vendor = vendor; limit = limit; budget = budget; limits = FULL }

    s : ProxyState
    s = state_at at.history (now x 0 up)

    sound : IsSound bounds s
    sound = opened_sound disk bounds bytes x up at

    go : (r : ProxyOut O) → ServesLinks link disk bounds links x.journal.disk s now_up r → ProxiesLinksOf link disk bounds links bytes a up (proxied_status r) now_up (proxied_outside r)
    go (outs.Done y n paid) by = (
      s,
      by.0,
      proxied_from link disk bounds bytes a x y paid up now_up by.0 at read same by.1 (all_goes bounds links n by.0 s (link x.journal.disk) (link y.journal.disk) sound by.2),
      by.1.stands.paid',
      subst (λ (v : LinkView). ServedAll (ProxyStep bounds) OfLinks links n by.0 s v (link y.journal.disk)) same by.2,
    )
    go (outs.Link y) by = (
      s,
      by.0,
      proxied_from link disk bounds bytes a x y by.1 up now_up by.0 at read same by.2 (links_goes bounds by.3.n by.0 s (link x.journal.disk) by.3.between sound by.3.links_had),
      subst (λ (v : LinkView). ServedSome (ProxyStep bounds) OfLinks links by.0 s v (link y.journal.disk)) same by.3,
    )
    go (outs.NoMemory y) by = (subst (λ (d : O). Untouched link disk a d) (sym by.0) (record { link' = same; read = read }), by.2)
    go (outs.Halted d) by =
        let halted = by.4 in
        let tells : Type 0 = IsSome (link a).sessions in
        let doubted : Doubted bounds (length by.0 + 1) s (state_after s by.0) by.1 by.2 now_up = links_doubt bounds links by.0 s (link x.journal.disk) by.1 by.2 now_up by.3 (link d) sound by.5 in
        let until : MovedBy history_of tells (disk x.journal.disk) (disk halted.taken) s by.0 =
        subst (λ (v : LinkView). MovedBy history_of (IsSome v.sessions) (disk x.journal.disk) (disk halted.taken) s by.0) same halted.until in
        let alike : is_some (link halted.taken).sessions ≡ is_some (link a).sessions = halted.tells ∙ ap (λ (v : LinkView). is_some v.sessions) same in (
          s,
          by.0,
          by.1,
          by.2,
          by.3,
          record {
            encoded = encodes_state disk bytes x up at;
            leaves = halted.halts.leaves;
            lawful = doubted.lawful;
            within = doubted.within;
            asks = doubted.asks;
            taken = halted.taken;
            quiet = halted.quiet ∙ calm;
            aside = λ told'. until.aside told' ∙ ap (λ (l : List ℕ). l ++ sent_of by.0) read.aside;
            until = read_then_moved tells (disk a) (disk x.journal.disk) (disk halted.taken) s by.0 read until;
            rose = halted.halts.rose;
            since = subst (λ (told : Bool). Ran (disk halted.taken) (disk d) (InDoubt (IsTrue told) (state_after s by.0).history (disk halted.taken).aside (by.1 ++ by.2 ∷ []) by.3)) alike halted.halts.since;
          },
          subst (λ (v : LinkView). InDoubtLinks bounds links by.0 s v by.1 by.2 now_up by.3 (link d)) same by.5,
        )
