-- What founding a journal leaves.
use Rattle.std.proofs.Common.{◌≡◌, ℕ, ◌≤◌, max, false, List, [], ◌∷◌, length, take, Option, Some, None, refl, sym, ◌∙◌, ap, subst, arith}
use Rattle.std.specs.Prelude.{option_map}
use Rattle.mc_outside.specs.Bytes.{put}
use Rattle.mc_outside.specs.DiskView.{DiskView, DiskGoes, CallPairs, Follows, LeavesNoMore, IsSynced, Torn, CutShort, Ran}
use Rattle.mc_outside.proofs.Runs.{ran_quiet, ran_then}
use Rattle.scrip_journal.specs.Layout.{header, Encodes}
use Rattle.scrip_journal.specs.States.{AtRest, IsJournal, IsChainOf}
use Rattle.scrip_journal.specs.Opens.{NoLonger}

-- an image of the disk before is no longer than nine bytes or some image
IsShort : DiskView → List ℕ → Type 0
IsShort a c = (d : List ℕ) × a.leaves d × (length c ≤ max 9 (length d))

at_first : (a : DiskView) (c : List ℕ) → a.leaves c → IsShort a c
unfolding IsShort
at_first a c l = (c, l, omega arith)

after_cut : (a b : DiskView) → Follows (CutShort 0) a b → (c : List ℕ) → b.leaves c → IsShort a c
unfolding IsShort
after_cut a b follows c l = let from = follows c l in (from.0, from.1, omega (arith, from.2.no_longer))

after_write : (a b w : DiskView) → Follows (CutShort 0) a b → Follows (Torn 0 9) b w → (c : List ℕ) → w.leaves c → IsShort a c
unfolding IsShort
after_write a b w cut written c l =
    let from = written c l in
    let first = cut from.0 from.1 in
    (first.0, first.1, omega (arith, from.2.no_longer, first.2.no_longer))

quietly : (a b v : DiskView) → v.aside ≡ a.aside → DiskGoes v b → CallPairs v b → ((c : List ℕ) → v.leaves c → IsShort a c) → ((c : List ℕ) → b.leaves c → IsShort a c) → Ran v b (NoLonger a)
unfolding IsShort
quietly a b v same goes pairs before after = ran_quiet v b (IsShort a) a.aside same goes pairs before after

module _ (a b : DiskView) (goes : DiskGoes a b) (pairs : CallPairs a b) (cut : Follows (CutShort 0) a b) where
  pub cut_ran : Ran a b (NoLonger a)
  cut_ran = quietly a b a refl goes pairs (at_first a) (after_cut a b cut)

  module _ (w : DiskView) (goes_on : DiskGoes b w) (pairs_on : CallPairs b w) (written : Follows (Torn 0 9) b w) where
    pub write_ran : Ran a w (NoLonger a)
    write_ran = ran_then a b w (NoLonger a) cut_ran (quietly a w b goes.aside goes_on pairs_on (after_cut a b cut) (after_write a b w cut written))

    pub sync_ran : (s : DiskView) → DiskGoes w s → CallPairs w s → LeavesNoMore w s → Ran a s (NoLonger a)
    sync_ran s last last_pairs less =
        ran_then a w s (NoLonger a) write_ran
        (quietly a s w (goes_on.aside ∙ goes.aside) last last_pairs (after_write a b w cut written) (λ c l. after_write a b w cut written c (less c l)))

-- the header and a closed gate encode no entries
pub empty_stands : Encodes [] (77 ∷ 67 ∷ 74 ∷ 82 ∷ 78 ∷ 76 ∷ 49 ∷ 10 ∷ 0 ∷ [])
unfolding header
empty_stands = record { fits = tt; most = omega arith; gate = 0; rest = []; closed = λ e. absurd (cc e); shape = refl }

pub is_founded : {D : Type 0} (view : D → DiskView) (a b w : DiskView) (d : D) (x : List ℕ) (j : AtRest D) → a.contents ≡ Some x → b.contents ≡ option_map (take 0) a.contents
    → w.contents ≡ option_map (put 0 (77 ∷ 67 ∷ 74 ∷ 82 ∷ 78 ∷ 76 ∷ 49 ∷ 10 ∷ 0 ∷ [])) b.contents → (view d).contents ≡ w.contents → IsSynced (view d)
    → j.disk ≡ d → j.size ≡ 9 → j.entries ≡ 0 → j.switched ≡ false → j.chain ≡ None → IsJournal view j []
is_founded view a b w d x j told cut written same synced disk size entries switched none =
    let bytes = 77 ∷ 67 ∷ 74 ∷ 82 ∷ 78 ∷ 76 ∷ 49 ∷ 10 ∷ 0 ∷ [] in
    let cut_told : b.contents ≡ Some [] = cut ∙ ap (λ (o : Option (List ℕ)). option_map (take 0) o) told in
    let now_told : (view d).contents ≡ Some bytes = same ∙ written ∙ ap (λ (o : Option (List ℕ)). option_map (put 0 bytes) o) cut_told in
    record {
      bytes = bytes;
      told = ap (λ e. (view e).contents) disk ∙ now_told;
      stands = empty_stands;
      size_is = size;
      entries_is = entries;
      switched_is = switched;
      chain_is = subst (λ (c : Option (List ℕ)). IsChainOf c []) (sym none) refl;
      synced = λ c l. synced bytes now_told c (subst (λ e. (view e).leaves c) disk l);
    }
