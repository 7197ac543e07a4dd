-- What the calls of a journal leave, from what the disk's calls promise.
use Rattle.std.proofs.Common.{◌≡◌, ◌⊎◌, inl, ℕ, Bool, ◌+◌, ◌≤◌, List, [], ◌∷◌, ◌++◌, length, drop, Option, Some, refl, sym, ◌∙◌, ap, subst, arith, append_assoc, length-append}
use Rattle.std.specs.Prelude.{option_map}
use Rattle.mc_outside.specs.Bytes.{put}
use Rattle.mc_outside.specs.DiskView.{DiskView, DiskGoes, CallPairs, Follows, LeavesNoMore, IsSynced, Torn, Ran}
use Rattle.mc_outside.proofs.Runs.{ran_quiet, ran_then}
use Rattle.mc_requests.specs.declared.limits.TheConstants.Limits.{MOST_JOURNAL}
use Rattle.mc_records.specs.Entry.{Entry, Fits}
use Rattle.mc_records.specs.Chains.{has_switch}
use Rattle.mc_records.specs.Sizes.{size}
use Rattle.scrip_journal.specs.Layout.{framed, body, Encodes}
use Rattle.scrip_journal.specs.States.{AtRest, WithNext, IsJournal, IsStaged, IsChainOf}
use Rattle.scrip_journal.specs.Exits.{EncodesNoOutput, EitherNoOutput}
use Rattle.scrip_journal.proofs.Bytes.{torn_behind, written_behind, torn_gate, written_gate}
use Rattle.scrip_journal.proofs.Bodies.{stands_either, stands_more, body_long, size_more, framed_long}

module _ {D : Type 0} (view : D → DiskView) (j : AtRest D) (h : List Entry) (is : IsJournal view j h) (gate : ℕ) (gate_is : gate + 1 ≡ j.size) where
  place : gate ≡ length (body h)
  place = omega (arith, gate_is, is.size_is, body_long h)

  pub now_stands : (c : List ℕ) → (view j.disk).leaves c → Encodes h c
  now_stands c l = subst (Encodes h) (sym (is.synced c l)) is.stands

  -- after the write behind the gate
  pub stage_leaves : (b : DiskView) (n : ℕ) → Follows (Torn (gate + 1) n) (view j.disk) b → (c : List ℕ) → b.leaves c → Encodes h c
  stage_leaves b n follows c l =
      let from = follows c l in
      let torn : Torn (gate + 1) n is.bytes c = subst (λ (d : List ℕ). Torn (gate + 1) n d c) (is.synced from.0 from.1) from.2 in
      let t = torn_behind (body h) gate place is.stands.gate is.stands.rest is.bytes is.stands.shape n c torn in
      record { fits = is.stands.fits; most = is.stands.most; gate = is.stands.gate; rest = t.0; closed = is.stands.closed; shape = t.1 }

  pub stage_ran : (b : DiskView) (n : ℕ) → DiskGoes (view j.disk) b → CallPairs (view j.disk) b → Follows (Torn (gate + 1) n) (view j.disk) b
      → Ran (view j.disk) b (EncodesNoOutput h (view j.disk).aside)
  stage_ran b n g pairs follows = ran_quiet (view j.disk) b (Encodes h) (view j.disk).aside refl g pairs now_stands (stage_leaves b n follows)

  -- and after the sync
  pub stage_sync_ran : (b c : DiskView) (n : ℕ) → DiskGoes (view j.disk) b → CallPairs (view j.disk) b → Follows (Torn (gate + 1) n) (view j.disk) b
      → DiskGoes b c → CallPairs b c → LeavesNoMore b c → Ran (view j.disk) c (EncodesNoOutput h (view j.disk).aside)
  stage_sync_ran b c n g pairs follows g2 pairs2 less =
      ran_then (view j.disk) b c (EncodesNoOutput h (view j.disk).aside) (stage_ran b n g pairs follows)
      (ran_quiet b c (Encodes h) (view j.disk).aside g.aside g2 pairs2 (stage_leaves b n follows) (λ i l. stage_leaves b n follows i (less i l)))

  pub is_staged : (b : DiskView) (c : D) (block : List ℕ) (n : ℕ) (e : Entry) (switched : Bool) (after : Option (List ℕ)) (s : WithNext D) → b.contents ≡ option_map (put (gate + 1) block) (view j.disk).contents → (view c).contents ≡ b.contents
      → IsSynced (view c) → Fits e → block ≡ framed h e ++ 0 ∷ [] → length block ≡ n → s ≡ record { disk = c; gate = gate; size = gate + n + 1; entries = j.entries; limit = j.limit; switched = switched; chain = after }
      → switched ≡ has_switch (h ++ e ∷ []) → IsChainOf after (h ++ e ∷ []) → IsStaged view s h e
  is_staged b c block n e switched after s written same synced e_fits block_is n_is s_is switched_is chain_is =
      let bytes = put (gate + 1) block is.bytes in
      let dr = drop (gate + 1 + length block) is.bytes in
      let told : (view c).contents ≡ Some bytes = same ∙ written ∙ ap (λ (o : Option (List ℕ)). option_map (put (gate + 1) block) o) is.told in
      let tail : block ++ dr ≡ framed h e ++ 0 ∷ dr = ap (λ (l : List ℕ). l ++ dr) block_is ∙ append_assoc (framed h e) (0 ∷ []) dr in
      let long : length block ≡ length (framed h e) + 1 = ap (λ (l : List ℕ). length l) block_is ∙ length-append (framed h e) (0 ∷ []) in
      subst (λ (t : WithNext D). IsStaged view t h e) (sym s_is) (record {
        bytes = bytes;
        told = told;
        fits = is.stands.fits;
        next_fits = e_fits;
        gate = is.stands.gate;
        rest = dr;
        closed = is.stands.closed;
        shape = written_behind (body h) gate place is.stands.gate is.stands.rest is.bytes is.stands.shape block ∙ ap (λ (l : List ℕ). body h ++ is.stands.gate ∷ l) tail;
        gate_is = omega (arith, gate_is, is.size_is);
        size_is = omega (arith, size_more h e, framed_long h e, long, n_is, gate_is, is.size_is);
        entries_is = is.entries_is;
        switched_is = switched_is;
        chain_is = chain_is;
        synced = synced bytes told;
      })

module _ {D : Type 0} (view : D → DiskView) (s : WithNext D) (h : List Entry) (e : Entry) (k : IsStaged view s h e) (most : s.size ≤ MOST_JOURNAL) where
  place_of : s.gate ≡ length (body h)
  place_of = omega (arith, k.gate_is, body_long h)

  least : size h ≤ MOST_JOURNAL
  least = omega (arith, k.size_is, most, size_more h e)

  new_most : size (h ++ e ∷ []) ≤ MOST_JOURNAL
  new_most = omega (arith, k.size_is, most)

  pub staged_stands : (c : List ℕ) → (view s.disk).leaves c → Encodes h c ⊎ Encodes (h ++ e ∷ []) c
  staged_stands c l = inl (record { fits = k.fits; most = least; gate = k.gate; rest = framed h e ++ 0 ∷ k.rest; closed = k.closed; shape = k.synced c l ∙ k.shape })

  pub open_leaves : (b : DiskView) → Follows (Torn s.gate 1) (view s.disk) b → (c : List ℕ) → b.leaves c → Encodes h c ⊎ Encodes (h ++ e ∷ []) c
  open_leaves b follows c l =
      let from = follows c l in
      let torn : Torn s.gate 1 k.bytes c = subst (λ (d : List ℕ). Torn s.gate 1 d c) (k.synced from.0 from.1) from.2 in
      let is = torn_gate (body h) s.gate place_of k.gate (framed h e ++ 0 ∷ k.rest) k.bytes k.shape c torn in
      stands_either h e (k.rest ++ is.1) c is.0 k.fits k.next_fits least new_most (is.2 ∙ ap (λ (l : List ℕ). body h ++ is.0 ∷ l) (append_assoc (framed h e) (0 ∷ k.rest) is.1))

  pub open_ran : (b : DiskView) → DiskGoes (view s.disk) b → CallPairs (view s.disk) b → Follows (Torn s.gate 1) (view s.disk) b → Ran (view s.disk) b (EitherNoOutput h e (view s.disk).aside)
  open_ran b g pairs follows = ran_quiet (view s.disk) b (λ c. Encodes h c ⊎ Encodes (h ++ e ∷ []) c) (view s.disk).aside refl g pairs staged_stands (open_leaves b follows)

  pub open_sync_ran : (b c : DiskView) → DiskGoes (view s.disk) b → CallPairs (view s.disk) b → Follows (Torn s.gate 1) (view s.disk) b
      → DiskGoes b c → CallPairs b c → LeavesNoMore b c → Ran (view s.disk) c (EitherNoOutput h e (view s.disk).aside)
  open_sync_ran b c g pairs follows g2 pairs2 less =
      ran_then (view s.disk) b c (EitherNoOutput h e (view s.disk).aside) (open_ran b g pairs follows)
      (ran_quiet b c (λ i. Encodes h i ⊎ Encodes (h ++ e ∷ []) i) (view s.disk).aside g.aside g2 pairs2 (open_leaves b follows) (λ i l. open_leaves b follows i (less i l)))

  pub is_opened : (b : DiskView) (c : D) (j : AtRest D) → b.contents ≡ option_map (put s.gate (1 ∷ [])) (view s.disk).contents → (view c).contents ≡ b.contents → IsSynced (view c)
      → j ≡ record { disk = c; size = s.size; entries = s.entries + 1; limit = s.limit; switched = s.switched; chain = s.chain } → IsJournal view j (h ++ e ∷ [])
  is_opened b c j written same synced j_is =
      let bytes = put s.gate (1 ∷ []) k.bytes in
      let told : (view c).contents ≡ Some bytes = same ∙ written ∙ ap (λ (o : Option (List ℕ)). option_map (put s.gate (1 ∷ [])) o) k.told in
      subst (λ (t : AtRest D). IsJournal view t (h ++ e ∷ [])) (sym j_is) (record {
        bytes = bytes;
        told = told;
        stands = stands_more h e k.rest bytes k.fits k.next_fits new_most (written_gate (body h) s.gate place_of k.gate (framed h e ++ 0 ∷ k.rest) k.bytes k.shape);
        size_is = k.size_is;
        entries_is = omega (arith, k.entries_is, length-append h (e ∷ []));
        switched_is = k.switched_is;
        chain_is = k.chain_is;
        synced = synced bytes told;
      })
