-- What one call of a stage promises.
use Rattle.std.proofs.Common.{◌≡◌, inl, inr, ℕ, ◌≤◌, List, [], ◌∷◌, ◌++◌, length, take, refl, sym, ◌∙◌, ap, subst, arith, length-append, Some}
use Rattle.std.specs.Prelude.{option_map}
use Rattle.std.proofs.lemmas.List.{take_all, take-append-le, append-nil}
use Rattle.std.proofs.lemmas.Bool.{cases_lt}
use Rattle.mc_outside.specs.Bytes.{put, Told}
use Rattle.mc_outside.specs.DiskView.{CallPairs, Follows, LeavesNoMore, IsSynced, Torn, CutShort}
use Rattle.mc_outside.specs.LinkView.{all_sent}
use Rattle.mc_stage.specs.Lists.{torn_none, cut_none}
use Rattle.mc_stage.specs.Model.{Entry, Put, Cut, Sync, Model, start, step, run, run-append, Trace, model, disk_of, IsDiskEntry, DiskMoved}
use Rattle.mc_stage.specs.Tape.{Played, push_call}
use Rattle.mc_stage.specs.Trace.{is_disk, disk_goes}

abbrev pub here : Trace → Played
here t = record { first = t.base; calls = t.log }

abbrev pub then : Trace → Played → ℕ → Trace
then t p n = record t { base = p.first; log = p.calls; faults = n }

module _ (t : Trace) (p : Played) (n : ℕ) (same : p ≡ here t) where
  pub failed_moved : t.faults ≤ n → DiskMoved t (then t p n)
  failed_moved le = subst (λ (q : Played). DiskMoved t (then t q n)) (sym same) (record { base = refl; more = []; log = sym (append-nil t.log); kind = tt; faults = le; said = refl; readings = refl; link_faults = refl; stands = refl; over = refl; doors = refl })

  pub failed_torn : (place k : ℕ) → Follows (Torn place k) (disk_of t) (disk_of (then t p n))
  failed_torn place k = subst (λ (q : Played). Follows (Torn place k) (disk_of t) (disk_of (then t q n))) (sym same) (λ c l. (c, l, torn_none place k c))

  pub failed_torn_told : (place k : ℕ) → Told (Torn place k) (disk_of t).contents (disk_of (then t p n)).contents
  failed_torn_told place k = subst (λ (q : Played). Told (Torn place k) (disk_of t).contents (disk_of (then t q n)).contents) (sym same) (λ x e. (x, e, torn_none place k x))

  pub failed_cut : (k : ℕ) → Follows (CutShort k) (disk_of t) (disk_of (then t p n))
  failed_cut k = subst (λ (q : Played). Follows (CutShort k) (disk_of t) (disk_of (then t q n))) (sym same) (λ c l. (c, l, cut_none k c))

  pub failed_cut_told : (k : ℕ) → Told (CutShort k) (disk_of t).contents (disk_of (then t p n)).contents
  failed_cut_told k = subst (λ (q : Played). Told (CutShort k) (disk_of t).contents (disk_of (then t q n)).contents) (sym same) (λ x e. (x, e, cut_none k x))

-- one call was recorded
module _ (t : Trace) (e : Entry) (kind : IsDiskEntry e) where
  abbrev next : Trace
  next = then t (push_call e (here t)) t.faults

  one_moved : DiskMoved t next
  one_moved = record { base = refl; more = e ∷ []; log = refl; kind = (kind, tt); faults = omega arith; said = refl; readings = refl; link_faults = refl; stands = refl; over = refl; doors = refl }

  whole : ◌≡◌ {1} {A = Model} (model next) (step e (model t))
  whole = run-append t.log (e ∷ []) (start t.base)

  one_pairs : CallPairs (disk_of t) (disk_of next)
  one_pairs c s p =
      let aside = (disk_goes t next one_moved).aside in
      elim (cases_lt (length t.log) p.0) [
        | inl late ↦
            let all : take p.0 (t.log ++ e ∷ []) ≡ t.log ++ e ∷ [] = take_all p.0 (t.log ++ e ∷ []) (omega (arith, late, length-append t.log (e ∷ []))) in
            (p.4 ∙ ap (λ (l : List Entry). all_sent (run l (start t.base)).sessions) all ∙ aside, inr (subst (λ (l : List Entry). (run l (start t.base)).leaves c) all p.3))
        | inr early ↦
            let some : take p.0 (t.log ++ e ∷ []) ≡ t.log = take-append-le p.0 t.log (e ∷ []) early ∙ take_all p.0 t.log p.1 in
            (p.4 ∙ ap (λ (l : List Entry). all_sent (run l (start t.base)).sessions) some, inl (subst (λ (l : List Entry). (run l (start t.base)).leaves c) some p.3))
      ]

module _ (t : Trace) (p : Played) (e : Entry) (kind : IsDiskEntry e) (more : p ≡ push_call e (here t)) where
  pub done_moved : DiskMoved t (then t p t.faults)
  done_moved = subst (λ (q : Played). DiskMoved t (then t q t.faults)) (sym more) (one_moved t e kind)

  pub done_pairs : CallPairs (disk_of t) (disk_of (then t p t.faults))
  done_pairs = subst (λ (q : Played). CallPairs (disk_of t) (disk_of (then t q t.faults))) (sym more) (one_pairs t e kind)

  pub done_contents : (model (then t p t.faults)).contents ≡ (step e (model t)).contents
  done_contents = subst (λ (q : Played). (model (then t q t.faults)).contents ≡ (step e (model t)).contents) (sym more) (ap (λ (m : Model). m.contents) (whole t e kind))

  pub done_leaves : (c : List ℕ) → (model (then t p t.faults)).leaves c → (step e (model t)).leaves c
  done_leaves = subst (λ (q : Played). (c : List ℕ) → (model (then t q t.faults)).leaves c → (step e (model t)).leaves c) (sym more) (λ c l. subst (λ (m : Model). m.leaves c) (whole t e kind) l)

pub put_written : (t : Trace) (p : Played) (place : ℕ) (bytes : List ℕ) → p ≡ push_call (Put place bytes) (here t) → (disk_of (then t p t.faults)).contents ≡ option_map (put place bytes) (disk_of t).contents
put_written t p place bytes more = ap (λ (l : List ℕ). Some l) (done_contents t p (Put place bytes) tt more)

pub put_crash : (t : Trace) (p : Played) (place : ℕ) (bytes : List ℕ) → p ≡ push_call (Put place bytes) (here t) → Follows (Torn place (length bytes)) (disk_of t) (disk_of (then t p t.faults))
put_crash t p place bytes more c l = done_leaves t p (Put place bytes) tt more c l

pub cut_cut : (t : Trace) (p : Played) (size : ℕ) → p ≡ push_call (Cut size) (here t) → (disk_of (then t p t.faults)).contents ≡ option_map (take size) (disk_of t).contents
cut_cut t p size more = ap (λ (l : List ℕ). Some l) (done_contents t p (Cut size) tt more)

pub cut_crash : (t : Trace) (p : Played) (size : ℕ) → p ≡ push_call (Cut size) (here t) → Follows (CutShort size) (disk_of t) (disk_of (then t p t.faults))
cut_crash t p size more c l = done_leaves t p (Cut size) tt more c l

pub sync_same : (t : Trace) (p : Played) → p ≡ push_call Sync (here t) → (disk_of (then t p t.faults)).contents ≡ (disk_of t).contents
sync_same t p more = ap (λ (l : List ℕ). Some l) (done_contents t p Sync tt more)

pub sync_crash : (t : Trace) (p : Played) → p ≡ push_call Sync (here t) → LeavesNoMore (disk_of t) (disk_of (then t p t.faults))
sync_crash t p more c l = subst (λ (x : List ℕ). (model t).leaves x) (sym (done_leaves t p Sync tt more c l)) ((is_disk t).possible (model t).contents refl)

pub sync_synced : (t : Trace) (p : Played) → p ≡ push_call Sync (here t) → IsSynced (disk_of (then t p t.faults))
sync_synced t p more x told c l = done_leaves t p Sync tt more c l ∙ (let e : Some (model t).contents ≡ Some x = sym (sync_same t p more) ∙ told in cc e)
