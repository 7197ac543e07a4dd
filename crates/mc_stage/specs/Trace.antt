-- That a trace is an outside.
use Rattle.std.specs.Prelude.{◌≡◌, ◌≢◌, ◌↔◌, ℕ, ◌+◌, ◌-◌, ◌^◌, ◌≤◌, min, Bool, true, false, ◌&&◌, IsTrue, List, [], ◌∷◌, ◌++◌, length, take, drop, Option, Some, refl}
use Rattle.std.proofs.Common.{inl, inr, ⊎_elim, sym, ◌∙◌, ap, subst, arith, append_assoc, length-append, take-append-drop}
use Rattle.std.proofs.lemmas.List.{take_all, append-nil, take-append-le}
use Rattle.std.proofs.Math.Seq.{take-append-add}
use Rattle.std.proofs.lemmas.Bool.{cases_lt}
use Rattle.mc_outside.specs.Bytes.{BeginsWith}
use Rattle.mc_outside.specs.DiskView.{IsDisk, Goes, DiskGoes, LinkKeeps}
use Rattle.mc_outside.specs.LinkView.{IsLink, LinkGoes, Session, on_last, hear, send, ended, fresh, all_sent}
use Rattle.mc_outside.proofs.Sessions.{all_sent-more}
use Rattle.mc_stage.specs.Lists.{torn_none, cut_none, cut_done, torn_done}
use Rattle.mc_stage.specs.Model.{Entry, Put, Cut, Sync, Take, Hear, End, Send, Model, is_taken, last_to_end, start, step, run, run-append, Trace, model_at, model, disk_of, link_of, IsDiskEntry, IsLinkEntry, Each, DiskMoved, LinkMoved}

-- what disk entries keep
pub record LinkSame (m n : Model) : Type 0 where
  pub sessions : n.sessions ≡ m.sessions

pub keeps_link : (more : List Entry) (m : Model) → Each IsDiskEntry more → LinkSame m (run more m)
keeps_link [] m k = record { sessions = refl }
keeps_link (Put a b ∷ es) m k = let r = keeps_link es (step (Put a b) m) k.1 in record { sessions = r.sessions }
keeps_link (Cut n ∷ es) m k = let r = keeps_link es (step (Cut n) m) k.1 in record { sessions = r.sessions }
keeps_link (Sync ∷ es) m k = let r = keeps_link es (step Sync m) k.1 in record { sessions = r.sessions }
keeps_link (Take ∷ es) m k = absurd k.0
keeps_link (Hear b ∷ es) m k = absurd k.0
keeps_link (End ∷ es) m k = absurd k.0
keeps_link (Send b ∷ es) m k = absurd k.0

-- what link entries keep
pub record DiskSame (m n : Model) : Type 0 where
  pub contents : n.contents ≡ m.contents
  pub leaves : (c : List ℕ) → n.leaves c ↔ m.leaves c

pub keeps_disk : (more : List Entry) (m : Model) → Each IsLinkEntry more → DiskSame m (run more m)
keeps_disk [] m k = record { contents = refl; leaves = λ c. (λ l. l, λ l. l) }
keeps_disk (Put a b ∷ es) m k = absurd k.0
keeps_disk (Cut n ∷ es) m k = absurd k.0
keeps_disk (Sync ∷ es) m k = absurd k.0
keeps_disk (Take ∷ es) m k = let r = keeps_disk es (step Take m) k.1 in record { contents = r.contents; leaves = r.leaves }
keeps_disk (Hear b ∷ es) m k = let r = keeps_disk es (step (Hear b) m) k.1 in record { contents = r.contents; leaves = r.leaves }
keeps_disk (End ∷ es) m k = let r = keeps_disk es (step End m) k.1 in record { contents = r.contents; leaves = r.leaves }
keeps_disk (Send b ∷ es) m k = let r = keeps_disk es (step (Send b) m) k.1 in record { contents = r.contents; leaves = r.leaves }

begins_none : (x : List ℕ) → BeginsWith x x
begins_none x = ([], sym (append-nil x))

begins_then : (x y z : List ℕ) → BeginsWith x y → BeginsWith y z → BeginsWith x z
begins_then x y z a b = (a.0 ++ b.0, b.1 ∙ ap (λ (l : List ℕ). l ++ b.0) a.1 ∙ append_assoc x a.0 b.0)

begins_same : (x y : List ℕ) → y ≡ x → BeginsWith x y
begins_same x y e = ([], e ∙ sym (append-nil x))

sent_take : (ss : List Session) → all_sent (ss ++ fresh ∷ []) ≡ all_sent ss
sent_take [] = refl
sent_take (s ∷ ss) = ap (λ (l : List ℕ). s.sent ++ l) (sent_take ss)

sent_hear : (ss : List Session) (b : List ℕ) → all_sent (on_last (hear b) ss) ≡ all_sent ss
sent_hear [] b = refl
sent_hear (s ∷ []) b = refl
sent_hear (s ∷ t ∷ ss) b = ap (λ (l : List ℕ). s.sent ++ l) (sent_hear (t ∷ ss) b)

sent_ended : (ss : List Session) → all_sent (on_last ended ss) ≡ all_sent ss
sent_ended [] = refl
sent_ended (s ∷ []) = refl
sent_ended (s ∷ t ∷ ss) = ap (λ (l : List ℕ). s.sent ++ l) (sent_ended (t ∷ ss))

sent_send : (ss : List Session) (x : List ℕ) → BeginsWith (all_sent ss) (all_sent (on_last (send x) ss))
sent_send ss x = elim (all_sent-more ss x) [
  | inl e ↦ (x, e)
  | inr e ↦ ([], ap (λ (l : List Session). all_sent (on_last (send x) l)) e ∙ ap (λ (l : List Session). all_sent l ++ []) (sym e))
]

pub grows : (more : List Entry) (m : Model) → Each IsLinkEntry more → BeginsWith (all_sent m.sessions) (all_sent (run more m).sessions)
grows [] m k = begins_none _
grows (Put a b ∷ es) m k = absurd k.0
grows (Cut n ∷ es) m k = absurd k.0
grows (Sync ∷ es) m k = absurd k.0
grows (Take ∷ es) m k = begins_then _ _ _ (begins_same _ _ (sent_take m.sessions)) (grows es (step Take m) k.1)
grows (Hear b ∷ es) m k = begins_then _ _ _ (begins_same _ _ (sent_hear m.sessions b)) (grows es (step (Hear b) m) k.1)
grows (End ∷ es) m k = begins_then _ _ _ (begins_same _ _ (sent_ended m.sessions)) (grows es (step End m) k.1)
grows (Send b ∷ es) m k = begins_then _ _ _ (sent_send m.sessions b) (grows es (step (Send b) m) k.1)

-- the contents and what the last sync left are images
pub images : (log : List Entry) (m : Model) → m.leaves m.contents × m.leaves m.synced → (run log m).leaves (run log m).contents × (run log m).leaves (run log m).synced
images [] m h = h
images (Put a b ∷ es) m h = images es (step (Put a b) m) ((m.contents, h.0, torn_done a b m.contents), (m.synced, h.1, torn_none a (length b) m.synced))
images (Cut n ∷ es) m h = images es (step (Cut n) m) ((m.contents, h.0, cut_done n m.contents), (m.synced, h.1, cut_none n m.synced))
images (Sync ∷ es) m h = images es (step Sync m) (refl, refl)
images (Take ∷ es) m h = images es (step Take m) h
images (Hear b ∷ es) m h = images es (step (Hear b) m) h
images (End ∷ es) m h = images es (step End m) h
images (Send b ∷ es) m h = images es (step (Send b) m) h

and_false : (b : Bool) → (b && is_taken []) ≡ false
and_false true = refl
and_false false = refl

taken : (b : Bool) (ss : List Session) → IsTrue (b && is_taken ss) → ss ≢ []
taken b ss s e = absurd (cc (s, e, and_false b))

pub same_some : {A : Type 0} (x y : A) → ◌≡◌ {A = Option A} (Some x) (Some y) → x ≡ y
same_some x y e = cc e

last_of : (ss : List Session) (s : Session) → s.to_end ≡ last_to_end (ss ++ s ∷ [])
last_of [] s = refl
last_of (t ∷ []) s = refl
last_of (t ∷ u ∷ ss) s = last_of (u ∷ ss) s

pub is_link : (t : Trace) → IsLink (link_of t)
is_link t = record {
  taken = λ s e. taken t.stands (model t).sessions s (same_some _ _ e);
  last_end = λ ss s stands e. last_of ss s ∙ ap last_to_end (same_some _ _ (sym e));
  below = omega arith;
}

pub is_disk : (t : Trace) → IsDisk (disk_of t)
is_disk t = record {
  possible = λ x e. subst (model t).leaves (same_some _ _ e) (images t.log (start t.base) (refl, refl)).0;
  counts = λ u c le left. (
    length t.log,
    le,
    omega arith,
    subst (λ (l : List Entry). (run l (start t.base)).leaves c) (sym (take_all (length t.log) t.log (omega arith))) left,
    ap (λ (l : List Entry). all_sent (run l (start t.base)).sessions) (sym (take_all (length t.log) t.log (omega arith))),
  );
  now = λ c s p. let all = take_all p.0 t.log p.1 in (subst (λ (l : List Entry). (run l (start t.base)).leaves c) all p.3, p.4 ∙ ap (λ (l : List Entry). all_sent (run l (start t.base)).sessions) all);
  below = omega arith;
}

Each-append : (P : Entry → Type 0) (xs ys : List Entry) → Each P xs → Each P ys → Each P (xs ++ ys)
Each-append P [] ys a b = b
Each-append P (x ∷ xs) ys a b = (a.0, Each-append P xs ys a.1 b)

Each-take : (P : Entry → Type 0) (n : ℕ) (xs ys : List Entry) → Each P (xs ++ ys) → Each P xs × Each P ys
Each-take P n [] ys a = (tt, a)
Each-take P n (x ∷ xs) ys a = let r = Each-take P n xs ys a.1 in ((a.0, r.0), r.1)

-- any calls
pub goes : (a b : Trace) (more : List Entry) → b.base ≡ a.base → b.log ≡ a.log ++ more → min a.faults (2 ^ 64 - 1) ≤ min b.faults (2 ^ 64 - 1) → Goes (disk_of a) (disk_of b)
goes a b more base log faults = record {
  later = longer;
  faults = faults;
  tells = refl;
  joins = λ t c s le. (
    λ p. elim (cases_lt p.0 (length a.log)) [
      | inl early ↦ inl (
        p.0,
        p.1,
        omega (arith, early),
        subst (λ (l : List Entry). (run l (start a.base)).leaves c) (front p.0 (omega (arith, early))) (subst (λ (x : List ℕ). (run (take p.0 b.log) (start x)).leaves c) base p.3),
        p.4 ∙ ap (λ (x : List ℕ). all_sent (run (take p.0 b.log) (start x)).sessions) base ∙ ap (λ (l : List Entry). all_sent (run l (start a.base)).sessions) (front p.0 (omega (arith, early))),
      )
      | inr late ↦ inr (p.0, late, p.2, p.3, p.4)
    ],
    λ q. ⊎_elim (λ p. (
      p.0,
      p.1,
      omega (arith, p.2, longer),
      subst (λ (x : List ℕ). (run (take p.0 b.log) (start x)).leaves c) (sym base) (subst (λ (l : List Entry). (run l (start a.base)).leaves c) (sym (front p.0 p.2)) p.3),
      p.4 ∙ ap (λ (l : List Entry). all_sent (run l (start a.base)).sessions) (sym (front p.0 p.2)) ∙ ap (λ (x : List ℕ). all_sent (run (take p.0 b.log) (start x)).sessions) (sym base),
    ))
        (λ p. (p.0, omega (arith, le, p.1), p.2, p.3, p.4)) q,
  );
}
  where
    longer : length a.log ≤ length b.log
    longer = omega (arith, ap length log, length-append a.log more)

    front : (k : ℕ) → k ≤ length a.log → take k b.log ≡ take k a.log
    front k le = ap (λ (l : List Entry). take k l) log ∙ take-append-le k a.log more le

model_more : (a b : Trace) (more : List Entry) → b.base ≡ a.base → b.log ≡ a.log ++ more → ◌≡◌ {1} {A = Model} (model b) (run more (model a))
model_more a b more base log =
    ap (λ (x : List ℕ). run b.log (start x)) base ∙ ap (λ (l : List Entry). run l (start a.base)) log ∙ run-append a.log more (start a.base)

clamp : (x y : ℕ) → x ≤ y → min x (2 ^ 64 - 1) ≤ min y (2 ^ 64 - 1)
clamp x y le = omega arith

pub disk_goes : (a b : Trace) → DiskMoved a b → DiskGoes (disk_of a) (disk_of b)
disk_goes a b m = record {
  goes = goes a b m.more m.base m.log (clamp a.faults b.faults m.faults);
  aside = ap (λ (n : Model). all_sent n.sessions) (model_more a b m.more m.base m.log) ∙ ap all_sent (keeps_link m.more (model a) m.kind).sessions;
}

pub disk_keeps : (a b : Trace) → DiskMoved a b → link_of b ≡ link_of a
disk_keeps a b m =
    let whole = model_more a b m.more m.base m.log in
    let same = keeps_link m.more (model a) m.kind in
    let e1 : (model b).sessions ≡ (model a).sessions = ap (λ (n : Model). n.sessions) whole ∙ same.sessions in
    λ i. record { sessions = Some (e1 i); said = Some (m.said i); readings = m.readings i; stands = m.stands i && is_taken (e1 i); at_end = last_to_end (e1 i); over = m.over i; faults = min (m.link_faults i) (2 ^ 64 - 1); doors = Some (m.doors i) }

pub link_keeps : (a b : Trace) → LinkMoved a b → LinkKeeps (disk_of a) (disk_of b)
link_keeps a b m = record {
  goes = goes a b m.more m.base m.log same_faults;
  contents = ap (λ (n : Model). Some n.contents) whole ∙ ap (λ (l : List ℕ). Some l) same.contents;
  faults = ap (λ (n : ℕ). min n (2 ^ 64 - 1)) m.faults;
  leaves = λ c. (λ l. (same.leaves c).0 (subst (λ (n : Model). n.leaves c) whole l), λ l. subst (λ (n : Model). n.leaves c) (back whole) ((same.leaves c).1 l));
  sent = subst (λ (n : Model). BeginsWith (all_sent (model a).sessions) (all_sent n.sessions)) (back whole) (grows m.more (model a) m.kind);
  pairs = λ c s p.
      let j = p.0 - length a.log in
      let k : p.0 ≡ length a.log + j = omega (arith, p.1) in
      let cut : take p.0 b.log ≡ a.log ++ take j m.more = ap (λ (n : ℕ). take n b.log) k ∙ ap (λ (l : List Entry). take (length a.log + j) l) m.log ∙ take-append-add a.log m.more j in
      let there = mid (take j m.more) (p.0) cut in
      let kinds = Each-take IsLinkEntry 0 (take j m.more) (drop j m.more) (subst (Each IsLinkEntry) (sym (take-append-drop j m.more)) m.kind) in
      let early = run (take j m.more) (model a) in
      let s_is : s ≡ all_sent early.sessions = p.4 ∙ ap (λ (n : Model). all_sent n.sessions) there in
      let rest = grows (drop j m.more) early kinds.1 in
      let rest2 = subst (λ (l : List Entry). BeginsWith (all_sent early.sessions) (all_sent (run l (model a)).sessions)) (take-append-drop j m.more)
      (subst (λ (n : Model). BeginsWith (all_sent early.sessions) (all_sent n.sessions)) (back (run-append (take j m.more) (drop j m.more) (model a))) rest) in
      let rest3 = subst (λ (n : Model). BeginsWith (all_sent early.sessions) (all_sent n.sessions)) (back whole) rest2 in (
        ((keeps_disk (take j m.more) (model a) kinds.0).leaves c).0 (subst (λ (n : Model). n.leaves c) there p.3),
        (
          subst (λ (z : List ℕ). BeginsWith (all_sent (model a).sessions) z) (sym s_is) (grows (take j m.more) (model a) kinds.0),
          subst (λ (z : List ℕ). BeginsWith z (all_sent (model b).sessions)) (sym s_is) rest3,
        ),
      );
}
  where
    back : {m n : Model} → ◌≡◌ {1} {A = Model} m n → ◌≡◌ {1} {A = Model} n m
    back e = sym e

    whole : ◌≡◌ {1} {A = Model} (model b) (run m.more (model a))
    whole = model_more a b m.more m.base m.log

    same : DiskSame (model a) (run m.more (model a))
    same = keeps_disk m.more (model a) m.kind

    same_faults : min a.faults (2 ^ 64 - 1) ≤ min b.faults (2 ^ 64 - 1)
    same_faults = omega (arith, m.faults)

    mid : (es : List Entry) (k : ℕ) → take k b.log ≡ a.log ++ es → ◌≡◌ {1} {A = Model} (model_at k b) (run es (model a))
    mid es k cut = ap (λ (x : List ℕ). run (take k b.log) (start x)) m.base ∙ ap (λ (l : List Entry). run l (start a.base)) cut ∙ run-append a.log es (start a.base)

pub link_goes : (a b : Trace) → LinkMoved a b → LinkGoes (link_of a) (link_of b)
link_goes a b m = record {
  faults = clamp a.link_faults b.link_faults m.link_faults;
  over = m.over;
  tells = refl;
  tells_said = refl;
  tells_readings = m.readings;
}

pub disk_none : (a : Trace) → DiskMoved a a
disk_none a = record { base = refl; more = []; log = sym (append-nil a.log); kind = tt; faults = omega arith; said = refl; readings = refl; link_faults = refl; stands = refl; over = refl; doors = refl }

pub disk_then : (a b c : Trace) → DiskMoved a b → DiskMoved b c → DiskMoved a c
disk_then a b c m n = record {
  base = n.base ∙ m.base;
  more = m.more ++ n.more;
  log = n.log ∙ ap (λ (l : List Entry). l ++ n.more) m.log ∙ append_assoc a.log m.more n.more;
  kind = Each-append IsDiskEntry m.more n.more m.kind n.kind;
  faults = omega (arith, m.faults, n.faults);
  said = n.said ∙ m.said;
  readings = n.readings ∙ m.readings;
  link_faults = n.link_faults ∙ m.link_faults;
  stands = n.stands ∙ m.stands;
  over = n.over ∙ m.over;
  doors = n.doors ∙ m.doors;
}

pub link_none : (a : Trace) → LinkMoved a a
link_none a = record { base = refl; more = []; log = sym (append-nil a.log); kind = tt; faults = refl; link_faults = omega arith; over = λ o. o; readings = λ o. o }

pub link_then : (a b c : Trace) → LinkMoved a b → LinkMoved b c → LinkMoved a c
link_then a b c m n = record {
  base = n.base ∙ m.base;
  more = m.more ++ n.more;
  log = n.log ∙ ap (λ (l : List Entry). l ++ n.more) m.log ∙ append_assoc a.log m.more n.more;
  kind = Each-append IsLinkEntry m.more n.more m.kind n.kind;
  faults = n.faults ∙ m.faults;
  link_faults = omega (arith, m.link_faults, n.link_faults);
  over = λ o. n.over (m.over o);
  readings = λ o. m.readings (n.readings o);
}
