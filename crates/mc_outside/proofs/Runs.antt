-- How stretches of calls are joined.
use Rattle.std.proofs.Common.{◌≡◌, inl, inr, ⊎_elim, ℕ, List, refl, sym, ◌∙◌, subst, arith}
use Rattle.mc_outside.specs.DiskView.{DiskView, IsDisk, Goes, DiskGoes, LinkKeeps, CallPairs, LeavesNoMore, OnlyRead, Ran}
use Rattle.mc_outside.specs.Bytes.{BeginsWith}

pub stays : (a : DiskView) → IsDisk a → Goes a a
stays a d = record {
  later = omega arith;
  faults = omega arith;
  tells = refl;
  joins = λ t c s le. (λ p. inl p, λ p. ⊎_elim (λ q. q) (λ q. let h = d.now c s q in subst (λ (z : List ℕ). a.pairs t c z) (sym h.1) (d.counts t c le h.0)) p);
}

pub follows : (a b c : DiskView) → Goes a b → Goes b c → Goes a c
follows a b c g h = record {
  later = omega arith;
  faults = omega arith;
  tells = h.tells ∙ g.tells;
  joins = λ t i s le. (
    (λ p. ⊎_elim (λ q. ⊎_elim (λ r. inl r) (λ r. inr ((h.joins a.moment i s g.later).1 (inl r))) ((g.joins t i s le).0 q)) (λ q. inr ((h.joins a.moment i s g.later).1 (inr q))) ((h.joins t i s (omega (arith, g.later, le))).0 p)),
    (λ p. ⊎_elim (λ q. (h.joins t i s (omega (arith, g.later, le))).1 (inl ((g.joins t i s le).1 (inl q)))) (λ q. ⊎_elim (λ r. (h.joins t i s (omega (arith, g.later, le))).1 (inl ((g.joins t i s le).1 (inr r)))) (λ r. (h.joins t i s (omega (arith, g.later, le))).1 (inr r)) ((h.joins a.moment i s g.later).0 q)) p),
  );
}

-- no call
pub ran_none : (a : DiskView) (P : List ℕ → List ℕ → Type 0) → IsDisk a → ((c : List ℕ) → a.leaves c → P c a.aside) → Ran a a P
ran_none a P d here = record {
  goes = stays a d;
  each = λ c s p. let h = d.now c s p in subst (λ (z : List ℕ). P c z) (sym h.1) (here c h.0);
}

-- one stretch after another
pub ran_then : (a b c : DiskView) (P : List ℕ → List ℕ → Type 0) → Ran a b P → Ran b c P → Ran a c P
ran_then a b c P r q = record {
  goes = follows a b c r.goes q.goes;
  each = λ i s p. ⊎_elim (r.each i s) (q.each i s) ((q.goes.joins a.moment i s r.goes.later).0 p);
}

pub ran_weaker : (a b : DiskView) (P Q : List ℕ → List ℕ → Type 0) → Ran a b P → ((c s : List ℕ) → P c s → Q c s) → Ran a b Q
ran_weaker a b P Q r w = record { goes = r.goes; each = λ c s p. w c s (r.each c s p) }

-- one call of Disk
pub ran_call : (a b : DiskView) (P : List ℕ → List ℕ → Type 0) → DiskGoes a b → CallPairs a b → ((c : List ℕ) → a.leaves c → P c a.aside) → ((c : List ℕ) → b.leaves c → P c a.aside) → Ran a b P
ran_call a b P g pairs before after = record {
  goes = g.goes;
  each = λ c s p. let h = pairs c s p in subst (λ (z : List ℕ). P c z) (sym h.0) (⊎_elim (before c) (after c) h.1);
}

-- calls of Link
pub ran_link : (a b : DiskView) (P : List ℕ → List ℕ → Type 0) → LinkKeeps a b → ((c s : List ℕ) → a.leaves c → BeginsWith a.aside s → BeginsWith s b.aside → P c s) → Ran a b P
ran_link a b P k each = record {
  goes = k.goes;
  each = λ c s p. let h = k.pairs c s p in each c s h.0 h.1.0 h.1.1;
}

-- one call of Disk that leaves Q of each image
pub ran_quiet : (a b : DiskView) (Q : List ℕ → Type 0) (s0 : List ℕ) → a.aside ≡ s0 → DiskGoes a b → CallPairs a b → ((c : List ℕ) → a.leaves c → Q c) → ((c : List ℕ) → b.leaves c → Q c) → Ran a b (λ c s. Q c × (s ≡ s0))
ran_quiet a b Q s0 e g pairs before after = ran_call a b (λ c s. Q c × (s ≡ s0)) g pairs (λ c l. (before c l, e)) (λ c l. (after c l, e))

-- what each crash pair of a stretch has, an image of now has with the bytes sent so far
pub ran_now : (a b : DiskView) (P : List ℕ → List ℕ → Type 0) → IsDisk b → Ran a b P → (c : List ℕ) → b.leaves c → P c b.aside
ran_now a b P d r c l = r.each c b.aside (d.counts a.moment c r.goes.later l)

pub read_none : (a : DiskView) → IsDisk a → OnlyRead a a
read_none a d = record { ran = ran_none a (λ c s. a.leaves c × (s ≡ a.aside)) d (λ c l. (l, refl)); aside = refl; contents = refl; leaves = λ c l. l }

-- one call of size, read or sync
pub read_call : (a b : DiskView) → DiskGoes a b → CallPairs a b → b.contents ≡ a.contents → LeavesNoMore a b → OnlyRead a b
read_call a b g pairs contents less = record {
  ran = ran_quiet a b a.leaves a.aside refl g pairs (λ c l. l) less;
  aside = g.aside;
  contents = contents;
  leaves = less;
}

pub read_then : (a b c : DiskView) → OnlyRead a b → OnlyRead b c → OnlyRead a c
read_then a b c r q = record {
  ran = ran_then a b c (λ i s. a.leaves i × (s ≡ a.aside)) r.ran (ran_weaker b c _ _ q.ran (λ i s p. (r.leaves i p.0, p.1 ∙ r.aside)));
  aside = q.aside ∙ r.aside;
  contents = q.contents ∙ r.contents;
  leaves = λ i l. r.leaves i (q.leaves i l);
}
