-- There is one reading of the bytes of a reply, and it stays whatever follows.
use Rattle.std.proofs.Common.{◌≡◌, ℕ, ◌+◌, ◌<◌, true, false, List, [], ◌∷◌, ◌++◌, inl, inr, length, take, sym, ◌∙◌, ap, subst, arith, length-append, Some, None}
use Rattle.std.specs.Prelude.{slice_range}
use Rattle.std.proofs.lemmas.List.{append-nil, take-append-le, take_all, length-take}
use Rattle.std.proofs.lemmas.Option.{same_Some}
use Rattle.httparse.proofs.GrammarLemmas.{response_unique}
use Rattle.millicent_http.specs.HeadEnds.{line_ends, ends_at, HasNoEnd, IsFirstEnd}
use Rattle.millicent_http.specs.Items.{max_head, EndsNoItem}
use Rattle.millicent_http.proofs.EndLemmas.{first_end_stays, first_end_unique, text_stays, range_stays}
use Rattle.millicent_http.proofs.ItemLemmas.{take_more}
use Rattle.reply_reader.specs.Said.{HeadSaid, head_said, HeadSays, SaysNothing}
use Rattle.millicent_http.specs.Received.{Received}
use Rattle.reply_reader.specs.Replies.{received_with, head_text, Says, IsReply, IsBad, Needs, IsShort}

-- ---- one reading

-- a head says one thing
head_says_one : (text : List ℕ) (x y : HeadSaid) → HeadSays text x → HeadSays text y → x ≡ y
head_says_one text x y p q =
    let e : p.head ≡ q.head = (response_unique text p.head q.head [] [] p.reads.whole q.reads.whole).0 in
    same_Some x y (sym p.said ∙ ap head_said e ∙ q.said)

-- or nothing
head_or_nothing : (text : List ℕ) (x : HeadSaid) → HeadSays text x → SaysNothing text → ⊥
head_or_nothing text x p none =
    let e : Some x ≡ None = sym p.said ∙ none p.head p.reads in
    cc

says_one : (bytes : List ℕ) (m n : ℕ) (x y : HeadSaid) → Says bytes m x → Says bytes n y → (m ≡ n) × (x ≡ y)
says_one bytes m n x y p q =
    let e : m ≡ n = first_end_unique (take max_head bytes) m n p.first q.first in
    (e, head_says_one (head_text bytes n) x y (subst (λ (k : ℕ). HeadSays (head_text bytes k) x) e p.says) q.says)

pub one_reply : (bytes : List ℕ) (r q : Received) → IsReply bytes r → IsReply bytes q → r ≡ q
one_reply bytes r q a b =
    let e = says_one bytes a.end b.end a.x b.x a.says b.says in
    a.is
    ∙ ap (λ (n : ℕ). received_with a.x (slice_range bytes n (n + a.x.length))) e.0
    ∙ ap (λ (x : HeadSaid). received_with x (slice_range bytes b.end (b.end + x.length))) e.1
    ∙ sym b.is

-- a first end is an end
end_or_none : (bytes : List ℕ) (end : ℕ) → IsFirstEnd (take max_head bytes) end → HasNoEnd (take max_head bytes) max_head → ⊥
end_or_none bytes end f none =
    let a : ends_at (take max_head bytes) end ≡ true = f.ends in
    let b : ends_at (take max_head bytes) end ≡ false = none end (omega (arith, f.within, length-take max_head bytes)) in
    cc

end_or_item : (bytes : List ℕ) (end : ℕ) → IsFirstEnd (take max_head bytes) end → EndsNoItem bytes → ⊥
end_or_item bytes end f none =
    let all : take max_head bytes ≡ bytes = take_all max_head bytes (omega (arith, none.short)) in
    let a : ends_at (take max_head bytes) end ≡ true = f.ends in
    let b : ends_at bytes end ≡ false = none.none end (omega (arith, f.within, ap length all)) in
    let c : ends_at (take max_head bytes) end ≡ ends_at bytes end = ap (λ (z : List ℕ). ends_at z end) all in
    cc

says_not_bad : (bytes : List ℕ) (end : ℕ) (x : HeadSaid) → Says bytes end x → IsBad bytes → ⊥
says_not_bad bytes end x p bad = elim bad [
  | inl b ↦
      let e : end ≡ b.end = first_end_unique (take max_head bytes) end b.end p.first b.first in
      head_or_nothing (head_text bytes b.end) x (subst (λ (k : ℕ). HeadSays (head_text bytes k) x) e p.says) b.none
  | inr long ↦ end_or_none bytes end p.first long.none
]

pub reply_not_bad : (bytes : List ℕ) (r : Received) → IsReply bytes r → IsBad bytes → ⊥
reply_not_bad bytes r a bad = says_not_bad bytes a.end a.x a.says bad

pub reply_not_short : (bytes : List ℕ) (r : Received) → IsReply bytes r → IsShort bytes → ⊥
reply_not_short bytes r a short = elim (short.1) [
  | inl head ↦ end_or_item bytes a.end a.says.first head.none
  | inr more ↦
      let e = says_one bytes a.end more.end a.x more.x a.says more.says in
      let len : a.x.length ≡ more.x.length = ap (λ (x : HeadSaid). x.length) e.1 in
      omega (arith, a.enough, e.0, len, more.few, more.whole)
]

pub bad_not_short : (bytes : List ℕ) → IsBad bytes → IsShort bytes → ⊥
bad_not_short bytes bad short = elim (short.1) [
  | inl head ↦ elim bad [
    | inl b ↦ end_or_item bytes b.end b.first head.none
    | inr long ↦ omega (arith, long.long, head.none.short)
  ]
  | inr more ↦ says_not_bad bytes more.end more.x more.says bad
]

-- ---- what stays

pub end_stays : (a b : List ℕ) (end : ℕ) → IsFirstEnd (take max_head a) end → IsFirstEnd (take max_head (a ++ b)) end × (head_text (a ++ b) end ≡ head_text a end)
end_stays a b end f =
    let m = take_more max_head a b in
    let text : slice_range (take max_head a ++ m.0) (line_ends (take max_head a ++ m.0)) end ≡ head_text a end = text_stays (take max_head a) m.0 end f.within f.ends in (
      subst (λ (z : List ℕ). IsFirstEnd z end) (sym m.1) (first_end_stays (take max_head a) m.0 end f),
      subst (λ (z : List ℕ). slice_range z (line_ends z) end ≡ head_text a end) (sym m.1) text,
    )

pub says_stays : (a b : List ℕ) (end : ℕ) (x : HeadSaid) → Says a end x → Says (a ++ b) end x
says_stays a b end x p =
    let e = end_stays a b end p.first in
    record { first = e.0; says = subst (λ (t : List ℕ). HeadSays t x) (sym e.1) p.says }

pub reply_stays : (a b : List ℕ) (r : Received) → IsReply a r → IsReply (a ++ b) r
reply_stays a b r p = record {
  end = p.end;
  x = p.x;
  says = says_stays a b p.end p.x p.says;
  enough = omega (arith, p.enough, length-append a b);
  is = p.is ∙ ap (received_with p.x) (sym (range_stays a b p.end (p.end + p.x.length) p.enough));
}

pub bad_stays : (a b : List ℕ) → IsBad a → IsBad (a ++ b)
bad_stays a b bad = elim bad [
  | inl p ↦
      let e = end_stays a b p.end p.first in
      inl (record { end = p.end; first = e.0; none = subst SaysNothing (sym e.1) p.none })
  | inr long ↦ inr (record {
    long = omega (arith, long.long, length-append a b);
    none = subst (λ (z : List ℕ). HasNoEnd z max_head) (sym (take-append-le max_head a b long.long)) long.none;
  })
]

none_behind : (a b : List ℕ) → length (a ++ b) < length a + 1 → a ++ b ≡ a
none_behind a [] h = append-nil a
none_behind a (c ∷ b) h = absurd (omega (arith, h, length-append a (c ∷ b)))

pub short_stays : (a b : List ℕ) (needed : ℕ) → Needs a needed → length (a ++ b) < needed → IsShort (a ++ b)
short_stays a b needed n lt = elim n [
  | inl head ↦ subst IsShort (sym (none_behind a b (omega (arith, lt, head.one)))) (needed, inl head)
  | inr more ↦ (needed, inr (record { end = more.end; x = more.x; says = says_stays a b more.end more.x more.says; whole = more.whole; few = lt }))
]
