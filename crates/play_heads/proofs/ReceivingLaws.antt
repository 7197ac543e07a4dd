-- What each call of a link does to what is still to come.
use Rattle.std.proofs.Common.{◌≡◌, ℕ, suc, ◌+◌, ◌-◌, ◌*◌, ◌^◌, ◌≤◌, ◌<◌, min, zero, ◌/◌, ◌↔◌, Bool, map, List, [], ◌∷◌, ◌++◌, length, length-append, Some, option_map, IsTrue, refl, sym, ◌∙◌, ap, arith, append_assoc, append-nil}
use Rattle.std.proofs.lemmas.List.{length-map}
use Rattle.mc_outside.specs.LinkView.{LinkView, Session, on_last, hear, send, ended, fresh, next_taken}
use Rattle.play_heads.specs.PlayHeads.{heads_from, link_from, links_from, play_links}
use Rattle.play_heads.specs.Receiving.{HasReceived, HaveReceived, readings_of, IsPlay, HasPlayed, StillComes, StillCome, AreWhole, IsPlaying}

-- ---- one link

all_came : (count first : ℕ) (rest : List ℕ) (s : Session) → StillComes count first rest s → HasReceived count first s
all_came count first rest s h = record {
  part = (rest, sym h.received);
  whole = λ t. sym (append-nil s.received) ∙ ap (λ (l : List ℕ). s.received ++ l) (sym (h.none t)) ∙ h.received;
}

pub none_after : (x left : List ℕ) → x ++ left ≡ [] → left ≡ []
none_after [] left e = e
none_after (c ∷ x) left e = absurd cc

pub heard_comes : (x rest left : List ℕ) → rest ≡ x ++ left → (count first : ℕ) (s : Session) → StillComes count first rest s → StillComes count first left (hear x s)
heard_comes x rest left e count first s h = record {
  received = append_assoc s.received x left ∙ ap (λ (l : List ℕ). s.received ++ l) (sym e) ∙ h.received;
  none = λ t. none_after x left (sym e ∙ h.none t);
}

pub ended_comes : (rest left : List ℕ) → rest ≡ left → left ≡ [] → (count first : ℕ) (s : Session) → StillComes count first rest s → StillComes count first left (ended s)
ended_comes rest left same e count first s h = record { received = ap (λ (l : List ℕ). s.received ++ l) (sym same) ∙ h.received; none = λ _. e }

pub sent_comes : (x rest : List ℕ) (count first : ℕ) (s : Session) → StillComes count first rest s → StillComes count first rest (send x s)
sent_comes x rest count first s h = record { received = h.received; none = h.none }

fresh_comes : (count first place : ℕ) (left : List ℕ) → left ≡ link_from count place → place ≡ first → StillComes count first left fresh
fresh_comes count first place left e same = record { received = e ∙ ap (link_from count) same; none = λ t. absurd (cc t) }

-- ---- links one after another

length-on_last : (f : Session → Session) (ss : List Session) → length (on_last f ss) ≡ length ss
length-on_last f [] = refl
length-on_last f (s ∷ []) = refl
length-on_last f (s ∷ t ∷ ss) = ap suc (length-on_last f (t ∷ ss))

last_comes : (count first : ℕ) (rest left : List ℕ) (f : Session → Session) (ss : List Session)
    → (rest ≡ [] → left ≡ []) → ((i : ℕ) (s : Session) → StillComes count i rest s → StillComes count i left (f s))
    → StillCome count first rest ss → StillCome count first left (on_last f ss)
last_comes count first rest left f [] none step h = none h
last_comes count first rest left f (s ∷ []) none step h = step first s h
last_comes count first rest left f (s ∷ t ∷ []) none step h = (h.0, step (first + 1000) t h.1)
last_comes count first rest left f (s ∷ t ∷ u ∷ ss) none step h = (h.0, last_comes count (first + 1000) rest left f (t ∷ u ∷ ss) none step h.1)

taken_come : (count first : ℕ) (rest left : List ℕ) (ss : List Session) → left ≡ link_from count (first + 1000 * length ss)
    → StillCome count first rest ss → StillCome count first left (ss ++ fresh ∷ [])
taken_come count first rest left [] e h =
    let same : first + 1000 * length {A = Session} [] ≡ first = omega arith in
    fresh_comes count first _ left e same
taken_come count first rest left (s ∷ []) e h =
    let same : first + 1000 * length (s ∷ []) ≡ first + 1000 = omega arith in
    (all_came count first rest s h, fresh_comes count (first + 1000) _ left e same)
taken_come count first rest left (s ∷ t ∷ ss) e h =
    let same : first + 1000 * length (s ∷ t ∷ ss) ≡ first + 1000 + 1000 * length (t ∷ ss) = omega arith in
    (h.0, taken_come count (first + 1000) rest left (t ∷ ss) (e ∙ ap (link_from count) same) h.1)

have_come : (count first : ℕ) (rest : List ℕ) (ss : List Session) → StillCome count first rest ss → HaveReceived count first ss
have_come count first rest [] h = tt
have_come count first rest (s ∷ []) h = (all_came count first rest s h, tt)
have_come count first rest (s ∷ t ∷ ss) h = (h.0, have_come count (first + 1000) rest (t ∷ ss) h.1)

-- ---- links that were received whole

no_rest : (x rest : List ℕ) → x ++ rest ≡ x → rest ≡ []
no_rest [] rest e = e
no_rest (c ∷ x) rest e = no_rest x rest (cc e)

rest_of_whole : (count first : ℕ) (rest : List ℕ) (s : Session) → StillComes count first rest s → s.received ≡ link_from count first → rest ≡ []
rest_of_whole count first rest s h e = no_rest s.received rest (h.received ∙ sym e)

whole_of_rest : (count first : ℕ) (rest : List ℕ) (s : Session) → StillComes count first rest s → rest ≡ [] → s.received ≡ link_from count first
whole_of_rest count first rest s h e = sym (append-nil s.received) ∙ ap (λ (l : List ℕ). s.received ++ l) (sym e) ∙ h.received

changed_whole : (count first : ℕ) (f : Session → Session) (ss : List Session) → AreWhole count first ss → AreWhole count first (on_last f ss)
changed_whole count first f [] h = h
changed_whole count first f (s ∷ []) h = h
changed_whole count first f (s ∷ t ∷ []) h = h
changed_whole count first f (s ∷ t ∷ u ∷ ss) h = (h.0, changed_whole count (first + 1000) f (t ∷ u ∷ ss) h.1)

whole_before : (count first : ℕ) (f : Session → Session) (ss : List Session) → AreWhole count first (on_last f ss) → AreWhole count first ss
whole_before count first f [] h = h
whole_before count first f (s ∷ []) h = h
whole_before count first f (s ∷ t ∷ []) h = h
whole_before count first f (s ∷ t ∷ u ∷ ss) h = (h.0, whole_before count (first + 1000) f (t ∷ u ∷ ss) h.1)

taken_whole : (count first : ℕ) (rest : List ℕ) (ss : List Session) → StillCome count first rest ss → AreWhole count first ss → rest ≡ [] → AreWhole count first (ss ++ fresh ∷ [])
taken_whole count first rest [] come h e = tt
taken_whole count first rest (s ∷ []) come h e = (whole_of_rest count first rest s come e, tt)
taken_whole count first rest (s ∷ t ∷ ss) come h e = (h.0, taken_whole count (first + 1000) rest (t ∷ ss) come.1 h.1 e)

whole_when_taken : (count first : ℕ) (rest : List ℕ) (ss : List Session) → StillCome count first rest ss → AreWhole count first (ss ++ fresh ∷ []) → AreWhole count first ss × (rest ≡ [])
whole_when_taken count first rest [] come h = (tt, come)
whole_when_taken count first rest (s ∷ []) come h = (tt, rest_of_whole count first rest s come h.0)
whole_when_taken count first rest (s ∷ t ∷ ss) come h =
    let k = whole_when_taken count (first + 1000) rest (t ∷ ss) come.1 h.1 in
    ((h.0, k.0), k.1)

all_received : (count first : ℕ) (rest : List ℕ) (ss : List Session) → StillCome count first rest ss → AreWhole count first ss → rest ≡ []
    → map (λ (s : Session). s.received) ss ≡ links_from count first (length ss)
all_received count first rest [] come h e = refl
all_received count first rest (s ∷ []) come h e = ap (λ (l : List ℕ). l ∷ []) (whole_of_rest count first rest s come e)
all_received count first rest (s ∷ t ∷ ss) come h e =
    ap (λ (l : List ℕ). l ∷ map (λ (u : Session). u.received) (t ∷ ss)) h.0
    ∙ ap (λ (ls : List (List ℕ)). link_from count first ∷ ls) (all_received count (first + 1000) rest (t ∷ ss) come.1 h.1 e)

whole_where_all : (count first n : ℕ) (rest : List ℕ) (ss : List Session) → StillCome count first rest ss
    → map (λ (s : Session). s.received) ss ≡ links_from count first n → AreWhole count first ss × (rest ≡ [])
whole_where_all count first n rest [] come e = (tt, come)
whole_where_all count first zero rest (s ∷ []) come e = absurd cc
whole_where_all count first (suc n) rest (s ∷ []) come e = (tt, rest_of_whole count first rest s come (cc e))
whole_where_all count first zero rest (s ∷ t ∷ ss) come e = absurd cc
whole_where_all count first (suc n) rest (s ∷ t ∷ ss) come e =
    let k = whole_where_all count (first + 1000) n rest (t ∷ ss) come.1 (cc e) in
    ((cc e, k.0), k.1)

length-links_from : (count first n : ℕ) → length (links_from count first n) ≡ n
length-links_from count first zero = refl
length-links_from count first (suc n) = ap suc (length-links_from count (first + 1000) n)

-- ---- a play

-- the last link changed
pub changed_play : (count end : ℕ) (rest left : List ℕ) (whole : Bool) (clock : ℕ) (v w : LinkView) (f : Session → Session)
    → (rest ≡ [] → left ≡ []) → ((i : ℕ) (s : Session) → StillComes count i rest s → StillComes count i left (f s))
    → w.sessions ≡ option_map (on_last f) v.sessions → w.readings ≡ v.readings → IsPlaying count end rest whole clock v → IsPlaying count end left whole clock w
changed_play count end rest left whole clock v w f none step same read p = record {
  links = on_last f p.links;
  told = same ∙ ap (option_map (on_last f)) p.told;
  come = last_comes count 0 rest left f p.links none step p.come;
  others = (λ t. changed_whole count 0 f p.links (p.others.0 t), λ h. p.others.1 (whole_before count 0 f p.links h));
  needed = omega (arith, length-on_last f p.links, p.needed);
  reach = p.reach ∙ ap (λ (n : ℕ). min (1000 * n) count) (sym (length-on_last f p.links));
  reads = p.reads;
  readings = read ∙ p.readings;
  next = p.next;
}

-- the next link was taken
pub taken_play : (count first end : ℕ) (rest left : List ℕ) (whole later : Bool) (clock : ℕ) (v w : LinkView) → (IsTrue later ↔ (IsTrue whole × (rest ≡ []))) → first < count → end ≡ first + min 1000 (count - first)
    → left ≡ heads_from first (end - first) → w ≡ next_taken v → IsPlaying count first rest whole clock v → IsPlaying count end left later clock w
taken_play count first end rest left whole later clock v w both more is heads taken p =
    let many : end - first ≡ min 1000 (count - first) = omega (arith, is) in
    let start : first ≡ 0 + 1000 * length p.links = omega (arith, p.reach, more) in
    let longer : length (p.links ++ fresh ∷ []) ≡ length p.links + 1 = length-append p.links (fresh ∷ []) in
    record {
      links = p.links ++ fresh ∷ [];
      told = ap (λ (u : LinkView). u.sessions) taken ∙ ap (option_map (λ (ss : List Session). ss ++ fresh ∷ [])) p.told;
      come = taken_come count 0 rest left p.links (heads ∙ ap (heads_from first) many ∙ ap (link_from count) start) p.come;
      others = (
        λ t. let k = both.0 t in taken_whole count 0 rest p.links p.come (p.others.0 k.0) k.1,
        λ h. let k = whole_when_taken count 0 rest p.links p.come h in both.1 (p.others.1 k.0, k.1),
      );
      needed = omega (arith, longer, start, more);
      reach = omega (arith, longer, start, more, is);
      reads = p.reads;
      readings = ap (λ (u : LinkView). u.readings) taken ∙ p.readings;
      next = p.next;
    }

-- the clock was read
pub read_play : (count end : ℕ) (rest : List ℕ) (whole : Bool) (clock later : ℕ) (v w : LinkView) → later ≡ min (clock + 1) (2 ^ 35 - 1) → w.sessions ≡ v.sessions
    → w.readings ≡ option_map (λ r. r ++ clock ∷ []) v.readings → IsPlaying count end rest whole clock v → IsPlaying count end rest whole later w
read_play count end rest whole clock later v w is same read p = record {
  links = p.links;
  told = same ∙ p.told;
  come = p.come;
  others = p.others;
  needed = p.needed;
  reach = p.reach;
  reads = suc p.reads;
  readings = read ∙ ap (option_map (λ (r : List ℕ). r ++ clock ∷ [])) p.readings ∙ ap (λ (c : ℕ). Some (readings_of p.reads ++ c ∷ [])) p.next;
  next = omega (arith, is, p.next);
}

-- ---- what a play told

pub is_play : (count end : ℕ) (rest : List ℕ) (whole : Bool) (clock : ℕ) (v : LinkView) → (IsTrue v.over → count ≤ end) → v.faults ≡ 0
    → IsPlaying count end rest whole clock v → IsPlay count v
is_play count end rest whole clock v over faultless p = record {
  links = p.links;
  told = p.told;
  received = have_come count 0 rest p.links p.come;
  needed = p.needed;
  enough = λ o. let reach : count ≤ end = over o in omega (arith, reach, p.reach);
  reads = p.reads;
  clock = p.readings;
  faultless = faultless;
}

-- all came where the links before the last are whole, all have theirs, and nothing is still to come
pub has_played : (count end : ℕ) (rest : List ℕ) (whole : Bool) (clock : ℕ) (v : LinkView) → IsTrue whole → end ≡ count → rest ≡ []
    → IsPlaying count end rest whole clock v → HasPlayed count v
has_played count end rest whole clock v is_whole all none p =
    let many : length p.links ≡ (count + 999) / 1000 = omega (arith, p.needed, p.reach, all) in
    record {
      links = p.links;
      told = p.told;
      all = all_received count 0 rest p.links p.come (p.others.0 is_whole) none ∙ ap (links_from count 0) many;
    }

-- and only there
pub played_whole : (count end : ℕ) (rest : List ℕ) (whole : Bool) (clock : ℕ) (v : LinkView) → IsPlaying count end rest whole clock v → HasPlayed count v
    → IsTrue whole × (end ≡ count) × (rest ≡ [])
played_whole count end rest whole clock v p q =
    let same : q.links ≡ p.links = cc (p.told, q.told) in
    let all : map (λ (s : Session). s.received) p.links ≡ play_links count = ap (map (λ (s : Session). s.received)) (sym same) ∙ q.all in
    let k = whole_where_all count 0 ((count + 999) / 1000) rest p.links p.come all in
    let many : length p.links ≡ (count + 999) / 1000 =
    sym (length-map p.links (λ (s : Session). s.received)) ∙ ap length all ∙ length-links_from count 0 ((count + 999) / 1000) in
    (p.others.1 k.0, omega (arith, p.reach, many), k.1)
