-- What the loops that receive a reply keep.
use Rattle.std.proofs.Common.{◌≡◌, ℕ, ◌+◌, ◌-◌, ◌<◌, ◌≤◌, List, ◌++◌, inl, inr, length, take, drop, min, refl, sym, ◌∙◌, ap, subst, arith, length-append, Err}
use Rattle.std.specs.Prelude.{slice_range}
use Rattle.std.proofs.lemmas.Bool.{cases_lt}
use Rattle.std.proofs.lemmas.List.{take-take, take_all, take-append-le, length-take, drop-take, drop-drop}
use Rattle.std.proofs.Math.Seq.{take-add}
use Rattle.mc_outside.specs.LinkView.{LinkView, after_recv}
use Rattle.mc_outside.proofs.Sessions.{heard_none, heard_more}
use Rattle.millicent_http.specs.HeadEnds.{line_ends, HasNoEnd, IsFirstEnd}
use Rattle.millicent_http.specs.Items.{max_head, EndsNoItem}
use Rattle.millicent_http.proofs.EndLemmas.{no_end_stays, line_ends-front, line_ends-nil}
use Rattle.millicent_http.proofs.BufferLemmas.{no_end_none}
use Rattle.millicent_http.proofs.ItemLemmas.{max_head_is}
use Rattle.reply_reader.specs.declared.reply.ReplyFault.{ReplyFault}
use Rattle.reply_reader.specs.declared.reply.ReplyFault.TheVariants.{BadReply, NoReply, Fault}
use Rattle.reply_reader.specs.declared.arrival.Arrived.{Arrived}
use Rattle.reply_reader.specs.Replies.{IsShort}
use Rattle.reply_reader.specs.Takes.{WaitedFor}
use Rattle.reply_reader.specs.Arrivals.{Stopped, HasHead, HeadEndsAs, ContentsEndAs}

-- ---- what is held

-- so many bytes at the front of the buffer are all that came
pub record Gathers (before now : LinkView) (buf : List ℕ) (held : ℕ) : Type 0 where
  pub within : held ≤ length buf
  pub link : now ≡ after_recv (take held buf) before
  pub waited : WaitedFor (take held buf)

pub gathers_none : (v : LinkView) (buf : List ℕ) → Gathers v v buf 0
gathers_none v buf = record { within = omega arith; link = heard_none v; waited = inl refl }

-- the front of a list up to one place, and on to a later one
pub take_on : (buf : List ℕ) (m n : ℕ) → m ≤ n → take n buf ≡ take m buf ++ slice_range buf m n
take_on buf m n le =
    let e : n ≡ m + (n - m) = omega arith in
    ap (λ (k : ℕ). take k buf) e ∙ take-add m (n - m) buf

pub gathers_more : (v w u : LinkView) (old new : List ℕ) (held n : ℕ) → Gathers v w old held → IsShort (take held old) → take held new ≡ take held old → held < n → n ≤ length new
    → u ≡ after_recv (slice_range new held n) w → Gathers v u new n
gathers_more v w u old new held n g short front lt within link =
    let whole : take n new ≡ take held old ++ slice_range new held n = take_on new held n (omega arith) ∙ ap (λ (z : List ℕ). z ++ slice_range new held n) front in
    record {
      within = within;
      link = link ∙ ap (after_recv (slice_range new held n)) g.link ∙ heard_more v (take held old) (slice_range new held n) ∙ ap (λ (z : List ℕ). after_recv z v) (sym whole);
      waited = inr (take held old, slice_range new held n, whole, short);
    }

-- ---- the search for a head's end

-- what is known of the bytes that a head may lie in
pub record Knows (window : List ℕ) (skip searched : ℕ) : Type 0 where
  pub skipped : line_ends (take skip window) ≡ skip
  pub within : skip ≤ length window
  pub none : HasNoEnd window searched

pub knows_nothing : (window : List ℕ) → Knows window 0 0
knows_nothing window = record { skipped = line_ends-nil; within = omega arith; none = no_end_none window }

-- the bytes that a head may lie in, of those held
pub window_of : (buf : List ℕ) (held n : ℕ) → n ≡ min held 8192 → take n buf ≡ take max_head (take held buf)
window_of buf held n e = elim (cases_lt held 8192) [
  | inl lt ↦
      let a : n ≡ held = omega (arith, e) in
      ap (λ (k : ℕ). take k buf) a ∙ sym (take_all max_head (take held buf) (omega (arith, max_head_is, length-take held buf)))
  | inr ge ↦
      let a : n ≡ max_head = omega (arith, e, max_head_is) in
      ap (λ (k : ℕ). take k buf) a ∙ sym (take-take max_head held buf (omega (arith, max_head_is)))
]

-- fewer bytes than a head may have, all searched, and a piece behind them
pub knows_more : (old new : List ℕ) (held n skip : ℕ) → take held new ≡ take held old → held < n → held ≤ length old → held < 8192 → skip ≡ line_ends (take held old) → skip ≤ held
    → HasNoEnd (take held old) held → Knows (take max_head (take n new)) skip held
knows_more old new held n skip front lt fits few skipped le none =
    let m : ℕ = min n 8192 in
    let whole : take (min n 8192) new ≡ take held old ++ slice_range new held (min n 8192) = take_on new held (min n 8192) (omega arith) ∙ ap (λ (z : List ℕ). z ++ slice_range new held (min n 8192)) front in
    let len : length (take held old) ≡ held = omega (arith, length-take held old) in
    subst (λ (z : List ℕ). Knows z skip held) (window_of new n (min n 8192) refl) (record {
      skipped = ap (λ (z : List ℕ). line_ends (take skip z)) whole ∙ ap line_ends (take-append-le skip (take held old) (slice_range new held (min n 8192)) (omega (arith, len)))
          ∙ subst (λ (k : ℕ). line_ends (take k (take held old)) ≡ k) (sym skipped) (line_ends-front (take held old));
      within = omega (arith, ap length whole, length-append (take held old) (slice_range new held (min n 8192)), len);
      none = subst (λ (z : List ℕ). HasNoEnd z held) (sym whole) (no_end_stays (take held old) (slice_range new held (min n 8192)) held (omega (arith, len)) none);
    })

-- ---- how it ends

pub head_here : (got window : List ℕ) (head : Arrived) → window ≡ take max_head got → IsFirstEnd window head.end → head.skip ≡ line_ends window → HasHead got head
head_here got window head is first skip = record { first = subst (λ (z : List ℕ). IsFirstEnd z head.end) is first; skip = skip ∙ ap line_ends is }

pub head_stops : (held : ℕ) (got : List ℕ) (fault : ReplyFault) (before after : LinkView) → EndsNoItem got → Stopped fault before after → HeadEndsAs held got (Err fault) before after
head_stops held got BadReply before after none s = absurd s
head_stops held got NoReply before after none s = (none, s)
head_stops held got Fault before after none s = (none, s)

-- ---- contents

range_of : (a : List ℕ) (m n : ℕ) → m ≤ n → drop m (take n a) ≡ slice_range a m n
range_of a m n le =
    let e : n ≡ m + (n - m) = omega arith in
    ap (λ (k : ℕ). drop m (take k a)) e ∙ drop-take m (n - m) a

range_on : (a : List ℕ) (i m n : ℕ) → i ≤ m → m ≤ n → slice_range a i n ≡ slice_range a i m ++ slice_range a m n
range_on a i m n le more =
    let e : n - i ≡ (m - i) + (n - m) = omega arith in
    let f : i + (m - i) ≡ m = omega arith in
    ap (λ (k : ℕ). take k (drop i a)) e ∙ take-add (m - i) (n - m) (drop i a) ∙ ap (λ (z : List ℕ). take (m - i) (drop i a) ++ take (n - m) z) (drop-drop (m - i) i a ∙ ap (λ (k : ℕ). drop k a) f)

-- a part of the bytes held
pub part_stays : (old new : List ℕ) (first held : ℕ) → first ≤ held → take held new ≡ take held old → slice_range new first held ≡ slice_range old first held
part_stays old new first held order front = sym (range_of new first held order) ∙ ap (drop first) front ∙ range_of old first held order

pub contents_more : (v w u : LinkView) (old new : List ℕ) (first held n : ℕ) → first ≤ held → held < n → take held new ≡ take held old
    → w ≡ after_recv (slice_range old first held) v → u ≡ after_recv (slice_range new held n) w → u ≡ after_recv (slice_range new first n) v
contents_more v w u old new first held n order lt front link piece =
    let e : held ≡ first + (held - first) = omega arith in
    let part : slice_range new first held ≡ slice_range old first held = part_stays old new first held order front in
    let whole : slice_range new first n ≡ slice_range old first held ++ slice_range new held n =
    range_on new first held n order (omega arith) ∙ ap (λ (z : List ℕ). z ++ slice_range new held n) part in
    piece ∙ ap (after_recv (slice_range new held n)) link ∙ heard_more v (slice_range old first held) (slice_range new held n) ∙ ap (λ (z : List ℕ). after_recv z v) (sym whole)

pub contents_stop : (now whole : ℕ) (fault : ReplyFault) (before after : LinkView) → now < whole → Stopped fault before after → ContentsEndAs now whole (Err fault) before after
contents_stop now whole stop before after lt s = (lt, s)

-- the front of a front
pub front_of_front : (old new : List ℕ) (first held : ℕ) → first ≤ held → take held new ≡ take held old → take first new ≡ take first old
front_of_front old new first held le front =
    sym (take-take first held new le) ∙ ap (take first) front ∙ take-take first held old le
