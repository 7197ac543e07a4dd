-- The text of each item on a link, cut out of its bytes.
use Rattle.std.proofs.Common.{◌≡◌, ℕ, ◌-◌, ◌≤◌, ◌<◌, Bool, true, false, List, [], ◌∷◌, ◌++◌, inl, inr, length, take, drop, refl, sym, ◌∙◌, ap, subst, arith, append_assoc}
use Rattle.std.specs.Prelude.{slice_range}
use Rattle.std.proofs.lemmas.List.{take-append-drop, drop-append-le, drop_all, take_all, length-take, length-take-le}
use Rattle.millicent_http.specs.HeadEnds.{line_ends, ends_at, ends_empty, IsFirstEnd}
use Rattle.millicent_http.specs.Items.{Item, closes, ReadsItem, max_head, IsWhole, IsTooLarge, NextItem, EndsNoItem, AreItems, Heads}
use Rattle.millicent_http.specs.Reads.{HaveRead}
use Rattle.millicent_http.proofs.EndLemmas.{line_ends-grow, line_ends-settled, line_ends-nil, range_stays, empty_long, no_end_front}
use Rattle.millicent_http.proofs.ItemLemmas.{next_large}
use Rattle.millicent_http.proofs.WholeLemmas.{no_item}
use Rattle.world_laws.specs.Links.{AreTexts}

-- the front of some bytes up to an end that is there has that end, and the same line ends before it
front_ends : (a b : List ℕ) → ends_at (a ++ b) (length a) ≡ true → line_ends (a ++ b) ≡ line_ends a
front_ends a b ends =
    let s : ℕ = line_ends (a ++ b) in
    let long : 2 ≤ length (slice_range (a ++ b) s (length a)) = empty_long (slice_range (a ++ b) s (length a)) ends in
    let grow : line_ends a ≤ line_ends (a ++ b) = line_ends-grow a b in
    line_ends-settled a b (omega (arith, long, grow, length-take (length a - s) (drop s (a ++ b))))

same_range : (a b : List ℕ) (m : ℕ) → line_ends (a ++ b) ≡ line_ends a → m ≤ length a → slice_range (a ++ b) (line_ends (a ++ b)) m ≡ slice_range a (line_ends a) m
same_range a b m same le = ap (λ (s : ℕ). slice_range (a ++ b) s m) same ∙ range_stays a b (line_ends a) m le

front_first : (a b : List ℕ) → IsFirstEnd (a ++ b) (length a) → IsFirstEnd a (length a)
front_first a b first =
    let same = front_ends a b first.ends in
    record {
      within = omega arith;
      ends = sym (ap ends_empty (same_range a b (length a) same (omega arith))) ∙ first.ends;
      first = λ m lt. sym (ap ends_empty (same_range a b m same (omega (arith, lt)))) ∙ first.first m lt;
    }

front_whole : (a b : List ℕ) (item : Item) → length a ≤ max_head → IsFirstEnd (a ++ b) (length a) → ReadsItem (slice_range (a ++ b) (line_ends (a ++ b)) (length a)) item → IsWhole a (length a) item []
front_whole a b item short first reads =
    let all : take max_head a ≡ a = take_all max_head a short in
    let text = subst (λ (t : List ℕ). ReadsItem t item) (same_range a b (length a) (front_ends a b first.ends) (omega arith)) reads in
    record {
      first = subst (λ (f : List ℕ). IsFirstEnd f (length a)) (sym all) (front_first a b first);
      reads = subst (λ (f : List ℕ). ReadsItem (slice_range f (line_ends f) (length a)) item) (sym all) text;
      after = sym (drop_all (length a) a (omega arith));
    }

-- ---- the item alone

none_left : EndsNoItem []
none_left = (no_item [] (omega arith) (λ m le. no_end_front [] m (omega (arith, le, line_ends-nil)))).0 refl

alone : (text : List ℕ) (item : Item) → NextItem text item [] → Heads text (item ∷ [])
alone text item next = ((let some : 0 < 1000 = omega arith in some), ([], next, (λ c. refl), λ c. inr none_left))

pub record IsCut (bytes : List ℕ) (item : Item) (rest : List ℕ) : Type 0 where
  pub text : List ℕ
  pub front : bytes ≡ text ++ rest
  pub alone : Heads text (item ∷ [])

cut_whole : (bytes : List ℕ) (end : ℕ) (item : Item) (rest : List ℕ) → IsWhole bytes end item rest → IsCut bytes item rest
cut_whole bytes end item rest w =
    let window : List ℕ = take max_head bytes in
    let a : List ℕ = take end window in
    let b : List ℕ = drop end window in
    let within : end ≤ length window = w.first.within in
    let long : length a ≡ end = length-take-le end window within in
    let joined : a ++ b ≡ window = take-append-drop end window in
    let short : length a ≤ max_head = omega (arith, long, within, length-take max_head bytes) in
    let first : IsFirstEnd (a ++ b) (length a) = subst (λ (n : ℕ). IsFirstEnd (a ++ b) n) (sym long) (subst (λ (f : List ℕ). IsFirstEnd f end) (sym joined) w.first) in
    let reads : ReadsItem (slice_range (a ++ b) (line_ends (a ++ b)) (length a)) item =
    subst (λ (n : ℕ). ReadsItem (slice_range (a ++ b) (line_ends (a ++ b)) n) item) (sym long)
    (subst (λ (f : List ℕ). ReadsItem (slice_range f (line_ends f) end) item) (sym joined) w.reads) in
    let split : window ++ drop max_head bytes ≡ bytes = take-append-drop max_head bytes in
    let behind : drop end bytes ≡ b ++ drop max_head bytes = ap (λ (l : List ℕ). drop end l) (sym split) ∙ drop-append-le end window (drop max_head bytes) within in
    record {
      text = a;
      front = sym split ∙ ap (λ (l : List ℕ). l ++ drop max_head bytes) (sym joined) ∙ append_assoc a b (drop max_head bytes) ∙ ap (λ (l : List ℕ). a ++ l) (sym behind) ∙ ap (λ (l : List ℕ). a ++ l) (sym w.after);
      alone = alone a item (inl (length a, front_whole a b item short first reads));
    }

cut_large : (bytes : List ℕ) (item : Item) (rest : List ℕ) → IsTooLarge bytes item rest → IsCut bytes item rest
cut_large bytes item rest t =
    let a : List ℕ = take max_head bytes in
    record {
      text = a;
      front = sym (take-append-drop max_head bytes) ∙ ap (λ (l : List ℕ). a ++ l) (sym t.after);
      alone = alone a item (subst (λ (x : Item). NextItem a x []) (sym t.is) (next_large a [] (length-take-le max_head bytes t.long) t.none refl));
    }

pub cut : (bytes : List ℕ) (item : Item) (rest : List ℕ) → NextItem bytes item rest → IsCut bytes item rest
cut bytes item rest (inl whole) = cut_whole bytes whole.0 item rest whole.1
cut bytes item rest (inr large) = cut_large bytes item rest large

-- ---- all items

pub record HasTexts (bytes : List ℕ) (items : List Item) : Type 0 where
  pub texts : List (List ℕ)
  pub are : AreTexts bytes items texts

more_texts : (bytes rest : List ℕ) (item : Item) (items : List Item) → NextItem bytes item rest → HasTexts rest items → HasTexts bytes (item ∷ items)
more_texts bytes rest item items next more =
    let c = cut bytes item rest next in
    record { texts = c.text ∷ more.texts; are = (c.alone, (rest, c.front, more.are)) }

pub texts_read : (bytes held : List ℕ) (items : List Item) → HaveRead bytes items held → HasTexts bytes items
texts_read bytes held [] read = record { texts = []; are = tt }
texts_read bytes held (item ∷ items) read = more_texts bytes read.0 item items read.1 (texts_read read.0 held items read.2)

pub texts_of : (limit : ℕ) (bytes : List ℕ) (items : List Item) → AreItems limit bytes items → HasTexts bytes items
texts_of limit bytes [] are = record { texts = []; are = tt }
texts_of limit bytes (item ∷ []) are = more_texts bytes are.1.0 item [] are.1.1 (record { texts = []; are = tt })
texts_of limit bytes (item ∷ next ∷ items) are = more_texts bytes are.1.0 item (next ∷ items) are.1.1 (texts_of (limit - 1) are.1.0 (next ∷ items) (are.1.3 (opens (closes item) are.1.2)))
  where
    opens : (c : Bool) → (c ≡ true → next ∷ items ≡ []) → c ≡ false
    opens true none = absurd (let never : next ∷ items ≡ [] = none refl in cc)
    opens false none = refl
