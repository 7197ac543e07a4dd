-- What becomes of a register where the sheet of one series is written anew, and where one is added.
use Rattle.std.proofs.Common.{◌≡◌, ℕ, ◌+◌, Bool, true, false, cond, eqb, List, Option, Some, None, option_map, unwrap_or, ◌||◌, IsTrue, IsSome, MutBor, refl, sym, ap, ◌∙◌, arith}
use Rattle.std.specs.Prelude.{is_some}
use Rattle.std.specs.Map.{lookup}
use Rattle.std.specs.Option.{option_copied_mut}
use Rattle.std.proofs.lemmas.Bool.{eqb-true, false≢true}
use Rattle.scrip_form.specs.Issuing.{series_at}
use Rattle.change_issue.specs.Registers.{SeriesSheet, Register, blank_sheet, sheet_of, on_sheet, has_room}

-- the series of a moment, under the terms of a register that another is seen as
pub series_is : {r view : Register} {series : ℕ} (now : ℕ) → view ≡ r → series ≡ series_at view.terms now → series ≡ series_at r.terms now
series_is now view_is is = is ∙ ap (λ (t : Register). series_at t.terms now) view_is

-- the number that an optional sheet has, 0 where there is none
abbrev on : (SeriesSheet → ℕ) → Option SeriesSheet → ℕ
on number o = unwrap_or (option_map number o) 0

-- ---- whether a series has room

-- a series has room where a sheet of it is found
pub room_is : {r view : Register} (s : ℕ) {b : Bool} → view ≡ r → b ≡ is_some (lookup (eqb s) view.sheets) → has_room r s ≡ b
unfolding has_room
room_is s view_is found = sym (found ∙ ap (λ (t : Register). is_some (sheet_of t s)) view_is)

-- so a sheet is found there
pub has_sheet : {r view : Register} {s series : ℕ} (o : Option (MutBor SeriesSheet))
    → view ≡ r → series ≡ s → option_copied_mut o ≡ lookup (eqb series) view.sheets → IsTrue (has_room r s) → IsSome o
has_sheet {view = view} {s = s} o view_is series_is found room =
    copied o ∙ ap is_some (found ∙ ap (λ (n : ℕ). lookup (eqb n) view.sheets) series_is) ∙ sym (room_is s view_is refl) ∙ room
  where
    copied : (o : Option (MutBor SeriesSheet)) → is_some o ≡ is_some (option_copied_mut o)
    copied None = refl
    copied (Some x) = refl

-- where a series has room already, it has room as before
pub room_before : (r : Register) (s : ℕ) → has_room r s ≡ true → (q : ℕ) → has_room r q ≡ (eqb s q || has_room r q)
room_before r s room q = go (eqb s q) refl
  where
    go : (b : Bool) → eqb s q ≡ b → has_room r q ≡ (b || has_room r q)
    go true t = ap (has_room r) (sym (eqb-true s q t)) ∙ room
    go false t = refl

-- ---- one sheet in place of that of its series

-- some sheets are those of a register, with y as that of a series s in place of x
pub record IsWritten (r : Register) (s : ℕ) (x y : SeriesSheet) (sheets : List (ℕ × SeriesSheet)) : Type 0 where
  pub had : sheet_of r s ≡ Some x
  pub has : (q : ℕ) → lookup (eqb q) sheets ≡ cond (eqb s q) (Some y) (sheet_of r q)

-- so it is where the sheet was found in a view of the register, and written
pub written : {r view : Register} {s series : ℕ} {x y : SeriesSheet} {sheets : List (ℕ × SeriesSheet)}
    → view ≡ r → series ≡ s → Some x ≡ lookup (eqb series) view.sheets
    → ((q : ℕ) → lookup (eqb q) sheets ≡ cond (eqb series q) (Some y) (lookup (eqb q) view.sheets)) → IsWritten r s x y sheets
written {view = view} {s = s} {y = y} view_is series_is found has = record {
  had = sym (found ∙ ap (λ (n : ℕ). lookup (eqb n) view.sheets) series_is ∙ ap (λ (t : Register). sheet_of t s) view_is);
  has = λ q. has q ∙ ap (λ (n : ℕ). cond (eqb n q) (Some y) (lookup (eqb q) view.sheets)) series_is
      ∙ ap (λ (t : Register). cond (eqb s q) (Some y) (sheet_of t q)) view_is;
}

-- what the sheet that was found has is what the series has
pub found_on : {r view : Register} {s series : ℕ} {x : SeriesSheet}
    → view ≡ r → series ≡ s → Some x ≡ lookup (eqb series) view.sheets → (number : SeriesSheet → ℕ) → on_sheet number r s ≡ number x
found_on {view = view} {s = s} view_is series_is found number =
    sym (ap (on number) (found ∙ ap (λ (n : ℕ). lookup (eqb n) view.sheets) series_is ∙ ap (λ (t : Register). sheet_of t s) view_is))

module _ {r : Register} {s : ℕ} {x y : SeriesSheet} {sheets : List (ℕ × SeriesSheet)} (h : IsWritten r s x y sheets) where
  -- what the sheet had is what the series had
  pub on_its_sheet : (number : SeriesSheet → ℕ) → on_sheet number r s ≡ number x
  on_its_sheet number = ap (on number) h.had

  -- the series is that of the sheet where the two are equal
  here : (q : ℕ) → eqb s q ≡ true → sheet_of r q ≡ Some x
  here q same = ap (sheet_of r) (sym (eqb-true s q same)) ∙ h.had

  -- what the sheet has more, its series has more, and no other
  pub raised : (number : SeriesSheet → ℕ) (n : ℕ) → number y ≡ number x + n → (q : ℕ) → on number (lookup (eqb q) sheets) ≡ on_sheet number r q + cond (eqb s q) n 0
  raised number n more q = ap (on number) (h.has q) ∙ go (eqb s q) refl
    where
      go : (b : Bool) → eqb s q ≡ b → on number (cond b (Some y) (sheet_of r q)) ≡ on_sheet number r q + cond b n 0
      go true t = more ∙ ap (λ (k : ℕ). k + n) (sym (ap (on number) (here q t)))
      go false t = omega arith

  -- what the sheet has as before, each series has as before
  pub kept : (number : SeriesSheet → ℕ) → number y ≡ number x → (q : ℕ) → on number (lookup (eqb q) sheets) ≡ on_sheet number r q
  kept number equal q = ap (on number) (h.has q) ∙ go (eqb s q) refl
    where
      go : (b : Bool) → eqb s q ≡ b → on number (cond b (Some y) (sheet_of r q)) ≡ on_sheet number r q
      go true t = equal ∙ sym (ap (on number) (here q t))
      go false t = refl

  -- each series has room as before
  pub room_kept : (q : ℕ) → is_some (lookup (eqb q) sheets) ≡ has_room r q
  unfolding has_room
  room_kept q = ap is_some (h.has q) ∙ go (eqb s q) refl
    where
      go : (b : Bool) → eqb s q ≡ b → is_some (cond b (Some y) (sheet_of r q)) ≡ is_some (sheet_of r q)
      go true t = sym (ap is_some (here q t))
      go false t = refl

-- ---- a blank sheet more

-- some sheets are those of a register, with a blank one of a series s, which had none
pub record IsAdded (r : Register) (s : ℕ) (sheets : List (ℕ × SeriesSheet)) : Type 0 where
  pub none : is_some (sheet_of r s) ≡ false
  pub has : (q : ℕ) → lookup (eqb q) sheets ≡ cond (eqb s q) (Some blank_sheet) (sheet_of r q)

-- so it is where none was found in a view of the register, and a blank one was put in
pub added : {r view : Register} {s : ℕ} {b : Bool} {x : SeriesSheet} {sheets : List (ℕ × SeriesSheet)}
    → view ≡ r → b ≡ is_some (lookup (eqb s) view.sheets) → b ≡ false → x ≡ blank_sheet
    → ((q : ℕ) → lookup (eqb q) sheets ≡ cond (eqb s q) (Some x) (lookup (eqb q) view.sheets)) → IsAdded r s sheets
added {view = view} {s = s} view_is found none blank has = record {
  none = sym (ap (λ (t : Register). is_some (sheet_of t s)) view_is) ∙ sym found ∙ none;
  has = λ q. has q ∙ ap (λ (y : SeriesSheet). cond (eqb s q) (Some y) (lookup (eqb q) view.sheets)) blank
      ∙ ap (λ (t : Register). cond (eqb s q) (Some blank_sheet) (sheet_of t q)) view_is;
}

module _ {r : Register} {s : ℕ} {sheets : List (ℕ × SeriesSheet)} (h : IsAdded r s sheets) where
  -- no number changes
  pub added_kept : (number : SeriesSheet → ℕ) → number blank_sheet ≡ 0 → (q : ℕ) → on number (lookup (eqb q) sheets) ≡ on_sheet number r q
  added_kept number zero q = ap (on number) (h.has q) ∙ go (eqb s q) refl
    where
      empty : (o : Option SeriesSheet) → is_some o ≡ false → on number o ≡ 0
      empty None e = refl
      empty (Some x) e = absurd (false≢true (sym e))

      go : (b : Bool) → eqb s q ≡ b → on number (cond b (Some blank_sheet) (sheet_of r q)) ≡ on_sheet number r q
      go true t = zero ∙ sym (ap (λ (n : ℕ). on number (sheet_of r n)) (sym (eqb-true s q t)) ∙ empty (sheet_of r s) h.none)
      go false t = refl

  -- this series has room, and the others as before
  pub added_room : (q : ℕ) → is_some (lookup (eqb q) sheets) ≡ (eqb s q || has_room r q)
  unfolding has_room
  added_room q = ap is_some (h.has q) ∙ go (eqb s q)
    where
      go : (b : Bool) → is_some (cond b (Some blank_sheet) (sheet_of r q)) ≡ (b || is_some (sheet_of r q))
      go true = refl
      go false = refl
