use Rattle.std.proofs.Common.{◌≡◌, ℕ, ◌-◌, List, ◌∷◌, true, sym, ap, ap₂, subst, ◌∙◌, arith}
use Rattle.mc_fields.proofs.FieldBytes.{ok_is}
use Rattle.mc_records.specs.Entry.{Held, HeldFits}
use Rattle.mc_records.specs.Views.{held_of}
use Rattle.mc_records.specs.Pieces.{are_pieces, pieces_in}
use Rattle.mc_records.proofs.PieceLaws.{list_is, split}
use Rattle.mc_records.proofs.piece_list.PieceList.split_first.Goals as goal

pub unreachable-requires : goal.unreachable-requires
unreachable-requires c =
    let s = c.args.self.now in
    let p = split s.count s.bytes.now s.spelled in
    let r = sym p.read ∙ c.in-Err.ensures in
    absurd cc

pub unreachable-requires-in-Err-read_scrip : goal.unreachable-requires-in-Err-read_scrip
unreachable-requires-in-Err-read_scrip c =
    let s = c.args.self.now in
    let p = split s.count s.bytes.now s.spelled in
    let same = ok_is (p.first, p.rest) (held_of c.in-Ok.read.0, c.in-Ok.read.1.now) (sym p.read ∙ c.in-Ok.ensures) in
    let first : p.first ≡ held_of c.in-Ok.read.0 = ap (λ (x : Held × List ℕ). x.0) same in
    let good : HeldFits (held_of c.in-Ok.read.0) = subst HeldFits first p.good in
    let no = c.in-Err-read_scrip.ensures.exact.1 good.text in
    absurd cc

pub of-requires : goal.of-requires
of-requires c =
    let s = c.args.self.now in
    let p = split s.count s.bytes.now s.spelled in
    let same = ok_is (p.first, p.rest) (held_of c.in-Ok.read.0, c.in-Ok.read.1.now) (sym p.read ∙ c.in-Ok.ensures) in
    subst (λ (r : List ℕ). are_pieces (s.count - 1) r ≡ true) (ap (λ (x : Held × List ℕ). x.1) same) (p.are c.if-self-gt1.true)

pub returns-then-self-gt1 : goal.returns-then-self-gt1
returns-then-self-gt1 c =
    let s = c.args.self.now in
    let p = split s.count s.bytes.now s.spelled in
    let same = ok_is (p.first, p.rest) (held_of c.in-Ok.read.0, c.in-Ok.read.1.now) (sym p.read ∙ c.in-Ok.ensures) in
    let first = ap (λ (x : Held × List ℕ). x.0) same ∙ ap found (sym c.in-Ok-read_scrip.ensures.found.0) in
    let others = sym (p.left c.if-self-gt1.true) ∙ ap (λ (x : Held × List ℕ). pieces_in (s.count - 1) x.1) same
    ∙ ap₂ (λ (n : ℕ) (b : List ℕ). pieces_in n b) (sym c.of.ensures.count) (sym c.of.ensures.bytes) in
    p.is ∙ ap₂ (λ (x : Held) (xs : List Held). x ∷ xs) first others
  where
    found : List ℕ → Held
    found text = record { text = text; secret = c.in-Ok.read.0.1 }

pub returns-else-self-gt1 : goal.returns-else-self-gt1
returns-else-self-gt1 c =
    let s = c.args.self.now in
    let p = split s.count s.bytes.now s.spelled in
    let l = list_is s.count s.bytes.now s.spelled in
    let same = ok_is (p.first, p.rest) (held_of c.in-Ok.read.0, c.in-Ok.read.1.now) (sym p.read ∙ c.in-Ok.ensures) in
    let first = ap (λ (x : Held × List ℕ). x.0) same ∙ ap found (sym c.in-Ok-read_scrip.ensures.found.0) in
    let one : s.count ≡ 1 = omega (arith, c.if-self-gt1.false, l.counted, l.good.some) in
    p.is ∙ ap₂ (λ (x : Held) (xs : List Held). x ∷ xs) first (p.last one)
  where
    found : List ℕ → Held
    found text = record { text = text; secret = c.in-Ok.read.0.1 }
