use Rattle.std.proofs.Common.{◌≡◌, ◌<◌, ◌++◌, [], ℕ, List, length, refl, sym, ap, ◌∙◌, arith, append-nil}
use Rattle.std.proofs.lemmas.Bool.{eqb-true, eqb-false}
use Rattle.std.proofs.lemmas.List.{nil_from_length}
use Rattle.licence_lines.specs.Licences.{licence_line}
use Rattle.licence_lines.proofs.FieldLaws.{breaks_first, breaks_behind, begins_none, begins_other, line_whole}
use Rattle.licence_lines.proofs.licence.read_licence_line.Goals as goal

pub returns-in_default : goal.returns-in_default
returns-in_default c =
    let some : 0 < length c.args.bytes.now = omega (arith, eqb-false (length c.args.bytes.now) 0 (sym c.if-is_empty.ensures)) in
    breaks_first c.args.bytes.now some (begins_none c.args.bytes.now c.in_default.ensures)

pub returns-in_default-licence_of : goal.returns-in_default-licence_of
returns-in_default-licence_of c =
    let some : 0 < length c.args.bytes.now = omega (arith, eqb-false (length c.args.bytes.now) 0 (sym c.if-is_empty.ensures)) in
    breaks_first c.args.bytes.now some (begins_other c.args.bytes.now c.in-Some.line.now c.in-Some.rest.now c.in-Some.ensures (c.in_default-licence_of.ensures.none refl))

pub returns-then-not-is_empty : goal.returns-then-not-is_empty
returns-then-not-is_empty c =
    let some : 0 < length c.args.bytes.now = omega (arith, eqb-false (length c.args.bytes.now) 0 (sym c.if-is_empty.ensures)) in
    let x = c.in-Some-licence_of.ensures.some in
    breaks_behind c.args.bytes.now some (record {
      vendor = c.in-Some-licence_of.licence.0;
      terms = c.in-Some-licence_of.licence.1;
      more = c.in-Some.rest.now;
      fits = x.0;
      spelled = line_whole c.args.bytes.now c.in-Some.line.now c.in-Some.rest.now c.in-Some-licence_of.licence.0 c.in-Some-licence_of.licence.1 c.in-Some.ensures x.1;
      some = omega (arith, eqb-false (length c.in-Some.rest.now) 0 (sym c.if-not-is_empty.ensures));
    })

pub returns : goal.returns
returns c =
    let x = c.in-Some-licence_of.ensures.some in
    let vendor = c.in-Some-licence_of.licence.0 in
    let terms = c.in-Some-licence_of.licence.1 in
    let none : c.in-Some.rest.now ≡ [] = nil_from_length c.in-Some.rest.now (eqb-true (length c.in-Some.rest.now) 0 (sym c.if-not-is_empty.ensures)) in
    record {
      fits = x.0;
      spelled = line_whole c.args.bytes.now c.in-Some.line.now c.in-Some.rest.now vendor terms c.in-Some.ensures x.1
          ∙ ap (λ (l : List ℕ). licence_line vendor terms ++ l) none ∙ append-nil (licence_line vendor terms);
    }
