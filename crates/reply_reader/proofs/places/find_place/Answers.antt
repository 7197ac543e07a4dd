use Rattle.std.proofs.Common.{◌≡◌, ◌+◌, ◌∙◌, refl, rules, sym, subst, List, ℕ, length, map, take, get_or, true, false}
use Rattle.httparse.specs.declared.spans.HeaderSpan.{HeaderSpan}
use Rattle.httparse.specs.Spans.{IsWithin, header_bytes}
use Rattle.millicent_http.specs.Fields.{values}
use Rattle.millicent_http.proofs.FieldLemmas.{values-nil, values_same}
use Rattle.reply_reader.specs.Places.{Stands}
use Rattle.reply_reader.proofs.PlaceLemmas.{values_other}
use Rattle.reply_reader.proofs.places.find_place.Goals as goal
use Rattle.reply_reader.proofs.places.find_place.Goals.{then-same_name, else-same_name}

pub loop-field-init : goal.loop-field-init
loop-field-init c = values-nil c.args.name.now

pub loop-field-preserved : goal.loop-field-preserved
loop-field-preserved c =
    let d : HeaderSpan = record { name = record { start = 0; end = 0 }; value = record { start = 0; end = 0 } } in
    let text : List ℕ = c.args.text.now in
    let here : HeaderSpan = get_or c.args.fields.now c.loop-field.field-index d in
    let old : List (List ℕ) = values c.args.name.now (map (header_bytes c.args.text.now) (take c.loop-field.field-index c.args.fields.now)) in
    let new : List (List ℕ) = values c.args.name.now (map (header_bytes c.args.text.now) (take (c.loop-field.field-index + 1) c.args.fields.now)) in
    elim c.if-same_name.branch [
      | then-same_name w ↦
          let e : c.same_name.result ≡ true = w.if-same_name.true in
          let within : IsWithin (length text) here.value = search rules in
          subst (λ (f : _). Stands text new f) (sym w.found-is)
          (subst (λ (z : List (List ℕ)). Stands text z w.and-found.result)
          (sym (values_same text c.args.name.now c.of.result.now (header_bytes text here).1 c.args.fields.now c.loop-field.field-index d c.loop-field-test.true c.of.ensures (sym c.same_name.ensures ∙ e) refl))
          (w.and-found.ensures text old within c.loop-field.invariant))
      | else-same_name w ↦
          let e : c.same_name.result ≡ false = w.if-same_name.false in
          subst (λ (f : _). Stands text new f) (sym w.found-is)
          (subst (λ (z : List (List ℕ)). Stands text z c.loop-field.found)
          (sym (values_other text c.args.name.now c.of.result.now c.args.fields.now c.loop-field.field-index d c.loop-field-test.true c.of.ensures (sym c.same_name.ensures ∙ e)))
          c.loop-field.invariant)
    ]
