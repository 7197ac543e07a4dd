-- A head that the parser read.
use Rattle.std.proofs.Common.{◌≡◌, ℕ, List, [], length, map, take, drop, sym, ◌∙◌, ap, subst, arith, Option, Some, None}
use Rattle.std.specs.Prelude.{IfSome}
use Rattle.std.proofs.lemmas.List.{drop_all, length-take, length-map}
use Rattle.httparse.specs.declared.spans.HeaderSpan.{HeaderSpan}
use Rattle.httparse.specs.declared.spans.ResponseSpans.{ResponseSpans}
use Rattle.httparse.specs.Grammar.{ReadsResponse}
use Rattle.httparse.specs.Spans.{header_bytes, name_and_value, IsResponseOf}
use Rattle.reply_reader.specs.declared.head.HeadPlaces.{HeadPlaces}
use Rattle.reply_reader.specs.Said.{said_by, HeadSays}
use Rattle.reply_reader.specs.Places.{said_at}

-- what it says by its places is what the text says
pub head_says : (text : List ℕ) (headers fields : List HeaderSpan) (r : ResponseSpans) (o : Option HeadPlaces) → IsResponseOf text headers r → r.len ≡ length text
    → length headers ≡ 64 → fields ≡ take r.headers headers
    → IfSome o (λ h. said_by r.code (map (header_bytes text) fields) ≡ Some (said_at text h)) → IfSome o (λ h. HeadSays text (said_at text h))
head_says text headers fields r None is len size part says = tt
head_says text headers fields r (Some h) is len size part says =
    let at = is.1 in
    let rest : drop r.len text ≡ [] = drop_all r.len text (omega (arith, len)) in
    let spans : map (header_bytes text) fields ≡ map name_and_value is.0.fields = ap (λ (z : List HeaderSpan). map (header_bytes text) z) part ∙ at.fields in
    let count : length is.0.fields ≡ length (take r.headers headers) =
    sym (length-map is.0.fields name_and_value) ∙ ap length (sym at.fields) ∙ length-map (take r.headers headers) (header_bytes text) in
    record {
      head = is.0;
      reads = record { whole = subst (λ (z : List ℕ). ReadsResponse text is.0 z) rest at.reads; fields = omega (arith, count, size, length-take r.headers headers) };
      said = ap (λ (n : ℕ). said_by n (map name_and_value is.0.fields)) (sym at.code) ∙ ap (λ (z : List (List ℕ × List ℕ)). said_by r.code z) (sym spans) ∙ says;
    }
