use Rattle.std.proofs.Common.{ℕ, Bool, sym, ◌∙◌, ap, map, List}
use Rattle.std.specs.Prelude.{codes, ◌&&◌, if◌then◌else◌}
use Rattle.std.specs.Str.{bytes_eq}
use Rattle.httparse.specs.Spans.{header_bytes, span_bytes}
use Rattle.mc_requests.specs.declared.refusal.Refusal.TheVariants.{NoHost, BadTarget, BadMethod, RepeatedField}
use Rattle.millicent_http.specs.Fields.{values, at_most_one, first_of}
use Rattle.scrip_form.specs.Texts.{is_target}
use Rattle.millicent_http.specs.Items.{request, refused}
use Rattle.millicent_http.proofs.JudgeLemmas.{judged_no_host, judged_body, judged_target, judged_method, judged_last}
use Rattle.millicent_http.proofs.request.judge.Goals as goal

pub returns-then-not-host_is_fit : goal.returns-then-not-host_is_fit
returns-then-not-host_is_fit c =
    let fs : List (List ℕ × List ℕ) = map (header_bytes c.args.text.now) c.args.fields.now in
    ap (λ (b : Bool). refused NoHost b) c.closes-close.ensures
    ∙ sym (judged_no_host (span_bytes c.args.text.now c.args.head.method) (span_bytes c.args.text.now c.args.head.path) c.args.head.version fs
    (sym (c.host_is_fit.ensures (values (codes "host") fs) c.find_field.ensures) ∙ c.if-not-host_is_fit.true))

pub returns-then-any_body : goal.returns-then-any_body
returns-then-any_body c =
    let fs : List (List ℕ × List ℕ) = map (header_bytes c.args.text.now) c.args.fields.now in
    sym (judged_body (span_bytes c.args.text.now c.args.head.method) (span_bytes c.args.text.now c.args.head.path) c.args.head.version fs
    (sym (c.host_is_fit.ensures (values (codes "host") fs) c.find_field.ensures) ∙ c.if-not-host_is_fit.false)
    (sym c.any_body.ensures ∙ c.if-any_body.true))

pub returns-then-not-is_target : goal.returns-then-not-is_target
returns-then-not-is_target c =
    let fs : List (List ℕ × List ℕ) = map (header_bytes c.args.text.now) c.args.fields.now in
    ap (λ (b : Bool). refused BadTarget b) c.closes-close.ensures
    ∙ sym (judged_target (span_bytes c.args.text.now c.args.head.method) (span_bytes c.args.text.now c.args.head.path) c.args.head.version fs
    (sym (c.host_is_fit.ensures (values (codes "host") fs) c.find_field.ensures) ∙ c.if-not-host_is_fit.false)
    (sym c.any_body.ensures ∙ c.if-any_body.false)
    (ap is_target (sym c.of-target.ensures) ∙ sym c.is_target.ensures ∙ c.if-not-is_target.true))

pub returns-then-not-is_get : goal.returns-then-not-is_get
returns-then-not-is_get c =
    let fs : List (List ℕ × List ℕ) = map (header_bytes c.args.text.now) c.args.fields.now in
    ap (λ (b : Bool). refused BadMethod b) c.closes-close.ensures
    ∙ sym (judged_method (span_bytes c.args.text.now c.args.head.method) (span_bytes c.args.text.now c.args.head.path) c.args.head.version fs
    (sym (c.host_is_fit.ensures (values (codes "host") fs) c.find_field.ensures) ∙ c.if-not-host_is_fit.false)
    (sym c.any_body.ensures ∙ c.if-any_body.false)
    (ap is_target (sym c.of-target.ensures) ∙ sym c.is_target.ensures ∙ c.if-not-is_target.false)
    (ap (λ (m : List ℕ). bytes_eq m (codes "GET")) (sym c.of.ensures) ∙ sym c.is_get.ensures ∙ c.if-not-is_get.true))

pub returns : goal.returns
returns c =
    let fs : List (List ℕ × List ℕ) = map (header_bytes c.args.text.now) c.args.fields.now in
    c.ask.ensures (values (codes "millicent-scrip") fs) (values (codes "millicent-sign") fs) c.find_field-scrip.ensures c.find_field-sign.ensures
    ∙ ap (λ (t : List ℕ). if at_most_one (values (codes "millicent-scrip") fs) && at_most_one (values (codes "millicent-sign") fs)
    then request (record { target = t; scrip = first_of (values (codes "millicent-scrip") fs); sign = first_of (values (codes "millicent-sign") fs) }) c.closes-close.result
    else refused RepeatedField c.closes-close.result) c.of-target.ensures
    ∙ ap (λ (b : Bool). if at_most_one (values (codes "millicent-scrip") fs) && at_most_one (values (codes "millicent-sign") fs)
    then request (record { target = span_bytes c.args.text.now c.args.head.path; scrip = first_of (values (codes "millicent-scrip") fs); sign = first_of (values (codes "millicent-sign") fs) }) b
    else refused RepeatedField b) c.closes-close.ensures
    ∙ sym (judged_last (span_bytes c.args.text.now c.args.head.method) (span_bytes c.args.text.now c.args.head.path) c.args.head.version fs
    (sym (c.host_is_fit.ensures (values (codes "host") fs) c.find_field.ensures) ∙ c.if-not-host_is_fit.false)
    (sym c.any_body.ensures ∙ c.if-any_body.false)
    (ap is_target (sym c.of-target.ensures) ∙ sym c.is_target.ensures ∙ c.if-not-is_target.false)
    (ap (λ (m : List ℕ). bytes_eq m (codes "GET")) (sym c.of.ensures) ∙ sym c.is_get.ensures ∙ c.if-not-is_get.false))
