use Rattle.std.proofs.Common.{◌≡◌, take, length, refl, ap, arith}
use Rattle.std.proofs.lemmas.List.{length-take}
use Rattle.scrip_form.specs.Scrip.{scrip_body}
use Rattle.scrip_form.proofs.Laws.{body_written, body_is_short}
use Rattle.scrip_form.proofs.write.write_body.Goals as goal

pub returns-clause-body : goal.returns-clause-body
returns-clause-body c =
    body_written _ c.args.p.now
    (record {
      parts =
          rw (
            c.put_field.ensures.written,
            c.put_field-at-6.ensures.written,
            c.put_field-at-5.ensures.written,
            c.put_field-at-4.ensures.written,
            c.put_field-at-3.ensures.written,
            c.put_field-at-2.ensures.written,
            c.put_field-at.ensures.written,
            c.put-at.ensures.put,
            c.bytes.ensures.value,
            c.vendor-vendor.ensures.vendor,
            c.as_bytes.ensures.value,
            c.format.ensures.text,
            c.from.ensures,
            c.version.ensures.version,
            c.as_bytes-2.ensures.value,
            c.format-2.ensures.text,
            c.get.ensures.units,
            c.value.ensures.value,
            c.digits_of_id.ensures,
            c.id.ensures.id,
            c.digits_of_id-2.ensures,
            c.cust.ensures.cust,
            c.as_bytes-3.ensures.value,
            c.format-3.ensures.text,
            c.expires.ensures.expires,
            c.bytes-2.ensures.value,
            c.props-props.ensures.props,
          ) refl;
    })

pub returns-clause-short : goal.returns-clause-short
returns-clause-short c =
    let body : length (take c.put_field.result c.put_field.new.out) ≡ length (scrip_body c.args.p.now) = ap length (returns-clause-body c) in
    omega (arith, body, length-take c.put_field.result c.put_field.new.out, body_is_short c.args.p.now c.vendor-vendor.ensures.piece)
