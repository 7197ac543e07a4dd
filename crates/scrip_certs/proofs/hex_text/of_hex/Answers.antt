use Rattle.std.proofs.Common.{refl}
use Rattle.scrip_certs.proofs.LowerHexLemmas.{decoded}
use Rattle.scrip_certs.proofs.hex_text.of_hex.Goals as goal

pub unwrap-requires : goal.unwrap-requires
unwrap-requires c = rw ((decoded c.args.t.now (c.if-not-is_lower_hex.ensures.0 refl) c.decode_to_slice.result c.decode_to_slice.new.out c.decode_to_slice.ensures.value).0) refl

pub returns-clause-value : goal.returns-clause-value
returns-clause-value c = (decoded c.args.t.now (c.if-not-is_lower_hex.ensures.0 refl) c.decode_to_slice.result c.decode_to_slice.new.out c.decode_to_slice.ensures.value).1
