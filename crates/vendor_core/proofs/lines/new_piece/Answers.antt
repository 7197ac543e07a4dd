use Rattle.std.proofs.Common.{rules, ◌≡◌, ◌<◌, ◌^◌, arith}
use Rattle.scrip_form.specs.Issuing.{HasPeriod, series_end}
use Rattle.vendor_core.proofs.LineLemmas.{ends_in_range}
use Rattle.vendor_core.proofs.lines.new_piece.Goals as goal

pub unwrap-requires : goal.unwrap-requires
unwrap-requires c =
    let has : HasPeriod c.args.terms.period c.args.terms.life = search rules in
    let below : c.parts-epoch.result.1 < 2 ^ 24 = search rules in
    let ends = ends_in_range c.args.terms c.parts-epoch.result.1 has below in
    let is : c.series_end-expires.result ≡ series_end c.args.terms c.parts-epoch.result.1 = c.series_end-expires.ensures in
    c.first_hand.ensures.valid.1 (c.requires.version, c.requires.some, omega (arith, ends.0, is), omega (arith, ends.1, is))
