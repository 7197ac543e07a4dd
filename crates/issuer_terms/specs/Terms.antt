-- Which terms of issuers are the same.
use Rattle.std.specs.Prelude.{◌==◌, ◌&&◌, Bool, bytes_eq}
use Rattle.std.specs.Cmp.Lexicographic.{pointwise}
use Rattle.scrip_form.specs.Issuing.{Issuing}

-- whether terms are the same, part by part
abbrev pub are_same_terms : Issuing → Issuing → Bool
are_same_terms a b =
    a.issuer == b.issuer && a.period == b.period && a.life == b.life && pointwise bytes_eq a.scrip b.scrip && pointwise bytes_eq a.customer b.customer
