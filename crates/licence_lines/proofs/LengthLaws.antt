-- How long the line of a licence may be.
use Rattle.std.proofs.Common.{◌≡◌, ℕ, ◌+◌, ◌*◌, ◌<◌, ◌≤◌, List, [], ◌∷◌, length, length-append, Result, Ok, Err, refl, ap, arith}
use Rattle.std.specs.Prelude.{decimal}
use Rattle.std.proofs.lemmas.Fmt.{length-decimal-le}
use Rattle.scrip_form.specs.Issuing.{Issuing}
use Rattle.command_table.specs.Ranges.{IsSecretList, joined}
use Rattle.command_table.proofs.SecretLemmas.{AreCerts, digits_are_32}
use Rattle.hex.specs.Hex.{encode_lower}
use Rattle.licence_lines.specs.Licences.{licence_line, LicenceFits, IsTold}

-- secrets of 32 digits, with a comma between each two
joined_length : (x : List ℕ) (xs : List (List ℕ)) → AreCerts (x ∷ xs) → length (joined (x ∷ xs)) + 1 ≡ 33 * length (x ∷ xs)
joined_length x [] are = omega (arith, digits_are_32 x are.0)
joined_length x (y ∷ ys) are =
    omega (arith, length-append (encode_lower x) (44 ∷ joined (y ∷ ys)), digits_are_32 x are.0, joined_length y ys are.1)

joined_short : (secrets : List (List ℕ)) → IsSecretList secrets → length (joined secrets) ≤ 527
joined_short [] is = absurd (omega (arith, is.some))
joined_short (x ∷ xs) is = omega (arith, is.few, joined_length x xs is.secrets')

line_is_short : (vendor : List ℕ) (t : Issuing) → LicenceFits vendor t → length (licence_line vendor t) ≤ 1150
line_is_short vendor t fits =
    let issuer : length (decimal t.issuer) ≤ 3 = length-decimal-le 3 t.issuer (omega arith) (omega (arith, fits.issuer.within)) (omega (arith, fits.issuer.within)) in
    let period : length (decimal t.period) ≤ 8 = length-decimal-le 8 t.period (omega arith) (omega (arith, fits.terms'.period.most)) (omega (arith, fits.terms'.period.most)) in
    let life : length (decimal t.life) ≤ 8 = length-decimal-le 8 t.life (omega arith) (omega (arith, fits.terms'.period.short)) (omega (arith, fits.terms'.period.short)) in
    let scrip = joined_short t.scrip fits.terms'.scrip in
    let customer = joined_short t.customer fits.terms'.customer in
    simp length-append (omega (arith, fits.vendor'.short, issuer, period, life, scrip, customer))

-- a longer input is none of a licence
pub long_breaks : (bytes : List ℕ) (r : Result (List ℕ × Issuing) ℕ) → 1150 < length bytes → IsTold bytes r → (line : ℕ) × (r ≡ Err line)
long_breaks bytes (Ok x) long told = absurd (omega (arith, long, line_is_short x.0 x.1 told.fits, ap length told.spelled))
long_breaks bytes (Err line) long told = (line, refl)
