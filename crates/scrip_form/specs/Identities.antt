-- Identities: 64 bits, of which the highest 8 are the issuer, the next 24 the epoch, and the last 32
-- the serial. Issuer and epoch name the series.
use Rattle.std.specs.Prelude.{ℕ, ◌+◌, ◌*◌, ◌/◌, ◌%◌, ◌^◌}

abbrev pub identity : ℕ → ℕ → ℕ → ℕ
identity issuer epoch serial = issuer * 2 ^ 56 + epoch * 2 ^ 32 + serial

abbrev pub issuer_of : ℕ → ℕ
issuer_of id = id / 2 ^ 56

abbrev pub epoch_of : ℕ → ℕ
epoch_of id = id / 2 ^ 32 % 2 ^ 24

abbrev pub serial_of : ℕ → ℕ
serial_of id = id % 2 ^ 32

abbrev pub series_of : ℕ → ℕ
series_of id = id / 2 ^ 32

-- the identity of a serial of a series
abbrev pub numbered : ℕ → ℕ → ℕ
numbered series serial = series * 2 ^ 32 + serial
