-- A digest in the making: its version, and the bytes that it was given.
use Rattle.std.specs.Prelude.{◌≡◌, ℕ, ◌==◌, true, false, List}
use Rattle.md5.specs.Md5 as md5
use Rattle.sha2.specs.Hashers.{Holds256}
use Rattle.scrip_certs.specs.declared.hasher.Hasher.{Hasher}
use Rattle.scrip_certs.specs.declared.hasher.Hasher.TheVariants as hashers

abbrev pub Hashes : Hasher → ℕ → List ℕ → Type 0
Hashes (hashers.First h) version message = ((version == 2) ≡ false) × md5.Holds h message
Hashes (hashers.Second h) version message = ((version == 2) ≡ true) × Holds256 h message
