-- The digests of scrip, requests and replies.
use Rattle.std.specs.Prelude.{ℕ, ◌==◌, if◌then◌else◌, List, [], ◌∷◌, ◌++◌, take, codes}
use Rattle.std.specs.Int.{w64, to_be_bytes}
use Rattle.md5.specs.Md5.{md5}
use Rattle.sha2.specs.Sha256.{sha256}
use Rattle.scrip_form.specs.Issuing.{Issuing, selected}
use Rattle.scrip_form.specs.Scrip.{text_version}

-- the digest of a version: MD5 in version 1, the first 16 bytes of SHA-256 in version 2
unfoldable pub digest : ℕ → List ℕ → List ℕ
digest version bytes = if version == 2 then take 16 (sha256 bytes) else md5 bytes

-- a text and the line feed behind it
abbrev pub line : List ℕ → List ℕ
line text = text ++ 10 ∷ []

-- the body, and the scrip secret that the identity selects, in the version of the body
unfoldable pub certificate : Issuing → List ℕ → ℕ → List ℕ
certificate terms body id = digest (text_version body) (body ++ selected terms.scrip id)

-- the eight bytes of the customer's identity, and the customer secret that it selects, in a version
unfoldable pub customer_secret : Issuing → ℕ → ℕ → List ℕ
customer_secret terms cust version = digest version (to_be_bytes w64 cust ++ selected terms.customer cust)

abbrev pub request_text : List ℕ → List ℕ
request_text target = codes "GET " ++ target

-- a signature has the version of its scrip text; `-`, which stands for it in a draw, has version 1
unfoldable pub request_signature : List ℕ → List ℕ → List ℕ → List ℕ
request_signature scrip target secret = digest (text_version scrip) (line scrip ++ line (request_text target) ++ secret)

-- the reply text is a head up to and with its line feed, and the contents
unfoldable pub reply_signature : List ℕ → List ℕ → List ℕ → List ℕ → List ℕ → List ℕ
reply_signature scrip target head contents secret =
    digest (text_version scrip) (line scrip ++ line (request_text target) ++ line (head ++ contents) ++ secret)
