-- What is read of the text of a piece.
use Rattle.std.proofs.Common.{Result, Ok, Err, Some, ap₂, ◌≡◌, ℕ, List, refl}
use Rattle.scrip_form.specs.Scrip.{Scrip, IsTextOf}
use Rattle.scrip_form.specs.Reading.{scrip_of}
use Rattle.scrip_form.specs.Told.{IsTold}
use Rattle.kept_replies.specs.Parts.{AreAlike, like_read}

-- the piece with its certificate, by the laws of scrip texts
pub read_is : ((bytes : List ℕ) → IsTold bytes (scrip_of bytes)) → ((text : List ℕ) (p q : Scrip) (cert other : List ℕ) → IsTextOf text p cert → IsTextOf text q other → (p ≡ q) × (cert ≡ other))
    → (text : List ℕ) (p : Scrip) (cert : List ℕ) → IsTextOf text p cert → scrip_of text ≡ Ok (p, cert)
read_is told one text p cert is = go (scrip_of text) refl (told text)
  where
    go : (r : Result (Scrip × List ℕ) ℕ) → scrip_of text ≡ r → IsTold text r → r ≡ Ok (p, cert)
    go (Ok x) e t = let same = one text x.0 p x.1 cert t is in ap₂ (λ (q : Scrip) (c : List ℕ). ok (q, c)) same.0 same.1
      where
        ok : Scrip × List ℕ → Result (Scrip × List ℕ) ℕ
        ok y = Ok y
    go (Err place) e t = absurd (t.0 (p, cert, is))

-- the piece of a text with the value, the identity and the expiry of one that is like it is that one
pub like_is : (text : List ℕ) (p q : Scrip) (cert : List ℕ) → scrip_of text ≡ Ok (q, cert) → AreAlike p q → like_read (scrip_of text) p.value p.id p.expires ≡ Some p
like_is text p q cert read alike = rw (read, ← alike.version, ← alike.vendor, ← alike.cust, ← alike.props) refl
