-- The heads of a play, numbered from 0, and the links that they come on.
use Rattle.std.specs.Prelude.{ℕ, zero, suc, ◌+◌, ◌-◌, ◌/◌, ◌%◌, ◌==◌, min, cond, List, [], ◌∷◌, ◌++◌, codes, replicate}
use Rattle.scrip_form.specs.Identities.{identity}
use Rattle.scrip_form.specs.Issuing.{Issuing, series_end}
use Rattle.scrip_form.specs.Scrip.{Scrip, scrip_body, scrip_text}
use Rattle.scrip_certs.specs.Digests.{certificate}

-- ---- pieces

-- the terms of the issuer whose pieces are paid with
abbrev pub issuer_terms : Issuing
issuer_terms = record {
  issuer = 1;
  period = 2048;
  life = 0;
  scrip = replicate 16 3 ∷ [];
  customer = replicate 16 4 ∷ [];
}

-- a first-hand piece of that issuer
abbrev pub piece_of : ℕ → ℕ → ℕ → Scrip
piece_of epoch serial value = record {
  version = 1;
  vendor = codes "play.example";
  value = value;
  id = identity 1 epoch serial;
  cust = identity 1 epoch serial;
  expires = series_end issuer_terms epoch;
  props = [];
}

-- the fresh piece of a number: of the epoch that the moment of that number lies in
abbrev pub fresh_piece : ℕ → ℕ → Scrip
fresh_piece i value = piece_of (i / 2048) (i % 2048) value

-- the same, of the epoch before; in the first epoch, where there is none before, of that epoch
abbrev pub late_piece : ℕ → ℕ → Scrip
late_piece i value = piece_of (i / 2048 - 1) (i % 2048) value

-- the piece of a number that has one of its own
abbrev pub own_piece : ℕ → Scrip
own_piece i = cond (i % 8 == 3) (late_piece i 100) (cond (i % 8 == 7) (fresh_piece i 24) (fresh_piece i 100))

-- ---- heads

-- a request for a target with a piece and its certificate
unfoldable pub paying_head : List ℕ → Scrip → List ℕ
paying_head target p =
    codes "GET " ++ target ++ codes " HTTP/1.1\r\nHost: play.example\r\nMillicent-Scrip: "
    ++ scrip_text p (certificate issuer_terms (scrip_body p) p.id) ++ codes "\r\n\r\n"

-- the head of a number: 5 of each 8 are the bytes of the head before, 6 has the piece of the head two before
-- and another target, and the others have pieces of their own
abbrev pub play_head : ℕ → List ℕ
play_head i =
    cond (i % 8 == 5) (paying_head (codes "/p") (own_piece (i - 1)))
    (cond (i % 8 == 6) (paying_head (codes "/q") (own_piece (i - 2)))
    (paying_head (codes "/p") (own_piece i)))

-- ---- links

-- so many heads, from a number on, joined
abbrev pub heads_from : ℕ → ℕ → List ℕ
heads_from i zero = []
heads_from i (suc n) = play_head i ++ heads_from (i + 1) n

-- the bytes of the link that begins with this head, of a play of so many heads: a link has 1,000 of them, and
-- the last one the rest
abbrev pub link_from : ℕ → ℕ → List ℕ
link_from count i = heads_from i (min 1000 (count - i))

-- so many links, 1,000 heads apart, the first of which begins with this head
abbrev pub links_from : ℕ → ℕ → ℕ → List (List ℕ)
links_from count i zero = []
links_from count i (suc n) = link_from count i ∷ links_from count (i + 1000) n

-- the bytes of the links of a play of so many heads
abbrev pub play_links : ℕ → List (List ℕ)
play_links count = links_from count 0 ((count + 999) / 1000)
