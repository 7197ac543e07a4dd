-- What the slow evaluators speak of beside the definitions.
use Rattle.std.specs.Prelude.{◌≡◌, ℕ, Bool, not, ◌==◌, bytes_eq, List, Option, None, option_map, find, Result, Ok, Err}
use Rattle.std.specs.Global.{Vec}
use Rattle.hex.specs.Hex.{encode_lower}
use Rattle.scrip_form.specs.Identities.{series_of}
use Rattle.scrip_form.specs.Issuing.{Issuing}
use Rattle.scrip_form.specs.Scrip.{Scrip, Certified, scrip_body}
use Rattle.scrip_certs.specs.Digests.{certificate, customer_secret}
use Rattle.mc_requests.specs.Errands.{errand_of}
use Rattle.mc_records.specs.Entry.{Deed, sale, Entry, Site, AddTerms, Goods, Accept, Mint, Draw, Fits, payload}
use Rattle.mc_records.specs.Views.{deed_of}
use Rattle.mc_requests.specs.declared.limits.Limits.{Limits}
use Rattle.mc_requests.specs.declared.refusal.Refusal.TheVariants.{WrongVersion, BadCertificate, NoAccount}
use Rattle.mc_requests.specs.Requests.{Asked}
use Rattle.ledger_model.specs.Histories.{History}
use Rattle.ledger_model.specs.Orders.{Order}
use Rattle.ledger_model.specs.Accounts.{key_in}
use Rattle.ledger_model.specs.Lines.{Stop, Refuse, Repeat, ◌>>=◌, given, refused_if}
use Rattle.ledger_model.specs.Stages.{Offer, supplied, drawable_by, payable_by}
use Rattle.ledger_model.specs.Answer.{known_in, drawn}
use Rattle.ledger_model.specs.Stock.{Sale, sale_at, knows_vendor, licensed_count, is_for_sale, for_sale}
use Rattle.slow_ledger.specs.declared.offers.Purchase.{Purchase}
use Rattle.slow_ledger.specs.declared.stages.Stopped.{Stopped}
use Rattle.slow_ledger.specs.declared.stages.Stopped.TheVariants as stops

-- whether a piece is of a series
abbrev pub is_of : ℕ → Scrip → Bool
is_of series p = series_of p.id == series

-- the sale of a deed for a target
abbrev pub sale_for : List ℕ → Deed → Option Sale
sale_for target (sale stock id) = sale_at stock id (errand_of target)
sale_for target _ = None

-- the identity of the first of some pieces that is for sale
abbrev pub first_open : History → ℕ → List ℕ → ℕ → List Scrip → Option ℕ
first_open h t vendor value pieces = option_map (λ p. p.id) (find (is_for_sale h t vendor value) pieces)

-- what is sold of a vendor, where these are the terms of his licence
abbrev pub supplied_in : History → ℕ → ℕ → List ℕ → ℕ → Option Issuing → Result Deed Stop
supplied_in h limit t vendor asked licence = supplied limit t asked licence (licensed_count h vendor) (knows_vendor h vendor) (for_sale h t vendor asked)

-- ---- stages

-- a stage of the program tells one of the table; want of memory tells nothing
abbrev pub Tells : {X Y : Type 0} → (X → Y) → Result X Stopped → Result Y Stop → Type 0
Tells view (Ok x) line = line ≡ Ok (view x)
Tells view (Err (stops.Refused refusal)) line = line ≡ Err (Refuse refusal)
Tells view (Err (stops.Again number)) line = line ≡ Err (Repeat number)
Tells view (Err stops.NoMemory) line = Unit {0}

-- the payload of the entry that a table gives, or what stops it
abbrev pub Evaluates : Result (Vec ℕ) Stopped → Result Entry Stop → Type 0
Evaluates (Ok bytes) line = (e : Entry) × (line ≡ Ok e) × Fits e × (bytes.items ≡ payload e)
Evaluates (Err (stops.Refused refusal)) line = line ≡ Err (Refuse refusal)
Evaluates (Err (stops.Again number)) line = line ≡ Err (Repeat number)
Evaluates (Err stops.NoMemory) line = Unit {0}

-- what is left of the stage of genuine pieces, of which the issuers are known
abbrev pub certified_by : (ℕ → ℕ) → Issuing → Issuing → Certified → Result (List ℕ) Stop
certified_by version issuer customers scrip = do
  _ ← refused_if (not (scrip.piece.version == version (series_of scrip.piece.id))) (WrongVersion (version (series_of scrip.piece.id)))
  _ ← refused_if (not (bytes_eq scrip.cert (certificate issuer (scrip_body scrip.piece) scrip.piece.id))) BadCertificate
  Ok (customer_secret customers scrip.piece.cust (version (series_of scrip.piece.cust)))

-- what is offered, as the table has it
abbrev pub offer_of : Purchase → Offer
offer_of o = record { price = o.price; deed = deed_of o.deed }

-- a draw out of an account, under an order
abbrev pub an_order : List ℕ → ℕ → ℕ → Order
an_order account order amount = record { account = account; order = order; amount = amount }

-- what is left of the column of a draw that is no repeat
abbrev pub after_again : History → ℕ → Limits → Asked → Order → Result Entry Stop
after_again h t limits q o = do
  key ← given (key_in h o.account) NoAccount
  sign ← drawable_by key q.target q.sign
  _ ← payable_by o (known_in h o.account)
  drawn h t limits q sign

-- ---- entries

-- the request of an entry of this scrip text, target and signature
abbrev pub asked_by : Option (List ℕ) → List ℕ → Option (List ℕ) → Asked
asked_by scrip target sign = record { target = target; scrip = scrip; sign = option_map encode_lower sign }

-- an entry that only an operator makes, and no vendor's alone, or of a kind that no house has
abbrev pub IsOperators : Entry → Type 0
IsOperators (Site m kind name house) = ⊥
IsOperators (AddTerms m terms) = ⊥
IsOperators (Goods m target price kind contents) = ⊥
IsOperators (Accept m scrip target sign price change deed) = ⊥
IsOperators (Mint m reference count value first) = ⊥
IsOperators (Draw m target sign drawn) = ⊥
IsOperators e = Unit {0}
