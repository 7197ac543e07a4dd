-- The books of several brokers and of vendors, where a broker may sell on what another sold.
use Rattle.std.specs.Prelude.{◌≡◌, ℕ, ◌+◌, ◌==◌, ◌||◌, IsTrue, List, [], ◌∷◌, ◌++◌, if◌then◌else◌, flat_map, sum_by, bytes_eq}
use Rattle.std.specs.List.{list_any, AllByRecursion}
use Rattle.scrip_form.specs.Scrip.{Scrip}
use Rattle.mc_requests.specs.declared.limits.Limits.{Limits}
use Rattle.ledger_model.specs.declared.numbers.TheConstants.{VENDOR_KIND, BROKER_KIND}
use Rattle.ledger_model.specs.Histories.{History}
use Rattle.ledger_model.specs.Houses.{site_name}
use Rattle.ledger_model.specs.Pieces.{accepted, own_out, minted}
use Rattle.ledger_model.specs.Stock.{sales, sold, stock_sold, licensed_sold}
use Rattle.ledger_model.specs.Sums.{values, paid_in, takings, outstanding, lapsed}
use Rattle.audit_model.specs.Meets.{is_among, AreAmong}
use Rattle.audit_model.specs.Books.{IsBook, HaveOwnNames, broker_sum}

-- the pieces of a vendor that some brokers sold, by book and then by entry; and those under his licences
abbrev pub sold_by : List History → List ℕ → List Scrip
sold_by bs vendor = flat_map (λ b. sold b vendor) bs

abbrev pub licensed_by : List History → List ℕ → List Scrip
licensed_by bs vendor = flat_map (λ b. licensed_sold b vendor) bs

-- some pieces, each identity once, as it comes first, but for identities that were seen before
abbrev pub once_from : List ℕ → List Scrip → List Scrip
once_from seen [] = []
once_from seen (p ∷ ps) = if list_any (λ id. id == p.id) seen then once_from seen ps else p ∷ once_from (p.id ∷ seen) ps

abbrev pub once : List Scrip → List Scrip
once ps = once_from [] ps

-- the others: the pieces whose identity came before
abbrev pub again_from : List ℕ → List Scrip → List Scrip
again_from seen [] = []
again_from seen (p ∷ ps) = if list_any (λ id. id == p.id) seen then p ∷ again_from seen ps else again_from (p.id ∷ seen) ps

abbrev pub again : List Scrip → List Scrip
again ps = again_from [] ps

-- what was handed out of a vendor beside brokers: what they sold, and its own change, each identity once
abbrev pub handed_by : List History → History → List Scrip
handed_by bs v = once (sold_by bs (site_name v) ++ own_out v)

-- what was sold of identities that had been sold before
abbrev pub relayed : List History → List History → ℕ
relayed bs vs = sum_by (λ v. values (again (sold_by bs (site_name v)))) vs

-- the books of brokers and of vendors with names of their own, among them each vendor of which a broker sold
pub record AreBooksOf (limits : Limits) (bs vs : List History) : Type 0 where
  pub brokers : AllByRecursion (IsBook limits BROKER_KIND) bs
  pub vendors : AllByRecursion (IsBook limits VENDOR_KIND) vs
  pub names : HaveOwnNames vs
  pub sold_for : AllByRecursion (λ b. AllByRecursion (λ s. IsTrue (list_any (λ v. bytes_eq s.vendor (site_name v)) vs)) (sales b)) bs

-- a piece that was sold out of stock was minted by its vendor, or some broker sold it under a licence
abbrev pub IsGenuineStock : List History → History → Scrip → Type 0
IsGenuineStock bs v p = IsTrue (is_among (minted v) p || is_among (licensed_by bs (site_name v)) p)

-- What was accepted was handed out, and what was sold out of stock is genuine. (That sales of one identity have one
-- value, and that none is sold under a licence twice, the sums do not ask.)
pub record IsHandedOutBy (bs vs : List History) : Type 0 where
  pub own : AllByRecursion (λ b. AreAmong (own_out b) (accepted b)) bs
  pub accepted_pieces : AllByRecursion (λ v. AreAmong (handed_by bs v) (accepted v)) vs
  pub stock : AllByRecursion (λ v. AllByRecursion (λ b. AllByRecursion (IsGenuineStock bs v) (stock_sold b (site_name v))) bs) vs

-- takings, outstanding and lapsed of a vendor beside brokers
abbrev pub vendor_sum_by : List History → History → ℕ
vendor_sum_by bs v = takings v + outstanding (handed_by bs v) v + lapsed (handed_by bs v) v

-- what was paid in to all brokers is their sums, those of the vendors, and once more what was sold on
abbrev pub AreBalanced : List History → List History → Type 0
AreBalanced bs vs = sum_by paid_in bs ≡ sum_by broker_sum bs + sum_by (vendor_sum_by bs) vs + relayed bs vs
