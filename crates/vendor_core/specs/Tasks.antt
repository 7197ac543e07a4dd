-- What there is to do by a command of a vendor's operator, and what a mint answers.
use Rattle.std.specs.Prelude.{◌≡◌, ℕ, ◌+◌, ◌<◌, ◌≤◌, ◌⊎◌, nat_lt, IsFalse, if◌then◌else◌, List, [], ◌∷◌, ◌++◌, take, Option, Some, None, slice_get, option_map, unwrap_or}
use Rattle.scrip_form.specs.Issuing.{Issuing}
use Rattle.issuer_terms.specs.Terms.{are_same_terms}
use Rattle.mc_requests.specs.declared.limits.Limits.{Limits}
use Rattle.mc_requests.specs.declared.refusal.Refusal.TheVariants.{NoSuchGoods, SeriesFull, ContentsFull, IssuerTaken, RefUsed}
use Rattle.mc_records.specs.Entry.{Entry, AddTerms, Goods, Mint}
use Rattle.ledger_model.specs.declared.numbers.TheConstants.{MOST_IN_FORCE}
use Rattle.ledger_model.specs.Histories.{History}
use Rattle.ledger_model.specs.Houses.{site_name, terms_in, version, own_series}
use Rattle.ledger_model.specs.Goods.{goods_in, goods_kind, goods_contents, in_force}
use Rattle.ledger_model.specs.Pieces.{own_count, next_identity, has_reference, minted_pieces}
use Rattle.house_core.specs.Tasks.{Task, Add, Stays, Refuse}
use Rattle.vendor_core.specs.Lines.{piece_lines}

-- ---- what there is to do

-- Goods are put on sale where the contents in force stay within their most bytes. Else 54 ContentsFull tells how
-- many bytes would be in force.
abbrev pub goods_entered : Entry → ℕ → Task
goods_entered e bytes = if nat_lt MOST_IN_FORCE bytes then Refuse (ContentsFull bytes) else Add e

abbrev pub goods_task : History → ℕ → List ℕ → ℕ → ℕ → List ℕ → Task
goods_task h t target price kind contents = goods_entered (Goods t target price kind contents) (in_force (h ++ Goods t target price kind contents ∷ []))

-- Of a new price the goods of the target keep their kind and contents; 30 NoSuchGoods where it has none.
abbrev pub repriced : ℕ → List ℕ → ℕ → Option Entry → Task
repriced t target price None = Refuse NoSuchGoods
repriced t target price (Some e) = Add (Goods t target price (goods_kind e) (goods_contents e))

abbrev pub price_task : History → ℕ → List ℕ → ℕ → Task
price_task h t target price = repriced t target price (goods_in h target)

-- Terms are added where their issuer is new; 55 IssuerTaken where others of it stand.
abbrev pub licensed : ℕ → Issuing → Option Issuing → Task
licensed t terms None = Add (AddTerms t terms)
licensed t terms (Some x) = if are_same_terms x terms then Stays else Refuse (IssuerTaken terms.issuer)

abbrev pub terms_task : History → ℕ → Issuing → Task
terms_task h t terms = licensed t terms (terms_in h terms.issuer)

-- the entry of a number mints so many pieces of a value under a reference
pub record IsMintAt (h : History) (reference : List ℕ) (count value number : ℕ) : Type 0 where
  pub moment : ℕ
  pub first : ℕ
  pub entry : slice_get h number ≡ Some (Mint moment reference count value first)

-- a reference stands with another count or value
pub record IsUsed (h : History) (reference : List ℕ) (count value : ℕ) : Type 0 where
  pub number : ℕ
  pub count' : ℕ
  pub value' : ℕ
  pub mint : IsMintAt h reference count' value' number
  pub other : (count' ≡ count) × (value' ≡ value) → ⊥

-- A mint is added under a new reference, with the next identities of the house's own series, where the limit
-- of a series leaves room; else 32 SeriesFull tells the series. Under a reference that stands with this count
-- and value nothing is added; 56 RefUsed where it stands with others.
abbrev pub IsMintTask : History → ℕ → Limits → List ℕ → ℕ → ℕ → Task → Type 0
IsMintTask h t limits reference count value (Add e) =
    IsFalse (has_reference h reference) × (own_count h (own_series h t) + count ≤ limits.series) × (e ≡ Mint t reference count value (next_identity h (own_series h t)))
IsMintTask h t limits reference count value Stays = (number : ℕ) × IsMintAt h reference count value number
IsMintTask h t limits reference count value (Refuse f) =
    (IsUsed h reference count value × (f ≡ RefUsed reference))
    ⊎ (IsFalse (has_reference h reference) × (limits.series < own_count h (own_series h t) + count) × (f ≡ SeriesFull (own_series h t)))

-- ---- what is answered

-- the lines of the pieces that the entry of a number mints
abbrev pub mint_lines : History → ℕ → List ℕ
mint_lines h number =
    let minted = unwrap_or (option_map (minted_pieces (take number h)) (slice_get h number)) [] in
    unwrap_or (option_map (λ t. piece_lines (version h (site_name h)) t minted) (terms_in h 0)) []

-- the number of the mint of this reference, and its lines
abbrev pub TellsMint : List ℕ → ℕ → ℕ → List ℕ → Task → History → ℕ → Type 0
TellsMint reference count value out task g number = IsMintAt g reference count value number × (out ≡ mint_lines g number)
