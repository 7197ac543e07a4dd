-- What the operations of a vendor's operator mean.
use Rattle.std.specs.Prelude.{◌≡◌, ◌⊎◌, ℕ, ◌+◌, ◌<◌, ◌≤◌, List, [], ◌++◌, length, flat_map, Option, Some, None, unwrap_or, codes, decimal, ◌∷◌}
use Rattle.mc_records.specs.declared.ranges.TheConstants.{MOST_CONTENTS}
use Rattle.mc_requests.specs.declared.refusal.Refusal.TheVariants.{ContentsFull}
use Rattle.mc_records.specs.Chains.{has_switch}
use Rattle.mc_records.specs.Sizes.{size}
use Rattle.ledger_model.specs.Histories.{History}
use Rattle.ledger_model.specs.Houses.{site_name}
use Rattle.ledger_model.specs.Goods.{goods_targets, in_force}
use Rattle.ledger_model.specs.Sums.{takings}
use Rattle.house_core.specs.Tasks.{Stays, Refuse, after}
use Rattle.house_core.specs.Upgrading.{upgrade_task}
use Rattle.vendor_core.specs.declared.shelf.OnSale.{OnSale}
use Rattle.vendor_core.specs.Shelf.{on_sale_in}
use Rattle.vendor_core.specs.Tasks.{goods_task, price_task, terms_task, IsMintTask, IsMintAt, mint_lines}
use Rattle.site_words.specs.declared.operation.Operation.{Operation}
use Rattle.site_words.specs.declared.operation.Operation.TheVariants as operations
use Rattle.licence_lines.specs.Licences.{licence_line}
use Rattle.site_words.specs.declared.operation.Licensing.{Licensing}
use Rattle.site_words.specs.declared.operation.Listing.{Listing}
use Rattle.site_words.specs.declared.operation.Minting.{Minting}
use Rattle.site_words.specs.declared.operation.Pricing.{Pricing}
use Rattle.site_words.specs.declared.operation.Upgrading.{Upgrading}
use Rattle.site_words.specs.Words.{licensed_terms}
use Rattle.said_lines.specs.Lines.{chain_words, metric, ready, site_metrics, upgrade_line}
use Rattle.operator_command.specs.Operations.{full, OperationView, chain_operation}

-- ---- the lines

abbrev pub goods_line : List ℕ → ℕ → List ℕ
goods_line target price = codes "goods " ++ target ++ codes " " ++ decimal price ++ codes "\n"

-- ---- what each means

-- Goods are put on sale, whose contents are the input; contents of more bytes than goods may have are refused.
abbrev pub goods_operation : Listing → OperationView
goods_operation l = record {
  input = Some MOST_CONTENTS;
  asks = λ input h t task.
      ((length input ≤ MOST_CONTENTS) × (task ≡ goods_task h t l.target l.price (unwrap_or l.kind 0) input))
      ⊎ ((MOST_CONTENTS < length input) × (task ≡ Refuse (ContentsFull (MOST_CONTENTS + 1))));
  says = λ input h task line. line ≡ goods_line l.target l.price;
  refusals = 33 ∷ 54 ∷ [];
}

-- goods are sold at another price
abbrev pub price_operation : Pricing → OperationView
price_operation p = record {
  input = None;
  asks = λ input h t task. task ≡ price_task h t p.target p.price;
  says = λ input h task line. line ≡ goods_line p.target p.price;
  refusals = 30 ∷ 33 ∷ [];
}

-- scrip of an issuer is taken from now on
abbrev pub licence_operation : Licensing → OperationView
licence_operation l = record {
  input = None;
  asks = λ input h t task. task ≡ terms_task h t (licensed_terms l);
  says = λ input h task line. line ≡ licence_line (site_name h) (licensed_terms l);
  refusals = 33 ∷ 55 ∷ [];
}

-- pieces of the vendor's own scrip are minted, whose lines are said
abbrev pub mint_operation : Minting → OperationView
mint_operation m = record {
  input = None;
  asks = λ input h t task. IsMintTask h t full m.reference m.count m.value task;
  says = λ input h task line. (number : ℕ) × IsMintAt (after task h) m.reference m.count m.value number × (line ≡ mint_lines (after task h) number);
  refusals = 32 ∷ 33 ∷ 56 ∷ [];
}

-- an issuer of the vendor's is moved to the second version of scrip
abbrev pub upgrade_operation : Upgrading → OperationView
upgrade_operation u = record {
  input = None;
  asks = λ input h t task. task ≡ upgrade_task h t (site_name h) u.issuer u.from;
  says = λ input h task line. line ≡ upgrade_line (site_name h) u.issuer u.from;
  refusals = 33 ∷ 71 ∷ 72 ∷ 73 ∷ [];
}

-- what a target sells: its price, the kind of its contents, and how many bytes they have
abbrev pub listed_line : List ℕ → Option OnSale → List ℕ
listed_line target None = []
listed_line target (Some s) = codes "goods " ++ target ++ codes " " ++ decimal s.price ++ codes " " ++ decimal s.kind ++ codes " " ++ decimal s.length ++ codes "\n"

-- what is on sale, in the order in which each target was put on sale first
abbrev pub listed_goods : History → List ℕ
listed_goods h = flat_map (λ target. listed_line target (on_sale_in h target)) (goods_targets h)

abbrev pub list_operation : OperationView
list_operation = record {
  input = None;
  asks = λ input h t task. task ≡ Stays;
  says = λ input h task line. line ≡ listed_goods (after task h);
  refusals = [];
}

-- how the site stands: its book, what was taken, how many targets are on sale, and with how many bytes of contents
abbrev pub shelf_metrics : History → List ℕ
shelf_metrics h =
    site_metrics (site_name h) (length h) (size h) (has_switch h)
    ++ metric (site_name h) (codes "millicent_takings_total") (codes "counter") (codes "Units taken in prices of accepted requests.") (takings h)
    ++ metric (site_name h) (codes "millicent_goods") (codes "gauge") (codes "Targets on sale.") (length (goods_targets h))
    ++ metric (site_name h) (codes "millicent_goods_bytes") (codes "gauge") (codes "Bytes of contents on sale.") (in_force h)

abbrev pub status_operation : OperationView
status_operation = record {
  input = None;
  asks = λ input h t task. task ≡ Stays;
  says = λ input h task line. line ≡ shelf_metrics (after task h);
  refusals = [];
}

-- ---- the line as far as it is known before the book is touched

abbrev pub begins_goods : Listing → List ℕ → List ℕ → Type 0
begins_goods l site line = line ≡ goods_line l.target l.price

abbrev pub begins_price : Pricing → List ℕ → List ℕ → Type 0
begins_price p site line = line ≡ goods_line p.target p.price

abbrev pub begins_licence : Licensing → List ℕ → List ℕ → Type 0
begins_licence l site line = line ≡ licence_line site (licensed_terms l)

abbrev pub begins_mint : Minting → List ℕ → List ℕ → Type 0
begins_mint m site line = line ≡ []

abbrev pub begins_upgrade : Upgrading → List ℕ → List ℕ → Type 0
begins_upgrade u site line = line ≡ upgrade_line site u.issuer u.from

abbrev pub begins_chain : List ℕ → List ℕ → Type 0
begins_chain site line = line ≡ ready (chain_words site)

abbrev pub begins_look : List ℕ → List ℕ → Type 0
begins_look site line = line ≡ []

-- ---- all of them

-- what an operation of a vendor's operator means
abbrev pub operation_view : Operation → OperationView
operation_view (operations.Goods l) = goods_operation l
operation_view (operations.Price p) = price_operation p
operation_view (operations.Licence l) = licence_operation l
operation_view (operations.Mint m) = mint_operation m
operation_view (operations.Upgrade u) = upgrade_operation u
operation_view (operations.Chain c) = chain_operation
operation_view (operations.List l) = list_operation
operation_view (operations.Status l) = status_operation

-- its line as far as it is known before the book is touched
abbrev pub begins : Operation → List ℕ → List ℕ → Type 0
begins (operations.Goods l) = begins_goods l
begins (operations.Price p) = begins_price p
begins (operations.Licence l) = begins_licence l
begins (operations.Mint m) = begins_mint m
begins (operations.Upgrade u) = begins_upgrade u
begins (operations.Chain c) = begins_chain
begins (operations.List l) = begins_look
begins (operations.Status l) = begins_look
