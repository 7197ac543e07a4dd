-- The lines that commands of more than one role say, and a line with room for its end.
use Rattle.std.specs.Prelude.{ℕ, Bool, List, ◌++◌, if◌then◌else◌, replicate, codes, decimal}
use Rattle.hex.specs.Hex.{encode_lower}
use Rattle.said_lines.specs.declared.line.TheConstants.{READY}

-- words that a line begins with, and behind them bytes that hold the place of the rest
abbrev pub ready : List ℕ → List ℕ
ready words = words ++ replicate READY 0

-- a line that ends by a number
abbrev pub with_number : List ℕ → ℕ → List ℕ
with_number words n = words ++ decimal n ++ codes "\n"

-- ---- the chain of a book

-- the line up to the count of entries
abbrev pub chain_words : List ℕ → List ℕ
chain_words site = codes "chain " ++ site ++ codes " "

-- the count of entries, and their chain in 64 lower-case hex digits
abbrev pub chain_end : ℕ → List ℕ → List ℕ
chain_end entries chain = decimal entries ++ codes " " ++ encode_lower chain ++ codes "\n"

abbrev pub chain_line : List ℕ → ℕ → List ℕ → List ℕ
chain_line site entries chain = chain_words site ++ chain_end entries chain

-- ---- an issuer that was moved to the second version

abbrev pub upgrade_line : List ℕ → ℕ → ℕ → List ℕ
upgrade_line vendor issuer from = codes "upgrade " ++ vendor ++ codes " " ++ decimal issuer ++ codes " " ++ decimal from ++ codes "\n"

-- ---- metrics in Prometheus' text form

-- a comment on a metric
abbrev pub comment : List ℕ → List ℕ → List ℕ → List ℕ
comment words name text = words ++ name ++ codes " " ++ text ++ codes "\n"

-- a metric of a site: what it counts, its type, and its number
abbrev pub metric : List ℕ → List ℕ → List ℕ → List ℕ → ℕ → List ℕ
metric site name kind help number =
    comment (codes "# HELP ") name help ++ comment (codes "# TYPE ") name kind ++ name ++ codes "{site=\"" ++ site ++ codes "\"} " ++ decimal number ++ codes "\n"

-- the metrics of the book of a site: how many entries it has, how many bytes, and whether it is switched
unfoldable pub site_metrics : List ℕ → ℕ → ℕ → Bool → List ℕ
site_metrics site entries bytes switched =
    metric site (codes "millicent_entries_total") (codes "counter") (codes "Entries in the book.") entries
    ++ metric site (codes "millicent_book_bytes") (codes "gauge") (codes "Bytes of the book.") bytes
    ++ metric site (codes "millicent_book_switched") (codes "gauge") (codes "Whether each entry ends with a chain of all before it: 1, else 0.") (if switched then 1 else 0)
