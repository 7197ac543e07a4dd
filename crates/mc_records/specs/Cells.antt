-- The fields that the program writes one after the other, as fields of an entry.
use Rattle.std.specs.Prelude.{ℕ, List, [], ◌∷◌, ◌++◌, length, flat_map}
use Rattle.std.specs.List.{AllByRecursion}
use Rattle.mc_records.specs.declared.cells.Cell.{Cell}
use Rattle.mc_records.specs.declared.cells.Cell.TheVariants as cells
use Rattle.mc_records.specs.declared.cells.Group.{Group}
use Rattle.mc_fields.specs.Field.{one, two, four, eight, Field, number, flag, str, plain, spelled, FieldFits}
use Rattle.mc_records.specs.Entry.{Entry, Site, AddTerms, Goods, Accept, Mint, Account, Deposit, Withdraw, Draw, Licence, Stock, Got, Pend, Done, Refused, Upgrade, Switch, Note, secrets_fields, pieces_fields}
use Rattle.mc_records.specs.PieceViews.{pieces_of}

abbrev pub fields_of : Cell → List Field
fields_of cells.Nothing = []
fields_of (cells.Byte n) = number one n ∷ []
fields_of (cells.Half n) = number two n ∷ []
fields_of (cells.Word n) = number four n ∷ []
fields_of (cells.Long n) = number eight n ∷ []
fields_of (cells.Flag b) = flag b ∷ []
fields_of (cells.Str bytes) = str bytes.now ∷ []
fields_of (cells.Plain bytes) = plain bytes.now ∷ []
fields_of (cells.Contents bytes) = number four (length bytes.now) ∷ plain bytes.now ∷ []
fields_of (cells.Secrets secrets) = secrets_fields secrets.now
fields_of (cells.Pieces pieces) = pieces_fields (pieces_of pieces)

abbrev pub group_fields : Group → List Field
group_fields group = fields_of group.0 ++ (fields_of group.1 ++ fields_of group.2)

abbrev pub groups_fields : List Group → List Field
groups_fields groups = flat_map group_fields groups

abbrev pub cell_bytes : Cell → List ℕ
cell_bytes c = spelled (fields_of c)

abbrev pub group_bytes : Group → List ℕ
group_bytes group = cell_bytes group.0 ++ (cell_bytes group.1 ++ cell_bytes group.2)

-- the cell's fields can be spelled
abbrev pub IsShort : Cell → Type 0
IsShort c = AllByRecursion FieldFits (fields_of c)

abbrev pub AreShort : Group → Type 0
AreShort group = IsShort group.0 × (IsShort group.1 × IsShort group.2)

-- the number of an entry's kind
abbrev pub kind_of : Entry → ℕ
kind_of (Site m kind name house) = 1
kind_of (AddTerms m terms) = 2
kind_of (Goods m target price kind contents) = 3
kind_of (Accept m scrip target sign price change deed) = 4
kind_of (Mint m reference count value first) = 5
kind_of (Account m name key) = 6
kind_of (Deposit m name amount reference) = 7
kind_of (Withdraw m name amount reference) = 8
kind_of (Draw m target sign drawn) = 9
kind_of (Licence m vendor terms) = 10
kind_of (Stock m vendor pieces) = 11
kind_of (Got m pieces) = 12
kind_of (Pend m ask peer target scrip secret) = 13
kind_of (Done m n price change got) = 14
kind_of (Refused m n refusal) = 15
kind_of (Upgrade m vendor issuer from) = 16
kind_of (Switch m chain) = 17
kind_of (Note m tag bytes) = 18
