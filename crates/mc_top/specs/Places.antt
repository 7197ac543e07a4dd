-- The places that words name.
use Rattle.std.specs.Prelude.{◌≡◌, ◌⊎◌, ℕ, Bool, true, false, List, [], Some, None}
use Rattle.mc_words.specs.declared.command.Command.{Command}
use Rattle.mc_words.specs.declared.command.Command.TheVariants.{Once, Init, Serve, Play, Operate, State, BrokerInit, BrokerServe, BrokerOperate, Settle, WalletInit, WalletOperate, Report, Chains, Tree}
use Rattle.wallet_words.specs.declared.wallet_operation.WalletOperation.{WalletOperation}
use Rattle.mc_words.specs.Commands.{AreOfNoRow, AreWords}
use Rattle.site_words.specs.Commands.{book_of, broker_book_of}
use Rattle.wallet_words.specs.Commands.{connect_of, wallet_book_of}
use Rattle.wallet_words.specs.declared.proxying.Proxying.{Proxying}
use Rattle.wallet_words.specs.Proxying.{AreProxyWords, AreNoProxyWords}
use Rattle.site_words.specs.declared.serving.Server.{Server}
use Rattle.mc_top.specs.declared.named.Places.{Places}

-- words that name none
abbrev pub no_places : Places
no_places = record { site = None; founds = false; books = []; operates = false; listen = None; door = None; connect = None }

-- the book that is founded
abbrev pub founded_places : List ℕ → Places
founded_places book = record { site = Some book; founds = true; books = []; operates = false; listen = None; door = None; connect = None }

-- the book that is served, and where its links and its operator's commands come
abbrev pub served_places : Server → Places
served_places server = record { site = Some server.book; founds = false; books = []; operates = false; listen = Some server.listen; door = server.door; connect = None }

-- the book that an operation is for, which may be given at a door, too, or not
abbrev pub operated_places : List ℕ → Bool → Places
operated_places book operates = record { site = Some book; founds = false; books = []; operates = operates; listen = None; door = None; connect = None }

-- the book of a wallet, and where the link goes
abbrev pub wallet_places : WalletOperation → Places
wallet_places operation = record { site = Some (wallet_book_of operation); founds = false; books = []; operates = false; listen = None; door = None; connect = connect_of operation }

-- the books that are audited
abbrev pub audited_places : List (List ℕ) → Places
audited_places books = record { site = None; founds = false; books = books; operates = false; listen = None; door = None; connect = None }

-- `vendor init`, `broker init` and `wallet init` name the book that they found, `vendor serve` and `broker serve` the book
-- and where the links come, an operation of an operator the book that it is for, one of a wallet its book and, where it pays,
-- where the link goes, and `audit report`, `audit chain` and `audit tree` the books that they read
abbrev pub places_of : Command → Places
places_of (Once shop) = no_places
places_of (Init founder) = founded_places founder.book
places_of (Serve server) = served_places server
places_of (Play playing) = no_places
places_of (Operate operation) = operated_places (book_of operation) true
places_of (State stating) = operated_places stating.book false
places_of (BrokerInit founder) = founded_places founder.book
places_of (BrokerServe server) = served_places server
places_of (BrokerOperate operation) = operated_places (broker_book_of operation) true
places_of (Settle settling) = operated_places settling.book false
places_of (WalletInit founder) = founded_places founder.book
places_of (WalletOperate operation) = wallet_places operation
places_of (Report reporting) = audited_places reporting.books
places_of (Chains chained) = audited_places chained.books
places_of (Tree tree) = audited_places tree.books

-- the book of a wallet, where the browser's links come, and where those to the vendor go
abbrev pub proxied_places : Proxying → Places
proxied_places p = record { site = Some p.book; founds = false; books = []; operates = false; listen = Some p.listen; door = None; connect = Some p.connect }

-- the places of a wallet that pays for what a browser asks, or none where the words are other ones
abbrev pub AreProxyPlaces : List (List ℕ) → Places → Type 0
AreProxyPlaces words places = ((p : Proxying) × AreProxyWords words p × (places ≡ proxied_places p)) ⊎ (AreNoProxyWords words × (places ≡ no_places))

-- The places of the command that the words are of; or, where they are of none that `run` carries out, of a wallet that pays
-- for what a browser asks.
abbrev pub ArePlaces : List (List ℕ) → Places → Type 0
ArePlaces words places = ((c : Command) × AreWords words c × (places ≡ places_of c)) ⊎ (AreOfNoRow words × AreProxyPlaces words places)
