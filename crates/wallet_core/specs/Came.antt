-- What was read of a reply.
use Rattle.std.specs.Prelude.{◌≡◌, ℕ, IfSome, option_map, option_and_then}
use Rattle.mc_records.specs.PieceViews as views
use Rattle.ledger_model.specs.Pieces.{piece_of}
use Rattle.wallet_model.specs.Settling.{one_line, contents_came}
use Rattle.wallet_core.specs.Settled.{bought}
use Rattle.wallet_core.specs.declared.came.Came.{Came}

-- the change was read, where it is a scrip text
pub record ReadsChange (c : Came) : Type 0 where
  pub text : IfSome c.change (λ s. s.text ≡ c.reply.change.now)
  pub piece : option_map (λ s. s.piece) c.change ≡ piece_of c.reply.change.now

-- the contents were read, where a request of this kind has a piece in them
pub record ReadsContents (ask : ℕ) (c : Came) : Type 0 where
  pub held : option_map views.piece_of c.got ≡ contents_came ask c.reply.contents.now
  pub piece : option_map (λ x. x.0.piece) c.got ≡ bought ask c.reply.contents.now

-- both were read, of a reply to a request of this kind
pub record IsCame (ask : ℕ) (c : Came) : Type 0 where
  pub change : ReadsChange c
  pub contents : ReadsContents ask c

-- the piece that was read is that of the line which the contents are
abbrev pub ReadsLine : Came → Type 0
ReadsLine c = option_map (λ x. x.0.piece) c.got ≡ option_and_then (λ p. piece_of p.text) (one_line c.reply.contents.now)
