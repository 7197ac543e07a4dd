-- Samples of the values of single words, and the rows of words.
use Rattle.std.proofs.Common.{◌≡◌, List, [], ◌∷◌, ◌++◌, Option, Some, None, refl, sym, ◌∙◌, arith, codes, option_map, ◌<◌, ◌≤◌, ℕ, ap, inl, inr}
use Rattle.std.specs.Prelude.{◌<◌, IfSome, slice_get, codes}
use Rattle.std.proofs.lemmas.Fmt.{decimal_digit}
use Rattle.clap.specs.Walk.{Row, Text}
use Rattle.clap.specs.declared.builder.value_parser.Reading.TheVariants.{AsWritten}
use Rattle.mc_fields.specs.Texts.{is_text}
use Rattle.mc_fields.proofs.TextTest.{text_decides}
use Rattle.scrip_form.specs.Texts.{IsName, IsTarget}
use Rattle.scrip_form.specs.Scrip.{IsCert}
use Rattle.scrip_form.proofs.TextTests.{name_decides, target_decides}
use Rattle.command_table.specs.Ranges.{IsConnect, IsHostAndPort, IsListen, IsPathOrAddress, IsSecretList, IsSocket, is_host_byte}
use Rattle.command_table.specs.declared.address.TheConstants.{MOST_HOST}
use Rattle.command_table.specs.Values.{MaySpell}

-- ---- samples

pub a_place : IsPathOrAddress (codes "a")
a_place = record { some = omega arith; short = omega arith }

a_port : (least : ℕ) → least ≤ 1 → IsHostAndPort least (codes "a:1")
unfolding is_text
a_port least low = record {
  host = codes "a";
  port = 1;
  word' = ap (λ (digits : Text). codes "a:" ++ digits) (sym (decimal_digit 1 (omega arith)));
  host' = (text_decides is_host_byte is_host_byte 1 MOST_HOST (codes "a")).0 refl;
  port' = record { least' = low; most' = omega arith };
}

pub a_connect : IsConnect (codes "a:1")
a_connect = (record { some = omega arith; short = omega arith }, inl (a_port 1 (omega arith)))

pub a_listen : IsListen (codes "a:1")
a_listen = (record { some = omega arith; short = omega arith }, inr (inl (a_port 0 (omega arith))))

pub a_socket : IsSocket (codes "/a")
a_socket = (record { some = omega arith; short = omega arith }, record { behind = codes "a"; word' = refl; some = omega arith; short = omega arith })

pub a_name : IsName (codes "a")
unfolding is_text
a_name = (name_decides (codes "a")).0 refl

pub a_target : IsTarget (codes "/")
unfolding is_text
a_target = (target_decides (codes "/")).0 refl

abbrev pub a_secret : Text
a_secret = 0 ∷ 0 ∷ 0 ∷ 0 ∷ 0 ∷ 0 ∷ 0 ∷ 0 ∷ 0 ∷ 0 ∷ 0 ∷ 0 ∷ 0 ∷ 0 ∷ 0 ∷ 0 ∷ []

pub is_secret : IsCert a_secret
is_secret = let b : 0 < 256 = omega arith in (refl, (b, (b, (b, (b, (b, (b, (b, (b, (b, (b, (b, (b, (b, (b, (b, (b, tt)))))))))))))))))

pub are_secrets : IsSecretList (a_secret ∷ [])
are_secrets = record { some = omega arith; few = omega arith; secrets' = (is_secret, tt) }

-- ---- rows

abbrev pub words_of : Option Text → List Text
words_of None = []
words_of (Some word) = word ∷ []

-- what is found of an argument
abbrev pub row_of : Text → List Text → Row
row_of id words = record { id = id; values = words; count = None; source = None; reading = AsWritten }

-- the word of a row is found
pub word_at : (o : Option Text) → slice_get (words_of o) 0 ≡ o
word_at None = refl
word_at (Some word) = refl

pub kept_word : (o : Option Text) → IfSome o (λ w. slice_get (words_of o) 0 ≡ Some w)
kept_word None = tt
kept_word (Some word) = refl

pub kept_at : {X : Type 0} (word : Option Text) (Is : X → Type 0) (spelled : X → Text) (may : MaySpell word Is spelled) → IfSome word (λ w. slice_get (words_of (option_map spelled may.0)) 0 ≡ Some w)
kept_at None Is spelled may = tt
kept_at (Some w) Is spelled may = word_at (option_map spelled may.0) ∙ sym may.2

pub same_kept : (word found other : Option Text) → found ≡ other → IfSome word (λ w. found ≡ Some w) → IfSome word (λ w. other ≡ Some w)
same_kept None found other e is = tt
same_kept (Some w) found other e is = sym e ∙ is
