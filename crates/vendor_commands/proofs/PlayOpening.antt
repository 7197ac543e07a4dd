-- The entries that the house of a play opens with have payloads, and each may follow those before it.
use Rattle.std.proofs.Common.{◌≡◌, ℕ, true, [], ◌∷◌, refl, arith}
use Rattle.std.specs.Prelude.{codes, replicate}
use Rattle.mc_fields.specs.Texts.{is_text}
use Rattle.mc_fields.proofs.TextTest.{text_decides}
use Rattle.scrip_form.specs.Texts.{IsName, IsTarget, is_letter_or_digit, is_name_byte, is_slash, is_visible, is_name, is_target}
use Rattle.mc_records.specs.Entry.{AreSecrets, Fits}
use Rattle.vendor_commands.specs.Opening.{ComesNext}
use Rattle.vendor_commands.specs.Play.{play_founding, play_licence, play_goods}
use Rattle.vendor_commands.proofs.OpeningLemmas.{fits_behind, size_of_one, size_of_two}

name_passes : is_name (codes "play.example") ≡ true
unfolding is_text
name_passes = refl

target_passes : is_target (codes "/p") ≡ true
unfolding is_text
target_passes = refl

play_name : IsName (codes "play.example")
play_name = (text_decides is_letter_or_digit is_name_byte 1 63 (codes "play.example")).0 name_passes

play_target : IsTarget (codes "/p")
play_target = (text_decides is_slash is_visible 1 512 (codes "/p")).0 target_passes

one_secret : (byte : ℕ) → AreSecrets (replicate 16 byte ∷ [])
one_secret byte = record { some = omega arith; few = omega arith; keys = (refl, tt) }

founding_fits : Fits play_founding
founding_fits = record {
  moment = omega arith;
  name = play_name;
  house = record {
    keep = (omega arith, omega arith);
    fee = omega arith;
    terms = record {
      issuer = (omega arith, omega arith);
      period = record { least = omega arith; most = omega arith; short = omega arith };
      scrip = one_secret 1;
      customer = one_secret 2;
    };
  };
}

licence_fits : Fits play_licence
licence_fits = record {
  moment = omega arith;
  terms = record {
    issuer = (omega arith, omega arith);
    period = record { least = omega arith; most = omega arith; short = omega arith };
    scrip = one_secret 3;
    customer = one_secret 4;
  };
}

pub goods_fit : Fits play_goods
goods_fit = record { moment = omega arith; target = play_target; price = (omega arith, omega arith); kind = omega arith; contents = omega arith }

pub play_licence_may_enter : ComesNext (play_founding ∷ []) play_licence
play_licence_may_enter = record {
  may = record { follows = record { in_order = omega arith; allowed = (refl, refl) }; passed = tt };
  fits = fits_behind (play_founding ∷ []) play_licence (size_of_one play_founding founding_fits) licence_fits;
}

pub play_goods_may_enter : ComesNext (play_founding ∷ play_licence ∷ []) play_goods
play_goods_may_enter = record {
  may = record { follows = record { in_order = omega arith; allowed = (refl, omega arith) }; passed = tt };
  fits = fits_behind (play_founding ∷ play_licence ∷ []) play_goods (size_of_two play_founding play_licence founding_fits licence_fits) goods_fit;
}
