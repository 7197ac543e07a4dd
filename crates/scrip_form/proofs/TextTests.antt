-- The tests of texts decide.
use Rattle.std.proofs.Common.{◌≡◌, ◌↔◌, ℕ, ◌≤◌, true, List, length, Result, Ok, Err, refl}
use Rattle.std.specs.Prelude.{is_ok}
use Rattle.mc_fields.proofs.TextTest.{text_decides}
use Rattle.scrip_form.specs.Texts.{IsName, IsTarget, is_name, is_target, is_letter_or_digit, is_name_byte, is_slash, is_visible}
use Rattle.scrip_form.specs.Scrip.{Scrip, IsScripText}
use Rattle.scrip_form.specs.Reading.{scrip_of, is_scrip}
use Rattle.scrip_form.specs.Told.{IsTold}
use Rattle.scrip_form.proofs.Laws.{scrip_of_tells, text_is_short}

pub name_decides : (bytes : List ℕ) → (is_name bytes ≡ true) ↔ IsName bytes
name_decides bytes = text_decides is_letter_or_digit is_name_byte 1 63 bytes

pub target_decides : (bytes : List ℕ) → (is_target bytes ≡ true) ↔ IsTarget bytes
target_decides bytes = text_decides is_slash is_visible 1 512 bytes

told_decides : (bytes : List ℕ) (read : Result (Scrip × List ℕ) ℕ) → IsTold bytes read → (is_ok read ≡ true) ↔ IsScripText bytes
told_decides bytes (Ok x) told = ((λ e. (x.0, x.1, told)), (λ t. refl))
told_decides bytes (Err place) told = ((λ e. absurd cc), (λ t. absurd (told.0 t)))

pub scrip_decides : (bytes : List ℕ) → (is_scrip bytes ≡ true) ↔ IsScripText bytes
unfolding is_scrip
scrip_decides bytes = told_decides bytes (scrip_of bytes) (scrip_of_tells bytes)

pub scrip_is_short : (bytes : List ℕ) → IsScripText bytes → length bytes ≤ 293
scrip_is_short bytes t = text_is_short bytes t.0 t.1 t.2
