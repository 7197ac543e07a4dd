-- What calls leave of how many bytes a disk tells.
use Rattle.std.proofs.Common.{◌≡◌, ℕ, ◌+◌, ◌-◌, ◌≤◌, List, ◌++◌, length, take, drop, replicate, Option, option_map, Result, Ok, Err, OnOk, OnErr, ◌∙◌, ap, sym, subst, arith, length-append}
use Rattle.std.proofs.lemmas.List.{length-take, length-drop, length-replicate}
use Rattle.mc_outside.specs.Bytes.{put, Told}
use Rattle.mc_outside.specs.DiskView.{DiskView, Torn}
use Rattle.scrip_journal.specs.Exits.{staged_disk, written_disk}
use Rattle.scrip_journal.specs.declared.journal.StageFault.{StageFault}
use Rattle.scrip_journal.specs.declared.journal.StageFault.TheVariants.{Full, Disk}

-- no fewer bytes are told
abbrev pub NoFewer : Option (List ℕ) → Option (List ℕ) → Type 0
NoFewer before after = Told (λ old new. length old ≤ length new) before after

-- where they are the same
pub uncut_same : (before after : Option (List ℕ)) → after ≡ before → NoFewer before after
uncut_same before after same x told = (x, same ∙ told, omega (arith))

pub uncut_then : (a b c : Option (List ℕ)) → NoFewer a b → NoFewer b c → NoFewer a c
uncut_then a b c first next x told =
    let y = first x told in
    let z = next y.0 y.1 in
    (z.0, z.1, omega (arith, y.2, z.2))

parts_long : (a b c d : List ℕ) → length (a ++ b ++ c ++ d) ≡ length a + length b + length c + length d
parts_long a b c d = omega (arith, length-append (a ++ b ++ c) d, length-append (a ++ b) c, length-append a b)

put_no_shorter : (at : ℕ) (bytes old : List ℕ) → length old ≤ length (put at bytes old)
put_no_shorter at bytes old =
    let long : length (put at bytes old) ≡ length (take at old) + length (replicate {A = ℕ} (at - length old) 0) + length bytes + length (drop (at + length bytes) old)
    = parts_long (take at old) (replicate {A = ℕ} (at - length old) 0) bytes (drop (at + length bytes) old) in
    let zeros : length (replicate {A = ℕ} (at - length old) 0) ≡ at - length old = length-replicate {A = ℕ} (at - length old) 0 in
    omega (arith, long, zeros, length-take at old, length-drop (at + length bytes) old)

-- where a write was called
pub uncut_write : {T E : Type 0} (r : Result T E) (before after : Option (List ℕ)) (at : ℕ) (bytes : List ℕ) → OnOk r (after ≡ option_map (put at bytes) before) → OnErr r (Told (Torn at (length bytes)) before after) → NoFewer before after
uncut_write (Ok r) before after at bytes written failed x told = (put at bytes x, written ∙ ap (λ (o : Option (List ℕ)). option_map (put at bytes) o) told, put_no_shorter at bytes x)
uncut_write (Err e) before after at bytes written failed x told =
    let y = failed x told in
    (y.0, y.1, y.2.no_shorter)

-- where no entry was staged
pub uncut_unstaged : {D : Type 0} (view : D → DiskView) (before : Option (List ℕ)) (f : StageFault D) → NoFewer before (view (staged_disk (Err f))).contents → NoFewer before (view (written_disk (Err f))).contents
uncut_unstaged view before (Full j) uncut = uncut
uncut_unstaged view before (Disk d) uncut = uncut

-- where it is another name for the disk
pub uncut_at : {D : Type 0} (view : D → DiskView) (before : Option (List ℕ)) (d e : D) → e ≡ d → NoFewer before (view d).contents → NoFewer before (view e).contents
uncut_at {D = D} view before d e is uncut = subst (λ (x : D). NoFewer before (view x).contents) (sym is) uncut
