-- Windows of two series by computation: what they mark, and when they are dropped. The series are the epochs 3 and 4 of issuer 1,
-- whose period is 2,048 seconds and whose life is 0.
use Rattle.std.proofs.Common.{◌≡◌, ℕ, true, false, List, [], ◌∷◌, ◌++◌, Some, None, refl, replicate}
use Rattle.std.specs.Prelude.{filter}
use Rattle.scrip_form.specs.Issuing.{Issuing, series_end}
use Rattle.spent_windows.specs.Windows.{WindowView, window_of, bit_of, is_marked, end_of, ends_after, is_full}

-- all of the first 4,096 serials of epoch 3
abbrev full : WindowView
full = record { number = 0x100000300000; end = 8192; words = None }

-- the words of the serials 0 and 4095 alone
abbrev ends_marked : List ℕ
ends_marked = 1 ∷ (replicate 62 0 ++ 0x8000000000000000 ∷ [])

-- the serials 0 and 4095 of epoch 4
abbrev partly : WindowView
partly = record { number = 0x100000400000; end = 10240; words = Some ends_marked }

abbrev both : List WindowView
both = full ∷ partly ∷ []

abbrev terms : Issuing
terms = record { issuer = 1; period = 2048; life = 0; scrip = []; customer = [] }

row_ends : (series_end terms 3 ≡ 8192) × (series_end terms 4 ≡ 10240)
row_ends = (refl, refl)

-- ---- marks

row_numbers : (window_of 0x0100000300000000 ≡ 0x100000300000) × (window_of 0x0100000300000fff ≡ 0x100000300000) × (window_of 0x0100000300001000 ≡ 0x100000300001)
row_numbers = (refl, refl, refl)

row_bits : (bit_of 0x0100000300000000 ≡ 0) × (bit_of 0x0100000300000fff ≡ 4095) × (bit_of 0x0100000300001000 ≡ 0)
row_bits = (refl, refl, refl)

-- a full window marks each of its identities, and none of the next
row_full : (is_marked both 0x0100000300000000 ≡ true) × (is_marked both 0x0100000300000800 ≡ true) × (is_marked both 0x0100000300000fff ≡ true) × (is_marked both 0x0100000300001000 ≡ false)
unfolding is_marked
row_full = (refl, refl, refl, refl)

row_first : (is_marked both 0x0100000400000000 ≡ true) × (is_marked both 0x0100000400000001 ≡ false) × (is_marked both 0x0100000400000040 ≡ false)
unfolding is_marked
row_first = (refl, refl, refl)

row_last : (is_marked both 0x0100000400000fff ≡ true) × (is_marked both 0x0100000400000ffe ≡ false) × (is_marked both 0x0100000400000fbf ≡ false)
unfolding is_marked
row_last = (refl, refl, refl)

row_not_full : (is_full ends_marked ≡ false) × (is_full (replicate 64 0xffffffffffffffff) ≡ true)
row_not_full = (refl, refl)

-- ---- ends

row_room : (end_of both 0x0100000300000000 ≡ Some 8192) × (end_of both 0x0100000400000001 ≡ Some 10240) × (end_of both 0x0100000500000000 ≡ None)
unfolding end_of
row_room = (refl, refl, refl)

-- a window is there until the second before its series ends, and the windows of the other series are as they were
row_dropped : (filter (ends_after 8191) both ≡ both) × (filter (ends_after 8192) both ≡ partly ∷ []) × (filter (ends_after 10239) both ≡ partly ∷ []) × (filter (ends_after 10240) both ≡ [])
row_dropped = (refl, refl, refl, refl)
