-- Examples: which entries packed lists spell, by the definitions alone.
use Rattle.std.specs.Prelude.{◌≡◌, true, false, Some, None, refl}
use Rattle.jk_window.specs.declared.packed.Layout.TheVariants.{Joined, Near}
use Rattle.jk_window.specs.declared.packed.Group.{Group}
use Rattle.jk_window.specs.Packed.{counter_at, joined_entry, near_entry}

-- The packet with number 66,000 is counted as 464, which is 1 times 256 and 208.
counted : counter_at true 66000 ≡ Some (1, 208)
counted = refl

not_counted : counter_at false 66000 ≡ None
not_counted = refl

abbrev joined : Group
joined = record { base = 5000000000; at = 0; layout = Joined; counted = true }

-- from 40 bytes behind the base up to 60, with a header of 4 bytes
between_marks : joined_entry joined 3 40 4 60
    ≡ record { start = 5000000040; body = 5000000044; end = 5000000060; counter = Some (0, 3) }
between_marks = refl

abbrev near : Group
near = record { base = 100; at = 0; layout = Near; counted = false }

by_itself : near_entry near 3 (record { start = 40; end = 700; header = 300 })
    ≡ record { start = 140; body = 440; end = 800; counter = None }
by_itself = refl
