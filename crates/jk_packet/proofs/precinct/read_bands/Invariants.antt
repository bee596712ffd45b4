use Rattle.std.proofs.Common.{◌≡◌, ◌-◌, ◌≤◌, length}
use Rattle.jk_packet.specs.Reading.{bands_at}
use Rattle.jk_packet.proofs.precinct.read_bands.Given as goal

abbrev pub invariant-loop-number : goal.invariant-loop-number
invariant-loop-number l = record {
  end_is : l.number-end ≡ length l.fn.bands.items;
  within : l.number ≤ l.number-end;
  long : length l.bands.items ≡ length l.fn.bands.items;
  told : bands_at l.layer (l.number-end - l.number) l.number record { bands = l.bands.items; bits = l.reader; parts = l.parts.items }
      ≡ bands_at l.layer l.number-end 0 record { bands = l.fn.bands.items; bits = l.fn.reader; parts = l.fn.parts.items };
}
