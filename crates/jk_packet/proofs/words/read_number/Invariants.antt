use Rattle.std.proofs.Common.{◌≡◌, ◌-◌, ◌^◌, ◌<◌, ◌≤◌}
use Rattle.jk_packet.specs.Reading.{number_at}
use Rattle.jk_packet.proofs.words.read_number.Given as goal

abbrev pub invariant-loop : goal.invariant-loop
invariant-loop l = record {
  within : l.counter ≤ l.count;
  fits : l.value < 2 ^ l.counter;
  told : number_at (l.count - l.counter) l.value l.reader ≡ number_at l.count 0 l.fn.reader;
}
