use Rattle.std.specs.Prelude.{sum_by}
use Rattle.std.specs.List.{flat_map}
use Rattle.jk_window.specs.PartEnds.{numbered}
use Rattle.jk_window.specs.Planning.{IsBehind, tile_packet, tile_packet_size}
use Rattle.jk_window.specs.Numbered.{packets_in}
use Rattle.jk_window.proofs.numbered.plan_counted.Given as goal

abbrev pub invariant-loop-i : goal.invariant-loop-i
invariant-loop-i l =
    IsBehind l.initial.plan l.plan (λ file. flat_map (tile_packet l.tile file) (numbered (packets_in l.tile) l.first l.i))
    (sum_by (tile_packet_size l.tile) (numbered (packets_in l.tile) l.first l.i))
