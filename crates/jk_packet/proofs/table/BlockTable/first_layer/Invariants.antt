use Rattle.std.proofs.Common.{◌≡◌, ◌+◌, drop}
use Rattle.jk_packet.proofs.TableLaws.{first_of}
use Rattle.jk_packet.proofs.table.BlockTable.first_layer.Given as goal

abbrev pub invariant-loop-part : goal.invariant-loop-part
invariant-loop-part l = record {
  here : l.first ≡ l.initial.first + l.part-index;
  rest : l.part-index + first_of (drop l.part-index l.part-items) ≡ first_of l.part-items;
}
