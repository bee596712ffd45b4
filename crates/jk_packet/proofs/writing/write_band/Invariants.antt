use Rattle.std.proofs.Common.{[], List}
use Rattle.jk_packet.specs.PacketText.{BandLayer}
use Rattle.jk_packet.specs.Writing.{IsReady, Follow, TreesSpeak}
use Rattle.jk_packet.proofs.BandWriting.{SaysFront}
use Rattle.jk_packet.proofs.writing.write_band.Given as goal

abbrev pub invariant-loop-index : goal.invariant-loop-index
invariant-loop-index l = record {
  ready : IsReady l.shape l.tables l.layer l.index l.band;
  told : (layers : List BandLayer) → Follow l.tables l.layer layers → TreesSpeak l.shape l.tables layers [] l.fn.band → SaysFront l.shape l.tables l.layer layers l.index l.band l.fn.writer l.writer;
}
