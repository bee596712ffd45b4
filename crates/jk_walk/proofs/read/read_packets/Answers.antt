use Rattle.std.proofs.Common.{length}
use Rattle.std.specs.List.{AllZip}
use Rattle.jk_math.specs.Steps.{if_ok_answers}
use Rattle.jk_walk.specs.TilePackets.{shape_in}
use Rattle.jk_params.specs.Headers.{tile_in}
use Rattle.jk_walk.specs.WalkReading.{packets_at, IsPlaced, StandAt, ArePlaces}
use Rattle.jk_walk.proofs.FoundLaws.{packets_found, packets_within}
use Rattle.jk_walk.proofs.OnlyLaws.{packets_only}
use Rattle.jk_walk.proofs.SpanLaws.{due_value}
use Rattle.jk_walk.proofs.read.read_packets.Goals as goal

pub returns-clause-found : goal.returns-clause-found
returns-clause-found c =
    let bytes = c.args.bytes.now in
    let h = c.args.headers.now in
    if_ok_answers (λ p. p) c.tile_packets.result (packets_at bytes h c.args.tile) (StandAt bytes h c.args.tile) c.tile_packets.ensures
    (λ places e. packets_found bytes h c.args.tile places c.requires.sound c.requires.tile e)

pub returns-clause-only : goal.returns-clause-only
returns-clause-only c = λ packets are.
    let bytes = c.args.bytes.now in
    let h = c.args.headers.now in
    let only = packets_only bytes h c.args.tile packets c.requires.sound c.requires.tile are in
    due_value c.tile_packets.result (packets_at bytes h c.args.tile) only.0 (AllZip (IsPlaced bytes) packets) c.tile_packets.ensures only.1 only.2

pub returns-clause-within : goal.returns-clause-within
returns-clause-within c =
    let bytes = c.args.bytes.now in
    let h = c.args.headers.now in
    if_ok_answers (λ p. p) c.tile_packets.result (packets_at bytes h c.args.tile) (ArePlaces (length bytes) (shape_in h.siz (tile_in h.tiles c.args.tile) c.args.tile)) c.tile_packets.ensures
    (λ places e. packets_within bytes h c.args.tile places c.requires.sound c.requires.tile e)
