use Rattle.std.proofs.Common.{◌+◌, ◌/◌, arith}
use Rattle.jk_block.proofs.WordDrawing.{word_room}
use Rattle.jk_block.proofs.decoding.Eights.{byte_places, sign_places}
use Rattle.jk_block.proofs.decoding.coefficients.eight_at.Goals as goal

pub row_bytes-requires : goal.row_bytes-requires
row_bytes-requires c =
    let r = word_room c.args.block_state.now.shape (c.args.word + 1) (c.args.y / 4 + 1) (omega arith) (omega arith) in
    let e = c.word_place-at.ensures.place in
    record { at = omega (arith, r, e); k = omega arith; first = omega arith }

pub row_bytes-requires-2 : goal.row_bytes-requires-2
row_bytes-requires-2 c =
    let r = word_room c.args.block_state.now.shape (c.args.word + 1) (c.args.y / 4 + 1) (omega arith) (omega arith) in
    let e = c.word_place-at.ensures.place in
    record { at = omega (arith, r, e); k = omega arith; first = omega arith }

pub row_bytes-requires-3 : goal.row_bytes-requires-3
row_bytes-requires-3 c =
    let r = word_room c.args.block_state.now.shape (c.args.word + 1) (c.args.y / 4 + 1) (omega arith) (omega arith) in
    let e = c.word_place-at.ensures.place in
    record { at = omega (arith, r, e); k = omega arith; first = omega arith }

pub returns : goal.returns
returns c =
    let k = c.args.block_state.now in
    let at = c.word_place-at.result in
    record {
      low = byte_places k c.args.word c.args.y at _ 0 c.row_bytes.result c.word_place-at.ensures.place (omega arith) c.row_bytes.ensures;
      middle = byte_places k c.args.word c.args.y at _ 8 c.row_bytes-2.result c.word_place-at.ensures.place (omega arith) c.row_bytes-2.ensures;
      high = byte_places k c.args.word c.args.y at _ 16 c.row_bytes-3.result c.word_place-at.ensures.place (omega arith) c.row_bytes-3.ensures;
      negative = sign_places k c.args.word c.args.y at _ c.row_bits.result c.word_place-at.ensures.place (omega arith) c.row_bits.ensures;
    }
