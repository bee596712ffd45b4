use Rattle.std.proofs.Common.{◌≡◌, ◌+◌, ◌-◌, ◌*◌, length, get_or, ap, ◌∙◌, refl, arith}
use Rattle.std.proofs.lemmas.List.{get_or_read_under}
use Rattle.jk_block.specs.Fields.{words_of}
use Rattle.jk_block.proofs.decoding.Eights.{plane_item, bits_none, bits_more, bits_all}
use Rattle.jk_block.proofs.decoding.coefficients.row_bytes.Goals as goal

pub loop-i-init : goal.loop-i-init
loop-i-init c = bits_none c.args.block_state.now c.args.at c.args.k (c.args.first + c.min-count.result)

pub index-requires : goal.index-requires
index-requires c =
    let plane = c.args.first + (c.min-count.result - 1 - c.loop-i.i) in
    let room = plane_item c.args.block_state.now c.args.at plane c.words_of-room.result (plane * c.words_of-room.result + c.args.at) c.words_of-room.ensures.is refl c.requires.at (omega arith) in
    omega (arith, room)

pub loop-i-preserved : goal.loop-i-preserved
loop-i-preserved c =
    let k = c.args.block_state.now in
    let top = c.args.first + c.min-count.result in
    let q = (c.args.first + (c.min-count.result - 1 - c.loop-i.i)) * c.words_of-room.result + c.args.at in
    let count = c.min-count.ensures in
    let room = plane_item k c.args.at (c.args.first + (c.min-count.result - 1 - c.loop-i.i)) c.words_of-room.result q c.words_of-room.ensures.is refl c.requires.at (omega arith) in
    let read = get_or_read_under k.bits.items q (length k.bits.items) c.index.result.now 0 c.index.ensures room refl in
    let same : q ≡ (top - (c.loop-i.i + 1)) * words_of k.shape + c.args.at =
    ap (λ n. (c.args.first + (c.min-count.result - 1 - c.loop-i.i)) * n + c.args.at) c.words_of-room.ensures.is ∙ ap (λ n. n * words_of k.shape + c.args.at) (let e : c.args.first + (c.min-count.result - 1 - c.loop-i.i) ≡ top - (c.loop-i.i + 1) = omega arith in e) in
    bits_more k c.args.at c.args.k top c.loop-i.i c.loop-i.bytes c.index.result.now c.row_bits.result (omega arith) (omega arith) (read ∙ ap (λ q. get_or k.bits.items q 0) same) c.row_bits.ensures c.loop-i.invariant

pub returns : goal.returns
returns c = bits_all c.args.block_state.now c.args.at c.args.k c.args.first c.min-count.result c.loop-i.i c.loop-i.bytes (omega arith) (omega arith) c.loop-i.invariant
