use Rattle.std.proofs.Common.{◌≡◌, ℕ, ◌+◌, ◌*◌, refl, set, get_or, ◌∙◌, sym, ap, length, subst, arith}
use Rattle.std.specs.Int.{bit_not, w64}
use Rattle.std.specs.Int.RustNames.{bit_or, bit_and}
use Rattle.std.proofs.lemmas.List.{get_or_read_under, length-set}
use Rattle.jk_scan.specs.Flags.{IsDrawn}
use Rattle.jk_block.specs.Fields.{flagged, significant_of, magnitude_of}
use Rattle.jk_block.specs.decoding.BlockStates.{draft_of}
use Rattle.jk_block.specs.decoding.Sights.{refined_in}
use Rattle.jk_block.proofs.Drawing.{draft_same}
use Rattle.jk_block.proofs.decoding.Writing.{Puts, plane_room, refined_magnitude, refined_drawn}
use Rattle.jk_block.proofs.decoding.block_state.BlockState.refine_all.Goals as goal

pub index-requires : goal.index-requires
index-requires c =
    let k = c.args.self.now in
    let at = c.args.spot in
    let p = c.word_place-at.result in
    let q = at.plane * c.words_of.result + p in
    let a : Puts at k p q = record { word = c.requires.spot.word; stripe = c.requires.spot.stripe; plane = c.requires.plane; place = c.word_place-at.ensures.place; plane_place = ap (λ n. at.plane * n + p) c.words_of.ensures.is } in
    let room = plane_room at k p q a in
    omega (arith, room)

pub index_mut-requires : goal.index_mut-requires
index_mut-requires c =
    let k = c.args.self.now in
    let at = c.args.spot in
    let p = c.word_place-at.result in
    let q = at.plane * c.words_of.result + p in
    let a : Puts at k p q = record { word = c.requires.spot.word; stripe = c.requires.spot.stripe; plane = c.requires.plane; place = c.word_place-at.ensures.place; plane_place = ap (λ n. at.plane * n + p) c.words_of.ensures.is } in
    let room = plane_room at k p q a in
    omega (arith, room)

pub invariant_of-self : goal.invariant_of-self
invariant_of-self c =
    let k = c.args.self.now in
    let s = k.shape in
    let at = c.args.spot in
    let p = c.word_place-at.result in
    let q = at.plane * c.words_of.result + p in
    let places = c.args.places in
    let ones = c.args.ones in
    let a : Puts at k p q = record { word = c.requires.spot.word; stripe = c.requires.spot.stripe; plane = c.requires.plane; place = c.word_place-at.ensures.place; plane_place = ap (λ n. at.plane * n + p) c.words_of.ensures.is } in
    let room = plane_room at k p q a in
    let read : c.index.result.now ≡ get_or k.bits.items q 0 = get_or_read_under k.bits.items q (length k.bits.items) c.index.result.now 0 c.index.ensures room refl in
    record {
      sized = k.sized;
      significant_room = k.significant_room;
      negative_room = k.negative_room;
      visited_room = k.visited_room;
      few = k.few;
      room = length-set k.bits.items q (bit_or (bit_and c.index.result.now (bit_not w64 places)) ones) ∙ k.room;
      known_significant = subst (λ (old : ℕ). IsDrawn s (significant_of s (magnitude_of s k.planes (set k.bits.items q (bit_or (bit_and old (bit_not w64 places)) ones)))) k.significant.now) (sym read)
          (refined_drawn at k places ones p q a (omega arith) c.requires.refined);
      signs = k.signs;
    }

pub returns-clause-refined : goal.returns-clause-refined
returns-clause-refined c =
    let k = c.args.self.now in
    let s = k.shape in
    let at = c.args.spot in
    let p = c.word_place-at.result in
    let q = at.plane * c.words_of.result + p in
    let places = c.args.places in
    let ones = c.args.ones in
    let a : Puts at k p q = record { word = c.requires.spot.word; stripe = c.requires.spot.stripe; plane = c.requires.plane; place = c.word_place-at.ensures.place; plane_place = ap (λ n. at.plane * n + p) c.words_of.ensures.is } in
    let room = plane_room at k p q a in
    let read : c.index.result.now ≡ get_or k.bits.items q 0 = get_or_read_under k.bits.items q (length k.bits.items) c.index.result.now 0 c.index.ensures room refl in
    draft_same s s (magnitude_of s k.planes (set k.bits.items q (bit_or (bit_and c.index.result.now (bit_not w64 places)) ones))) (refined_in at places ones (draft_of k)).magnitude
    (flagged s k.negative.now) (flagged s k.negative.now) (flagged s k.visited.now) (flagged s k.visited.now) refl
    (ap (λ (old : ℕ). magnitude_of s k.planes (set k.bits.items q (bit_or (bit_and old (bit_not w64 places)) ones))) read ∙ refined_magnitude at k places ones p q a (omega arith) c.requires.refined) refl refl
