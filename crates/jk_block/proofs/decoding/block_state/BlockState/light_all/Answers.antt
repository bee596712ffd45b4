use Rattle.std.proofs.Common.{◌≡◌, ℕ, ◌+◌, ◌*◌, refl, set, get_or, ◌∙◌, sym, ap, length, subst, arith}
use Rattle.std.specs.Int.RustNames.{bit_or, bit_and}
use Rattle.std.proofs.lemmas.List.{get_or_read_under, length-set}
use Rattle.jk_scan.specs.Flags.{IsDrawn}
use Rattle.jk_block.specs.Fields.{flagged, significant_of, magnitude_of}
use Rattle.jk_block.proofs.Drawing.{draft_same}
use Rattle.jk_block.proofs.decoding.Writing.{Puts, plane_room, new_word, significant_word, sign_words, significant_magnitude, significant_signs, significant_drawn, signs_drawn}
use Rattle.jk_block.proofs.decoding.block_state.BlockState.light_all.Goals as goal

pub index_mut-requires : goal.index_mut-requires
index_mut-requires c =
    let k = c.args.self.now in
    let at = c.args.spot in
    let p = c.word_place-at.result in
    let q = at.plane * c.words_of.result + p in
    let a : Puts at k p q = record { word = c.requires.spot.word; stripe = c.requires.spot.stripe; plane = c.requires.plane; place = c.word_place-at.ensures.place; plane_place = ap (λ n. at.plane * n + p) c.words_of.ensures.is } in
    let room = plane_room at k p q a in
    omega (arith, room)

pub invariant_of-self : goal.invariant_of-self
invariant_of-self c =
    let k = c.args.self.now in
    let s = k.shape in
    let at = c.args.spot in
    let p = c.word_place-at.result in
    let q = at.plane * c.words_of.result + p in
    let limits = c.args.limits in
    let sight = c.args.sight in
    let a : Puts at k p q = record { word = c.requires.spot.word; stripe = c.requires.spot.stripe; plane = c.requires.plane; place = c.word_place-at.ensures.place; plane_place = ap (λ n. at.plane * n + p) c.words_of.ensures.is } in
    let room = plane_room at k p q a in
    let read : c.index_mut.result.now ≡ get_or k.bits.items q 0 = get_or_read_under k.bits.items q (length k.bits.items) c.index_mut.result.now 0 c.index_mut.ensures.value room refl in
    let d = c.requires.held.draft in
    let h = c.requires.held.held in
    record {
      sized = k.sized;
      significant_room = let e = length-set k.significant.now p (significant_word sight limits) in let r = k.significant_room in omega (arith, e, r);
      negative_room = let e = length-set k.negative.now p (bit_and sight.negative.centre limits) in let r = k.negative_room in omega (arith, e, r);
      visited_room = k.visited_room;
      few = k.few;
      room = length-set k.bits.items q (bit_or c.index_mut.result.now (new_word k sight limits p)) ∙ k.room;
      known_significant = subst (λ (old : ℕ). IsDrawn s (significant_of s (magnitude_of s k.planes (set k.bits.items q (bit_or old (new_word k sight limits p))))) (set k.significant.now p (significant_word sight limits))) (sym read)
          (significant_drawn at k sight d limits p q a (omega arith) c.requires.limits h (omega arith));
      signs = signs_drawn at k sight d limits p q a (omega arith) c.requires.limits h;
    }

pub returns-clause-known_significant : goal.returns-clause-known_significant
returns-clause-known_significant c = λ d h.
    let k = c.args.self.now in
    let s = k.shape in
    let at = c.args.spot in
    let p = c.word_place-at.result in
    let q = at.plane * c.words_of.result + p in
    let limits = c.args.limits in
    let sight = c.args.sight in
    let a : Puts at k p q = record { word = c.requires.spot.word; stripe = c.requires.spot.stripe; plane = c.requires.plane; place = c.word_place-at.ensures.place; plane_place = ap (λ n. at.plane * n + p) c.words_of.ensures.is } in
    let room = plane_room at k p q a in
    let read : c.index_mut.result.now ≡ get_or k.bits.items q 0 = get_or_read_under k.bits.items q (length k.bits.items) c.index_mut.result.now 0 c.index_mut.ensures.value room refl in
    draft_same s d.shape (magnitude_of s k.planes (set k.bits.items q (bit_or c.index_mut.result.now (new_word k sight limits p)))) d.magnitude (flagged s (sign_words k sight limits p)) d.negative (flagged s k.visited.now) (flagged s k.visited.now)
    (sym h.shape)
    (ap (λ (old : ℕ). magnitude_of s k.planes (set k.bits.items q (bit_or old (new_word k sight limits p)))) read ∙ significant_magnitude at k sight d limits p q a c.requires.limits h (omega arith))
    (significant_signs at k sight d limits p q a (omega arith) c.requires.limits h) refl
