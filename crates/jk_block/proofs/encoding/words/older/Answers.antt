use Rattle.std.proofs.Common.{◌+◌, ◌%◌, ◌^◌, ◌<◌, ◌≡◌, Bool, true, false, not, get_or, ap, ◌∙◌, refl, arith}
use Rattle.std.specs.Prelude.{◌&&◌}
use Rattle.std.specs.Int.{bit_not, w64}
use Rattle.jk_scan.specs.Bits.{on}
use Rattle.jk_scan.specs.Words.{of_rows}
use Rattle.jk_scan.specs.WordPlaces.{column, row}
use Rattle.jk_scan.specs.Flags.{word_at}
use Rattle.jk_scan.proofs.Laws.{on_and, on_not}
use Rattle.jk_block.specs.encoding.Viewed.{significant_at, spread_at}
use Rattle.jk_block.proofs.encoding.words.older.Goals as goal
use Rattle.jk_block.proofs.WordBits.{drawn_bit}

gate : (r l s : Bool) → ((r && l) && not (r && s)) ≡ (r && (l && not s))
gate true l s = refl
gate false l s = refl

pub returns : goal.returns
returns c = λ t flagged m within.
    let v = c.args.block.now in
    let s = v.shape in
    let at = c.args.spot in
    let p = c.word_place-place.result in
    let sig = get_or c.args.flags.now.significant.now p 0 in
    let vis = get_or c.args.flags.now.visited.now p 0 in
    let x = column at.word m in
    let y = row at.stripe m in
    let lim : vis < 2 ^ 64 = omega arith in
    on_and sig (bit_not w64 vis) m ∙ ap (λ b. on sig m && b) (on_not w64 vis m lim within)
    ∙ ap (λ p. on (get_or c.args.flags.now.significant.now p 0) m && not (on (get_or c.args.flags.now.visited.now p 0) m)) c.word_place-place.ensures.place
    ∙ ap (λ b. b && not (on (get_or c.args.flags.now.visited.now (word_at s (at.word + 1) (at.stripe + 1)) 0) m)) (drawn_bit s (significant_at v t) c.args.flags.now.significant.now at.word at.stripe m flagged.known_significant c.requires.spot.word c.requires.spot.stripe within)
    ∙ ap (λ b. (of_rows (m % 8) && significant_at v t x y) && not b) (drawn_bit s (spread_at v t) c.args.flags.now.visited.now at.word at.stripe m flagged.coded c.requires.spot.word c.requires.spot.stripe within)
    ∙ gate (of_rows (m % 8)) (significant_at v t x y) (spread_at v t x y)
