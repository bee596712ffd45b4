use Rattle.std.proofs.Common.{◌+◌, ◌%◌, ◌^◌, ◌<◌, ◌≡◌, Bool, true, false, not, get_or, ap, ◌∙◌, refl, arith}
use Rattle.std.specs.Prelude.{◌&&◌, ◌||◌}
use Rattle.std.specs.Int.{bit_not, w64}
use Rattle.std.specs.Int.RustNames.{bit_or}
use Rattle.std.proofs.lemmas.Nat.{or_lt}
use Rattle.jk_scan.specs.Bits.{on}
use Rattle.jk_scan.specs.Neighbours.{is_inside}
use Rattle.jk_scan.specs.Words.{of_rows}
use Rattle.jk_scan.specs.WordPlaces.{column, row}
use Rattle.jk_scan.specs.Flags.{word_at}
use Rattle.jk_scan.proofs.Laws.{on_and, on_or, on_not}
use Rattle.jk_block.specs.encoding.Viewed.{significant_at, spread_at}
use Rattle.jk_block.proofs.encoding.words.uncoded.Goals as goal
use Rattle.jk_block.proofs.WordBits.{limit_bit, drawn_bit}

gate : (r i l s : Bool) → ((r && i) && not ((r && l) || (r && s))) ≡ (r && (i && (not l && not s)))
gate true i true s = refl
gate true i false s = refl
gate false i l s = refl

pub returns : goal.returns
returns c = λ t flagged m within.
    let v = c.args.block.now in
    let s = v.shape in
    let at = c.args.spot in
    let p = c.word_place-place.result in
    let sig = get_or c.args.flags.now.significant.now p 0 in
    let vis = get_or c.args.flags.now.visited.now p 0 in
    let x = column at.word m in
    let y = row at.stripe m in
    let lim : bit_or sig vis < 2 ^ 64 = or_lt 64 sig vis (omega arith) (omega arith) in
    let limits = c.args.limits in
    on_and limits (bit_not w64 (bit_or sig vis)) m ∙ ap (λ b. on limits m && b) (on_not w64 (bit_or sig vis) m lim within ∙ ap not (on_or sig vis m))
    ∙ ap (λ b. b && not (on sig m || on vis m)) (limit_bit s at.word at.stripe m limits c.requires.limits within)
    ∙ ap (λ p. (of_rows (m % 8) && is_inside s x y) && not (on (get_or c.args.flags.now.significant.now p 0) m || on (get_or c.args.flags.now.visited.now p 0) m)) c.word_place-place.ensures.place
    ∙ ap (λ b. (of_rows (m % 8) && is_inside s x y) && not (b || on (get_or c.args.flags.now.visited.now (word_at s (at.word + 1) (at.stripe + 1)) 0) m)) (drawn_bit s (significant_at v t) c.args.flags.now.significant.now at.word at.stripe m flagged.known_significant c.requires.spot.word c.requires.spot.stripe within)
    ∙ ap (λ b. (of_rows (m % 8) && is_inside s x y) && not ((of_rows (m % 8) && significant_at v t x y) || b)) (drawn_bit s (spread_at v t) c.args.flags.now.visited.now at.word at.stripe m flagged.coded c.requires.spot.word c.requires.spot.stripe within)
    ∙ gate (of_rows (m % 8)) (is_inside s x y) (significant_at v t x y) (spread_at v t x y)
