use Rattle.std.proofs.Common.{ℤ, List, length, ap, subst, ◌∙◌, arith}
use Rattle.jk_math.specs.declared.rect.Rect.{Rect}
use Rattle.jk_math.proofs.Laws.{raster_length}
use Rattle.jk_wave.specs.Analysis.{analysed}
use Rattle.jk_wave.specs.climbing.Held.{rows_between}
use Rattle.jk_tile.specs.encoding.FallingComponents.{HasMade}
use Rattle.jk_tile.proofs.encoding.ComponentFalls.{samples_below, rows_taken, rows_small, are_few, has_made}
use Rattle.jk_tile.proofs.encoding.falling.FallingComponent.give.Goals as goal

pub give-requires-clause-standing : goal.give-requires-clause-standing
give-requires-clause-standing c =
    let given = c.requires.given in
    (given.0, samples_below c.args.source.now c.args.self.now.falling.rect given.0 c.requires.standing.rect given.1, given.2.given)

pub give-requires-clause-order : goal.give-requires-clause-order
give-requires-clause-order c = let place = c.requires.standing.place in omega (arith, place, c.requires.order)

pub give-requires-clause-inside : goal.give-requires-clause-inside
give-requires-clause-inside c = let end = ap (λ (a : Rect). a.y1) c.requires.standing.rect in omega (arith, end, c.requires.inside)

pub give-requires-clause-long : goal.give-requires-clause-long
give-requires-clause-long c =
    let w = c.args.self.now.falling in
    let given = c.requires.given in
    let is = rows_taken c.args.source.now w c.args.self.now.y c.args.e given.0 c.args.rows.now.items c.requires.standing.rect c.requires.standing.place given.3 in
    ap (λ (l : List ℤ). length l) is ∙ raster_length (rows_between w.rect w.y c.args.e) given.0

pub give-requires-clause-small : goal.give-requires-clause-small
give-requires-clause-small c =
    let s = c.args.source.now in
    let given = c.requires.given in
    let upper = given.2.given.upper in
    let place = c.requires.standing.place in
    let top = ap (λ (a : Rect). a.y0) c.requires.standing.rect in
    rows_small s c.args.self.now.y c.args.e given.0 c.args.rows.now.items (omega (arith, upper, place, top)) c.requires.inside given.1 given.3

pub put_all-requires-clause-standing : goal.put_all-requires-clause-standing
put_all-requires-clause-standing c = c.in_ok-give.ensures.standing

pub put_all-requires-clause-levels : goal.put_all-requires-clause-levels
put_all-requires-clause-levels c = c.in_ok-give.ensures.same.1 ∙ c.requires.standing.levels

pub put_all-requires-clause-made : goal.put_all-requires-clause-made
put_all-requires-clause-made c =
    let s = c.args.source.now in
    let w = c.args.self.now.falling in
    let given = c.requires.given in
    let standing = c.requires.standing in
    let rows = rows_taken s w c.args.self.now.y c.args.e given.0 c.args.rows.now.items standing.rect standing.place given.3 in
    let gives = c.in_ok-give.ensures.bands given.0 given.2.given rows in
    (analysed s.rect s.coding.levels given.0, are_few s given.0 standing.frame given.1, subst (λ d. HasMade s d c.args.e (analysed s.rect s.coding.levels given.0) c.give.new.self) standing.place (has_made s w c.give.new.self given.0 w.y c.args.e standing.rect standing.levels standing.taken gives.0 gives.1))

pub returns-clause-rows : goal.returns-clause-rows
returns-clause-rows c f has rows =
    let s = c.args.source.now in
    let w = c.args.self.now.falling in
    let standing = c.requires.standing in
    let taken = rows_taken s w c.args.self.now.y c.args.e f c.args.rows.now.items standing.rect standing.place rows in
    let gives = c.in_ok-give.ensures.bands f has.given taken in
    record {
      given = c.clear.ensures.given f (c.in_ok-give.ensures.given f has.given taken);
      bands = c.in_ok-put_all.ensures.rows (analysed s.rect s.coding.levels f) (subst (λ d. HasMade s d c.args.e (analysed s.rect s.coding.levels f) c.give.new.self) standing.place (has_made s w c.give.new.self f w.y c.args.e standing.rect standing.levels standing.taken gives.0 gives.1)) has.bands;
    }

pub returns-clause-standing : goal.returns-clause-standing
returns-clause-standing c =
    let standing = c.requires.standing in
    let same = c.in_ok-give.ensures.same in
    let cleared = c.clear.ensures.same in
    let levels = cleared.1 in
    record {
      frame = standing.frame;
      rect = cleared.0 ∙ same.0 ∙ standing.rect;
      levels = cleared.1 ∙ same.1 ∙ standing.levels;
      place = cleared.2 ∙ same.2;
      taken = record {
        high = λ n o other less some few. c.clear.ensures.high n o other (omega (arith, less, levels)) some few;
        low = c.clear.ensures.low;
      };
      bands = c.in_ok-put_all.ensures.bands;
    }
