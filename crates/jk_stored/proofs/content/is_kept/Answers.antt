use Rattle.std.proofs.Common.{◌*◌, ◌<◌, length, sym, ◌∙◌, arith}
use Rattle.jk_geom.specs.TileShapes.{coding_of}
use Rattle.jk_stored.proofs.NeededLaws.{number_of, own_needed, needed_wanted}
use Rattle.jk_stored.proofs.content.is_kept.Goals as goal

pub returns : goal.returns
returns c =
    let seen = c.args.seen.now in
    let s = seen.shape.now in
    let n = c.args.name in
    let is = c.requires.name in
    let some = sym c.is_empty.ensures ∙ c.if-is_empty.false in
    let few = (c.requires.seen.shape.codings.each n.component is.component).levels in
    let lower = is.resolution in
    let here = is.component in
    let inside : number_of n < length s.codings * 11 = omega (arith, few, lower, here) in
    let own = own_needed s seen.top seen.reduce n _ c.requires.seen.shape is ((c.requires.seen.needed some).each (number_of n) _ inside) in
    c.has.ensures s.rect (coding_of s.codings n.component) seen.top seen.reduce n.resolution own.0 own.1 is.precinct
    ∙ needed_wanted s seen.top seen.reduce n is some
