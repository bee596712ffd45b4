use Rattle.std.proofs.Common.{◌≡◌, ◌≤◌, ◌+◌, [], length, ap, subst, ◌∙◌, arith}
use Rattle.std.specs.List.{flat_map, range_with_len}
use Rattle.jk_math.specs.Lists.{lists_of}
use Rattle.jk_walk.specs.TilePackets.{planes_of}
use Rattle.jk_tile.specs.encoding.TileWriters.{component_lists}
use Rattle.jk_tile.specs.encoding.LateTables.{bands_from}
use Rattle.jk_tile.specs.encoding.FallenComponents.{HaveRoom, IsFallen, IsCodedOf}
use Rattle.jk_tile.specs.declared.encoding.fallen.FallenComponent.{FallenComponent}
use Rattle.jk_tile.proofs.encoding.ListsKept.{taken, taken_all}
use Rattle.jk_tile.proofs.encoding.TileLists.{parts_grow}
use Rattle.jk_tile.proofs.encoding.fallen_tile.FallenTile.tables.Goals as goal

pub loop-component-init : goal.loop-component-init
loop-component-init c = (0, omega arith, c.into_iter-component-iterator.ensures.into_iter_gives.0, λ f has. ap lists_of c.new-tables.ensures.items)

pub add_tables-requires : goal.add_tables-requires
add_tables-requires c =
    let s = c.args.source.now in
    let now = c.loop-component.invariant in
    let x = c.in-Some.component in
    let is = taken c.args.self.components.items now.0 x c.loop-component.component-iterator.rest.items c.next.new.self.rest.items now.2 c.in-Some.ensures.steps.0 in
    record {
      fallen = subst (IsFallen s) (is.here x) (c.requires.fallen.each now.0 x is.inside);
      alike = c.requires.alike;
      planes = c.requires.planes;
      room = subst (λ (y : FallenComponent). HaveRoom s (planes_of c.args.coding.now) y.bands.items) (is.here x) (c.requires.room.each now.0 x is.inside);
    }

pub loop-component-preserved : goal.loop-component-preserved
loop-component-preserved c =
    let s = c.args.source.now in
    let now = c.loop-component.invariant in
    let x = c.in-Some.component in
    let is = taken c.args.self.components.items now.0 x c.loop-component.component-iterator.rest.items c.next.new.self.rest.items now.2 c.in-Some.ensures.steps.0 in
    let inside = is.inside in (
      now.0 + 1,
      omega (arith, inside),
      is.left,
      λ f has. parts_grow (λ i. component_lists (bands_from s c.args.coding.now (f i))) now.0 [] (lists_of c.loop-component.tables.items) (lists_of c.add_tables.new.tables.items) (now.3 f has)
          (c.in_ok-add_tables.ensures.tables (f now.0) (subst (IsCodedOf s (f now.0)) (is.here x) (has.each now.0 x inside))),
    )

pub returns-clause-tables : goal.returns-clause-tables
returns-clause-tables c f has =
    let now = c.loop-component.invariant in
    let rest = c.loop-component.component-iterator.rest in
    let none : length rest.items ≡ 0 = omega (arith, c.in-None.ensures.steps.0, rest.ok.0) in
    let all = taken_all c.args.self.components.items now.0 rest.items now.2 none in
    let few : now.0 ≤ length c.args.self.components.items = now.1 in
    let end : now.0 ≡ length c.args.self.components.items = omega (arith, few, all) in
    now.3 f has ∙ ap (λ n. flat_map (λ i. component_lists (bands_from c.args.source.now c.args.coding.now (f i))) (range_with_len 0 n)) end
