-- Examples: the tile from (3, 5) to (8, 8) with one level and precincts of 2 by 2 and 4 by 4, in
-- each order.
use Rattle.std.specs.Prelude.{◌≡◌, ℕ, [], ◌∷◌, refl}
use Rattle.jk_math.specs.Styles.{plain_style}
use Rattle.jk_marks.specs.declared.segments.Order.{Order}
use Rattle.jk_marks.specs.declared.segments.Order.TheVariants.{Lrcp, Rlcp, Rpcl, Pcrl, Cprl}
use Rattle.jk_marks.specs.declared.coding.Coding.{Coding}
use Rattle.jk_geom.specs.declared.shape.TileShape.{TileShape}
use Rattle.jk_geom.specs.declared.shape.PacketName.{PacketName}
use Rattle.jk_geom.specs.Rectangles.{resolution_area}
use Rattle.jk_geom.specs.Precincts.{precincts_across, precincts_down, precinct_column, precinct_row}
use Rattle.jk_geom.specs.Counts.{precincts_below, packet_number}
use Rattle.jk_order.specs.PacketOrder.{key, packet_count, joined, all_names, inserted, sorted, order}

abbrev small : Coding
small = record {
  levels = 1;
  xcb = 6;
  ycb = 6;
  precincts = (1, 1) ∷ (2, 2) ∷ [];
  style = plain_style;
  guard = 2;
  exponents = [];
}

abbrev tile : Order → TileShape
tile o = record { rect = record { x0 = 3; y0 = 5; x1 = 8; y1 = 8 }; layers = 1; order = o; codings = small ∷ [] }

abbrev name : (r k : ℕ) → PacketName
name r k = record { layer = 0; resolution = r; component = 0; precinct = k }

three : packet_count (tile Lrcp) ≡ 3
unfolding packet_count packet_number precincts_below precincts_across precincts_down resolution_area
three = refl

by_layer : order (tile Lrcp) ≡ name 0 0 ∷ name 1 0 ∷ name 1 1 ∷ []
unfolding order sorted inserted all_names joined key precinct_column precinct_row precincts_across precincts_down
    resolution_area
by_layer = refl

by_resolution : order (tile Rlcp) ≡ name 0 0 ∷ name 1 0 ∷ name 1 1 ∷ []
unfolding order sorted inserted all_names joined key precinct_column precinct_row precincts_across precincts_down
    resolution_area
by_resolution = refl

by_resolution_and_place : order (tile Rpcl) ≡ name 0 0 ∷ name 1 0 ∷ name 1 1 ∷ []
unfolding order sorted inserted all_names joined key precinct_column precinct_row precincts_across precincts_down
    resolution_area
by_resolution_and_place = refl

by_place : order (tile Pcrl) ≡ name 1 0 ∷ name 0 0 ∷ name 1 1 ∷ []
unfolding order sorted inserted all_names joined key precinct_column precinct_row precincts_across precincts_down
    resolution_area
by_place = refl

by_component_and_place : order (tile Cprl) ≡ name 1 0 ∷ name 0 0 ∷ name 1 1 ∷ []
unfolding order sorted inserted all_names joined key precinct_column precinct_row precincts_across precincts_down
    resolution_area
by_component_and_place = refl
