-- What the options of an encoding ask for.
use Rattle.std.specs.Prelude.{ℕ, ◌+◌, ◌^◌, ◌==◌, ◌&&◌, Bool, true, false, not, nat_lt, List, length, replicate, Option}
use Rattle.std.specs.Prelude.{Some, None, Result, Ok, Err, if◌then◌else◌}
use Rattle.std.specs.String.{string_bytes}
use Rattle.jk_math.specs.Answer.{◌>>=◌}
use Rattle.jk_math.specs.declared.fault.Fault.{Fault}
use Rattle.jk_math.specs.declared.fault.Fault.TheVariants.{BadParameters}
use Rattle.jk_marks.specs.declared.segments.Order.{Order}
use Rattle.jk_marks.specs.declared.segments.Order.TheVariants.{Lrcp, Rpcl}
use Rattle.jk_math.specs.declared.style.Style.{Style}
use Rattle.jk_params.specs.declared.parameters.Container.{Container}
use Rattle.jk_params.specs.declared.parameters.Container.TheVariants.{Raw, Jp2}
use Rattle.jk_options.specs.declared.options.EncodeOptions.{EncodeOptions}
use Rattle.jk_options.specs.Sizes.{sizes_at}

-- What is asked for: the parameters, with the precinct sizes as a list of widths and heights;
-- whether the colour transform is wanted; and where the image lies.
pub record Wishes : Type 0 where
  pub levels : ℕ
  pub layers : ℕ
  pub order : Order
  pub tile : Option (ℕ × ℕ)
  pub xcb : ℕ
  pub ycb : ℕ
  pub style : Style
  pub precincts : List (ℕ × ℕ)
  pub sop : Bool
  pub eph : Bool
  pub container : Container
  pub colour : Bool
  pub x0 : ℕ
  pub y0 : ℕ

-- a number that its field holds
abbrev pub field_at : (number limit : ℕ) → Result ℕ Fault
field_at number limit = if nat_lt number limit then Ok number else Err BadParameters

-- both sides of a tile, or none
abbrev pub tile_at : (width height : Option ℕ) → Result (Option (ℕ × ℕ)) Fault
tile_at None None = Ok None
tile_at (Some width) (Some height) = Ok (Some (width, height))
tile_at (Some width) None = Err BadParameters
tile_at None (Some height) = Err BadParameters

-- The order of the packets: the given one; else RPCL in a file for windows, and LRCP in another.
abbrev pub order_for : Option Order → (windows : Bool) → Order
order_for (Some order) windows = order
order_for None true = Rpcl
order_for None false = Lrcp

-- The layers: the given number; else 8 in a file for windows, and one in another.
abbrev pub layers_for : Option ℕ → (windows : Bool) → ℕ
layers_for (Some layers) windows = layers
layers_for None true = 8
layers_for None false = 1

-- The precinct sizes: the given ones; else 128 by 128 (2^7) at each resolution of a file for
-- windows, and none in another.
abbrev pub precincts_for : (text : List ℕ) (windows : Bool) (levels : ℕ) → Result (List (ℕ × ℕ)) Fault
precincts_for text windows levels =
    if windows && (length text == 0) then Ok (replicate (levels + 1) (7, 7)) else sizes_at text

abbrev pub container_for : (raw : Bool) → Container
container_for raw = if raw then Raw else Jp2

-- What the options ask for, or BadParameters.
unfoldable pub wishes_at : EncodeOptions → Result Wishes Fault
wishes_at o = do
  levels ← field_at o.levels (2 ^ 8)
  layers ← field_at (layers_for o.layers o.windows) (2 ^ 16)
  tile ← tile_at o.tile_width o.tile_height
  xcb ← field_at o.block_x (2 ^ 8)
  ycb ← field_at o.block_y (2 ^ 8)
  precincts ← precincts_for (string_bytes o.precincts) o.windows levels
  Ok (record {
    levels = levels;
    layers = layers;
    order = order_for o.order o.windows;
    tile = tile;
    xcb = xcb;
    ycb = ycb;
    style = o.style;
    precincts = precincts;
    sop = o.sop;
    eph = o.eph;
    container = container_for o.raw;
    colour = not o.no_colour;
    x0 = o.x0;
    y0 = o.y0;
  })
