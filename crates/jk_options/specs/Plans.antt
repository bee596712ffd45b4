-- How an image is encoded, once its place and its components are known.
use Rattle.std.specs.Prelude.{ℕ, ◌+◌, ◌*◌, ◌^◌, Bool, ◌&&◌, ◌==◌, nat_lt, nat_le, length, Result, Ok, Err}
use Rattle.std.specs.Prelude.{if◌then◌else◌}
use Rattle.jk_math.specs.declared.fault.Fault.{Fault}
use Rattle.jk_math.specs.declared.fault.Fault.TheVariants.{BadParameters}
use Rattle.jk_math.specs.Picture.{Picture}
use Rattle.jk_params.specs.declared.parameters.Parameters.{Parameters}
use Rattle.jk_options.specs.declared.plan.Plan.{Plan}
use Rattle.jk_options.specs.declared.plan.Placed.{Placed}
use Rattle.jk_options.specs.declared.plan.PlacedFrame.{PlacedFrame}
use Rattle.jk_options.specs.Options.{Wishes}

-- what a plan asks for
abbrev pub wishes_of : Plan → Wishes
wishes_of plan = record {
  levels = plan.parameters.levels;
  layers = plan.parameters.layers;
  order = plan.parameters.order;
  tile = plan.parameters.tile;
  xcb = plan.parameters.xcb;
  ycb = plan.parameters.ycb;
  style = plan.parameters.style;
  precincts = plan.parameters.precincts.items;
  sop = plan.parameters.sop;
  eph = plan.parameters.eph;
  container = plan.parameters.container;
  colour = plan.colour;
  x0 = plan.x0;
  y0 = plan.y0;
}

-- the same picture with its upper left sample there
abbrev pub at_place : Picture → (x0 y0 : ℕ) → Picture
at_place p x0 y0 = record p { x0 = x0; y0 = y0 }

-- whether an image of this size may lie there
abbrev pub is_frame : (x0 y0 width height : ℕ) → Bool
is_frame x0 y0 width height =
    nat_lt 0 width && nat_lt 0 height && nat_lt (x0 + width) (2 ^ 31) && nat_lt (y0 + height) (2 ^ 31)
    && nat_le (width * height) (2 ^ 28)

-- the parameters for a picture: the colour transform is for three components
abbrev pub parameters_for : Plan → Picture → Parameters
parameters_for plan p = record plan.parameters { colour = (length p.planes == 3) && plan.colour }

-- the picture at the place that is asked for, and its parameters
unfoldable pub placing : Picture → Plan → Result Placed Fault
placing p plan =
    if is_frame plan.x0 plan.y0 p.width p.height
    then Ok (record { image = at_place p plan.x0 plan.y0; parameters = parameters_for plan p })
    else Err BadParameters

-- a picture at the place of a frame, with the parameters beside the frame
abbrev pub placed_on : Picture → PlacedFrame → Placed
placed_on p x = record { image = at_place p x.frame.x0 x.frame.y0; parameters = x.parameters }
