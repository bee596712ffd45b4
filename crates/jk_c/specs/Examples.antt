-- Examples: the numbers that calls answer, and images and their coding as C programs tell them.
use Rattle.std.specs.Prelude.{◌≡◌, true, false, [], ◌∷◌, map, None, Some, refl, pos}
use Rattle.jk_math.specs.declared.fault.Fault.TheVariants.{Truncated, BadMarker, CodeOutOfInterval, BadParameters}
use Rattle.jk_math.specs.declared.fault.Fault.TheVariants.{BadWindow}
use Rattle.jk_math.specs.declared.fault.Fault.TheVariants.{Changed, WorkerFailed}
use Rattle.jk_params.specs.declared.parameters.Container.TheVariants.{Raw, Jp2}
use Rattle.jk_c.specs.declared.frames.CallerFrame.{CallerFrame}
use Rattle.jk_c.specs.Codes.{code_of}
use Rattle.jk_c.specs.Codings.{exponents_of, tile_of, container_of}
use Rattle.jk_c.specs.Frames.{picture_from, framed}
use Rattle.jk_c.specs.Pictured.{stripe_in}
use Rattle.jk_c.specs.Telling.{told}

-- the numbers of faults as `jk faults` lists them; 22 stands for none
numbers : map code_of (Truncated ∷ BadMarker ∷ CodeOutOfInterval ∷ BadParameters ∷ BadWindow ∷ Changed
    ∷ WorkerFailed ∷ [])
    ≡ 2 ∷ 3 ∷ 10 ∷ 15 ∷ 16 ∷ 21 ∷ 23 ∷ []
numbers = refl

-- The bytes of precinct sizes are those of T.800 table A.21: PPx in the lower half, PPy in the
-- upper one.
sizes : map exponents_of (0xFF ∷ 0x78 ∷ 0x10 ∷ []) ≡ (15, 15) ∷ (8, 7) ∷ (0, 1) ∷ []
sizes = refl

-- two zeros ask for one tile
tiles : tile_of 0 0 ∷ tile_of 256 128 ∷ tile_of 0 128 ∷ [] ≡ None ∷ Some (256, 128) ∷ Some (0, 128) ∷ []
tiles = refl

containers : map container_of (0 ∷ 1 ∷ 2 ∷ []) ≡ Jp2 ∷ Raw ∷ Raw ∷ []
containers = refl

-- Two pixels of three components at (3, 5), side by side.
abbrev frame : CallerFrame
frame = record {
  x0 = 3;
  y0 = 5;
  width = 2;
  height = 1;
  components = 3;
  depth = 8;
  is_signed = 0;
  levels = 5;
  reserved = 0 ∷ 0 ∷ 0 ∷ 0 ∷ [];
}

-- The samples of a pixel stand beside each other, those of a component in a plane of the picture.
planes : picture_from frame (1 ∷ 2 ∷ 3 ∷ 4 ∷ 5 ∷ 6 ∷ [])
    ≡ record {
      x0 = 3;
      y0 = 5;
      width = 2;
      height = 1;
      depth = 8;
      signed = false;
      planes = (pos 1 ∷ pos 4 ∷ []) ∷ (pos 2 ∷ pos 5 ∷ []) ∷ (pos 3 ∷ pos 6 ∷ []) ∷ [];
    }
planes = refl

-- The second of two rows of two pixels is cut out of the list, and stands one row below.
stripe : stripe_in (framed (record frame { height = 2 }) false) (map pos (1 ∷ 2 ∷ 3 ∷ 4 ∷ 5 ∷ 6 ∷ 7 ∷ 8 ∷ 9 ∷ 10 ∷ 11 ∷ 12 ∷ [])) 1 2
    ≡ record {
      x0 = 3;
      y0 = 6;
      width = 2;
      height = 1;
      depth = 8;
      signed = false;
      planes = (pos 7 ∷ pos 10 ∷ []) ∷ (pos 8 ∷ pos 11 ∷ []) ∷ (pos 9 ∷ pos 12 ∷ []) ∷ [];
    }
stripe = refl

-- the frame of an image with a sign, as it is told
told_frame : told (record {
  x0 = 3;
  y0 = 5;
  width = 2;
  height = 1;
  components = 3;
  depth = 8;
  signed = true;
  levels = 4;
})
    ≡ record frame { is_signed = 1; levels = 4 }
told_frame = refl
