-- The definitions at small files.
use Rattle.std.specs.Prelude.{◌≡◌, ℕ, false, List, [], ◌∷◌, pos, Ok, Err, refl}
use Rattle.jk_math.specs.Picture.{Picture}
use Rattle.jk_math.specs.declared.fault.Fault.TheVariants.{BadPnm}
use Rattle.jk_pnm.specs.Pnm.{Space, Comment, number_of, pnm_text, planes_from}
use Rattle.jk_pnm.specs.Reading.{magic_at, after_gap, gap_at, digits_at, number_at, field_at, depth_at, header_at}
use Rattle.jk_pnm.specs.Reading.{are_below, picture_at, pnm_at}
use Rattle.jk_pnm.specs.Written.{raster_text}

-- `P5`, LF, `1 1`, LF, `255`, LF, 80
grey : List ℕ
grey = 80 ∷ 53 ∷ 10 ∷ 49 ∷ 32 ∷ 49 ∷ 10 ∷ 50 ∷ 53 ∷ 53 ∷ 10 ∷ 128 ∷ []

page : Picture
page = record { x0 = 0; y0 = 0; width = 1; height = 1; depth = 8; signed = false; planes = (pos 128 ∷ []) ∷ [] }

row_read : pnm_at grey ≡ Ok page
unfolding grey page pnm_at header_at magic_at field_at gap_at after_gap number_at digits_at depth_at picture_at
    are_below planes_from
row_read = refl

row_written : raster_text 255 page.planes 1 ≡ 128 ∷ []
unfolding page
row_written = refl

row_written_wide : raster_text 511 ((pos 258 ∷ pos 255 ∷ []) ∷ (pos 260 ∷ pos 511 ∷ []) ∷ (pos 6 ∷ pos 0 ∷ []) ∷ []) 2
    ≡ 1 ∷ 2 ∷ 1 ∷ 4 ∷ 0 ∷ 6 ∷ 0 ∷ 255 ∷ 1 ∷ 255 ∷ 0 ∷ 0 ∷ []
row_written_wide = refl

-- `P5`, a comment that CR ends, `01 1`, LF, `1`, space, 01
row_comment : pnm_at (80 ∷ 53 ∷ 35 ∷ 120 ∷ 13 ∷ 48 ∷ 49 ∷ 32 ∷ 49 ∷ 10 ∷ 49 ∷ 32 ∷ 1 ∷ [])
    ≡ Ok (record { x0 = 0; y0 = 0; width = 1; height = 1; depth = 1; signed = false; planes = (pos 1 ∷ []) ∷ [] })
unfolding pnm_at header_at magic_at field_at gap_at after_gap number_at digits_at depth_at picture_at are_below
    planes_from
row_comment = refl

row_comment_text : pnm_text (record {
  colour = false;
  before_width = Comment (120 ∷ []) 13 ∷ [];
  width = 48 ∷ 49 ∷ [];
  before_height = Space 32 ∷ [];
  height = 49 ∷ [];
  before_maxval = Space 10 ∷ [];
  maxval = 49 ∷ [];
  space = 32;
  raster = 1 ∷ [];
}) ≡ 80 ∷ 53 ∷ 35 ∷ 120 ∷ 13 ∷ 48 ∷ 49 ∷ 32 ∷ 49 ∷ 10 ∷ 49 ∷ 32 ∷ 1 ∷ []
unfolding pnm_text
row_comment_text = refl

row_number : number_of (48 ∷ 49 ∷ 50 ∷ 51 ∷ []) ≡ 123
unfolding number_of
row_number = refl

-- two pixels of three samples of two bytes
row_colour : planes_from 511 3 2 (1 ∷ 2 ∷ 1 ∷ 4 ∷ 0 ∷ 6 ∷ 0 ∷ 255 ∷ 1 ∷ 255 ∷ 0 ∷ 0 ∷ [])
    ≡ (258 ∷ 255 ∷ []) ∷ (260 ∷ 511 ∷ []) ∷ (6 ∷ 0 ∷ []) ∷ []
unfolding planes_from
row_colour = refl

-- maxval 100
row_maxval : pnm_at (80 ∷ 53 ∷ 10 ∷ 49 ∷ 32 ∷ 49 ∷ 10 ∷ 49 ∷ 48 ∷ 48 ∷ 10 ∷ 80 ∷ []) ≡ Err BadPnm
unfolding pnm_at header_at magic_at field_at gap_at after_gap number_at digits_at depth_at
row_maxval = refl
