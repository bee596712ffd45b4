-- The reversible component transform at a few pixels.
use Rattle.std.specs.Prelude.{◌≡◌, pos, negsuc, refl}
use Rattle.jk_rct.specs.Colour.{y0_of, y1_of, y2_of, i0_of, i1_of, i2_of}

-- red 255, green 0, blue 128: floor(383 / 4), 128 - 0, 255 - 0
row_luma : y0_of (pos 255) (pos 0) (pos 128) ≡ pos 95
row_luma = refl

row_blue : y1_of (pos 255) (pos 0) (pos 128) ≡ pos 128
row_blue = refl

row_red : y2_of (pos 255) (pos 0) (pos 128) ≡ pos 255
row_red = refl

-- -128, 127, -128: floor(-2 / 4) is -1, and both differences are -255
row_below_zero : y0_of (negsuc 127) (pos 127) (negsuc 127) ≡ negsuc 0
row_below_zero = refl

row_difference : y1_of (negsuc 127) (pos 127) (negsuc 127) ≡ negsuc 254
row_difference = refl

-- and back: -1 - floor(-510 / 4) is 127
row_green_again : i1_of (negsuc 0) (negsuc 254) (negsuc 254) ≡ pos 127
row_green_again = refl

row_red_again : i0_of (negsuc 0) (negsuc 254) (negsuc 254) ≡ negsuc 127
row_red_again = refl

row_blue_again : i2_of (negsuc 0) (negsuc 254) (negsuc 254) ≡ negsuc 127
row_blue_again = refl
