-- PGM and PPM files in their binary forms, `P5` and `P6`. A file is spelled, not read: what it says
-- is given, and its text is the file.
use Rattle.std.specs.Prelude.{◌≡◌, ℕ, ◌+◌, ◌-◌, ◌*◌, ◌^◌, ◌<◌, ◌≤◌, nat_lt, ◌==◌, ◌||◌, Bool, true, false, List, []}
use Rattle.std.specs.Prelude.{◌∷◌, ◌++◌, length, map, slice_index, if◌then◌else◌, pos}
use Rattle.std.specs.List.{flat_map, range_with_len, AllByRecursion}
use Rattle.std.specs.Char.{is_ascii_digit}
use Rattle.jk_math.specs.Picture.{Picture}

-- space, TAB, LF, VT, FF, CR
abbrev pub is_space : ℕ → Bool
is_space c = (c == 32) || ((c == 9) || ((c == 10) || ((c == 11) || ((c == 12) || (c == 13)))))

-- LF, CR
abbrev pub is_line_end : ℕ → Bool
is_line_end c = (c == 10) || (c == 13)

-- What may stand between two fields: a whitespace byte; or a comment, which is `#`, a text, and the
-- LF or CR that ends it.
pub data Separator : Type 0 where
  Space : ℕ → Separator
  Comment : List ℕ → ℕ → Separator

abbrev pub piece_text : Separator → List ℕ
piece_text (Space c) = c ∷ []
piece_text (Comment text end) = 35 ∷ (text ++ (end ∷ []))

abbrev pub IsSeparator : Separator → Type 0
IsSeparator (Space c) = is_space c ≡ true
IsSeparator (Comment text end) = AllByRecursion (λ c. is_line_end c ≡ false) text × (is_line_end end ≡ true)

abbrev pub gap_text : List Separator → List ℕ
gap_text pieces = flat_map piece_text pieces

-- one piece or more
pub record IsGap (pieces : List Separator) : Type 0 where
  pub some : 0 < length pieces
  pub each : AllByRecursion IsSeparator pieces

-- what decimal digits say
unfoldable pub number_of : List ℕ → ℕ
number_of [] = 0
number_of (d ∷ ds) = (d - 48) * 10 ^ length ds + number_of ds

-- the digits of a number above 0, zeros in front allowed
pub record IsNumber (digits : List ℕ) : Type 0 where
  pub plain : AllByRecursion (λ d. is_ascii_digit d ≡ true) digits
  pub some : 0 < number_of digits

-- what a file says: `P5` or, with colour, `P6`; width, height and maxval, each behind a gap; a
-- byte; the raster
pub record Text : Type 0 where
  pub colour : Bool
  pub before_width : List Separator
  pub width : List ℕ
  pub before_height : List Separator
  pub height : List ℕ
  pub before_maxval : List Separator
  pub maxval : List ℕ
  pub space : ℕ
  pub raster : List ℕ

abbrev pub magic_text : Bool → List ℕ
magic_text false = 80 ∷ 53 ∷ []
magic_text true = 80 ∷ 54 ∷ []

unfoldable pub pnm_text : Text → List ℕ
pnm_text t =
    magic_text t.colour
    ++ (gap_text t.before_width ++ (t.width
    ++ (gap_text t.before_height ++ (t.height
    ++ (gap_text t.before_maxval ++ (t.maxval
    ++ (t.space ∷ t.raster)))))))

pub record IsText (t : Text) : Type 0 where
  pub before_width : IsGap t.before_width
  pub width : IsNumber t.width
  pub before_height : IsGap t.before_height
  pub height : IsNumber t.height
  pub before_maxval : IsGap t.before_maxval
  pub maxval : IsNumber t.maxval
  pub space : is_space t.space ≡ true

-- samples of a pixel
abbrev pub components_of : Bool → ℕ
components_of false = 1
components_of true = 3

-- bytes of a sample
abbrev pub sample_size : ℕ → ℕ
sample_size maxval = if nat_lt 255 maxval then 2 else 1

-- the sample of this number in the raster, the byte of more weight first
abbrev pub sample_from : ℕ → List ℕ → ℕ → ℕ
sample_from maxval raster k =
    if nat_lt 255 maxval then 256 * slice_index raster (2 * k) + slice_index raster (2 * k + 1)
    else slice_index raster k

-- the samples of a component: the raster goes pixel by pixel, and in a pixel component by component
abbrev pub plane_from : ℕ → ℕ → ℕ → List ℕ → ℕ → List ℕ
plane_from maxval components pixels raster component =
    map (λ pixel. sample_from maxval raster (pixel * components + component)) (range_with_len 0 pixels)

unfoldable pub planes_from : ℕ → ℕ → ℕ → List ℕ → List (List ℕ)
planes_from maxval components pixels raster =
    map (plane_from maxval components pixels raster) (range_with_len 0 components)

-- The picture of a text: unsigned samples with the upper left one at (0, 0), as many bits as maxval
-- has, all of which are 1.
pub record ShowsPicture (t : Text) (p : Picture) : Type 0 where
  pub corner : (p.x0 ≡ 0) × (p.y0 ≡ 0)
  pub width : p.width ≡ number_of t.width
  pub height : p.height ≡ number_of t.height
  pub area : p.width * p.height ≤ 2 ^ 28
  pub depth : 2 ^ p.depth ≡ number_of t.maxval + 1
  pub few_bits : (1 ≤ p.depth) × (p.depth ≤ 16)
  pub unsigned : p.signed ≡ false
  pub whole : length t.raster ≡ p.width * p.height * components_of t.colour * sample_size (number_of t.maxval)
  pub planes : p.planes
      ≡ map (map pos) (planes_from (number_of t.maxval) (components_of t.colour) (p.width * p.height) t.raster)
  pub below : AllByRecursion (AllByRecursion (λ s. s ≤ number_of t.maxval))
      (planes_from (number_of t.maxval) (components_of t.colour) (p.width * p.height) t.raster)

-- these bytes are a PNM file of this picture
pub record IsPnm (bytes : List ℕ) (p : Picture) : Type 0 where
  pub told : Text
  pub text : bytes ≡ pnm_text told
  pub rules : IsText told
  pub shows : ShowsPicture told p
