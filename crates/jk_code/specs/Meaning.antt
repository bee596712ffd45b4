-- What a file means: the picture that decoding gives, at a reduction, of all layers or the first.
use Rattle.std.specs.Prelude.{◌≡◌, ℕ, ◌+◌, ◌-◌, ◌*◌, ◌<◌, ◌≤◌, List, length, All, Option, None, ℤ}
use Rattle.std.specs.List.{AllByRecursion}
use Rattle.jk_math.specs.Picture.{Picture, sample_at}
use Rattle.jk_marks.specs.Siz.{tile_count}
use Rattle.jk_boxes.specs.Boxes.{HoldsCodestream}
use Rattle.jk_geom.specs.Rectangles.{IsWithin}
use Rattle.jk_geom.specs.Partitions.{image_area, reduced_area}
use Rattle.jk_params.specs.Headers.{Headers, tile_in, IsHeaders}
use Rattle.jk_tile.specs.TileMeaning.{shown_area, DecodesLayers}

-- the place, size, depth and sign of the reduced image, which isn't empty
pub record IsReducedFrame (h : Headers) (d : ℕ) (p : Picture) : Type 0 where
  pub left : p.x0 ≡ (reduced_area (image_area h.siz) d).x0
  pub upper : p.y0 ≡ (reduced_area (image_area h.siz) d).y0
  pub right : p.x0 + p.width ≡ (reduced_area (image_area h.siz) d).x1
  pub lower : p.y0 + p.height ≡ (reduced_area (image_area h.siz) d).y1
  pub wide : 0 < p.width
  pub high : 0 < p.height
  pub depth : p.depth ≡ h.siz.depth
  pub signed : p.signed ≡ h.siz.signed
  pub components : length p.planes ≡ h.siz.components
  pub planes : All (λ plane. length plane ≡ p.width * p.height) p.planes

-- tile t of the picture is what the packets of the tile decode to, of which these layers are
-- decoded
pub record ShowsLayers (codestream : List ℕ) (h : Headers) (d : ℕ) (layers : Option ℕ) (p : Picture)
    (t : ℕ) : Type 0 where
  pub samples : ℕ → ℕ → ℕ → ℤ
  pub decoded : DecodesLayers codestream h (tile_in h.tiles t) t d layers samples
  pub placed : (component x y : ℕ) → component < h.siz.components → IsWithin (shown_area h.siz t d) x y
      → sample_at p component (x - p.x0) (y - p.y0) ≡ samples component x y

-- with all layers
abbrev pub ShowsTile : List ℕ → Headers → (d : ℕ) → Picture → (t : ℕ) → Type 0
ShowsTile codestream h d p t = ShowsLayers codestream h d None p t

-- In these layers the codestream means the picture at reduction d, which no tile-component's
-- decomposition levels fall short of.
pub record MeansPictureIn (codestream : List ℕ) (d : ℕ) (layers : Option ℕ) (p : Picture) : Type 0 where
  pub headers : Headers
  pub says : IsHeaders codestream headers
  pub reduction : AllByRecursion (λ f. AllByRecursion (λ k. d ≤ k.levels) f.codings) headers.tiles
  pub frame : IsReducedFrame headers d p
  pub tiles : (t : ℕ) → t < tile_count headers.siz → ShowsLayers codestream headers d layers p t

abbrev pub MeansPicture : List ℕ → (d : ℕ) → Picture → Type 0
MeansPicture codestream d p = MeansPictureIn codestream d None p

-- The bytes are a file, bare or JP2, whose codestream means the picture at reduction d, in these
-- layers.
pub record MeansLayers (bytes : List ℕ) (d : ℕ) (layers : Option ℕ) (p : Picture) : Type 0 where
  pub codestream : List ℕ
  pub holds : HoldsCodestream bytes codestream
  pub picture : MeansPictureIn codestream d layers p

-- with all its layers
abbrev pub Means : List ℕ → (d : ℕ) → Picture → Type 0
Means bytes d p = MeansLayers bytes d None p
