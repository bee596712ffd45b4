-- What the first layers of a file that was written mean: the image that is rebuilt from the
-- coefficients without their lowest bit-planes.
use Rattle.std.specs.Prelude.{◌≡◌, ℕ, ◌-◌, ◌*◌, ◌^◌, ◌≤◌, false, List, length, map, Some, Ok}
use Rattle.std.specs.List.{range_with_len}
use Rattle.jk_math.specs.Picture.{Picture}
use Rattle.jk_math.specs.Raster.{raster}
use Rattle.jk_math.specs.declared.rect.Rect.{Rect}
use Rattle.jk_geom.specs.Rectangles.{is_empty}
use Rattle.jk_geom.specs.Partitions.{image_area, reduced_area, tile_of}
use Rattle.jk_params.specs.declared.parameters.Parameters.{Parameters}
use Rattle.jk_params.specs.Profile.{siz_of}
use Rattle.jk_tile.specs.encoding.Fronts.{front_sample}
use Rattle.jk_window.specs.declared.view.View.{View}
use Rattle.jk_window.specs.Indexing.{IndexFields, IsIndexOf}
use Rattle.jk_window.specs.Cutting.{cut_file}
use Rattle.jk_window.specs.Fronts.{front_file}
use Rattle.jk_code.specs.Meaning.{MeansLayers, Means}
use Rattle.jk_code.specs.Windows.{IsWindowOf}

-- a picture at reduction d
abbrev pub reduced_place : Picture → Parameters → (d : ℕ) → Rect
reduced_place p q d = reduced_area (image_area (siz_of p q)) d

-- The image at reduction d that the inverse transforms give from the coefficients of a picture,
-- each without as many of its lowest bit-planes as there are layers behind the first k.
abbrev pub front_picture : Picture → Parameters → (k d : ℕ) → Picture
front_picture p q k d =
    record {
      x0 = (reduced_place p q d).x0;
      y0 = (reduced_place p q d).y0;
      width = (reduced_place p q d).x1 - (reduced_place p q d).x0;
      height = (reduced_place p q d).y1 - (reduced_place p q d).y0;
      depth = p.depth;
      signed = p.signed;
      planes = map
          (λ c. raster (reduced_place p q d)
          (λ x y. front_sample p q k d (tile_of (siz_of p q) (x * 2 ^ d) (y * 2 ^ d)) c x y))
          (range_with_len 0 (length p.planes));
    }

-- The image has a reduction d: there are so many decomposition levels, and it has a sample.
pub record HasReduction (p : Picture) (q : Parameters) (d : ℕ) : Type 0 where
  pub levels : d ≤ q.levels
  pub some : is_empty (reduced_place p q d) ≡ false

-- The first k layers of the bytes mean that image, for each k and each reduction. The bytes with
-- all other layers empty, which are a file, mean it too; and so, on its window, does the file of a
-- view that asks for k layers.
pub record HasFronts (p : Picture) (q : Parameters) (bytes : List ℕ) : Type 0 where
  pub layers : (k d : ℕ) → 1 ≤ k → k ≤ q.layers → HasReduction p q d
      → MeansLayers bytes d (Some k) (front_picture p q k d)
  pub files : (k d : ℕ) → 1 ≤ k → k ≤ q.layers → HasReduction p q d → (i : IndexFields) (is : IsIndexOf bytes i)
      → (front : List ℕ) × (front_file is k ≡ Ok front) × Means front d (front_picture p q k d)
  pub windows : (v : View) (k : ℕ) → v.layers ≡ Some k → 1 ≤ k → k ≤ q.layers
      → (i : IndexFields) (is : IsIndexOf bytes i) (reply : List ℕ) → cut_file is v ≡ Ok reply
      → IsWindowOf v (front_picture p q k v.reduce) reply
