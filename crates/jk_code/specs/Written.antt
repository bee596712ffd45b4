-- What encoding writes.
use Rattle.std.specs.Prelude.{ℕ, ◌+◌, ◌^◌, Bool, not, nat_lt, List, length, map, None, Result, Ok, Err, if◌then◌else◌}
use Rattle.std.specs.List.{range_with_len}
use Rattle.jk_math.specs.declared.fault.Fault.{Fault}
use Rattle.jk_math.specs.declared.fault.Fault.TheVariants.{BadParameters, Limit}
use Rattle.jk_math.specs.Picture.{Picture}
use Rattle.jk_marks.specs.declared.main_header.Main.{Main}
use Rattle.jk_marks.specs.Siz.{tile_count}
use Rattle.jk_marks.specs.Codestream.{CodestreamPart, Tree, codestream_text, segments_of, only_part_of, by_component}
use Rattle.jk_boxes.specs.Written.{wrapped}
use Rattle.jk_params.specs.declared.parameters.Parameters.{Parameters}
use Rattle.jk_params.specs.declared.parameters.Container.{Container}
use Rattle.jk_params.specs.declared.parameters.Container.TheVariants.{Raw, Jp2}
use Rattle.jk_params.specs.Profile.{siz_of, cod_of, is_profile}
use Rattle.jk_tile.specs.encoding.Needs.{exponents_for}
use Rattle.jk_tile.specs.encoding.PacketsWritten.{tile_text}
use Rattle.jk_window.specs.Views.{holds_below}

-- the main header; there are two guard bits, and the exponents leave room for each coefficient
abbrev pub main_for : Picture → Parameters → Main
main_for p q = record {
  siz = siz_of p q;
  cod = cod_of q;
  qcd = record { guard = 2; exponents = exponents_for p q };
  coc = by_component (λ i. None);
  qcc = by_component (λ i. None);
}

-- the only part of tile t
abbrev pub part_for : Picture → Parameters → ℕ → CodestreamPart
part_for p q t = only_part_of t (tile_text p q t)

-- the codestream as a tree: tile after tile, each in one part
abbrev pub tree_for : Picture → Parameters → Tree
tree_for p q =
    record {
      siz = siz_of p q;
      segments = segments_of (main_for p q);
      parts = map (part_for p q) (range_with_len 0 (tile_count (siz_of p q)));
    }

-- The part of tile t can say its length, and so can those of all tiles (A.4.2).
abbrev pub part_fits : Picture → Parameters → ℕ → Bool
part_fits p q t = nat_lt (14 + length (tile_text p q t)) (2 ^ 32)

abbrev pub parts_fit : Picture → Parameters → Bool
parts_fit p q = holds_below (part_fits p q) (tile_count (siz_of p q))

-- a codestream in its container
abbrev pub contained : Container → Picture → List ℕ → Result (List ℕ) Fault
contained Raw p codestream = Ok codestream
contained Jp2 p codestream = wrapped p codestream

-- the file of an image that the parameters allow, or why there is none
abbrev pub file_for : Picture → Parameters → Result (List ℕ) Fault
file_for p q = if not (parts_fit p q) then Err Limit else contained q.container p (codestream_text (tree_for p q))

-- the file of an image, or why there is none
unfoldable pub written : Picture → Parameters → Result (List ℕ) Fault
written p q = if not (is_profile q p) then Err BadParameters else file_for p q
