-- The coding of a tile-component (T.800 A.6, E.1): which segments go before others, and how many
-- magnitude planes a sub-band has.
use Rattle.std.specs.Prelude.{◌≡◌, ℕ, ◌+◌, ◌*◌, ◌≤◌, ◌==◌, min, List, ◌++◌, length, map, take, replicate, if◌then◌else◌}
use Rattle.std.specs.List.{AllByRecursion, range_with_len}
use Rattle.jk_marks.specs.declared.coding.Coding.{Coding}
use Rattle.jk_marks.specs.declared.segments.CodingStyle.{CodingStyle}
use Rattle.jk_marks.specs.declared.segments.Quantisation.{Quantisation}
use Rattle.jk_marks.specs.Segments.{Segment, cods, qcds, cocs_of, qccs_of, quantisation_of}
use Rattle.jk_marks.specs.Codestream.{first_given, no_coding, no_quantisation}

-- The coding style of component i: the tile's COC goes before its COD, the COD before the COC of
-- the main header, and that before its COD.
abbrev pub style_for : (main head : List Segment) → ℕ → CodingStyle
style_for main head i =
    first_given no_coding.style
    (cocs_of i head ++ (map (λ c. c.style) (cods head) ++ (cocs_of i main ++ map (λ c. c.style) (cods main))))

-- the quantization likewise
abbrev pub quantisation_for : (main head : List Segment) → ℕ → Quantisation
quantisation_for main head i =
    first_given no_quantisation (map quantisation_of (qccs_of i head ++ (qcds head ++ (qccs_of i main ++ qcds main))))

-- Precinct sizes that aren't given are the greatest. (There are at most 11 resolutions.)
abbrev pub every_precinct : CodingStyle → List (ℕ × ℕ)
every_precinct k = if length k.precincts == 0 then replicate (min (k.levels + 1) 11) (15, 15) else k.precincts

-- how many sub-bands there are
abbrev pub band_count : ℕ → ℕ
band_count levels = 3 * levels + 1

abbrev pub coding_with : CodingStyle → Quantisation → Coding
coding_with k q = record {
  levels = k.levels;
  xcb = k.xcb;
  ycb = k.ycb;
  precincts = every_precinct k;
  style = k.style;
  guard = q.guard;
  exponents = take (band_count k.levels) q.exponents;
}

-- the coding of component i, by the segments of the main header and of the tile's first header
abbrev pub coding_of : (main head : List Segment) → ℕ → Coding
coding_of main head i = coding_with (style_for main head i) (quantisation_for main head i)

-- An exponent for each sub-band, and 0 to 23 magnitude planes: the guard bits and the exponent,
-- less one (equation E-2).
pub record HasPlanes (k : Coding) : Type 0 where
  pub count : length k.exponents ≡ band_count k.levels
  pub planes : AllByRecursion (λ e. (1 ≤ k.guard + e) × (k.guard + e ≤ 24)) k.exponents

-- the codings of all components, by the segments
abbrev pub codings_of : ℕ → (main head : List Segment) → List Coding
codings_of components main head = map (coding_of main head) (range_with_len 0 components)
