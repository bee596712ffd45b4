-- The text of segments as it is written, piece by piece.
use Rattle.std.proofs.Common.{◌≡◌, ℕ, ◌+◌, List, ◌∷◌, ◌++◌, length, map, ap, arith}
use Rattle.std.proofs.lemmas.List.{length-map}
use Rattle.std.proofs.lemmas.Grind.{flat_map-append}
use Rattle.std.specs.List.{flat_map}
use Rattle.jk_marks.specs.declared.main_header.Main.{Main}
use Rattle.jk_marks.specs.Codestream.{own_style, own_steps, style_segments, step_segments, segments_of, given_for}
use Rattle.byteorder.specs.Endian.{big_bytes}
use Rattle.jk_marks.specs.declared.segments.Cod.{Cod}
use Rattle.jk_marks.specs.declared.segments.CodingStyle.{CodingStyle}
use Rattle.jk_marks.specs.Markers.{cod, coc, marker_text}
use Rattle.jk_marks.specs.OrderCode.{order_code}
use Rattle.jk_marks.specs.Precincts.{precinct_byte}
use Rattle.jk_marks.specs.BlockStyle.{bit_of}
use Rattle.jk_marks.specs.Segments.{CodSegment, CocSegment, QcdSegment, written_steps, given_bit, scod, style_text, contents, segment_body, segment_text}

pub cod_text : (c : Cod) → segment_text (CodSegment c)
    ≡ marker_text cod ++ (big_bytes 2 (12 + length c.style.precincts) ++ (scod c ∷ order_code c.order ∷ (big_bytes 2 c.layers ++ (bit_of c.colour ∷ style_text c.style))))
unfolding segment_body contents style_text
cod_text c =
    let len : length (map precinct_byte c.style.precincts) ≡ length c.style.precincts = simp length-map in
    let size : 2 + length (contents (CodSegment c)) ≡ 12 + length c.style.precincts = omega (arith, len) in
    ap (λ k. marker_text cod ++ (big_bytes 2 k ++ contents (CodSegment c))) size

pub coc_text : (i : ℕ) (k : CodingStyle) → segment_text (CocSegment i k) ≡ marker_text coc ++ (big_bytes 2 (9 + length k.precincts) ++ (i ∷ given_bit k.precincts ∷ style_text k))
unfolding segment_body contents style_text
coc_text i k =
    let len : length (map precinct_byte k.precincts) ≡ length k.precincts = simp length-map in
    let size : 2 + length (contents (CocSegment i k)) ≡ 9 + length k.precincts = omega (arith, len) in
    ap (λ n. marker_text coc ++ (big_bytes 2 n ++ contents (CocSegment i k))) size

pub styles_text : (m : Main) → flat_map segment_text (style_segments m)
    ≡ flat_map segment_text (own_style 0 (given_for m.coc 0)) ++ (flat_map segment_text (own_style 1 (given_for m.coc 1))
    ++ (flat_map segment_text (own_style 2 (given_for m.coc 2)) ++ flat_map segment_text (own_style 3 (given_for m.coc 3))))
styles_text m = simp flat_map-append

pub steps_text : (m : Main) → flat_map segment_text (step_segments m)
    ≡ flat_map segment_text (own_steps 0 (given_for m.qcc 0)) ++ (flat_map segment_text (own_steps 1 (given_for m.qcc 1))
    ++ (flat_map segment_text (own_steps 2 (given_for m.qcc 2)) ++ flat_map segment_text (own_steps 3 (given_for m.qcc 3))))
steps_text m = simp flat_map-append

-- the segments of a main header, piece by piece
pub written_text : (m : Main) → flat_map segment_text (segments_of m)
    ≡ segment_text (CodSegment m.cod) ++ (segment_text (QcdSegment (written_steps m.qcd)) ++ (flat_map segment_text (style_segments m) ++ flat_map segment_text (step_segments m)))
written_text m = ap (λ (x : List ℕ). segment_text (CodSegment m.cod) ++ (segment_text (QcdSegment (written_steps m.qcd)) ++ x)) (flat_map-append segment_text (style_segments m) (step_segments m))
