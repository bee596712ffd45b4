-- The data of a tile's parts stand at the places that its fields say.
use Rattle.std.proofs.Common.{◌≡◌, ℕ, ◌<◌, List, length, map, sym, ap, subst, ◌∙◌, arith}
use Rattle.jk_marks.specs.Siz.{tile_count}
use Rattle.jk_marks.specs.Codestream.{CodestreamPart, Tree, codestream_text, of_tile, IsCodestream}
use Rattle.jk_params.specs.Headers.{Headers, TileFields, tile_in, headers_of, IsHeaders}
use Rattle.jk_params.proofs.PlacesLaws.{bytes_at, contents_from}
use Rattle.jk_params.proofs.PartsLaws.{said_at, said_length}

abbrev AreHeld : List ℕ → Tree → Headers → Type 0
AreHeld bytes tree h = (t : ℕ) → t < length h.tiles → map (bytes_at bytes) (tile_in h.tiles t).data_places ≡ map (λ (p : CodestreamPart). p.content) (of_tile t tree.parts)

tiles_hold : (bytes : List ℕ) (tree : Tree) → bytes ≡ codestream_text tree → AreHeld bytes tree (headers_of tree)
unfolding headers_of
tiles_hold bytes tree e = λ t lt.
    (let inside : t < tile_count tree.siz = omega (arith, lt, said_length tree.siz tree.segments tree.parts) in
    ap (λ (f : TileFields). map (bytes_at bytes) f.data_places) (said_at tree.siz tree.segments tree.parts t inside) ∙ contents_from bytes tree t e)

pub contents_held : (bytes : List ℕ) (h : Headers) → IsHeaders bytes h → (tree : Tree) × IsCodestream bytes tree × (h ≡ headers_of tree) × AreHeld bytes tree h
contents_held bytes h is = (is.tree, is.spelled, is.says, subst (λ (x : Headers). AreHeld bytes is.tree x) (sym is.says) (tiles_hold bytes is.tree is.spelled.text))
