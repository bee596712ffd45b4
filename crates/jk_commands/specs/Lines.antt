-- The line that `jk info` writes.
use Rattle.std.specs.Prelude.{ℕ, ◌-◌, List, [], ◌∷◌, ◌++◌, Result, Ok}
use Rattle.std.specs.Fmt.{decimal}
use Rattle.jk_math.specs.Answer.{◌>>=◌}
use Rattle.jk_math.specs.declared.fault.Fault.{Fault}
use Rattle.jk_marks.specs.Siz.{tile_count}
use Rattle.jk_params.specs.Headers.{packets_of}
use Rattle.jk_options.specs.Orders.{order_text}
use Rattle.jk_window.specs.Indexing.{IndexFields, index_at}
use Rattle.jk_params.specs.Levels.{least_levels}

-- a number and a space
abbrev pub spaced : ℕ → List ℕ
spaced n = decimal n ++ (32 ∷ [])

-- width, height, components and depth, each followed by a space
abbrev pub image_text : IndexFields → List ℕ
image_text i =
    let siz = i.headers.siz in
    spaced (siz.x1 - siz.x0) ++ (spaced (siz.y1 - siz.y0) ++ (spaced siz.components ++ spaced siz.depth))

-- the least number of decomposition levels, the layers and the order of packets, each followed by a
-- space
abbrev pub coding_text : IndexFields → List ℕ
coding_text i =
    let h = i.headers in
    spaced (least_levels h.tiles (tile_count h.siz)) ++ (spaced i.layers ++ (order_text i.order ++ (32 ∷ [])))

-- the tiles, a space, and the packets
abbrev pub counts_text : IndexFields → List ℕ
counts_text i = let h = i.headers in spaced (tile_count h.siz) ++ decimal (packets_of h.siz h.tiles)

-- WIDTH HEIGHT COMPONENTS DEPTH LEVELS LAYERS ORDER TILES PACKETS, and LF
abbrev pub line_of : IndexFields → List ℕ
line_of i = image_text i ++ (coding_text i ++ (counts_text i ++ (10 ∷ [])))

-- the line of a file
unfoldable pub info_at : List ℕ → Result (List ℕ) Fault
info_at bytes = do
  i ← index_at bytes
  Ok (line_of i)
