-- From the values of a tile-component to samples (T.800 G.1, G.2).
use Rattle.std.specs.Prelude.{ℕ, zero, suc, if◌then◌else◌, ℤ}
use Rattle.jk_marks.specs.declared.siz.Siz.{Siz}
use Rattle.jk_marks.specs.declared.segments.Cod.{Cod}
use Rattle.jk_rct.specs.Colour.{i0_of, i1_of, i2_of}
use Rattle.jk_tile.specs.Samples.{sample_of}

-- The inverse component transform of the values of a pixel, by component (G.2.2). Components past
-- the third keep their values.
unfoldable pub uncoloured : (ℕ → ℤ) → ℕ → ℤ
uncoloured v zero = i0_of (v 0) (v 1) (v 2)
uncoloured v (suc zero) = i1_of (v 0) (v 1) (v 2)
uncoloured v (suc (suc zero)) = i2_of (v 0) (v 1) (v 2)
uncoloured v c = v c

-- The sample of component c of a pixel whose components have the values v (G.2.2, G.1.2).
unfoldable pub tile_sample : Cod → Siz → (ℕ → ℤ) → ℕ → ℤ
tile_sample cod siz v c = sample_of siz (if cod.colour then uncoloured v c else v c)
