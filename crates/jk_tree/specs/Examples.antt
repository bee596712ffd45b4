-- The tag tree of T.800 B.10.2: six leaves across, three down.
use Rattle.std.specs.Prelude.{◌≡◌, ℕ, zero, suc, true, false, List, [], ◌∷◌, slice_index, ◌*◌, ◌+◌, refl}
use Rattle.jk_tree.specs.TagTree.{Shape, shape_of, wide, level_from, top, start, count, Values}
use Rattle.jk_tree.specs.TagTree.{query_of, asked, told_below, told}

shape : Shape
shape = shape_of 6 3

-- the leaves row by row, then the nodes of each level above: a node is the least of those below it
numbers : ℕ → List ℕ
numbers zero = 1 ∷ 3 ∷ 2 ∷ 3 ∷ 2 ∷ 3 ∷ 2 ∷ 2 ∷ 1 ∷ 4 ∷ 3 ∷ 2 ∷ 2 ∷ 2 ∷ 2 ∷ 2 ∷ 1 ∷ 2 ∷ []
numbers (suc zero) = 1 ∷ 1 ∷ 2 ∷ 2 ∷ 2 ∷ 1 ∷ []
numbers (suc (suc zero)) = 1 ∷ 1 ∷ []
numbers (suc (suc (suc more))) = 1 ∷ []

values : Values
values i x y = slice_index (numbers i) (y * wide 6 i + x)

row_levels : top shape ≡ 3
unfolding shape top level_from
row_levels = refl

-- 18 + 6 + 2 + 1 nodes
row_nodes : count shape ≡ 27
unfolding shape top level_from start wide
row_nodes = refl

-- The leaves are told whole: at a threshold one above the value. The first one: 0 1 by the root,
-- whose value is 1, and 1 by each node below it.
row_first : told shape values [] (query_of 0 2) ≡ false ∷ true ∷ true ∷ true ∷ true ∷ []
unfolding shape values numbers told told_below top level_from wide asked
row_first = refl

-- The second, 3: the nodes above it are known, and it is two more than the node over it.
row_second : told shape values (query_of 0 2 ∷ []) (query_of 1 4) ≡ false ∷ false ∷ true ∷ []
unfolding shape values numbers told told_below top level_from wide asked
row_second = refl

-- The third, 2: its own node of level 1, which is 1 as the one over it, and one more.
row_third : told shape values (query_of 0 2 ∷ query_of 1 4 ∷ []) (query_of 2 3) ≡ true ∷ false ∷ true ∷ []
unfolding shape values numbers told told_below top level_from wide asked
row_third = refl

-- A question at a threshold that the value doesn't reach: 0 says that the root isn't below 1.
row_asked : told shape values [] (query_of 0 1) ≡ false ∷ []
unfolding shape values numbers told told_below top level_from wide asked
row_asked = refl
