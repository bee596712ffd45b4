-- Tag trees (T.800 B.10.2): the nodes, the word of each node, and what a query tells after other
-- queries.
use Rattle.std.specs.Prelude.{ℕ, zero, suc, ◌+◌, ◌-◌, ◌*◌, ◌/◌, ◌%◌, ◌^◌, ◌<◌, ◌≤◌, min, max, Bool, true, false, ◌&&◌}
use Rattle.std.specs.Prelude.{◌==◌, nat_lt, nat_le, if◌then◌else◌, List, [], ◌∷◌, ◌++◌, length, drop, replicate}

-- the leaves across and down
pub record Shape : Type 0 where
  pub width : ℕ
  pub height : ℕ

abbrev pub shape_of : ℕ → ℕ → Shape
shape_of width height = record { width = width; height = height }

-- How many nodes stand over n leaves in a row, i levels up: each over up to two of the level below.
unfoldable pub wide : ℕ → ℕ → ℕ
wide n i = (n + 2 ^ i - 1) / 2 ^ i

-- the first level from i on at which at most one node stands over n leaves, sought on that many
-- levels
unfoldable pub level_from : ℕ → ℕ → ℕ → ℕ
level_from zero n i = i
level_from (suc more) n i = if nat_le n (2 ^ i) then i else level_from more n (i + 1)

-- the level of the root
unfoldable pub top : Shape → ℕ
top s = level_from (max s.width s.height) (max s.width s.height) 0

-- how many nodes the levels below i have
unfoldable pub start : Shape → ℕ → ℕ
start s zero = 0
start s (suc i) = start s i + wide s.width i * wide s.height i

-- where node (x, y) of level i stands among all nodes, level by level from the leaves, in raster
-- order
unfoldable pub node_number : Shape → ℕ → ℕ → ℕ → ℕ
node_number s i x y = start s i + y * wide s.width i + x

-- how many nodes there are
abbrev pub count : Shape → ℕ
count s = start s (top s + 1)

-- the node of level i over a leaf, the leaves counted in raster order
abbrev pub column : Shape → ℕ → ℕ → ℕ
column s leaf i = leaf % s.width / 2 ^ i

abbrev pub row : Shape → ℕ → ℕ → ℕ
row s leaf i = leaf / s.width / 2 ^ i

-- Level i has a node (x, y).
pub record IsNode (s : Shape) (i x y : ℕ) : Type 0 where
  pub level : i ≤ top s
  pub across : x < wide s.width i
  pub down : y < wide s.height i

-- a number for each node, by level, column and row
abbrev pub Values : Type 0
Values = ℕ → ℕ → ℕ → ℕ

-- the number of the node above, 0 above the root
abbrev pub above : Shape → Values → ℕ → ℕ → ℕ → ℕ
above s v i x y = if i == top s then 0 else v (i + 1) (x / 2) (y / 2)

-- the value of a leaf, the leaves counted in raster order
abbrev pub leaf_of : Shape → Values → ℕ → ℕ
leaf_of s v i = v 0 (column s i 0) (row s i 0)

-- No node is below the one above it. (In a written tree a node is the least of those below it.)
abbrev pub IsTree : Shape → Values → Type 0
IsTree s v = (i x y : ℕ) → IsNode s i x y → above s v i x y ≤ v i x y

-- the word of a node of that value at a threshold: its excess over the node above as zeros, as far
-- as the threshold asks, and a one if it is below the threshold
abbrev pub word : (over value threshold : ℕ) → List Bool
word over value threshold =
    replicate (min value threshold - min over threshold) false ++ (if nat_lt value threshold then true ∷ [] else [])

-- a question: is the leaf below the threshold?
pub record Query : Type 0 where
  pub leaf : ℕ
  pub threshold : ℕ

abbrev pub query_of : ℕ → ℕ → Query
query_of leaf threshold = record { leaf = leaf; threshold = threshold }

-- the query goes through node (x, y) of level i
abbrev pub passes : Shape → ℕ → ℕ → ℕ → ℕ → Bool
passes s leaf i x y = (column s leaf i == x) && (row s leaf i == y)

-- the greatest threshold of the queries through a node, or 0
unfoldable pub asked : Shape → List Query → ℕ → ℕ → ℕ → ℕ
asked s [] i x y = 0
asked s (q ∷ queries) i x y = max (if passes s q.leaf i x y then q.threshold else 0) (asked s queries i x y)

-- what a node tells at a threshold: its word without what it told before
abbrev pub rest_of_word : (over value before threshold : ℕ) → List Bool
rest_of_word over value before threshold =
    if nat_lt before threshold then drop (length (word over value before)) (word over value threshold) else []

-- what the levels below i tell
unfoldable pub told_below : Shape → Values → List Query → Query → ℕ → List Bool
told_below s v queries q zero = []
told_below s v queries q (suc i) =
    let x = column s q.leaf i in
    let y = row s q.leaf i in
    rest_of_word (above s v i x y) (v i x y) (asked s queries i x y) q.threshold ++ told_below s v queries q i

-- what a query tells after those before it: the nodes on the way from the root to the leaf, one
-- after another
unfoldable pub told : Shape → Values → List Query → Query → List Bool
told s v queries q = told_below s v queries q (top s + 1)
