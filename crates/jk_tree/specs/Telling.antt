-- Queries of a tree that is written: the values of its nodes, and what it tells.
use Rattle.std.specs.Prelude.{◌≡◌, ℕ, zero, suc, ◌*◌, min, Bool, true, if◌then◌else◌, List, [], ◌∷◌, ◌++◌, slice_index}
use Rattle.std.specs.Prelude.{slice_index_or}
use Rattle.jk_bits.specs.Writing.{Written}
use Rattle.jk_tree.specs.TagTree.{Shape, node_number, IsNode, Values, passes, IsTree, Query, asked, told}
use Rattle.jk_tree.specs.declared.write.WriteNode.{WriteNode}

-- the least value of the first n leaves that are under node (x, y) of level i, and 65535 if none is
unfoldable pub least_under : Shape → List ℕ → ℕ → ℕ → ℕ → ℕ → ℕ
least_under s leaves zero i x y = 65535
least_under s leaves (suc n) i x y =
    min (least_under s leaves n i x y) (if passes s n i x y then slice_index leaves n else 65535)

-- The values of a written tree: each node has the least of the leaves under it.
abbrev pub written : Shape → List ℕ → Values
written s leaves = λ i x y. least_under s leaves (s.width * s.height) i x y

-- a tree that is written, and whether memory was refused
pub record Speaker : Type 0 where
  pub shape : Shape
  pub nodes : List WriteNode
  pub failed : Bool

-- the node at a place
abbrev pub speaker_at : List WriteNode → ℕ → WriteNode
speaker_at nodes p = slice_index_or nodes p record { value = 0; told = 0 }

-- The nodes have these values, and have told the queries.
pub record Speaks (s : Shape) (v : Values) (queries : List Query) (nodes : List WriteNode) : Type 0 where
  pub tree : IsTree s v
  pub each : (i x y : ℕ) → IsNode s i x y
      → speaker_at nodes (node_number s i x y) ≡ record { value = v i x y; told = asked s queries i x y }

-- The nodes over the leaf are lowered to a value, and no others.
abbrev pub Lowers : Shape → ℕ → ℕ → List WriteNode → List WriteNode → Type 0
Lowers s leaf value old new = (i x y : ℕ) → IsNode s i x y → speaker_at new (node_number s i x y)
    ≡ (if passes s leaf i x y
    then record (speaker_at old (node_number s i x y)) { value = min (speaker_at old (node_number s i x y)).value value }
    else speaker_at old (node_number s i x y))

-- the writer with these bits more
abbrev pub with_bits : Written → List Bool → Written
with_bits writer bits = record writer { bits = writer.bits ++ bits }

-- bits were written
abbrev pub Grows : Written → Written → Type 0
Grows writer writer_on = (more : List Bool) × (writer_on ≡ with_bits writer more)

-- bits were written, and then memory was refused
abbrev pub Fails : Written → Written → Type 0
Fails writer writer_on = (more : List Bool) × (writer_on ≡ record (with_bits writer more) { failed = true })

-- A query tells what it has to tell after those before it, whichever these were and whatever the
-- values are.
abbrev pub TellsQuery : Shape → Query → (old new : List WriteNode) → (writer writer_on : Written) → Type 0
TellsQuery s q old new writer writer_on = (v : Values) (queries : List Query) → Speaks s v queries old
    → (writer_on ≡ with_bits writer (told s v queries q)) × Speaks s v (queries ++ q ∷ []) new
