-- Queries of a tree that is read: what is known of each node, and the answer or the first fault.
use Rattle.std.specs.Prelude.{◌≡◌, ℕ, zero, suc, ◌+◌, ◌-◌, ◌/◌, ◌^◌, ◌<◌, ◌≤◌, max, Bool, true, false, ◌||◌, nat_lt}
use Rattle.std.specs.Prelude.{nat_le}
use Rattle.std.specs.Prelude.{if◌then◌else◌, List, [], ◌∷◌, ◌++◌, length, slice_index_or, slice_set, replicate, Option}
use Rattle.std.specs.Prelude.{Some, None, Result, Ok, Err}
use Rattle.jk_math.specs.Answer.{◌>>=◌}
use Rattle.jk_math.specs.declared.fault.Fault.{Fault}
use Rattle.jk_bits.specs.Reading.{Bits, bit_at}
use Rattle.jk_bits.specs.Giving.{GivesBits}
use Rattle.jk_tree.specs.TagTree.{Shape, top, count, node_number, column, row, IsNode, Values, above, IsTree, Query, asked}
use Rattle.jk_tree.specs.TagTree.{told}
use Rattle.jk_tree.specs.declared.node.Node.{Node}

-- What a node has told after a threshold, where `over` is the value of the node above it: its
-- value, if that is below the threshold; and if not, that it isn't: by its own zeros, or by the
-- node above, which isn't either.
pub record HasTold (over own before : ℕ) (node : Node) : Type 0 where
  pub known : node.known ≡ nat_lt own before
  pub value : node.known ≡ true → node.low ≡ own
  pub least : node.known ≡ false → (node.low ≤ before) × (before ≤ max node.low over)

-- the node at a place
abbrev pub node_at : List Node → ℕ → Node
node_at nodes p = slice_index_or nodes p record { low = 0; known = false }

-- After the queries, the nodes are what such a tree would have told.
pub record AreTold (s : Shape) (v : Values) (queries : List Query) (nodes : List Node) : Type 0 where
  pub tree : IsTree s v
  pub each : (i x y : ℕ) → IsNode s i x y
      → HasTold (above s v i x y) (v i x y) (asked s queries i x y) (node_at nodes (node_number s i x y))

-- After the queries, some tree would have told the nodes.
abbrev pub AreToldBySome : Shape → List Query → List Node → Type 0
AreToldBySome s queries nodes = (v : Values) × AreTold s v queries nodes

-- zeros from low on up to a one, as far as the threshold, which is more ahead
unfoldable pub climb : ℕ → ℕ → Bits → Result (Node × Bits) Fault
climb low zero bits = Ok (record { low = low; known = false }, bits)
climb low (suc more) bits = bit_at bits
    >>= (λ r. if r.0 then Ok (record { low = low; known = true }, r.1) else climb (low + 1) more r.1)

-- what a node tells, under one of which over is known
unfoldable pub visit : Node → (over threshold : ℕ) → Bits → Result (Node × Bits) Fault
visit node over threshold bits =
    if node.known || nat_le threshold node.low then Ok (node, bits)
    else climb (max node.low over) (threshold - max node.low over) bits

-- The nodes of the levels below i, from the top down: whether all are below the threshold. Under
-- one that isn't, none is, and none tells anything.
unfoldable pub walk : Shape → Query → ℕ → ℕ → List Node → Bits → Result (Bool × (List Node × Bits)) Fault
walk s q zero over nodes bits = Ok (true, (nodes, bits))
walk s q (suc i) over nodes bits =
    let p = node_number s i (column s q.leaf i) (row s q.leaf i) in
    visit (node_at nodes p) over q.threshold bits
    >>= (λ r. if nat_lt r.0.low q.threshold then walk s q i r.0.low (slice_set nodes p r.0) r.1
    else Ok (false, (slice_set nodes p r.0, r.1)))

-- all nodes over a leaf are known
abbrev pub IsKnown : Shape → List Node → ℕ → Type 0
IsKnown s nodes leaf = (i : ℕ) → i ≤ top s
    → (node_at nodes (node_number s i (column s leaf i) (row s leaf i))).known ≡ true

-- the node of level i over leaf (x, y)
abbrev pub over_leaf : Shape → List Node → (i x y : ℕ) → Node
over_leaf s nodes i x y = node_at nodes (node_number s i (x / 2 ^ i) (y / 2 ^ i))

-- Leaf (x, y) is under a node of level i that isn't below the threshold, and of which no more is
-- known; those above that node are below the threshold.
pub record IsClosed (s : Shape) (nodes : List Node) (threshold i x y : ℕ) : Type 0 where
  pub level : i ≤ top s
  pub above : (j : ℕ) → i < j → j ≤ top s
      → ((over_leaf s nodes j x y).known ≡ true) × ((over_leaf s nodes j x y).low < threshold)
  pub unknown : (over_leaf s nodes i x y).known ≡ false
  pub high : threshold ≤ (over_leaf s nodes i x y).low

-- a tree that is read, and why it failed, if it has
pub record TagTreeRead : Type 0 where
  pub shape : Shape
  pub nodes : List Node
  pub failed : Option Fault

-- a tree of which nothing is known
unfoldable pub blank_tree : Shape → TagTreeRead
blank_tree s = record { shape = s; nodes = replicate (count s) record { low = 0; known = false }; failed = None }

-- a tree that can be asked
pub record IsOpen (s : Shape) (tree : TagTreeRead) : Type 0 where
  pub shape : tree.shape ≡ s
  pub sound : tree.failed ≡ None
  pub long : length tree.nodes ≡ count s

-- what has failed fails again
abbrev pub unless_failed : {A : Type 0} → Option Fault → Result A Fault → Result A Fault
unless_failed (Some e) due = Err e
unless_failed None due = due

-- the answer to a query, with the tree and the reader after it, or the first fault
unfoldable pub ask_at : Query → TagTreeRead × Bits → Result (Bool × (TagTreeRead × Bits)) Fault
ask_at q s = unless_failed s.0.failed
    (walk s.0.shape q (top s.0.shape + 1) 0 s.0.nodes s.1
    >>= (λ o. Ok (o.0, (record s.0 { nodes = o.1.0 }, o.1.1))))

-- The answer b to a query after other queries, for a tree that told it and what was told before.
pub record IsAnswer (old : TagTreeRead) (v : Values) (queries : List Query) (q : Query) (reader : Bits) (new : TagTreeRead)
    (reader_on : Bits) (b : Bool) : Type 0 where
  pub before : AreTold old.shape v queries old.nodes
  pub after : AreTold old.shape v (queries ++ q ∷ []) new.nodes
  pub kept : (new.shape ≡ old.shape) × (new.failed ≡ None)
  pub given : GivesBits reader (told old.shape v queries q) reader_on
  pub answer : b ≡ nat_lt (v 0 (column old.shape q.leaf 0) (row old.shape q.leaf 0)) q.threshold
