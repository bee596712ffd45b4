-- Where the reader of a query stands, and what a writer holds that has failed.
use Rattle.std.proofs.Common.{◌≡◌, ℕ, zero, suc, ◌-◌, max, Bool, true, false, cond, List, ◌++◌, set, Ok, ap, ◌∙◌, subst, inl, inr, append_assoc}
use Rattle.std.specs.Prelude.{◌||◌, nat_le}
use Rattle.jk_bits.specs.Reading.{Bits}
use Rattle.jk_bits.specs.Writing.{Written}
use Rattle.jk_bits.specs.Giving.{Moves, stays, moves_on}
use Rattle.jk_tree.specs.TagTree.{Shape, Query}
use Rattle.jk_tree.specs.declared.node.Node.{Node}
use Rattle.jk_tree.specs.Asking.{node_at, climb, visit, walk}
use Rattle.jk_tree.specs.Telling.{with_bits, Grows, Fails}
use Rattle.jk_tree.proofs.Visits.{climb_out}
use Rattle.jk_tree.proofs.Finds.{way, steps, walk_end}

pub visit_moves : (node : Node) (over threshold : ℕ) (r : Bits) (o : Node × Bits) → visit node over threshold r ≡ Ok o → Moves r o.1
unfolding visit
visit_moves node over threshold r o h = by_test (node.known || nat_le threshold node.low) h
  where
    by_test : (b : Bool) → cond b (Ok (node, r)) (climb (max node.low over) (threshold - max node.low over) r) ≡ Ok o → Moves r o.1
    by_test true e = let is : (node, r) ≡ o = cc in subst (λ (p : Node × Bits). Moves r p.1) is (stays r)
    by_test false e = (_, (climb_out (max node.low over) (threshold - max node.low over) r o e).given)

pub walk_moves : (s : Shape) (q : Query) (i over : ℕ) (nodes : List Node) (r : Bits) (o : Bool × (List Node × Bits)) → walk s q i over nodes r ≡ Ok o → Moves r o.1.1
walk_moves s q zero over nodes r o h = subst (λ (p : Bool × (List Node × Bits)). Moves r p.1.1) (walk_end s q over nodes r o h) (stays r)
walk_moves s q (suc i) over nodes r o h =
    let t = steps s q i over nodes r o h in
    let visited = visit_moves (node_at nodes (way s q i)) over q.threshold r (t.node, t.mid) t.visited in
    elim t.next [
      | inl on ↦ moves_on r t.mid o.1.1 visited (walk_moves s q i t.node.low (set nodes (way s q i) t.node) t.mid o on.1)
      | inr stop ↦ subst (λ (p : Bool × (List Node × Bits)). Moves r p.1.1) stop.1 visited
    ]

-- More bits behind bits.
pub grows_on : (a b c : Written) → Grows a b → Grows b c → Grows a c
grows_on a b c g h = (
  g.0 ++ h.0,
  h.1 ∙ ap (λ (w : Written). with_bits w h.0) g.1 ∙ ap (λ (bits : List Bool). record { bits = bits; failed = a.failed }) (append_assoc a.bits g.0 h.0),
)

pub fails_on : (a b c : Written) → Grows a b → Fails b c → Fails a c
fails_on a b c g h = (
  g.0 ++ h.0,
  h.1 ∙ ap (λ (w : Written). record (with_bits w h.0) { failed = true }) g.1 ∙ ap (λ (bits : List Bool). record { bits = bits; failed = true }) (append_assoc a.bits g.0 h.0),
)
