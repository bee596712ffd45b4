-- The laws of a query, for the tree and the reader as callers see them.
use Rattle.std.proofs.Common.{◌≡◌, ◌+◌, ◌*◌, ◌<◌, Bool, List, [], ◌∷◌, ◌++◌, length, Option, Some, None, Result, Ok, Err, refl, ap, ◌∙◌, subst}
use Rattle.std.specs.Prelude.{nat_lt}
use Rattle.jk_math.specs.Answer.{◌>>=◌}
use Rattle.jk_math.specs.declared.fault.Fault.{Fault}
use Rattle.jk_bits.specs.Reading.{Bits, ahead}
use Rattle.jk_tree.specs.TagTree.{top, count, Values, Query, told, leaf_of}
use Rattle.jk_tree.specs.declared.node.Node.{Node}
use Rattle.jk_tree.specs.Asking.{AreTold, AreToldBySome, walk, TagTreeRead, unless_failed, ask_at, IsAnswer}
use Rattle.jk_bits.specs.Giving.{advance, gives_on}
use Rattle.jk_tree.proofs.Asks.{told_by, found_by, reached_on}

-- a query of a tree that hasn't failed
pub ask_at-none : (q : Query) (t : TagTreeRead) (r : Bits) → t.failed ≡ None → ask_at q (t, r) ≡ (walk t.shape q (top t.shape + 1) 0 t.nodes r >>= (λ o. Ok (o.0, (record t { nodes = o.1.0 }, o.1.1))))
unfolding ask_at
ask_at-none q t r h = ap (λ (f : Option Fault). unless_failed f (walk t.shape q (top t.shape + 1) 0 t.nodes r >>= (λ o. Ok (o.0, (record t { nodes = o.1.0 }, o.1.1))))) h

pub ask_at-some : (q : Query) (t : TagTreeRead) (r : Bits) (e : Fault) → t.failed ≡ Some e → ask_at q (t, r) ≡ Err e
unfolding ask_at
ask_at-some q t r e h = ap (λ (f : Option Fault). unless_failed f (walk t.shape q (top t.shape + 1) 0 t.nodes r >>= (λ o. Ok (o.0, (record t { nodes = o.1.0 }, o.1.1))))) h

pub ask_at-ok : (q : Query) (t : TagTreeRead) (r : Bits) (o : Bool × (List Node × Bits)) → t.failed ≡ None → walk t.shape q (top t.shape + 1) 0 t.nodes r ≡ Ok o → ask_at q (t, r) ≡ Ok (o.0, (record t { nodes = o.1.0 }, o.1.1))
ask_at-ok q t r o none h = ask_at-none q t r none ∙ ap (λ (w : Result (Bool × (List Node × Bits)) Fault). w >>= (λ o. Ok (o.0, (record t { nodes = o.1.0 }, o.1.1)))) h

pub ask_at-err : (q : Query) (t : TagTreeRead) (r : Bits) (e : Fault) → t.failed ≡ None → walk t.shape q (top t.shape + 1) 0 t.nodes r ≡ Err e → ask_at q (t, r) ≡ Err e
ask_at-err q t r e none h = ask_at-none q t r none ∙ ap (λ (w : Result (Bool × (List Node × Bits)) Fault). w >>= (λ o. Ok (o.0, (record t { nodes = o.1.0 }, o.1.1)))) h

-- What a tree would tell is read.
pub only_law : (q : Query) (t : TagTreeRead) (r : Bits) (v : Values) (queries : List Query) (rest : List Bool) → q.leaf < t.shape.width * t.shape.height → length t.nodes ≡ count t.shape → t.failed ≡ None
    → AreTold t.shape v queries t.nodes → ahead r ≡ told t.shape v queries q ++ rest
    → (o : Bool × (TagTreeRead × Bits)) × (ask_at q (t, r) ≡ Ok o) × IsAnswer t v queries q r o.1.0 o.1.1 o.0
only_law q t r v queries rest less long none st first =
    let w = told_by t.shape v queries q t.nodes r rest less long st first in
    let r' = advance r (length (told t.shape v queries q)) in (
      (nat_lt (leaf_of t.shape v q.leaf) q.threshold, (record t { nodes = w.after }, r')),
      ask_at-ok q t r (nat_lt (leaf_of t.shape v q.leaf) q.threshold, (w.after, r')) none w.is,
      record { before = st; after = w.stands; kept = (refl, none); given = gives_on r (told t.shape v queries q) rest first; answer = refl },
    )

-- What is read is what each tree tells that stands afterwards, and there is one.
pub found_law : (q : Query) (t : TagTreeRead) (r : Bits) (o : Bool × (List Node × Bits)) (queries : List Query) → q.leaf < t.shape.width * t.shape.height → length t.nodes ≡ count t.shape → t.failed ≡ None
    → walk t.shape q (top t.shape + 1) 0 t.nodes r ≡ Ok o → AreToldBySome t.shape queries t.nodes
    → AreToldBySome t.shape (queries ++ q ∷ []) o.1.0 × ((v : Values) → AreTold t.shape v (queries ++ q ∷ []) o.1.0 → IsAnswer t v queries q r (record t { nodes = o.1.0 }) o.1.1 o.0)
found_law q t r o queries less long none h reached =
    let on = reached_on t.shape queries q t.nodes r o less long reached h in (
      on.0,
      λ v st.
          let f = found_by t.shape v queries q t.nodes r o less long on.1 reached h st in
          record { before = f.before; after = st; kept = (refl, none); given = f.given; answer = f.answer },
    )

-- a reached tree answered: the same by what the call gave
pub answer_same : (t : TagTreeRead) (v : Values) (queries : List Query) (q : Query) (r : Bits) (o p : Bool × (TagTreeRead × Bits)) → o ≡ p → IsAnswer t v queries q r o.1.0 o.1.1 o.0 → IsAnswer t v queries q r p.1.0 p.1.1 p.0
answer_same t v queries q r o p e a = subst (λ (x : Bool × (TagTreeRead × Bits)). IsAnswer t v queries q r x.1.0 x.1.1 x.0) e a
