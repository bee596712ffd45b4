use Rattle.std.proofs.Common.{◌++◌, ◌∷◌, [], ◌+◌, ◌-◌, List, ℕ, sym, ap, ◌∙◌, replicate}
use Rattle.std.specs.List.{concat}
use Rattle.jk_marks.specs.Siz.{component_text}
use Rattle.jk_marks.proofs.Appending.{front_then, front_more}
use Rattle.jk_marks.proofs.Copies.{copies_more, copies_all}
use Rattle.jk_marks.proofs.write.put_components.Goals as goal

pub loop-preserved : goal.loop-preserved
loop-preserved c =
    let text = component_text c.args.siz.now in
    let n = c.args.siz.now.components in
    let grown = c.in_ok-extend_from_slice.ensures.items ∙ ap (λ k. c.loop.out.items ++ k ∷ 1 ∷ 1 ∷ []) c.depth_byte-depth.ensures in
    record {
      text = ap (λ (x : List ℕ). x ++ concat (replicate (n - (c.loop.counter + 1)) text)) grown ∙ copies_more c.loop.out.items text n c.loop.counter c.loop-test.true ∙ c.loop.invariant.text;
      front = front_then c.loop.invariant.front (front_more c.loop.out.items text c.extend_from_slice.new.self.items grown);
    }

pub returns-clause-ok : goal.returns-clause-ok
returns-clause-ok c = sym (copies_all c.loop.out.items (component_text c.args.siz.now) c.args.siz.now.components c.loop.counter c.loop-test.false) ∙ c.loop.invariant.text
