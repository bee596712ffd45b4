use Rattle.std.proofs.Common.{◌≡◌, suc, ◌+◌, ◌-◌, ◌<◌, ◌≤◌, max, Bool, List, [], length, set, sym, ◌∙◌, ap, subst, arith}
use Rattle.std.proofs.lemmas.List.{append-nil, get_or_read, length-set}
use Rattle.std.proofs.lemmas.Result.{err_from_is_err_and}
use Rattle.jk_tree.specs.TagTree.{Shape, Query, top, column, row, node_number, start, count}
use Rattle.jk_tree.specs.Telling.{speaker_at}
use Rattle.jk_tree.proofs.Speeches.{HalfSpoken, begin, done, speak_level}
use Rattle.jk_tree.proofs.Moving.{grows_on, fails_on}
use Rattle.jk_tree.proofs.write.tell_way.Goals as goal

pub loop-level-init : goal.loop-level-init
loop-level-init c =
    let s : Shape = record { width = c.args.levels.width; height = c.args.levels.height } in
    let q : Query = record { leaf = c.args.leaf; threshold = c.args.threshold } in
    record {
      from = (let n = c.len-start.ensures in let o = c.args.nodes.now.ok.0 in let l = c.requires.long in let e : count s ≡ start s (c.args.levels.root + 1) = ap (λ k. start s (k + 1)) (sym c.requires.root) in omega (arith, n, o, l, e));
      within = omega arith;
      long = c.requires.long;
      grown = ([], ap (λ (bits : List Bool). record { bits = bits; failed = c.args.writer.now.failed }) (sym (append-nil c.args.writer.now.bits)));
      spoken = λ v queries sp.
          subst (λ k. HalfSpoken s v queries q k 0 c.args.nodes.now.items c.args.writer.now c.args.writer.now) (let r = c.requires.root in let e : suc (top s) ≡ c.args.levels.root + 1 = omega (arith, r) in e)
          (begin s v queries q c.args.nodes.now.items c.args.writer.now c.requires.leaf c.requires.long sp);
    }

pub loop-level-preserved : goal.loop-level-preserved
loop-level-preserved c =
    let s : Shape = record { width = c.args.levels.width; height = c.args.levels.height } in
    let q : Query = record { leaf = c.args.leaf; threshold = c.args.threshold } in
    let i = c.loop-level.level - 1 in
    let items = c.loop-level.nodes.items in
    let node = c.index-node.result.now in
    let last : c.loop-level.level ≡ suc i = (let t = c.loop-level-test.true in omega (arith, t)) in
    let here = c.node_over-from.ensures in
    let within : c.node_over-from.result.1 < length items = (let a = here.within in let b = c.loop-level.invariant.long in omega (arith, a, b)) in
    let node_is : node ≡ speaker_at items (node_number s i (column s c.args.leaf i) (row s c.args.leaf i)) =
    get_or_read items c.node_over-from.result.1 node within c.index-node.ensures _ ∙ ap (speaker_at items) here.place in
    let in_tree : i ≤ top s = (let w = c.loop-level.invariant.within in let r = c.requires.root in let t = c.loop-level-test.true in omega (arith, w, r, t)) in
    record {
      from = here.start;
      within = (let w = c.loop-level.invariant.within in omega (arith, w));
      long = length-set items c.node_over-from.result.1 _ ∙ c.loop-level.invariant.long;
      grown = grows_on c.args.writer.now c.loop-level.writer c.speak.new.writer c.loop-level.invariant.grown c.in_ok-speak.ensures.on;
      spoken = λ v queries sp.
          let h = subst (λ k. HalfSpoken s v queries q k c.loop-level.over items c.args.writer.now c.loop-level.writer) last (c.loop-level.invariant.spoken v queries sp) in
          let t = speak_level s v queries q i c.loop-level.over items c.args.writer.now c.loop-level.writer c.speak.new.writer node c.requires.leaf in_tree h node_is c.in_ok-speak.ensures.told in
          subst (λ m. HalfSpoken s v queries q i node.value (set items c.node_over-from.result.1 (record { value = node.value; told = m })) c.args.writer.now c.speak.new.writer) (sym c.max.ensures)
          (subst (λ p. HalfSpoken s v queries q i node.value (set items p (record { value = node.value; told = max node.told c.args.threshold })) c.args.writer.now c.speak.new.writer) (sym here.place) t);
    }

pub returns-in_err-speak-clause-fails : goal.returns-in_err-speak-clause-fails
returns-in_err-speak-clause-fails c =
    let p = err_from_is_err_and c.from_residual.result c.from_residual.ensures.1 in
    rw p.1 (fails_on c.args.writer.now c.loop-level.writer c.speak.new.writer c.loop-level.invariant.grown c.in_err-speak.ensures.on)

pub returns-clause-told : goal.returns-clause-told
returns-clause-told c = λ v queries sp.
    let s : Shape = record { width = c.args.levels.width; height = c.args.levels.height } in
    let q : Query = record { leaf = c.args.leaf; threshold = c.args.threshold } in
    let none : c.loop-level.level ≡ 0 = (let t = c.loop-level-test.false in omega (arith, t)) in
    done s v queries q c.loop-level.over c.loop-level.nodes.items c.args.writer.now c.loop-level.writer c.requires.leaf
    (subst (λ k. HalfSpoken s v queries q k c.loop-level.over c.loop-level.nodes.items c.args.writer.now c.loop-level.writer) none (c.loop-level.invariant.spoken v queries sp))
