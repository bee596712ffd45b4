use Rattle.std.proofs.Common.{◌≡◌, ◌^◌, ◌<◌, ℕ, ℤ, List, Result, Ok, Err, IfOk, IfErr, length, get_or, unsigned_abs, sym, ap, ◌∙◌, subst, arith}
use Rattle.std.specs.Global.{Vec}
use Rattle.std.proofs.lemmas.Result.{err_from_is_err_and}
use Rattle.jk_math.specs.declared.fault.Fault.{Fault}
use Rattle.jk_math.specs.declared.fault.Fault.TheVariants.{Memory}
use Rattle.jk_math.specs.Answer.{Answers, Refuses}
use Rattle.jk_math.specs.Memory.{IsMemory}
use Rattle.jk_math.specs.Steps.{done, if_ok, refuses_due}
use Rattle.jk_model.specs.Decisions.{initial}
use Rattle.jk_scan.specs.declared.shape.BlockShape.{BlockShape}
use Rattle.jk_block.specs.Fields.{AreUnmarked}
use Rattle.jk_block.specs.Meaning.{values_of}
use Rattle.jk_block.specs.Reading.{Progress, coefficients, block_at}
use Rattle.jk_block.specs.decoding.BlockStates.{draft_of, progress}
use Rattle.jk_block.proofs.decoding.Taking.{from_blank}
use Rattle.jk_block.proofs.Meanings.{block_is, block_faults, values_small, passes_small}
use Rattle.jk_block.proofs.decoding.read_values.Goals as goal

refused : Fault → Result Progress Fault
refused e = Err e

pub returns-in_err-read_passes-clause-exact : goal.returns-in_err-read_passes-clause-exact
unfolding refused
returns-in_err-read_passes-clause-exact c =
    let p = err_from_is_err_and c.from_residual-in_err-read_passes.result c.from_residual-in_err-read_passes.ensures.1 in
    let k = draft_of c.new-block_state.result in
    let s = c.args.shape in
    let planes = c.args.planes in
    let bytes = c.args.segment.now in
    let e = c.in_err-read_passes.field-0.0 in
    let a = c.in_err-read_passes.ensures.takes initial c.new-decoder.ensures.stands in
    let is = block_faults s planes c.args.passes bytes e (omega arith) (from_blank bytes c.new-decoder.result.bytes s planes c.args.passes k (refused e) c.new-decoder.ensures.bytes c.new-block_state.ensures.shape c.new-block_state.ensures.blank a) in
    rw (p.1, p.2) (refuses_due e (block_at s planes c.args.passes bytes) is)

-- values that are due are an answer, and so is a refusal of memory
values_answer : (r : Result (Vec ℤ) Fault) (due : Result (List ℤ) Fault) (vs : List ℤ) → IfOk r (λ v. v.items ≡ vs) → IfErr r (λ e. IsMemory e) → due ≡ Ok vs → Answers (λ v. v.items) r due
values_answer (Ok v) due vs made err e = e ∙ ap Ok (sym made)
values_answer (Err d) due vs made err e = memory_refuses d due err
  where
    memory_refuses : (d : Fault) (due : Result (List ℤ) Fault) → IsMemory d → Refuses d due
    memory_refuses (Memory r) due h = tt
    memory_refuses d due h = absurd h

pub returns-clause-exact : goal.returns-clause-exact
returns-clause-exact c =
    let k = draft_of c.new-block_state.result in
    let s = c.args.shape in
    let planes = c.args.planes in
    let bytes = c.args.segment.now in
    let a = c.in_ok-read_passes.ensures.takes initial c.new-decoder.ensures.stands in
    let z = progress (draft_of c.read_passes.new.block_state) a.next in
    let is = from_blank bytes c.new-decoder.result.bytes s planes c.args.passes k (done z) c.new-decoder.ensures.bytes c.new-block_state.ensures.shape c.new-block_state.ensures.blank a.is in
    values_answer c.values.result (block_at s planes c.args.passes bytes) (values_of (draft_of c.read_passes.new.block_state).shape (coefficients z)) (c.values.ensures.values a.next) c.values.ensures.memory
    (block_is s planes c.args.passes bytes z (omega arith) is ∙ ap (λ (s : BlockShape). done (values_of s (coefficients z))) (sym (c.in_ok-read_passes.ensures.shape ∙ c.new-block_state.ensures.shape)))

pub returns-clause-small : goal.returns-clause-small
returns-clause-small c =
    let k = draft_of c.new-block_state.result in
    let s = c.args.shape in
    let planes = c.args.planes in
    let bytes = c.args.segment.now in
    let a = c.in_ok-read_passes.ensures.takes initial c.new-decoder.ensures.stands in
    let z = progress (draft_of c.read_passes.new.block_state) a.next in
    let is = from_blank bytes c.new-decoder.result.bytes s planes c.args.passes k (done z) c.new-decoder.ensures.bytes c.new-block_state.ensures.shape c.new-block_state.ensures.blank a.is in
    if_ok c.values.result
    (λ v e.
    let items : v.items ≡ values_of s (coefficients z) = e ∙ ap (λ (s : BlockShape). values_of s (coefficients z)) (c.in_ok-read_passes.ensures.shape ∙ c.new-block_state.ensures.shape) in
    subst (λ (vs : List ℤ). (k : ℕ) (d : ℤ) → k < length vs → unsigned_abs (get_or vs k d) < 2 ^ planes) (sym items)
    (λ k d l. values_small s z (2 ^ planes) k d (passes_small bytes s planes c.args.passes z (omega arith) is) l))
    (c.values.ensures.values a.next)

pub new-block_state-requires : goal.new-block_state-requires
new-block_state-requires c =
    let words = c.requires.unmarked in
    record {
      sized = c.requires.sized;
      few = c.requires.few;
      bits = c.in_ok-bits.ensures.items;
      significant = words.significant;
      negative = words.negative;
      visited = words.visited;
    }

pub read_passes-requires-clause-unaged : goal.read_passes-requires-clause-unaged
read_passes-requires-clause-unaged c =
    let k = c.new-block_state.result in
    let ages = c.new-ages.result in
    let words = c.requires.unmarked in
    let same = c.new-block_state.ensures.shape in
    record {
      refined = subst (λ (ws : List ℕ). AreUnmarked k.shape ws) (sym c.new-ages.ensures.refined) (subst (λ (s : BlockShape). AreUnmarked s c.args.words.even.now) (sym same) words.even);
      older = subst (λ (ws : List ℕ). AreUnmarked k.shape ws) (sym c.new-ages.ensures.older) (subst (λ (s : BlockShape). AreUnmarked s c.args.words.odd.now) (sym same) words.odd);
    }
