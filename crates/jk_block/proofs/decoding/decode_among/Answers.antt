use Rattle.std.proofs.Common.{◌≡◌, ℤ, List, Result, Ok, Err, sym, ◌∙◌, arith}
use Rattle.std.proofs.lemmas.Result.{err_from_is_err_and}
use Rattle.jk_math.specs.declared.fault.Fault.{Fault}
use Rattle.jk_math.specs.declared.fault.Fault.TheVariants.{Memory}
use Rattle.jk_math.specs.Answer.{Refuses}
use Rattle.jk_math.specs.Memory.{IsMemory}
use Rattle.jk_math.specs.Steps.{done, ok_is}
use Rattle.jk_block.specs.Meaning.{values_of}
use Rattle.jk_block.specs.Reading.{block_at}
use Rattle.jk_block.proofs.Drawing.{unmarked_words}
use Rattle.jk_block.proofs.Meanings.{block_found, block_only, block_refused}
use Rattle.jk_block.proofs.decoding.decode_among.Goals as goal

pub returns-then-passes-saturating_sub-clause-exact : goal.returns-then-passes-saturating_sub-clause-exact
returns-then-passes-saturating_sub-clause-exact g c = block_refused c.args.shape c.args.planes c.args.passes c.args.segment.now (omega arith)

listed : Fault → Result (List ℤ) Fault
listed e = Err e

differ : (vs : List ℤ) (e : Fault) (r : Result (List ℤ) Fault) → r ≡ Ok vs → r ≡ Err e → ⊥
unfolding listed
differ vs e r f g = let h : done vs ≡ listed e = sym f ∙ g in apart vs e h
  where
    apart : (vs : List ℤ) (e : Fault) → done vs ≡ listed e → ⊥
    apart vs e h = cc

-- a fault that isn't due says that memory was refused
only_memory : (vs : List ℤ) (e : Fault) (due : Result (List ℤ) Fault) → due ≡ Ok vs → Refuses e due → IsMemory e
only_memory vs (Memory r) due f g = tt
only_memory vs e due f g = absurd (differ vs e due f g)

pub returns-in_err-values-clause-only : goal.returns-in_err-values-clause-only
returns-in_err-values-clause-only g c = λ q m.
    let p = err_from_is_err_and c.from_residual.result c.from_residual.ensures.1 in
    let s = c.args.shape in
    let e = c.in_err-values.field-0.0 in
    rw (p.1, p.2) (only_memory (values_of s q) e (block_at s c.args.planes c.args.passes c.args.segment.now) (block_only s c.args.planes c.args.passes c.args.segment.now q m) c.in_err-values.ensures.exact)

pub returns-clause-found : goal.returns-clause-found
returns-clause-found g c = block_found c.args.shape c.args.planes c.args.passes c.args.segment.now c.in_ok-values.values.items c.in_ok-values.ensures.exact

pub returns-clause-only : goal.returns-clause-only
returns-clause-only g c = λ q m.
    let exact : block_at c.args.shape c.args.planes c.args.passes c.args.segment.now ≡ done c.in_ok-values.values.items = c.in_ok-values.ensures.exact in
    ok_is c.in_ok-values.values.items (values_of c.args.shape q) (sym exact ∙ block_only c.args.shape c.args.planes c.args.passes c.args.segment.now q m)

pub read_values-requires : goal.read_values-requires
read_values-requires g c =
    let s = c.args.shape in
    record {
      sized = record { wide = c.requires.wide; narrow = c.requires.narrow; high = c.requires.high; low = c.requires.low; area = c.requires.area };
      few = c.requires.planes;
      passes = omega arith;
      unmarked = record {
        significant = unmarked_words s g.row.N c.unmarked-significant.result c.requires.room c.unmarked-significant.ensures;
        negative = unmarked_words s g.row.N c.unmarked-negative.result c.requires.room c.unmarked-negative.ensures;
        visited = unmarked_words s g.row.N c.unmarked-visited.result c.requires.room c.unmarked-visited.ensures;
        even = unmarked_words s g.row.N c.unmarked-even.result c.requires.room c.unmarked-even.ensures;
        odd = unmarked_words s g.row.N c.unmarked-odd.result c.requires.room c.unmarked-odd.ensures;
      };
    }
