use Rattle.std.proofs.Common.{◌≡◌, ℕ, Bool, true, List, Result, Ok, Err, refl, sym, subst}
use Rattle.std.specs.Result.{IsErrAnd}
use Rattle.jk_math.specs.declared.fault.Fault.{Fault}
use Rattle.jk_math.specs.Answer.{◌>>=◌, Refuses, Answers}
use Rattle.jk_math.specs.Memory.{IsMemory}
use Rattle.jk_math.specs.Picture.{Picture}
use Rattle.jk_window.specs.Indexing.{IndexFields}
use Rattle.jk_tile.specs.decoding.TileReading.{tested}
use Rattle.jk_code.specs.MeaningReading.{meaning_at}
use Rattle.jk_store.specs.Catalogue.{image_at}
use Rattle.jk_store.specs.Checking.{check_at}
use Rattle.jk_store.proofs.Indexed.{only_memory}
use Rattle.jk_store.proofs.OpenLaws.{fault_is}
use Rattle.jk_store.proofs.checking.judge.Goals as goal

abbrev dropped : Picture → Result (Unit {0}) Fault
dropped p = Ok tt

-- behind the index, what is due is what the code-blocks tell
checked : (blocks : Bool) (bytes : List ℕ) (i : IndexFields) → image_at bytes ≡ Ok i → blocks ≡ true → check_at blocks bytes ≡ (meaning_at bytes 0 >>= dropped)
unfolding check_at
checked blocks bytes i opened is = rw (opened, is) refl

refused_too : (e : Fault) (r : Result Picture Fault) → Refuses e (tested r) → Refuses e (r >>= dropped)
refused_too e (Ok x) h = h
refused_too e (Err d) h = h

answered : (r due : Result (Unit {0}) Fault) (e : Fault) → IsErrAnd r (λ d. d ≡ e) → Refuses e due → Answers (λ (u : Unit {0}). u) r due
answered (Err d) due e same h = subst (λ (x : Fault). Refuses x due) (sym same) h
answered (Ok u) due e same h = absurd same

pub returns-in_err-judge_file-clause-exact : goal.returns-in_err-judge_file-clause-exact
returns-in_err-judge_file-clause-exact c =
    let bytes = c.args.bytes.now in
    let fault = c.in_err-judge_file.field-0.0 in
    let due = checked c.args.blocks bytes _ c.in_ok-image_index.ensures.exact c.if-blocks.true in
    answered c.from_residual-in_err-judge_file.result (check_at c.args.blocks bytes) fault c.from_residual-in_err-judge_file.ensures.1
    (subst (λ (x : Result (Unit {0}) Fault). Refuses fault x) (sym due) (refused_too fault (meaning_at bytes 0) c.in_err-judge_file.ensures.exact))

pub returns-in_err-judge_file-clause-only : goal.returns-in_err-judge_file-clause-only
returns-in_err-judge_file-clause-only c = λ image.
    let means = image.means c.if-blocks.true in
    let fault = c.in_err-judge_file.field-0.0 in
    let refused = c.in_err-judge_file.ensures.only means.0 means.1 in
    let none : Result (Unit {0}) Fault = Ok tt in
    fault_is c.from_residual-in_err-judge_file.result fault c.from_residual-in_err-judge_file.ensures.1 IsMemory (only_memory fault none tt refused refl)
