use Rattle.std.proofs.Common.{◌+◌, inl, inr, Result, Ok, Err, ap, arith}
use Rattle.std.specs.Prelude.{OnOk}
use Rattle.jk_math.specs.Steps.{answers_same}
use Rattle.jk_tile.specs.decoding.TileReading.{tested}
use Rattle.jk_code.specs.MeaningReading.{meaning_at}
use Rattle.jk_code.proofs.MeaningLaws.{only_meaning}
use Rattle.jk_code.proofs.keeping.judge_file.Goals as goal

on_one : {A E P S : Type 0} (r : Result A E) → (P → S) → OnOk r P → OnOk r S
on_one (Ok x) go p = go p
on_one (Err e) go p = p

pub returns-clause-exact : goal.returns-clause-exact
returns-clause-exact c = elim c.decode_rows.ensures.exact [
  | inl answers ↦ answers
  | inr why ↦ absurd why.4.why
]

pub returns-clause-means : goal.returns-clause-means
returns-clause-means c = on_one c.decode_rows.result (λ t. (t.0, t.1, t.2)) c.decode_rows.ensures.taken

pub returns-clause-only : goal.returns-clause-only
returns-clause-only c =
    λ p m. answers_same (λ (u : Unit {0}). tt) c.decode_rows.result (tested (meaning_at c.args.bytes.now c.args.reduce)) (tested (Ok p)) (returns-clause-exact c)
    (ap tested (only_meaning c.args.bytes.now c.args.reduce p (λ i. omega (arith, c.type_inv.bytes i)) m))
