use Rattle.jk_wave.proofs.Synthesis.{size_below}
use Rattle.std.proofs.Common.{ℤ, pos, ◌^◌, ℕ, ◌∙◌, sym, refl, arith}
use Rattle.jk_wave.proofs.falling.Stacked.{first_fallen, none_reduced}
use Rattle.jk_wave.proofs.falling.stack.Falling.new.Goals as goal

pub returns-clause-given : goal.returns-clause-given
returns-clause-given c f = record {
  area = c.requires.area;
  few = c.requires.levels;
  upper = omega arith;
  lower = c.requires.area.upper;
  at = c.in_ok-first_levels.ensures.at f;
}

pub returns-clause-none : goal.returns-clause-none
returns-clause-none c f =
    let rect = c.args.rect.now in
    let levels : ℕ = c.args.levels in
    record {
      high = λ n o other less some few. c.in_ok-first_levels.ensures.none n o other less few ∙ sym (first_fallen rect levels rect.y0 n o f);
      low = c.new.ensures.items ∙ sym (none_reduced rect levels rect.y0 rect.y0 levels f refl);
    }

pub returns-clause-standing : goal.returns-clause-standing
returns-clause-standing c =
    let zeros : ℕ → ℕ → ℤ = λ _ _. pos 0 in
    (zeros, (λ x y h. size_below (2 ^ 17) (pos 0) (omega arith)), returns-clause-given c zeros)
