use Rattle.std.proofs.Common.{◌≡◌, ◌≢◌, ℕ, suc, ◌+◌, ◌-◌, ◌/◌, ◌%◌, ◌∙◌, ap, sym, refl, arith}
use Rattle.jk_math.specs.declared.rect.Rect.{Rect}
use Rattle.jk_geom.specs.Rectangles.{band_area}
use Rattle.jk_math.specs.declared.orientation.Orientation.{Orientation}
use Rattle.jk_math.specs.declared.orientation.Orientation.TheVariants.{LL}
use Rattle.jk_wave.specs.Bands.{numbered_area, high_orientation}
use Rattle.vectors_block.proofs.lift.bands.numbered.Goals as goal
use Rattle.vectors_block.proofs.lift.bands.numbered.Goals.{in-0, in-1, in_default}

lowest : (a : Rect) (levels : ℕ) → numbered_area a levels 0 ≡ band_area a levels 0 LL
unfolding numbered_area
lowest a levels = refl

higher : (a : Rect) (levels b : ℕ) → numbered_area a levels (suc b) ≡ band_area a levels (b / 3 + 1) (high_orientation (b % 3))
unfolding numbered_area
higher a levels b = refl

other : (a : Rect) (levels b n : ℕ) (o : Orientation) → 0 ≢ b → (b - 1) % 3 ≡ n → o ≡ high_orientation n → band_area a levels ((b - 1) / 3 + 1) o ≡ numbered_area a levels b
other a levels b n o some e is =
    ap (band_area a levels ((b - 1) / 3 + 1)) (is ∙ ap high_orientation (sym e)) ∙ sym (higher a levels (b - 1)) ∙ ap (numbered_area a levels) (let f : suc (b - 1) ≡ b = omega arith in f)

pub returns-then-b-eq0-clause-value : goal.returns-then-b-eq0-clause-value
returns-then-b-eq0-clause-value c = c.band.ensures.value ∙ sym (lowest c.args.rect.now c.args.levels) ∙ ap (numbered_area c.args.rect.now c.args.levels) (let e : 0 ≡ c.args.b = omega arith in e)

pub returns-clause-value : goal.returns-clause-value
returns-clause-value c =
    c.band-2.ensures.value ∙ elim c.match-b-rem3.branch [
      | in-0 w ↦ other c.args.rect.now c.args.levels c.args.b 0 _ (omega arith) (omega arith) w.orientation-is
      | in-1 w ↦ other c.args.rect.now c.args.levels c.args.b 1 _ (omega arith) (omega arith) w.orientation-is
      | in_default w ↦ other c.args.rect.now c.args.levels c.args.b 2 _ (omega arith) (omega arith) w.orientation-is
    ]
