-- What is held before the next row.
use Rattle.std.proofs.Common.{◌≡◌, ℕ, ◌+◌, ◌-◌, ◌%◌, ◌≤◌, ℤ, refl, ap, arith}
use Rattle.jk_math.specs.declared.rect.Rect.{Rect}
use Rattle.jk_wave.specs.SourceRows.{IsRow}
use Rattle.jk_wave.proofs.ColumnRows.{row_like, high_like}
use Rattle.std.specs.Global.{Vec}
use Rattle.jk_wave.specs.declared.falling.fall.Fall.{Fall}
use Rattle.jk_wave.specs.falling.Intervals.{last_even}
use Rattle.jk_wave.specs.falling.Held.{IsFall}

-- behind an odd row
pub odd_held : (a : Rect) (f : ℕ → ℕ → ℤ) (y : ℕ) (s t : Fall) → y % 2 ≡ 1 → a.y0 ≤ y → t.high ≡ s.high → t.even ≡ s.even → IsRow a (λ x. f x y) t.odd.items → IsFall a f y s → IsFall a f (y + 1) t
odd_held a f y s t odd from high even here fall =
    let last : last_even (y + 1) ≡ last_even y = omega (arith, odd) in
    let same : last_even y ≡ y - 1 = omega (arith, odd) in
    record {
      even = λ _ far. row_like a f (last_even y) (last_even (y + 1)) s.even.items t.even.items last (ap (λ (v : Vec ℤ). v.items) even) (fall.even (omega (arith, far, last, same, odd)) (omega (arith, far, last)));
      odd = λ _ _. row_like a f y (y + 1 - 1) t.odd.items t.odd.items (let e : y + 1 - 1 ≡ y = omega arith in e) refl here;
      high = λ far. high_like a f (last_even y - 1) (last_even (y + 1) - 1) s.high.items t.high.items (ap (λ n. n - 1) last) (ap (λ (v : Vec ℤ). v.items) high) (fall.high (omega (arith, far, last)));
    }
