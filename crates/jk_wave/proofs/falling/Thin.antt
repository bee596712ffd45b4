-- A rectangle without columns: nothing is held, and nothing is handed out.
use Rattle.std.proofs.Common.{◌≡◌, ℕ, zero, suc, ◌*◌, ◌%◌, ◌<◌, ◌++◌, List, [], length, ℤ, refl, sym, ◌∙◌, ap, arith}
use Rattle.std.proofs.lemmas.List.{append-nil}
use Rattle.jk_math.specs.declared.rect.Rect.{Rect}
use Rattle.jk_math.specs.Raster.{rows_of, columns_of, raster}
use Rattle.jk_math.proofs.Laws.{raster_is}
use Rattle.std.specs.Global.{Vec}
use Rattle.jk_wave.specs.declared.parts.LevelParts.{LevelParts}
use Rattle.jk_wave.specs.Levels.{half_bound, part_of, part_list}
use Rattle.jk_wave.specs.SourceRows.{IsRow}
use Rattle.jk_wave.specs.declared.falling.fall.Fall.{Fall}
use Rattle.jk_wave.specs.falling.Held.{HoldsFall, IsFall, half_rows, GivesRows}

thin_row : (a : Rect) (g : ℕ → ℤ) (row : List ℤ) → a.x0 ≡ a.x1 → length row ≡ columns_of a → IsRow a g row
thin_row a g row thin long = record { long = long; each = λ k lt. absurd (omega (arith, lt, thin)) }

pub thin_held : (a : Rect) (f : ℕ → ℕ → ℤ) (y : ℕ) (s : Fall) → a.x0 ≡ a.x1 → HoldsFall a s → IsFall a f y s
thin_held a f y s thin held = record {
  even = λ _ _. thin_row a _ s.even.items thin held.even_long;
  odd = λ _ _. thin_row a _ s.odd.items thin held.odd_long;
  high = λ _. thin_row a _ s.high.items thin held.high_long;
}

thin_raster : (a : Rect) (g : ℕ → ℕ → ℤ) → a.x0 ≡ a.x1 → [] ≡ raster a g
thin_raster a g thin =
    let none : columns_of a ≡ 0 = omega (arith, thin) in
    raster_is a [] g ((let e : 0 ≡ rows_of a * 0 = omega arith in e) ∙ ap (λ n. rows_of a * n) (sym none)) (λ x y h. let l = h.left in let r = h.right in absurd (omega (arith, l, r, thin)))

pub thin_gives : (a : Rect) (f : ℕ → ℕ → ℤ) (p q : ℕ) (parts : LevelParts) → a.x0 ≡ a.x1 → GivesRows a f p q parts parts
thin_gives a f p q parts thin o few =
    sym (ap (λ l. part_list parts o ++ l) (sym (thin_raster (half_rows a p q o) (part_of a f o) (ap (λ n. half_bound n (o % 2)) thin))) ∙ append-nil (part_list parts o))

-- the parts whose low one was taken
pub kept_bands : (ll : Vec ℤ) (parts : LevelParts) (o : ℕ) → 0 < o → part_list (record { ll = ll; hl = parts.hl; lh = parts.lh; hh = parts.hh }) o ≡ part_list parts o
kept_bands ll parts zero some = absurd (omega arith)
kept_bands ll parts (suc zero) some = refl
kept_bands ll parts (suc (suc zero)) some = refl
kept_bands ll parts (suc (suc (suc o))) some = refl

-- parts without rows of a sub-band
pub none_kept : (parts : LevelParts) (o : ℕ) → 0 < o → parts.hl.items ≡ [] → parts.lh.items ≡ [] → parts.hh.items ≡ [] → part_list parts o ≡ []
none_kept parts zero some hl lh hh = absurd (omega arith)
none_kept parts (suc zero) some hl lh hh = hl
none_kept parts (suc (suc zero)) some hl lh hh = lh
none_kept parts (suc (suc (suc o))) some hl lh hh = hh
