use Rattle.std.proofs.Common.{◌≡◌, ℕ, ◌<◌, ◌≤◌, [], ◌++◌, length, get_or}
use Rattle.jk_code.specs.Tiles.{plane_in}
use Rattle.jk_code.proofs.keeping.append.Given as goal

abbrev pub invariant-loop-c : goal.invariant-loop-c
invariant-loop-c l = record {
  end_is : l.c-end ≡ length l.fn.planes.items;
  count : length l.planes.items ≡ length l.fn.planes.items;
  done : (c : ℕ) → c < l.c → plane_in l.planes.items c ≡ plane_in l.fn.planes.items c ++ get_or l.stripe c [];
  left : (c : ℕ) → l.c ≤ c → plane_in l.planes.items c ≡ plane_in l.fn.planes.items c;
}
