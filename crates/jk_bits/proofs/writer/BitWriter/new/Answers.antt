use Rattle.std.proofs.Common.{ℕ, List, ◌++◌, ap, sym, subst, false}
use Rattle.jk_bits.specs.Stuffing.{binary, spread}
use Rattle.jk_bits.specs.Writing.{IsWriting}
use Rattle.jk_bits.proofs.Stuffed.{begin}
use Rattle.jk_bits.proofs.writer.BitWriter.new.Goals as goal

pub invariant_of-result : goal.invariant_of-result
invariant_of-result c = subst (λ (bs : List ℕ). IsWriting bs 0 0 8) (sym c.new.ensures.items) begin

pub returns : goal.returns
unfolding binary spread
returns c = ap (λ (bs : List ℕ). record { bits = spread false bs ++ binary 0 0; failed = false }) c.new.ensures.items
