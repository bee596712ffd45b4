use Rattle.std.proofs.Common.{ℕ, List, length, take, drop, ap, ◌∙◌, false}
use Rattle.jk_bits.specs.Stuffing.{spread}
use Rattle.jk_bits.proofs.Texts.{reads_back}
use Rattle.jk_bits.proofs.Registers.{start, read_start}
use Rattle.jk_bits.proofs.reader.BitReader.new.Goals as goal

pub invariant_of-result : goal.invariant_of-result
invariant_of-result c = start c.args.bytes.now

pub returns-clause-made : goal.returns-clause-made
returns-clause-made c = ap (λ n. record { bytes = c.args.bytes.now; read = n; failed = false }) (read_start c.args.bytes.now)

pub returns-clause-texts : goal.returns-clause-texts
returns-clause-texts c = λ bits text rest e p.
    ap (λ n. take (length bits) (drop n (spread false c.args.bytes.now))) (read_start c.args.bytes.now)
    ∙ ap (λ (bs : List ℕ). take (length bits) (spread false bs)) e
    ∙ (reads_back false bits text rest p).bits_back
