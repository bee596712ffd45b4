use Rattle.std.proofs.Common.{◌≡◌, ◌+◌, ◌-◌, ap, ◌∙◌, arith}
use Rattle.std.specs.Int.Count.{count_leading_zeros}
use Rattle.jk_math.specs.BitLength.{bit_length}
use Rattle.jk_math.proofs.Laws.{bit_length_zeros}
use Rattle.jk_packet.specs.Written.{least_growth}
use Rattle.jk_packet.proofs.wording.least_growth.Goals as goal

pub returns : goal.returns
unfolding least_growth
returns c =
    let digits : 32 - count_leading_zeros 32 c.args.size ≡ bit_length c.args.size = bit_length_zeros c.args.size (omega arith) in
    c.saturating_sub.ensures
    ∙ ap (λ n. n - (c.args.length_bits + c.floor_log2.result)) digits
    ∙ ap (λ n. bit_length c.args.size - (c.args.length_bits + n)) c.floor_log2.ensures.exact
