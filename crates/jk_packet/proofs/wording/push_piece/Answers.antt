use Rattle.std.proofs.Common.{◌≡◌, ◌+◌, ◌++◌, [], ◌∷◌, false, true, Bool, List, replicate, ap, ◌∙◌}
use Rattle.jk_bits.specs.Stuffing.{binary}
use Rattle.jk_bits.specs.Writing.{Written}
use Rattle.jk_packet.specs.Words.{width, pass_code, piece_bits}
use Rattle.jk_packet.proofs.Wordings.{piece_by}
use Rattle.jk_packet.proofs.wording.push_piece.Goals as goal

pub returns : goal.returns
returns c =
    let w = c.args.writer.now in
    let p = c.args.piece in
    let l = c.args.length_bits in
    let a = c.push_pass_count.new.writer in
    let b = c.push_ones.new.writer in
    let d = c.push.new.self in
    let first : a ≡ record w { bits = w.bits ++ pass_code p.passes } = c.in_ok-push_pass_count.ensures in
    let second : b ≡ record a { bits = a.bits ++ replicate p.growth true } = c.in_ok-push_ones.ensures in
    let third : d ≡ record b { bits = b.bits ++ false ∷ [] } = c.in_ok-push.ensures.1 in
    c.in_ok-push_number.ensures
    ∙ ap (λ n. record d { bits = d.bits ++ binary (l + p.growth + n) p.length }) c.floor_log2.ensures.exact
    ∙ ap (λ (x : Written). record x { bits = x.bits ++ binary (width l p) p.length }) third
    ∙ ap (λ (bs : List Bool). record { bits = bs; failed = b.failed }) (piece_by l p w.bits a.bits b.bits (ap (λ (x : Written). x.bits) first) (ap (λ (x : Written). x.bits) second))
    ∙ ap (λ (f : Bool). record { bits = w.bits ++ piece_bits l p; failed = f }) (ap (λ (x : Written). x.failed) second ∙ ap (λ (x : Written). x.failed) first)
