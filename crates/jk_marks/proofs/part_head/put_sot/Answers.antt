use Rattle.std.proofs.Common.{◌≡◌, [], ◌∷◌, ◌++◌, ◌%◌, sym, arith, ◌∙◌}
use Rattle.std.proofs.Math.Nat.{mod-eq_of_lt}
use Rattle.byteorder.specs.Endian.{big_bytes}
use Rattle.jk_marks.proofs.PartHeadLaws.{two_more}
use Rattle.jk_marks.proofs.part_head.put_sot.Goals as goal

pub returns-clause-ok : goal.returns-clause-ok
returns-clause-ok c =
    let number : c.args.number % 256 ≡ c.args.number = mod-eq_of_lt (omega arith) in
    let total : c.args.total % 256 ≡ c.args.total = mod-eq_of_lt (omega arith) in
    let o = c.args.out.now.items in
    let s1 = c.extend_from_slice.new.self.items in
    let s2 = c.extend_from_slice-2.new.self.items in
    let s3 = c.extend_from_slice-3.new.self.items in
    let s4 = c.extend_from_slice-4.new.self.items in
    let s5 = c.extend_from_slice-5.new.self.items in
    let a = two_more o s1 s2 _ _ c.in_ok-extend_from_slice.ensures.items c.in_ok-extend_from_slice-2.ensures.items in
    let b = two_more o s2 s3 _ _ a c.in_ok-extend_from_slice-3.ensures.items in
    let d = two_more o s3 s4 _ _ b c.in_ok-extend_from_slice-4.ensures.items in
    two_more o s4 s5 _ _ d c.in_ok-extend_from_slice-5.ensures.items
    ∙ (λ i. o ++ (((((255 ∷ 144 ∷ 0 ∷ 10 ∷ []) ++ c.to_be_bytes.ensures i) ++ c.to_be_bytes-2.ensures i) ++ c.to_be_bytes-3.ensures i) ++ c.to_be_bytes-4.ensures i))
    ∙ (λ i. o ++ (((((255 ∷ 144 ∷ 0 ∷ 10 ∷ []) ++ big_bytes 2 c.args.tile) ++ big_bytes 4 c.args.psot) ++ (sym number i ∷ [])) ++ (sym total i ∷ [])))
