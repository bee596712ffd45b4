use Rattle.std.proofs.Common.{◌≡◌, ℕ, ◌-◌, ◌≤◌, List, ◌++◌, take, drop, refl, sym, ap, ◌∙◌, arith, append_assoc}
use Rattle.std.proofs.lemmas.List.{length-take-le}
use Rattle.byteorder.specs.Endian.{big_bytes}
use Rattle.jk_stored.specs.Outlines.{Front, shortened}
use Rattle.jk_stored.proofs.FrontLaws.{front_of, front_text, front_is}
use Rattle.jk_stored.proofs.outline.put_front.Goals as goal

pub returns-clause-front : goal.returns-clause-front
returns-clause-front g c =
    let room = c.read_at.new.room in
    let held = c.min-held.result in
    let psot = c.psot-size_told.result in
    let f : Front = front_of room held psot in
    let least = c.min-held.ensures in
    let count = c.in_ok-count.ensures.most in
    let long : 14 ≤ c.in_ok-count.count = omega (arith, c.if-count-lt14.false) in
    let some : 14 ≤ psot = omega (arith, c.if-size_told-lt14.false) in
    let old = c.args.bytes.now.items in
    let end = take (held - 10) (drop 10 room) in
    let text : c.extend_from_slice-3.new.self.items ≡ old ++ shortened f =
    c.in_ok-extend_from_slice-3.ensures.items
    ∙ ap (λ (xs : List ℕ). xs ++ end) (c.in_ok-extend_from_slice-2.ensures.items ∙ ap (λ (xs : List ℕ). xs ++ c.to_be_bytes.result) c.in_ok-extend_from_slice.ensures.items ∙ ap (λ (ys : List ℕ). (old ++ take 6 room) ++ ys) c.to_be_bytes.ensures)
    ∙ append_assoc (old ++ take 6 room) (big_bytes 4 held) end
    ∙ append_assoc old (take 6 room) (big_bytes 4 held ++ end)
    ∙ ap (λ (xs : List ℕ). old ++ xs) (sym (front_text room held psot (omega (arith, least, long, some)) (omega (arith, least, count)))) in (
      f,
      text,
      sym (length-take-le held room (omega (arith, least, count))),
      refl,
      λ code keeping whole.
          front_is code room c.args.at c.args.size c.in_ok-count.count psot held (c.in_ok-count.ensures.same code keeping) (omega (arith, count)) long c.psot-size_told.ensures some (omega (arith, c.if-size_told-size.false)) c.requires
          (omega (arith, c.psot-size_told.type_inv)) least whole,
    )
