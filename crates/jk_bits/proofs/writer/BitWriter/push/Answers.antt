use Rattle.std.proofs.Common.{◌≡◌, ℕ, ◌+◌, ◌*◌, ◌==◌, Bool, false, List, [], ◌∷◌, ◌++◌, ap, sym, ◌∙◌, subst}
use Rattle.std.specs.Prelude.{is_some}
use Rattle.jk_bits.specs.Stuffing.{room, binary, spread}
use Rattle.jk_bits.specs.Writing.{Written, IsWriting}
use Rattle.jk_bits.proofs.Numbers.{digit}
use Rattle.jk_bits.proofs.Stuffed.{grow_bits, fill, filled, fill_bits}
use Rattle.jk_bits.proofs.writer.BitWriter.push.Goals as goal

pub returns-then-self : goal.returns-then-self
returns-then-self c =
    let s = c.self.inside in (
      sym (ap (λ (w : Written). w.failed) c.self.view_is) ∙ ap is_some c.in_default.is,
      ap (λ d. record { bits = spread false s.bytes.items ++ binary (s.begun + 1) (s.byte * 2 + d); failed = is_some s.refused }) c.digit.ensures
          ∙ ap (λ (bits : List Bool). record { bits = bits; failed = is_some s.refused }) (grow_bits (spread false s.bytes.items) s.byte s.begun c.args.bit)
          ∙ ap (λ (w : Written). record { bits = w.bits ++ c.args.bit ∷ []; failed = w.failed }) c.self.view_is,
    )

pub invariant_of-self-in-Ok : goal.invariant_of-self-in-Ok
invariant_of-self-in-Ok c =
    let s = c.self.inside in
    let full = filled s.bytes.items s.byte s.begun s.room c.args.bit c.self.invariant c.if-self.false in
    let is : c.push.new.self.items ≡ s.bytes.items ++ (s.byte * 2 + digit c.args.bit) ∷ [] = c.in-Ok.ensures.items ∙ ap (λ d. s.bytes.items ++ (s.byte * 2 + d) ∷ []) c.digit.ensures in
    subst (λ (bs : List ℕ). IsWriting bs 0 0 c.room_after-self-inside.result) (sym is)
    (subst (λ n. IsWriting (s.bytes.items ++ (s.byte * 2 + digit c.args.bit) ∷ []) 0 0 n) (sym (c.room_after-self-inside.ensures ∙ ap (λ d. room (s.byte * 2 + d == 255)) c.digit.ensures))
    (fill s.bytes.items s.byte s.begun s.room (s.byte * 2 + digit c.args.bit) c.self.invariant full))

pub returns-in-Ok : goal.returns-in-Ok
returns-in-Ok c =
    let s = c.self.inside in
    let is : c.push.new.self.items ≡ s.bytes.items ++ (s.byte * 2 + digit c.args.bit) ∷ [] = c.in-Ok.ensures.items ∙ ap (λ d. s.bytes.items ++ (s.byte * 2 + d) ∷ []) c.digit.ensures in (
      sym (ap (λ (w : Written). w.failed) c.self.view_is) ∙ ap is_some c.in_default.is,
      ap (λ (bs : List ℕ). record { bits = spread false bs ++ binary 0 0; failed = is_some s.refused }) is
          ∙ ap (λ (bits : List Bool). record { bits = bits; failed = is_some s.refused }) (fill_bits s.bytes.items s.byte s.begun s.room c.args.bit c.self.invariant c.if-self.false)
          ∙ ap (λ (w : Written). record { bits = w.bits ++ c.args.bit ∷ []; failed = w.failed }) c.self.view_is,
    )
