use Rattle.std.proofs.Common.{◌≡◌, ℕ, ◌<◌, ◌≤◌, false, List, [], ◌∷◌, ◌++◌, ap, sym, ◌∙◌, subst, arith}
use Rattle.std.specs.Prelude.{is_some}
use Rattle.jk_bits.specs.Stuffing.{binary, spread}
use Rattle.jk_bits.specs.Writing.{Written, Stuffs}
use Rattle.jk_bits.proofs.Stuffed.{finish_none, finish_part, shifted, room_most, IsText, is_text}
use Rattle.jk_bits.proofs.writer.BitWriter.finish.Goals as goal
use Rattle.jk_bits.proofs.writer.BitWriter.finish.Goals.{else-self-eq0-via-then-self-eq0+else-self-eq8, else-self-eq0-via-else-self-eq0}

-- no byte was begun, and none is owed
whole : (c : goal.Then-self-eq8) → IsText c.args.self.bits c.self.inside.bytes.items
whole c =
    let s = c.self.inside in
    let t = finish_none s.bytes.items s.byte s.begun s.room c.self.invariant c.if-self-eq0.true (omega arith) in
    is_text c.args.self.bits s.bytes.items (subst (λ (w : Written). Stuffs false w.bits s.bytes.items) c.self.view_is t)

-- the last byte is padded
padded : (c : goal.In_ok-push) → IsText c.args.self.bits c.push.new.self.items
padded c =
    let s = c.self.inside in
    let most : s.room ≤ 8 = subst (λ k. k ≤ 8) (sym c.self.invariant.many_is) (room_most c.self.invariant.after) in
    let owed : s.begun ≡ 0 → s.room < 8 =
    elim c.else-self-eq0.branch [
      | else-self-eq0-via-then-self-eq0+else-self-eq8 w ↦ λ none. (let other = w.if-self-eq8.false in omega (arith, most, other))
      | else-self-eq0-via-else-self-eq0 w ↦ λ none. absurd (w.if-self-eq0.false none)
    ] in
    let t = finish_part s.bytes.items s.byte s.begun s.room c.self.invariant owed in
    is_text c.args.self.bits c.push.new.self.items
    (subst (λ (w : Written). Stuffs false w.bits c.push.new.self.items) c.self.view_is
    (subst (λ (bs : List ℕ). Stuffs false (spread false s.bytes.items ++ binary s.begun s.byte) bs) (ap (λ b. s.bytes.items ++ b ∷ []) (sym (shifted s.bytes.items s.byte s.begun s.room c.self.invariant)) ∙ sym c.in_ok-push.ensures.items) t))

pub returns-then-self-eq8-clause-exact : goal.returns-then-self-eq8-clause-exact
returns-then-self-eq8-clause-exact c = (sym (ap (λ (w : Written). w.failed) c.self.view_is) ∙ ap is_some c.in_default.is, (whole c).exact)

pub returns-then-self-eq8-clause-packs : goal.returns-then-self-eq8-clause-packs
returns-then-self-eq8-clause-packs c = (whole c).packs

pub returns-then-self-eq8-clause-back : goal.returns-then-self-eq8-clause-back
returns-then-self-eq8-clause-back c = (whole c).back

pub returns-clause-exact : goal.returns-clause-exact
returns-clause-exact c = (sym (ap (λ (w : Written). w.failed) c.self.view_is) ∙ ap is_some c.in_default.is, (padded c).exact)

pub returns-clause-packs : goal.returns-clause-packs
returns-clause-packs c = (padded c).packs

pub returns-clause-back : goal.returns-clause-back
returns-clause-back c = (padded c).back
