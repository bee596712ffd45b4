use Rattle.std.proofs.Common.{List, ℕ, drop, sym, ap, ◌∙◌, arith}
use Rattle.std.proofs.lemmas.List.{take_rest, length-drop}
use Rattle.jk_extras.specs.Profiles.{has_curves}
use Rattle.jk_extras.proofs.Tables.{table_room, restricted_is}
use Rattle.jk_extras.proofs.profiles.is_restricted.Goals as goal

pub has_curves-requires : goal.has_curves-requires
has_curves-requires c =
    let p = c.args.profile.now in
    let room = table_room p (sym c.has_table.ensures ∙ c.if-not-has_table.false) in
    rw (take_rest p 132) (omega (arith, room, length-drop 132 p, c.field.ensures))

pub returns : goal.returns
returns c =
    let p = c.args.profile.now in
    let n = c.args.components in
    let due = restricted_is n p (sym c.has_size.ensures ∙ c.if-not-has_size.false) (sym c.is_known_profile.ensures ∙ c.if-not-is_known_profile.false)
    (sym c.has_space.ensures ∙ c.if-not-has_space.false) (sym c.has_table.ensures ∙ c.if-not-has_table.false) in
    c.has_curves.ensures ∙ ap (λ (x : List ℕ). has_curves n c.field.result x) (take_rest p 132) ∙ ap (λ k. has_curves n k (drop 132 p)) c.field.ensures ∙ sym due
