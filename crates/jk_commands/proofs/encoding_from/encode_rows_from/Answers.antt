use Rattle.std.proofs.Common.{[], refl, subst, ◌∙◌, inl, inr, rules}
use Rattle.std.specs.Io.KnownBytes.{Consumes, IsAtEnd}
use Rattle.jk_math.proofs.Laws.{appends_none}
use Rattle.jk_commands.proofs.LeftLaws.{on_ok}
use Rattle.jk_commands.proofs.StreamEndLaws.{all_consumed}
use Rattle.jk_commands.proofs.encoding_from.encode_rows_from.Goals as goal

pub returns-in-Err-clause-part : goal.returns-in-Err-clause-part
returns-in-Err-clause-part g c some few = ([], appends_none (g.W.Write.contents c.args.writer.now), inr (c.fault.result, refl, c.fault.ensures.kind, refl))

pub returns-clause-ok : goal.returns-clause-ok
returns-clause-ok g c =
    let left = g.S.Read.remaining in
    let a = c.new-incoming.result in
    let b = c.encode_to_end-told.new.incoming in
    on_ok c.encode_to_end-told.result (λ t.
    let same = t.1.took.same ∙ c.new-incoming.ensures.same_reference in
    let consumed = subst (λ o. Consumes (left o) (left b.source.now) t.0) c.new-incoming.ensures.source (all_consumed left a b t.0 c.new-incoming.ensures.none t.1) in
    let ended : IsAtEnd (left b.source.now) = t.1.ended in
    (t.0, (search rules), (search rules), t.2, t.3, t.4, t.5)) c.encode_to_end-told.ensures.ok

pub returns-clause-part : goal.returns-clause-part
returns-clause-part g c some few =
    let left = g.S.Read.remaining in
    let b = c.encode_to_end-told.new.incoming in
    let wrote = c.encode_to_end-told.ensures.part in (
      wrote.0,
      wrote.1,
      elim wrote.2 [
        | inl h ↦
            let same = h.1 ∙ c.new-incoming.ensures.same_reference in
            let consumed = subst (λ o. Consumes (left o) (left b.source.now) h.0) c.new-incoming.ensures.source h.2 in
            let ended : IsAtEnd (left b.source.now) = h.3 in
            inl (h.0, (search rules), (search rules), h.4)
        | inr h ↦ inr h
      ],
    )
