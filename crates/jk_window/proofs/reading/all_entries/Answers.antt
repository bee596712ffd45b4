use Rattle.std.proofs.Common.{◌≡◌, ◌<◌, Ok, sym, ap, ◌∙◌, List, subst, arith}
use Rattle.std.proofs.lemmas.Result.{err_from_is_err_and}
use Rattle.jk_marks.specs.Siz.{tile_count}
use Rattle.jk_walk.specs.declared.entries.PacketEntry.{PacketEntry}
use Rattle.jk_walk.specs.Entries.{entries_at}
use Rattle.jk_window.specs.Indexing.{entries_upto}
use Rattle.jk_window.proofs.IndexLaws.{upto_none, upto_more, upto_fails, entries_indexed, refuses_on}
use Rattle.jk_window.proofs.reading.all_entries.Goals as goal

pub loop-number-init : goal.loop-number-init
loop-number-init c = record {
  end_is = c.tile_count-number-end.ensures ∙ c.requires.tiles;
  upto = upto_none c.args.bytes.now c.args.headers.now ∙ ap (λ (es : List (List PacketEntry)). Ok es) (sym c.in_ok-all.ensures.items);
}

pub returns-in_err-entries-clause-exact : goal.returns-in_err-entries-clause-exact
returns-in_err-entries-clause-exact c =
    let bytes = c.args.bytes.now in
    let h = c.args.headers.now in
    let n = c.loop-number.number in
    let e = c.in_err-entries.field-0.0 in
    let q = err_from_is_err_and c.from_residual-in_err-entries.result c.from_residual-in_err-entries.ensures.1 in
    let lt : n < tile_count h.siz = omega (arith, c.loop-number-test.true, c.loop-number.invariant.end_is) in
    rw (q.1, q.2) (refuses_on e (entries_at bytes h n) _ c.in_err-entries.ensures.exact (upto_fails bytes h (tile_count h.siz) n e c.loop-number.all.items lt c.loop-number.invariant.upto))

pub loop-number-preserved : goal.loop-number-preserved
loop-number-preserved c = record {
  end_is = c.loop-number.invariant.end_is;
  upto =
      upto_more c.args.bytes.now c.args.headers.now c.loop-number.number c.loop-number.all.items c.in_ok-pack.field-0 c.loop-number.invariant.upto
      (c.in_ok-entries.ensures.exact ∙ ap (λ (es : List PacketEntry). Ok es) (sym (c.in_ok-pack.ensures.value ∙ c.as_slice.ensures)))
      ∙ ap (λ (es : List (List PacketEntry)). Ok es) (sym c.in_ok-push.ensures.items);
}

pub returns-clause-within : goal.returns-clause-within
returns-clause-within c =
    let bytes = c.args.bytes.now in
    let h = c.args.headers.now in
    let same : c.loop-number.number ≡ tile_count h.siz = omega (arith, c.loop-number-test.false, c.loop-number.invariant.end_is) in
    entries_indexed bytes h c.loop-number.all.items c.requires (subst (λ n. entries_upto bytes h n ≡ Ok c.loop-number.all.items) same c.loop-number.invariant.upto)
