use Rattle.std.proofs.Common.{◌≡◌, ◌+◌, List, ℕ, drop, get_or, refl, ap, ◌∙◌, subst, arith}
use Rattle.jk_marks.specs.PartHeads.{part_head_at}
use Rattle.jk_marks.specs.Copying.{part_kept_at}
use Rattle.std.specs.Prelude.{Some}
use Rattle.jk_stored.specs.declared.outline.PartSize.{PartSize}
use Rattle.jk_stored.specs.Contents.{IsContent}
use Rattle.jk_stored.specs.Making.{Made, no_size, data_in}
use Rattle.jk_stored.proofs.MakingLaws.{same_at}
use Rattle.jk_stored.proofs.making.put_part.Goals as goal

pub returns-clause-put : goal.returns-clause-put
returns-clause-put g c =
    let o = c.args.sources.now.outline.now.bytes.items in
    let h = c.args.sources.now.headers.now in
    let w = c.args.sources.now.sight.window in
    let d = c.args.sources.now.sight.reduce in
    let q : PartSize = get_or c.args.sources.now.outline.now.parts.items c.args.tile no_size in
    let bytes : c.deref.result.now ≡ o = c.deref.ensures.value in
    let head = c.in_ok-head.head in
    let put = c.in_ok-put_tile.ensures.put in
    let size : c.index.result.now ≡ q = c.index.ensures ∙ same_at c.args.sources.now.outline.now.parts.items c.args.tile c.index.result.now no_size c.requires.part in
    let m : Made = record { head = head.head; kept = head.segments.items; content = put.0; size = q } in (
      m,
      put.1,
      refl,
      record {
        head = subst (λ (xs : List ℕ). part_head_at (drop c.args.at xs) ≡ Some head.head) bytes c.in_ok-head.ensures.head;
        kept = c.in_ok-head.ensures.kept ∙ ap (λ (xs : List ℕ). part_kept_at (drop c.args.at xs)) bytes;
        tile = c.in_ok-head.ensures.own.0;
        number = c.in_ok-head.ensures.own.1;
        closed = c.in_ok-head.ensures.own.2;
        one = c.in_ok-data.ensures.one;
      },
      λ code keeping long held.
          let place : c.in_ok-data.data ≡ data_in h c.args.tile c.args.at c.args.place q.size = c.in_ok-data.ensures.value ∙ ap (λ (s : PartSize). data_in h c.args.tile c.args.at c.args.place s.size) size in
          subst (λ (p : ℕ × ℕ). IsContent code h w d c.args.tile p put.0) place
          (put.2 code keeping (let e : c.in_ok-data.data.1 ≡ c.args.place + q.size = ap (λ (p : ℕ × ℕ). p.1) place in omega (arith, e, long)) held),
    )
