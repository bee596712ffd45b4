use Rattle.std.proofs.Common.{◌≡◌, ◌+◌, ◌<◌, ◌≤◌, ◌++◌, ◌∷◌, List, [], ℕ, length, length-append, refl, sym, ap, ◌∙◌, subst, arith, append_assoc, append-nil}
use Rattle.std.specs.List.{flat_map}
use Rattle.std.proofs.lemmas.List.{take_all}
use Rattle.jk_marks.specs.Markers.{eoc, marker_text}
use Rattle.jk_marks.specs.Copying.{main_kept_at}
use Rattle.jk_stored.specs.declared.outline.PartSize.{PartSize}
use Rattle.jk_stored.specs.Making.{made_text, no_size, IsMade, Shows}
use Rattle.jk_stored.proofs.MakingLaws.{MadeUpto, same_at, made_push, made_all, made_texts, sizes_push}
use Rattle.jk_stored.proofs.making.make.Goals as goal

pub loop-tile-init : goal.loop-tile-init
loop-tile-init g c =
    let o = c.args.sources.now.outline.now.bytes.items in
    let bytes : c.deref.result.now ≡ o = c.deref.ensures.value in
    let kept : c.copy_main.new.out.items ≡ main_kept_at o =
    (c.in_ok-copy_main.ensures.exact (subst (λ (xs : List ℕ). 2 ≤ length xs) (sym bytes) c.requires.long)).1
    ∙ ap (λ (xs : List ℕ). xs ++ main_kept_at c.deref.result.now) c.new-out.ensures.items
    ∙ ap main_kept_at bytes in (
      [],
      kept ∙ sym (append-nil (main_kept_at o)),
      refl,
      refl,
      (refl, refl, refl),
      λ code keeping held. held,
      λ code keeping whole held. (refl, refl, refl),
    )

pub loop-tile-preserved : goal.loop-tile-preserved
loop-tile-preserved g c =
    let o = c.args.sources.now.outline.now in
    let h = c.args.sources.now.headers.now in
    let sight = c.args.sources.now.sight in
    let inv = c.loop-tile.invariant in
    let t = c.loop-tile.tile in
    let put = c.in_ok-put_part.ensures.put in
    let m = put.0 in
    let lt : t < length o.parts.items = omega (arith, c.loop-tile-test.true, c.if-len-count.false, c.len.ensures) in
    let size : c.index-part.result.now ≡ m.size = c.index-part.ensures ∙ same_at o.parts.items t c.index-part.result.now no_size lt ∙ sym put.2 in
    let at : c.loop-tile.at + m.size.held ≡ c.loop-tile.at + c.index-part.result.now.held = ap (λ (s : PartSize). c.loop-tile.at + s.held) (sym size) in
    let place : c.loop-tile.place + m.size.size ≡ c.loop-tile.place + c.index-part.result.now.size = ap (λ (s : PartSize). c.loop-tile.place + s.size) (sym size) in
    let own = ap (λ (s : PartSize). s.size) size in
    let fits : c.loop-tile.place + m.size.size ≤ c.args.size = omega (arith, own, c.if-size-place.false, c.if-size-place-2.false) in (
      inv.0 ++ m ∷ [],
      put.1 ∙ ap (λ (xs : List ℕ). xs ++ made_text m) inv.1 ∙ append_assoc (main_kept_at o.bytes.items) (flat_map made_text inv.0) (made_text m)
          ∙ ap (λ (xs : List ℕ). main_kept_at o.bytes.items ++ xs) (sym (made_texts inv.0 m)),
      sizes_push o.parts.items inv.0 m t no_size lt inv.2 put.2,
      length-append inv.0 (m ∷ []) ∙ ap (λ k. k + 1) inv.3,
      subst (λ k. MadeUpto (λ i a p u. IsMade o.bytes.items h i a u) 0 o.main o.main (inv.0 ++ m ∷ []) (t + 1) k (c.loop-tile.place + c.index-part.result.now.size)) at
          (subst (λ k. MadeUpto (λ i a p u. IsMade o.bytes.items h i a u) 0 o.main o.main (inv.0 ++ m ∷ []) (t + 1) (c.loop-tile.at + m.size.held) k) place
          (made_push (λ i a p u. IsMade o.bytes.items h i a u) 0 o.main o.main inv.0 t c.loop-tile.at c.loop-tile.place m inv.4 put.3)),
      λ code keeping held. c.in_ok-put_part.ensures.held code keeping (inv.5 code keeping held),
      λ code keeping whole held.
          subst (λ k. MadeUpto (Shows code h sight.window sight.reduce) 0 o.main o.main (inv.0 ++ m ∷ []) (t + 1) k (c.loop-tile.place + c.index-part.result.now.size)) at
          (subst (λ k. MadeUpto (Shows code h sight.window sight.reduce) 0 o.main o.main (inv.0 ++ m ∷ []) (t + 1) (c.loop-tile.at + m.size.held) k) place
          (made_push (Shows code h sight.window sight.reduce) 0 o.main o.main inv.0 t c.loop-tile.at c.loop-tile.place m (inv.6 code keeping whole held) (put.4 code keeping (omega (arith, fits, whole)) (inv.5 code keeping held)))),
    )

pub returns : goal.returns
returns g c =
    let o = c.args.sources.now.outline.now in
    let h = c.args.sources.now.headers.now in
    let sight = c.args.sources.now.sight in
    let inv = c.loop-tile.invariant in (
      inv.0,
      c.in_ok-extend_from_slice.ensures.items ∙ ap (λ (xs : List ℕ). xs ++ marker_text eoc) inv.1 ∙ append_assoc (main_kept_at o.bytes.items) (flat_map made_text inv.0) (marker_text eoc),
      inv.2 ∙ take_all c.loop-tile.tile o.parts.items (omega (arith, c.loop-tile-test.false, c.if-len-count.false, c.len.ensures)),
      inv.3 ∙ (let all = c.requires.sound.1.tiles in omega (arith, all, c.loop-tile-test.false, c.loop-tile.auto.tile-end, c.tile_count-count.ensures)),
      made_all (λ i a p u. IsMade o.bytes.items h i a u) 0 o.main o.main inv.0 c.loop-tile.tile c.loop-tile.at c.loop-tile.place inv.4,
      λ code keeping whole held. made_all (Shows code h sight.window sight.reduce) 0 o.main o.main inv.0 c.loop-tile.tile c.loop-tile.at c.loop-tile.place (inv.6 code keeping whole held),
    )
