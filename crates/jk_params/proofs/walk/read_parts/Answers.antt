use Rattle.std.proofs.Common.{◌≡◌, ℕ, ◌+◌, ◌<◌, ◌≤◌, true, false, List, length, drop, set, get_or, replicate, Ok, Err, Result, sym, ap, subst, ◌∙◌, arith}
use Rattle.std.proofs.lemmas.List.{take_rest, length-drop, length-map, get_or_read}
use Rattle.std.proofs.lemmas.Result.{err_from_is_err_and}
use Rattle.jk_math.specs.Answer.{Refuses}
use Rattle.jk_math.specs.Steps.{refuses_due}
use Rattle.jk_math.specs.declared.fault.Fault.{Fault}
use Rattle.jk_marks.specs.declared.tile_part.TilePart.{TilePart}
use Rattle.jk_marks.specs.HeaderReading.{part_at}
use Rattle.jk_params.specs.Headers.{TileFields}
use Rattle.jk_params.specs.HeadersReading.{parts_from, parts_seen, tiles_with, ends_at}
use Rattle.jk_params.proofs.StepLaws.{part_refused, tiles_refused, ends_refused, parts_done, parts_over, added_length, added_seen}
use Rattle.jk_params.proofs.walk.read_parts.Goals as goal

pub loop-init : goal.loop-init
loop-init c =
    let tiles : List TileFields = c.args.tiles.now in
    let none : c.in_ok-seen.seen.items ≡ parts_seen tiles = c.in_ok-seen.ensures.items_if_clones_equal (λ y e. e) ∙ ap (λ k. replicate k 0) c.len.ensures ∙ sym c.requires.blank in
    (ap (λ k. parts_from k c.args.main.now c.args.bytes.now c.args.at tiles) (omega arith), c.requires.within, c.requires.tiles, none)

pub returns-in_err-part : goal.returns-in_err-part
returns-in_err-part c =
    let main = c.args.main.now in
    let bytes = c.args.bytes.now in
    let n = length bytes in
    let i = c.loop.counter in
    let at = c.loop.at in
    let tiles : List TileFields = c.loop.tiles in
    let before = c.loop.invariant.0 in
    let seen-is : c.deref.result.now ≡ parts_seen tiles = c.deref.ensures.value ∙ c.loop.invariant.3 in
    let e = c.in_err-part.field-0.0 in
    let read : part_at main.siz (parts_seen tiles) (drop at bytes) ≡ Err e =
    ap (λ (ss : List ℕ). part_at main.siz ss (drop at bytes)) (sym seen-is) ∙ ap (part_at main.siz c.deref.result.now) (sym (take_rest bytes at)) ∙ sym c.in_err-part.ensures.exact in
    let due = before ∙ part_refused n i main bytes at tiles e c.loop-test.true read in
    let p = err_from_is_err_and c.from_residual-in_err-part.result c.from_residual-in_err-part.ensures.1 in
    rw (p.1, p.2) (refuses_due e (parts_from n main bytes c.args.at c.args.tiles.now) due)

pub returns-in_err-add_part : goal.returns-in_err-add_part
returns-in_err-add_part c =
    let main = c.args.main.now in
    let bytes = c.args.bytes.now in
    let n = length bytes in
    let i = c.loop.counter in
    let at = c.loop.at in
    let tiles : List TileFields = c.loop.tiles in
    let before = c.loop.invariant.0 in
    let seen-is : c.deref.result.now ≡ parts_seen tiles = c.deref.ensures.value ∙ c.loop.invariant.3 in
    let part = c.in_ok-part.part in
    let read : part_at main.siz (parts_seen tiles) (drop at bytes) ≡ Ok part =
    ap (λ (ss : List ℕ). part_at main.siz ss (drop at bytes)) (sym seen-is) ∙ ap (part_at main.siz c.deref.result.now) (sym (take_rest bytes at)) ∙ sym c.in_ok-part.ensures.exact in
    let e = c.in_err-add_part.field-0.0 in
    let due = tiles_refused n i main bytes at tiles part e c.loop-test.true read c.in_err-add_part.ensures in
    let p = err_from_is_err_and c.from_residual-in_err-add_part.result c.from_residual-in_err-add_part.ensures.1 in
    rw (p.1, p.2) (subst (λ (r : Result (List TileFields) Fault). Refuses e r) (sym before) due)

pub returns-in_err-ends : goal.returns-in_err-ends
returns-in_err-ends c =
    let main = c.args.main.now in
    let bytes = c.args.bytes.now in
    let n = length bytes in
    let i = c.loop.counter in
    let at = c.loop.at in
    let tiles : List TileFields = c.loop.tiles in
    let before = c.loop.invariant.0 in
    let seen-is : c.deref.result.now ≡ parts_seen tiles = c.deref.ensures.value ∙ c.loop.invariant.3 in
    let part = c.in_ok-part.part in
    let read : part_at main.siz (parts_seen tiles) (drop at bytes) ≡ Ok part =
    ap (λ (ss : List ℕ). part_at main.siz ss (drop at bytes)) (sym seen-is) ∙ ap (part_at main.siz c.deref.result.now) (sym (take_rest bytes at)) ∙ sym c.in_ok-part.ensures.exact in
    let more : List TileFields = c.add_part.new.tiles in
    let with : tiles_with main at part tiles ≡ Ok more = c.in_ok-add_part.ensures in
    let e = c.in_err-ends.field-0.0 in
    let end : ends_at bytes (at + part.end) ≡ Err e = sym c.in_err-ends.ensures in
    let due = before ∙ ends_refused n i main bytes at tiles more part e c.loop-test.true read with end in
    let p = err_from_is_err_and c.from_residual-in_err-ends.result c.from_residual-in_err-ends.ensures.1 in
    rw (p.1, p.2) (refuses_due e (parts_from n main bytes c.args.at c.args.tiles.now) due)

pub returns-then-branch : goal.returns-then-branch
returns-then-branch c =
    let main = c.args.main.now in
    let bytes = c.args.bytes.now in
    let n = length bytes in
    let i = c.loop.counter in
    let at = c.loop.at in
    let tiles : List TileFields = c.loop.tiles in
    let before = c.loop.invariant.0 in
    let seen-is : c.deref.result.now ≡ parts_seen tiles = c.deref.ensures.value ∙ c.loop.invariant.3 in
    let part = c.in_ok-part.part in
    let read : part_at main.siz (parts_seen tiles) (drop at bytes) ≡ Ok part =
    ap (λ (ss : List ℕ). part_at main.siz ss (drop at bytes)) (sym seen-is) ∙ ap (part_at main.siz c.deref.result.now) (sym (take_rest bytes at)) ∙ sym c.in_ok-part.ensures.exact in
    let more : List TileFields = c.add_part.new.tiles in
    let with : tiles_with main at part tiles ≡ Ok more = c.in_ok-add_part.ensures in
    let end : ends_at bytes (at + part.end) ≡ Ok true = sym c.in_ok-ends.ensures ∙ ap Ok c.if-branch.true in
    before ∙ parts_done n i main bytes at tiles more part true c.loop-test.true read with end

pub loop-preserved : goal.loop-preserved
loop-preserved c =
    let main = c.args.main.now in
    let bytes = c.args.bytes.now in
    let n = length bytes in
    let i = c.loop.counter in
    let at = c.loop.at in
    let tiles : List TileFields = c.loop.tiles in
    let before = c.loop.invariant.0 in
    let seen-is : c.deref.result.now ≡ parts_seen tiles = c.deref.ensures.value ∙ c.loop.invariant.3 in
    let part = c.in_ok-part.part in
    let read : part_at main.siz (parts_seen tiles) (drop at bytes) ≡ Ok part =
    ap (λ (ss : List ℕ). part_at main.siz ss (drop at bytes)) (sym seen-is) ∙ ap (part_at main.siz c.deref.result.now) (sym (take_rest bytes at)) ∙ sym c.in_ok-part.ensures.exact in
    let more : List TileFields = c.add_part.new.tiles in
    let with : tiles_with main at part tiles ≡ Ok more = c.in_ok-add_part.ensures in
    let end : ends_at bytes (at + part.end) ≡ Ok false = sym c.in_ok-ends.ensures ∙ ap Ok c.if-branch.false in
    let step = before ∙ parts_done n i main bytes at tiles more part false c.loop-test.true read with end in
    let within : at + part.end ≤ n = omega (arith, c.in_ok-part.ensures.within.1, length-drop at bytes, c.loop.invariant.1, ap (λ (xs : List ℕ). length xs) (take_rest bytes at)) in
    let size = added_length main at part tiles more with ∙ c.loop.invariant.2 in
    let seen = added_seen main at part tiles more c.loop.seen.items c.loop.invariant.3 with in
    let found = c.in_ok-part.ensures.found in
    let tile : part.tile ≡ found.0.tile = ap (λ (t : TilePart). t.tile) found.4 in
    let count : length c.loop.seen.items ≡ length tiles = ap (λ (xs : List ℕ). length xs) c.loop.invariant.3 ∙ length-map tiles (λ (f : TileFields). length f.data_places) in
    let inside : part.tile < length c.loop.seen.items = omega (arith, tile, found.1.tile, count, c.loop.invariant.2) in
    let counted : c.index_mut.result.now ≡ get_or c.loop.seen.items part.tile 0 = get_or_read c.loop.seen.items part.tile c.index_mut.result.now inside c.index_mut.ensures.value 0 in
    (step, within, size, ap (λ k. set c.loop.seen.items part.tile (k + 1)) counted ∙ seen)

pub returns : goal.returns
returns c = c.loop.invariant.0 ∙ parts_over (length c.args.bytes.now) c.loop.counter c.args.main.now c.args.bytes.now c.loop.at c.loop.tiles c.loop-test.false
