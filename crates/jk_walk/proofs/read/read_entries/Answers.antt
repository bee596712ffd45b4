use Rattle.std.proofs.Common.{length}
use Rattle.jk_math.specs.Steps.{if_ok_answers}
use Rattle.jk_params.specs.Headers.{tile_in}
use Rattle.jk_walk.specs.TilePackets.{shape_in}
use Rattle.jk_walk.specs.Entries.{entries_at, AreEntries, EnterAt, AreEnteredAt}
use Rattle.jk_walk.proofs.SpanLaws.{due_value}
use Rattle.jk_walk.proofs.EntriesRead.{entries_found, entries_only, entries_within}
use Rattle.jk_walk.proofs.read.read_entries.Goals as goal

pub returns-clause-found : goal.returns-clause-found
returns-clause-found c =
    let bytes = c.args.bytes.now in
    let h = c.args.headers.now in
    if_ok_answers (λ p. p) c.tile_entries.result (entries_at bytes h c.args.tile) (AreEnteredAt bytes h c.args.tile) c.tile_entries.ensures
    (λ entries e. entries_found bytes h c.args.tile entries c.requires.sound c.requires.tile e)

pub returns-clause-only : goal.returns-clause-only
returns-clause-only c = λ packets are.
    let bytes = c.args.bytes.now in
    let h = c.args.headers.now in
    let only = entries_only bytes h c.args.tile packets c.requires.sound c.requires.tile are in
    due_value c.tile_entries.result (entries_at bytes h c.args.tile) only.0 (EnterAt bytes h c.args.tile packets) c.tile_entries.ensures only.1 only.2

pub returns-clause-within : goal.returns-clause-within
returns-clause-within c =
    let bytes = c.args.bytes.now in
    let h = c.args.headers.now in
    if_ok_answers (λ p. p) c.tile_entries.result (entries_at bytes h c.args.tile) (AreEntries (length bytes) (shape_in h.siz (tile_in h.tiles c.args.tile) c.args.tile)) c.tile_entries.ensures
    (λ entries e. entries_within bytes h c.args.tile entries c.requires.sound c.requires.tile e)
