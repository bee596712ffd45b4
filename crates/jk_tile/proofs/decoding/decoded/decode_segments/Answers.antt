use Rattle.std.proofs.Common.{All, subst, sym}
use Rattle.jk_tile.specs.decoding.Decoded.{AreDecodedFrom, IsJobOf}
use Rattle.jk_jobs.proofs.Laws.{zipped}
use Rattle.jk_tile.proofs.decoding.Decoding.{all_decoded, blocks_decoded}
use Rattle.jk_tile.proofs.decoding.decoded.decode_segments.Goals as goal

pub returns : goal.returns
returns g c =
    let jobs = c.deref.result.now in
    let bytes = c.args.bytes.now in
    let groups = c.in_ok-groups.groups.items in
    let all = subst (All (IsJobOf bytes)) (sym c.deref.ensures.value) c.in_ok-jobs.ensures.jobs in
    let given = all_decoded bytes jobs groups all (zipped AreDecodedFrom jobs groups (c.in_ok-groups.ensures.given c.args.workers.now.some c.args.workers.now.few)) in
    blocks_decoded bytes _ c.by_start.result c.by_start.ensures.blocks (c.in_ok-all_blocks.ensures.decoded bytes given)
