use Rattle.std.proofs.Common.{◌⊎◌, All, length, subst, sym}
use Rattle.jk_math.specs.Memory.{IsMemory}
use Rattle.jk_jobs.specs.Dealing.{AreGiven, IsFirstFault}
use Rattle.jk_jobs.proofs.Laws.{zipped}
use Rattle.jk_tile.specs.decoding.Decoded.{AreBlocksOf, AreDecodedFrom, IsJobOf}
use Rattle.jk_tile.proofs.decoding.Decoding.{all_decoded, where_ok}
use Rattle.jk_tile.proofs.decoding.decoded.decode_segments_beside.Goals as goal

pub returns-clause-decoded : goal.returns-clause-decoded
returns-clause-decoded g c =
    let jobs = c.deref.result.now in
    let bytes = c.args.bytes.now in
    let all = subst (All (IsJobOf bytes)) (sym c.deref.ensures.value) c.in-Ok.ensures.jobs in
    c.blocks_of.ensures bytes (where_ok (λ v. AreGiven AreDecodedFrom jobs (length jobs) v.items) (λ v. All (AreBlocksOf bytes) v.items) (λ e. IsMemory e ⊎ IsFirstFault AreDecodedFrom jobs e) _
    (λ v given. all_decoded bytes jobs v.items all (zipped AreDecodedFrom jobs v.items given)) (c.map_jobs_beside-groups.ensures.given c.args.workers.now.some c.args.workers.now.few))
