-- No block is in the initial hash value.
use Rattle.sha2.specs.Sha256.{initial_hash_256}
use Rattle.jk_digest.proofs.Absorbing.{before_any}
use Rattle.jk_digest.proofs.message.sha256.Goals as goal

pub completed-requires-clause-behind : goal.completed-requires-clause-behind
completed-requires-clause-behind c = before_any initial_hash_256 c.args.message.now
