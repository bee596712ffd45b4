use Rattle.std.proofs.Common.{◌+◌, ◌∷◌, [], length, ap, ◌∙◌}
use Rattle.std.proofs.lemmas.List.{length-append}
use Rattle.jk_math.specs.Lists.{list_at}
use Rattle.jk_tile.proofs.decoding.Gathering.{list_push}
use Rattle.jk_tile.proofs.decoding.bodies.empty_bodies.Goals as goal

pub loop-preserved : goal.loop-preserved
loop-preserved c = record {
  long = ap (λ xs. length xs) c.in_ok-push.ensures.items ∙ length-append c.loop.lists.items (c.new.result ∷ []) ∙ ap (λ k. k + 1) c.loop.invariant.long;
  empty = λ n. ap (λ xs. list_at xs n) c.in_ok-push.ensures.items ∙ list_push c.loop.lists.items c.new.result c.new.ensures.items c.loop.invariant.empty n;
}
