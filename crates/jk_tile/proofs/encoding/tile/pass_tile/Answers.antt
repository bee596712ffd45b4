use Rattle.std.proofs.Common.{ℕ, List, ◌⊎◌, refl, subst, arith}
use Rattle.jk_math.specs.Memory.{IsMemory}
use Rattle.jk_tile.specs.encoding.Sinks.{IsPassed}
use Rattle.jk_tile.proofs.encoding.EncodingTile.{shape_fits, lists_fit, text_from}
use Rattle.jk_tile.proofs.encoding.tile.pass_tile.Goals as goal

pub codings_alike-requires : goal.codings_alike-requires
codings_alike-requires g c =
    let is = c.requires.tile.2 in
    let many = is.components in
    let few = is.profile.siz.few_components in
    omega (arith, many, few)

pub pass_packets-requires-clause-shape : goal.pass_packets-requires-clause-shape
pass_packets-requires-clause-shape g c = let own = c.requires.tile in (shape_fits c.args.tile.now own.0 own.1 c.codings_alike.result own.2 c.codings_alike.ensures).shape

pub pass_packets-requires-clause-coding : goal.pass_packets-requires-clause-coding
pass_packets-requires-clause-coding g c = let own = c.requires.tile in (shape_fits c.args.tile.now own.0 own.1 c.codings_alike.result own.2 c.codings_alike.ensures).coding

pub pass_packets-requires-clause-planes : goal.pass_packets-requires-clause-planes
pass_packets-requires-clause-planes g c = let own = c.requires.tile in (shape_fits c.args.tile.now own.0 own.1 c.codings_alike.result own.2 c.codings_alike.ensures).planes

pub pass_packets-requires-clause-alike : goal.pass_packets-requires-clause-alike
pass_packets-requires-clause-alike g c = let own = c.requires.tile in (shape_fits c.args.tile.now own.0 own.1 c.codings_alike.result own.2 c.codings_alike.ensures).alike

pub pass_packets-requires-clause-few : goal.pass_packets-requires-clause-few
pass_packets-requires-clause-few g c = let own = c.requires.tile in (shape_fits c.args.tile.now own.0 own.1 c.codings_alike.result own.2 c.codings_alike.ensures).few

pub pass_packets-requires-clause-lists : goal.pass_packets-requires-clause-lists
pass_packets-requires-clause-lists g c = let own = c.requires.tile in lists_fit c.args.tile.now own.0 own.1 _ c.codings_alike.result _ own.2 c.codings_alike.ensures refl own.3

pub returns : goal.returns
returns g c =
    let passed = c.pass_packets.ensures in (
      passed.0,
      passed.1,
      λ p t is lists. subst (λ (x : List ℕ). IsPassed (λ e. IsMemory e ⊎ g.S.TextSink.tells e) x passed.0 c.pass_packets.result)
          (text_from c.args.tile.now p t c.codings_alike.result c.args.tables.now _ is c.codings_alike.ensures lists refl) passed.2,
    )
