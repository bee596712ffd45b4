use Rattle.std.proofs.Common.{◌≡◌, ◌+◌, ◌++◌, ◌∷◌, [], ◌<◌, ◌≤◌, ◌-◌, ◌^◌, List, ℕ, length, take, get_or, ap, sym, subst, ◌∙◌, arith}
use Rattle.std.proofs.lemmas.List.{append-nil, take_all}
use Rattle.jk_packet.specs.declared.header.BlockContribution.{BlockContribution}
use Rattle.jk_walk.specs.WalkReading.{bodies_at}
use Rattle.jk_tile.specs.declared.decoding.bodies.BodyPlace.{BodyPlace}
use Rattle.jk_tile.specs.decoding.Gathered.{AreByBlock}
use Rattle.jk_tile.proofs.decoding.Gathering.{lengths, body_at, lengths_more, lengths_within, packet_more, by_block_kept, by_block_more, by_block_same}
use Rattle.jk_tile.proofs.decoding.bodies.add_bodies.Goals.{then-taken+in_ok-add_body, else-taken}
use Rattle.jk_tile.proofs.decoding.bodies.add_bodies.Goals as goal

-- stands where a part isn't
abbrev no_part : BlockContribution
no_part = record { band = 0; block = 0; zero_planes = 0; passes = 0; length = 0 }

-- part k, as it is read
part_read : (parts lent : List BlockContribution) (k : ℕ) → lent ≡ parts → get_or lent k no_part ≡ get_or parts k no_part
part_read parts lent k e = ap (λ (ps : List BlockContribution). get_or ps k no_part) e

inside_part : (parts : List BlockContribution) (k body size : ℕ) → k < length parts → body + lengths parts ≤ size → body + lengths (take k parts) + (get_or parts k no_part).length ≤ size
inside_part parts k body size lt end =
    let more = lengths_more parts k no_part lt in
    let within = lengths_within parts (k + 1) in
    omega (arith, more, within, end)

pub loop-index-init : goal.loop-index-init
loop-index-init c = record {
  start = omega arith;
  long = c.requires.long;
  lists = λ size before end h. by_block_same size c.args.blocks.band c.args.blocks.first c.args.blocks.count before (λ bytes. before bytes ++ []) c.args.lists.now.items (λ bytes. append-nil (before bytes)) h;
}

pub loop-index-preserved : goal.loop-index-preserved
loop-index-preserved c =
    let parts = c.args.packet.now.parts in
    let body = c.args.packet.now.body in
    let k = c.loop-index.index in
    let lent = c.as_slice-parts.ensures in
    let lt : k < length parts = omega (arith, c.loop-index-test.true, ap (λ (ps : List BlockContribution). length ps) lent) in
    let read = part_read parts c.as_slice-parts.result.now k lent in
    let start = c.loop-index.invariant.start in
    let next = lengths_more parts k no_part lt in
    let size_read = ap (λ (p : BlockContribution). p.length) read in
    elim c.if-taken.branch [
      | then-taken+in_ok-add_body w ↦ record {
        start = omega (arith, start, next, size_read);
        long = ap (λ v. length v.items) w.lists-is ∙ w.in_ok-add_body.ensures.long ∙ c.loop-index.invariant.long;
        lists = λ size before end h.
            let x : BodyPlace = record { part = get_or c.as_slice-parts.result.now k no_part; start = c.loop-index.start } in
            let more = λ (bytes : List ℕ). before bytes ++ bodies_at bytes body (take (k + 1) parts) in
            let is = λ (bytes : List ℕ). packet_more before body parts k no_part lt bytes
            ∙ ap (λ n. (before bytes ++ bodies_at bytes body (take k parts)) ++ body_at bytes n (get_or parts k no_part) ∷ []) (sym start)
            ∙ ap (λ (p : BlockContribution). (before bytes ++ bodies_at bytes body (take k parts)) ++ body_at bytes c.loop-index.start p ∷ []) (sym read) in
            let fits = inside_part parts k body size lt end in
            subst (λ v. AreByBlock size c.args.blocks.band c.args.blocks.first c.args.blocks.count more v.items) (sym w.lists-is)
            (by_block_more size c.args.blocks.band c.args.blocks.first c.args.blocks.count x (λ bytes. before bytes ++ bodies_at bytes body (take k parts)) more c.loop-index.lists.items w.add_body.new.lists.items is
            (sym c.is_of-taken.ensures.value ∙ w.if-taken.true) (omega (arith, fits, start, size_read)) w.in_ok-add_body.ensures.long w.in_ok-add_body.ensures.lists (c.loop-index.invariant.lists size before end h));
      }
      | else-taken w ↦ record {
        start = omega (arith, start, next, size_read);
        long = ap (λ v. length v.items) w.lists-is ∙ c.loop-index.invariant.long;
        lists = λ size before end h.
            let p = get_or c.as_slice-parts.result.now k no_part in
            let more = λ (bytes : List ℕ). before bytes ++ bodies_at bytes body (take (k + 1) parts) in
            let is = λ (bytes : List ℕ). packet_more before body parts k no_part lt bytes
            ∙ ap (λ (q : BlockContribution). (before bytes ++ bodies_at bytes body (take k parts)) ++ body_at bytes (body + lengths (take k parts)) q ∷ []) (sym read) in
            subst (λ v. AreByBlock size c.args.blocks.band c.args.blocks.first c.args.blocks.count more v.items) (sym w.lists-is)
            (by_block_kept size c.args.blocks.band c.args.blocks.first c.args.blocks.count (body + lengths (take k parts)) p (λ bytes. before bytes ++ bodies_at bytes body (take k parts)) more c.loop-index.lists.items is
            (sym c.is_of-taken.ensures.value ∙ w.if-taken.false) (c.loop-index.invariant.lists size before end h));
      }
    ]

pub overflow_add-start : goal.overflow_add-start
overflow_add-start c =
    let parts = c.args.packet.now.parts in
    let lent = c.as_slice-parts.ensures in
    let lt : c.loop-index.index < length parts = omega (arith, c.loop-index-test.true, ap (λ (ps : List BlockContribution). length ps) lent) in
    let end : c.args.packet.now.body + lengths parts ≤ 2 ^ 64 - 1 = let h = c.requires.end in omega (arith, h) in
    let fits = inside_part parts c.loop-index.index c.args.packet.now.body (2 ^ 64 - 1) lt end in
    omega (arith, fits, c.loop-index.invariant.start, ap (λ (p : BlockContribution). p.length) (part_read parts c.as_slice-parts.result.now c.loop-index.index lent))

pub returns-clause-lists : goal.returns-clause-lists
returns-clause-lists c = λ size before end h.
    let parts = c.args.packet.now.parts in
    let all : take c.loop-index.index parts ≡ parts = take_all c.loop-index.index parts (omega (arith, c.loop-index-test.false, ap (λ (ps : List BlockContribution). length ps) c.as_slice-parts.ensures)) in
    by_block_same size c.args.blocks.band c.args.blocks.first c.args.blocks.count (λ bytes. before bytes ++ bodies_at bytes c.args.packet.now.body (take c.loop-index.index parts)) (λ bytes. before bytes ++ bodies_at bytes c.args.packet.now.body parts)
    c.loop-index.lists.items (λ bytes. ap (λ (ps : List BlockContribution). before bytes ++ bodies_at bytes c.args.packet.now.body ps) (sym all)) (c.loop-index.invariant.lists size before end h)
