use Rattle.std.proofs.Common.{◌≡◌, ℕ, ◌+◌, ◌<◌, length, true, false, refl, sym, ap, ◌∙◌, subst, arith}
use Rattle.std.specs.Prelude.{nat_eq, nat_lt}
use Rattle.std.proofs.lemmas.Bool.Decides.{nat_tests}
use Rattle.std.proofs.lemmas.List.{get_or_read}
use Rattle.jk_tree.specs.Telling.{with_bits}
use Rattle.jk_packet.specs.declared.words.Addition.{Addition}
use Rattle.jk_packet.specs.declared.writing.WriteBlock.{WriteBlock}
use Rattle.jk_packet.specs.Words.{width, piece_bits}
use Rattle.jk_packet.specs.Written.{Table, part_in, least_growth, lblock_at, piece_in, first_in, table_at}
use Rattle.jk_packet.specs.Writing.{state_of}
use Rattle.jk_packet.proofs.HistoryLaws.{part_length, lblock_few, piece_narrow}
use Rattle.jk_packet.proofs.SpokenLaws.{SaysZeros, block_none, block_some, state_grown, ready_kept, ready_grown}
use Rattle.jk_packet.proofs.writing.write_block.Goals as goal

abbrev piece_is_told : (passes growth length : ℕ) → Addition
piece_is_told passes growth length = record { passes = passes; growth = growth; length = length }

pub returns-then-passes-eq0-clause-ready : goal.returns-then-passes-eq0-clause-ready
returns-then-passes-eq0-clause-ready c =
    let are = c.requires.tables.3 in
    let ts = c.args.tables.now in
    let i = c.args.index in
    let l = c.args.layer in
    let less : i < length ts = (let e = are.long in let h = c.requires.index in omega (arith, e, h)) in
    let is = are.each i c.requires.index in
    let table : c.index-tables-index.result ≡ table_at ts i = get_or_read ts i c.index-tables-index.result less c.index-tables-index.is _ in
    let passes : c.passes-passes.result ≡ (part_in (table_at ts i) l).0 = c.passes-passes.ensures ∙ ap (λ (t : Table). (part_in t l).0) table in
    let block : c.index-block.result.now ≡ state_of (table_at ts i) l =
    get_or_read c.args.band.now.blocks.items i c.index-block.result.now (let e = c.requires.ready.long in let h = c.requires.index in omega (arith, e, h)) c.index-block.ensures _
    ∙ c.requires.ready.waiting i (omega arith) c.requires.index in
    let none : nat_eq (part_in (table_at ts i) l).0 0 ≡ true = (let h = c.if-passes-eq0.true in grind (arith, nat_tests)) in
    ready_kept c.args.shape ts l i c.args.band.now c.tell_inclusion.new.tree c.requires.index none c.in_ok-tell_inclusion.ensures.open.0 c.in_ok-tell_inclusion.ensures.open.1 c.requires.ready

pub returns-then-passes-eq0-clause-told : goal.returns-then-passes-eq0-clause-told
returns-then-passes-eq0-clause-told c = λ layers follow speak.
    let are = c.requires.tables.3 in
    let ts = c.args.tables.now in
    let i = c.args.index in
    let l = c.args.layer in
    let less : i < length ts = (let e = are.long in let h = c.requires.index in omega (arith, e, h)) in
    let is = are.each i c.requires.index in
    let table : c.index-tables-index.result ≡ table_at ts i = get_or_read ts i c.index-tables-index.result less c.index-tables-index.is _ in
    let passes : c.passes-passes.result ≡ (part_in (table_at ts i) l).0 = c.passes-passes.ensures ∙ ap (λ (t : Table). (part_in t l).0) table in
    let block : c.index-block.result.now ≡ state_of (table_at ts i) l =
    get_or_read c.args.band.now.blocks.items i c.index-block.result.now (let e = c.requires.ready.long in let h = c.requires.index in omega (arith, e, h)) c.index-block.ensures _
    ∙ c.requires.ready.waiting i (omega arith) c.requires.index in
    let none : nat_eq (part_in (table_at ts i) l).0 0 ≡ true = (let h = c.if-passes-eq0.true in grind (arith, nat_tests)) in
    block_none c.args.shape ts l i layers c.index-block.result.now.first (nat_lt 0 c.passes-passes.result) c.args.band.now c.tell_inclusion.new.tree c.args.writer.now c.tell_inclusion.new.writer less
    (let e = is.long in let w = c.requires.tables.1 in omega (arith, e, w)) follow c.requires.ready.inclusion (ap (λ (b : WriteBlock). b.first) block)
    (let h = c.if-passes-eq0.true in grind (arith, nat_tests)) none c.in_ok-tell_inclusion.ensures.told speak

pub overflow_cast-length : goal.overflow_cast-length
overflow_cast-length c =
    let are = c.requires.tables.3 in
    let ts = c.args.tables.now in
    let i = c.args.index in
    let l = c.args.layer in
    let less : i < length ts = (let e = are.long in let h = c.requires.index in omega (arith, e, h)) in
    let is = are.each i c.requires.index in
    let table : c.index-tables-index.result ≡ table_at ts i = get_or_read ts i c.index-tables-index.result less c.index-tables-index.is _ in
    let passes : c.passes-passes.result ≡ (part_in (table_at ts i) l).0 = c.passes-passes.ensures ∙ ap (λ (t : Table). (part_in t l).0) table in
    let block : c.index-block.result.now ≡ state_of (table_at ts i) l =
    get_or_read c.args.band.now.blocks.items i c.index-block.result.now (let e = c.requires.ready.long in let h = c.requires.index in omega (arith, e, h)) c.index-block.ensures _
    ∙ c.requires.ready.waiting i (omega arith) c.requires.index in
    let size : length c.bytes.result.now ≡ length (part_in (table_at ts i) l).1 = ap length c.bytes.ensures ∙ ap (λ (t : Table). length (part_in t l).1) table in
    let few = part_length c.requires.tables.0 c.args.shape.planes (table_at ts i) l is c.requires.tables.1 in
    omega (arith, size, few)

pub push_piece-requires-clause-narrow : goal.push_piece-requires-clause-narrow
push_piece-requires-clause-narrow c =
    let are = c.requires.tables.3 in
    let ts = c.args.tables.now in
    let i = c.args.index in
    let l = c.args.layer in
    let less : i < length ts = (let e = are.long in let h = c.requires.index in omega (arith, e, h)) in
    let is = are.each i c.requires.index in
    let table : c.index-tables-index.result ≡ table_at ts i = get_or_read ts i c.index-tables-index.result less c.index-tables-index.is _ in
    let passes : c.passes-passes.result ≡ (part_in (table_at ts i) l).0 = c.passes-passes.ensures ∙ ap (λ (t : Table). (part_in t l).0) table in
    let block : c.index-block.result.now ≡ state_of (table_at ts i) l =
    get_or_read c.args.band.now.blocks.items i c.index-block.result.now (let e = c.requires.ready.long in let h = c.requires.index in omega (arith, e, h)) c.index-block.ensures _
    ∙ c.requires.ready.waiting i (omega arith) c.requires.index in
    let size : length c.bytes.result.now ≡ length (part_in (table_at ts i) l).1 = ap length c.bytes.ensures ∙ ap (λ (t : Table). length (part_in t l).1) table in
    let lblock : c.index-block.result.now.length_bits ≡ lblock_at (table_at ts i) l = ap (λ (b : WriteBlock). b.length_bits) block in
    let growth : c.least_growth-growth.result ≡ (piece_in (table_at ts i) l).growth =
    c.least_growth-growth.ensures
    ∙ ap (λ n. least_growth n c.passes-passes.result (length c.bytes.result.now)) lblock
    ∙ ap (λ n. least_growth (lblock_at (table_at ts i) l) n (length c.bytes.result.now)) passes
    ∙ ap (λ n. least_growth (lblock_at (table_at ts i) l) (part_in (table_at ts i) l).0 n) size in
    let told : piece_is_told c.passes-passes.result c.least_growth-growth.result (length c.bytes.result.now) ≡ piece_in (table_at ts i) l =
    ap (λ n. piece_is_told n c.least_growth-growth.result (length c.bytes.result.now)) passes
    ∙ ap (λ n. piece_is_told (part_in (table_at ts i) l).0 n (length c.bytes.result.now)) growth
    ∙ ap (λ n. piece_is_told (part_in (table_at ts i) l).0 (piece_in (table_at ts i) l).growth n) size in
    let narrow = piece_narrow c.requires.tables.0 c.args.shape.planes (table_at ts i) l is c.requires.tables.1 in
    let same : width c.index-block.result.now.length_bits (piece_is_told c.passes-passes.result c.least_growth-growth.result (length c.bytes.result.now)) ≡ width (lblock_at (table_at ts i) l) (piece_in (table_at ts i) l) =
    ap (λ n. width n (piece_is_told c.passes-passes.result c.least_growth-growth.result (length c.bytes.result.now))) lblock ∙ ap (λ (p : Addition). width (lblock_at (table_at ts i) l) p) told in
    omega (arith, narrow, same)

pub overflow_add-block : goal.overflow_add-block
overflow_add-block c =
    let are = c.requires.tables.3 in
    let ts = c.args.tables.now in
    let i = c.args.index in
    let l = c.args.layer in
    let less : i < length ts = (let e = are.long in let h = c.requires.index in omega (arith, e, h)) in
    let is = are.each i c.requires.index in
    let table : c.index-tables-index.result ≡ table_at ts i = get_or_read ts i c.index-tables-index.result less c.index-tables-index.is _ in
    let passes : c.passes-passes.result ≡ (part_in (table_at ts i) l).0 = c.passes-passes.ensures ∙ ap (λ (t : Table). (part_in t l).0) table in
    let block : c.index-block.result.now ≡ state_of (table_at ts i) l =
    get_or_read c.args.band.now.blocks.items i c.index-block.result.now (let e = c.requires.ready.long in let h = c.requires.index in omega (arith, e, h)) c.index-block.ensures _
    ∙ c.requires.ready.waiting i (omega arith) c.requires.index in
    let some : nat_eq (part_in (table_at ts i) l).0 0 ≡ false = (let h = c.if-passes-eq0.false in grind (arith, nat_tests)) in
    let size : length c.bytes.result.now ≡ length (part_in (table_at ts i) l).1 = ap length c.bytes.ensures ∙ ap (λ (t : Table). length (part_in t l).1) table in
    let lblock : c.index-block.result.now.length_bits ≡ lblock_at (table_at ts i) l = ap (λ (b : WriteBlock). b.length_bits) block in
    let growth : c.least_growth-growth.result ≡ (piece_in (table_at ts i) l).growth =
    c.least_growth-growth.ensures
    ∙ ap (λ n. least_growth n c.passes-passes.result (length c.bytes.result.now)) lblock
    ∙ ap (λ n. least_growth (lblock_at (table_at ts i) l) n (length c.bytes.result.now)) passes
    ∙ ap (λ n. least_growth (lblock_at (table_at ts i) l) (part_in (table_at ts i) l).0 n) size in
    let told : piece_is_told c.passes-passes.result c.least_growth-growth.result (length c.bytes.result.now) ≡ piece_in (table_at ts i) l =
    ap (λ n. piece_is_told n c.least_growth-growth.result (length c.bytes.result.now)) passes
    ∙ ap (λ n. piece_is_told (part_in (table_at ts i) l).0 n (length c.bytes.result.now)) growth
    ∙ ap (λ n. piece_is_told (part_in (table_at ts i) l).0 (piece_in (table_at ts i) l).growth n) size in
    let few = lblock_few c.requires.tables.0 c.args.shape.planes (table_at ts i) (l + 1) is (let w = c.requires.tables.1 in omega (arith, w)) in
    let grown = state_grown (table_at ts i) l some in
    omega (arith, few, grown, lblock, growth)

pub returns-clause-ready : goal.returns-clause-ready
returns-clause-ready c =
    let are = c.requires.tables.3 in
    let ts = c.args.tables.now in
    let i = c.args.index in
    let l = c.args.layer in
    let less : i < length ts = (let e = are.long in let h = c.requires.index in omega (arith, e, h)) in
    let is = are.each i c.requires.index in
    let table : c.index-tables-index.result ≡ table_at ts i = get_or_read ts i c.index-tables-index.result less c.index-tables-index.is _ in
    let passes : c.passes-passes.result ≡ (part_in (table_at ts i) l).0 = c.passes-passes.ensures ∙ ap (λ (t : Table). (part_in t l).0) table in
    let block : c.index-block.result.now ≡ state_of (table_at ts i) l =
    get_or_read c.args.band.now.blocks.items i c.index-block.result.now (let e = c.requires.ready.long in let h = c.requires.index in omega (arith, e, h)) c.index-block.ensures _
    ∙ c.requires.ready.waiting i (omega arith) c.requires.index in
    let some : nat_eq (part_in (table_at ts i) l).0 0 ≡ false = (let h = c.if-passes-eq0.false in grind (arith, nat_tests)) in
    let size : length c.bytes.result.now ≡ length (part_in (table_at ts i) l).1 = ap length c.bytes.ensures ∙ ap (λ (t : Table). length (part_in t l).1) table in
    let lblock : c.index-block.result.now.length_bits ≡ lblock_at (table_at ts i) l = ap (λ (b : WriteBlock). b.length_bits) block in
    let growth : c.least_growth-growth.result ≡ (piece_in (table_at ts i) l).growth =
    c.least_growth-growth.ensures
    ∙ ap (λ n. least_growth n c.passes-passes.result (length c.bytes.result.now)) lblock
    ∙ ap (λ n. least_growth (lblock_at (table_at ts i) l) n (length c.bytes.result.now)) passes
    ∙ ap (λ n. least_growth (lblock_at (table_at ts i) l) (part_in (table_at ts i) l).0 n) size in
    let told : piece_is_told c.passes-passes.result c.least_growth-growth.result (length c.bytes.result.now) ≡ piece_in (table_at ts i) l =
    ap (λ n. piece_is_told n c.least_growth-growth.result (length c.bytes.result.now)) passes
    ∙ ap (λ n. piece_is_told (part_in (table_at ts i) l).0 n (length c.bytes.result.now)) growth
    ∙ ap (λ n. piece_is_told (part_in (table_at ts i) l).0 (piece_in (table_at ts i) l).growth n) size in
    let x : WriteBlock = record { first = c.index-block.result.now.first; length_bits = c.index-block.result.now.length_bits + c.least_growth-growth.result } in
    let own : x ≡ state_of (table_at ts i) (l + 1) =
    ap (λ n. record { first = n; length_bits = c.index-block.result.now.length_bits + c.least_growth-growth.result }) (ap (λ (b : WriteBlock). b.first) block)
    ∙ ap (λ n. record { first = first_in (table_at ts i).parts; length_bits = n }) (ap (λ n. n + c.least_growth-growth.result) lblock ∙ ap (λ n. lblock_at (table_at ts i) l + n) growth ∙ sym (state_grown (table_at ts i) l some)) in
    ready_grown c.args.shape ts l i c.args.band.now c.tell_inclusion.new.tree c.tell_zero_planes.new.tree _ x c.requires.index c.in_ok-tell_inclusion.ensures.open.0 c.in_ok-tell_inclusion.ensures.open.1
    c.in_ok-tell_zero_planes.ensures.open.0 c.in_ok-tell_zero_planes.ensures.open.1 refl own c.requires.ready

pub returns-clause-told : goal.returns-clause-told
returns-clause-told c = λ layers follow speak.
    let are = c.requires.tables.3 in
    let ts = c.args.tables.now in
    let i = c.args.index in
    let l = c.args.layer in
    let less : i < length ts = (let e = are.long in let h = c.requires.index in omega (arith, e, h)) in
    let is = are.each i c.requires.index in
    let table : c.index-tables-index.result ≡ table_at ts i = get_or_read ts i c.index-tables-index.result less c.index-tables-index.is _ in
    let passes : c.passes-passes.result ≡ (part_in (table_at ts i) l).0 = c.passes-passes.ensures ∙ ap (λ (t : Table). (part_in t l).0) table in
    let block : c.index-block.result.now ≡ state_of (table_at ts i) l =
    get_or_read c.args.band.now.blocks.items i c.index-block.result.now (let e = c.requires.ready.long in let h = c.requires.index in omega (arith, e, h)) c.index-block.ensures _
    ∙ c.requires.ready.waiting i (omega arith) c.requires.index in
    let some : nat_eq (part_in (table_at ts i) l).0 0 ≡ false = (let h = c.if-passes-eq0.false in grind (arith, nat_tests)) in
    let size : length c.bytes.result.now ≡ length (part_in (table_at ts i) l).1 = ap length c.bytes.ensures ∙ ap (λ (t : Table). length (part_in t l).1) table in
    let lblock : c.index-block.result.now.length_bits ≡ lblock_at (table_at ts i) l = ap (λ (b : WriteBlock). b.length_bits) block in
    let growth : c.least_growth-growth.result ≡ (piece_in (table_at ts i) l).growth =
    c.least_growth-growth.ensures
    ∙ ap (λ n. least_growth n c.passes-passes.result (length c.bytes.result.now)) lblock
    ∙ ap (λ n. least_growth (lblock_at (table_at ts i) l) n (length c.bytes.result.now)) passes
    ∙ ap (λ n. least_growth (lblock_at (table_at ts i) l) (part_in (table_at ts i) l).0 n) size in
    let told : piece_is_told c.passes-passes.result c.least_growth-growth.result (length c.bytes.result.now) ≡ piece_in (table_at ts i) l =
    ap (λ n. piece_is_told n c.least_growth-growth.result (length c.bytes.result.now)) passes
    ∙ ap (λ n. piece_is_told (part_in (table_at ts i) l).0 n (length c.bytes.result.now)) growth
    ∙ ap (λ n. piece_is_told (part_in (table_at ts i) l).0 (piece_in (table_at ts i) l).growth n) size in
    block_some c.args.shape ts l i layers c.index-block.result.now.first c.index-block.result.now.length_bits (nat_lt 0 c.passes-passes.result) c.args.band.now c.tell_inclusion.new.tree c.tell_zero_planes.new.tree _
    c.args.writer.now c.tell_inclusion.new.writer c.tell_zero_planes.new.writer c.push_piece.new.writer less (let e = is.long in let w = c.requires.tables.1 in omega (arith, e, w)) follow
    c.requires.ready.inclusion c.requires.ready.zeros (ap (λ (b : WriteBlock). b.first) block) lblock (let h = c.if-passes-eq0.false in grind (arith, nat_tests)) some c.in_ok-tell_inclusion.ensures.told
    (subst (λ n. SaysZeros (nat_lt c.index-block.result.now.first l) i n c.args.band.now.zeros c.tell_zero_planes.new.tree c.tell_inclusion.new.writer c.tell_zero_planes.new.writer)
    (c.zero_planes.ensures ∙ ap (λ (t : Table). t.zero_planes) table) c.in_ok-tell_zero_planes.ensures.told)
    (c.in_ok-push_piece.ensures ∙ ap (λ (p : Addition). with_bits c.tell_zero_planes.new.writer (piece_bits c.index-block.result.now.length_bits p)) told) speak
