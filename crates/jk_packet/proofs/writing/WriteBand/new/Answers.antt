use Rattle.std.proofs.Common.{◌≡◌, ℕ, List, map, length, ◌∙◌, ap, arith}
use Rattle.std.proofs.lemmas.List.{length-map}
use Rattle.jk_packet.specs.PacketText.{asks_inclusion, asks_zeros}
use Rattle.jk_packet.specs.Written.{Table, first_in}
use Rattle.jk_packet.proofs.BandWriting.{state_open, speaks_open}
use Rattle.jk_packet.proofs.writing.WriteBand.new.Goals as goal

pub returns-clause-ready : goal.returns-clause-ready
returns-clause-ready c =
    let ts = c.args.tables.now in
    let blocks : c.in_ok-blocks.blocks.items ≡ map (λ n. record { first = n; length_bits = 3 }) c.in_ok-firsts.firsts.items =
    c.in_ok-blocks.ensures ∙ ap (λ (ns : List ℕ). map (λ n. record { first = n; length_bits = 3 }) ns) c.deref.ensures.value in
    record {
      inclusion = c.in_ok-inclusion.ensures.made.0;
      inclusion_sound = c.in_ok-inclusion.ensures.made.1;
      zeros = c.in_ok-zeros.ensures.made.0;
      zeros_sound = c.in_ok-zeros.ensures.made.1;
      long = ap length blocks ∙ length-map c.in_ok-firsts.firsts.items _ ∙ ap length c.in_ok-firsts.ensures ∙ length-map ts (λ (t : Table). first_in t.parts) ∙ c.requires.long;
      told = λ j none. absurd (omega (arith, none));
      waiting = λ j from within. state_open ts c.in_ok-firsts.firsts.items c.in_ok-blocks.blocks.items j (let e = c.requires.long in omega (arith, e, within)) c.in_ok-firsts.ensures blocks;
    }

pub returns-clause-speaks : goal.returns-clause-speaks
returns-clause-speaks c =
    let ts = c.args.tables.now in
    record {
      inclusion = speaks_open c.args.shape ts asks_inclusion c.deref-2.result.now (map (λ (t : Table). first_in t.parts) ts) c.in_ok-inclusion.inclusion (c.deref-2.ensures.value ∙ c.in_ok-firsts.ensures) c.in_ok-inclusion.ensures.made.0 c.in_ok-inclusion.ensures.made.2;
      zeros = speaks_open c.args.shape ts asks_zeros c.deref-3.result.now (map (λ (t : Table). t.zero_planes) ts) c.in_ok-zeros.zeros (c.deref-3.ensures.value ∙ c.in_ok-planes.ensures) c.in_ok-zeros.ensures.made.0 c.in_ok-zeros.ensures.made.2;
    }
