use Rattle.std.proofs.Common.{◌≡◌, [], ◌∷◌, ◌++◌, true, false, Bool, List, sym, ap, ◌∙◌}
use Rattle.jk_bits.specs.Stuffing.{stuffed}
use Rattle.jk_bits.specs.Writing.{Written}
use Rattle.jk_packet.specs.Shapes.{bands_of}
use Rattle.jk_packet.specs.Written.{has_passes, is_full, full_bits, banded}
use Rattle.jk_packet.proofs.PrecinctWriting.{any_banded, stand_empty, bits_full, bits_empty}
use Rattle.jk_packet.proofs.writer.write_bits.Goals as goal

pub returns-then-not-is_full-clause-stand : goal.returns-then-not-is_full-clause-stand
returns-then-not-is_full-clause-stand c =
    let shapes = bands_of c.args.shape.now in
    let empty : is_full (banded shapes c.args.tables.now) c.args.layer ≡ false = any_banded (has_passes c.args.layer) shapes c.args.tables.now c.requires.whole ∙ sym c.is_full.ensures ∙ c.if-not-is_full.true in
    stand_empty shapes c.args.layers (banded shapes c.args.tables.now) c.args.layer c.args.bands.now.items c.requires.tables empty c.requires.stand

pub returns-then-not-is_full-clause-told : goal.returns-then-not-is_full-clause-told
returns-then-not-is_full-clause-told c =
    let shapes = bands_of c.args.shape.now in
    let tables = banded shapes c.args.tables.now in
    let empty : is_full tables c.args.layer ≡ false = any_banded (has_passes c.args.layer) shapes c.args.tables.now c.requires.whole ∙ sym c.is_full.ensures ∙ c.if-not-is_full.true in
    let bits : c.push.new.self.bits ≡ false ∷ [] = ap (λ (w : Written). w.bits) c.in_ok-push.ensures.1 ∙ ap (λ (w : Written). w.bits ++ false ∷ []) c.new-writer.ensures in
    c.in_ok-bytes.ensures.exact.1 ∙ ap stuffed (bits ∙ sym (bits_empty shapes tables c.args.layer empty))

pub write_bands-requires-clause-full : goal.write_bands-requires-clause-full
write_bands-requires-clause-full c = any_banded (has_passes c.args.layer) (bands_of c.args.shape.now) c.args.tables.now c.requires.whole ∙ sym c.is_full.ensures ∙ c.if-not-is_full.false

pub returns-clause-told : goal.returns-clause-told
returns-clause-told c =
    let shapes = bands_of c.args.shape.now in
    let tables = banded shapes c.args.tables.now in
    let full : is_full tables c.args.layer ≡ true = any_banded (has_passes c.args.layer) shapes c.args.tables.now c.requires.whole ∙ sym c.is_full.ensures ∙ c.if-not-is_full.false in
    let first : c.push-2.new.self.bits ≡ true ∷ [] = ap (λ (w : Written). w.bits) c.in_ok-push-2.ensures.1 ∙ ap (λ (w : Written). w.bits ++ true ∷ []) c.new-writer.ensures in
    let bits : c.write_bands.new.writer.bits ≡ true ∷ full_bits shapes tables c.args.layer =
    ap (λ (w : Written). w.bits) c.in_ok-write_bands.ensures.told ∙ ap (λ (bs : List Bool). bs ++ full_bits shapes tables c.args.layer) first in
    c.in_ok-bytes-2.ensures.exact.1 ∙ ap stuffed (bits ∙ sym (bits_full shapes tables c.args.layer full))
