use Rattle.std.proofs.Common.{◌≡◌, ◌-◌, length, drop, sym, ap, ◌∙◌, arith}
use Rattle.std.proofs.lemmas.List.{length-drop, take_all}
use Rattle.byteorder.specs.Endian.{big_number, big_bytes}
use Rattle.jk_math.proofs.Numbers.{number_back, are_bytes_after}
use Rattle.jk_stored.proofs.outline.psot.Goals as goal

pub returns : goal.returns
returns c =
    let rest = drop 6 c.args.head.now in
    let some = c.requires in
    let same : c.read_u32.result ≡ big_number 4 rest = c.read_u32.ensures ∙ ap (big_number 4) (take_all (length c.args.head.now - 6) rest (let e = length-drop 6 c.args.head.now in omega (arith, e))) in
    sym (number_back 4 rest (are_bytes_after 6 c.args.head.now (λ i. omega (arith, c.type_inv.head i))) (let e = length-drop 6 c.args.head.now in omega (arith, e, some))) ∙ ap (big_bytes 4) (sym same)
