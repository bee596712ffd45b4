use Rattle.std.proofs.Common.{◌≡◌, suc, ◌-◌, ◌++◌, [], ◌∷◌, Bool, List, sym, ap, ◌∙◌, arith, append_assoc}
use Rattle.std.proofs.lemmas.List.{append-nil}
use Rattle.jk_packet.proofs.Wordings.{binary-zero, binary-suc}
use Rattle.jk_bits.specs.Stuffing.{binary}
use Rattle.jk_bits.specs.Writing.{Written}
use Rattle.jk_packet.proofs.wording.push_number.Goals as goal

pub loop-left-preserved : goal.loop-left-preserved
loop-left-preserved c =
    let k = c.loop-left.left - 1 in
    let more : c.loop-left.left ≡ suc k = (let t = c.loop-left-test.true in omega (arith, t)) in
    record {
      within = (let w = c.loop-left.invariant.within in omega (arith, w));
      sound = ap (λ (w : Written). w.failed) c.in_ok-push.ensures.1 ∙ c.loop-left.invariant.sound;
      told =
          ap (λ (w : Written). w.bits ++ binary k c.args.value) c.in_ok-push.ensures.1
          ∙ append_assoc c.loop-left.writer.bits (c.bit_of.result ∷ []) (binary k c.args.value)
          ∙ ap (λ (b : Bool). c.loop-left.writer.bits ++ (b ∷ binary k c.args.value)) c.bit_of.ensures
          ∙ ap (λ (bs : List Bool). c.loop-left.writer.bits ++ bs) (sym (binary-suc k c.args.value))
          ∙ ap (λ n. c.loop-left.writer.bits ++ binary n c.args.value) (sym more)
          ∙ c.loop-left.invariant.told;
    }

pub returns : goal.returns
returns c =
    let none : c.loop-left.left ≡ 0 = (let t = c.loop-left-test.false in omega (arith, t)) in
    let told : c.loop-left.writer.bits ≡ c.args.writer.now.bits ++ binary c.args.count c.args.value =
    sym (append-nil c.loop-left.writer.bits)
    ∙ ap (λ (bs : List Bool). c.loop-left.writer.bits ++ bs) (sym (binary-zero c.args.value))
    ∙ ap (λ n. c.loop-left.writer.bits ++ binary n c.args.value) (sym none)
    ∙ c.loop-left.invariant.told in
    ap (λ (bs : List Bool). record { bits = bs; failed = c.loop-left.writer.failed }) told
    ∙ ap (λ (b : Bool). record { bits = c.args.writer.now.bits ++ binary c.args.count c.args.value; failed = b }) c.loop-left.invariant.sound
