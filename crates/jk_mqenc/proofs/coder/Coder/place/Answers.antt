use Rattle.std.proofs.Common.{◌∙◌, ap, sym}
use Rattle.jk_mqenc.specs.Machine.{Machine, placed_after}
use Rattle.jk_mqenc.proofs.Holdings.{byte_out-is}
use Rattle.jk_mqenc.proofs.Finishing.{at_of}
use Rattle.jk_mqenc.proofs.coder.Coder.place.Goals as goal

pub returns : goal.returns
returns c = record {
  done =
      let old = c.args.self.now in
      let new = c.put-2.new.self in
      let p = c.in_ok-placement.placement in
      let e = c.in_ok-placement.ensures in
      ap (λ (m : Machine). at_of p.code m.width p.count m.placed) c.self.view_is
      ∙ ap (λ x. at_of p.code x p.count new.placed) (ap (λ (m : Machine). m.width) e.rest)
      ∙ sym (e.placed old.width)
      ∙ ap (λ (m : Machine). placed_after old.placed m.code old.width) c.put.view_is
      ∙ sym (byte_out-is old);
}
