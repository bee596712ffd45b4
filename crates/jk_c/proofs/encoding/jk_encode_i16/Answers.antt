use Rattle.jk_c.specs.Answers.{room}
use Rattle.jk_c.proofs.Handing.{signed_encoded}
use Rattle.jk_c.proofs.encoding.jk_encode_i16.Goals as goal

pub returns-clause-refused : goal.returns-clause-refused
returns-clause-refused c = λ unasked.
    let encoded = signed_encoded c.args.frame.now c.args.pixels.now c.args.coding.now (room c.args.out.now c.args.made.now) (room c.encode_pixels.new.out c.encode_pixels.new.made) c.encode_pixels.result c.encode_pixels.ensures in
    encoded.refused (λ is coding. unasked (record { frame = c.is_known_signed.ensures.0 c.if-not-is_known_signed.false; fills = c.fills.ensures.0 c.if-not-fills.false; coding = coding; picture = is }))

pub returns-clause-exact : goal.returns-clause-exact
returns-clause-exact c = λ asked.
    let encoded = signed_encoded c.args.frame.now c.args.pixels.now c.args.coding.now (room c.args.out.now c.args.made.now) (room c.encode_pixels.new.out c.encode_pixels.new.made) c.encode_pixels.result c.encode_pixels.ensures in
    encoded.exact asked.picture asked.coding

pub returns-clause-means : goal.returns-clause-means
returns-clause-means c = λ done.
    let encoded = signed_encoded c.args.frame.now c.args.pixels.now c.args.coding.now (room c.args.out.now c.args.made.now) (room c.encode_pixels.new.out c.encode_pixels.new.made) c.encode_pixels.result c.encode_pixels.ensures in
    encoded.means done
