use Rattle.std.proofs.Common.{◌≡◌, ◌-◌, ◌++◌, ◌∷◌, [], ℕ, ℤ, List, length, map, drop, pos, ap, ◌∙◌, arith}
use Rattle.std.specs.Global.{Vec}
use Rattle.std.proofs.lemmas.List.{length-drop}
use Rattle.jk_math.specs.Lists.{lists_of}
use Rattle.jk_pnm.specs.Reading.{raster_size}
use Rattle.jk_pnm.proofs.Tails.{grey_plane}
use Rattle.jk_pnm.proofs.reading.grey_picture.Goals as goal

pub returns : goal.returns
returns c =
    let h = c.args.header.now in
    let bytes = c.args.bytes.items in
    let raster : List ℕ = drop (length bytes - raster_size h) bytes in
    let samples = c.in_ok-samples.samples in
    let values = c.in_ok-samples.ensures.value ∙ ap (λ (n : ℕ). map pos (drop (length bytes - n) bytes)) c.raster_size.ensures in
    let whole : length raster ≡ raster_size h = let long = length-drop (length bytes - raster_size h) bytes in let room = c.requires.room in omega (arith, long, room) in
    let lists : lists_of c.push.new.self.items ≡ samples.items ∷ [] = ap (λ (ps : List (Vec ℤ)). lists_of ps) (c.in_ok-push.ensures.items ∙ ap (λ (ps : List (Vec ℤ)). ps ++ samples ∷ []) c.in_ok-planes.ensures.items) in
    c.page.ensures raster (lists ∙ grey_plane h raster samples.items c.requires.grey c.requires.narrow whole values)
