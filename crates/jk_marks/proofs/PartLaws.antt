-- A tile-part that is read is spelled so, and one that is spelled so is read.
use Rattle.std.proofs.Common.{◌≡◌, ℕ, zero, suc, ◌+◌, ◌-◌, ◌^◌, ◌<◌, ◌≤◌, Bool, true, false, not, ◌&&◌, cond, eqb, ltb, leb, List, [], ◌∷◌, ◌++◌, length, get_or, take, drop, slice_range, Ok, Err, refl, sym, ap, subst, ◌∙◌, append_assoc, arith, inl, inr, ◌⊎◌, lit<, lit≤}
use Rattle.std.proofs.lemmas.Bool.{ltb-false, le-ltb, eqb-true, eqb-false, leb-true, leb-false, and_parts, not-false, le-leb, lt-leb, ne_eqb, and_left, and_right, eq-eqb}
use Rattle.std.proofs.lemmas.List.{drop_at, take_at, take-append-drop, length-append, length-drop, length-take-le, take_all}
use Rattle.std.specs.List.{flat_map}
use Rattle.byteorder.specs.Endian.{big_number, big_bytes}
use Rattle.jk_math.specs.Steps.{bind_then, refuse_then, guarded, guard_ended, chosen, ok_is}
use Rattle.jk_math.specs.declared.fault.Fault.TheVariants.{Truncated, BadMarker, BadLength, BadValue}
use Rattle.jk_marks.specs.declared.siz.Siz.{Siz}
use Rattle.jk_marks.specs.declared.head.Heading.TheVariants.{FirstPart, LaterPart}
use Rattle.jk_marks.specs.declared.head.TileHead.{TileHead}
use Rattle.jk_marks.specs.declared.tile_part.TilePart.{TilePart}
use Rattle.jk_marks.specs.declared.tile_part.Sot.{Sot}
use Rattle.jk_marks.specs.Place.{ReadingPlace, closed, outside}
use Rattle.jk_marks.specs.Markers.{sot, sod, eoc, marker_text}
use Rattle.jk_marks.specs.Siz.{tile_count}
use Rattle.jk_marks.specs.Segments.{segment_text}
use Rattle.jk_marks.specs.Codestream.{CodestreamPart, sot_text, part_text, part_length, data_start, psot, place_of, head_of, heading_of, BeginsWith, IsPart}
use Rattle.jk_marks.specs.Reading.{number, segment_length, header_at}
use Rattle.jk_marks.specs.HeaderReading.{part_end, sot_at, part_at}
use Rattle.jk_math.proofs.Laws.{AreBytes, are_bytes_after, are_bytes_taken, number_back}
use Rattle.jk_marks.proofs.Steps.{Goes, goes_then, goes_as, number_goes, number_again, length_goes, length_again}
use Rattle.jk_marks.proofs.HeadLaws.{segments_goes}
use Rattle.jk_marks.proofs.HeadAgain.{EndsHeader, segments_again}
use Rattle.jk_marks.proofs.HeadOf.{segments_are, segments_fresh, segments_say}
use Rattle.jk_marks.proofs.MainLaws.{many_bytes}

abbrev EndsOpen : List ℕ → ℕ → ℕ → Type 0
EndsOpen bytes size end = (size ≡ 0) × (end + 2 ≡ length bytes) × (drop end bytes ≡ marker_text eoc)

abbrev EndsClosed : List ℕ → ℕ → ℕ → Type 0
EndsClosed bytes size end = (0 < size) × (end ≡ size) × (size ≤ length bytes)

part_ends : (bytes : List ℕ) (size end : ℕ) → AreBytes bytes → part_end bytes size ≡ Ok end → EndsOpen bytes size end ⊎ EndsClosed bytes size end
unfolding part_end
part_ends bytes size end fits e =
    let n = length bytes in
    let at_end = leb 2 n && eqb (big_number 2 (drop (n - 2) bytes)) eoc in
    elim (chosen (eqb size 0) (cond at_end (Ok (n - 2)) (Err Truncated)) (cond (ltb n size) (Err Truncated) (Ok size)) (Ok end) e) [
      | inl w ↦
          let g = guard_ended at_end Truncated (n - 2) end w.1 in
          let both = and_parts (leb 2 n) (eqb (big_number 2 (drop (n - 2) bytes)) eoc) g.0 in
          let long : 2 ≤ n = leb-true 2 n both.0 in
          let size-is = eqb-true size 0 w.0 in
          let last = drop (n - 2) bytes in
          let two : length last ≡ 2 = omega (arith, length-drop (n - 2) bytes) in
          let marker-is : big_number 2 last ≡ eoc = eqb-true (big_number 2 last) eoc both.1 in
          let back : big_bytes 2 (big_number 2 last) ≡ take 2 last = number_back 2 last (are_bytes_after (n - 2) bytes fits) (omega arith) in
          let whole : take 2 last ≡ last = take_all 2 last (omega arith) in
          inl (size-is, omega (arith, g.1), ap (λ k. drop k bytes) (sym g.1) ∙ sym whole ∙ sym back ∙ ap (big_bytes 2) marker-is)
      | inr w ↦
          let g = guarded (ltb n size) Truncated (Ok size) end w.1 in
          let size-is = ok_is size end g.1 in
          let some = eqb-false size 0 w.0 in
          inr (omega arith, sym size-is, ltb-false n size g.0)
    ]

ends_within : (bytes : List ℕ) (size end : ℕ) → EndsOpen bytes size end ⊎ EndsClosed bytes size end → end ≤ length bytes
ends_within bytes size end (inl w) = omega (arith, w.1)
ends_within bytes size end (inr w) = omega (arith, w.1, w.2)

-- what SOT said
record SotSaid (siz : Siz) (seen bytes : List ℕ) (s : Sot) (q : ReadingPlace) : Type 0 where
  size : ℕ
  total : ℕ
  gone : Goes (closed bytes 0) (sot_text s.tile size s.part total) q
  tile : s.tile < tile_count siz
  narrow : s.tile < 2 ^ 16
  fits : size < 2 ^ 32
  ends : part_end bytes size ≡ Ok s.end
  next : s.part ≡ get_or seen s.tile 0
  few : s.part ≤ 254
  wide : total < 256

sot_goes : (siz : Siz) (seen bytes : List ℕ) (s : Sot) (q : ReadingPlace) → AreBytes bytes → sot_at siz seen bytes (closed bytes 0) ≡ Ok (s, q) → SotSaid siz seen bytes s q
unfolding sot_at
sot_goes siz seen bytes s q fits e =
    let t : Sot × ReadingPlace = (s, q) in
    let p = closed bytes 0 in
    bind_then (number 2 p) _ t e (λ marker s1 e.
    refuse_then (not (eqb marker.0 sot)) BadMarker _ t e (λ is_sot e.
    bind_then (segment_length marker.1) _ t e (λ size s2 e.
    refuse_then (not (eqb size.0 10)) BadLength _ t e (λ is_ten e.
    bind_then (number 2 size.1) _ t e (λ tile s3 e.
    refuse_then (leb (tile_count siz) tile.0) BadValue _ t e (λ is_tile e.
    bind_then (number 4 tile.1) _ t e (λ psot s4 e.
    refuse_then (ltb 0 psot.0 && ltb psot.0 14) BadLength _ t e (λ is_psot e.
    bind_then (part_end bytes psot.0) _ t e (λ end s5 e.
    bind_then (number 1 psot.1) _ t e (λ part s6 e.
    refuse_then (not (eqb part.0 (get_or seen tile.0 0))) BadValue _ t e (λ is_next e.
    refuse_then (ltb 254 part.0) BadValue _ t e (λ is_few e.
    bind_then (number 1 part.1) _ t e (λ total s7 e.
    let g1 = number_goes 2 marker.0 p marker.1 fits s1 in
    let g2 = length_goes size.0 marker.1 size.1 g1.0.bytes s2 in
    let g3 = number_goes 2 tile.0 size.1 tile.1 g2.0.bytes s3 in
    let g4 = number_goes 4 psot.0 tile.1 psot.1 g3.0.bytes s4 in
    let g6 = number_goes 1 part.0 psot.1 part.1 g4.0.bytes s6 in
    let g7 = number_goes 1 total.0 part.1 total.1 g6.0.bytes s7 in
    let r6 = big_bytes 1 total.0 in
    let r5 = big_bytes 1 part.0 ++ r6 in
    let r4 = big_bytes 4 psot.0 ++ r5 in
    let r3 = big_bytes 2 tile.0 ++ r4 in
    let gone = goes_then p (big_bytes 2 marker.0) marker.1 (big_bytes 2 size.0 ++ r3) total.1 g1.0 (goes_then marker.1 (big_bytes 2 size.0) size.1 r3 total.1 g2.0
    (goes_then size.1 (big_bytes 2 tile.0) tile.1 r4 total.1 g3.0 (goes_then tile.1 (big_bytes 4 psot.0) psot.1 r5 total.1 g4.0
    (goes_then psot.1 (big_bytes 1 part.0) part.1 r6 total.1 g6.0 g7.0)))) in
    let text : big_bytes 2 marker.0 ++ (big_bytes 2 size.0 ++ r3) ≡ sot_text tile.0 psot.0 part.0 total.0 =
    ap (λ k. big_bytes 2 k ++ (big_bytes 2 size.0 ++ r3)) (eqb-true _ _ (not-false _ is_sot)) ∙ ap (λ k. marker_text sot ++ (big_bytes 2 k ++ r3)) (eqb-true _ _ (not-false _ is_ten)) in
    let found : Sot = record { tile = tile.0; end = end; part = part.0 } in
    let here : SotSaid siz seen bytes found total.1 = record {
      size = psot.0;
      total = total.0;
      gone = goes_as p _ _ total.1 gone text;
      tile = leb-false _ _ is_tile;
      narrow = omega (arith, g3.1);
      fits = omega (arith, g4.1);
      ends = s5;
      next = eqb-true _ _ (not-false _ is_next);
      few = ltb-false _ _ is_few;
      wide = omega (arith, g7.1);
    } in
    subst (λ (r : Sot × ReadingPlace). SotSaid siz seen bytes r.0 r.1) (ok_is (found, total.1) t e) here)))))))))))))

abbrev pub Found : Siz → List ℕ → List ℕ → TilePart → Type 0
Found siz seen bytes t = (p : CodestreamPart) × IsPart siz p × (p.number ≡ get_or seen p.tile 0) × BeginsWith bytes p × (t ≡ place_of p) × (slice_range bytes t.start t.end ≡ p.content)

-- the data of a part stand at its place
pub content_there : (bytes : List ℕ) (p : CodestreamPart) → BeginsWith bytes p → slice_range bytes (data_start p) (part_length p) ≡ p.content
unfolding part_text
content_there bytes p begins =
    let front = flat_map segment_text p.segments in
    let head = sot_text p.tile (psot p) p.number p.total ++ (front ++ marker_text sod) in
    let rest = p.content ++ begins.others in
    let spelled : part_text p ++ begins.others ≡ head ++ rest =
    ap (λ (x : List ℕ). (sot_text p.tile (psot p) p.number p.total ++ x) ++ begins.others) (sym (append_assoc front (marker_text sod) p.content)) ∙ append_assoc head p.content begins.others in
    let long : length head ≡ data_start p = omega (arith, length-append front (marker_text sod)) in
    let wide : part_length p - data_start p ≡ length p.content = omega arith in
    let after : drop (data_start p) bytes ≡ rest = ap (drop (data_start p)) (begins.text ∙ spelled) ∙ drop_at head rest (data_start p) long in
    ap (take (part_length p - data_start p)) after ∙ ap (λ k. take k rest) wide ∙ take_at p.content begins.others (length p.content) refl

-- and so at the place that the program keeps
place_content : (bytes : List ℕ) (p : CodestreamPart) (t : TilePart) → BeginsWith bytes p → place_of p ≡ t → slice_range bytes t.start t.end ≡ p.content
place_content bytes p t begins e = subst (λ (x : TilePart). slice_range bytes x.start x.end ≡ p.content) e (content_there bytes p begins)

taken_twice : (n end : ℕ) (xs : List ℕ) → n ≤ end → take n (take end xs) ≡ take n xs
taken_twice zero end xs le = refl
taken_twice (suc n) zero xs le = absurd (omega (arith, le))
taken_twice (suc n) (suc end) [] le = refl
taken_twice (suc n) (suc end) (x ∷ xs) le = ap (λ (ys : List ℕ). x ∷ ys) (taken_twice n end xs (omega (arith, le)))

take_take : (bytes front : List ℕ) (n end : ℕ) (rest : List ℕ) → bytes ≡ front ++ rest → length front ≡ n → n ≤ end → take n (take end bytes) ≡ front
take_take bytes front n end rest e len le = taken_twice n end bytes le ∙ ap (take n) e ∙ take_at front rest n len

-- the front of a list, in two parts
front_parts : (bytes front : List ℕ) (n end : ℕ) (rest : List ℕ) → bytes ≡ front ++ rest → length front ≡ n → n ≤ end → take end bytes ≡ front ++ drop n (take end bytes)
front_parts bytes front n end rest e len le =
    sym (take-append-drop n (take end bytes)) ∙ ap (λ (x : List ℕ). x ++ drop n (take end bytes)) (take_take bytes front n end rest e len le)

spelled_part : (tile size part total : ℕ) (front content : List ℕ) → sot_text tile size part total ++ ((front ++ marker_text sod) ++ content)
    ≡ marker_text sot ++ (big_bytes 2 10 ++ (big_bytes 2 tile ++ (big_bytes 4 size ++ (big_bytes 1 part ++ (big_bytes 1 total ++ (front ++ (marker_text sod ++ content)))))))
spelled_part tile size part total front content = ap (λ (x : List ℕ). sot_text tile size part total ++ x) (append_assoc front (marker_text sod) content)

pub found_part : (siz : Siz) (seen bytes : List ℕ) (t : TilePart) → siz.components ≤ 4 → AreBytes bytes → part_at siz seen bytes ≡ Ok t → Found siz seen bytes t
unfolding part_at part_text
found_part siz seen bytes t few fits e =
    bind_then (sot_at siz seen bytes (closed bytes 0)) _ t e (λ s s1 e.
    refuse_then (ltb s.0.end s.1.at) Truncated _ t e (λ long e.
    bind_then (header_at (heading_of s.0.part) siz.components sod (closed (take s.0.end bytes) s.1.at)) _ t e (λ h s2 e.
    let g = sot_goes siz seen bytes s.0 s.1 fits s1 in
    let end = s.0.end in
    let inner = take end bytes in
    let at : s.1.at ≡ 12 = omega (arith, g.gone.at) in
    let le : 12 ≤ end = omega (arith, ltb-false _ _ long, at) in
    let way = part_ends bytes g.size end fits g.ends in
    let within = ends_within bytes g.size end way in
    let inner_fits = are_bytes_after s.1.at inner (are_bytes_taken end bytes fits) in
    let gs = segments_goes (length (drop s.1.at inner)) (heading_of s.0.part) siz.components sod (head_of []) h.0 (outside (closed inner s.1.at)) h.1 inner_fits s2 in
    let ss = gs.segments in
    let front = flat_map segment_text ss in
    let content = h.1.rest in
    let others = drop end bytes in
    let are = segments_are (heading_of s.0.part) siz.components ss few gs.each gs.fresh in
    let say : h.0 ≡ head_of ss = gs.gives ∙ segments_say (heading_of s.0.part) siz.components ss few gs.each gs.fresh in
    let sot_is = sot_text s.0.tile g.size s.0.part g.total in
    let whole : inner ≡ sot_is ++ ((front ++ marker_text sod) ++ content) =
    front_parts bytes sot_is 12 end s.1.rest g.gone.parts refl le ∙ ap (λ (x : List ℕ). sot_is ++ x) (ap (λ k. drop k inner) (sym at) ∙ gs.gone.parts) in
    let all : bytes ≡ inner ++ others = sym (take-append-drop end bytes) in
    let size_of : length inner ≡ end = length-take-le end bytes within in
    let size_is : length inner ≡ length (sot_is ++ ((front ++ marker_text sod) ++ content)) = ap (λ (x : List ℕ). length x) whole in
    let len : end ≡ 14 + length front + length content = omega (arith, size_of, size_is, length-append (front ++ marker_text sod) content, length-append front (marker_text sod)) in
    let start : h.1.at ≡ 14 + length front = omega (arith, gs.gone.at, at, length-append front (marker_text sod)) in
    let spelled : inner ≡ marker_text sot ++ (big_bytes 2 10 ++ (big_bytes 2 s.0.tile ++ (big_bytes 4 g.size ++ (big_bytes 1 s.0.part ++ (big_bytes 1 g.total ++ (front ++ (marker_text sod ++ content))))))) =
    whole ∙ spelled_part s.0.tile g.size s.0.part g.total front content in
    let back : record { tile = s.0.tile; part = s.0.part; head = head_of ss; start = 14 + length front; end = 14 + length front + length content } ≡ t =
    ap (λ k. record { tile = s.0.tile; part = s.0.part; head = head_of ss; start = 14 + length front; end = k }) (sym len)
    ∙ ap (λ k. record { tile = s.0.tile; part = s.0.part; head = head_of ss; start = k; end = end }) (sym start)
    ∙ ap (λ (x : TileHead). record { tile = s.0.tile; part = s.0.part; head = x; start = h.1.at; end = end }) (sym say) ∙ ok_is _ t e in
    elim way [
      | inl w ↦
          let p : CodestreamPart = record { tile = s.0.tile; is_open = true; number = s.0.part; total = g.total; segments = ss; content = content } in
          let text : bytes ≡ part_text p ++ others = all ∙ ap (λ (x : List ℕ). x ++ others) (spelled
          ∙ ap (λ k. marker_text sot ++ (big_bytes 2 10 ++ (big_bytes 2 s.0.tile ++ (big_bytes 4 k ++ (big_bytes 1 s.0.part ++ (big_bytes 1 g.total ++ (front ++ (marker_text sod ++ content)))))))) w.0) in (
            p,
            record { tile = g.tile; narrow = g.narrow; number = g.few; total = g.wide; fits = lit< tt; well_formed = are },
            g.next,
            record { others = others; text = text; last = λ _. w.2 },
            sym back,
            place_content bytes p t (record { others = others; text = text; last = λ _. w.2 }) back,
          )
      | inr w ↦
          let p : CodestreamPart = record { tile = s.0.tile; is_open = false; number = s.0.part; total = g.total; segments = ss; content = content } in
          let says : g.size ≡ part_length p = sym w.1 ∙ len in
          let text : bytes ≡ part_text p ++ others = all ∙ ap (λ (x : List ℕ). x ++ others) (spelled
          ∙ ap (λ k. marker_text sot ++ (big_bytes 2 10 ++ (big_bytes 2 s.0.tile ++ (big_bytes 4 k ++ (big_bytes 1 s.0.part ++ (big_bytes 1 g.total ++ (front ++ (marker_text sod ++ content)))))))) says) in (
            p,
            record { tile = g.tile; narrow = g.narrow; number = g.few; total = g.wide; fits = subst (λ k. k < 2 ^ 32) says g.fits; well_formed = are },
            g.next,
            record { others = others; text = text; last = λ e. absurd cc },
            sym back,
            place_content bytes p t (record { others = others; text = text; last = λ e. absurd cc }) back,
          )
    ])))

part_end_open : (bytes : List ℕ) (front : ℕ) → length bytes ≡ front + 2 → drop front bytes ≡ marker_text eoc → part_end bytes 0 ≡ Ok front
unfolding part_end
part_end_open bytes front len last =
    let n = length bytes in
    let long : leb 2 n ≡ true = le-leb 2 n (omega arith) in
    let at-is : n - 2 ≡ front = omega arith in
    let read : big_number 2 (drop (n - 2) bytes) ≡ eoc = ap (λ k. big_number 2 (drop k bytes)) at-is ∙ ap (big_number 2) last in
    rw (long, read, at-is) refl

part_end_closed : (bytes : List ℕ) (size : ℕ) → 0 < size → size ≤ length bytes → part_end bytes size ≡ Ok size
unfolding part_end
part_end_closed bytes size some long =
    let no_zero : eqb size 0 ≡ false = ne_eqb size 0 (omega arith) in
    let fits : ltb (length bytes) size ≡ false = le-ltb _ _ long in
    rw (no_zero, fits) refl

-- what a spelled part says of its end
part_end_again : (b : Bool) (bytes text others : List ℕ) (n : ℕ) → bytes ≡ text ++ others → length text ≡ n → 0 < n → (b ≡ true → others ≡ marker_text eoc) → part_end bytes (cond b 0 n) ≡ Ok n
part_end_again true bytes text others n e len some last =
    let two : length others ≡ 2 = ap (λ (x : List ℕ). length x) (last refl) in
    let size : length bytes ≡ length (text ++ others) = ap (λ (x : List ℕ). length x) e in
    let closing : drop n bytes ≡ marker_text eoc = ap (drop n) e ∙ drop_at text others n len ∙ last refl in
    part_end_open bytes n (omega (arith, size, two, len, length-append text others)) closing
part_end_again false bytes text others n e len some last =
    let size : length bytes ≡ length (text ++ others) = ap (λ (x : List ℕ). length x) e in
    part_end_closed bytes n some (omega (arith, size, len, length-append text others))

ends_first : EndsHeader FirstPart sod
ends_first = record { no_cod = refl; no_coc = refl; no_qcd = refl; no_qcc = refl; no_other = refl; not_alone = refl; narrow = lit< tt }

ends_later : EndsHeader LaterPart sod
ends_later = record { no_cod = refl; no_coc = refl; no_qcd = refl; no_qcc = refl; no_other = refl; not_alone = refl; narrow = lit< tt }

ends_by : (b : Bool) → EndsHeader (cond b FirstPart LaterPart) sod
ends_by true = ends_first
ends_by false = ends_later

pub ends_part : (n : ℕ) → EndsHeader (heading_of n) sod
ends_part n = ends_by (eqb n 0)

kind_of : (b : Bool) (n : ℕ) → 14 ≤ n → (cond b 0 n ≡ 0) ⊎ (14 ≤ cond b 0 n)
kind_of true n le = inl refl
kind_of false n le = inr le

sot_again : (siz : Siz) (seen bytes rest : List ℕ) (tile size part total end : ℕ) → bytes ≡ sot_text tile size part total ++ rest → tile < 65536 → tile < tile_count siz → size < 2 ^ 32
    → (size ≡ 0) ⊎ (14 ≤ size) → part_end bytes size ≡ Ok end → part ≡ get_or seen tile 0 → part ≤ 254 → total < 256
    → sot_at siz seen bytes (closed bytes 0) ≡ Ok (record { tile = tile; end = end; part = part }, record { rest = rest; at = 12; room = 0 })
unfolding sot_at
sot_again siz seen bytes rest tile size part total end e narrow is_tile small kind ends next few wide =
    let r5 = big_bytes 1 total ++ rest in
    let r4 = big_bytes 1 part ++ r5 in
    let r3 = big_bytes 4 size ++ r4 in
    let r2 = big_bytes 2 tile ++ r3 in
    let r1 = big_bytes 2 10 ++ r2 in
    let room = length bytes - 0 in
    let len : length bytes ≡ 12 + length rest = ap (λ (x : List ℕ). length x) e ∙ omega arith in
    let s1 = number_again 2 sot (closed bytes 0) r1 e (lit< tt) (omega (arith, len)) in
    let s2 = length_again 10 (record { rest = r1; at = 2; room = room - 2 }) r2 refl (lit< tt) (omega (arith, len)) in
    let s3 = number_again 2 tile (record { rest = r2; at = 4; room = 8 }) r3 refl narrow (lit≤ tt) in
    let s4 = number_again 4 size (record { rest = r3; at = 6; room = 6 }) r4 refl small (lit≤ tt) in
    let s6 = number_again 1 part (record { rest = r4; at = 10; room = 2 }) r5 refl (omega (arith, few)) (lit≤ tt) in
    let s7 = number_again 1 total (record { rest = r5; at = 11; room = 1 }) rest refl wide (lit≤ tt) in
    let c3 : leb (tile_count siz) tile ≡ false = lt-leb _ _ is_tile in
    let c4 : ltb 0 size && ltb size 14 ≡ false = elim kind [ inl z ↦ and_left _ _ (le-ltb 0 size (omega (arith, z))) | inr l ↦ and_right _ _ (le-ltb size 14 l) ] in
    let c6 : eqb part (get_or seen tile 0) ≡ true = eq-eqb _ _ next in
    let c7 : ltb 254 part ≡ false = le-ltb _ _ few in
    rw (s1, s2, s3, c3, s4, c4, ends, s6, c6, c7, s7) refl

pub only_part : (siz : Siz) (seen bytes : List ℕ) (p : CodestreamPart) → siz.components ≤ 4 → IsPart siz p → p.number ≡ get_or seen p.tile 0 → BeginsWith bytes p → part_at siz seen bytes ≡ Ok (place_of p)
unfolding part_at part_text
only_part siz seen bytes p few part next begins =
    let front = flat_map segment_text p.segments in
    let content = p.content in
    let others = begins.others in
    let end = part_length p in
    let size = psot p in
    let inner = sot_text p.tile size p.number p.total ++ (front ++ (marker_text sod ++ content)) in
    let e : bytes ≡ inner ++ others = begins.text in
    let inner_len : length inner ≡ end = omega (arith, length-append front (marker_text sod ++ content)) in
    let rest = (front ++ (marker_text sod ++ content)) ++ others in
    let s1 = sot_again siz seen bytes rest p.tile size p.number p.total end e part.narrow part.tile part.fits (kind_of p.is_open end (omega arith))
    (part_end_again p.is_open bytes inner others end e inner_len (omega arith) begins.last) next part.number part.total in
    let c1 : ltb end 12 ≡ false = le-ltb _ _ (omega arith) in
    let front-is : take end bytes ≡ inner = ap (take end) e ∙ take_at inner others end inner_len in
    let heading = heading_of p.number in
    let q = closed (take end bytes) 12 in
    let q-is : q.rest ≡ front ++ (marker_text sod ++ content) = ap (drop 12) front-is in
    let room : length (take end bytes) - 12 ≡ length q.rest = sym (length-drop 12 (take end bytes)) in
    let fresh = segments_fresh heading siz.components p.segments few part.well_formed in
    let q-len : length q.rest ≡ length (front ++ (marker_text sod ++ content)) = ap (λ (x : List ℕ). length x) q-is in
    let fuel : length p.segments < length q.rest = omega (arith, q-len, length-append front (marker_text sod ++ content), many_bytes p.segments) in
    let h = segments_again (length q.rest) heading siz.components sod p.segments (head_of []) (outside q) content q-is refl fuel few (ends_part p.number) part.well_formed.each fresh in
    let say = segments_say heading siz.components p.segments few part.well_formed.each fresh in
    let read : header_at heading siz.components sod q ≡ Ok (head_of p.segments, h.to) = h.read ∙ ap (λ (x : TileHead). Ok (x, h.to)) say in
    let at : h.to.at ≡ 14 + length front = omega (arith, h.at-is) in
    rw (s1, c1, read, at) refl

pub part_within : (siz : Siz) (seen bytes : List ℕ) (t : TilePart) → Found siz seen bytes t → (t.start ≤ t.end) × (t.end ≤ length bytes)
unfolding part_text
part_within siz seen bytes t f =
    let p = f.0 in
    let front = flat_map segment_text p.segments in
    let start : t.start ≡ 14 + length front = ap (λ (k : TilePart). k.start) f.4 in
    let end : t.end ≡ 14 + length front + length p.content = ap (λ (k : TilePart). k.end) f.4 in
    let size = ap (λ (x : List ℕ). length x) f.3.text in
    (omega (arith, start, end), omega (arith, end, size, length-append (part_text p) f.3.others, length-append front (marker_text sod ++ p.content)))
