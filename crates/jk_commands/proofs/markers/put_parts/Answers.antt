use Rattle.std.proofs.Common.{◌≡◌, ℕ, ◌+◌, ◌-◌, ◌<◌, List, ◌++◌, length, take, drop, append_assoc, refl, sym, ap, ◌∙◌, arith}
use Rattle.std.specs.List.{flat_map}
use Rattle.std.proofs.lemmas.List.{take_rest, append-nil, length-drop}
use Rattle.jk_marks.specs.Markers.{sod}
use Rattle.jk_commands.specs.HeaderMarkers.{part_size, part_markers, parts_from, markers_from}
use Rattle.jk_commands.proofs.WalkLoops.{parts_stop, parts_end, parts_more}
use Rattle.jk_commands.proofs.markers.put_parts.Goals as goal

pub returns-then-size-eq0-clause-markers : goal.returns-then-size-eq0-clause-markers
returns-then-size-eq0-clause-markers c =
    let bytes = c.args.bytes.now in
    let size : part_size (drop c.loop.at bytes) ≡ 0 = ap part_size (sym (take_rest bytes c.loop.at)) ∙ sym c.part_size-size.ensures.value ∙ c.if-size-eq0.true in
    let none = parts_stop (length bytes - c.loop.counter) (drop c.loop.at bytes) size in
    sym (append-nil c.loop.markers.items) ∙ ap (λ (ps : List (List ℕ)). c.loop.markers.items ++ flat_map part_markers ps) (sym none) ∙ c.loop.invariant.left

pub returns-then-size-eq0-clause-count : goal.returns-then-size-eq0-clause-count
returns-then-size-eq0-clause-count c =
    let bytes = c.args.bytes.now in
    let size : part_size (drop c.loop.at bytes) ≡ 0 = ap part_size (sym (take_rest bytes c.loop.at)) ∙ sym c.part_size-size.ensures.value ∙ c.if-size-eq0.true in
    let none = ap (λ (ps : List (List ℕ)). length ps) (parts_stop (length bytes - c.loop.counter) (drop c.loop.at bytes) size) in
    omega (arith, c.loop.invariant.count, none)

pub loop-preserved : goal.loop-preserved
loop-preserved c =
    let bytes = c.args.bytes.now in
    let at = c.loop.at in
    let size = c.part_size-size.result in
    let some : 0 < size = omega (arith, c.if-size-eq0.false) in
    let rest = take_rest bytes at in
    let is : size ≡ part_size (drop at bytes) = c.part_size-size.ensures.value ∙ ap part_size rest in
    let more = parts_more (length bytes) c.loop.counter at size bytes c.loop-test.true is some in
    let later = parts_from (length bytes - (c.loop.counter + 1)) (drop (at + size) bytes) in
    let old = c.loop.markers.items in
    let part : List ℕ = take (length bytes - at) (drop at bytes) in
    let behind = take_rest part 12 ∙ ap (λ (x : List ℕ). drop 12 x) rest in
    let put = c.in_ok-put_markers.ensures ∙ ap (λ (x : List ℕ). old ++ markers_from (length x) sod x) behind in
    record {
      end_is = refl;
      within = omega (arith, c.part_size-size.ensures.within, ap (λ (x : List ℕ). length x) rest, length-drop at bytes);
      few = omega (arith, c.loop.invariant.few, some);
      left =
          ap (λ (xs : List ℕ). xs ++ flat_map part_markers later) put
          ∙ append_assoc old (part_markers (drop at bytes)) (flat_map part_markers later)
          ∙ ap (λ (ps : List (List ℕ)). old ++ flat_map part_markers ps) (sym more)
          ∙ c.loop.invariant.left;
      count = omega (arith, c.loop.invariant.count, ap (λ (ps : List (List ℕ)). length ps) more);
    }

pub returns-clause-markers : goal.returns-clause-markers
returns-clause-markers c =
    let none = parts_end (length c.args.bytes.now) c.loop.counter (drop c.loop.at c.args.bytes.now) c.loop-test.false in
    sym (append-nil c.loop.markers.items) ∙ ap (λ (ps : List (List ℕ)). c.loop.markers.items ++ flat_map part_markers ps) (sym none) ∙ c.loop.invariant.left

pub returns-clause-count : goal.returns-clause-count
returns-clause-count c =
    let none = ap (λ (ps : List (List ℕ)). length ps) (parts_end (length c.args.bytes.now) c.loop.counter (drop c.loop.at c.args.bytes.now) c.loop-test.false) in
    omega (arith, c.loop.invariant.count, none)
