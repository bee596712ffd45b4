use Rattle.std.proofs.Common.{◌≡◌, ℕ, List, ◌-◌, ◌<◌, length, get_or, take, drop, sym, ap, ◌∙◌, arith}
use Rattle.std.proofs.lemmas.List.{get_or_default}
use Rattle.jk_packet.specs.declared.table.LayerPart.{LayerPart}
use Rattle.jk_packet.specs.Written.{Table, part_in}
use Rattle.jk_packet.specs.Writing.{begin_of, end_of}
use Rattle.jk_packet.proofs.TableLaws.{ends_within, part_behind, part_past}
use Rattle.jk_packet.proofs.table.BlockTable.bytes.Goals as goal

pub returns-then-index-len : goal.returns-then-index-len
returns-then-index-len c =
    let s = c.self.inside in
    sym (ap (λ (p : ℕ × List ℕ). p.1) (part_past s.zero_planes s.skipped c.args.layer s.parts.items s.bytes.items c.if-layer-self.false (let t = c.if-index-len.true in let e = c.len.ensures in let o = s.parts.ok.0 in omega (arith, t, e, o))))
    ∙ ap (λ (t : Table). (part_in t c.args.layer).1) c.self.view_is

pub cut-requires-clause-begin : goal.cut-requires-clause-begin
cut-requires-clause-begin c =
    let s = c.self.inside in
    let k = c.args.layer - s.skipped in
    let parts = c.deref.result.now in
    let same : parts ≡ s.parts.items = c.deref.ensures.value in
    let less : k < length s.parts.items = (let t = c.if-index-len.false in let e = c.len.ensures in let o = s.parts.ok.0 in omega (arith, t, e, o)) in
    let within = ends_within s.parts.items (length s.bytes.items) k less c.self.invariant in
    let begin : c.place_of-begin.result.0 ≡ begin_of s.parts.items k = c.place_of-begin.ensures.begin ∙ ap (λ (ps : List LayerPart). begin_of ps k) same in
    let end_is : c.place_of-begin.result.1 ≡ end_of s.parts.items k = c.place_of-begin.ensures.end ∙ ap (λ (ps : List LayerPart). end_of ps k) same in
    let low = within.0 in
    omega (arith, begin, end_is, low)

pub cut-requires-clause-end : goal.cut-requires-clause-end
cut-requires-clause-end c =
    let s = c.self.inside in
    let k = c.args.layer - s.skipped in
    let parts = c.deref.result.now in
    let same : parts ≡ s.parts.items = c.deref.ensures.value in
    let less : k < length s.parts.items = (let t = c.if-index-len.false in let e = c.len.ensures in let o = s.parts.ok.0 in omega (arith, t, e, o)) in
    let within = ends_within s.parts.items (length s.bytes.items) k less c.self.invariant in
    let begin : c.place_of-begin.result.0 ≡ begin_of s.parts.items k = c.place_of-begin.ensures.begin ∙ ap (λ (ps : List LayerPart). begin_of ps k) same in
    let end_is : c.place_of-begin.result.1 ≡ end_of s.parts.items k = c.place_of-begin.ensures.end ∙ ap (λ (ps : List LayerPart). end_of ps k) same in
    let high = within.1 in
    let long = ap length c.deref-2.ensures.value in
    omega (arith, end_is, high, long)

pub returns : goal.returns
returns c =
    let s = c.self.inside in
    let k = c.args.layer - s.skipped in
    let parts = c.deref.result.now in
    let same : parts ≡ s.parts.items = c.deref.ensures.value in
    let less : k < length s.parts.items = (let t = c.if-index-len.false in let e = c.len.ensures in let o = s.parts.ok.0 in omega (arith, t, e, o)) in
    let within = ends_within s.parts.items (length s.bytes.items) k less c.self.invariant in
    let begin : c.place_of-begin.result.0 ≡ begin_of s.parts.items k = c.place_of-begin.ensures.begin ∙ ap (λ (ps : List LayerPart). begin_of ps k) same in
    let end_is : c.place_of-begin.result.1 ≡ end_of s.parts.items k = c.place_of-begin.ensures.end ∙ ap (λ (ps : List LayerPart). end_of ps k) same in
    let part = get_or s.parts.items k record { passes = 0; end = 0 } in
    c.cut.ensures
    ∙ ap (λ (bs : List ℕ). take (c.place_of-begin.result.1 - c.place_of-begin.result.0) (drop c.place_of-begin.result.0 bs)) c.deref-2.ensures.value
    ∙ ap (λ e. take (e - c.place_of-begin.result.0) (drop c.place_of-begin.result.0 s.bytes.items)) end_is
    ∙ ap (λ b. take (end_of s.parts.items k - b) (drop b s.bytes.items)) begin
    ∙ sym (ap (λ (p : ℕ × List ℕ). p.1) (part_behind s.zero_planes s.skipped c.args.layer s.parts.items s.bytes.items part c.if-layer-self.false less (get_or_default s.parts.items k record { passes = 0; end = 0 } part less)))
    ∙ ap (λ (t : Table). (part_in t c.args.layer).1) c.self.view_is
