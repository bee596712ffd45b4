use Rattle.std.proofs.Common.{◌≡◌, ◌-◌, length, length-drop, drop, codes, take_all, sym, ap, ◌∙◌, arith}
use Rattle.std.specs.Str.{bytes_eq}
use Rattle.std.proofs.lemmas.Bool.Decides.{Decides-eqb, not_from_Decides, nat_tests}
use Rattle.std.proofs.lemmas.Slice.Eq.{bytes_eq-Decides, starts_is}
use Rattle.jk_web.proofs.ResourceLaws.{at_listing, at_other, cut_path, cut_whole, cut_window, cut_deeper, window_end}
use Rattle.jk_web.proofs.resource.resource_of.Goals as goal

pub returns-then-eq : goal.returns-then-eq
returns-then-eq c =
    let same = ap (bytes_eq c.args.path.now) (sym c.as_slice.ensures) ∙ sym c.eq.ensures ∙ c.if-eq.true in
    λ names each. at_listing c.args.path.now names ((bytes_eq-Decides c.args.path.now (codes "/images")).0 same)

pub returns-then-not-starts_with : goal.returns-then-not-starts_with
returns-then-not-starts_with c =
    let differ = ap (bytes_eq c.args.path.now) (sym c.as_slice.ensures) ∙ sym c.eq.ensures ∙ c.if-eq.false in
    let starts = starts_is Decides-eqb c.args.path.now (codes "/images/") c.starts_with.result c.starts_with.ensures.value in
    λ names each. at_other c.args.path.now names each differ (λ x e. let t = starts.1 x e in cc)

pub returns-then-is_empty : goal.returns-then-is_empty
returns-then-is_empty c =
    let path = c.args.path.now in
    let starts = starts_is Decides-eqb path (codes "/images/") c.starts_with.result c.starts_with.ensures.value in
    let cut = cut_path path _ c.cut_at.result.0.now c.cut_at.result.1.now (starts.0 c.if-not-starts_with.false)
    (take_all (length path - 8) (drop 8 path) (omega (arith, length-drop 8 path))) c.cut_at.ensures.before c.cut_at.ensures.after in
    let none : length c.cut_at.result.1.now ≡ 0 = grind (arith, nat_tests) in
    λ names each. cut_whole path c.cut_at.result.0.now c.cut_at.result.1.now names each cut none

pub returns-then-eq-2 : goal.returns-then-eq-2
returns-then-eq-2 c =
    let path = c.args.path.now in
    let starts = starts_is Decides-eqb path (codes "/images/") c.starts_with.result c.starts_with.ensures.value in
    let cut = cut_path path _ c.cut_at.result.0.now c.cut_at.result.1.now (starts.0 c.if-not-starts_with.false)
    (take_all (length path - 8) (drop 8 path) (omega (arith, length-drop 8 path))) c.cut_at.ensures.before c.cut_at.ensures.after in
    let same = ap (bytes_eq c.cut_at.result.1.now) (sym c.as_slice-else-is_empty.ensures) ∙ sym c.eq-else-is_empty.ensures ∙ c.if-eq-2.true in
    λ names each. cut_window path c.cut_at.result.0.now c.cut_at.result.1.now names each cut ((bytes_eq-Decides c.cut_at.result.1.now window_end).0 same)

pub returns-else-eq-2 : goal.returns-else-eq-2
returns-else-eq-2 c =
    let path = c.args.path.now in
    let starts = starts_is Decides-eqb path (codes "/images/") c.starts_with.result c.starts_with.ensures.value in
    let cut = cut_path path _ c.cut_at.result.0.now c.cut_at.result.1.now (starts.0 c.if-not-starts_with.false)
    (take_all (length path - 8) (drop 8 path) (omega (arith, length-drop 8 path))) c.cut_at.ensures.before c.cut_at.ensures.after in
    let differ = ap (bytes_eq c.cut_at.result.1.now) (sym c.as_slice-else-is_empty.ensures) ∙ sym c.eq-else-is_empty.ensures ∙ c.if-eq-2.false in
    let some : length c.cut_at.result.1.now ≡ 0 → ⊥ = grind (arith, nat_tests) in
    λ names each. cut_deeper path c.cut_at.result.0.now c.cut_at.result.1.now names each cut some
    (not_from_Decides (bytes_eq c.cut_at.result.1.now window_end) (bytes_eq-Decides c.cut_at.result.1.now window_end) differ)
