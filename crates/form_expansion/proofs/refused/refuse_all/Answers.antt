use Rattle.std.proofs.Common.{◌≡◌, ℕ, ◌+◌, ◌<◌, List, Some, length, slice_get, slice_set, take, refl, sym, ap, ◌∙◌, arith, add-one}
use Rattle.std.proofs.lemmas.List.{take_all}
use Rattle.std.proofs.lemmas.Option.{slice_get_read}
use Rattle.core_tree.specs.declared.units.UnitForm as code
use Rattle.unit_sources.specs.declared.units.UnitForm as source
use Rattle.form_expansion.specs.Refused.{refused_forms, refused_if}
use Rattle.form_expansion.proofs.RefusedLaws.{refused_length, refused_step}
use Rattle.form_expansion.proofs.refused.refuse_all.Goals as goal

pub loop-place-preserved : goal.loop-place-preserved
loop-place-preserved c =
    let unit = c.args.unit in
    let ss = c.args.sources.now in
    let i = c.loop-place.place in
    let s = c.index-sources-place.result in
    let old = c.args.forms.now.items in
    let fs = c.loop-place.forms.items in
    let d = c.index_mut.result.now in
    let invariant = c.loop-place.invariant in
    let many : length fs ≡ length old = ap (λ (xs : List code.UnitForm). length xs) invariant ∙ refused_length unit 0 (take i ss) old in
    let below : i < length fs = omega (arith, c.args.forms.now.ok.0) in
    let at : slice_get fs i ≡ Some d = slice_get_read fs (length fs) i d refl below c.index_mut.ensures.value in
    let here : slice_get ss i ≡ Some s = slice_get_read ss (length ss) i s refl c.loop-place-test.true c.index-sources-place.is in
    ap (λ (x : code.UnitForm). slice_set fs i x) (c.refuse_if.ensures ∙ ap (λ (n : ℕ). refused_if unit n s d) c.in_ok-number.ensures)
    ∙ ap (λ (xs : List code.UnitForm). slice_set xs i (refused_if unit i s d)) invariant
    ∙ refused_step unit i (i + 1) ss old s d (add-one i) here (ap (λ (xs : List code.UnitForm). slice_get xs i) (sym invariant) ∙ at)

pub returns : goal.returns
returns c =
    c.loop-place.invariant ∙ ap (λ (ss : List source.UnitForm). refused_forms c.args.unit 0 ss c.args.forms.now.items) (take_all c.loop-place.place c.args.sources.now (omega arith))
