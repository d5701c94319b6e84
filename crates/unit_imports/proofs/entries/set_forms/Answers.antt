-- Forms are gone through by their numbers.
use Rattle.std.proofs.Common.{◌≡◌, ◌+◌, ◌++◌, ℕ, List, append-nil, length, map, refl, sym, ap, subst, ◌∙◌, arith, add-one}
use Rattle.std.proofs.lemmas.List.{length-map}
use Rattle.std.proofs.lemmas.Option.{slice_get_read}
use Rattle.scheme_model.specs.Declarations.{UnitForm}
use Rattle.scheme_model.specs.Program.{ImportSpec, specs_in}
use Rattle.core_tree.specs.Units.{set_forms}
use Rattle.unit_sources.specs.UnitsRead.{form_of, forms_of}
use Rattle.unit_imports.proofs.Collecting.{mapped_at}
use Rattle.unit_imports.proofs.GivenLaws.{drop_past}
use Rattle.unit_imports.proofs.SetErrors.{forms_next}
use Rattle.unit_imports.proofs.entries.set_forms.Goals as goal

pub loop-place-init : goal.loop-place-init
loop-place-init c = λ unit. ap (λ (ns : List ℕ). ns ++ set_forms unit 0 (forms_of c.args.forms.now)) c.new-all.ensures.items

pub loop-place-preserved : goal.loop-place-preserved
loop-place-preserved c = λ unit.
    let fs = c.args.forms.now in
    let n = c.loop-place.place in
    let f = c.index-forms-place.result in
    let old = c.loop-place.all.items in
    let new = c.add_set_forms.new.all.items in
    let one : new ≡ old ++ map (λ (s : ImportSpec). n) (specs_in unit n (form_of f)) =
    subst (λ (k : ℕ). new ≡ old ++ map (λ (s : ImportSpec). k) (specs_in unit k (form_of f))) c.in_ok-number.ensures (c.in_ok-add_set_forms.ensures unit) in
    forms_next unit (forms_of fs) n (n + 1) (form_of f) old new _ (add-one n) (mapped_at form_of fs n f (slice_get_read fs (length fs) n f refl (omega arith) c.index-forms-place.is)) one (c.loop-place.invariant unit)

pub returns : goal.returns
returns c = λ unit.
    let fs = c.args.forms.now in
    let n = c.loop-place.place in
    let now = c.loop-place.all.items in
    let past = drop_past (forms_of fs) n (let e = length-map fs form_of in omega arith) in
    sym (append-nil now) ∙ (ap (λ (gs : List UnitForm). now ++ set_forms unit n gs) (sym past) ∙ c.loop-place.invariant unit)
