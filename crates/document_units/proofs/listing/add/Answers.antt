-- One unit more.
use Rattle.std.proofs.Common.{◌≡◌, ◌<◌, ◌+◌, ℕ, List, length, map, refl, ap, ◌∙◌, arith}
use Rattle.unit_sources.specs.declared.units.UnitForm.{UnitForm}
use Rattle.unit_sources.specs.UnitsRead.{forms_of}
use Rattle.scheme_model.specs.Declarations.{unit_or}
use Rattle.scheme_model.specs.Sites.{names_in_forms}
use Rattle.core_tree.specs.Units.{ranges_from}
use Rattle.document_units.proofs.SoundLaws.{sound_more}
use Rattle.document_units.proofs.ListedUnits.{fault_with, unit_added}
use Rattle.document_units.proofs.listing.add.Goals as goal

pub returns-clause-sound : goal.returns-clause-sound
returns-clause-sound c =
    let few : length c.args.units.now.heads.items < 0xFFFF_FFFF = omega (arith, c.requires.units.sources, c.args.units.now.sources.ok.0) in
    sound_more (c.args.document + 1) c.args.units.now _ _ c.args.source c.requires.units few (omega arith) c.requires.read c.in_ok-push.ensures.items c.in_ok-push-2.ensures.items

pub returns-clause-added : goal.returns-clause-added
returns-clause-added c = λ ds u read.
    let place : c.len-place.result ≡ length c.args.units.now.sources.items = omega (arith, c.args.units.now.sources.ok.0) in
    let homes = c.in_ok-homes_of.ensures ∙ (λ i. map (λ (f : UnitForm). unit_or (place i) f.home) (c.as_slice-2.ensures i)) in
    let named = c.in_ok-names_of.ensures ∙ (λ i. names_in_forms (place i) 0 (forms_of (c.as_slice-3.ensures i))) in
    let ranges = c.in_ok-ranges_of.ensures ∙ (λ i. ranges_from (place i) 0 (forms_of (c.as_slice-4.ensures i))) in
    unit_added ds c.args.document u c.args.units.now _ _ c.args.source c.args.name c.args.bad read refl refl refl refl (c.in_ok-firsts_of.ensures ∙ ap (λ (fs : List UnitForm). map (λ (f : UnitForm). f.datum.first) fs) c.as_slice.ensures) homes named c.new.ensures (c.fault_at-fault.ensures ∙ ap (λ (n : ℕ). fault_with n c.args.bad) place) ranges c.in_ok-push.ensures.items c.in_ok-push-2.ensures.items
