use Rattle.std.proofs.Common.{List, ℕ, refl, sym, ◌∙◌, arith}
use Rattle.std.specs.BTreeMap.{get_by_text}
use Rattle.import_sets.specs.Firsts.{place_in}
use Rattle.unit_sources.specs.declared.units.ImportSpec.{ImportSpec}
use Rattle.unit_sources.specs.Named.{imported_places}
use Rattle.scheme_model.specs.Includes.{max_units}
use Rattle.document_units.proofs.BrokenLaws.{place_step, set_below}
use Rattle.document_units.proofs.breaking.imports_of.Goals as goal

pub push_place-requires : goal.push_place-requires
push_place-requires c = λ n e. set_below (λ (s : List ℕ). get_by_text c.args.firsts.now s) max_units c.requires c.spec-item.result.set n (sym c.place_in.ensures ∙ e)

pub loop-spec-preserved : goal.loop-spec-preserved
loop-spec-preserved c =
    let find = λ (s : List ℕ). get_by_text c.args.firsts.now s in
    place_step (λ (x : ImportSpec). place_in find x.set) (imported_places find) (λ x xs. refl) c.args.specs.now c.loop-spec.spec-index c.spec-item.result c.place_in.result c.loop-spec.places c.push_place.new.places (imported_places find c.args.specs.now)
    (omega arith) c.spec-item.is c.place_in.ensures c.in_ok-push_place.ensures c.loop-spec.invariant
