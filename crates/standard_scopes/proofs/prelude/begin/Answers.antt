-- The prelude's unit imports all standard names, and its macros are added.
use Rattle.std.proofs.Common.{ℕ, List, [], ◌∷◌, sym, ap, ◌∙◌, subst}
use Rattle.std.specs.FinMap as map
use Rattle.std.specs.Ordering.{nat_cmp}
use Rattle.scheme_model.specs.Prelude.{prelude}
use Rattle.scheme_model.specs.Program.{prelude_unit}
use Rattle.base_library.specs.Macros.{AreMacros}
use Rattle.base_library.specs.declared.macros.PreludeMacro.{PreludeMacro}
use Rattle.unit_scopes.specs.Preluded.{prelude_begun}
use Rattle.unit_scopes.specs.declared.scope.Imported.{Imported}
use Rattle.unit_scopes.proofs.OutcomeLaws.{grows_on}
use Rattle.standard_scopes.specs.Begun.{AreStandard}
use Rattle.standard_scopes.proofs.Growing.{grows_named, grows_twice, stands_on}
use Rattle.standard_scopes.proofs.prelude.begin.Goals as goal
use Rattle.standard_scopes.proofs.prelude.begin.Goals.{After-as_slice}

standard : (c : After-as_slice) → AreStandard c.all_standard.new.work.symbols c.as_slice.result.now
standard c = subst (λ (xs : List Imported). AreStandard c.all_standard.new.work.symbols xs) (sym c.as_slice.ensures.value) c.in_ok-imports.ensures.standard

pub begin_prelude-requires-clause-new : goal.begin_prelude-requires-clause-new
begin_prelude-requires-clause-new c = c.new-scope.ensures.all_new prelude_unit

pub begin_prelude-requires-clause-numbered : goal.begin_prelude-requires-clause-numbered
begin_prelude-requires-clause-numbered c = (standard c).numbered

pub prelude-requires : goal.prelude-requires
prelude-requires c =
    (grows_twice c.args.work.now c.all_standard.new.work c.begin_prelude.new.work c.args.region.now c.all_standard.ensures.trees c.all_standard.ensures.names c.begin_prelude.ensures.trees c.begin_prelude.ensures.names).trees.regions c.args.region.now c.requires

pub add_macros-requires-clause-macros : goal.add_macros-requires-clause-macros
add_macros-requires-clause-macros c = subst (λ (ms : List PreludeMacro). AreMacros c.prelude.new.work ms prelude) (sym c.into_vec.ensures) c.in-Ok.ensures.macros

pub add_macros-requires-clause-stands : goal.add_macros-requires-clause-stands
add_macros-requires-clause-stands c =
    let all : AreStandard c.all_standard.new.work.symbols c.as_slice.result.now = standard (goal.at.add_macros-requires-clause-stands c).After-as_slice in
    stands_on c.begin_prelude.new.work c.prelude.new.work c.in-Ok.ensures.keeps c.in-Ok.ensures.names c.told_apart.ensures.idents c.told_apart.ensures.symbols c.begin_prelude.new.self ([] ∷ []) prelude_begun []
    (c.in_ok-begin_prelude.ensures.rests (c.new-scope.ensures.units c.all_standard.new.work) all.imports)

pub returns-clause-new : goal.returns-clause-new
returns-clause-new c = λ unit other. ap (λ (m : map.FinMap nat_cmp ℕ). map.get m unit) c.add_macros.ensures.roots ∙ c.in_ok-begin_prelude.ensures.others unit other (c.new-scope.ensures.all_new unit)

-- ---- what the work keeps, whatever is answered

pub returns-in_err-imports-clause-grows : goal.returns-in_err-imports-clause-grows
returns-in_err-imports-clause-grows c = grows_named c.args.work.now c.all_standard.new.work c.args.region.now c.all_standard.ensures.trees c.all_standard.ensures.names

pub returns-in_err-begin_prelude-clause-grows : goal.returns-in_err-begin_prelude-clause-grows
returns-in_err-begin_prelude-clause-grows c =
    grows_twice c.args.work.now c.all_standard.new.work c.begin_prelude.new.work c.args.region.now c.all_standard.ensures.trees c.all_standard.ensures.names c.begin_prelude.ensures.trees c.begin_prelude.ensures.names

pub returns-in-Err-Full-clause-grows : goal.returns-in-Err-Full-clause-grows
returns-in-Err-Full-clause-grows c =
    grows_on c.args.work.now c.begin_prelude.new.work c.prelude.new.work c.args.region.now (grows_twice c.args.work.now c.all_standard.new.work c.begin_prelude.new.work c.args.region.now c.all_standard.ensures.trees c.all_standard.ensures.names c.begin_prelude.ensures.trees c.begin_prelude.ensures.names)
    (record { trees = c.prelude.ensures.keeps; names = c.prelude.ensures.names; regions = c.prelude.ensures.regions; added = c.prelude.ensures.added })

pub returns-in-Err-Memory-clause-grows : goal.returns-in-Err-Memory-clause-grows
returns-in-Err-Memory-clause-grows c =
    grows_on c.args.work.now c.begin_prelude.new.work c.prelude.new.work c.args.region.now (grows_twice c.args.work.now c.all_standard.new.work c.begin_prelude.new.work c.args.region.now c.all_standard.ensures.trees c.all_standard.ensures.names c.begin_prelude.ensures.trees c.begin_prelude.ensures.names)
    (record { trees = c.prelude.ensures.keeps; names = c.prelude.ensures.names; regions = c.prelude.ensures.regions; added = c.prelude.ensures.added })

pub returns-in_err-add_macros-in-Ok-clause-grows : goal.returns-in_err-add_macros-in-Ok-clause-grows
returns-in_err-add_macros-in-Ok-clause-grows c =
    grows_on c.args.work.now c.prelude.new.work c.add_macros.new.work c.args.region.now
    (grows_on c.args.work.now c.begin_prelude.new.work c.prelude.new.work c.args.region.now (grows_twice c.args.work.now c.all_standard.new.work c.begin_prelude.new.work c.args.region.now c.all_standard.ensures.trees c.all_standard.ensures.names c.begin_prelude.ensures.trees c.begin_prelude.ensures.names)
    (record { trees = c.prelude.ensures.keeps; names = c.prelude.ensures.names; regions = c.prelude.ensures.regions; added = c.prelude.ensures.added }))
    (grows_named c.prelude.new.work c.add_macros.new.work c.args.region.now c.add_macros.ensures.trees c.add_macros.ensures.names)

pub returns-clause-grows : goal.returns-clause-grows
returns-clause-grows c =
    grows_on c.args.work.now c.prelude.new.work c.add_macros.new.work c.args.region.now
    (grows_on c.args.work.now c.begin_prelude.new.work c.prelude.new.work c.args.region.now (grows_twice c.args.work.now c.all_standard.new.work c.begin_prelude.new.work c.args.region.now c.all_standard.ensures.trees c.all_standard.ensures.names c.begin_prelude.ensures.trees c.begin_prelude.ensures.names)
    (record { trees = c.prelude.ensures.keeps; names = c.prelude.ensures.names; regions = c.prelude.ensures.regions; added = c.prelude.ensures.added }))
    (grows_named c.prelude.new.work c.add_macros.new.work c.args.region.now c.add_macros.ensures.trees c.add_macros.ensures.names)
