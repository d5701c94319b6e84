-- The prelude's unit imports all standard names, and its macros are added once more.
use Rattle.std.proofs.Common.{ℕ, List, [], sym, ap, ◌∙◌, subst}
use Rattle.std.specs.FinMap as map
use Rattle.std.specs.Ordering.{nat_cmp}
use Rattle.scheme_model.specs.Prelude.{prelude}
use Rattle.scheme_model.specs.Program.{prelude_unit}
use Rattle.base_library.specs.Macros.{AreMacros}
use Rattle.base_library.specs.declared.macros.PreludeMacro.{PreludeMacro}
use Rattle.syntax_tree.specs.Names.{KeepsNames}
use Rattle.unit_scopes.specs.Preluded.{prelude_state}
use Rattle.unit_scopes.specs.declared.scope.Imported.{Imported}
use Rattle.unit_scopes.proofs.ImportLaws.{same_trees}
use Rattle.unit_scopes.proofs.OutcomeLaws.{names_on}
use Rattle.standard_scopes.specs.Begun.{AreStandard}
use Rattle.standard_scopes.proofs.Growing.{own_alone}
use Rattle.standard_scopes.proofs.PreludeMacros.{macros_on, none_told}
use Rattle.standard_scopes.proofs.prelude.begin_again.Goals as goal
use Rattle.standard_scopes.proofs.prelude.begin_again.Goals.{After-as_slice, After-begin_prelude}

standard : (c : After-as_slice) → AreStandard c.all_standard.new.work.symbols c.as_slice.result.now
standard c = subst (λ (xs : List Imported). AreStandard c.all_standard.new.work.symbols xs) (sym c.as_slice.ensures.value) c.in_ok-imports.ensures.standard

pub begin_prelude-requires-clause-new : goal.begin_prelude-requires-clause-new
begin_prelude-requires-clause-new c = c.new-scope.ensures.all_new prelude_unit

pub begin_prelude-requires-clause-numbered : goal.begin_prelude-requires-clause-numbered
begin_prelude-requires-clause-numbered c = (standard c).numbered

pub add_macros-requires-clause-macros : goal.add_macros-requires-clause-macros
add_macros-requires-clause-macros c =
    let old = c.args.work.now in
    let now = c.begin_prelude.new.work in
    let names : KeepsNames old.symbols now.symbols = names_on old.symbols c.all_standard.new.work.symbols now.symbols c.all_standard.ensures.names c.begin_prelude.ensures.names in
    let there = macros_on old now (same_trees old now (c.begin_prelude.ensures.trees ∙ c.all_standard.ensures.trees) names) names c.told_apart.ensures.idents c.told_apart.ensures.symbols c.args.macros.now prelude c.requires in
    subst (λ (ms : List PreludeMacro). AreMacros now ms prelude) (sym c.in_ok-copies.ensures) there

pub add_macros-requires-clause-stands : goal.add_macros-requires-clause-stands
add_macros-requires-clause-stands c =
    let all : AreStandard c.all_standard.new.work.symbols c.as_slice.result.now = standard (goal.at.add_macros-requires-clause-stands c).After-as_slice in
    c.in_ok-begin_prelude.ensures.rests (c.new-scope.ensures.units c.all_standard.new.work) all.imports

pub returns-clause-new : goal.returns-clause-new
returns-clause-new c = λ unit other. ap (λ (m : map.FinMap nat_cmp ℕ). map.get m unit) c.add_macros.ensures.roots ∙ c.in_ok-begin_prelude.ensures.others unit other (c.new-scope.ensures.all_new unit)

pub returns-clause-own : goal.returns-clause-own
returns-clause-own c = own_alone c.add_macros.new.work c.add_macros.new.scope (prelude_state prelude) [] c.in_ok-add_macros.ensures.stands

pub returns-clause-editions : goal.returns-clause-editions
returns-clause-editions c = λ editions begins.
    let all : AreStandard c.all_standard.new.work.symbols c.as_slice.result.now = standard (goal.at.returns-clause-editions c).After-as_slice in
    c.in_ok-add_macros.ensures.editions editions begins (c.in_ok-begin_prelude.ensures.last ∙ c.new-scope.ensures.last)
    (c.in_ok-begin_prelude.ensures.editions editions (c.new-scope.ensures.units c.all_standard.new.work) all.imports (c.new-scope.ensures.editions c.all_standard.new.work.symbols editions (none_told editions begins)))

pub returns-clause-last : goal.returns-clause-last
returns-clause-last c = c.in_ok-add_macros.ensures.last (c.in_ok-begin_prelude.ensures.last ∙ c.new-scope.ensures.last)

pub returns-in_err-add_macros-clause-names : goal.returns-in_err-add_macros-clause-names
returns-in_err-add_macros-clause-names c =
    let old = c.args.work.now.symbols in
    let begun = names_on old c.all_standard.new.work.symbols c.begin_prelude.new.work.symbols c.all_standard.ensures.names c.begin_prelude.ensures.names in
    names_on old c.begin_prelude.new.work.symbols c.add_macros.new.work.symbols begun c.add_macros.ensures.names

pub returns-clause-names : goal.returns-clause-names
returns-clause-names c =
    let old = c.args.work.now.symbols in
    let begun = names_on old c.all_standard.new.work.symbols c.begin_prelude.new.work.symbols c.all_standard.ensures.names c.begin_prelude.ensures.names in
    names_on old c.begin_prelude.new.work.symbols c.add_macros.new.work.symbols begun c.add_macros.ensures.names
