use Rattle.std.proofs.Common.{◌≡◌, List, [], ◌∷◌, ◌++◌, length, refl, sym, ◌∙◌, arith}
use Rattle.base_library.specs.declared.macros.PreludeMacro.{PreludeMacro}
use Rattle.unit_scopes.proofs.ImportLaws.{same_trees}
use Rattle.unit_scopes.proofs.OutcomeLaws.{names_itself, names_on}
use Rattle.standard_scopes.proofs.PreludeMacros.{Adding, adding_begins, adding_same, all_added, all_counted, all_told, can_add_last, last_rules, last_added}
use Rattle.standard_scopes.proofs.prelude.add_macros.Goals as goal
use Rattle.standard_scopes.proofs.prelude.add_macros.Goals.{After-drop-rest-2}

pub loop-name-init : goal.loop-name-init
loop-name-init c = record { adding = adding_begins c.args.work.now c.args.scope.now c.args.macros.items c.requires.macros c.requires.stands; trees = refl; names = names_itself c.args.work.now.symbols; roots = refl }

pub add_prelude-requires-clause-can : goal.add_prelude-requires-clause-can
add_prelude-requires-clause-can c =
    let l = c.loop-name in let m : PreludeMacro = c.in-Some.field-0 in let ms = c.pop.new.self.items in
    can_add_last c.args.work.now c.args.scope.now l.work l.scope ms m (adding_same c.args.work.now c.args.scope.now l.work l.scope l.rest.items (ms ++ m ∷ []) c.in-Some.ensures.items l.invariant.adding)

pub add_prelude-requires-clause-rules : goal.add_prelude-requires-clause-rules
add_prelude-requires-clause-rules c =
    let l = c.loop-name in let m : PreludeMacro = c.in-Some.field-0 in let ms = c.pop.new.self.items in
    last_rules c.args.work.now c.args.scope.now l.work l.scope ms m (adding_same c.args.work.now c.args.scope.now l.work l.scope l.rest.items (ms ++ m ∷ []) c.in-Some.ensures.items l.invariant.adding)

pub loop-name-preserved : goal.loop-name-preserved
loop-name-preserved c =
    let l = c.loop-name in let m : PreludeMacro = c.in-Some.field-0 in let ms = c.pop.new.self.items in let a = c.add_prelude in
    record {
      adding = last_added c.args.work.now c.args.scope.now l.work l.scope ms m (adding_same c.args.work.now c.args.scope.now l.work l.scope l.rest.items (ms ++ m ∷ []) c.in-Some.ensures.items l.invariant.adding) a.new.work a.new.self
          (same_trees l.work a.new.work a.ensures.trees a.ensures.names) a.ensures.names c.told_apart.ensures.idents c.told_apart.ensures.symbols c.in_ok-add_prelude.ensures.added c.in_ok-add_prelude.ensures.last c.in_ok-add_prelude.ensures.editions;
      trees = a.ensures.trees ∙ l.invariant.trees;
      names = names_on c.args.work.now.symbols l.work.symbols a.new.work.symbols l.invariant.names a.ensures.names;
      roots = a.ensures.roots ∙ l.invariant.roots;
    }

-- none is left
none_left : (ms : List PreludeMacro) → length ms ≡ 0 → ms ≡ []
none_left [] h = refl
none_left (m ∷ ms) h = absurd (omega arith)

-- all are added then
at_end : (c : After-drop-rest-2) → Adding c.args.work.now c.args.scope.now c.loop-name.work c.loop-name.scope []
at_end c =
    let l = c.loop-name in
    adding_same c.args.work.now c.args.scope.now l.work l.scope l.rest.items [] (none_left l.rest.items (sym l.rest.ok.0 ∙ c.in_default.ensures.cases.0)) l.invariant.adding

pub returns-clause-stands : goal.returns-clause-stands
returns-clause-stands c = all_added c.args.work.now c.args.scope.now c.loop-name.work c.loop-name.scope (at_end c)

pub returns-clause-editions : goal.returns-clause-editions
returns-clause-editions c = λ editions begins none tells. all_told c.args.work.now c.args.scope.now c.loop-name.work c.loop-name.scope (at_end c) editions begins none tells

pub returns-clause-last : goal.returns-clause-last
returns-clause-last c = λ none. all_counted c.args.work.now c.args.scope.now c.loop-name.work c.loop-name.scope (at_end c) none

pub returns-in_err-add_prelude-clause-names : goal.returns-in_err-add_prelude-clause-names
returns-in_err-add_prelude-clause-names c =
    let l = c.loop-name in let a = c.add_prelude in names_on c.args.work.now.symbols l.work.symbols a.new.work.symbols l.invariant.names a.ensures.names
