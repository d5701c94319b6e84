use Rattle.std.proofs.Common.{ℕ, List, [], Bor, refl, sym, ◌∙◌, subst}
use Rattle.core_tree.specs.Names.{AllMatch}
use Rattle.unit_scopes.specs.declared.scope.Imported.{Imported}
use Rattle.unit_scopes.proofs.OutcomeLaws.{names_itself, names_on}
use Rattle.standard_scopes.specs.Begun.{IsStandardName}
use Rattle.standard_scopes.proofs.StandardNames.{some_more, none_more, all_gathered}
use Rattle.standard_scopes.proofs.prelude.all_standard.Goals as goal
use Rattle.standard_scopes.proofs.prelude.all_standard.Goals.{in-Some+in_ok-add_standard, in_default}

pub loop-library-init : goal.loop-library-init
loop-library-init c = record {
  are = subst (λ (xs : List Imported). AllMatch (IsStandardName c.args.work.now.symbols) xs []) (sym c.new-imports.ensures.items) tt;
  trees = refl;
  names = names_itself c.args.work.now.symbols;
}

pub loop-library-preserved : goal.loop-library-preserved
loop-library-preserved c =
    let l = c.loop-library in
    let ls = c.standard_library_names-library-items.result.now in
    let d : Bor (List ℕ) = record { ref_ptr = (0, 0); now = [] } in
    elim c.match-branch-2.branch [
      | in-Some+in_ok-add_standard w ↦ (
          let e = w.in_ok-add_standard.ensures in
          rw (w.work-is, w.imports-is)
          (record {
            are = some_more l.work.symbols w.add_standard.new.work.symbols e.names l.imports.items w.add_standard.new.imports.items ls l.library-index d w.in-Some.names c.loop-library-test.true (sym w.in-Some.is ∙ c.in_ok-names.ensures.names) l.invariant.are e.added;
            trees = e.trees ∙ l.invariant.trees;
            names = names_on c.args.work.now.symbols l.work.symbols w.add_standard.new.work.symbols l.invariant.names e.names;
          })
          )
      | in_default w ↦ (
          rw (w.work-is, w.imports-is)
          (record {
            are = none_more l.work.symbols l.imports.items ls l.library-index d c.loop-library-test.true (sym w.in_default.is ∙ c.in_ok-names.ensures.names) l.invariant.are;
            trees = l.invariant.trees;
            names = l.invariant.names;
          })
          )
    ]

pub returns-clause-standard : goal.returns-clause-standard
returns-clause-standard c =
    let l = c.loop-library in
    all_gathered l.work.symbols l.imports.items c.standard_library_names-library-items.result.now l.library-index c.loop-library-test.false c.standard_library_names-library-items.ensures l.invariant.are
