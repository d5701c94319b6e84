use Rattle.std.proofs.Common.{◌≡◌, ℕ, ◌<◌, List, [], ◌∷◌, ◌++◌, Option, length, slice_get, slice_index_or, Some, refl, sym, ap, ◌∙◌, subst, arith}
use Rattle.std.specs.FinMap as map
use Rattle.std.specs.Map.{lookup}
use Rattle.std.specs.BTreeMap.{is_at}
use Rattle.std.specs.Ordering.{nat_cmp}
use Rattle.std.proofs.lemmas.Option.{slice_get-get_or}
use Rattle.rules_match.specs.Found.{pair_cmp}
use Rattle.syntax_tree.specs.declared.meaning.Meaning.TheVariants as code
use Rattle.scheme_model.specs.Meaning.{Meaning as ModelMeaning}
use Rattle.scheme_model.specs.ScopedExpansion.{Frames, ScopedState}
use Rattle.unit_scopes.specs.Macros.{macro_in}
use Rattle.unit_scopes.specs.Opened.{BindsImport, HasUnits, ImportsFor, started, with_imports}
use Rattle.unit_scopes.specs.State.{is_program}
use Rattle.unit_scopes.specs.declared.scope.Imported.{Imported}
use Rattle.unit_scopes.specs.declared.scope.UnitScope.{UnitScope}
use Rattle.unit_scopes.specs.Units.{UnitStands}
use Rattle.unit_scopes.proofs.EditionStands.{editions_stay}
use Rattle.unit_scopes.proofs.ForgottenLaws.{unit_owns}
use Rattle.unit_scopes.proofs.FreshLaws.{unit_fresh}
use Rattle.unit_scopes.proofs.ImportLaws.{Importing, importing_none, importing_more, other_root, unit_started}
use Rattle.unit_scopes.proofs.scope.UnitScope.start_unit.Goals as goal
use Rattle.unit_scopes.proofs.scope.UnitScope.start_unit.Goals.{After-drop-self-4}

-- the units once it is opened
abbrev opened : After-drop-self-4 → UnitScope
opened c =
    let l = c.loop-imported in
    record l.self { macros = record l.self.macros { locals = c.new-3.result }; unit = c.args.unit; kind = c.args.kind; root = c.in_ok-root.root; defined = c.new.result; asked = c.new-2.result }

abbrev none : Imported
none = record { symbol = 0; meaning = code.Local 0 }

pub loop-imported-init : goal.loop-imported-init
loop-imported-init c =
    let u = c.args.self.now in
    importing_none c.args.work.now u c.args.unit (is_program c.args.kind) c.args.imports.now c.sound.ensures c.requires.new (record u { env = c.root.new.self }) (λ j. record u { env = c.in_ok-root.ensures.added j })

pub import-requires-clause-numbered : goal.import-requires-clause-numbered
import-requires-clause-numbered c =
    let xs = c.args.imports.now in
    let k = c.loop-imported.imported-index in
    let x : Imported = slice_index_or xs k none in
    subst (λ (ss : List (List ℕ)). x.symbol < length ss) (sym c.loop-imported.invariant.symbols) (c.requires.numbered k x (slice_get-get_or xs k none c.loop-imported-test.true))

pub loop-imported-preserved : goal.loop-imported-preserved
loop-imported-preserved c =
    let xs = c.args.imports.now in
    let k = c.loop-imported.imported-index in
    let x : Imported = slice_index_or xs k none in
    let there : slice_get xs k ≡ Some x = slice_get-get_or xs k none c.loop-imported-test.true in
    let binds = subst (λ (n : ℕ). BindsImport c.loop-imported.work c.import.new.work c.loop-imported.self c.import.new.self c.args.unit n x) c.in_ok-root.ensures.ok c.in_ok-import.ensures.bound in
    importing_more c.args.work.now c.args.self.now c.args.unit (is_program c.args.kind) xs c.sound.ensures c.requires.new c.loop-imported.work c.import.new.work c.loop-imported.self c.import.new.self k x there (c.requires.numbered k x there)
    c.in_ok-import.ensures.symbols c.in_ok-import.ensures.names c.in_ok-import.ensures.trees binds c.loop-imported.invariant

-- the unit stands then
stands : (c : After-drop-self-4) (ls : List Frames) (s : ScopedState) (imported : List ℕ → Option ModelMeaning) → HasUnits c.args.work.now c.args.self.now ls s → ImportsFor c.args.work.now.symbols c.args.imports.now imported → UnitStands c.loop-imported.work (opened c) (ls ++ [] ∷ []) (started c.args.unit (is_program c.args.kind) (with_imports c.args.unit imported s.entry) s) []
stands c ls s imported units is =
    let xs = c.args.imports.now in
    let l = c.loop-imported in
    let end : l.imported-index ≡ length xs = omega (arith, c.loop-imported-test.false, l.auto.imported-index-end) in
    let h = subst (λ (n : ℕ). Importing c.args.work.now l.work c.args.self.now l.self c.args.unit (is_program c.args.kind) xs n) end l.invariant in
    unit_started c.args.work.now l.work c.args.self.now l.self (opened c) c.args.unit c.args.kind xs c.sound.ensures c.requires.new c.told_apart.ensures.idents c.told_apart.ensures.symbols h (record {
      locals = c.new-3.result;
      unit_is = refl;
      kind_is = refl;
      root_is = c.in_ok-root.ensures.ok;
      env = refl;
      macros = ap (λ (v : UnitScope). record v.macros { locals = c.new-3.result }) l.invariant.after;
      cleared = λ form n. λ j. lookup (is_at (pair_cmp (form, n))) (c.new-3.ensures.empty j);
      defined = λ n. λ j. lookup (is_at (nat_cmp n)) (c.new.ensures.empty j);
      count = c.new.ensures.len;
      asked = c.new-2.ensures.notes;
      asks = c.new-2.ensures.stands;
    }) ls s imported units is

pub returns-clause-rests : goal.returns-clause-rests
returns-clause-rests c = λ ls s imported units is. stands c ls s imported units is

pub returns-clause-editions : goal.returns-clause-editions
returns-clause-editions c = λ ls s imported editions units is tells.
    let u = c.args.self.now in
    let l = c.loop-imported in
    let now = opened c in
    editions_stay c.args.work.now l.work l.invariant.names u.macros now.macros ls (ls ++ [] ∷ []) s (started c.args.unit (is_program c.args.kind) (with_imports c.args.unit imported s.entry) s) editions units.macros (stands c ls s imported units is).rests.macros tells
    (λ f v i. ap (λ (w : UnitScope). macro_in (record w.macros { locals = c.new-3.result }) f (code.Global v i)) l.invariant.after) (λ f x. ap (λ (w : UnitScope). macro_in (record w.macros { locals = c.new-3.result }) f (code.Standard x)) l.invariant.after) refl

pub returns-clause-last : goal.returns-clause-last
returns-clause-last c = ap (λ (w : UnitScope). w.macros.editions) c.loop-imported.invariant.after

pub returns-clause-others : goal.returns-clause-others
returns-clause-others c = λ v other new.
    let u = c.args.self.now in
    ap (λ r. map.get r v) c.loop-imported.invariant.roots ∙ other_root u.env.roots c.args.unit (length u.env.scopes) v other new

pub returns-clause-fresh : goal.returns-clause-fresh
returns-clause-fresh c = λ ls s imported units. unit_fresh c.args.work.now c.args.self.now c.args.unit (is_program c.args.kind) c.sound.ensures c.requires.new ls s imported units

pub returns-clause-own : goal.returns-clause-own
returns-clause-own c = λ all.
    let l = c.loop-imported in
    let w : UnitScope = record l.self { macros = record l.self.macros { locals = c.new-3.result }; unit = c.args.unit; kind = c.args.kind; root = c.in_ok-root.root; defined = c.new.result; asked = c.new-2.result } in
    unit_owns c.args.self.now c.args.unit c.sound.ensures c.requires.new w l.invariant.roots l.invariant.scopes c.in_ok-root.ensures.ok all
