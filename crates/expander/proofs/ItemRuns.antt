-- What was set aside is expanded, each kind by the calls that the code makes for it.
use Rattle.std.proofs.Common.{◌≡◌, ℕ, List, Bool, Option, Result, Ok, Err, Vec, refl, sym, subst, arith}
use Rattle.std.specs.declared.alloc.Global.{Global}
use Rattle.scheme_model.specs.declared.Occ.{Occ}
use Rattle.scheme_model.specs.Ident.{Ident as Identifier}
use Rattle.scheme_model.specs.ExpansionFaults.{Named}
use Rattle.scheme_model.specs.Requirements.{Known}
use Rattle.scheme_model.specs.Shapes.{Clause}
use Rattle.scheme_model.specs.Cores.{Core, Binder, Binders, RecordType, Part, Expression as expression_part, Define as define_part, Values as values_part, Fields as fields_part, Syntax as syntax_part}
use Rattle.scheme_model.specs.Steps.{Step, done}
use Rattle.scheme_model.specs.Order.{Form, Item}
use Rattle.scheme_model.specs.Order as model
use Rattle.scheme_model.specs.Expression.{whole, expand, lambda, assignment, item_part, macro_def, macro_asked, meaning_of}
use Rattle.scheme_model.specs.ScopedExpansion.{Frames}
use Rattle.syntax_tree.specs.declared.trees.Work.{Work}
use Rattle.syntax_tree.specs.declared.trees.table.Region.{Region}
use Rattle.syntax_tree.specs.Meant.{IsMeaning}
use Rattle.syntax_tree.specs.declared.meaning.Meaning as code_meaning
use Rattle.core_tree.specs.Names.{AllMatch, IsBinder, IsField, IsMacro as IsMacroDef}
use Rattle.core_tree.specs.declared.cores.FieldUse as code_field
use Rattle.core_tree.specs.declared.cores.MacroDef as code_macro
use Rattle.core_tree.specs.Cores.{AreBinders, CoreStands, PartStands}
use Rattle.core_tree.specs.declared.cores.Binder as code_binder
use Rattle.core_tree.specs.declared.cores.Core as code_core
use Rattle.core_tree.specs.declared.cores.CorePart as code_part
use Rattle.core_tree.specs.declared.cores.CorePart.TheVariants as parts
use Rattle.unit_scopes.specs.Outcomes.{Grows, SameForm, IsEnough, IsEnoughBelow}
use Rattle.expander.specs.declared.expressions.At as code_at
use Rattle.feature_requirements.specs.declared.fault.ExpandFault.{ExpandFault}
use Rattle.unit_scopes.specs.declared.scope.UnitScope.{UnitScope}
use Rattle.unit_scopes.proofs.CoreStandLaws.{binder_on, binders_on}
use Rattle.expander.proofs.RowRuns.{at_form}
use Rattle.expander.proofs.StepLaws.{runs_mapped, runs_fails}
use Rattle.noted_steps.specs.Noting.{Noting, noting}
use Rattle.noted_steps.specs.Outcomes.{Runs}
use Rattle.noted_steps.specs.Standing.{CanNote, Stands, with_notes}
use Rattle.noted_steps.proofs.NodeLaws.{here_done}
use Rattle.noted_steps.proofs.OutcomeLaws.{here_ends, stays_itself, moves_here, noted_stays}
use Rattle.noted_steps.specs.Kept.{CanLook}

-- a call at a place of its own, as one at this place
pub placed_runs : {X Y : Type 0} (P : List Frames → X → Y → Type 0) (old new : Work) (region : Region) (u v : UnitScope) (at placed : code_at.At) (o : Option Occ) → placed ≡ record at { here = o } → (result : Result X ExpandFault) (g : ℕ → Option Occ → Known → Frames → Step Noting Y) →
    Runs P old new region u v placed.scope result (g placed.depth placed.here) → Runs P old new region u v at.scope result (g at.depth o)
placed_runs P old new region u v at placed o is result g runs = subst (λ (a : code_at.At). Runs P old new region u v a.scope result (g a.depth a.here)) is runs

module _ (old new : Work) (region : Region) (u v : UnitScope) (scope turns depth : ℕ) where
  abbrev Cores : List Frames → code_core.Core → Core → Type 0
  Cores layout = CoreStands new v.unit v.form.number

  abbrev Parts : List Frames → code_part.CorePart → Part → Type 0
  Parts layout = PartStands new v.unit v.form.number

  abbrev part_step : Item Identifier → Known → Frames → Step Noting Part
  part_step i known fs = item_part (expand (noting known) turns) (noting known) depth fs i

  abbrev form_step : Form Identifier → Known → Frames → Step Noting Core
  form_step m known fs = expand (noting known) turns depth m.here fs (whole m.tree)

  -- expressions
  pub item_expression : (m : Form Identifier) (x : code_core.Core) → Runs Cores old new region u v scope (Ok x) (form_step m) → Runs Parts old new region u v scope (Ok (parts.Expression x)) (part_step (model.Expression m))
  item_expression m x runs = runs_mapped Cores Parts old new region u v scope (form_step m) x (parts.Expression x) (λ c. expression_part c) (λ layout c held. (x, refl, held)) runs

  pub item_expression_fails : {V : Type 0} (Q : List Frames → V → Part → Type 0) (m : Form Identifier) (e : ExpandFault) → Runs Cores old new region u v scope (Err e) (form_step m) → Runs Q old new region u v scope (Err e) (part_step (model.Expression m))
  item_expression_fails Q m e runs = runs_fails Cores Q old new region u v scope (form_step m) e (λ known fs c. done (expression_part c)) runs

  -- definitions
  pub item_value : (b : Binder) (y : code_binder.Binder) (m : Form Identifier) (x : code_core.Core) → Grows old new region → SameForm u v → IsBinder old.symbols u.unit u.form.number y b → Runs Cores old new region u v scope (Ok x) (form_step m) →
      Runs Parts old new region u v scope (Ok (parts.Define y x)) (part_step (model.Value b m))
  item_value b y m x grows same binder runs =
      let on = at_form old new region u v grows same (λ unit form. IsBinder new.symbols unit form y b) (binder_on old new grows.trees grows.names u.unit u.form.number y b binder) in
      runs_mapped Cores Parts old new region u v scope (form_step m) x (parts.Define y x) (λ c. define_part b c) (λ layout c held. (y, x, refl, on, held)) runs

  pub item_value_fails : {V : Type 0} (Q : List Frames → V → Part → Type 0) (b : Binder) (m : Form Identifier) (e : ExpandFault) → Runs Cores old new region u v scope (Err e) (form_step m) → Runs Q old new region u v scope (Err e) (part_step (model.Value b m))
  item_value_fails Q b m e runs = runs_fails Cores Q old new region u v scope (form_step m) e (λ known fs c. done (define_part b c)) runs

  pub item_values : (bs : Binders) (ys : Vec code_binder.Binder Global) (dotted : Bool) (m : Form Identifier) (x : code_core.Core) → Grows old new region → SameForm u v → AreBinders old u.unit u.form.number ys dotted bs → Runs Cores old new region u v scope (Ok x) (form_step m) →
      Runs Parts old new region u v scope (Ok (parts.Values ys dotted x)) (part_step (model.ValuesOf bs m))
  item_values bs ys dotted m x grows same binders runs =
      let on = at_form old new region u v grows same (λ unit form. AreBinders new unit form ys dotted bs) (binders_on old new grows.trees grows.names u.unit u.form.number ys.items bs.names binders.0, binders.1) in
      runs_mapped Cores Parts old new region u v scope (form_step m) x (parts.Values ys dotted x) (λ c. values_part bs c) (λ layout c held. (ys, dotted, x, refl, on, held)) runs

  pub item_values_fails : {V : Type 0} (Q : List Frames → V → Part → Type 0) (bs : Binders) (m : Form Identifier) (e : ExpandFault) → Runs Cores old new region u v scope (Err e) (form_step m) → Runs Q old new region u v scope (Err e) (part_step (model.ValuesOf bs m))
  item_values_fails Q bs m e runs = runs_fails Cores Q old new region u v scope (form_step m) e (λ known fs c. done (values_part bs c)) runs

  -- procedures
  abbrev clause_step : Option Occ → Clause Identifier → Known → Frames → Step Noting Core
  clause_step here m known fs = lambda (expand (noting known) turns) (noting known) depth here fs m

  pub item_function : (b : Binder) (y : code_binder.Binder) (here : Option Occ) (m : Clause Identifier) (x : code_core.Core) → Grows old new region → SameForm u v → IsBinder old.symbols u.unit u.form.number y b → Runs Cores old new region u v scope (Ok x) (clause_step here m) →
      Runs Parts old new region u v scope (Ok (parts.Define y x)) (part_step (model.Function b here m))
  item_function b y here m x grows same binder runs =
      let on = at_form old new region u v grows same (λ unit form. IsBinder new.symbols unit form y b) (binder_on old new grows.trees grows.names u.unit u.form.number y b binder) in
      runs_mapped Cores Parts old new region u v scope (clause_step here m) x (parts.Define y x) (λ c. define_part b c) (λ layout c held. (y, x, refl, on, held)) runs

  pub item_function_fails : {V : Type 0} (Q : List Frames → V → Part → Type 0) (b : Binder) (here : Option Occ) (m : Clause Identifier) (e : ExpandFault) → Runs Cores old new region u v scope (Err e) (clause_step here m) → Runs Q old new region u v scope (Err e) (part_step (model.Function b here m))
  item_function_fails Q b here m e runs = runs_fails Cores Q old new region u v scope (clause_step here m) e (λ known fs c. done (define_part b c)) runs

  -- later definitions, read as assignments
  abbrev assigned_step : Named Identifier → Form Identifier → Known → Frames → Step Noting Core
  assigned_step n m known fs = assignment (noting known) depth m.here fs n (λ below. expand (noting known) turns below m.here fs (whole m.tree))

  pub item_assigned : (n : Named Identifier) (m : Form Identifier) (x : code_core.Core) → Runs Cores old new region u v scope (Ok x) (assigned_step n m) → Runs Parts old new region u v scope (Ok (parts.Expression x)) (part_step (model.Assigned n m))
  item_assigned n m x runs = runs_mapped Cores Parts old new region u v scope (assigned_step n m) x (parts.Expression x) (λ c. expression_part c) (λ layout c held. (x, refl, held)) runs

  pub item_assigned_fails : {X V : Type 0} (P : List Frames → X → Core → Type 0) (Q : List Frames → V → Part → Type 0) (n : Named Identifier) (m : Form Identifier) (e : ExpandFault) → Runs P old new region u v scope (Err e) (assigned_step n m) → Runs Q old new region u v scope (Err e) (part_step (model.Assigned n m))
  item_assigned_fails P Q n m e runs = runs_fails P Q old new region u v scope (assigned_step n m) e (λ known fs c. done (expression_part c)) runs

  abbrev assigned_clause_step : Named Identifier → Option Occ → Clause Identifier → Known → Frames → Step Noting Core
  assigned_clause_step n here m known fs = assignment (noting known) depth here fs n (λ below. lambda (expand (noting known) turns) (noting known) below here fs m)

  pub item_assigned_function : (n : Named Identifier) (here : Option Occ) (m : Clause Identifier) (x : code_core.Core) → Runs Cores old new region u v scope (Ok x) (assigned_clause_step n here m) → Runs Parts old new region u v scope (Ok (parts.Expression x)) (part_step (model.AssignedFunction n here m))
  item_assigned_function n here m x runs = runs_mapped Cores Parts old new region u v scope (assigned_clause_step n here m) x (parts.Expression x) (λ c. expression_part c) (λ layout c held. (x, refl, held)) runs

  pub item_assigned_function_fails : {X V : Type 0} (P : List Frames → X → Core → Type 0) (Q : List Frames → V → Part → Type 0) (n : Named Identifier) (here : Option Occ) (m : Clause Identifier) (e : ExpandFault) → Runs P old new region u v scope (Err e) (assigned_clause_step n here m) →
      Runs Q old new region u v scope (Err e) (part_step (model.AssignedFunction n here m))
  item_assigned_function_fails P Q n here m e runs = runs_fails P Q old new region u v scope (assigned_clause_step n here m) e (λ known fs c. done (expression_part c)) runs

-- ---- what needs no expansion

-- a step that does nothing but give a value
module _ {X Y : Type 0} (P : X → Y → Type 0) (work : Work) (region : Region) (u : UnitScope) (scope : ℕ) (x : X) (y : Known → Frames → Noting → Y) where
  pub given_runs : ((known : Known) (ls : List Frames) (s : Noting) (fs : Frames) → Stands work u ls s → P x (y known fs s)) → Runs (λ (layout : List Frames). P) work work region u u scope (Ok x) (λ known fs s. done (y known fs s) s)
  given_runs held = λ known ls s fs knows e there.
      here_ends P work work region u u ls (Ok x) (done (y known fs s) s) (here_done P work work region u u ls x (done (y known fs s) s) (y known fs s) s refl (stays_itself work region u ls s e) (held known ls s fs e))

module _ (work : Work) (region : Region) (u : UnitScope) (scope turns depth : ℕ) where
  pub record_runs : (r : RecordType) (bs fs : Vec code_binder.Binder Global) (ms : Vec ℕ Global) (us : Vec code_field.FieldUse Global) → AllMatch (IsBinder work.symbols u.unit u.form.number) bs.items r.binders → AllMatch (IsBinder work.symbols u.unit u.form.number) fs.items r.fields →
      ms.items ≡ r.modified → AllMatch IsField us.items r.used → Runs (λ (layout : List Frames). PartStands work u.unit u.form.number) work work region u u scope (Ok (parts.Fields bs fs ms us)) (λ known fs. item_part (expand (noting known) turns) (noting known) depth fs (model.Record r))
  record_runs r bs fs ms us binders fields modified used =
      given_runs (PartStands work u.unit u.form.number) work region u scope (parts.Fields bs fs ms us) (λ known fs s. fields_part r) (λ known ls s frames e. (bs, fs, ms, us, refl, binders, fields, modified, used))

pub macro_told : (work : Work) (u : UnitScope) (scope : ℕ) (b : code_binder.Binder) (m : code_meaning.Meaning) (d : Binder) → CanLook work u scope → IsBinder work.symbols u.unit u.form.number b d → IsMeaning work.symbols u.unit u.form.number m (meaning_of d.bound d.ident) → CanNote work u b m
macro_told work u scope b m d l binder h = record {
  layout = l.layout;
  state = l.state;
  binder = d;
  stands = l.stands;
  is = subst (λ (n : ℕ). IsBinder work.symbols n l.state.form b d) l.stands.unit (subst (λ (n : ℕ). IsBinder work.symbols u.unit n b d) l.stands.form.number binder);
  means = subst (λ (n : ℕ). IsMeaning work.symbols n l.state.form m (meaning_of d.bound d.ident)) l.stands.unit (subst (λ (n : ℕ). IsMeaning work.symbols u.unit n m (meaning_of d.bound d.ident)) l.stands.form.number h);
}

-- a macro, with what it asks
module _ (work : Work) (region : Region) (u v : UnitScope) (scope turns depth : ℕ) (same : v ≡ with_notes u v.form.trace.notes) (d : Binder) (here : Option Occ) (b : code_binder.Binder) (m : code_meaning.Meaning) (x : code_macro.MacroDef)
    (binder : IsBinder work.symbols u.unit u.form.number b d) (meaning : IsMeaning work.symbols u.unit u.form.number m (meaning_of d.bound d.ident))
    (told : (known : Known) (ls : List Frames) (s : Noting) (b2 : Binder) → Stands work u ls s → IsBinder work.symbols s.unit s.form b b2 → IsMeaning work.symbols s.unit s.form m (meaning_of b2.bound b2.ident) → IsMacroDef work s.unit s.form x (macro_def (noting known) s b2))
    (notes : (known : Known) (ls : List Frames) (s : Noting) (b2 : Binder) → Stands work u ls s → IsBinder work.symbols s.unit s.form b b2 → IsMeaning work.symbols s.unit s.form m (meaning_of b2.bound b2.ident) → Stands work v ls ((noting known).ask (macro_asked (noting known) s b2) s)) where
  pub macro_runs : Runs (λ (layout : List Frames). PartStands work v.unit v.form.number) work work region u v scope (Ok (parts.Syntax x)) (λ known fs. item_part (expand (noting known) turns) (noting known) depth fs (model.Macro d here))
  macro_runs = λ known ls s fs knows e there.
      let on : (P : ℕ → ℕ → Type 0) → P u.unit u.form.number → P s.unit s.form = λ P h. subst (λ (n : ℕ). P n s.form) e.unit (subst (P u.unit) e.form.number h) in
      let now : IsBinder work.symbols s.unit s.form b d = on (λ unit form. IsBinder work.symbols unit form b d) binder in
      let means : IsMeaning work.symbols s.unit s.form m (meaning_of d.bound d.ident) = on (λ unit form. IsMeaning work.symbols unit form m (meaning_of d.bound d.ident)) meaning in
      let t = (noting known).ask (macro_asked (noting known) s d) s in
      let after = notes known ls s d e now means in
      let def = told known ls s d e now means in
      let back : IsMacroDef work v.unit v.form.number x (macro_def (noting known) s d) = subst (λ (n : ℕ). IsMacroDef work n v.form.number x (macro_def (noting known) s d)) (sym after.unit) (subst (λ (n : ℕ). IsMacroDef work s.unit n x (macro_def (noting known) s d)) (sym after.form.number) def) in
      let stays = noted_stays work region u v ls s t e same after in
      (syntax_part (macro_def (noting known) s d), moves_here work work region u v ls t stays, refl, (x, refl, back))

-- so many turns are enough for what stands deeper
pub enough_here : (depth uses turns : ℕ) → IsEnough depth uses turns → IsEnoughBelow depth uses turns
enough_here depth uses turns h = omega (arith, h)
