-- Core forms with parts, each by the calls that the code makes for it: assignments, procedures, sequences, chosen forms.
use Rattle.std.proofs.Common.{◌≡◌, ℕ, ◌+◌, List, Option, None, Result, Ok, Err, Vec, refl, sym, ap, ◌∙◌, subst}
use Rattle.std.specs.Global.{Box}
use Rattle.std.specs.BTreeSet.{BTreeSet}
use Rattle.std.specs.Prelude.{String}
use Rattle.std.specs.declared.alloc.Global.{Global}
use Rattle.scheme_model.specs.declared.Occ.{Occ}
use Rattle.scheme_model.specs.Trees.{Tree, Trees, map_tree}
use Rattle.scheme_model.specs.Holes.{hole_places}
use Rattle.scheme_model.specs.Quasiquote.{Mark, Pieces, quasi_of}
use Rattle.scheme_model.specs.Ident.{Ident as Identifier, symbol_of}
use Rattle.scheme_model.specs.ExpansionFaults.{Named, Fault, BadForm, BadPlace, fault_code, fault_name, ◌>>◌, error_text}
use Rattle.scheme_model.specs.Keywords.{CoreKeyword}
use Rattle.scheme_model.specs.Requirements.{Known}
use Rattle.scheme_model.specs.Shapes.{Clause}
use Rattle.scheme_model.specs.Cores.{Core, Set, Quasi, Lambda, Body, Parts, outside}
use Rattle.scheme_model.specs.Steps.{Broken, Step, ◌>>=◌, done, fails}
use Rattle.scheme_model.specs.Order.{Here, target_of, given}
use Rattle.scheme_model.specs.Expression.{whole, expand, node, procedure, lambda, sequence, expressions, chosen_sequence, quasi, each_of, symbol_or_hole}
use Rattle.scheme_model.specs.ScopedExpansion.{Frames}
use Rattle.syntax_tree.specs.Works.{StandsFor}
use Rattle.syntax_tree.specs.declared.trees.Work.{Work}
use Rattle.syntax_tree.specs.declared.trees.nodes.Tree as number
use Rattle.syntax_tree.specs.declared.trees.table.Region.{Region}
use Rattle.core_forms.specs.Forms.{Shape, Quoted, Quasi as quasi_shape, Procedure, Procedures, Conditional, Assignment, Sequence, Definition, Several, RecordType, Syntax, Local, Choices, ErrorText, Inclusion}
use Rattle.core_forms.specs.Parts.{AllMatch as AllParts, IsName, IsChoice, AreTrees}
use Rattle.core_forms.specs.declared.shape.Choice.{Choice}
use Rattle.core_forms.specs.declared.shape.NamePart.{NamePart}
use Rattle.core_tree.specs.Names.{IsTarget}
use Rattle.core_tree.specs.Cores.{CoreStands, PartsStand as PartsOfCores}
use Rattle.core_tree.specs.declared.cores.Clause as code_clause
use Rattle.core_tree.specs.declared.cores.Core as code_core
use Rattle.core_tree.specs.declared.cores.Core.TheVariants as cores
use Rattle.core_tree.specs.declared.cores.CorePart as code_part
use Rattle.core_tree.specs.declared.cores.Target as code_target
use Rattle.expander.specs.CoreSteps.{core_step}
use Rattle.feature_requirements.specs.Faults.{plain_fault}
use Rattle.expander.specs.Expanded.{ClauseStands}
use Rattle.feature_requirements.specs.Judged.{Knows, ChoosesForms, chosen_among, forms_chosen, some_chosen}
use Rattle.unit_scopes.specs.Outcomes.{At, Grows, SameForm}
use Rattle.expander.specs.Ready.{BeginsBelow}
use Rattle.expander.specs.declared.expressions.At as code_at
use Rattle.feature_requirements.specs.declared.fault.ExpandFault.{ExpandFault}
use Rattle.feature_requirements.specs.declared.fault.ExpandFault.TheVariants as fault
use Rattle.unit_scopes.specs.declared.scope.UnitScope.{UnitScope}
use Rattle.expander.proofs.BelowLaws.{same_fault}
use Rattle.feature_requirements.proofs.ChoiceLaws.{chosen_sequence_is}
use Rattle.unit_scopes.proofs.CoreStandLaws.{target_on}
use Rattle.expander.proofs.ExpandLaws.{EachRuns, each_node, each_node_fails}
use Rattle.expander.proofs.HoleLaws.{quasi_holes, quasi_places}
use Rattle.unit_scopes.proofs.OutcomeLaws.{leaves_itself}
use Rattle.expander.proofs.ReadLaws.{target_at}
use Rattle.expander.proofs.ShapeParts.{IsMisplaced}
use Rattle.expander.proofs.StepLaws.{node_runs, node_stops, node_none}
use Rattle.noted_steps.specs.Noting.{Noting, means_here, noting}
use Rattle.noted_steps.specs.Outcomes.{Ends, Runs}
use Rattle.noted_steps.specs.Standing.{Stands}
use Rattle.noted_steps.specs.Stepped.{spent}
use Rattle.noted_steps.proofs.NodeLaws.{fails_here}
use Rattle.noted_steps.proofs.OutcomeLaws.{here_ends}

-- a fault at once, with nothing done
pub fault_ends : {V B : Type 0} (Q : List Frames → V → B → Type 0) (work : Work) (region : Region) (u : UnitScope) (ls : List Frames) (s : Noting) (here : Option Occ) (f : Fault Identifier) → Stands work u ls s → fault_name f ≡ None → error_text f ≡ None →
    Ends Q work work region u u ls (Err (plain_fault here (fault_code f))) (fails {A = B} here f s)
fault_ends {V} {B} Q work region u ls s here f e named text =
    same_fault (λ (layout : List Frames) (x : V) (y : B). Unit {0}) Q work work region u u ls (plain_fault here (fault_code f)) (fails {A = B} here f s)
    (here_ends (λ (x : V) (y : B). Unit {0}) work work region u u ls (Err (plain_fault here (fault_code f))) (fails {A = B} here f s) (fails_here (λ (x : V) (y : B). Unit {0}) work region u ls s here f e named text))

-- ---- assignments

module _ (old new : Work) (region : Region) (u w v : UnitScope) (at below : code_at.At) (h : BeginsBelow u w at 1 (Ok below)) (x : NamePart) (n : Named Identifier) (name : IsName old x n) (value : Known → Frames → ℕ → Option Occ → Step Noting Core) where
  abbrev assign : Known → Frames → Step Noting Core
  assign known fs = node (noting known) at.here 1 at.depth (λ d t. value known fs d at.here t >>= λ c. done (Set (target_of (noting known) fs t n.name n.occ) c))

  abbrev ValueRuns : Result code_core.Core ExpandFault → Type 0
  ValueRuns result = Runs (λ (layout : List Frames). CoreStands new v.unit v.form.number) old new region w v below.scope result (λ known fs. value known fs below.depth below.here)

  -- what the name means where the node has begun
  abbrev Targets : code_target.Target → Type 0
  Targets target = (ls : List Frames) (s : Noting) (fs : Frames) (n : Named Identifier) → Stands old w ls s → At ls at.scope fs → IsName old x n →
      IsTarget old.symbols s.unit s.form target (record { meaning = means_here s fs n.name; ident = n.name; occ = n.occ })

  pub assigned_runs : (target : code_target.Target) (y : Box code_core.Core) → Grows old new region → SameForm w v → Targets target → ValueRuns (Ok y.value) →
      Runs (λ (layout : List Frames). CoreStands new v.unit v.form.number) old new region u v at.scope (Ok (cores.Set target y)) assign
  assigned_runs target y grows same targets runs =
      node_runs old new region u w v at below 1 h (λ (layout : List Frames). CoreStands new v.unit v.form.number) (λ (layout : List Frames). CoreStands new v.unit v.form.number)
      value y.value (cores.Set target y) (λ known fs t c. Set (target_of (noting known) fs t n.name n.occ) c)
      (λ known ls s fs layout m e there held.
      let t = target_of (noting known) fs (spent 1 s) n.name n.occ in
      let on = target_on old new grows.trees grows.names s.unit s.form target t (targets ls (spent 1 s) fs n e there name) in
      (target, y, refl, target_at new.symbols v.unit v.form.number s.unit s.form target t (same.unit ∙ e.unit) (same.number ∙ e.form.number) on, held)) runs

  pub assigned_fails : {V : Type 0} (Q : List Frames → V → Core → Type 0) (e : ExpandFault) → ValueRuns (Err e) → Runs Q old new region u v at.scope (Err e) assign
  assigned_fails Q e runs =
      node_stops old new region u w v at below 1 h (λ (layout : List Frames). CoreStands new v.unit v.form.number) Q value e (λ known fs t c. done (Set (target_of (noting known) fs t n.name n.occ) c)) runs

-- ---- procedures

module _ (old new : Work) (region : Region) (u w v : UnitScope) (at below : code_at.At) (h : BeginsBelow u w at 1 (Ok below)) (turns : ℕ) (c : Clause Identifier) where
  abbrev ClauseRuns : Result code_clause.Clause ExpandFault → Type 0
  ClauseRuns result = Runs (λ (layout : List Frames). ClauseStands new v.unit v.form.number) old new region w v below.scope result (λ known fs. procedure (expand (noting known) turns) (noting known) below.depth below.here fs c)

  pub lambda_runs : (x : code_clause.Clause) → ClauseRuns (Ok x) → Runs (λ (layout : List Frames). CoreStands new v.unit v.form.number) old new region u v at.scope (Ok (cores.Lambda x)) (λ known fs. lambda (expand (noting known) turns) (noting known) at.depth at.here fs c)
  lambda_runs x runs =
      node_runs old new region u w v at below 1 h (λ (layout : List Frames). ClauseStands new v.unit v.form.number) (λ (layout : List Frames). CoreStands new v.unit v.form.number)
      (λ known fs d o. procedure (expand (noting known) turns) (noting known) d o fs c) x (cores.Lambda x) (λ known fs t q. Lambda q.0 q.1)
      (λ known ls s fs layout q e there held. (x, held.0, refl, held.1, held.2)) runs

  pub lambda_fails : {V : Type 0} (Q : List Frames → V → Core → Type 0) (e : ExpandFault) → ClauseRuns (Err e) → Runs Q old new region u v at.scope (Err e) (λ known fs. lambda (expand (noting known) turns) (noting known) at.depth at.here fs c)
  lambda_fails Q e runs =
      node_stops old new region u w v at below 1 h (λ (layout : List Frames). ClauseStands new v.unit v.form.number) Q
      (λ known fs d o. procedure (expand (noting known) turns) (noting known) d o fs c) e (λ known fs t q. done (Lambda q.0 q.1)) runs

-- ---- sequences

module _ (old new : Work) (region : Region) (u w v : UnitScope) (at below : code_at.At) (h : BeginsBelow u w at 1 (Ok below)) (turns : ℕ) (ts : Trees Identifier) where
  abbrev PartsFor : List Frames → Vec code_part.CorePart Global → Parts → Type 0
  PartsFor layout ps ms = PartsOfCores new v.unit v.form.number ps.items ms

  abbrev PartsRun : Result (Vec code_part.CorePart Global) ExpandFault → Type 0
  PartsRun result = Runs PartsFor old new region w v below.scope result (λ known fs. expressions (λ u. expand (noting known) turns below.depth below.here fs (whole u)) ts)

  pub sequence_runs : (ps : Vec code_part.CorePart Global) → PartsRun (Ok ps) → Runs (λ (layout : List Frames). CoreStands new v.unit v.form.number) old new region u v at.scope (Ok (cores.Body ps)) (λ known fs. sequence (expand (noting known) turns) (noting known) at.depth at.here fs ts)
  sequence_runs ps runs =
      node_runs old new region u w v at below 1 h PartsFor (λ (layout : List Frames). CoreStands new v.unit v.form.number)
      (λ known fs d o. expressions (λ u. expand (noting known) turns d o fs (whole u)) ts) ps (cores.Body ps) (λ known fs t ms. Body ms) (λ known ls s fs layout ms e there held. (ps, refl, held)) runs

  pub sequence_fails : {V : Type 0} (Q : List Frames → V → Core → Type 0) (e : ExpandFault) → PartsRun (Err e) → Runs Q old new region u v at.scope (Err e) (λ known fs. sequence (expand (noting known) turns) (noting known) at.depth at.here fs ts)
  sequence_fails Q e runs =
      node_stops old new region u w v at below 1 h PartsFor Q (λ known fs d o. expressions (λ u. expand (noting known) turns d o fs (whole u)) ts) e (λ known fs t ms. done (Body ms)) runs

-- ---- the chosen forms of `cond-expand`

module _ (known : Known) (turns depth : ℕ) (here : Here) (fs : Frames) (cs : List (Tree Identifier × Trees Identifier)) (s : Noting) where
  abbrev goes : Result (Trees Identifier) (Fault Identifier) → Result Core Broken × Noting
  goes r = given (λ (i : Identifier). i) here r s >>= sequence (expand (noting known) turns) (noting known) depth here fs

  choices_step : (r : Result (Option (Trees Identifier)) (Fault Identifier)) → (given (λ (i : Identifier). i) here r s >>= chosen_sequence (expand (noting known) turns) (noting known) depth here fs) ≡ goes (r >> some_chosen)
  choices_step (Ok c) = chosen_sequence_is (expand (noting known) turns) (noting known) depth here fs c s
  choices_step (Err e) = refl

  pub choices_goes : (k : CoreKeyword) (ts : Trees Identifier) → forms_chosen known cs ≡ Ok ts → core_step (expand (noting known) turns) (noting known) depth here fs k (Choices cs) s ≡ sequence (expand (noting known) turns) (noting known) depth here fs ts s
  choices_goes k ts h = choices_step (chosen_among known cs) ∙ ap goes h

  pub choices_fails : (k : CoreKeyword) → forms_chosen known cs ≡ Err BadForm → core_step (expand (noting known) turns) (noting known) depth here fs k (Choices cs) s ≡ fails here BadForm s
  choices_fails k h = choices_step (chosen_among known cs) ∙ ap goes h

module _ (work : Work) (region : Region) (u : UnitScope) (at : code_at.At) (turns : ℕ) (choices : List Choice) (k : CoreKeyword) (cs : List (Tree Identifier × Trees Identifier)) (are : AllParts (IsChoice work) choices cs) where
  abbrev pub Chosen : Result (Vec number.Tree Global) ExpandFault → Type 0
  Chosen result = (known : Known) (ps : List (Tree Identifier × Trees Identifier)) → Knows u.libraries known → AllParts (IsChoice work) choices ps → ChoosesForms work at.here result (forms_chosen known ps)

  pub chosen_runs : {V : Type 0} (Q : List Frames → V → Core → Type 0) (new : Work) (v : UnitScope) (ns : Vec number.Tree Global) (result : Result V ExpandFault) → Chosen (Ok ns) →
      ((ts : Trees Identifier) → AreTrees work ns ts → Runs Q work new region u v at.scope result (λ known fs. sequence (expand (noting known) turns) (noting known) at.depth at.here fs ts)) →
      Runs Q work new region u v at.scope result (λ known fs. core_step (expand (noting known) turns) (noting known) at.depth at.here fs k (Choices cs))
  chosen_runs Q new v ns result chosen runs = λ known ls s fs knows e there.
      let q = chosen known cs knows are in
      subst (λ (p : Result Core Broken × Noting). Ends Q work new region u v ls result p) (sym (choices_goes known turns at.depth at.here fs cs s k q.0 q.1)) (runs q.0 q.2 known ls s fs knows e there)

  pub chosen_fails : {V : Type 0} (Q : List Frames → V → Core → Type 0) (e : ExpandFault) → Chosen (Err e) →
      Runs Q work work region u u at.scope (Err e) (λ known fs. core_step (expand (noting known) turns) (noting known) at.depth at.here fs k (Choices cs))
  chosen_fails {V} Q (fault.At e) chosen = λ known ls s fs knows stands there.
      let q = chosen known cs knows are in
      subst (λ (p : Result Core Broken × Noting). Ends Q work work region u u ls (Err (fault.At e)) p) (sym (choices_fails known turns at.depth at.here fs cs s k q.0))
      (subst (λ (x : ExpandFault). Ends Q work work region u u ls (Err x) (fails {A = Core} at.here BadForm s)) (sym q.1)
      (fault_ends Q work region u ls s at.here BadForm stands refl refl))
  chosen_fails Q fault.Full chosen = λ known ls s fs knows stands there. absurd (chosen known cs knows are)
  chosen_fails Q fault.Memory chosen = λ known ls s fs knows stands there. leaves_itself work region u stands.form.few_nodes

-- the judge has the works and the libraries of the call
pub chosen_here : (work : Work) (region : Region) (u : UnitScope) (at : code_at.At) (turns : ℕ) (choices : List Choice) (k : CoreKeyword) (cs : List (Tree Identifier × Trees Identifier)) (are : AllParts (IsChoice work) choices cs) (seen : Work) (libraries : BTreeSet (String Global)) (result : Result (Vec number.Tree Global) ExpandFault) →
    seen ≡ work → libraries ≡ u.libraries → ((known : Known) (ps : List (Tree Identifier × Trees Identifier)) → Knows libraries known → AllParts (IsChoice seen) choices ps → ChoosesForms seen at.here result (forms_chosen known ps)) → Chosen work region u at turns choices k cs are result
chosen_here work region u at turns choices k cs are seen libraries result same known_ones h = λ known ps knows match.
    subst (λ (x : Work). ChoosesForms x at.here result (forms_chosen known ps)) same
    (h known ps (subst (λ (l : BTreeSet (String Global)). Knows l known) (sym known_ones) knows) (subst (λ (x : Work). AllParts (IsChoice x) choices ps) (sym same) match))

-- ---- quasiquotations

module _ (old new : Work) (region : Region) (u w v : UnitScope) (at below : code_at.At) (count : ℕ) (h : BeginsBelow u w at count (Ok below)) (turns : ℕ) (n : number.Tree) (t : Tree Identifier) (p : Pieces Identifier) (counted : count ≡ 1 + outside p.datum) where
  abbrev quasi_step : ℕ → Known → Frames → Step Noting Core
  quasi_step k known fs = node (noting known) at.here k at.depth (λ d t. each_of (λ x. expand (noting known) turns d at.here fs (whole x)) p.holes t >>= λ cs. done (Quasi (map_tree (symbol_or_hole symbol_of) p.datum) cs))

  pub quasi_runs : (mark : Identifier → Option Mark) (places : Vec ℕ Global) (xs : Vec code_core.Core Global) → StandsFor new n t → quasi_of mark t ≡ Ok p → places.items ≡ hole_places p.datum → EachRuns old new region u w v at below count turns h p.holes (Ok xs) →
      Runs (λ (layout : List Frames). CoreStands new v.unit v.form.number) old new region u v at.scope (Ok (cores.Quasi n places xs)) (λ known fs. quasi (expand (noting known) turns) (noting known) at.depth at.here fs p)
  quasi_runs mark places xs stands read there runs =
      let holed = map_tree (symbol_or_hole symbol_of) p.datum in
      subst (λ (k : ℕ). Runs (λ (layout : List Frames). CoreStands new v.unit v.form.number) old new region u v at.scope (Ok (cores.Quasi n places xs)) (quasi_step k)) counted
      (each_node old new region u w v at below count turns h p.holes xs (cores.Quasi n places xs) (λ ms. Quasi holed ms)
      (λ ms held. (n, places, xs, refl, (t, stands, quasi_holes symbol_of mark t p read, there ∙ sym (quasi_places symbol_of p)), held)) runs)

  pub quasi_fails : {V : Type 0} (Q : List Frames → V → Core → Type 0) (e : ExpandFault) → EachRuns old new region u w v at below count turns h p.holes (Err e) →
      Runs Q old new region u v at.scope (Err e) (λ known fs. quasi (expand (noting known) turns) (noting known) at.depth at.here fs p)
  quasi_fails Q e runs =
      subst (λ (k : ℕ). Runs Q old new region u v at.scope (Err e) (quasi_step k)) counted
      (each_node_fails old new region u w v at below count turns h p.holes Q e (λ ms. Quasi (map_tree (symbol_or_hole symbol_of) p.datum) ms) runs)

pub quasi_unbegun : (work : Work) (region : Region) (u w : UnitScope) (at : code_at.At) (count turns : ℕ) (p : Pieces Identifier) → count ≡ 1 + outside p.datum → {V : Type 0} (Q : List Frames → V → Core → Type 0) (e : ExpandFault) → BeginsBelow u w at count (Err e) →
    Runs Q work work region u w at.scope (Err e) (λ known fs. quasi (expand (noting known) turns) (noting known) at.depth at.here fs p)
quasi_unbegun work region u w at count turns p counted Q e h =
    subst (λ (k : ℕ). Runs Q work work region u w at.scope (Err e) (λ known fs. node (noting known) at.here k at.depth (λ d t. each_of (λ x. expand (noting known) turns d at.here fs (whole x)) p.holes t >>= λ cs. done (Quasi (map_tree (symbol_or_hole symbol_of) p.datum) cs)))) counted
    (node_none Q work region u w at count e (λ known fs d t. each_of (λ x. expand (noting known) turns d at.here fs (whole x)) p.holes t >>= λ cs. done (Quasi (map_tree (symbol_or_hole symbol_of) p.datum) cs)) h)

-- ---- definitions, which have no place among expressions

module _ (work : Work) (region : Region) (u : UnitScope) (at : code_at.At) (turns : ℕ) (k : CoreKeyword) where
  abbrev form_step : Shape → Known → Frames → Step Noting Core
  form_step m known fs = core_step (expand (noting known) turns) (noting known) at.depth at.here fs k m

  placed_nowhere : {V : Type 0} (Q : List Frames → V → Core → Type 0) → Runs Q work work region u u at.scope (Err (plain_fault at.here 33)) (λ known fs. fails {A = Core} at.here BadPlace)
  placed_nowhere Q = λ known ls s fs knows e there. fault_ends Q work region u ls s at.here BadPlace e refl refl

  pub misplaced_runs : {V : Type 0} (Q : List Frames → V → Core → Type 0) (m : Shape) → IsMisplaced m → Runs Q work work region u u at.scope (Err (plain_fault at.here 33)) (form_step m)
  misplaced_runs Q (Definition d) is = placed_nowhere Q
  misplaced_runs Q (Several p) is = placed_nowhere Q
  misplaced_runs Q (RecordType r) is = placed_nowhere Q
  misplaced_runs Q (Syntax p) is = placed_nowhere Q
  misplaced_runs Q (Quoted t) is = absurd is
  misplaced_runs Q (quasi_shape t p) is = absurd is
  misplaced_runs Q (Procedure c) is = absurd is
  misplaced_runs Q (Procedures cs) is = absurd is
  misplaced_runs Q (Conditional ts) is = absurd is
  misplaced_runs Q (Assignment p) is = absurd is
  misplaced_runs Q (Sequence ts) is = absurd is
  misplaced_runs Q (Local m) is = absurd is
  misplaced_runs Q (Choices cs) is = absurd is
  misplaced_runs Q (ErrorText text) is = absurd is
  misplaced_runs Q Inclusion is = absurd is
