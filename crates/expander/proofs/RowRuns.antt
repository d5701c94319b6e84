-- Loops that do a step for each of a list: one more, a fault, want of memory, and the end.
use Rattle.std.proofs.Common.{◌≡◌, ℕ, zero, suc, ◌+◌, ◌<◌, List, [], ◌∷◌, ◌++◌, length, get_or, take, Result, Ok, Err, sym, subst, arith}
use Rattle.scheme_model.specs.Trees.{Trees, no_trees, tree}
use Rattle.scheme_model.specs.Ident.{Ident as Identifier}
use Rattle.scheme_model.specs.Requirements.{Known}
use Rattle.scheme_model.specs.Steps.{Step}
use Rattle.scheme_model.specs.Order.{Item}
use Rattle.scheme_model.specs.ScopedExpansion.{Frames}
use Rattle.syntax_tree.specs.Looks.{PartsStand, AllNamed}
use Rattle.syntax_tree.specs.Works.{KeepsTrees}
use Rattle.syntax_tree.specs.declared.trees.Work.{Work}
use Rattle.syntax_tree.specs.declared.trees.nodes.Tree as number
use Rattle.syntax_tree.specs.declared.trees.table.Region.{Region}
use Rattle.core_forms.specs.declared.shape.ClauseShape.{ClauseShape}
use Rattle.core_tree.specs.Names.{AllMatch}
use Rattle.core_tree.specs.Cores.{CoreStands, PartStands}
use Rattle.core_tree.specs.declared.cores.Clause as code_clause
use Rattle.core_tree.specs.declared.cores.Core as code_core
use Rattle.core_tree.specs.declared.cores.CorePart as code_part
use Rattle.scheme_model.specs.Cores.{Core, Part, Binders}
use Rattle.expander.specs.Expanded.{AreAtWork, ClauseStands, ClausesAtWork, ClauseAtWork, AreKeptAtWork, KeptAtWork}
use Rattle.unit_scopes.specs.Kept.{ClauseFor, KeptFor}
use Rattle.unit_scopes.specs.Outcomes.{Grows, SameForm, IsAtWork}
use Rattle.feature_requirements.specs.declared.fault.ExpandFault.{ExpandFault}
use Rattle.feature_requirements.specs.declared.fault.ExpandFault.TheVariants as fault
use Rattle.form_parts.specs.declared.items.Kept as code_kept
use Rattle.unit_scopes.specs.declared.scope.UnitScope.{UnitScope}
use Rattle.expander.proofs.BelowLaws.{same_fault}
use Rattle.unit_scopes.proofs.CoreStandLaws.{core_on, part_on, binders_on, clause_on, kept_on}
use Rattle.expander.proofs.LoopLaws.{runs_more, runs_stop, memory_behind}
use Rattle.unit_scopes.proofs.OutcomeLaws.{named_on}
use Rattle.expander.proofs.RowLaws.{row, match_at}
use Rattle.noted_steps.specs.Noting.{Noting}
use Rattle.noted_steps.specs.Outcomes.{Runs}

-- ---- one call more

module _ {A X Y E : Type 0} (f : Known → Frames → A → Step Noting Y) (R : E → A → Type 0) (P Q : X → Y → Type 0) (on : (x : X) (y : Y) → P x y → Q x y) (a b c : Work) (region : Region) (u w v : UnitScope) (scope : ℕ)
    (xs : List X) (k : ℕ) (ns : List E) (es : List A) (d : E) (match : AllMatch R ns es) (within : k < length ns)
    (before : Runs (λ (layout : List Frames). AllMatch P) a b region u w scope (Ok xs) (λ known fs. row (f known fs) (take k es))) where
  abbrev Now : Result X ExpandFault → Type 0
  Now result = (e : A) → R (get_or ns k d) e → Runs (λ (layout : List Frames). Q) b c region w v scope result (λ known fs. f known fs e)

  pub row_one_more : (ys : List X) (x : X) → ys ≡ xs ++ x ∷ [] → Now (Ok x) → Runs (λ (layout : List Frames). AllMatch Q) a c region u v scope (Ok ys) (λ known fs. row (f known fs) (take (k + 1) es))
  row_one_more ys x is now =
      let m = match_at R k ns es d match within in
      let next : suc k ≡ k + 1 = omega arith in
      let goes = runs_more f P Q on a b c region u w v scope xs k es m.found m.split before x (now m.found m.matches) in
      subst (λ (zs : List X). Runs (λ (layout : List Frames). AllMatch Q) a c region u v scope (Ok zs) (λ known fs. row (f known fs) (take (k + 1) es))) (sym is)
      (subst (λ (n : ℕ). Runs (λ (layout : List Frames). AllMatch Q) a c region u v scope (Ok (xs ++ x ∷ [])) (λ known fs. row (f known fs) (take n es))) next goes)

-- ---- faults, which say nothing of values

pub runs_fault : {X Y V : Type 0} (P : List Frames → X → Y → Type 0) (Q : List Frames → V → Y → Type 0) (a c : Work) (region : Region) (u v : UnitScope) (scope : ℕ) (e : ExpandFault) (f : Known → Frames → Step Noting Y) → Runs P a c region u v scope (Err e) f → Runs Q a c region u v scope (Err e) f
runs_fault P Q a c region u v scope e f runs = λ known ls s fs knows stands at. same_fault P Q a c region u v ls e (f known fs s) (runs known ls s fs knows stands at)

-- ---- want of memory behind a call that went on

pub runs_memory : {X Y V Z : Type 0} (P : List Frames → X → Y → Type 0) (Q : List Frames → V → Z → Type 0) (a c : Work) (region : Region) (u v : UnitScope) (scope : ℕ) (x : X) (f : Known → Frames → Step Noting Y) (g : Known → Frames → Step Noting Z) →
    Runs P a c region u v scope (Ok x) f → Runs Q a c region u v scope (Err fault.Memory) g
runs_memory P Q a c region u v scope x f g runs = λ known ls s fs knows e at. memory_behind P Q a c region u v ls x (f known fs s) (g known fs s) (runs known ls s fs knows e at)

module _ {A X Y E : Type 0} (f : Known → Frames → A → Step Noting Y) (R : E → A → Type 0) (P : X → Y → Type 0) (a b c : Work) (region : Region) (u w v : UnitScope) (scope : ℕ)
    (xs : List X) (k : ℕ) (ns : List E) (es : List A) (d : E) (match : AllMatch R ns es) (within : k < length ns)
    (before : Runs (λ (layout : List Frames). AllMatch P) a b region u w scope (Ok xs) (λ known fs. row (f known fs) (take k es))) where
  pub row_stops : {V Z : Type 0} (Q : List Frames → V → Y → Type 0) (S : List Frames → Z → List Y → Type 0) (x : ExpandFault) → ((e : A) → R (get_or ns k d) e → Runs Q b c region w v scope (Err x) (λ known fs. f known fs e)) →
      Runs S a c region u v scope (Err x) (λ known fs. row (f known fs) es)
  row_stops Q S x now =
      let m = match_at R k ns es d match within in
      runs_stop f P P (λ y z q. q) a b c region u w v scope xs k es m.found m.split before S x (runs_fault Q (λ (layout : List Frames). P) b c region w v scope x (λ known fs. f known fs m.found) (now m.found m.matches))

-- ---- what stood for cores, clauses and parts before a call

module _ (b c : Work) (region : Region) (w v : UnitScope) (work : Grows b c region) (same : SameForm w v) where
  pub at_form : (P : ℕ → ℕ → Type 0) → P w.unit w.form.number → P v.unit v.form.number
  at_form P h = subst (λ (n : ℕ). P n v.form.number) (sym same.unit) (subst (P w.unit) (sym same.number) h)

  pub cores_go_on : (x : code_core.Core) (m : Core) → CoreStands b w.unit w.form.number x m → CoreStands c v.unit v.form.number x m
  cores_go_on x m h = at_form (λ unit form. CoreStands c unit form x m) (core_on b c work.trees work.names w.unit w.form.number x m h)

  pub parts_go_on : (x : code_part.CorePart) (m : Part) → PartStands b w.unit w.form.number x m → PartStands c v.unit v.form.number x m
  parts_go_on x m h = at_form (λ unit form. PartStands c unit form x m) (part_on b c work.trees work.names w.unit w.form.number x m h)

  pub clauses_go_on : (x : code_clause.Clause) (m : Binders × Core) → ClauseStands b w.unit w.form.number x m → ClauseStands c v.unit v.form.number x m
  clauses_go_on x m h =
      at_form (λ unit form. ClauseStands c unit form x m)
      (h.0, (h.1.0, h.1.1, h.1.2, (binders_on b c work.trees work.names w.unit w.form.number h.1.0.items m.0.names h.1.3.0, h.1.3.1)), core_on b c work.trees work.names w.unit w.form.number h.0.value m.1 h.2)

  pub kept_goes_on : (k : code_kept.Kept) (i : Item Identifier) → KeptFor b region w.unit w.form.number k i → KeptFor c region v.unit v.form.number k i
  kept_goes_on k i h = at_form (λ unit form. KeptFor c region unit form k i) (kept_on b c work.trees work.names w.unit w.form.number region k i h)

-- ---- what a call is given

at_work : (work : Work) (region : Region) (ns : List number.Tree) (ts : Trees Identifier) (k : ℕ) (d : number.Tree) → PartsStand work ns ts → AllNamed work region ns → k < length ns → IsAtWork work region (get_or ns k d)
at_work work region [] ts k d h named lt = absurd (omega (arith, lt))
at_work work region (n ∷ ns) no_trees k d h named lt = absurd h
at_work work region (n ∷ ns) (tree t ts) zero d h named lt = ((t, h.0), named.0)
at_work work region (n ∷ ns) (tree t ts) (suc k) d h named lt = at_work work region ns ts k d h.1 named.1 (omega (arith, lt))

-- a tree at a place, in a work that grew
pub tree_at_work : (a b : Work) (region : Region) (ns : List number.Tree) (k : ℕ) (d : number.Tree) → KeepsTrees a b → AreAtWork a region ns → k < length ns → IsAtWork b region (get_or ns k d)
tree_at_work a b region ns k d keeps h lt =
    let at = at_work a region ns h.0 k d h.1 h.2 lt in
    ((at.0.0, keeps.trees (get_or ns k d) at.0.0 at.0.1), named_on a b region (get_or ns k d) keeps at.1)

-- something that matches one at a place
pub matches_there : {X Y : Type 0} (P : X → Y → Type 0) (k : ℕ) (xs : List X) (ys : List Y) (d : X) → AllMatch P xs ys → k < length xs → (y : Y) × P (get_or xs k d) y
matches_there P k xs ys d h lt = let m = match_at P k xs ys d h lt in (m.found, m.matches)

pub clause_at_work : (a b : Work) (region : Region) (xs : List ClauseShape) (k : ℕ) (d : ClauseShape) → Grows a b region → ClausesAtWork a region xs → k < length xs → ClauseAtWork b region (get_or xs k d)
clause_at_work a b region xs k d grows h lt =
    let m = matches_there (ClauseFor a region) k xs h.0 d h.1 lt in
    (m.0, clause_on a b grows.trees grows.names 0 0 region (get_or xs k d) m.0 m.1)

pub kept_at_work : (a b : Work) (region : Region) (u w : UnitScope) (ks : List code_kept.Kept) (k : ℕ) (d : code_kept.Kept) → Grows a b region → SameForm u w → AreKeptAtWork a region u ks → k < length ks → KeptAtWork b region w (get_or ks k d)
kept_at_work a b region u w ks k d grows same h lt =
    let m = matches_there (KeptFor a region u.unit u.form.number) k ks h.0 d h.1 lt in
    (m.0, kept_goes_on a b region u w grows same (get_or ks k d) m.0 m.1)

-- what is read at a place is what stands there
pub item_as : {E : Type 0} (P : E → Type 0) (k : ℕ) (ns : List E) (x : E) → x ≡ get_or ns k x → P (get_or ns k x) → P x
item_as P k ns x is h = subst P (sym is) h
