-- Steps of an expansion, within macro uses that are left.
use Rattle.std.proofs.Common.{◌≡◌, ℕ, zero, suc, ◌+◌, ◌-◌, ◌≤◌, ◌<◌, List, [], ◌∷◌, ◌++◌, Bool, true, false, Option, Some, None, Result, Ok, Err, refl, arith, if◌then◌else◌}
use Rattle.std.specs.Prelude.{nat_le}
use Rattle.std.proofs.lemmas.Bool.Decides.{nat_tests}
use Rattle.scheme_model.specs.Ident.{Ident}
use Rattle.scheme_model.specs.Identifiers.{Number}
use Rattle.scheme_model.specs.Trees.{Tree, name, atom, list, vector, Trees, no_trees, tree, Tail, map_tree, map_trees, map_tail, proper, dotted}
use Rattle.scheme_model.specs.Measures.{tree_size, trees_size, tail_size}
use Rattle.scheme_model.specs.ExpansionFaults.{Named, Fault, UseBudget, NodeBudget}
use Rattle.scheme_model.specs.Meaning.{same_meaning}
use Rattle.scheme_model.specs.RulesShape.{Rules}
use Rattle.scheme_model.specs.Matching.{Chosen, matcher, first_match}
use Rattle.scheme_model.specs.Building.{build, Built}
use Rattle.scheme_model.specs.Cores.{Target, MacroUse}
use Rattle.scheme_model.specs.Steps.{Broken, Step, ◌>>=◌, done, fails}
use Rattle.scheme_model.specs.Order.{Here, Form, Item, Expression, Value, Function, Assigned, AssignedFunction, ValuesOf, Record, Macro, Pending, Renamed, Transformer, Ops, Instance, WaitingUse, counting, given, told, has_use, used, use_of, meet_waiting, meet_all, max_uses, max_nodes as most_nodes}
use Rattle.scheme_model.specs.Building.{max_nodes}
use Rattle.program_laws.proofs.Faults.{InTurns, in_turns_map, Gives, Any}
use Rattle.program_laws.proofs.Rules.{InstanceWithin, build_within}

-- ---- sizes

mutual
  pub size_same : {A B : Type 0} (f : A → B) (t : Tree A) → tree_size (map_tree f t) ≡ tree_size t
  size_same f (name i o) = refl
  size_same f (atom a o) = refl
  size_same f (list ts tail o) = let a = sizes_same f ts in let b = tail_same f tail in omega (arith, a, b)
  size_same f (vector ts o) = let a = sizes_same f ts in omega (arith, a)

  pub sizes_same : {A B : Type 0} (f : A → B) (ts : Trees A) → trees_size (map_trees f ts) ≡ trees_size ts
  sizes_same f no_trees = refl
  sizes_same f (tree t ts) = let a = size_same f t in let b = sizes_same f ts in omega (arith, a, b)

  pub tail_same : {A B : Type 0} (f : A → B) (tail : Tail A) → tail_size (map_tail f tail) ≡ tail_size tail
  tail_same f proper = refl
  tail_same f (dotted t) = size_same f t

pub one_node : {A : Type 0} (t : Tree A) → 1 ≤ tree_size t
one_node (name i o) = omega arith
one_node (atom a o) = omega arith
one_node (list ts tail o) = omega arith
one_node (vector ts o) = omega arith

-- what the forms that are left have together
abbrev pub total : {A : Type 0} → List (Form A) → ℕ
total [] = 0
total (f ∷ fs) = tree_size f.tree + total fs

abbrev pub FormsWithin : {A : Type 0} → ℕ → List (Form A) → Type 0
FormsWithin n [] = Unit {0}
FormsWithin n (f ∷ fs) = (tree_size f.tree ≤ n) × FormsWithin n fs

abbrev pub ItemWithin : {A : Type 0} → ℕ → Item A → Type 0
ItemWithin n (Expression form) = tree_size form.tree ≤ n
ItemWithin n (Value b form) = tree_size form.tree ≤ n
ItemWithin n (Function b here c) = trees_size c.body ≤ n
ItemWithin n (Assigned i form) = tree_size form.tree ≤ n
ItemWithin n (AssignedFunction i here c) = trees_size c.body ≤ n
ItemWithin n (ValuesOf bs form) = tree_size form.tree ≤ n
ItemWithin n (Record r) = Unit {0}
ItemWithin n (Macro b here) = Unit {0}

abbrev pub ItemsWithin : {A : Type 0} → ℕ → List (Item A) → Type 0
ItemsWithin n [] = Unit {0}
ItemsWithin n (i ∷ is) = ItemWithin n i × ItemsWithin n is

-- what is pending has only trees of so many nodes
pub record PendingWithin {A L : Type 0} (n : ℕ) (p : Pending A L) : Type 0 where
  pub todo : FormsWithin n p.todo
  pub aside : ItemsWithin n p.aside

pub items_after : {A : Type 0} (n : ℕ) (is : List (Item A)) (i : Item A) → ItemsWithin n is → ItemWithin n i → ItemsWithin n (is ++ i ∷ [])
items_after n [] i h k = (k, tt)
items_after n (x ∷ is) i h k = (h.0, items_after n is i h.1 k)

-- ---- what the operations keep

-- the macro uses of the form at work
abbrev pub uses_in : {E A L S : Type 0} → Ops E A L S → S → ℕ
uses_in ops s = (ops.counted s).uses

-- what a definition makes of what is pending is as large
pub record AsLarge {A L : Type 0} (p : Pending A L) (d : Renamed A L) : Type 0 where
  pub todo : total d.pending.todo ≡ total p.todo
  pub within : (n : ℕ) → PendingWithin n p → PendingWithin n d.pending

-- only a macro use counts one, and trees stay as large
pub record Keeps {E A L S : Type 0} (ops : Ops E A L S) : Type 0 where
  pub spend : (n : ℕ) (s : S) → uses_in ops (ops.spend n s) ≡ uses_in ops s
  pub meet : (k : Target) (s : S) → uses_in ops (ops.meet k s) ≡ uses_in ops s
  pub meet_use : (u : MacroUse) (s : S) → uses_in ops (ops.meet_use u s) ≡ uses_in ops s
  pub begin_use : (e : E) (s : S) → uses_in ops (ops.begin_use e s) ≡ suc (uses_in ops s)
  pub take_local : (s : S) → uses_in ops (ops.take_local s) ≡ uses_in ops s
  pub keep : (v : Number) (r : Rules A) (e : E) (s : S) → uses_in ops (ops.keep v r e s) ≡ uses_in ops s
  pub bind : (x : A) (e : E) (ts : Trees A) (s : S) → uses_in ops ((ops.bind x e ts s).state) ≡ uses_in ops s
  pub bound : (x : A) (e : E) (ts : Trees A) (s : S) → trees_size ((ops.bind x e ts s).trees) ≡ trees_size ts
  pub enter : (e : E) (ts : Trees A) (s : S) → uses_in ops ((ops.enter e ts s).state) ≡ uses_in ops s
  pub entered : (e : E) (ts : Trees A) (s : S) → trees_size ((ops.enter e ts s).trees) ≡ trees_size ts
  pub define : (n : Named A) (r : Option (Rules A)) (e : E) (p : Pending A L) (s : S) → uses_in ops ((ops.define n r e p s).1) ≡ uses_in ops s
  pub defined : (n : Named A) (r : Option (Rules A)) (e : E) (p : Pending A L) (s : S) → Gives (AsLarge p) (ops.define n r e p s).0

-- ---- results

-- a value of which this holds, or a fault that comes within the turns
abbrev pub Ended : {V : Type 0} → (V → Type 0) → Result V Broken → Type 0
Ended P (Ok v) = P v
Ended P (Err b) = InTurns b.fault

module _ {E A L S : Type 0} (loud : Ops E A L S) (keeps : Keeps loud) where
  -- nothing is asked
  abbrev ops : Ops E A L S
  ops = record loud { ask = λ qs s. s }

  -- so many macro uses are left, at the most
  abbrev pub Has : ℕ → S → Type 0
  Has m s = max_uses ≤ m + uses_in ops s

  -- no more are left, and it ended so
  abbrev pub Ends : {V : Type 0} → ℕ → (V → Type 0) → Result V Broken × S → Type 0
  Ends m P q = Has m q.1 × Ended P q.0

  pub has_same : (m : ℕ) (s t : S) → uses_in ops t ≡ uses_in ops s → Has m s → Has m t
  has_same m s t e h = omega (arith, e, h)

  pub then_ends : {V W : Type 0} (m : ℕ) (P : V → Type 0) (Q : W → Type 0) (q : Result V Broken × S) (f : V → Step S W) → Ends m P q → ((v : V) (t : S) → Has m t → P v → Ends m Q (f v t)) → Ends m Q (q >>= f)
  then_ends m P Q (Ok v, t) f h g = g v t h.0 h.1
  then_ends m P Q (Err b, t) f h g = h

  pub given_ends : {V : Type 0} (m : ℕ) (P : V → Type 0) (here : Here) (r : Result V (Fault A)) (s : S) → Has m s → Gives P r → Ends m P (given ops.plain here r s)
  given_ends m P here (Ok v) s h k = (h, k)
  given_ends m P here (Err e) s h k = (h, in_turns_map ops.plain e k)

  pub told_ends : {V : Type 0} (m : ℕ) (P : V → Type 0) (here : Here) (q : Result V (Fault Ident) × S) → Has m q.1 → Gives P q.0 → Ends m P (told here q)
  told_ends m P here (Ok v, t) h k = (h, k)
  told_ends m P here (Err e, t) h k = (h, k)

  counted_by : (m : ℕ) (here : Here) (n : ℕ) (s : S) (b : Bool) → Has m s → Ends {V = Unit {0}} m Any (if b then done {A = Unit {0}} tt (ops.spend n s) else fails here NodeBudget s)
  counted_by m here n s true h = (has_same m s (ops.spend n s) (keeps.spend n s) h, tt)
  counted_by m here n s false h = (h, tt)

  pub counting_ends : (m : ℕ) (here : Here) (n : ℕ) (s : S) → Has m s → Ends m Any (counting ops here n s)
  counting_ends m here n s h = counted_by m here n s (nat_le ((ops.counted s).nodes + n) most_nodes) h

  -- ---- macro uses

  -- a use came to an instance, and one less is left
  pub record Began (m : ℕ) (i : Instance A) (t : S) : Type 0 where
    pub left : ℕ
    pub one_less : m ≡ suc left
    pub has : Has left t
    pub within : tree_size i.tree ≤ max_nodes

  abbrev pub Used : ℕ → Result (Instance A) Broken × S → Type 0
  Used m (Ok i, t) = Began m i t
  Used m (Err b, t) = Has m t × InTurns b.fault

  pub used_then : {W : Type 0} (m : ℕ) (Q : W → Type 0) (q : Result (Instance A) Broken × S) (f : Instance A → Step S W) → Used m q → ((i : Instance A) (t : S) → Began m i t → Ends m Q (f i t)) → Ends m Q (q >>= f)
  used_then m Q (Ok i, t) f h g = g i t h
  used_then m Q (Err b, t) f h g = h

  less : (m : ℕ) (u : ℕ) → u < max_uses → max_uses ≤ m + u → record { left : ℕ; one_less : m ≡ suc left }
  less zero u lt le = record { left = 0; one_less = omega arith }
  less (suc m) u lt le = record { left = m; one_less = refl }

  instance_used : (m left : ℕ) (here : Here) (u : WaitingUse A) (r : Result (Built (Tree A)) (Fault A)) (s : S) → m ≡ suc left → Has left s → Gives InstanceWithin r
      → Used m (given ops.plain here r s >>= λ b t. done (record { tree = b.value; met = u }) (ops.spend b.count t))
  instance_used m left here u (Ok b) s e h k = record { left = left; one_less = e; has = has_same left s (ops.spend b.count s) (keeps.spend b.count s) h; within = k }
  instance_used m left here u (Err x) s e h k = (omega arith, in_turns_map ops.plain x k)

  chosen_used : (m left : ℕ) (here : Here) (k : Target) (x : Transformer E A) (n : Number) (c : Option (Chosen A A)) (s : S) → m ≡ suc left → Has left s → Used m (used ops here k x n c s)
  chosen_used m left here k x n None s e h = (omega arith, tt)
  chosen_used m left here k x n (Some c) s e h =
      instance_used m left here (record { keyword = k; literals = c.match.met }) (build ops.names x.rules (λ i. ops.insert i n) c.rule.template c.match.bindings (most_nodes - (ops.counted s).nodes)) s e h
      (build_within A A A ops.names x.rules (λ i. ops.insert i n) c.rule.template c.match.bindings (most_nodes - (ops.counted s).nodes))

  used_by : (m : ℕ) (here : Here) (e : E) (k : Target) (x : Transformer E A) (n : Number) (c : Option (Chosen A A)) (s : S) (b : Bool) → (b ≡ true → uses_in ops s < max_uses) → Has m s
      → Used m (if b then used ops here k x n c (ops.begin_use x.env s) else fails here UseBudget s)
  used_by m here e k x n c s false few h = (h, tt)
  used_by m here e k x n c s true few h =
      let l = less m (uses_in ops s) (few refl) h in
      let one = keeps.begin_use x.env s in
      chosen_used m l.left here k x n c (ops.begin_use x.env s) l.one_less (omega (arith, one, l.one_less, h))

  few_uses : (s : S) → has_use ops s ≡ true → uses_in ops s < max_uses
  few_uses s h = grind (arith, nat_tests)

  pub use_ends : (m : ℕ) (here : Here) (e : E) (k : Target) (x : Transformer E A) (ts : Trees A) (tail : Tail A) (s : S) → Has m s → Used m (use_of ops here e k x ts tail s)
  use_ends m here e k x ts tail s h =
      used_by m here e k x (ops.next_use s) (first_match (matcher ops.names x.rules (λ l j. same_meaning (ops.means x.env s l) (ops.means e s j))) x.rules.rules ts tail) s (has_use ops s) (few_uses s) h

  pub met_has : (m : ℕ) (e : E) (u : WaitingUse A) (s : S) → Has m s → Has m (meet_waiting ops e u s)
  met_has m e u s h = has_same m s (meet_waiting ops e u s) (keeps.meet_use _ s) h

  pub all_met_has : (m : ℕ) (e : E) (us : List (WaitingUse A)) (s : S) → Has m s → Has m (meet_all ops e us s)
  all_met_has m e [] s h = h
  all_met_has m e (u ∷ us) s h = all_met_has m e us (meet_waiting ops e u s) (met_has m e u s h)
