-- Kinds of structures over identifiers: each has a map, and two maps in turn are one.
use Rattle.std.proofs.Common.{◌≡◌, List, map, Option, Some, None, refl, ap}
use Rattle.scheme_model.specs.Trees.{Tree, Trees, Tail, map_tree, map_trees, map_tail}
use Rattle.scheme_model.specs.ExpansionFaults.{Named, named_map, Fault, BadRules, TwoEllipses, DuplicateVariable, EllipsisDepth, IdleEllipsis, NoRule, EllipsisLength, BadForm, DuplicateBinder, BadPlace, BadRecord, BadQuasi, KeywordRedefined, Duplicate, KeywordAsValue, UseBudget, NodeBudget, DepthBudget, SyntaxError, IncludeRefused, OutOfTurns, fault_map}
use Rattle.scheme_model.specs.Shapes.{Formals, Clause, DefinitionShape, Variable, Procedure, FieldShape, RecordShape, LocalMacros}
use Rattle.scheme_model.specs.RulesShape.{Rule, Rules, rule_map, rules_map, option_map}
use Rattle.scheme_model.specs.Order.{Form, Item, Expression, Value, Function, Assigned, AssignedFunction, ValuesOf, Record, Macro, WaitingUse, Instance}
use Rattle.scheme_model.specs.Substitution.{form_map, clause_map, item_map, use_map}
use Rattle.scheme_model.specs.Renaming.{formals_map, definition_map, field_map, record_map, local_macros_map}
use Rattle.scheme_model.proofs.RenamingLaws.{map_after}
use Rattle.scheme_model.proofs.ScopeLaws.{map_map, map_map_all, map_map_tail}

pub record Kind : Type 1 where
  pub of : Type 0 → Type 0
  pub map : (A B : Type 0) → (A → B) → of A → of B
  pub fused : (A B C : Type 0) (g : B → C) (f : A → B) (x : of A) → map B C g (map A B f x) ≡ map A C (λ a. g (f a)) x

pub pointwise : {A B : Type 0} (f g : A → B) → ((a : A) → f a ≡ g a) → f ≡ g
pointwise f g e = λ j a. e a j

-- maps that agree on each identifier
pub mapped_same : (k : Kind) (A B : Type 0) (f g : A → B) → ((a : A) → f a ≡ g a) → (x : k.of A) → k.map A B f x ≡ k.map A B g x
mapped_same k A B f g e x = ap (λ (h : A → B). k.map A B h x) (pointwise f g e)

pub map_twice : {X Y Z : Type 0} (h : Y → Z) (k : X → Y) (l : X → Z) → ((x : X) → h (k x) ≡ l x) → (o : Option X) → option_map h (option_map k o) ≡ option_map l o
map_twice h k l e None = refl
map_twice h k l e (Some x) = ap Some (e x)

-- ---- trees

abbrev pub tree_kind : Kind
tree_kind = record { of = Tree; map = λ A B f t. map_tree f t; fused = λ A B C g f t. map_map g f t }

abbrev pub trees_kind : Kind
trees_kind = record { of = Trees; map = λ A B f ts. map_trees f ts; fused = λ A B C g f ts. map_map_all g f ts }

abbrev pub tail_kind : Kind
tail_kind = record { of = Tail; map = λ A B f tail. map_tail f tail; fused = λ A B C g f tail. map_map_tail g f tail }

-- ---- shapes

module _ (A B C : Type 0) (g : B → C) (f : A → B) where
  names_fused : (ns : List (Named A)) → map (named_map g) (map (named_map f) ns) ≡ map (named_map (λ a. g (f a))) ns
  names_fused ns = map_after (named_map g) (named_map f) (named_map (λ a. g (f a))) (λ n. refl) ns

  pub formals_fused : (p : Formals A) → formals_map g (formals_map f p) ≡ formals_map (λ a. g (f a)) p
  formals_fused p = ap (λ (ns : List (Named C)). record { names = ns; rest = p.rest }) (names_fused p.names)

  pub clause_fused : (c : Clause A) → clause_map g (clause_map f c) ≡ clause_map (λ a. g (f a)) c
  clause_fused c = let p = formals_fused c.formals in let b = map_map_all g f c.body in λ j. record { formals = p j; body = b j }

  pub definition_fused : (d : DefinitionShape A) → definition_map g (definition_map f d) ≡ definition_map (λ a. g (f a)) d
  definition_fused (Variable n t) = ap (Variable (named_map (λ a. g (f a)) n)) (map_map g f t)
  definition_fused (Procedure n c) = ap (Procedure (named_map (λ a. g (f a)) n)) (clause_fused c)

  field_fused : (x : FieldShape A) → field_map g (field_map f x) ≡ field_map (λ a. g (f a)) x
  field_fused x =
      let m = map_twice (named_map g) (named_map f) (named_map (λ a. g (f a))) (λ n. refl) x.modifier in
      λ j. record { field = named_map (λ a. g (f a)) x.field; accessor = named_map (λ a. g (f a)) x.accessor; modifier = m j }

  pub record_fused : (r : RecordShape A) → record_map g (record_map f r) ≡ record_map (λ a. g (f a)) r
  record_fused r =
      let u = names_fused r.used in let fs = map_after (field_map g) (field_map f) (field_map (λ a. g (f a))) field_fused r.fields in
      λ j. record { type = named_map (λ a. g (f a)) r.type; constructor = named_map (λ a. g (f a)) r.constructor; used = u j; predicate = named_map (λ a. g (f a)) r.predicate; fields = fs j }

  pub local_macros_fused : (m : LocalMacros A) → local_macros_map g (local_macros_map f m) ≡ local_macros_map (λ a. g (f a)) m
  local_macros_fused m =
      let ns = names_fused m.names in let rs = map_map_all g f m.rules in let b = map_map_all g f m.body in
      λ j. record { names = ns j; rules = rs j; body = b j }

  rule_fused : (r : Rule A) → rule_map g (rule_map f r) ≡ rule_map (λ a. g (f a)) r
  rule_fused r =
      let ps = map_map_all g f r.parts in let e = map_map_tail g f r.tail in let t = map_map g f r.template in
      λ j. record { parts = ps j; tail = e j; template = t j }

  pub rules_fused : (r : Rules A) → rules_map g (rules_map f r) ≡ rules_map (λ a. g (f a)) r
  rules_fused r =
      let e = map_twice g f (λ a. g (f a)) (λ a. refl) r.ellipsis in let ls = names_fused r.literals in let rs = map_after (rule_map g) (rule_map f) (rule_map (λ a. g (f a))) rule_fused r.rules in
      λ j. record { ellipsis = e j; literals = ls j; rules = rs j }

  -- ---- what is left, and what was set aside

  pub form_fused : (x : Form A) → form_map g (form_map f x) ≡ form_map (λ a. g (f a)) x
  form_fused x = ap (λ (t : Tree C). record { here = x.here; tree = t }) (map_map g f x.tree)

  pub item_fused : (x : Item A) → item_map g (item_map f x) ≡ item_map (λ a. g (f a)) x
  item_fused (Expression x) = ap Expression (form_fused x)
  item_fused (Value b x) = ap (Value b) (form_fused x)
  item_fused (Function b here c) = ap (Function b here) (clause_fused c)
  item_fused (Assigned n x) = ap (Assigned (named_map (λ a. g (f a)) n)) (form_fused x)
  item_fused (AssignedFunction n here c) = ap (AssignedFunction (named_map (λ a. g (f a)) n) here) (clause_fused c)
  item_fused (ValuesOf bs x) = ap (ValuesOf bs) (form_fused x)
  item_fused (Record r) = refl
  item_fused (Macro b here) = refl

  pub use_fused : (u : WaitingUse A) → use_map g (use_map f u) ≡ use_map (λ a. g (f a)) u
  use_fused u = ap (λ (ls : List (Named C)). record { keyword = u.keyword; literals = ls }) (names_fused u.literals)

  pub faults_fused : (e : Fault A) → fault_map g (fault_map f e) ≡ fault_map (λ a. g (f a)) e
  faults_fused BadRules = refl
  faults_fused TwoEllipses = refl
  faults_fused (DuplicateVariable n) = refl
  faults_fused (EllipsisDepth n) = refl
  faults_fused IdleEllipsis = refl
  faults_fused (NoRule n) = refl
  faults_fused EllipsisLength = refl
  faults_fused BadForm = refl
  faults_fused (DuplicateBinder n) = refl
  faults_fused BadPlace = refl
  faults_fused BadRecord = refl
  faults_fused BadQuasi = refl
  faults_fused (KeywordRedefined n) = refl
  faults_fused (Duplicate n) = refl
  faults_fused (KeywordAsValue n) = refl
  faults_fused UseBudget = refl
  faults_fused NodeBudget = refl
  faults_fused DepthBudget = refl
  faults_fused (SyntaxError text) = refl
  faults_fused IncludeRefused = refl
  faults_fused OutOfTurns = refl

abbrev pub clause_kind : Kind
clause_kind = record { of = Clause; map = λ A B f c. clause_map f c; fused = clause_fused }

abbrev pub clauses_kind : Kind
clauses_kind = record { of = λ A. List (Clause A); map = λ A B f cs. map (clause_map f) cs; fused = λ A B C g f cs. map_after (clause_map g) (clause_map f) (clause_map (λ a. g (f a))) (clause_fused A B C g f) cs }

abbrev pub definition_kind : Kind
definition_kind = record { of = DefinitionShape; map = λ A B f d. definition_map f d; fused = definition_fused }

abbrev pub record_kind : Kind
record_kind = record { of = RecordShape; map = λ A B f r. record_map f r; fused = record_fused }

abbrev pub local_macros_kind : Kind
local_macros_kind = record { of = LocalMacros; map = λ A B f m. local_macros_map f m; fused = local_macros_fused }

abbrev pub rules_kind : Kind
rules_kind = record { of = Rules; map = λ A B f r. rules_map f r; fused = rules_fused }

abbrev pub item_kind : Kind
item_kind = record { of = Item; map = λ A B f x. item_map f x; fused = item_fused }

abbrev pub use_kind : Kind
use_kind = record { of = WaitingUse; map = λ A B f u. use_map f u; fused = use_fused }

-- an instance, and the use that gave it
abbrev pub instance_map : {A B : Type 0} → (A → B) → Instance A → Instance B
instance_map f i = record { tree = map_tree f i.tree; met = use_map f i.met }

abbrev pub instance_kind : Kind
instance_kind = record { of = Instance; map = λ A B f i. instance_map f i; fused = λ A B C g f i. let t = map_map g f i.tree in let u = use_fused A B C g f i.met in λ j. record { tree = t j; met = u j } }
