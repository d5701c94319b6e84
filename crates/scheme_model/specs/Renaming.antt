-- Renamings: what is read from trees, with each identifier changed.
use Rattle.std.specs.Prelude.{◌≡◌, map, Result, Ok, Err}
use Rattle.scheme_model.specs.Trees.{Trees, Tail, map_tree, map_trees, map_tail}
use Rattle.scheme_model.specs.ExpansionFaults.{named_map, Fault, fault_map}
use Rattle.scheme_model.specs.Shapes.{Formals, DefinitionShape, Variable, Procedure, FieldShape, RecordShape, LocalMacros}
use Rattle.scheme_model.specs.Quasiquote.{Pieces}
use Rattle.scheme_model.specs.RulesShape.{Names, option_map}
use Rattle.scheme_model.specs.Matching.{Value, One, Many, Values, no_values, value, Binding, Match, Chosen}
use Rattle.scheme_model.specs.RulesShape.{rule_map}
use Rattle.scheme_model.specs.Building.{Built}
use Rattle.scheme_model.specs.Leaves.{Leaf}
use Rattle.scheme_model.specs.Substitution.{clause_map}

-- a renaming that tells identifiers apart, and keeps their symbols
pub record Renames {A B : Type 0} (f : A → B) (n : Names A) (m : Names B) : Type 0 where
  pub same : (i j : A) → m.same (f i) (f j) ≡ n.same i j
  pub strip : (i : A) → m.strip (f i) ≡ n.strip i

-- what was read, or the fault
abbrev pub result_map : {A B X Y : Type 0} → (A → B) → (X → Y) → Result X (Fault A) → Result Y (Fault B)
result_map f g (Ok x) = Ok (g x)
result_map f g (Err e) = Err (fault_map f e)

-- readings of a core form on both sides of a renaming
abbrev pub IsRenamed : {A B X Y : Type 0} → (A → B) → (X → Y) → (Trees B → Tail B → Result Y (Fault B)) → (Trees A → Tail A → Result X (Fault A)) → Type 0
IsRenamed {A} f g after before = (ts : Trees A) (tail : Tail A) → after (map_trees f ts) (map_tail f tail) ≡ result_map f g (before ts tail)

-- ---- shapes

abbrev pub formals_map : {A B : Type 0} → (A → B) → Formals A → Formals B
formals_map f p = record { names = map (named_map f) p.names; rest = p.rest }

abbrev pub definition_map : {A B : Type 0} → (A → B) → DefinitionShape A → DefinitionShape B
definition_map f (Variable n t) = Variable (named_map f n) (map_tree f t)
definition_map f (Procedure n c) = Procedure (named_map f n) (clause_map f c)

abbrev pub field_map : {A B : Type 0} → (A → B) → FieldShape A → FieldShape B
field_map f x = record { field = named_map f x.field; accessor = named_map f x.accessor; modifier = option_map (named_map f) x.modifier }

abbrev pub record_map : {A B : Type 0} → (A → B) → RecordShape A → RecordShape B
record_map f r = record {
  type = named_map f r.type;
  constructor = named_map f r.constructor;
  used = map (named_map f) r.used;
  predicate = named_map f r.predicate;
  fields = map (field_map f) r.fields;
}

abbrev pub local_macros_map : {A B : Type 0} → (A → B) → LocalMacros A → LocalMacros B
local_macros_map f m = record { names = map (named_map f) m.names; rules = map_trees f m.rules; body = map_trees f m.body }

abbrev pub pieces_map : {A B : Type 0} → (A → B) → Pieces A → Pieces B
pieces_map f p = record { datum = map_tree (option_map f) p.datum; holes = map (map_tree f) p.holes }

abbrev pub leaf_map : {A B : Type 0} → (A → B) → Leaf A → Leaf B
leaf_map f l = record { leaf = named_map f l.leaf; literal = l.literal }

-- ---- matches

abbrev mutual
  pub value_map : {A B : Type 0} → (A → B) → Value A → Value B
  value_map f (One t) = One (map_tree f t)
  value_map f (Many vs) = Many (values_map f vs)

  pub values_map : {A B : Type 0} → (A → B) → Values A → Values B
  values_map f no_values = no_values
  values_map f (value v vs) = value (value_map f v) (values_map f vs)

abbrev pub binding_map : {A B C D : Type 0} → (A → C) → (B → D) → Binding A B → Binding C D
binding_map f g b = record { variable = f b.variable; value = value_map g b.value }

abbrev pub match_map : {A B C D : Type 0} → (A → C) → (B → D) → Match A B → Match C D
match_map f g m = record { bindings = map (binding_map f g) m.bindings; met = map (named_map g) m.met }

abbrev pub chosen_map : {A B C D : Type 0} → (A → C) → (B → D) → Chosen A B → Chosen C D
chosen_map f g c = record { rule = rule_map f c.rule; match = match_map f g c.match }

abbrev pub pair_map : {A B C D : Type 0} → (A → C) → (B → D) → A × B → C × D
pair_map f g q = (f q.0, g q.1)

abbrev pub built_map : {T U : Type 0} → (T → U) → Built T → Built U
built_map g b = record { value = g b.value; count = b.count }
