-- What changes of identifiers and of places make of all else that is read of a form.
use Rattle.std.specs.Prelude.{◌≡◌, map, Option, None, Result, Ok, Err}
use Rattle.scheme_model.specs.ExpansionFaults.{Fault}
use Rattle.scheme_model.specs.Shapes.{Formals, DefinitionShape, Variable, Procedure, FieldShape, RecordShape, LocalMacros}
use Rattle.scheme_model.specs.Quasiquote.{Pieces}
use Rattle.scheme_model.specs.RulesShape.{Names, option_map}
use Rattle.scheme_model.specs.Matching.{Value, One, Many, Values, no_values, value, Binding, Match, Chosen}
use Rattle.scheme_model.specs.Leaves.{Leaf}
use Rattle.renumbering_laws.specs.Moving.{Change, move_tree, move_trees, move_named, move_fault, move_rule, move_clause}

-- what has no place still has none
abbrev pub KeepsNone : {A B : Type 0} → Change A B → Type 0
KeepsNone f = f.at None ≡ None

-- the same change where an identifier may be missing
abbrev pub on_some : {A B : Type 0} → Change A B → Change (Option A) (Option B)
on_some f = record { on = option_map f.on; at = f.at }

-- what was read, or the fault
abbrev pub move_result : {A B X Y : Type 0} → Change A B → (X → Y) → Result X (Fault A) → Result Y (Fault B)
move_result f g (Ok x) = Ok (g x)
move_result f g (Err e) = Err (move_fault f e)

-- a change that tells identifiers apart, and keeps their symbols
pub record Moves {A B : Type 0} (f : Change A B) (n : Names A) (m : Names B) : Type 0 where
  pub same : (i j : A) → m.same (f.on i) (f.on j) ≡ n.same i j
  pub strip : (i : A) → m.strip (f.on i) ≡ n.strip i

-- ---- shapes

abbrev pub move_formals : {A B : Type 0} → Change A B → Formals A → Formals B
move_formals f p = record { names = map (move_named f) p.names; rest = p.rest }

abbrev pub move_definition : {A B : Type 0} → Change A B → DefinitionShape A → DefinitionShape B
move_definition f (Variable n t) = Variable (move_named f n) (move_tree f t)
move_definition f (Procedure n c) = Procedure (move_named f n) (move_clause f c)

abbrev pub move_field : {A B : Type 0} → Change A B → FieldShape A → FieldShape B
move_field f x = record { field = move_named f x.field; accessor = move_named f x.accessor; modifier = option_map (move_named f) x.modifier }

abbrev pub move_record : {A B : Type 0} → Change A B → RecordShape A → RecordShape B
move_record f r = record {
  type = move_named f r.type;
  constructor = move_named f r.constructor;
  used = map (move_named f) r.used;
  predicate = move_named f r.predicate;
  fields = map (move_field f) r.fields;
}

abbrev pub move_local_macros : {A B : Type 0} → Change A B → LocalMacros A → LocalMacros B
move_local_macros f m = record { names = map (move_named f) m.names; rules = move_trees f m.rules; body = move_trees f m.body }

abbrev pub move_pieces : {A B : Type 0} → Change A B → Pieces A → Pieces B
move_pieces f p = record { datum = move_tree (on_some f) p.datum; holes = map (move_tree f) p.holes }

abbrev pub move_leaf : {A B : Type 0} → Change A B → Leaf A → Leaf B
move_leaf f l = record { leaf = move_named f l.leaf; literal = l.literal }

-- ---- matches

abbrev mutual
  pub move_value : {A B : Type 0} → Change A B → Value A → Value B
  move_value f (One t) = One (move_tree f t)
  move_value f (Many vs) = Many (move_values f vs)

  pub move_values : {A B : Type 0} → Change A B → Values A → Values B
  move_values f no_values = no_values
  move_values f (value v vs) = value (move_value f v) (move_values f vs)

abbrev pub move_binding : {A B C D : Type 0} → Change A C → Change B D → Binding A B → Binding C D
move_binding f g b = record { variable = f.on b.variable; value = move_value g b.value }

abbrev pub move_match : {A B C D : Type 0} → Change A C → Change B D → Match A B → Match C D
move_match f g m = record { bindings = map (move_binding f g) m.bindings; met = map (move_named g) m.met }

abbrev pub move_chosen : {A B C D : Type 0} → Change A C → Change B D → Chosen A B → Chosen C D
move_chosen f g c = record { rule = move_rule f c.rule; match = move_match f g c.match }
