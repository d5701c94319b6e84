-- Readings of parts of core forms, by the readers of the definitions.
use Rattle.std.specs.Prelude.{List, map, Result, Ok, Err, if◌then◌else◌}
use Rattle.scheme_model.specs.Trees.{Tree, Trees, Tail}
use Rattle.scheme_model.specs.ExpansionFaults.{Named, Fault, BadForm, ◌>>◌}
use Rattle.scheme_model.specs.Shapes.{Clause, FieldShape, RecordShape, DefinitionShape, Variable, clause_in, list_of, proper_of, first_of, some_of, name_of, names_of, field_with, named_tree_of, syntax_of, constructor_of, fields_of, distinct, all_among}
use Rattle.core_forms.specs.Forms.{each_of, choices_in}
use Rattle.scheme_model.specs.Ident.{Ident as Identifier, same_ident}

-- a clause of `case-lambda`
abbrev pub clause_of : Tree Identifier → Result (Clause Identifier) (Fault Identifier)
clause_of t = list_of t >> λ p. clause_in p.0 p.1

-- a field of a record
abbrev pub field_of : Tree Identifier → Result (FieldShape Identifier) (Fault Identifier)
field_of t = list_of t >> λ p. proper_of p.0 p.1 >> names_of >> field_with

-- the list of a constructor
abbrev pub uses_of : Trees Identifier → Tail Identifier → Result (Named Identifier × List (Named Identifier)) (Fault Identifier)
uses_of ts tail = proper_of ts tail >> λ us. first_of us >> λ p. name_of p.0 >> λ n. names_of p.1 >> λ ns. Ok (n, ns)

-- a local macro's name and rules
abbrev pub binding_of : Tree Identifier → Result (Named Identifier × Tree Identifier) (Fault Identifier)
binding_of t = list_of t >> λ p. syntax_of p.0 p.1

-- the definition of a variable, whose name stands first
abbrev pub variable_of : Trees Identifier → Tail Identifier → Result (DefinitionShape Identifier) (Fault Identifier)
variable_of ts tail = named_tree_of ts tail >> λ p. Ok (Variable p.0 p.1)

-- local macros in a row, and those of a list
abbrev pub bindings_in : Trees Identifier → Result (List (Named Identifier × Tree Identifier)) (Fault Identifier)
bindings_in ts = each_of binding_of ts

abbrev pub bindings_of_list : Tree Identifier → Result (List (Named Identifier × Tree Identifier)) (Fault Identifier)
bindings_of_list t = list_of t >> λ p. proper_of p.0 p.1 >> bindings_in

-- the parts of a clause of `cond-expand`, and the clauses
abbrev pub choice_with : Trees Identifier → Tail Identifier → Result (Tree Identifier × Trees Identifier) (Fault Identifier)
choice_with ts tail = some_of ts tail >> first_of

abbrev pub cond_expand_of : Trees Identifier → Tail Identifier → Result (List (Tree Identifier × Trees Identifier)) (Fault Identifier)
cond_expand_of ts tail = some_of ts tail >> choices_in

-- a record of these parts, if its fields differ and the constructor uses fields of it
abbrev pub record_with : Named Identifier → Named Identifier × List (Named Identifier) → Named Identifier → List (FieldShape Identifier) → Result (RecordShape Identifier) (Fault Identifier)
record_with n c pred fs =
    distinct same_ident (map (λ f. f.field) fs) >> λ done.
    if all_among same_ident c.1 (map (λ f. f.field) fs) then Ok (record { type = n; constructor = c.0; used = c.1; predicate = pred; fields = fs }) else Err BadForm

abbrev pub behind_constructor : Named Identifier → Named Identifier × List (Named Identifier) → Trees Identifier → Result (RecordShape Identifier) (Fault Identifier)
behind_constructor n c ts = first_of ts >> λ r. name_of r.0 >> λ pred. fields_of r.1 >> λ fs. record_with n c pred fs

abbrev pub behind_name : Named Identifier → Trees Identifier → Result (RecordShape Identifier) (Fault Identifier)
behind_name n ts = first_of ts >> λ q. constructor_of q.0 >> λ c. behind_constructor n c q.1
