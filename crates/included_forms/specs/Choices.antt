-- The clauses of `cond-expand` as they are read (R7RS 4.2.1, 5.6.1).
use Rattle.std.specs.Prelude.{◌≡◌, ℕ, suc, ◌+◌, List, map, Bool, true, false, Option, Some, None, Result, Ok, Err}
use Rattle.std.specs.Borrow.{Bor}
use Rattle.scheme_model.specs.Data.{Datum, Data}
use Rattle.scheme_model.specs.Declarations.{symbol_tree}
use Rattle.scheme_model.specs.Requirements.{Known}
use Rattle.scheme_model.specs.Included.{Homed, Listing, in_a_row, Texts, Clause, declaration, clauses, clause_of, choice, bad}
use Rattle.known_libraries.specs.Weights.{weight, row_weight}
use Rattle.datum_reader.specs.declared.datum.Datum as code
use Rattle.datum_reader.specs.Views.{datum_of, data_of}
use Rattle.datum_reader.specs.declared.shape_fault.ShapeFault.{ShapeFault}
use Rattle.datum_reader.specs.declared.shape_fault.ShapeFault.TheVariants as shape
use Rattle.included_forms.specs.declared.choices.Clause as code_clause

-- what declarations in a row give
abbrev pub all_declared : Texts → Known → Homed → List code.Datum → Listing
all_declared t known h ds = in_a_row t.limit (map (declaration t known h) (data_of ds))

abbrev pub clause_with : Texts → Known → Homed → code.Datum → List code.Datum → Clause
clause_with t known h requirement forms = record { requirement = symbol_tree (datum_of requirement); given = all_declared t known h forms }

abbrev pub IsClause : Option code_clause.Clause → Datum → Type 0
IsClause None d = (t : Texts) (known : Known) (h : Homed) → clause_of t known h d ≡ None
IsClause (Some c) d =
    ((t : Texts) (known : Known) (h : Homed) → clause_of t known h d ≡ Some (clause_with t known h c.requirement.now c.forms.now))
    × (ends : ℕ) × (suc (row_weight (data_of c.forms.now) + ends) ≡ weight d)

-- what was chosen before stays
abbrev pub OrFirst : Option (Bor (List code.Datum)) → Bool → List code.Datum → Option (Bor (List code.Datum)) → Type 0
OrFirst (Some ds) b es r = r ≡ Some ds
OrFirst None true es None = ⊥
OrFirst None true es (Some r) = r.now ≡ es
OrFirst None false es r = r ≡ None

-- these declarations are those of the first clause that holds
abbrev pub Chooses : Texts → Known → Homed → Result (Bor (List code.Datum)) ShapeFault → Data → Type 0
Chooses t known h (Ok es) ds = (whole : Homed) → choice known whole (clauses t known h ds) ≡ all_declared t known h es.now
Chooses t known h (Err shape.BadForm) ds = (whole : Homed) → choice known whole (clauses t known h ds) ≡ bad whole
Chooses t known h (Err shape.Memory) ds = Unit {0}
