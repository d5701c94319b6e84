-- The leaves of cores, the uses of names in imports and exports, and which occurrences are live.
use Rattle.std.specs.Prelude.{ℕ, zero, suc, List, [], ◌∷◌, ◌++◌, map, Bool, true, false, Option, Some, None, Result, Ok, Err, if◌then◌else◌}
use Rattle.scheme_model.specs.declared.Occ.{Occ}
use Rattle.scheme_model.specs.Trees.{Tree, name, atom, list, vector, Trees, no_trees, tree, Tail, proper, dotted}
use Rattle.scheme_model.specs.ExpansionFaults.{Named}
use Rattle.scheme_model.specs.Meaning.{Meaning, Free}
use Rattle.scheme_model.specs.Cores.{Target, Binder, Binders, MacroDef, FieldUse, Core, Ref, Const, Quote, Quasi, Lambda, CaseLambda, If, Set, Call, Body, LetSyntax, Cores, no_cores, core, Clauses, no_clauses, clause, Parts, no_parts, part, Part, Expression, Define, Values, Fields, Syntax, MacroUse}
use Rattle.scheme_model.specs.Steps.{Broken}
use Rattle.scheme_model.specs.Order.{Counted}
use Rattle.scheme_model.specs.Expression.{meaning_of}
use Rattle.scheme_model.specs.UnitExpansion.{Formed}
use Rattle.scheme_model.specs.Entries.{Origin, Entry, entry_at, place_origin, ImportSet, Library, Only, Except, Prefix, Rename, Bad, ImportFault, given_by}
use Rattle.scheme_model.specs.Program.{ExportSpec}

-- ---- leaves of cores

pub data CoreLeaf : Type 0 where
  Binds : Binder → CoreLeaf
  Uses : Target → CoreLeaf
  Assigns : Target → CoreLeaf
  Quotes : Option Occ → CoreLeaf
  Defines : MacroDef → CoreLeaf

-- the places of the names in a tree of which a test tells names from holes
abbrev mutual
  pub name_places : {A : Type 0} → (A → Bool) → Tree A → List CoreLeaf
  name_places is_name (name i o) = if is_name i then Quotes o ∷ [] else []
  name_places is_name (atom a o) = []
  name_places is_name (list ts tail o) = name_places_all is_name ts ++ name_places_tail is_name tail
  name_places is_name (vector ts o) = name_places_all is_name ts

  pub name_places_all : {A : Type 0} → (A → Bool) → Trees A → List CoreLeaf
  name_places_all is_name no_trees = []
  name_places_all is_name (tree t ts) = name_places is_name t ++ name_places_all is_name ts

  pub name_places_tail : {A : Type 0} → (A → Bool) → Tail A → List CoreLeaf
  name_places_tail is_name proper = []
  name_places_tail is_name (dotted t) = name_places is_name t

abbrev pub any_name : {A : Type 0} → A → Bool
any_name i = true

abbrev pub no_hole : {A : Type 0} → Option A → Bool
no_hole None = false
no_hole (Some i) = true

abbrev pub binds_all : Binders → List CoreLeaf
binds_all bs = map Binds bs.names

-- the field with a number, used by the constructor
abbrev pub field_use : List Binder → ℕ → Option Occ → List CoreLeaf
field_use [] n o = []
field_use (b ∷ bs) zero o = Uses (record { meaning = meaning_of b.bound b.ident; ident = b.ident; occ = o }) ∷ []
field_use (b ∷ bs) (suc n) o = field_use bs n o

abbrev pub fields_used : List Binder → List FieldUse → List CoreLeaf
fields_used fields [] = []
fields_used fields (u ∷ us) = field_use fields u.field u.occ ++ fields_used fields us

abbrev pub macro_leaves : List MacroDef → List CoreLeaf
macro_leaves [] = []
macro_leaves (m ∷ ms) = Binds m.binder ∷ Defines m ∷ macro_leaves ms

abbrev mutual
  pub leaves_of : Core → List CoreLeaf
  leaves_of (Ref t) = Uses t ∷ []
  leaves_of (Const a) = []
  leaves_of (Quote d) = name_places any_name d
  leaves_of (Quasi d cs) = name_places no_hole d ++ leaves_of_all cs
  leaves_of (Lambda bs c) = binds_all bs ++ leaves_of c
  leaves_of (CaseLambda cs) = leaves_of_clauses cs
  leaves_of (If cs) = leaves_of_all cs
  leaves_of (Set t c) = Assigns t ∷ leaves_of c
  leaves_of (Call cs) = leaves_of_all cs
  leaves_of (Body ps) = leaves_of_parts ps
  leaves_of (LetSyntax ms c) = macro_leaves ms ++ leaves_of c

  pub leaves_of_all : Cores → List CoreLeaf
  leaves_of_all no_cores = []
  leaves_of_all (core c cs) = leaves_of c ++ leaves_of_all cs

  pub leaves_of_clauses : Clauses → List CoreLeaf
  leaves_of_clauses no_clauses = []
  leaves_of_clauses (clause bs c cs) = binds_all bs ++ leaves_of c ++ leaves_of_clauses cs

  pub leaves_of_parts : Parts → List CoreLeaf
  leaves_of_parts no_parts = []
  leaves_of_parts (part p ps) = leaves_of_part p ++ leaves_of_parts ps

  pub leaves_of_part : Part → List CoreLeaf
  leaves_of_part (Expression c) = leaves_of c
  leaves_of_part (Define b c) = Binds b ∷ leaves_of c
  leaves_of_part (Values bs c) = binds_all bs ++ leaves_of c
  leaves_of_part (Fields r) = map Binds r.binders ++ map Binds r.fields ++ fields_used r.fields r.used
  leaves_of_part (Syntax m) = Binds m.binder ∷ Defines m ∷ []

-- a broken form has none
abbrev pub form_leaves : Result Parts Broken → List CoreLeaf
form_leaves (Ok ps) = leaves_of_parts ps
form_leaves (Err e) = []

abbrev pub unit_leaves : List Formed → List CoreLeaf
unit_leaves [] = []
unit_leaves (f ∷ fs) = form_leaves f.result ++ unit_leaves fs

-- ---- keywords and matched literals

abbrev pub use_targets : List MacroUse → List Target
use_targets [] = []
use_targets (u ∷ us) = u.keyword ∷ u.literals ++ use_targets us

abbrev pub counted_targets : Result Parts Broken → Counted → List Target
counted_targets (Ok ps) c = c.keywords ++ use_targets c.met
counted_targets (Err e) c = []

abbrev pub keyword_targets : List Formed → List Target
keyword_targets [] = []
keyword_targets (f ∷ fs) = counted_targets f.result f.counted ++ keyword_targets fs

-- ---- names in imports and exports

-- an identifier of an import or an export: what it means, its place, and what spells it
pub record NameUse : Type 0 where
  pub meaning : Meaning
  pub symbol : List ℕ
  pub occ : Option Occ
  pub origins : List Origin

abbrev pub entry_use : Option Entry → Named (List ℕ) → List NameUse
entry_use None n = []
entry_use (Some e) n = record { meaning = e.meaning; symbol = n.name; occ = n.occ; origins = e.origins } ∷ []

abbrev pub listed_uses : List Entry → List (Named (List ℕ)) → List NameUse
listed_uses es [] = []
listed_uses es (n ∷ ns) = entry_use (entry_at es n.name) n ++ listed_uses es ns

-- the second name of a pair means what the first means, and is its own origin
abbrev pub second_use : Option Entry → Named (List ℕ) → List NameUse
second_use None n = []
second_use (Some e) n = record { meaning = e.meaning; symbol = n.name; occ = n.occ; origins = place_origin n.occ } ∷ []

abbrev pub pair_uses : List Entry → List (Named (List ℕ) × Named (List ℕ)) → List NameUse
pair_uses es [] = []
pair_uses es (p ∷ ps) = entry_use (entry_at es p.0.name) p.0 ++ second_use (entry_at es p.0.name) p.1 ++ pair_uses es ps

-- what a modifier's names are in the inner set, where that has no fault
abbrev pub if_given : Result (List Entry) ImportFault → (List Entry → List NameUse) → List NameUse
if_given (Ok es) f = f es
if_given (Err e) f = []

abbrev pub set_uses : List Entry → ImportSet → List NameUse
set_uses exports (Library n) = []
set_uses exports (Only s ns) = set_uses exports s ++ if_given (given_by s exports) (λ es. listed_uses es ns)
set_uses exports (Except s ns) = set_uses exports s ++ if_given (given_by s exports) (λ es. listed_uses es ns)
set_uses exports (Prefix s p) = set_uses exports s
set_uses exports (Rename s ps) = set_uses exports s ++ if_given (given_by s exports) (λ es. pair_uses es ps)
set_uses exports Bad = []

-- the meaning of a symbol that is exported
abbrev pub meaning_or : Option Entry → List ℕ → Meaning
meaning_or None s = Free s
meaning_or (Some e) s = e.meaning

abbrev pub origins_or : Option Entry → List Origin
origins_or None = []
origins_or (Some e) = e.origins

abbrev pub export_uses : (List ℕ → Option Entry) → ExportSpec → List NameUse
export_uses find x =
    record { meaning = meaning_or (find x.inner.name) x.inner.name; symbol = x.inner.name; occ = x.inner.occ; origins = origins_or (find x.inner.name) } ∷
    (if x.renamed then record { meaning = meaning_or (find x.inner.name) x.inner.name; symbol = x.outer.name; occ = x.outer.occ; origins = place_origin x.outer.occ } ∷ [] else [])

abbrev pub all_export_uses : (List ℕ → Option Entry) → List ExportSpec → List NameUse
all_export_uses find [] = []
all_export_uses find (x ∷ xs) = export_uses find x ++ all_export_uses find xs
