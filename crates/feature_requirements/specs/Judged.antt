-- How the requirements of `cond-expand` are judged (R7RS 4.2.1, 5.6.1): libraries by the texts of their names, requirements by their
-- words, and clauses one after another.
use Rattle.std.specs.Prelude.{◌≡◌, ℕ, List, [], ◌∷◌, ◌++◌, Bool, true, false, Option, Some, None, Result, Ok, Err, Vec, slice_get, codes, if◌then◌else◌, String}
use Rattle.std.specs.declared.alloc.Global.{Global}
use Rattle.std.specs.Option.{option_map}
use Rattle.std.specs.Str.{bytes_eq}
use Rattle.std.specs.String.{string_bytes}
use Rattle.std.specs.BTreeSet.{BTreeSet, contains_text}
use Rattle.scheme_model.specs.declared.Occ.{Occ}
use Rattle.scheme_model.specs.Trees.{Tree, Trees, Tail, proper}
use Rattle.scheme_model.specs.ExpansionFaults.{Fault, BadForm, ◌>>◌}
use Rattle.scheme_model.specs.Shapes.{one_of, some_of}
use Rattle.scheme_model.specs.Requirements.{LibraryPart, LibraryName, Known, parts_of, library_name_of, holds, all_hold, some_holds, none_holds, is_else, or_chosen}
use Rattle.scheme_model.specs.Ident.{Ident as Identifier, symbol_of}
use Rattle.syntax_tree.specs.declared.trees.Work.{Work}
use Rattle.syntax_tree.specs.declared.trees.nodes.Tree as number
use Rattle.scheme_tokens.specs.LibraryNames.{IsProperPart, AreProper, IsProper}
pub use Rattle.scheme_tokens.specs.LibraryNames.{part_text, behind_spaces, library_text}
use Rattle.core_forms.specs.Parts.{AllMatch, IsChoice, AreTrees}
use Rattle.core_forms.specs.declared.shape.Choice as code_choice
use Rattle.feature_requirements.specs.Faults.{plain_fault}
use Rattle.feature_requirements.specs.declared.fault.ExpandFault.{ExpandFault}
use Rattle.feature_requirements.specs.declared.fault.ExpandFault.TheVariants as faults
use Rattle.feature_requirements.specs.declared.requirements.ShapeFault.{ShapeFault}
use Rattle.feature_requirements.specs.declared.requirements.ShapeFault.TheVariants as fault
use Rattle.feature_requirements.specs.declared.requirements.Connective.{Connective}
use Rattle.feature_requirements.specs.declared.requirements.Connective.TheVariants as word

-- ---- libraries by the texts of their names

-- the texts are those of the libraries that there are, among names that can be read
abbrev pub Knows : BTreeSet (String Global) → Known → Type 0
Knows libraries known = (n : LibraryName) → IsProper n → known n ≡ contains_text libraries (library_text n)

-- ---- answers

-- a fault is the definition's; want of memory may come with any
abbrev pub Fails : {Y : Type 0} → ShapeFault → Result Y (Fault Identifier) → Type 0
Fails fault.BadForm r = r ≡ Err BadForm
Fails fault.Memory r = Unit {0}

-- an answer, seen by view, is the definition's
abbrev pub Reads : {X Y : Type 0} → (X → Y) → Result X ShapeFault → Result Y (Fault Identifier) → Type 0
Reads view (Ok x) r = r ≡ Ok (view x)
Reads view (Err e) r = Fails e r

abbrev pub map_ok : {X Y : Type 0} → (X → Y) → Result X (Fault Identifier) → Result Y (Fault Identifier)
map_ok f (Ok a) = Ok (f a)
map_ok f (Err e) = Err e

-- what is added to a text, of parts that are proper
abbrev pub Puts : List ℕ → List ℕ → Result Unit ShapeFault → Result LibraryPart (Fault Identifier) → Type 0
Puts old new (Ok u) r = (p : LibraryPart) × (r ≡ Ok p) × (new ≡ old ++ part_text p) × IsProperPart p
Puts old new (Err e) r = Fails e r

abbrev pub PutsAll : List ℕ → List ℕ → Result Unit ShapeFault → Result LibraryName (Fault Identifier) → Type 0
PutsAll old new (Ok u) r = (ps : LibraryName) × (r ≡ Ok ps) × (new ≡ old ++ behind_spaces ps) × AreProper ps
PutsAll old new (Err e) r = Fails e r

-- the text of a part, which is proper
abbrev pub ReadsPart : Result (List ℕ) ShapeFault → Result LibraryPart (Fault Identifier) → Type 0
ReadsPart (Ok s) r = (p : LibraryPart) × (r ≡ Ok p) × (s ≡ part_text p) × IsProperPart p
ReadsPart (Err e) r = Fails e r

-- the text of a name, which is proper
abbrev pub ReadsName : Result (String Global) ShapeFault → Result LibraryName (Fault Identifier) → Type 0
ReadsName (Ok s) r = (n : LibraryName) × (r ≡ Ok n) × (string_bytes s ≡ library_text n) × IsProper n
ReadsName (Err e) r = Fails e r

-- the name that the parts of a list make
abbrev pub name_in_list : Trees Identifier → Tail Identifier → Result LibraryName (Fault Identifier)
name_in_list ts tail = some_of ts tail >> parts_of symbol_of

-- ---- requirements by their words

abbrev pub library_holds : Known → Trees Identifier → Result Bool (Fault Identifier)
library_holds known ts = one_of ts proper >> library_name_of symbol_of >> λ n. Ok (known n)

abbrev pub connective_named : List ℕ → Connective
connective_named s =
    if bytes_eq s (codes "and") then word.And
    else if bytes_eq s (codes "or") then word.Or
    else if bytes_eq s (codes "not") then word.Not
    else if bytes_eq s (codes "library") then word.Library
    else word.Unknown

abbrev pub by_connective : Known → Connective → Trees Identifier → Result Bool (Fault Identifier)
by_connective known word.And ts = all_hold symbol_of known ts
by_connective known word.Or ts = some_holds symbol_of known ts
by_connective known word.Not ts = none_holds symbol_of known ts
by_connective known word.Library ts = library_holds known ts
by_connective known word.Unknown ts = Err BadForm

-- a requirement that begins with a word
abbrev pub word_holds : Known → List ℕ → Trees Identifier → Result Bool (Fault Identifier)
word_holds known s ts = by_connective known (connective_named s) ts

-- ---- clauses

-- whether the requirement of a clause holds that is the last or isn't
abbrev pub clause_judged : Known → Tree Identifier → Bool → Result Bool (Fault Identifier)
clause_judged known t last = if is_else symbol_of t then (if last then Ok true else Err BadForm) else holds symbol_of known t

abbrev pub is_nil : {A : Type 0} → List A → Bool
is_nil [] = true
is_nil (x ∷ xs) = false

-- the forms of the first clause that holds, of clauses whose parts are known
abbrev pub chosen_among : Known → List (Tree Identifier × Trees Identifier) → Result (Option (Trees Identifier)) (Fault Identifier)
chosen_among known [] = Ok None
chosen_among known (p ∷ ps) = clause_judged known p.0 (is_nil ps) >> λ b. chosen_among known ps >> λ later. Ok (or_chosen b p.1 later)

-- the forms of the clause at a place
abbrev pub forms_of : List (Tree Identifier × Trees Identifier) → Option ℕ → Option (Trees Identifier)
forms_of ps None = None
forms_of ps (Some k) = option_map (λ p. p.1) (slice_get ps k)

-- the first place that holds, one place more
abbrev pub or_first : Option ℕ → Bool → ℕ → Option ℕ
or_first (Some j) here k = Some j
or_first None true k = Some k
or_first None false k = None

-- ---- what becomes of the choice

-- the clauses stand for some
abbrev pub AreChoosable : Work → List code_choice.Choice → Type 0
AreChoosable work cs = (ps : List (Tree Identifier × Trees Identifier)) × AllMatch (IsChoice work) cs ps

-- a fault is that of a form without a shape, at this place; want of memory may come with any
abbrev pub IsBadForm : {Y : Type 0} → Option Occ → ExpandFault → Result Y (Fault Identifier) → Type 0
IsBadForm here (faults.At e) r = (r ≡ Err BadForm) × (faults.At e ≡ plain_fault here 31)
IsBadForm here faults.Full r = ⊥
IsBadForm here faults.Memory r = Unit {0}

-- trees that stand for the forms of the clause at a place
abbrev pub IsClauseForms : Work → List (Tree Identifier × Trees Identifier) → ℕ → Vec number.Tree Global → Type 0
IsClauseForms work ps k ns = (ts : Trees Identifier) × (forms_of ps (Some k) ≡ Some ts) × AreTrees work ns ts

abbrev pub Chooses : Work → Option Occ → Result (Option (Vec number.Tree Global)) ExpandFault → Result (Option (Trees Identifier)) (Fault Identifier) → Type 0
Chooses work here (Ok None) r = r ≡ Ok None
Chooses work here (Ok (Some ns)) r = (ts : Trees Identifier) × (r ≡ Ok (Some ts)) × AreTrees work ns ts
Chooses work here (Err e) r = IsBadForm here e r

-- among expressions there is a clause that holds, and it has a form
abbrev pub some_chosen : Option (Trees Identifier) → Result (Trees Identifier) (Fault Identifier)
some_chosen None = Err BadForm
some_chosen (Some ts) = some_of ts proper

abbrev pub forms_chosen : Known → List (Tree Identifier × Trees Identifier) → Result (Trees Identifier) (Fault Identifier)
forms_chosen known ps = chosen_among known ps >> some_chosen

abbrev pub ChoosesForms : Work → Option Occ → Result (Vec number.Tree Global) ExpandFault → Result (Trees Identifier) (Fault Identifier) → Type 0
ChoosesForms work here (Ok ns) r = (ts : Trees Identifier) × (r ≡ Ok ts) × AreTrees work ns ts
ChoosesForms work here (Err e) r = IsBadForm here e r
