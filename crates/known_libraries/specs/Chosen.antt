-- Requirements by their words, and the clauses of `cond-expand` (R7RS 4.2.1).
use Rattle.std.specs.Prelude.{ℕ, List, Bool, true, false, Result, Ok, Err, codes, if◌then◌else◌}
use Rattle.std.specs.Str.{bytes_eq}
use Rattle.scheme_model.specs.Trees.{Trees, no_trees, tree, proper}
use Rattle.scheme_model.specs.ExpansionFaults.{Fault, BadForm, ◌>>◌}
use Rattle.scheme_model.specs.Shapes.{one_of}
use Rattle.known_libraries.specs.declared.requirements.Connective.{Connective}
use Rattle.known_libraries.specs.declared.requirements.Connective.TheVariants as word
use Rattle.scheme_model.specs.Requirements.{Known, all_hold, some_holds, none_holds, library_name_of}

abbrev pub library_holds : Known → Trees (List ℕ) → Result Bool (Fault (List ℕ))
library_holds known ts = one_of ts proper >> library_name_of (λ s. s) >> λ n. Ok (known n)

abbrev pub connective_named : List ℕ → Connective
connective_named s =
    if bytes_eq s (codes "and") then word.And
    else if bytes_eq s (codes "or") then word.Or
    else if bytes_eq s (codes "not") then word.Not
    else if bytes_eq s (codes "library") then word.Library
    else word.Unknown

abbrev pub by_connective : Known → Connective → Trees (List ℕ) → Result Bool (Fault (List ℕ))
by_connective known word.And ts = all_hold (λ s. s) known ts
by_connective known word.Or ts = some_holds (λ s. s) known ts
by_connective known word.Not ts = none_holds (λ s. s) known ts
by_connective known word.Library ts = library_holds known ts
by_connective known word.Unknown ts = Err BadForm

-- a requirement that begins with a word
abbrev pub word_holds : Known → List ℕ → Trees (List ℕ) → Result Bool (Fault (List ℕ))
word_holds known s ts = by_connective known (connective_named s) ts

abbrev pub is_empty : {A : Type 0} → Trees A → Bool
is_empty no_trees = true
is_empty (tree t ts) = false
