-- What bounds an expansion, and forms whose expansion comes to its end.
use Rattle.std.specs.Prelude.{◌≡◌, ℕ, ◌^◌, ◌<◌, List, [], ◌∷◌, Result, Ok, Err}
use Rattle.scheme_model.specs.Data.{Datum}
use Rattle.scheme_model.specs.Measures.{tree_size}
use Rattle.scheme_model.specs.ExpansionFaults.{OutOfTurns}
use Rattle.scheme_model.specs.Cores.{Parts}
use Rattle.scheme_model.specs.Steps.{Broken}
use Rattle.scheme_model.specs.Declarations.{symbol_tree}
use Rattle.scheme_model.specs.Includes.{Document, data_of}

-- this holds of each
abbrev pub Each : {X : Type 0} → (X → Type 0) → List X → Type 0
Each P [] = Unit {0}
Each P (x ∷ xs) = P x × Each P xs

-- how many nodes a datum has
abbrev pub datum_size : Datum → ℕ
datum_size d = tree_size (symbol_tree d)

-- no datum has 2 ^ 60 nodes: far more than texts give
abbrev pub AreBounded : List Document → Type 0
AreBounded ds = Each (λ (d : Document). Each (λ (x : Datum). datum_size x < 2 ^ 60) (data_of d)) ds

-- it came to its parts, or to a fault of the form itself
abbrev pub IsDone : Result Parts Broken → Type 0
IsDone (Ok ps) = Unit {0}
IsDone (Err b) = b.fault ≡ OutOfTurns → ⊥
