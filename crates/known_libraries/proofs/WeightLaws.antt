-- What is inside a datum is lighter.
use Rattle.std.proofs.Common.{◌≡◌, ℕ, ◌<◌, ◌≤◌, zero, suc, List, [], ◌∷◌, length, get_or, Bool, Option, Some, None, ap, arith}
use Rattle.scheme_model.specs.Data.{Datum, none, row, atom, list, vector, bytes}
use Rattle.datum_reader.specs.declared.datum.Datum as code
use Rattle.datum_reader.specs.Views.{datum_of, data_of}
use Rattle.datum_reader.specs.Looks.{IsListOf, end_with}
use Rattle.known_libraries.specs.Weights.{weight, weights, row_weight}

weight_some : (d : Datum) → 0 < weight d
weight_some (atom p a) = omega arith
weight_some (list p ds) = omega arith
weight_some (vector p ds) = omega arith
weight_some (bytes p bs) = omega arith

row_lighter : (ds : List code.Datum) (end : Option Datum) → weights (row (data_of ds) none) ≤ weights (row (data_of ds) (end_with end))
row_lighter [] None = omega arith
row_lighter [] (Some d) = omega arith
row_lighter (d ∷ ds) end = omega (arith, row_lighter ds end)

-- the parts of a list
pub parts_lighter : (ds : List code.Datum) (b : Bool) (d : Datum) → IsListOf ds b d → weights (row (data_of ds) none) < weight d
parts_lighter ds b d h = let e = ap weight h.1 in omega (arith, row_lighter ds h.0)

-- the first of a row, and the others
pub first_lighter : (ds : List code.Datum) (d : code.Datum) (es : List code.Datum) → ds ≡ d ∷ es → (weight (datum_of d) ≤ weights (row (data_of ds) none)) × (weights (row (data_of es) none) < weights (row (data_of ds) none))
first_lighter ds d es e = let f = ap (λ (xs : List code.Datum). weights (row (data_of xs) none)) e in (omega arith, omega (arith, weight_some (datum_of d)))

pub item_lighter : (ds : List code.Datum) (i : ℕ) (d : code.Datum) → i < length ds → d ≡ get_or ds i d → weight (datum_of d) ≤ row_weight (data_of ds)
item_lighter [] i d lt is = absurd (omega arith)
item_lighter (x ∷ ds) zero d lt is = let e = ap (λ (y : code.Datum). weight (datum_of y)) is in omega arith
item_lighter (x ∷ ds) (suc i) d lt is = let h = item_lighter ds i d (omega arith) is in omega arith
