-- How heavy data are: what they hold is lighter.
use Rattle.std.specs.Prelude.{ℕ, suc, ◌+◌, List}
use Rattle.scheme_model.specs.Data.{Datum, atom, list, vector, bytes, Data, none, part, tail, row}

abbrev mutual
  pub weight : Datum → ℕ
  weight (atom p a) = 1
  weight (list p ds) = suc (weights ds)
  weight (vector p ds) = suc (weights ds)
  weight (bytes p bs) = 1

  pub weights : Data → ℕ
  weights none = 0
  weights (part d ds) = weight d + weights ds
  weights (tail d) = weight d

abbrev pub row_weight : List Datum → ℕ
row_weight ds = weights (row ds none)
