-- The texts that strings mean, one after another.
use Rattle.std.proofs.Common.{◌≡◌, List, [], ◌∷◌, Option, Some, None, refl}
use Rattle.std.specs.Prelude.{map, ◌++◌}
use Rattle.scheme_model.specs.Data.{Datum}
use Rattle.scheme_model.specs.Includes.{StringAt, string_in}
use Rattle.scheme_model.specs.Included.{Listing}
use Rattle.included_strings.specs.Strings.{strings_among}

abbrev with_one : Option StringAt → List StringAt → List StringAt
with_one None ss = ss
with_one (Some s) ss = s ∷ ss

-- the first of a row, and the others
pub texts_more : (f : StringAt → Listing) (d : Datum) (ds : List Datum) → map f (strings_among (d ∷ ds)) ≡ map f (strings_among (d ∷ [])) ++ map f (strings_among ds)
texts_more f d ds = go (string_in d)
  where
    go : (o : Option StringAt) → map f (with_one o (strings_among ds)) ≡ map f (with_one o []) ++ map f (strings_among ds)
    go None = refl
    go (Some s) = refl
