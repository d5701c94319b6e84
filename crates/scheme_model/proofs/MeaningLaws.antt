-- What a name means that nothing local stands around: what its unit gives, or else what it was inserted for.
use Rattle.std.proofs.Common.{◌≡◌, ℕ, Bool, true, false, List, Option, Some, None, refl, sym, ap, ◌∙◌}
use Rattle.std.specs.Prelude.{◌&&◌}
use Rattle.scheme_model.specs.Identifiers.{Name}
use Rattle.scheme_model.specs.Ident.{Ident, erase}
use Rattle.scheme_model.specs.Meaning.{Meaning, Global, Free}
use Rattle.scheme_model.specs.Order.{is_some}
use Rattle.scheme_model.specs.Substitution.{Table, Entries, Defined, defined_in, is_plain, defines, imported, global_or}
use Rattle.scheme_model.specs.Scopes.{own_of, imported_as, defined_or, given_or}

never : (b : Bool) → (b && false) ≡ false
never true = refl
never false = refl

pub imported_is : (m : Option Meaning) (s : List ℕ) → imported m s ≡ given_or m (Free s)
imported_is None s = refl
imported_is (Some m) s = refl

module _ (table : Table) (entry : Entries) (u : ℕ) (n : Name) (i : Ident) (same : erase n ≡ i) (plain : is_some (defined_in table u i) ≡ true → is_plain n ≡ true) where
  -- a unit defines a name where it defines the identifier that the name came from
  defines_name : defines table u n ≡ is_some (defined_in table u i)
  defines_name = ap (λ (j : Ident). is_plain n && is_some (defined_in table u j)) same ∙ go (is_some (defined_in table u i)) plain
    where
      go : (t : Bool) → (t ≡ true → is_plain n ≡ true) → (is_plain n && t) ≡ t
      go true h = ap (λ (b : Bool). b && true) (h refl)
      go false h = never (is_plain n)

  -- what a unit gives under an identifier, or else this
  pub own_name : (given : Option Meaning) (other : Meaning) → imported_as entry u i ≡ given → global_or (defines table u n) u n (given_or given other) ≡ given_or (own_of table entry u i) other
  own_name given other h = (λ j. global_or (defines_name j) u n (given_or given other)) ∙ go (defined_in table u i)
    where
      go : (d : Option Defined) → global_or (is_some d) u n (given_or given other) ≡ given_or (defined_or d u i (imported_as entry u i)) other
      go None = ap (λ (g : Option Meaning). given_or g other) (sym h)
      go (Some d) = ap (Global u) same
