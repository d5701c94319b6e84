-- What variables stand for, by number.
use Rattle.std.proofs.Common.{◌≡◌, ℕ, List, [], ◌∷◌, Bool, true, false, Some, refl, sym, ◌∙◌, subst}
use Rattle.std.specs.Prelude.{nat_eq, if◌then◌else◌}
use Rattle.scheme_model.specs.Matching.{Binding}
use Rattle.scheme_model.specs.Building.{value_of}
use Rattle.scheme_model.specs.Ident.{Ident as Identifier, same_ident}
use Rattle.syntax_tree.specs.Names.{AreToldApart}
use Rattle.syntax_tree.specs.Macros.{IsIdent}
use Rattle.syntax_tree.specs.declared.trees.Work.{Work}
use Rattle.syntax_tree.specs.declared.trees.table.Region.{Region}
use Rattle.rules_build.specs.declared.values.Bound as code
use Rattle.rules_build.specs.Values.{IsFound, AreBound, value_by_number}
use Rattle.rules_build.proofs.NameLaws.{number_same}

-- what is found by number is what is found by name
module _ (work : Work) (region : Region) (apart : AreToldApart work.symbols.idents) (n : ℕ) (i : Identifier) (is : IsIdent work.symbols n i) where
  pub found_by_number : (bs : List code.Bound) (ms : List (Binding Identifier Identifier)) → AreBound work region bs ms → IsFound work region (value_by_number bs n) (value_of same_ident ms i)
  found_by_number [] [] h = tt
  found_by_number [] (m ∷ ms) h = absurd h
  found_by_number (b ∷ bs) [] h = absurd h
  found_by_number (b ∷ bs) (m ∷ ms) h = step (nat_eq n b.variable) refl (found_by_number bs ms h.1)
    where
      by : Bool → Bool → Type 0
      by x y = IsFound work region (if x then Some b.value else value_by_number bs n) (if y then Some m.value else value_of same_ident ms i)

      step : (x : Bool) → nat_eq n b.variable ≡ x → by false false → by (nat_eq n b.variable) (same_ident m.variable i)
      step true e rest =
          let same : same_ident m.variable i ≡ true = number_same work.symbols apart b.variable n m.variable i h.0.0 is ∙ e in
          subst (λ (x : Bool). by x (same_ident m.variable i)) (sym e) (subst (by true) (sym same) h.0.1)
      step false e rest =
          let same : same_ident m.variable i ≡ false = number_same work.symbols apart b.variable n m.variable i h.0.0 is ∙ e in
          subst (λ (x : Bool). by x (same_ident m.variable i)) (sym e) (subst (by false) (sym same) rest)
