-- Places that are added behind others, and those of pattern variables.
use Rattle.std.proofs.Common.{◌≡◌, List, [], ◌∷◌, ◌++◌, map, refl, sym, ap, ◌∙◌, append_assoc}
use Rattle.std.specs.List.{flat_map}
use Rattle.scheme_model.specs.declared.Occ.{Occ}
use Rattle.scheme_model.specs.Ident.{Ident as Identifier}
use Rattle.scheme_model.specs.RulesShape.{Variable}
use Rattle.scheme_model.specs.ProgramArrows.{places_at, variable_places}
use Rattle.syntax_tree.specs.Names.{Names}
use Rattle.syntax_tree.specs.Placed.{IsNamed}
use Rattle.syntax_tree.specs.declared.rules.Named as code
use Rattle.core_tree.specs.Names.{AllMatch}

pub some_added : (old new xs ys : List Occ) → new ≡ old ++ xs → ys ≡ xs → new ≡ old ++ ys
some_added old new xs ys h e = h ∙ ap (λ (q : List Occ). old ++ q) (sym e)

pub both_added : (old mid new xs ys zs : List Occ) → mid ≡ old ++ xs → new ≡ mid ++ ys → zs ≡ xs ++ ys → new ≡ old ++ zs
both_added old mid new xs ys zs h k e = k ∙ ap (λ (q : List Occ). q ++ ys) h ∙ append_assoc old xs ys ∙ ap (λ (q : List Occ). old ++ q) (sym e)

pub variables_at : (names : Names) (vs : List code.Named) (ws : List (Variable Identifier)) → AllMatch (IsNamed names) vs (map (λ v. v.variable) ws) → flat_map (λ (n : code.Named). places_at n.occ) vs ≡ variable_places ws
variables_at names [] [] h = refl
variables_at names [] (w ∷ ws) h = absurd h
variables_at names (v ∷ vs) [] h = absurd h
variables_at names (v ∷ vs) (w ∷ ws) h = λ j. places_at (h.0.1 j) ++ variables_at names vs ws h.1 j
