-- Trees that may be named: one more of them, and shapes that are handed on.
use Rattle.std.proofs.Common.{◌≡◌, List, [], ◌∷◌, ◌++◌, Bool, true, false, Result, Ok, Err, refl, sym, subst}
use Rattle.std.specs.Prelude.{IfOk}
use Rattle.std.specs.List.{AllByRecursion}
use Rattle.syntax_tree.specs.declared.trees.Work.{Work}
use Rattle.syntax_tree.specs.declared.trees.table.Region.{Region}
use Rattle.core_forms.specs.declared.fault.CoreFault.{CoreFault}
use Rattle.core_forms.specs.declared.fault.CoreFault.TheVariants as fault
use Rattle.core_forms.specs.declared.shape.CoreShape as code
use Rattle.core_forms.specs.Named.{ShapeNamed}

pub all_more : {X : Type 0} (P : X → Type 0) (xs : List X) (x : X) → AllByRecursion P xs → P x → AllByRecursion P (xs ++ x ∷ [])
all_more P [] x h g = (g, tt)
all_more P (y ∷ xs) x h g = (h.0, all_more P xs x h.1 g)

-- a shape that stands where a definition may
pub unless_named : (work : Work) (region : Region) (b : Bool) (x : code.CoreShape) (r : Result code.CoreShape CoreFault) → (b ≡ true → r ≡ Err fault.BadPlace) → (b ≡ false → r ≡ Ok x) → ShapeNamed work region x → IfOk r (ShapeNamed work region)
unless_named work region true x r m h g = subst (λ (z : Result code.CoreShape CoreFault). IfOk z (ShapeNamed work region)) (sym (m refl)) tt
unless_named work region false x r m h g = subst (λ (z : Result code.CoreShape CoreFault). IfOk z (ShapeNamed work region)) (sym (h refl)) g
