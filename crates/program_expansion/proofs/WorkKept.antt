-- What stood in a work still stands once a region is opened, the prelude is added and units are expanded.
use Rattle.std.proofs.Common.{◌≡◌, subst}
use Rattle.syntax_tree.specs.Names.{Names, KeepsNames}
use Rattle.syntax_tree.specs.Works.{KeepsTrees}
use Rattle.syntax_tree.specs.declared.trees.Work.{Work}
use Rattle.syntax_tree.specs.declared.trees.table.Region.{Region}
use Rattle.unit_scopes.specs.Outcomes.{Grows}
use Rattle.unit_scopes.proofs.OutcomeLaws.{names_on, trees_on}

module _ (old opened begun : Work) (region : Region) (opens : KeepsTrees old opened) (same : opened.symbols ≡ old.symbols) (begins : Grows opened begun region) where
  pub trees_begun : KeepsTrees old begun
  trees_begun = trees_on old opened begun opens begins.trees

  pub names_begun : KeepsNames old.symbols begun.symbols
  names_begun = subst (λ (n : Names). KeepsNames n begun.symbols) same begins.names

  -- the work was taken over in between
  pub trees_worked : (taken new : Work) (r : Region) → taken ≡ begun → Grows taken new r → KeepsTrees old new
  trees_worked taken new r is works = trees_on old begun new trees_begun (subst (λ (w : Work). KeepsTrees w new) is works.trees)

  pub names_worked : (taken new : Work) (r : Region) → taken ≡ begun → Grows taken new r → KeepsNames old.symbols new.symbols
  names_worked taken new r is works = names_on old.symbols begun.symbols new.symbols names_begun (subst (λ (w : Work). KeepsNames w.symbols new.symbols) is works.names)
