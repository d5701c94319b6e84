use Rattle.std.proofs.Common.{◌≡◌, ℕ, refl}
use Rattle.syntax_tree.specs.declared.meaning.Meaning.{Meaning}
use Rattle.syntax_tree.specs.declared.meaning.Meaning.TheVariants.{Local, Global, Standard, Free}
use Rattle.unit_scopes.specs.Macros.{macro_in}
use Rattle.unit_scopes.specs.declared.macros.Macros.{Macros}
use Rattle.unit_scopes.proofs.EditionStands.{editions_same, units_same}
use Rattle.unit_scopes.proofs.macros.Macros.go_on_from.Goals as goal

-- no macro is changed
same : (ms : Macros) (last : ℕ) (f : ℕ) (c : Meaning) → macro_in (record ms { editions = last }) f c ≡ macro_in ms f c
same ms last f (Local n) = refl
same ms last f (Global u i) = refl
same ms last f (Standard s) = refl
same ms last f (Free s) = refl

pub returns-clause-macros : goal.returns-clause-macros
returns-clause-macros c = same c.args.self.now c.max-self.result

pub returns-clause-rests : goal.returns-clause-rests
returns-clause-rests c =
    let it = c.args.self.now in
    λ work u ls s notes is h. units_same c.args.self.now (record it { editions = c.max-self.result }) (same c.args.self.now c.max-self.result) work u ls s notes is h

pub returns-clause-tells : goal.returns-clause-tells
returns-clause-tells c =
    let it = c.args.self.now in
    λ names s editions h. editions_same c.args.self.now (record it { editions = c.max-self.result }) (same c.args.self.now c.max-self.result) names s editions h
