use Rattle.std.proofs.Common.{◌≡◌, map}
use Rattle.unit_imports.specs.Defined.{named_all}
use Rattle.unit_imports.specs.EntriesMeant.{HaveMeaning}
use Rattle.unit_imports.proofs.defined.names_of.Given as goal

abbrev pub invariant-loop-binder : goal.invariant-loop-binder
invariant-loop-binder l = record {
  means : HaveMeaning l.symbols l.names.items;
  exact : l.names.items ≡ named_all l.symbols l.unit (map (λ b. b.now) l.yielded);
}
