use Rattle.std.proofs.Common.{List, ap, sym, ◌∙◌}
use Rattle.std.specs.BTreeSet.{contains}
use Rattle.syntax_tree.specs.declared.units.Origin.{Origin}
use Rattle.import_sets.specs.Given.{key_cmp, key_of, has_origin}
use Rattle.import_sets.proofs.KeyLaws.{keys_pushed}
use Rattle.import_sets.proofs.origins.Origins.with.Goals as goal

pub invariant_of-result : goal.invariant_of-result
invariant_of-result c = record {
  told = λ o.
      keys_pushed c.args.self.all c.args.origin o c.in_ok-key_of.field-0 (contains key_cmp c.args.self.keys (key_of o)) (contains key_cmp c.insert.new.self (key_of o))
      c.in_ok-key_of.ensures (c.args.self.told o) (c.in_ok-insert.ensures.updates.0 (key_of o))
      ∙ ap (λ (os : List Origin). has_origin os o) (sym c.in_ok-push.ensures.ok);
}
