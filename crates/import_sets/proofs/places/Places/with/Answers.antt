use Rattle.std.proofs.Common.{ap, sym, ◌∙◌}
use Rattle.std.specs.BTreeSet.{contains}
use Rattle.std.specs.Ordering.{nat_cmp}
use Rattle.scheme_model.specs.Program.{is_in}
use Rattle.import_sets.proofs.HeldPlaces.{has_pushed}
use Rattle.import_sets.proofs.places.Places.with.Goals as goal

pub invariant_of-result-then-branch : goal.invariant_of-result-then-branch
invariant_of-result-then-branch c = record {
  told = λ n.
      has_pushed c.in-Some.place n c.args.self.all (contains nat_cmp c.args.self.seen n) (contains nat_cmp c.insert.new.self n) (c.args.self.told n) (c.in_ok-insert.ensures.updates.0 n)
      ∙ ap (is_in n) (sym c.in_ok-push.ensures.ok);
}
