use Rattle.std.proofs.Common.{Option, sym, ap}
use Rattle.core_tree.specs.declared.cores.Binder.{Binder}
use Rattle.program_leaves.specs.Leaves.{seen_of, field_seen}
use Rattle.program_leaves.proofs.Ends.{get_none, get_some}
use Rattle.program_leaves.proofs.Growing.{grows_as, grows_by_none, grows_by_one}
use Rattle.program_leaves.proofs.leaves.add_field.Goals as goal

pub returns-in-None : goal.returns-in-None
returns-in-None c = grows_by_none seen_of c.args.leaves.now.items _ (ap (λ (o : Option Binder). field_seen o c.args.field) (get_none c.args.fields.now c.args.field.field (sym c.in-None.ensures.lookup.0)))

pub returns-in_ok-push-in-Some : goal.returns-in_ok-push-in-Some
returns-in_ok-push-in-Some c =
    grows_as seen_of c.args.leaves.now.items c.push.new.self.items _ _ (grows_by_one seen_of c.args.leaves.now.items c.push.new.self.items _ c.in_ok-push-in-Some.ensures.items) (ap (λ (o : Option Binder). field_seen o c.args.field) (get_some c.args.fields.now c.args.field.field c.in-Some.binder.now (sym c.in-Some.ensures.lookup.0) c.in-Some.ensures.lookup.1))
