use Rattle.std.proofs.Common.{ℕ, [], arith}
use Rattle.scheme_model.specs.Program.{enough_turns}
use Rattle.core_tree.specs.Cores.{PartStands}
use Rattle.unit_scopes.specs.Outcomes.{IsEnough}
use Rattle.expander.proofs.DeclareLaws.{asked_stands, ends_back}
use Rattle.expander.proofs.unit.expand_at_root.Goals as goal
use Rattle.expander.specs.UnitNotes.{expand_noting}

enough : (uses : ℕ) → IsEnough 400 uses enough_turns
enough uses = omega arith

pub expand_kept_item-part-requires-clause-look : goal.expand_kept_item-part-requires-clause-look
expand_kept_item-part-requires-clause-look c =
    let can = c.requires.can in
    record { layout = can.layout; state = can.state; frames = []; stands = asked_stands c.args.work.now c.args.units.now c.replace-before.new.dest can.layout can.state can.stands; at = can.stands.root }

pub returns-clause-part : goal.returns-clause-part
returns-clause-part c = λ known ls s i knows stands item.
    let u = c.args.units.now in let w = c.args.work.now in let region = c.args.region.now in let a = c.replace-before.new.dest in
    let new = c.expand_kept_item-part.new.work in let v = c.expand_kept_item-part.new.units in
    ends_back w new region u v a c.replace-before.result (λ layout. PartStands new v.unit v.form.number) ls c.expand_kept_item-part.result (expand_noting known i s)
    (c.expand_kept_item-part.ensures.runs i enough_turns item (enough u.form.budget.uses) known ls s [] knows (asked_stands w u a ls s stands) stands.root)
