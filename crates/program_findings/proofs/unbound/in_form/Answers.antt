use Rattle.std.proofs.Common.{map, List, ◌++◌, append-nil, sym, ap, ◌∙◌}
use Rattle.core_tree.specs.declared.cores.Target.{Target}
use Rattle.program_leaves.specs.Leaves.{seen_of, items_seen}
use Rattle.program_leaves.specs.declared.leaves.Leaf.{Leaf}
use Rattle.program_findings.specs.Unbound.{free_uses}
use Rattle.program_findings.proofs.UnboundLaws.{broken_none, whole_all}
use Rattle.program_findings.proofs.unbound.in_form.Goals as goal

pub returns-then-is_some : goal.returns-then-is_some
returns-then-is_some c =
    sym (ap (λ (ts : List Target). c.args.found.now.items ++ ts) (broken_none c.args.form.now (sym c.is_some.ensures ∙ c.if-is_some.true)) ∙ append-nil c.args.found.now.items)

pub returns : goal.returns
returns c =
    c.in_ok-in_leaves.ensures
    ∙ ap (λ (ts : List Target). c.args.found.now.items ++ ts) (ap free_uses (c.in_ok-add_form.ensures ∙ ap (λ (ls : List Leaf). map seen_of ls ++ items_seen c.args.form.now.items) c.new-leaves.ensures.items) ∙ sym (whole_all c.args.form.now (sym c.is_some.ensures ∙ c.if-is_some.false)))
