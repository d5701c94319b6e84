use Rattle.std.proofs.Common.{ap, ◌∙◌, arith}
use Rattle.std.specs.Prelude.{None, List}
use Rattle.std.specs.BTreeMap.{get}
use Rattle.std.specs.Ordering.{nat_cmp}
use Rattle.std.proofs.lemmas.List.{take_all}
use Rattle.syntax_tree.specs.declared.rules.Named as code
use Rattle.program_differences.specs.Variables.{numbered}
use Rattle.program_differences.proofs.RuleLaws.{numbered_more}
use Rattle.program_differences.proofs.rules.places_of.Goals as goal

pub loop-place-preserved : goal.loop-place-preserved
loop-place-preserved c = λ n.
    numbered_more c.args.variables.now c.loop-place.place n (record { ident = 0; occ = None }) (get nat_cmp c.loop-place.places n) (get nat_cmp c.put_variable.new.variables n) (omega arith) (c.loop-place.invariant n) (c.in_ok-put_variable.ensures n)

pub returns : goal.returns
returns c = λ n. c.loop-place.invariant n ∙ ap (λ (q : List code.Named). numbered 0 q n) (take_all c.loop-place.place c.args.variables.now (omega arith))
