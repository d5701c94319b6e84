use Rattle.std.proofs.Common.{◌≡◌, true, get_or, ap, ◌∙◌, arith}
use Rattle.scheme_model.specs.Trees.{tree}
use Rattle.syntax_tree.proofs.Looking.{part_standing, part_there, behind_past}
use Rattle.rules_check.specs.Checked.{pair_in, is_headed}
use Rattle.rules_check.proofs.ReadLaws.{headed, pair_rule}
use Rattle.rules_check.proofs.reading.pair.Goals as goal

pub is_pattern-requires : goal.is_pattern-requires
is_pattern-requires c = part_standing c.args.work.now 0 c.args.items.now _ c.requires (omega arith)

pub returns : goal.returns
returns c = λ ts stands.
    let w = c.args.work.now in
    let items = c.args.items.now in
    let p = part_there w 0 items ts (record { number = 0 }) stands (omega arith) in
    let q = part_there w 1 items ts (record { number = 0 }) stands (omega arith) in
    let gone = behind_past w 2 items ts stands (omega arith) in
    let whole = p.split ∙ ap (tree p.part) (q.split ∙ ap (tree q.part) gone) in
    let here = c.is_pattern.ensures p.part p.stands in
    let is : is_headed p.part ≡ true = cc in
    let h = headed p.part q.part is in
    (h.rule, ap pair_in whole ∙ h.read, pair_rule w (record { pattern = get_or items 0 (record { number = 0 }); template = get_or items 1 (record { number = 0 }) }) p.part q.part h p.stands q.stands)
