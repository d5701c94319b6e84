use Rattle.form_parts.proofs.LeafLaws.{first_there}
use Rattle.form_parts.proofs.heads.rules_head.Goals as goal

pub look_at-requires-in-Some : goal.look_at-requires-in-Some
look_at-requires-in-Some c =
    let w = c.args.work.now in
    let q = c.in-List.ensures.look c.requires.0 c.requires.1 in
    let p = first_there w c.in-List.items.now c.in-Some.first.now q.0 c.in-Some.ensures.value q.4 in
    (p.0, p.3)
