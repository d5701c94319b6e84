use Rattle.rows.proofs.nodes.put_one.Goals as goal

pub returns-in-Ok : goal.returns-in-Ok
returns-in-Ok c = record {
  opened = c.in-Ok.ensures.keeps.regions c.args.yard.region c.requires.opened;
  reached = c.in-Ok.ensures.keeps.marks c.args.yard.region c.args.yard.mark c.requires.reached;
}
