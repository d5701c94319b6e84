use Rattle.std.proofs.Common.{sym, ap, ◌∙◌}
use Rattle.rules_match.specs.Found.{is_atom}
use Rattle.rules_match.proofs.AtomLaws.{leaf_same}
use Rattle.rules_match.proofs.matching.Matcher.atom.Goals as goal

pub returns-in-Atom : goal.returns-in-Atom
returns-in-Atom c = λ a o t is fs.
    let q = c.in-Atom.ensures.look t fs in
    let e = leaf_same c.args.self.now.work.now.symbols c.told_apart.ensures.symbols c.args.leaf c.in-Atom.other a q.0 o o q.1 q.1 is q.3 in
    c.eq.ensures ∙ e ∙ ap (is_atom a) (sym q.2)
