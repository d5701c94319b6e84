use Rattle.feature_requirements.proofs.JudgeLaws.{symbol_named, symbol_part, atom_part}
use Rattle.feature_requirements.proofs.libraries.part_text.Goals as goal

pub returns-in_ok-symbol_text-in-Name : goal.returns-in_ok-symbol_text-in-Name
returns-in_ok-symbol_text-in-Name c = λ t h.
    let q = c.in-Name.ensures.look t h in
    symbol_part q.0 q.1 t c.name.result.now _ q.2 (symbol_named c.args.work.now.symbols c.in-Name.ident c.strip.result q.0 c.name.result.now q.3 c.strip.ensures c.name.ensures) c.name.utf8 c.in_ok-symbol_text-in-Name.ensures

pub returns-in-Atom : goal.returns-in-Atom
returns-in-Atom c = λ t h.
    let q = c.in-Atom.ensures.look t h in
    atom_part q.0 q.1 t c.leaf_text.result q.2 (c.leaf_text.ensures q.0 q.1 q.3)
