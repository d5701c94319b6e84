use Rattle.std.proofs.Common.{ap}
use Rattle.std.specs.Str.{chars}
use Rattle.scheme_model.specs.Data.{atom, spelled}
use Rattle.datum_reader.specs.declared.datum.Atom.{Atom}
use Rattle.datum_reader.specs.Views.{leaf_of}
use Rattle.datum_reader.proofs.LeafLaws.{encoded-same}
use Rattle.datum_reader.proofs.look.look_at_atom.Goals as goal

pub returns-in-Name : goal.returns-in-Name
returns-in-Name c = λ p. (chars c.in-Name.name, c.in-Name.bars, ap (λ (x : Atom). atom p (spelled (leaf_of x))) c.in-Name.is, encoded-same c.in-Name.name c.as_str.result.now c.as_str.ensures c.as_str.utf8)

pub returns-in-Numeral : goal.returns-in-Numeral
returns-in-Numeral c = λ p.
    let s = c.as_str-in-Numeral in
    (chars c.in-Numeral.text, ap (λ (x : Atom). atom p (spelled (leaf_of x))) c.in-Numeral.is, encoded-same c.in-Numeral.text s.result.now s.ensures s.utf8)
