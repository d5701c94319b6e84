use Rattle.form_pairs.proofs.SameTrees.{names_same, numerals_same, quoted_same}
use Rattle.form_pairs.proofs.same.is_same_atom.Goals as goal

pub returns-in-Name-Name : goal.returns-in-Name-Name
returns-in-Name-Name c =
    let at = c.in-Name-Name in
    let s = c.as_str in
    let t = c.as_str-in-Name-Name in
    names_same c.args.a.now c.args.b.now at.x at.y s.result.now t.result.now s.ensures s.utf8 t.ensures t.utf8 c.eq.result c.eq.ensures at.bars-0 at.bars-1 at.is-0 at.is-1

pub returns-in-Numeral-Numeral : goal.returns-in-Numeral-Numeral
returns-in-Numeral-Numeral c =
    let at = c.in-Numeral-Numeral in
    let s = c.as_str-in-Numeral-Numeral in
    let t = c.as_str-in-Numeral-Numeral-2 in
    numerals_same c.args.a.now c.args.b.now at.x at.y s.result.now t.result.now s.ensures s.utf8 t.ensures t.utf8 c.eq-in-Numeral-Numeral.result c.eq-in-Numeral-Numeral.ensures at.is-0 at.is-1

pub returns-in-Quoted-Quoted : goal.returns-in-Quoted-Quoted
returns-in-Quoted-Quoted c =
    let at = c.in-Quoted-Quoted in
    let s = c.as_str-in-Quoted-Quoted in
    let t = c.as_str-in-Quoted-Quoted-2 in
    quoted_same c.args.a.now c.args.b.now at.x at.y s.result.now t.result.now s.ensures s.utf8 t.ensures t.utf8 c.eq-in-Quoted-Quoted.result c.eq-in-Quoted-Quoted.ensures at.is-0 at.is-1
