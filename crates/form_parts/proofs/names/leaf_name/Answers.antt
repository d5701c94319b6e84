use Rattle.form_parts.proofs.LeafLaws.{atom_name, name_there}
use Rattle.form_parts.proofs.names.leaf_name.Goals as goal

pub returns-in-Name : goal.returns-in-Name
returns-in-Name c = λ t h. name_there c.args.work.now c.args.leaf c.in-Name.ident c.args.occ t c.in-Name.is h

pub returns-in-Numeral : goal.returns-in-Numeral
returns-in-Numeral c = λ t h. atom_name c.args.work.now.symbols c.args.leaf _ c.args.occ t c.in-Numeral.is tt h c.args.work.now

pub returns-in-Quoted : goal.returns-in-Quoted
returns-in-Quoted c = λ t h. atom_name c.args.work.now.symbols c.args.leaf _ c.args.occ t c.in-Quoted.is tt h c.args.work.now

pub returns-in-Char : goal.returns-in-Char
returns-in-Char c = λ t h. atom_name c.args.work.now.symbols c.args.leaf _ c.args.occ t c.in-Char.is tt h c.args.work.now

pub returns-in-Bool : goal.returns-in-Bool
returns-in-Bool c = λ t h. atom_name c.args.work.now.symbols c.args.leaf _ c.args.occ t c.in-Bool.is tt h c.args.work.now

pub returns-in-Bytes : goal.returns-in-Bytes
returns-in-Bytes c = λ t h. atom_name c.args.work.now.symbols c.args.leaf _ c.args.occ t c.in-Bytes.is tt h c.args.work.now
