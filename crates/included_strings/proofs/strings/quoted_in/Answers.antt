use Rattle.std.proofs.Common.{Some, sym, ap, ◌∙◌}
use Rattle.scheme_model.specs.Includes.{quoted_in}
use Rattle.datum_reader.specs.declared.datum.Atom.{Atom}
use Rattle.datum_reader.specs.Views.{leaf_of}
use Rattle.datum_reader.proofs.LeafLaws.{encoded-same}
use Rattle.included_strings.proofs.strings.quoted_in.Goals as goal

pub returns-in-Quoted : goal.returns-in-Quoted
returns-in-Quoted c = ap Some (encoded-same c.in-Quoted.text c.as_str.result.now c.as_str.ensures c.as_str.utf8) ∙ sym (ap (λ (x : Atom). quoted_in (leaf_of x)) c.in-Quoted.is)
