-- What an index is: the arrows and links of a program, and what is bound, written and read in it, in order, each once.
use Rattle.std.specs.Prelude.{List}
use Rattle.scheme_model.specs.IncludedUnits.{Placed}
use Rattle.scheme_model.specs.Program.{Program}
use Rattle.scheme_model.specs.ProgramArrows.{arrows_of, binders_in}
use Rattle.scheme_model.specs.Spelling.{links_of}
use Rattle.scheme_model.specs.Accesses.{written_in, read_in}
use Rattle.arrow_index.specs.Links.{AreLinks}
use Rattle.arrow_index.specs.declared.index.Index.{Index}
use Rattle.program_leaves.specs.Pairs.{AreArrows, AreOccs}

-- ---- an index

-- it is that of a program
pub record IsIndexOf (all : List Placed) (p : Program) (i : Index) : Type 0 where
  pub arrows : AreArrows i.arrows (arrows_of all p)
  pub links : AreLinks i.links (links_of all p)
  pub binders : AreOccs i.binders (binders_in p)
  pub written : AreOccs i.written (written_in p)
  pub read : AreOccs i.read (read_in p)
