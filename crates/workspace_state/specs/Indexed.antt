-- The index that is kept or was made.
use Rattle.arrow_index.specs.declared.index.Index.{Index}
use Rattle.workspace_state.specs.declared.expansion.Indexed.{Indexed}
use Rattle.workspace_state.specs.declared.expansion.Indexed.TheVariants.{Kept, Made}

abbrev pub index_in : Indexed → Index
index_in (Kept i) = i.now
index_in (Made i) = i
