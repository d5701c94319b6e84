-- Reading changes one after the other, as a loop does.
use Rattle.std.proofs.Common.{List, ◌++◌, Result, Ok}
use Rattle.ls_base.specs.declared.answers.Change.{Change}
use Rattle.lsp_messages.specs.declared.fault.Fault.{Fault}
use Rattle.lsp_messages.specs.Fields.{◌>>=◌}

-- what was read before, and what is still read
abbrev pub with_front : List Change → Result (List Change) Fault → Result (List Change) Fault
with_front front given = given >>= λ more. Ok (front ++ more)
