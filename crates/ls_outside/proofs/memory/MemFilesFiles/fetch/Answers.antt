use Rattle.std.proofs.Common.{List, ℕ, [], ◌∷◌, ◌++◌, ◌∙◌, ap, refl}
use Rattle.ls_outside.proofs.CallLaws.{took_none}
use Rattle.ls_outside.proofs.memory.MemFilesFiles.fetch.Goals as goal

pub returns-then-next_fails-clause-gives : goal.returns-then-next_fails-clause-gives
returns-then-next_fails-clause-gives c = ([], took_none _ _ c.note-then-next_fails.ensures)

pub returns-in-None-clause-gives : goal.returns-in-None-clause-gives
returns-in-None-clause-gives c = ([], took_none _ _ (c.note-in-None.ensures ∙ ap (λ (reads : List (List ℕ)). reads ++ [] ∷ []) (c.in-None.ensures.unread refl)))
