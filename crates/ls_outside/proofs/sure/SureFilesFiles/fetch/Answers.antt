use Rattle.std.proofs.Common.{List, ℕ, [], ◌∷◌, ◌++◌, ◌∙◌, ap, refl}
use Rattle.ls_outside.proofs.CallLaws.{took_none}
use Rattle.ls_outside.proofs.sure.SureFilesFiles.fetch.Goals as goal

pub returns-in-None-clause-gives : goal.returns-in-None-clause-gives
returns-in-None-clause-gives c = rw c.new.ensures.items (took_none _ _ (c.note-in-None.ensures ∙ ap (λ (reads : List (List ℕ)). reads ++ [] ∷ []) (c.in-None.ensures.unread refl)))
