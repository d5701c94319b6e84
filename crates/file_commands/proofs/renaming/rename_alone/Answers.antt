-- The text is the one that is open.
use Rattle.ls_base.specs.declared.encoding.Encoding.TheVariants.{Utf16}
use Rattle.std.proofs.Common.{[], ◌∷◌}
use Rattle.rename_answers.specs.ToldRenames.{rename_uses, text_uses}
use Rattle.file_commands.specs.Renaming.{one_document}
use Rattle.file_commands.proofs.CountLaws.{both_counted}
use Rattle.file_commands.proofs.renaming.rename_alone.Goals as goal

pub rename_opened-requires : goal.rename_opened-requires
rename_opened-requires g c = c.in_ok-open.ensures.encoding

pub returns-clause-renamed : goal.returns-clause-renamed
returns-clause-renamed g c = λ r is. c.in_ok-rename_opened.ensures.renamed r c.args.text.now is c.in_ok-open.ensures.texts

pub returns-clause-steps : goal.returns-clause-steps
returns-clause-steps g c = λ r is.
    let a = c.args in
    both_counted a.steps.now (text_uses r (a.name.now ∷ []) (a.text.now ∷ [])) c.open.new.steps (rename_uses r Utf16 (one_document a.name.now a.text.now) a.name.now a.position a.new_name.now) c.rename_opened.new.steps
    (c.in_ok-open.ensures.steps r is) (c.in_ok-rename_opened.ensures.steps r a.text.now is c.in_ok-open.ensures.texts)
