-- The document of a file that is UTF-8 is put among the texts.
use Rattle.std.proofs.Common.{◌≡◌, ◌∙◌, List, ℕ, pos, sym}
use Rattle.document_store.specs.Texts.{added, NotOpen, BadRange, TooLong, TooMany}
use Rattle.file_commands.proofs.FileLaws.{left_out, put_in}
use Rattle.file_commands.proofs.Room.{accepted}
use Rattle.file_commands.proofs.checking.open_file.Goals as goal

pub returns-in_default : goal.returns-in_default
returns-in_default c = left_out c.args.store.now c.args.name.now c.args.content.now c.in_default.ensures.cases.0

pub returns-in-Ok-add : goal.returns-in-Ok-add
returns-in-Ok-add c =
    put_in c.args.store.now c.add.new.self c.args.name.now c.args.content.now c.in-Ok.ensures.cases.1
    (sym (λ i. added c.args.store.now (c.as_str.ensures i) (pos 0) (c.in-Ok.ensures.cases.0 i)) ∙ c.in-Ok-add.ensures.event)
