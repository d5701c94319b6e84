use Rattle.std.proofs.Common.{ℕ, List, subst}
use Rattle.text_parts.specs.Marks.{Marks}
use Rattle.text_parts.proofs.NameLaws.{names_read, names_unread}
use Rattle.text_parts.proofs.naming.names_in.Goals as goal

pub returns-then-text : goal.returns-then-text
returns-then-text c =
    subst (λ (ns : List ℕ). Marks c.in_ok-names_of.field-0 c.args.count ns) (names_read c.args.uris.now c.args.document c.args.text.now c.if-text.true) c.in_ok-names_of.ensures

pub returns : goal.returns
returns c =
    subst (λ (ns : List ℕ). Marks c.in_ok-names_of-2.field-0 c.args.count ns) (names_unread c.args.uris.now c.args.document c.args.text.now c.if-text.false) c.in_ok-names_of-2.ensures
