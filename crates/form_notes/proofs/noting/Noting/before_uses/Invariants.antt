use Rattle.std.proofs.Common.{◌≡◌, ◌<◌, length}
use Rattle.scheme_model.specs.Ident.{Ident as Identifier}
use Rattle.syntax_tree.specs.Macros.{IsIdent}
use Rattle.question_laws.specs.Noted.{before_uses}
use Rattle.form_notes.specs.Noted.{Since, began}
use Rattle.form_notes.specs.Standing.{IsSince}
use Rattle.form_notes.proofs.Layers.{layers_at}
use Rattle.form_notes.proofs.noting.Noting.before_uses.Given as goal

abbrev pub invariant-inside : goal.invariant-inside
invariant-inside l = record {
  within : l.at < length l.symbols.idents;
  same : (r : Since) (i j : Identifier) → IsSince l.self r → IsIdent l.symbols l.fn.ident i → IsIdent l.symbols l.at j → before_uses (began r) i ≡ before_uses (began r) j;
}

abbrev pub decreases-inside : goal.decreases-inside
decreases-inside l = layers_at l.symbols l.at
