use Rattle.std.proofs.Common.{◌≡◌, ◌<◌, length}
use Rattle.scheme_model.specs.Ident.{Ident as Identifier}
use Rattle.syntax_tree.specs.Macros.{IsIdent}
use Rattle.question_laws.specs.Noted.{answers_alone}
use Rattle.form_notes.specs.Noted.{Since, began}
use Rattle.form_notes.specs.Standing.{IsSince, OwnStands}
use Rattle.form_notes.proofs.Layers.{layers_at}
use Rattle.form_notes.proofs.noting.Noting.answers_alone.Given as goal

abbrev pub invariant-inside : goal.invariant-inside
invariant-inside l = record {
  within : l.at < length l.symbols.idents;
  same : (r : Since) (i j : Identifier) → IsSince l.self r → OwnStands l.symbols l.self.own r → IsIdent l.symbols l.fn.ident i → IsIdent l.symbols l.at j → answers_alone (began r) r.own i ≡ answers_alone (began r) r.own j;
}

abbrev pub decreases-inside : goal.decreases-inside
decreases-inside l = layers_at l.symbols l.at
