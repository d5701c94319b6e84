use Rattle.std.proofs.Common.{◌≡◌, ℕ, ◌<◌, ◌≤◌, ◌++◌, length}
use Rattle.scheme_model.specs.Ident.{Ident as Identifier}
use Rattle.syntax_tree.specs.Macros.{IsIdent}
use Rattle.unit_scopes.specs.Asks.{numbers_in, IsKnown}
use Rattle.unit_scopes.proofs.AskLaws.{layers_at, asked_at}
use Rattle.unit_scopes.proofs.asked.Asked.ask.Given as goal

abbrev pub invariant-inside : goal.invariant-inside
invariant-inside l = record {
  within : l.at < length l.symbols.idents;
  notes : l.self.notes ≡ l.fn.self.notes;
  numbers : (n : ℕ) (x : Identifier) → IsIdent l.symbols n x → numbers_in l.self n ++ asked_at l.symbols l.number x l.at ≡ numbers_in l.fn.self n ++ asked_at l.symbols l.number x l.fn.ident;
  others : (n : ℕ) → length l.symbols.idents ≤ n → numbers_in l.self n ≡ numbers_in l.fn.self n;
  known : IsKnown l.symbols l.at → IsKnown l.symbols l.fn.ident;
}

abbrev pub decreases-inside : goal.decreases-inside
decreases-inside l = layers_at l.symbols l.at
