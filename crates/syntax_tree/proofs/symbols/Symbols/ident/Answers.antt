use Rattle.std.proofs.Common.{◌≡◌, ◌∙◌, true, [], arith}
use Rattle.std.proofs.lemmas.Bool.Decides.{nat_tests}
use Rattle.std.proofs.lemmas.List.{length-map}
use Rattle.indexmap.specs.IndexMap.{keys}
use Rattle.scheme_model.specs.Ident.{same_ident}
use Rattle.syntax_tree.specs.Numbered.{idents_after, symbols_of}
use Rattle.syntax_tree.specs.declared.symbols.Ident.{Ident}
use Rattle.syntax_tree.specs.declared.symbols.Ident.TheVariants.{Written, Inserted}
use Rattle.syntax_tree.specs.contracts.symbols.IdentPartialEq.TheImpl.{eq-value}
use Rattle.syntax_tree.proofs.Places.{keys_told_apart}
use Rattle.syntax_tree.proofs.TableSteps.{idents_apart}
use Rattle.syntax_tree.proofs.EntrySteps.{inserted}
use Rattle.syntax_tree.proofs.InternLaws.{with_found, ident_told, ident_itself}
use Rattle.syntax_tree.proofs.symbols.Symbols.ident.Goals as goal

same_entry : (x y : Ident) → eq-value.it x y ≡ true → x ≡ y
same_entry (Written u k) (Written v l) h = grind (arith, nat_tests)
same_entry (Written u k) (Inserted j n) h = absurd cc
same_entry (Inserted i m) (Written v l) h = absurd cc
same_entry (Inserted i m) (Inserted j n) h = grind (arith, nat_tests)

itself : (x : Ident) → eq-value.it x x ≡ true
itself (Written u k) = grind (arith, nat_tests)
itself (Inserted i m) = grind (arith, nat_tests)

pub invariant_of-self-2 : goal.invariant_of-self-2
invariant_of-self-2 c =
    (inserted eq-value.it same_entry c.self.inside.names c.self.inside.idents c.insert_full.new.self c.args.self.now c.args.ident c.innermost-symbol.result c.in_ok-number.number
    c.self.invariant c.self.view_is c.requires c.innermost-symbol.ensures c.in_ok-number.ensures.entries c.in_ok-number.ensures.index
    (keys_told_apart eq-value.it itself (keys c.insert_full.new.self) c.in_ok-number.ensures.unique)
    (omega (arith, c.in_ok-number.ensures.within, length-map c.insert_full.new.self.entries (λ e. e.0)))).tables

pub returns-clause-ok : goal.returns-clause-ok
returns-clause-ok c =
    (inserted eq-value.it same_entry c.self.inside.names c.self.inside.idents c.insert_full.new.self c.args.self.now c.args.ident c.innermost-symbol.result c.in_ok-number.number
    c.self.invariant c.self.view_is c.requires c.innermost-symbol.ensures c.in_ok-number.ensures.entries c.in_ok-number.ensures.index
    (keys_told_apart eq-value.it itself (keys c.insert_full.new.self) c.in_ok-number.ensures.unique)
    (omega (arith, c.in_ok-number.ensures.within, length-map c.insert_full.new.self.entries (λ e. e.0)))).at

pub returns-clause-idents : goal.returns-clause-idents
returns-clause-idents c i is =
    let into = inserted eq-value.it same_entry c.self.inside.names c.self.inside.idents c.insert_full.new.self c.args.self.now c.args.ident c.innermost-symbol.result c.in_ok-number.number
    c.self.invariant c.self.view_is c.requires c.innermost-symbol.ensures c.in_ok-number.ensures.entries c.in_ok-number.ensures.index
    (keys_told_apart eq-value.it itself (keys c.insert_full.new.self) c.in_ok-number.ensures.unique)
    (omega (arith, c.in_ok-number.ensures.within, length-map c.insert_full.new.self.entries (λ e. e.0))) in
    with_found same_ident ident_told ident_itself c.args.self.now.idents (idents_after (symbols_of c.self.inside.names) [] (keys c.insert_full.new.self)) c.in_ok-number.number i
    (idents_apart c.self.inside.names c.insert_full.new.self into.tables) (into.at ∙ is) (into.grows i is)

pub returns-clause-keeps : goal.returns-clause-keeps
returns-clause-keeps c =
    (inserted eq-value.it same_entry c.self.inside.names c.self.inside.idents c.insert_full.new.self c.args.self.now c.args.ident c.innermost-symbol.result c.in_ok-number.number
    c.self.invariant c.self.view_is c.requires c.innermost-symbol.ensures c.in_ok-number.ensures.entries c.in_ok-number.ensures.index
    (keys_told_apart eq-value.it itself (keys c.insert_full.new.self) c.in_ok-number.ensures.unique)
    (omega (arith, c.in_ok-number.ensures.within, length-map c.insert_full.new.self.entries (λ e. e.0)))).keeps
