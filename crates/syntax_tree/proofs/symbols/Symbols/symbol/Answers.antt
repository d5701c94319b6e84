use Rattle.std.proofs.Common.{◌≡◌, ℕ, List, [], ◌∷◌, ◌++◌, map, Some, refl, ap, sym, subst, ◌∙◌, slice_get, inl, inr}
use Rattle.std.specs.Str.{bytes_eq}
use Rattle.std.specs.String.{string_bytes}
use Rattle.syntax_tree.specs.Names.{Names, AreToldApart}
use Rattle.std.proofs.lemmas.Slice.Eq.{bytes_eq-Decides}
use Rattle.syntax_tree.proofs.Places.{map_told_apart}
use Rattle.syntax_tree.proofs.TableSteps.{symbol_at, symbol_found, symbol_pushed, symbol_tables, idents_stay, symbol_keeps, same_text}
use Rattle.syntax_tree.proofs.InternLaws.{with_found, bytes_told, bytes_itself}
use Rattle.syntax_tree.proofs.symbols.Symbols.symbol.Goals as goal

pub returns-in-Some-clause-ok : goal.returns-in-Some-clause-ok
returns-in-Some-clause-ok c =
    ap (λ (n : Names). slice_get n.symbols c.in-Some.number) (sym c.self.view_is)
    ∙ symbol_found c.self.inside.names.keys c.in-Some.number c.args.name.now c.in-Some.ensures.index

pub invariant_of-self-2 : goal.invariant_of-self-2
invariant_of-self-2 c =
    let pushed = symbol_pushed c.self.inside.names.keys c.insert_full.new.self.keys c.in_ok-owned.owned c.args.name.now c.in_ok-owned.ensures.ok c.in_ok-number.ensures.keys c.in_default.ensures.found in
    symbol_tables c.self.inside.names c.insert_full.new.self c.self.inside.idents c.args.name.now c.self.invariant pushed
    (map_told_apart same_text string_bytes (λ x y same. (bytes_eq-Decides (string_bytes x) (string_bytes y)).1 same) c.insert_full.new.self.keys c.in_ok-number.ensures.unique)

pub returns-clause-ok : goal.returns-clause-ok
returns-clause-ok c =
    let s = c.in_ok-number.ensures.stored in
    symbol_at c.insert_full.new.self.keys s.0 c.in_ok-number.number c.args.name.now s.1
    (ap (λ (q : List ℕ). bytes_eq q (string_bytes s.0)) (sym c.in_ok-owned.ensures.ok) ∙ s.2)

pub returns-in-Some-clause-symbols : goal.returns-in-Some-clause-symbols
returns-in-Some-clause-symbols c =
    let at = symbol_found c.self.inside.names.keys c.in-Some.number c.args.name.now c.in-Some.ensures.index in
    let seen = subst (λ (n : Names). slice_get n.symbols c.in-Some.number ≡ Some c.args.name.now) c.self.view_is at in
    let apart = subst (λ (n : Names). AreToldApart n.symbols) c.self.view_is c.self.invariant.symbols_apart in
    with_found bytes_eq bytes_told bytes_itself c.args.self.now.symbols c.args.self.now.symbols c.in-Some.number c.args.name.now apart seen (inl refl)

pub returns-clause-symbols : goal.returns-clause-symbols
returns-clause-symbols c =
    let pushed = symbol_pushed c.self.inside.names.keys c.insert_full.new.self.keys c.in_ok-owned.owned c.args.name.now c.in_ok-owned.ensures.ok c.in_ok-number.ensures.keys c.in_default.ensures.found in
    let apart = map_told_apart same_text string_bytes (λ x y same. (bytes_eq-Decides (string_bytes x) (string_bytes y)).1 same) c.insert_full.new.self.keys c.in_ok-number.ensures.unique in
    let s = c.in_ok-number.ensures.stored in
    let at =
    symbol_at c.insert_full.new.self.keys s.0 c.in_ok-number.number c.args.name.now s.1 (ap (λ (q : List ℕ). bytes_eq q (string_bytes s.0)) (sym c.in_ok-owned.ensures.ok) ∙ s.2) in
    with_found bytes_eq bytes_told bytes_itself c.args.self.now.symbols (map string_bytes c.insert_full.new.self.keys) c.in_ok-number.number c.args.name.now apart at
    (inr (pushed ∙ ap (λ (n : Names). n.symbols ++ c.args.name.now ∷ []) c.self.view_is))

pub returns-clause-idents : goal.returns-clause-idents
returns-clause-idents c =
    let pushed = symbol_pushed c.self.inside.names.keys c.insert_full.new.self.keys c.in_ok-owned.owned c.args.name.now c.in_ok-owned.ensures.ok c.in_ok-number.ensures.keys c.in_default.ensures.found in
    idents_stay c.self.inside.names c.insert_full.new.self c.self.inside.idents c.args.name.now c.self.invariant pushed ∙ ap (λ (n : Names). n.idents) c.self.view_is

pub returns-clause-keeps : goal.returns-clause-keeps
returns-clause-keeps c =
    let pushed = symbol_pushed c.self.inside.names.keys c.insert_full.new.self.keys c.in_ok-owned.owned c.args.name.now c.in_ok-owned.ensures.ok c.in_ok-number.ensures.keys c.in_default.ensures.found in
    symbol_keeps c.self.inside.names c.insert_full.new.self c.self.inside.idents c.args.self.now c.args.name.now c.self.invariant c.self.view_is pushed
