-- An identifier that was inserted comes behind what it is made of.
use Rattle.std.proofs.Common.{◌≡◌, ℕ, ◌+◌, ◌<◌, List, [], length, slice_get, Some, sym, ap, ◌∙◌, arith}
use Rattle.std.proofs.lemmas.Option.{slice_get_within}
use Rattle.indexmap.specs.IndexMap.{keys}
use Rattle.scheme_model.specs.Identifiers.{Number}
use Rattle.scheme_model.specs.Ident.{Ident as Identifier, Written, Inserted}
use Rattle.syntax_tree.specs.Numbered.{number_of, ident_of, IsBelow, idents_after, Strings, Entries, symbols_of, names_of, AreTables}
use Rattle.syntax_tree.specs.declared.symbols.Ident.{Ident}
use Rattle.syntax_tree.specs.declared.symbols.Ident.TheVariants as code
use Rattle.syntax_tree.proofs.Places.{get_within}
use Rattle.syntax_tree.proofs.TableLaws.{length-after, before-at, entry_is}
use Rattle.syntax_tree.proofs.NodeLaws.{map_some}

module _ (names : Strings) (idents : Entries) (n : ℕ) (i : Identifier) (k : Number) where
  abbrev is : List Identifier
  is = idents_after (symbols_of names) [] (keys idents)

  by_entry : (x : Ident) → IsBelow (length (symbols_of names)) (0 + n) x → ident_of (names_of names idents) x ≡ Some (Inserted i k) → (m : ℕ) × (m < n) × (slice_get is m ≡ Some i)
  by_entry (code.Written u s) below same =
      let a = map_some (Written u) (slice_get (symbols_of names) s) (Inserted i k) same in
      let clash : Written u a.0 ≡ Inserted i k = a.2 in
      absurd cc
  by_entry (code.Inserted m l) below same =
      let a = map_some (λ (j : Identifier). Inserted j (number_of l)) (slice_get is m) (Inserted i k) same in
      let both : Inserted a.0 (number_of l) ≡ Inserted i k = a.2 in
      let part : a.0 ≡ i = cc in
      (m, omega (arith, below), a.1 ∙ ap (λ (j : Identifier). Some j) part)

  pub in_order : AreTables names idents → slice_get is n ≡ Some (Inserted i k) → (m : ℕ) × (m < n) × (slice_get is m ≡ Some i)
  in_order t h =
      let within : n < length (keys idents) = omega (arith, slice_get_within is n (Inserted i k) h, length-after (symbols_of names) [] (keys idents)) in
      let e = get_within (keys idents) n within in
      by_entry e.0 (before-at (length (symbols_of names)) 0 (keys idents) n e.0 t.before e.1) (sym (entry_is (symbols_of names) (keys idents) n e.0 t.before e.1) ∙ h)
