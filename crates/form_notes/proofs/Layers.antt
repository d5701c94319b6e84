-- An identifier of the table by what the code has of it, layer by layer.
use Rattle.std.proofs.Common.{◌≡◌, ℕ, suc, ◌<◌, List, length, Option, Some, None, slice_get, ap, ◌∙◌, arith}
use Rattle.std.specs.Option.{option_map}
use Rattle.scheme_model.specs.Ident.{Ident as Identifier, Written, Inserted}
use Rattle.syntax_tree.specs.Names.{Names}
use Rattle.syntax_tree.specs.Numbered.{ident_of, number_of}
use Rattle.syntax_tree.specs.Macros.{IsIdent}
use Rattle.syntax_tree.specs.declared.symbols.Ident.TheVariants as idents
use Rattle.syntax_tree.specs.declared.symbols.UseNo.{UseNo}
use Rattle.syntax_tree.proofs.Places.{get_within}

abbrev pub layers : Identifier → ℕ
layers (Written u s) = 1
layers (Inserted i k) = suc (layers i)

abbrev layers_if : Option Identifier → ℕ
layers_if None = 0
layers_if (Some i) = layers i

abbrev pub layers_at : Names → ℕ → ℕ
layers_at names n = layers_if (slice_get names.idents n)

module _ (names : Names) where
  pub inserted_is : (at id : ℕ) (k : UseNo) → slice_get names.idents at ≡ ident_of names (idents.Inserted id k) → id < length names.idents → (j : Identifier) × IsIdent names id j × IsIdent names at (Inserted j (number_of k))
  inserted_is at id k h lt =
      let p = get_within names.idents id lt in
      (p.0, p.1, h ∙ ap (option_map (λ (j : Identifier). Inserted j (number_of k))) p.1)

  pub written_is : (at u s : ℕ) → slice_get names.idents at ≡ ident_of names (idents.Written u s) → s < length names.symbols → (t : List ℕ) × IsIdent names at (Written u t)
  written_is at u s h lt =
      let p = get_within names.symbols s lt in
      (p.0, h ∙ ap (option_map (Written u)) p.1)

  pub fewer_layers : (at id : ℕ) (k : UseNo) → slice_get names.idents at ≡ ident_of names (idents.Inserted id k) → id < length names.idents → layers_at names id < layers_at names at
  fewer_layers at id k h lt =
      let p = inserted_is at id k h lt in
      let a = ap layers_if p.1 in
      let b = ap layers_if p.2 in
      omega arith
