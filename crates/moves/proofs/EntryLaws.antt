-- Entries under new numbers stand for identifiers under new numbers.
use Rattle.std.proofs.Common.{◌≡◌, ℕ, ◌<◌, List, map, take, length, slice_get, Some, sym, ap, ◌∙◌, arith}
use Rattle.std.specs.Option.{option_map}
use Rattle.std.proofs.lemmas.List.{length-map}
use Rattle.std.proofs.lemmas.Option.{slice_get-map, slice_get_within}
use Rattle.scheme_model.specs.Identifiers.{Number}
use Rattle.scheme_model.specs.Ident.{Ident as Identifier, Written, Inserted}
use Rattle.scheme_model.specs.Meaning as model
use Rattle.syntax_tree.specs.Names.{Names, AreToldApart}
use Rattle.syntax_tree.specs.Numbered.{number_of, ident_of, IsPlaced}
use Rattle.syntax_tree.specs.Macros.{IsIdent}
use Rattle.syntax_tree.specs.Meant.{IsSymbol, IsMeaning}
use Rattle.syntax_tree.specs.declared.symbols.Ident.{Ident}
use Rattle.syntax_tree.specs.declared.symbols.Ident.TheVariants as code
use Rattle.syntax_tree.specs.declared.meaning.Meaning.{Meaning}
use Rattle.syntax_tree.specs.declared.meaning.Meaning.TheVariants as meanings
use Rattle.syntax_tree.proofs.NodeLaws.{map_some}
use Rattle.renumbering_laws.specs.Renumbering.{Renumbering, number, ident}
use Rattle.renumbering_laws.specs.Renumbering as new
use Rattle.moves.specs.Numbers.{entry_as, meaning_as}
use Rattle.moves.specs.Works.{NamesMove}
use Rattle.moves.proofs.Copies.{get_taken}

-- the identifier of a number
pub ident_there : (r : Renumbering) (old now : Names) → NamesMove r old now → (n : ℕ) (i : Identifier) → IsIdent old n i → IsIdent now n (ident r i)
ident_there r old now move n i h =
    ap (λ (l : List Identifier). slice_get l n) move.idents ∙ slice_get-map (ident r) old.idents n ∙ ap (option_map (ident r)) h

pub symbol_there : (r : Renumbering) (old now : Names) → NamesMove r old now → (n : ℕ) (s : List ℕ) → IsSymbol old n s → IsSymbol now n s
symbol_there r old now move n s h = ap (λ (l : List (List ℕ)). slice_get l n) move.symbols ∙ h

pub meaning_there : (r : Renumbering) (old now : Names) → NamesMove r old now → (unit form : ℕ) (m : Meaning) (d : model.Meaning) → IsMeaning old unit form m d →
    IsMeaning now (r.unit unit) (r.form unit form) (meaning_as r m) (new.meaning r d)
meaning_there r old now move unit form (meanings.Local n) d h = ap (new.meaning r) h
meaning_there r old now move unit form (meanings.Global u n) (model.Local v) h = absurd h
meaning_there r old now move unit form (meanings.Global u n) (model.Global w i) h = (ap r.unit h.0, ident_there r old now move n i h.1)
meaning_there r old now move unit form (meanings.Global u n) (model.Standard s) h = absurd h
meaning_there r old now move unit form (meanings.Global u n) (model.Free s) h = absurd h
meaning_there r old now move unit form (meanings.Standard n) (model.Local v) h = absurd h
meaning_there r old now move unit form (meanings.Standard n) (model.Global w i) h = absurd h
meaning_there r old now move unit form (meanings.Standard n) (model.Standard s) h = symbol_there r old now move n s h
meaning_there r old now move unit form (meanings.Standard n) (model.Free s) h = absurd h
meaning_there r old now move unit form (meanings.Free n) (model.Local v) h = absurd h
meaning_there r old now move unit form (meanings.Free n) (model.Global w i) h = absurd h
meaning_there r old now move unit form (meanings.Free n) (model.Standard s) h = absurd h
meaning_there r old now move unit form (meanings.Free n) (model.Free s) h = symbol_there r old now move n s h

-- ---- the next entry of a table that is made again

-- things are told apart, and an identifier that was inserted comes behind what it is made of
abbrev pub IsBehind : List Identifier → Type 0
IsBehind is = (n : ℕ) (i : Identifier) (k : Number) → slice_get is n ≡ Some (Inserted i k) → (m : ℕ) × (m < n) × (slice_get is m ≡ Some i)

-- a table with the same symbols, and with the identifiers before a number
pub record IsFront (r : Renumbering) (names front : Names) (n : ℕ) : Type 0 where
  pub symbols : front.symbols ≡ names.symbols
  pub idents : front.idents ≡ take n (map (ident r) names.idents)

module _ (r : Renumbering) (names front : Names) (n : ℕ) (d : Identifier) (apart : AreToldApart names.idents) (order : IsBehind names.idents)
    (front_is : IsFront r names front n) (at : slice_get names.idents n ≡ Some d) where
  within : n < length (map (ident r) names.idents)
  within = omega (arith, slice_get_within names.idents n d at, length-map names.idents (ident r))

  pub new_at : slice_get (map (ident r) names.idents) n ≡ Some (ident r d)
  new_at = slice_get-map (ident r) names.idents n ∙ ap (option_map (ident r)) at

  -- an identifier before is in the table by then
  earlier : (m : ℕ) (i : Identifier) → m < n → slice_get names.idents m ≡ Some i → slice_get front.idents m ≡ Some (ident r i)
  earlier m i lt h =
      ap (λ (l : List Identifier). slice_get l m) front_is.idents ∙ get_taken (map (ident r) names.idents) n m (omega (arith, within)) lt
      ∙ slice_get-map (ident r) names.idents m ∙ ap (option_map (ident r)) h

  -- the number in an entry is one before
  inner : (m : ℕ) (i : Identifier) (k : Number) → slice_get names.idents m ≡ Some i → Inserted i k ≡ d → m < n
  inner m i k h is =
      let p = order n i k (at ∙ ap (λ (j : Identifier). Some j) (sym is)) in
      let same : m ≡ p.0 = apart m p.0 (slice_get_within names.idents m i h) (h ∙ sym p.2) in
      omega (arith, same, p.1)

  pub entry_there : (x : Ident) → ident_of names x ≡ Some d → (ident_of front (entry_as r x) ≡ Some (ident r d)) × IsPlaced front (entry_as r x)
  entry_there (code.Written u k) h =
      let a = map_some (Written u) (slice_get names.symbols k) d h in
      let there : slice_get front.symbols k ≡ Some a.0 = ap (λ (l : List (List ℕ)). slice_get l k) front_is.symbols ∙ a.1 in
      (ap (option_map (Written (r.unit u))) there ∙ ap (λ (j : Identifier). Some (ident r j)) a.2, slice_get_within front.symbols k a.0 there)
  entry_there (code.Inserted m l) h =
      let a = map_some (λ (j : Identifier). Inserted j (number_of l)) (slice_get names.idents m) d h in
      let there : slice_get front.idents m ≡ Some (ident r a.0) = earlier m a.0 (inner m a.0 (number_of l) a.1 a.2) a.1 in
      (ap (option_map (λ (j : Identifier). Inserted j (number r (number_of l)))) there ∙ ap (λ (j : Identifier). Some (ident r j)) a.2, slice_get_within front.idents m (ident r a.0) there)
