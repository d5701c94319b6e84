-- What is seen of data, and the trees of symbols that they are.
use Rattle.std.proofs.Common.{◌≡◌, ℕ, List, [], ◌∷◌, length, Bool, true, false, Option, Some, None, refl, sym, ap, ◌∙◌, arith}
use Rattle.std.specs.Prelude.{Vec}
use Rattle.std.specs.Global.{Box}
use Rattle.std.specs.declared.alloc.Global.{Global}
use Rattle.std.specs.Borrow.{Bor}
use Rattle.std.specs.Option.{is_some}
use Rattle.std.specs.Str.{encode_utf8_all}
use Rattle.scheme_model.specs.declared.Occ.{Occ}
use Rattle.scheme_model.specs.Kinds.{Name, Numeral, Quoted, Character, Truth}
use Rattle.scheme_model.specs.Data.{Place, Atom as DataAtom, spelled, implied, Datum, atom, list, vector, bytes, Data, row, place_of}
use Rattle.scheme_model.specs.DataTrees.{parts_of, end_of}
use Rattle.scheme_model.specs.Trees.{Atom, Tree, name, atom as atom_tree, list as list_tree, vector as vector_tree, Numeral as NumeralAtom, Quoted as QuotedAtom, Character as CharacterAtom, Boolean, Bytes, Trees, tree, Tail, proper, dotted}
use Rattle.datum_reader.specs.declared.datum.Datum as code
use Rattle.datum_reader.specs.declared.datum.Shape.TheVariants as shape
use Rattle.datum_reader.specs.Views.{Shared, datum_of, data_of, end_data}
use Rattle.datum_reader.proofs.SeedLaws.{datum-list}
use Rattle.datum_reader.proofs.DatumLaws.{place-datum}
use Rattle.datum_reader.specs.declared.look.Look.TheVariants as looks
use Rattle.datum_reader.specs.Looks.{end_with, is_other, is_other_atom, IsListOf, IsLook, plain, tree_at, trees_at, is_dotted}

-- ---- lists

-- what ends a list of the code
abbrev end_seen : Option (Box code.Datum) → Option Datum
end_seen None = None
end_seen (Some d) = Some (datum_of d.value)

ends_as : (end : Option (Box code.Datum)) → end_data end ≡ end_with (end_seen end)
ends_as None = refl
ends_as (Some d) = refl

there_as : (end : Option (Box code.Datum)) → is_some end ≡ is_some (end_seen end)
there_as None = refl
there_as (Some d) = refl

pub list_look : (d : code.Datum) (xs : Shared) (end : Option (Box code.Datum)) (ds : List code.Datum) (b : Bool) → d.shape ≡ shape.List xs end → ds ≡ xs.value.items → b ≡ is_some end → IsListOf ds b (datum_of d)
list_look d xs end ds b is items there =
    (end_seen end, datum-list d xs end is ∙ (λ j. list (sym (place-datum d) j) (row (data_of (sym items j)) (ends_as end j))), there ∙ there_as end)

pub nothing_in : {A : Type 0} (xs : List A) → length xs ≡ 0 → xs ≡ []
nothing_in [] h = refl
nothing_in (x ∷ xs) h = absurd (omega arith)

abbrev pub tail_at : (ℕ → Occ) → Option Datum → Tail (List ℕ)
tail_at place None = proper
tail_at place (Some d) = dotted (plain place d)

pub parts-row : (place : ℕ → Occ) (ds : List code.Datum) (end : Option Datum) → parts_of (λ s. s) place (row (data_of ds) (end_with end)) ≡ trees_at place ds
parts-row place [] None = refl
parts-row place [] (Some d) = refl
parts-row place (d ∷ ds) end = ap (tree (tree_at place d)) (parts-row place ds end)

pub end-row : (place : ℕ → Occ) (ds : List code.Datum) (end : Option Datum) → end_of (λ s. s) place (row (data_of ds) (end_with end)) ≡ tail_at place end
end-row place [] None = refl
end-row place [] (Some d) = refl
end-row place (d ∷ ds) end = end-row place ds end

pub dotted-tail : (place : ℕ → Occ) (end : Option Datum) → is_dotted (tail_at place end) ≡ is_some end
dotted-tail place None = refl
dotted-tail place (Some d) = refl

-- the tree of a list
pub record ListTree (place : ℕ → Occ) (ds : List code.Datum) (b : Bool) (d : Datum) : Type 0 where
  pub end : Tail (List ℕ)
  pub whole : plain place d ≡ list_tree (trees_at place ds) end (Some (place (place_of d).first))
  pub dotted : is_dotted end ≡ b

pub list_seen : (place : ℕ → Occ) (ds : List code.Datum) (b : Bool) (d : Datum) → IsListOf ds b d → ListTree place ds b d
list_seen place ds b d h = record {
  end = tail_at place h.0;
  whole = ap (plain place) h.1 ∙ (λ j. list_tree (parts-row place ds h.0 j) (end-row place ds h.0 j) (Some (place (place_of d).first)));
  dotted = dotted-tail place h.0 ∙ sym h.2;
}

-- ---- atoms

pub name_seen : (place : ℕ → Occ) (s : Bor (List ℕ)) (d : Datum) → IsLook (looks.Name s) d → plain place d ≡ name s.now (Some (place (place_of d).first))
name_seen place s d h = ap (plain place) h.2 ∙ ap (λ (t : List ℕ). name t (Some (place (place_of d).first))) (sym h.3)

pub implied_seen : (place : ℕ → Occ) (s : Bor (List ℕ)) (d : Datum) → IsLook (looks.Implied s) d → plain place d ≡ name s.now None
implied_seen place s d h = ap (plain place) h.1 ∙ ap (λ (t : List ℕ). name t None) (sym h.2)

pub numeral_seen : (place : ℕ → Occ) (s : Bor (List ℕ)) (d : Datum) → IsLook (looks.Numeral s) d → plain place d ≡ atom_tree (NumeralAtom s.now) (Some (place (place_of d).first))
numeral_seen place s d h = ap (plain place) h.1 ∙ ap (λ (t : List ℕ). atom_tree (NumeralAtom t) (Some (place (place_of d).first))) (sym h.2)

abbrev pub is_numeral : Atom → Bool
is_numeral (NumeralAtom s) = true
is_numeral (QuotedAtom s) = false
is_numeral (CharacterAtom c) = false
is_numeral (Boolean b) = false
is_numeral (Bytes s) = false

-- what is the same of every other atom and every vector is that of the datum
pub other_seen : {X : Type 0} (f : Tree (List ℕ) → X) (x : X) → ((a : Atom) (o : Option Occ) → is_numeral a ≡ false → f (atom_tree a o) ≡ x) → ((ts : Trees (List ℕ)) (o : Option Occ) → f (vector_tree ts o) ≡ x) →
    (place : ℕ → Occ) (d : Datum) → is_other d ≡ true → f (plain place d) ≡ x
other_seen f x g h place (atom p (spelled (Name s bars))) e = absurd cc
other_seen f x g h place (atom p (spelled (Numeral s))) e = absurd cc
other_seen f x g h place (atom p (spelled (Quoted s))) e = g (QuotedAtom (encode_utf8_all s)) (Some (place p.first)) refl
other_seen f x g h place (atom p (spelled (Character c))) e = g (CharacterAtom c) (Some (place p.first)) refl
other_seen f x g h place (atom p (spelled (Truth b))) e = g (Boolean b) (Some (place p.first)) refl
other_seen f x g h place (atom p (implied mark)) e = absurd cc
other_seen f x g h place (list p ds) e = absurd cc
other_seen f x g h place (vector p ds) e = h (parts_of (λ s. s) place ds) (Some (place p.first))
other_seen f x g h place (bytes p texts) e = g _ (Some (place p.first)) refl

-- every other atom and vector has no symbol and no parts
pub other_datum : {X : Type 0} (f : Datum → X) (x : X) → ((p : Place) (a : DataAtom) → is_other_atom a ≡ true → f (atom p a) ≡ x) → ((p : Place) (ds : Data) → f (vector p ds) ≡ x) → ((p : Place) (bs : List (List ℕ)) → f (bytes p bs) ≡ x) → (d : Datum) → is_other d ≡ true → f d ≡ x
other_datum f x g h k (atom p a) e = g p a e
other_datum f x g h k (list p ds) e = absurd cc
other_datum f x g h k (vector p ds) e = h p ds
other_datum f x g h k (bytes p bs) e = k p bs
