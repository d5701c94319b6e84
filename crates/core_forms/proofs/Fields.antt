-- A field by its names.
use Rattle.std.proofs.Common.{◌≡◌, ◌≢◌, List, [], ◌∷◌, length, get_or, None, Some, Ok, Err, refl, arith}
use Rattle.scheme_model.specs.ExpansionFaults.{Named, BadForm}
use Rattle.scheme_model.specs.Shapes.{FieldShape as ModelField, field_with}
use Rattle.scheme_model.specs.Ident.{Ident as Identifier}
use Rattle.syntax_tree.specs.declared.trees.Work.{Work}
use Rattle.core_forms.specs.declared.shape.NamePart.{NamePart}
use Rattle.core_forms.specs.Parts.{AllMatch, IsName, IsField}

pub two_names : (work : Work) (ns : List NamePart) (ms : List (Named Identifier)) (d : NamePart) → AllMatch (IsName work) ns ms → length ns ≡ 2 →
    (f : ModelField Identifier) × (field_with ms ≡ Ok f) × IsField work (record { name = get_or ns 0 d; accessor = get_or ns 1 d; modifier = None }) f
two_names work [] ms d h e = absurd (omega arith)
two_names work (n ∷ []) ms d h e = absurd (omega arith)
two_names work (n ∷ a ∷ []) [] d h e = absurd h
two_names work (n ∷ a ∷ []) (x ∷ []) d h e = absurd h.1
two_names work (n ∷ a ∷ []) (x ∷ y ∷ []) d h e = (record { field = x; accessor = y; modifier = None }, refl, record { field = h.0; accessor = h.1.0; modifier = tt })
two_names work (n ∷ a ∷ []) (x ∷ y ∷ z ∷ zs) d h e = absurd h.1.1
two_names work (n ∷ a ∷ m ∷ ns) ms d h e = absurd (omega arith)

pub three_names : (work : Work) (ns : List NamePart) (ms : List (Named Identifier)) (d : NamePart) → AllMatch (IsName work) ns ms → length ns ≡ 3 →
    (f : ModelField Identifier) × (field_with ms ≡ Ok f) × IsField work (record { name = get_or ns 0 d; accessor = get_or ns 1 d; modifier = Some (get_or ns 2 d) }) f
three_names work [] ms d h e = absurd (omega arith)
three_names work (n ∷ []) ms d h e = absurd (omega arith)
three_names work (n ∷ a ∷ []) ms d h e = absurd (omega arith)
three_names work (n ∷ a ∷ m ∷ []) [] d h e = absurd h
three_names work (n ∷ a ∷ m ∷ []) (x ∷ []) d h e = absurd h.1
three_names work (n ∷ a ∷ m ∷ []) (x ∷ y ∷ []) d h e = absurd h.1.1
three_names work (n ∷ a ∷ m ∷ []) (x ∷ y ∷ z ∷ []) d h e = (record { field = x; accessor = y; modifier = Some z }, refl, record { field = h.0; accessor = h.1.0; modifier = h.1.1.0 })
three_names work (n ∷ a ∷ m ∷ []) (x ∷ y ∷ z ∷ v ∷ vs) d h e = absurd h.1.1.1
three_names work (n ∷ a ∷ m ∷ k ∷ ns) ms d h e = absurd (omega arith)

pub not_names : (work : Work) (ns : List NamePart) (ms : List (Named Identifier)) → AllMatch (IsName work) ns ms → length ns ≢ 2 → length ns ≢ 3 → field_with ms ≡ Err BadForm
not_names work [] [] h two three = refl
not_names work [] (x ∷ xs) h two three = absurd h
not_names work (n ∷ ns) [] h two three = absurd h
not_names work (n ∷ []) (x ∷ []) h two three = refl
not_names work (n ∷ []) (x ∷ y ∷ ys) h two three = absurd h.1
not_names work (n ∷ a ∷ ns) (x ∷ []) h two three = absurd h.1
not_names work (n ∷ a ∷ []) (x ∷ y ∷ ys) h two three = absurd (two refl)
not_names work (n ∷ a ∷ m ∷ ns) (x ∷ y ∷ []) h two three = absurd h.1.1
not_names work (n ∷ a ∷ m ∷ []) (x ∷ y ∷ z ∷ zs) h two three = absurd (three refl)
not_names work (n ∷ a ∷ m ∷ k ∷ ns) (x ∷ y ∷ z ∷ []) h two three = absurd h.1.1.1
not_names work (n ∷ a ∷ m ∷ k ∷ ns) (x ∷ y ∷ z ∷ v ∷ vs) h two three = refl
