-- A one to one renumbering tells numbers, identifiers and meanings apart.
use Rattle.std.proofs.Common.{◌≡◌, ℕ, Bool, true, false, refl, ap, ◌∙◌}
use Rattle.std.specs.Prelude.{◌&&◌, ◌==◌}
use Rattle.std.specs.Str.{bytes_eq}
use Rattle.std.proofs.lemmas.Bool.Decides.{nat_tests}
use Rattle.std.proofs.Common.{arith, subst}
use Rattle.scheme_model.specs.Identifiers.{Number, same_number, Name, Written as WrittenName, Inserted as InsertedName, Inner, Var, same_name}
use Rattle.scheme_model.specs.Ident.{Ident, Written, Inserted, same_ident}
use Rattle.scheme_model.specs.Meaning.{Meaning, Local, Global, Standard, Free, same_meaning}
use Rattle.renumbering_laws.specs.Renumbering.{Renumbering, IsOneToOne, number, ident, named_as, meaning}

-- forms are compared where the units are one
pub behind_units : (r : Renumbering) → IsOneToOne r → (u v f g : ℕ) (b : Bool) → (u == v) ≡ b → (c : Bool) → (b && ((r.form u f == r.form v g) && c)) ≡ (b && ((f == g) && c))
behind_units r o u v f g true e c =
    let w : u ≡ v = grind (arith, nat_tests) in
    let q : (r.form u f == r.form v g) ≡ (f == g) = subst (λ x. (r.form u f == r.form x g) ≡ (f == g)) w (o.forms u f g) in
    ap (λ t. t && c) q
behind_units r o u v f g false e c = refl

pub number_moved : (r : Renumbering) → IsOneToOne r → (k l : Number) → same_number (number r k) (number r l) ≡ same_number k l
number_moved r o k l =
    ap (λ b. b && ((r.form k.unit k.form == r.form l.unit l.form) && (k.count == l.count))) (o.units k.unit l.unit) ∙ behind_units r o k.unit l.unit k.form l.form (k.unit == l.unit) refl (k.count == l.count)

pub ident_moved : (r : Renumbering) → IsOneToOne r → (i j : Ident) → same_ident (ident r i) (ident r j) ≡ same_ident i j
ident_moved r o (Written u s) (Written v t) = ap (λ b. b && bytes_eq s t) (o.units u v)
ident_moved r o (Written u s) (Inserted j l) = refl
ident_moved r o (Inserted i k) (Written v t) = refl
ident_moved r o (Inserted i k) (Inserted j l) = let a = number_moved r o k l in let b = ident_moved r o i j in λ m. a m && b m

pub name_moved : (r : Renumbering) → IsOneToOne r → (i j : Name) → same_name (named_as r i) (named_as r j) ≡ same_name i j
name_moved r o (WrittenName u s) (WrittenName v t) = ap (λ b. b && bytes_eq s t) (o.units u v)
name_moved r o (WrittenName u s) (InsertedName j l) = refl
name_moved r o (WrittenName u s) (Inner b j) = refl
name_moved r o (WrittenName u s) (Var v j) = refl
name_moved r o (InsertedName i k) (WrittenName v t) = refl
name_moved r o (InsertedName i k) (InsertedName j l) = let a = number_moved r o k l in let b = name_moved r o i j in λ m. a m && b m
name_moved r o (InsertedName i k) (Inner b j) = refl
name_moved r o (InsertedName i k) (Var v j) = refl
name_moved r o (Inner a i) (WrittenName v t) = refl
name_moved r o (Inner a i) (InsertedName j l) = refl
name_moved r o (Inner a i) (Inner b j) = let x = number_moved r o a b in let y = name_moved r o i j in λ m. x m && y m
name_moved r o (Inner a i) (Var v j) = refl
name_moved r o (Var u i) (WrittenName v t) = refl
name_moved r o (Var u i) (InsertedName j l) = refl
name_moved r o (Var u i) (Inner b j) = refl
name_moved r o (Var u i) (Var v j) = let x = number_moved r o u v in let y = name_moved r o i j in λ m. x m && y m

pub same_moved : (r : Renumbering) → IsOneToOne r → (x y : Meaning) → same_meaning (meaning r x) (meaning r y) ≡ same_meaning x y
same_moved r o (Local v) (Local w) = number_moved r o v w
same_moved r o (Local v) (Global u i) = refl
same_moved r o (Local v) (Standard s) = refl
same_moved r o (Local v) (Free s) = refl
same_moved r o (Global u i) (Local v) = refl
same_moved r o (Global u i) (Global v j) = let a = o.units u v in let b = ident_moved r o i j in λ m. a m && b m
same_moved r o (Global u i) (Standard s) = refl
same_moved r o (Global u i) (Free s) = refl
same_moved r o (Standard s) (Local v) = refl
same_moved r o (Standard s) (Global u i) = refl
same_moved r o (Standard s) (Standard t) = refl
same_moved r o (Standard s) (Free t) = refl
same_moved r o (Free s) (Local v) = refl
same_moved r o (Free s) (Global u i) = refl
same_moved r o (Free s) (Standard t) = refl
same_moved r o (Free s) (Free t) = refl
