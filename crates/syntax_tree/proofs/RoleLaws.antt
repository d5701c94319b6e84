-- Identifiers by number: which are one, and which role they have in rules.
use Rattle.std.proofs.Common.{◌≡◌, ℕ, ◌<◌, Bool, true, false, ◌||◌, List, [], ◌∷◌, length, get_or, slice_get, Option, Some, None, refl, sym, ap, ◌∙◌, subst, eq-eqb}
use Rattle.std.specs.Prelude.{nat_eq, codes, if◌then◌else◌}
use Rattle.std.specs.List.{list_any}
use Rattle.std.specs.Str.{bytes_eq}
use Rattle.std.specs.Option.{option_map}
use Rattle.std.specs.BTreeSet.{contains}
use Rattle.std.specs.Ordering.{nat_cmp}
use Rattle.std.proofs.lemmas.Bool.{eqb-true}
use Rattle.std.proofs.lemmas.Option.{same_Some, slice_get_within, slice_get-get_or}
use Rattle.scheme_model.specs.ExpansionFaults.{Named}
use Rattle.scheme_model.specs.Shapes.{is_among}
use Rattle.scheme_model.specs.RulesShape.{Rules, IsLiteral, IsEllipsis, IsAny, IsVariable, acts_as_ellipsis, dots_of, role_of, is_ellipsis}
use Rattle.scheme_model.specs.Ident.{Ident as Identifier, Written, symbol_of, same_ident}
use Rattle.syntax_tree.specs.Names.{Names, AreToldApart}
use Rattle.syntax_tree.specs.Macros.{identifiers, IsIdent, AreIdents, IsEllipsisOf, TellsRoles}
use Rattle.syntax_tree.specs.declared.rules.Roles.{Roles}
use Rattle.syntax_tree.proofs.TestLaws.{bool_same}
use Rattle.syntax_tree.proofs.InternLaws.{ident_told, ident_itself}

below : {A : Type 0} (xs : List A) (n : ℕ) (x : A) → slice_get xs n ≡ Some x → n < length xs
below xs n x h = slice_get_within xs n x h

module _ (names : Names) (apart : AreToldApart names.idents) where
  -- identifiers are one where their numbers are
  pub same_by_number : (n m : ℕ) (i j : Identifier) → IsIdent names n i → IsIdent names m j → same_ident i j ≡ nat_eq m n
  same_by_number n m i j p q =
      bool_same (same_ident i j) (nat_eq m n)
      (λ h. eq-eqb m n (apart m n (below names.idents m j q) (q ∙ ap Some (sym (ident_told i j h)) ∙ sym p)))
      (λ h. let e = eqb-true m n h in
      let same : i ≡ j = same_Some i j (sym p ∙ ap (slice_get names.idents) (sym e) ∙ q) in
      subst (λ (x : Identifier). same_ident i x ≡ true) same (ident_itself i))

  -- an identifier is among literals where its number is among theirs
  pub among_by_number : (n : ℕ) (i : Identifier) → IsIdent names n i → (ms : List ℕ) (ls : List (Named Identifier)) → AreIdents names ms ls →
      is_among identifiers.same i ls ≡ list_any (nat_eq n) ms
  among_by_number n i h [] [] a = refl
  among_by_number n i h [] (l ∷ ls) a = absurd a
  among_by_number n i h (m ∷ ms) [] a = absurd a
  among_by_number n i h (m ∷ ms) (l ∷ ls) a =
      let first = same_by_number m n l.name i a.0 h in
      let rest = among_by_number n i h ms ls a.1 in
      λ k. first k || rest k

  -- the ellipsis of the rules' own
  pub own_by_number : (n m : ℕ) (e i : Identifier) → IsIdent names m e → IsIdent names n i → nat_eq n m ≡ is_ellipsis identifiers (Some e) i
  own_by_number n m e i p q = sym (same_by_number m n e i p q)

-- ---- roles by what is known

pub role_literal : (r : Rules Identifier) (i : Identifier) → is_among identifiers.same i r.literals ≡ true → IsLiteral ≡ role_of identifiers r i
role_literal r i h = rw h refl

pub role_ellipsis : (r : Rules Identifier) (i : Identifier) → is_among identifiers.same i r.literals ≡ false → is_ellipsis identifiers r.ellipsis i ≡ true → IsEllipsis ≡ role_of identifiers r i
role_ellipsis r i h e = rw (h, e) refl

pub role_any : (r : Rules Identifier) (i : Identifier) → is_among identifiers.same i r.literals ≡ false → is_ellipsis identifiers r.ellipsis i ≡ false → bytes_eq (symbol_of i) (codes "_") ≡ true →
    IsAny ≡ role_of identifiers r i
role_any r i h e u = rw (h, e, u) refl

pub role_variable : (r : Rules Identifier) (i : Identifier) → is_among identifiers.same i r.literals ≡ false → is_ellipsis identifiers r.ellipsis i ≡ false → bytes_eq (symbol_of i) (codes "_") ≡ false →
    IsVariable ≡ role_of identifiers r i
role_variable r i h e u = rw (h, e, u) refl

pub no_ellipsis : (r : Rules Identifier) (i : Identifier) → is_ellipsis identifiers r.ellipsis i ≡ false → false ≡ dots_of identifiers r i
no_ellipsis r i e = rw e (others (is_among identifiers.same i r.literals) (bytes_eq (symbol_of i) (codes "_")))
  where
    others : (literal any : Bool) → false ≡ acts_as_ellipsis (if literal then IsLiteral else if any then IsAny else IsVariable)
    others true any = refl
    others false true = refl
    others false false = refl

-- ---- what the code reads

-- the characters of an identifier's symbol
pub name_is : (names : Names) (n k : ℕ) (i : Identifier) (s : List ℕ) → IsIdent names n i → slice_get names.symbols k ≡ option_map symbol_of (slice_get names.idents n) → slice_get names.symbols k ≡ Some s → s ≡ symbol_of i
name_is names n k i s h a b = same_Some s (symbol_of i) (sym b ∙ a ∙ ap (option_map symbol_of) h)

-- an ellipsis of the rules' own, and `...` where they have none
pub own_is : (names : Names) (apart : AreToldApart names.idents) (o : Option ℕ) (n m : ℕ) (e : Option Identifier) (i : Identifier) → o ≡ Some m → IsEllipsisOf names o e → IsIdent names n i → nat_eq n m ≡ is_ellipsis identifiers e i
own_is names apart None n m e i s h g = absurd cc
own_is names apart (Some l) n m None i s h g = absurd h
own_is names apart (Some l) n m (Some j) i s h g =
    own_by_number names apart n m j i (subst (λ (x : ℕ). IsIdent names x j) (same_Some l m s) h) g

pub dots_is : (names : Names) (o : Option ℕ) (e : Option Identifier) (i : Identifier) (s : List ℕ) → o ≡ None → IsEllipsisOf names o e → s ≡ symbol_of i → bytes_eq s (codes "...") ≡ is_ellipsis identifiers e i
dots_is names None None i s n h g = ap (λ (x : List ℕ). bytes_eq x (codes "...")) g
dots_is names None (Some j) i s n h g = absurd h
dots_is names (Some l) e i s n h g = absurd cc

pub among_is : (names : Names) (apart : AreToldApart names.idents) (roles : Roles) (r : Rules Identifier) (n : ℕ) (i : Identifier) (b v : Bool) → TellsRoles names roles r → IsIdent names n i →
    b ≡ contains nat_cmp roles.literals n → b ≡ v → is_among identifiers.same i r.literals ≡ v
among_is names apart roles r n i b v h g e f = among_by_number names apart n i g h.numbers r.literals h.literals ∙ sym (h.has n) ∙ sym e ∙ f

-- an identifier's symbol is in the table
pub strip_below : (names : Names) (n k : ℕ) → n < length names.idents → slice_get names.symbols k ≡ option_map symbol_of (slice_get names.idents n) → k < length names.symbols
strip_below names n k h e =
    let d : Identifier = get_or names.idents n none in
    slice_get_within names.symbols k (symbol_of d) (e ∙ ap (option_map symbol_of) (slice_get-get_or names.idents n none h))
  where
    none : Identifier
    none = Written 0 []
