-- Identifiers that stand in a template, by number.
use Rattle.std.proofs.Common.{◌≡◌, ℕ, ◌<◌, Bool, true, false, ◌||◌, refl, sym, ap, ◌∙◌, arith}
use Rattle.std.specs.Prelude.{nat_eq, if◌then◌else◌}
use Rattle.std.specs.declared.cmp.Ordering.{Ordering}
use Rattle.std.specs.declared.cmp.Ordering.TheVariants.{Less, Equal, Greater}
use Rattle.std.specs.Ordering.{nat_cmp, is_eq, MatchOrdering}
use Rattle.std.proofs.lemmas.Cmp.{ranked}
use Rattle.std.proofs.lemmas.Bool.Decides.{nat_tests}
use Rattle.scheme_model.specs.Ident.{Ident as Identifier, same_ident}
use Rattle.syntax_tree.specs.Names.{Names, AreToldApart}
use Rattle.syntax_tree.specs.Macros.{IsIdent}
use Rattle.syntax_tree.proofs.RoleLaws.{same_by_number}

key_by : (r : Ordering) (m n : ℕ) → MatchOrdering r (m < n) (m ≡ n) (n < m) → is_eq r ≡ nat_eq m n
key_by Less m n h = let e : nat_eq m n ≡ false = grind (arith, nat_tests) in sym e
key_by Greater m n h = let e : nat_eq m n ≡ false = grind (arith, nat_tests) in sym e
key_by Equal m n h = let e : nat_eq m n ≡ true = grind (arith, nat_tests) in sym e

pub key_is : (m n : ℕ) → is_eq (nat_cmp m n) ≡ nat_eq m n
key_is m n = key_by (nat_cmp m n) m n (ranked m n (nat_cmp m n) refl)

pub if_or : (a b : Bool) → (if a then true else b) ≡ (b || a)
if_or true true = refl
if_or true false = refl
if_or false true = refl
if_or false false = refl

-- one number more
pub one_more : (names : Names) (apart : AreToldApart names.idents) (n m : ℕ) (i j : Identifier) → IsIdent names n i → IsIdent names m j → (old : Bool) → (if is_eq (nat_cmp m n) then true else old) ≡ (old || same_ident i j)
one_more names apart n m i j p q old =
    ap (λ (b : Bool). if b then true else old) (key_is m n ∙ sym (same_by_number names apart n m i j p q)) ∙ if_or (same_ident i j) old

pub or_none : (a : Bool) → a ≡ (a || false)
or_none true = refl
or_none false = refl

pub or_assoc : (a b c : Bool) → ((a || b) || c) ≡ (a || (b || c))
or_assoc true b c = refl
or_assoc false b c = refl

-- the value of a variable by its number
pub number_same : (names : Names) (apart : AreToldApart names.idents) (n m : ℕ) (i j : Identifier) → IsIdent names n i → IsIdent names m j → same_ident i j ≡ nat_eq m n
number_same names apart n m i j p q = same_by_number names apart n m i j p q
